-- Bytes in pairs.
use Rattle.std.specs.Prelude.{ℕ, ◌+◌, ◌*◌, ◌/◌, ◌%◌, ◌<◌, List, [], ◌∷◌}
use Rattle.std.specs.List.{AllByRecursion}

abbrev pub Byte : ℕ → Type 0
Byte b = b < 256

abbrev pub Bytes : List ℕ → Type 0
Bytes bs = AllByRecursion Byte bs

-- what two bytes are worth
abbrev pub pair : ℕ → ℕ → ℕ
pair left right = 256 * left + right

-- the two bytes of a pair
abbrev pub pair_bytes : ℕ → List ℕ
pair_bytes p = p / 256 ∷ p % 256 ∷ []

-- the pairs of a row of bytes; a last byte alone is none
abbrev pub pairs : List ℕ → List ℕ
pairs [] = []
pairs (a ∷ []) = []
pairs (a ∷ b ∷ bs) = pair a b ∷ pairs bs

abbrev pub total : List ℕ → ℕ
total [] = 0
total (p ∷ ps) = p + total ps

-- the sum of all pairs; carries past 16 bits are dropped
unfoldable pub pair_sum : List ℕ → ℕ
pair_sum bs = total (pairs bs) % 65536
