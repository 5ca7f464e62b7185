-- Blocks in a row, each as long as its LENGTH says.
use Rattle.std.specs.Prelude.{ℕ, zero, suc, ◌-◌, ◌*◌, ◌%◌, List, [], ◌∷◌, length, drop}
use Rattle.wire.specs.Pairs.{pair}

-- the bytes that the block in front takes, by its first pair alone
abbrev pub extent : List ℕ → ℕ
extent [] = 0
extent (a ∷ []) = 0
extent (a ∷ b ∷ bs) = 2 * (pair a b % 16384)

-- what lies behind the first k blocks
unfoldable pub behind : ℕ → List ℕ → List ℕ
behind zero bs = bs
behind (suc k) bs = behind k (drop (extent bs) bs)

-- where block k begins
abbrev pub start_of : ℕ → List ℕ → ℕ
start_of k bs = length bs - length (behind k bs)
