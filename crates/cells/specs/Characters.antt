-- Characters of seven bits: which a byte or a number is, and how a row of them is put in a place.
use Rattle.std.specs.Prelude.{ℕ, cond, List, [], ◌∷◌, ℤ, pos, negsuc, Some, None, Option, nat_le, unwrap_or}

-- the highest character
abbrev pub top_character : ℕ
top_character = 127

-- a byte as a character: none above the highest
abbrev pub byte_character : ℕ → Option ℕ
byte_character b = cond (nat_le b top_character) (Some b) None

-- a number as a character: none below 0 or above the highest
abbrev pub number_character : ℤ → Option ℕ
number_character (pos n) = byte_character n
number_character (negsuc n) = None

-- each character over the byte at its place; what is no character leaves the byte
abbrev pub put_over : List (Option ℕ) → List ℕ → List ℕ
put_over [] place = place
put_over (c ∷ cs) [] = []
put_over (c ∷ cs) (b ∷ place) = unwrap_or c b ∷ put_over cs place
