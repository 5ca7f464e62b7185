-- Lengths, and the checks of the characters.
use Rattle.std.proofs.Common.{◌≡◌, ℕ, ◌+◌, ◌-◌, ◌<◌, ◌≤◌, Bool, true, false, List, [], ◌∷◌, map, length, drop, ℤ, pos, negsuc, not, is_some, Ok, Option, Result, refl, arith}
use Rattle.std.specs.Prelude.{nat_le}
use Rattle.std.specs.List.{position_from}
use Rattle.std.proofs.lemmas.List.{drop-map, length-drop}
use Rattle.wire.specs.Steps.{◌>>=◌}
use Rattle.books.specs.declared.faults.Rule.{Rule}
use Rattle.books.specs.declared.faults.Rule.TheVariants.{NumberRange, ByteRange}
use Rattle.books.specs.declared.faults.FieldFault.{FieldFault}
use Rattle.books.specs.Faults.{refuse_at}
use Rattle.cells.specs.Cells.{turns, checked, or_fault}
use Rattle.cells.specs.Characters.{byte_character, number_character}
use Rattle.cells.specs.CodeLaws.{found}
use Rattle.cells.specs.Layouts.{fitted}
use Rattle.cells.specs.LayoutLaws.{fitted_parts}
use Rattle.cells.proofs.Turning.{checked_turn}
use Rattle.labels.specs.Labels.{labels, character, characters_checked}
use Rattle.labels.specs.LabelLaws.{odd_characters}

-- ---- lengths
pub counted_length : (rule : Rule) (n k : ℕ) → or_fault rule n (fitted labels.many 7 1 n) ≡ Ok k → (7 < n) × (n ≤ 4092) × (k ≡ n - 7)
counted_length rule n k h =
    let p = fitted_parts labels.many 7 1 n k (found rule n _ k h) in
    let o = odd_characters k p.1 in
    (omega arith, omega arith, omega arith)

-- ---- each in turn is a character
abbrev none : Option ℕ → Bool
none c = not (is_some c)

one_byte : (at b : ℕ) (cs : List (Option ℕ)) (r : Result (Unit {0}) FieldFault) → refuse_at ByteRange (position_from none (at + 1) cs) ≡ r → refuse_at ByteRange (position_from none at (byte_character b ∷ cs)) ≡ (checked (character.reading at (b ∷ [])) >>= λ _. r)
one_byte at b cs r h = go (nat_le b 127) refl
  where
    go : (t : Bool) → nat_le b 127 ≡ t → refuse_at ByteRange (position_from none at (byte_character b ∷ cs)) ≡ (checked (character.reading at (b ∷ [])) >>= λ _. r)
    go true e = rw e h
    go false e = rw e refl

one_number : (at : ℕ) (z : ℤ) (cs : List (Option ℕ)) (r : Result (Unit {0}) FieldFault) → refuse_at NumberRange (position_from none (at + 1) cs) ≡ r → refuse_at NumberRange (position_from none at (number_character z ∷ cs)) ≡ (checked (character.writing at (z ∷ [])) >>= λ _. r)
one_number at (negsuc n) cs r h = refl
one_number at (pos n) cs r h = go (nat_le n 127) refl
  where
    go : (t : Bool) → nat_le n 127 ≡ t → refuse_at NumberRange (position_from none at (byte_character n ∷ cs)) ≡ (checked (character.writing at (pos n ∷ [])) >>= λ _. r)
    go true e = rw e h
    go false e = rw e refl

bytes_checked : (at : ℕ) (field : List ℕ) → refuse_at ByteRange (position_from none at (map byte_character field)) ≡ checked (turns (length field) 1 character.reading at field)
bytes_checked at [] = refl
bytes_checked at (b ∷ field) =
    let t = checked_turn 1 character.reading (turns (length field) 1 character.reading) at (b ∷ field) in
    rw t (one_byte at b (map byte_character field) _ (bytes_checked (at + 1) field))

numbers_checked : (at : ℕ) (list : List ℤ) → refuse_at NumberRange (position_from none at (map number_character list)) ≡ checked (turns (length list) 1 character.writing at list)
numbers_checked at [] = refl
numbers_checked at (z ∷ list) =
    let t = checked_turn 1 character.writing (turns (length list) 1 character.writing) at (z ∷ list) in
    rw t (one_number at z (map number_character list) _ (numbers_checked (at + 1) list))

-- the characters of a field and of a list, which stand from place 7 on
pub field_characters : (field : List ℕ) → characters_checked ByteRange (map byte_character field) ≡ checked (turns (length field - 7) 1 character.reading 7 (drop 7 field))
field_characters field = let d = drop-map byte_character 7 field in let n = length-drop 7 field in let e = bytes_checked 7 (drop 7 field) in rw d (rw n at e)

pub list_characters : (list : List ℤ) → characters_checked NumberRange (map number_character list) ≡ checked (turns (length list - 7) 1 character.writing 7 (drop 7 list))
list_characters list = let d = drop-map number_character 7 list in let n = length-drop 7 list in let e = numbers_checked 7 (drop 7 list) in rw d (rw n at e)
