-- Characters on a chart: what the data fields of mode 5 and submode 1 hold.
use Rattle.std.specs.Prelude.{ℕ, ◌%◌, ◌&&◌, not, List, [], ◌∷◌, take, drop, Ok, Err, Option, Result, ◌==◌, nat_le, is_some}
use Rattle.std.specs.List.{position_from}
use Rattle.books.specs.declared.faults.Rule.{Rule}
use Rattle.books.specs.declared.faults.FieldFault.{FieldFault}
use Rattle.books.specs.Books.{Writing}
use Rattle.books.specs.Faults.{refuse_at}
use Rattle.kinds.specs.Kinds.{KindMeaning}
use Rattle.cells.specs.Cells.{Cell, row, byte_upto, signed_pair, signed_byte, flags}
use Rattle.cells.specs.Layouts.{Layout, layout_reading, layout_writing}

-- before the characters: seven bytes and seven numbers
abbrev pub head_cells : List Cell
head_cells =
    signed_pair  -- M
    ∷ signed_pair  -- N
    ∷ signed_byte  -- delta M
    ∷ signed_byte  -- delta N
    ∷ flags  -- B, R and the character size
    ∷ []

abbrev pub character : Cell
character = byte_upto 127

-- an odd number of characters, up to 4,085
abbrev pub labels : Layout
labels = record {
  head = row head_cells;
  group = character;
  many = λ characters. (characters % 2 == 1) && nat_le characters 4085;
}

abbrev pub labels_meaning : KindMeaning
labels_meaning = record { reading = layout_reading labels; writing = layout_writing labels }

-- the bytes before the characters, of a list that is written
abbrev pub written_head : Writing → Writing
written_head (Ok field) = Ok (take 7 field)
written_head (Err f) = Err f

-- turned down at the first of the characters, which stand from place 7 on, that is none
abbrev pub characters_checked : Rule → List (Option ℕ) → Result (Unit {0}) FieldFault
characters_checked range cs = refuse_at range (position_from (λ c. not (is_some c)) 7 (drop 7 cs))
