-- Plotted winds: what the data fields of mode 5 and submode 3 hold.
use Rattle.std.specs.Prelude.{ℕ, ◌&&◌, List, [], ◌∷◌, ℤ, pos, Ok, Result, nat_le, slice_index_or}
use Rattle.wire.specs.Steps.{◌>>=◌}
use Rattle.books.specs.declared.faults.FieldFault.{FieldFault}
use Rattle.kinds.specs.Kinds.{KindMeaning}
use Rattle.cells.specs.Cells.{Cell, row, byte, byte_upto, pair_upto, signed_pair, blanking}
use Rattle.cells.specs.Layouts.{Layout, layout_reading, layout_writing}
use Rattle.winds.specs.declared.barb.Barb.{Barb}

-- a barb: ten bytes and six numbers
abbrev pub barb_cells : List Cell
barb_cells =
    signed_pair  -- M
    ∷ signed_pair  -- N
    ∷ pair_upto 360  -- direction
    ∷ pair_upto 32767  -- speed
    ∷ byte  -- gust
    ∷ byte_upto 1  -- hemisphere
    ∷ []

abbrev pub barb : Cell
barb = row barb_cells

-- before the barbs: two bytes and two numbers
abbrev pub head_cells : List Cell
head_cells =
    byte  -- shaft length
    ∷ blanking
    ∷ []

-- 1 to 409 barbs
abbrev pub winds : Layout
winds = record {
  head = row head_cells;
  group = barb;
  many = λ barbs. nat_le 1 barbs && nat_le barbs 409;
}

abbrev pub winds_meaning : KindMeaning
winds_meaning = record { reading = layout_reading winds; writing = layout_writing winds }

-- ---- a barb as its six numbers, and six numbers as a barb
abbrev pub barb_numbers : Barb → List ℤ
barb_numbers b = b.m ∷ b.n ∷ b.direction ∷ b.speed ∷ b.gust ∷ b.hemisphere ∷ []

abbrev pub barb_of : List ℤ → Barb
barb_of l = record {
  m = slice_index_or l 0 (pos 0);
  n = slice_index_or l 1 (pos 0);
  direction = slice_index_or l 2 (pos 0);
  speed = slice_index_or l 3 (pos 0);
  gust = slice_index_or l 4 (pos 0);
  hemisphere = slice_index_or l 5 (pos 0);
}

abbrev pub barb_read : ℕ → List ℕ → Result Barb FieldFault
barb_read offset bytes = barb.reading offset bytes >>= λ l. Ok (barb_of l)
