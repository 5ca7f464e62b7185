-- Proofs, and no definitions: plotted winds keep the laws of a kind.
use Rattle.std.specs.Prelude.{◌≡◌, ℕ, ◌≤◌, true, nat_le}
use Rattle.std.proofs.Common.{arith}
use Rattle.std.proofs.lemmas.Bool.{leb-true, and_parts}
use Rattle.books.specs.Books.{Agree}
use Rattle.cells.specs.Cells.{Sound}
use Rattle.cells.specs.CellLaws.{row_sound}
use Rattle.cells.specs.CodeLaws.{byte_sound, byte_upto_sound, pair_upto_sound, signed_pair_sound, blanking_sound}
use Rattle.cells.specs.LayoutLaws.{layout_agree}
use Rattle.winds.specs.Winds.{barb_cells, barb, head_cells, winds, winds_meaning}

pub head_sound : Sound winds.head
head_sound = row_sound head_cells (byte_sound, (blanking_sound, tt))

pub barb_sound : Sound barb
barb_sound = row_sound barb_cells (signed_pair_sound, (signed_pair_sound, (pair_upto_sound 360 (omega arith), (pair_upto_sound 32767 (omega arith), (byte_sound, (byte_upto_sound 1 (omega arith), tt))))))

pub few_barbs : (k : ℕ) → winds.many k ≡ true → (1 ≤ k) × (k ≤ 409)
few_barbs k h = let p = and_parts (nat_le 1 k) (nat_le k 409) h in (leb-true _ _ p.0, leb-true _ _ p.1)

pub winds_lawful : Agree winds_meaning.reading winds_meaning.writing
winds_lawful = layout_agree winds head_sound barb_sound record {
  some_bytes = omega arith;
  some_numbers = omega arith;
  even = λ k h. omega arith;
  short = λ k h. let b = few_barbs k h in omega arith;
  few = λ k h. let b = few_barbs k h in omega arith;
}
