-- Proofs, and no definitions: characters on a chart keep the laws of a kind.
use Rattle.std.specs.Prelude.{◌≡◌, ℕ, ◌%◌, ◌≤◌, true, ◌==◌, nat_le}
use Rattle.std.proofs.Common.{arith}
use Rattle.std.proofs.lemmas.Bool.{leb-true, eqb-true, and_parts}
use Rattle.books.specs.Books.{Agree}
use Rattle.cells.specs.Cells.{Sound}
use Rattle.cells.specs.CellLaws.{row_sound}
use Rattle.cells.specs.CodeLaws.{byte_upto_sound, signed_pair_sound, signed_byte_sound, flags_sound}
use Rattle.cells.specs.LayoutLaws.{layout_agree}
use Rattle.labels.specs.Labels.{head_cells, character, labels, labels_meaning}

pub head_sound : Sound labels.head
head_sound = row_sound head_cells (signed_pair_sound, (signed_pair_sound, (signed_byte_sound, (signed_byte_sound, (flags_sound, tt)))))

pub character_sound : Sound character
character_sound = byte_upto_sound 127 (omega arith)

pub odd_characters : (k : ℕ) → labels.many k ≡ true → (k % 2 ≡ 1) × (k ≤ 4085)
odd_characters k h = let p = and_parts (k % 2 == 1) (nat_le k 4085) h in (eqb-true _ _ p.0, leb-true _ _ p.1)

pub labels_lawful : Agree labels_meaning.reading labels_meaning.writing
labels_lawful = layout_agree labels head_sound character_sound record {
  some_bytes = omega arith;
  some_numbers = omega arith;
  even = λ k h. let b = odd_characters k h in omega arith;
  short = λ k h. let b = odd_characters k h in omega arith;
  few = λ k h. let b = odd_characters k h in omega arith;
}
