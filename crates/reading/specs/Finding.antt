-- What the call finds behind k blocks. In a product that is held these are the facts of block k.
use Rattle.std.specs.Prelude.{ℕ, ◌+◌, List, length, Ok, Result}
use Rattle.wire.specs.Blocks.{field_end}
use Rattle.wire.specs.Classes.{class_of}
use Rattle.wire.specs.Rows.{behind, start_of}
use Rattle.wire.specs.Steps.{◌>>=◌, blame}
use Rattle.books.specs.Books.{Meaning}
use Rattle.judging.specs.declared.faults.ReceiptFault.{ReceiptFault}
use Rattle.judging.specs.Blocks.{Judged, judged_block}
use Rattle.judging.specs.Faults.{located}
use Rattle.reading.specs.declared.facts.Facts.{Facts}

abbrev pub judged_facts : ℕ → Judged → Facts
judged_facts at x = record {
  at = at;
  form = x.head.form;
  modes = x.head.modes;
  class = class_of x.head.modes.mode x.head.modes.submode;
  field = record { from = at + 4; to = at + field_end x.head };
  numbers = length x.numbers;
}

unfoldable pub found_block : Meaning → ℕ → List ℕ → Result Facts ReceiptFault
found_block M k bs = do
  x ← blame (located k (start_of k bs)) (judged_block M k (behind k bs))
  Ok (judged_facts (start_of k bs) x)
