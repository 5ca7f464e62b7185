-- What a closed product tells of one of its blocks.
use Rattle.std.specs.Prelude.{ℕ, suc, ◌+◌, ◌-◌, ◌*◌, not, List, length, take, Ok, Result, nat_lt}
use Rattle.wire.specs.Classes.{class_of}
use Rattle.wire.specs.Forms.{checksum_pairs}
use Rattle.wire.specs.Rows.{start_of}
use Rattle.wire.specs.Steps.{◌>>=◌, refuse}
use Rattle.books.specs.Books.{Meaning}
use Rattle.judging.specs.declared.faults.Refusal.{Refusal}
use Rattle.judging.specs.declared.faults.Refusal.TheVariants.{NoSuchBlock}
use Rattle.products.specs.declared.closed.Closed.{Closed}
use Rattle.products.specs.Holding.{held}
use Rattle.products.specs.Closings.{block_record}
use Rattle.records.specs.Records.{Record}
use Rattle.reading.specs.declared.facts.Facts.{Facts}

-- of block k of the bytes bs, which says r: its data field lies between the mode pair and the CHECKSUM, or the next block
abbrev pub facts_of : List ℕ → ℕ → Record → Facts
facts_of bs k r = record {
  at = start_of k bs;
  form = r.form;
  modes = record { mode = r.mode; submode = r.submode };
  class = class_of r.mode r.submode;
  field = record { from = start_of k bs + 4; to = start_of (suc k) bs - 2 * checksum_pairs r.form };
  numbers = length r.numbers;
}

abbrev pub told_facts : Meaning → List ℕ → Closed → ℕ → Result Facts Refusal
told_facts M mem p k = do
  x ← held M mem p
  _ ← refuse (not (nat_lt k p.blocks)) NoSuchBlock
  Ok (facts_of (take p.bytes mem) k (block_record x k))
