-- What the sending of a closed product answers.
use Rattle.std.specs.Prelude.{ℕ, List, length, take, Ok, Result, nat_lt}
use Rattle.wire.specs.Pairs.{pairs}
use Rattle.wire.specs.Steps.{◌>>=◌, refuse}
use Rattle.books.specs.Books.{Meaning}
use Rattle.judging.specs.declared.faults.Refusal.{Refusal}
use Rattle.judging.specs.declared.faults.Refusal.TheVariants.{SinkFull}
use Rattle.products.specs.declared.closed.Closed.{Closed}
use Rattle.products.specs.Holding.{held}

-- all pairs of a product
abbrev pub pairs_in : List ℕ → Closed → List ℕ
pairs_in mem p = pairs (take p.bytes mem)

-- their number, where the sink has space for so many
unfoldable pub sending : Meaning → List ℕ → Closed → ℕ → Result ℕ Refusal
sending M mem p room = do
  _ ← held M mem p
  _ ← refuse (nat_lt room (length (pairs_in mem p))) SinkFull
  Ok (length (pairs_in mem p))
