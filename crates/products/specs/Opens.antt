-- What is read in an open product: as many blocks as it counts, and no end.
use Rattle.std.specs.Prelude.{ℕ, zero, suc, ◌+◌, not, List, [], ◌∷◌, length, take, Ok, Err, Result, nat_lt}
use Rattle.wire.specs.Blocks.{size, rest_of}
use Rattle.wire.specs.Steps.{◌>>=◌, refuse, blame}
use Rattle.books.specs.Books.{Meaning}
use Rattle.judging.specs.declared.faults.BlockFault.TheVariants.{Leftover, TooManyBlocks}
use Rattle.judging.specs.declared.faults.ReceiptFault.{ReceiptFault}
use Rattle.judging.specs.declared.places.Phase.TheVariants.{Opened}
use Rattle.judging.specs.Blocks.{judged_in}
use Rattle.judging.specs.Faults.{located}
use Rattle.records.specs.Records.{Record}
use Rattle.products.specs.Receipts.{record_of, most_blocks, counted}

-- the n blocks from block k on, which begins at byte `at`; bs are the bytes left, and the block before is block j at byte `since`
unfoldable pub open_walk : Meaning → ℕ → ℕ → ℕ → ℕ → ℕ → List ℕ → Result (List Record) ReceiptFault
open_walk M zero j since k at bs = do
  _ ← refuse (nat_lt 0 (length bs)) (located j since Leftover)
  Ok []
open_walk M (suc n) j since k at bs = do
  _ ← refuse (not (nat_lt k most_blocks)) (located k at TooManyBlocks)
  x ← blame (located k at) (judged_in Opened M k bs)
  rs ← open_walk M n k at (k + 1) (at + size x.head) (rest_of x.head bs)
  Ok (record_of x ∷ rs)

-- what is read in the first n bytes of a memory, in so many blocks
unfoldable pub open_receipt : Meaning → List ℕ → ℕ → ℕ → Result (List Record) ReceiptFault
open_receipt M mem n blocks = do
  _ ← blame (located 0 0) (counted (length mem) n)
  open_walk M blocks 0 0 0 0 (take n mem)

-- whether there is something to be read
abbrev pub passes : {A E : Type 0} → Result A E → Result (Unit {0}) E
passes (Ok x) = Ok tt
passes (Err e) = Err e
