-- The receipt of a product: what is read in it, or why it is turned down.
use Rattle.std.specs.Prelude.{ℕ, zero, suc, ◌+◌, ◌%◌, cond, not, ◌||◌, List, [], ◌∷◌, length, take, Ok, Err, Result, ◌==◌, nat_lt}
use Rattle.wire.specs.declared.blocks.Head.{Head}
use Rattle.wire.specs.declared.forms.Form.{Form}
use Rattle.wire.specs.Blocks.{size, rest_of}
use Rattle.wire.specs.Steps.{◌>>=◌, refuse, blame}
use Rattle.books.specs.Books.{Meaning}
use Rattle.judging.specs.declared.faults.BlockFault.{BlockFault}
use Rattle.judging.specs.declared.faults.BlockFault.TheVariants.{Count, OddCount, Leftover, TooManyBlocks}
use Rattle.judging.specs.declared.faults.ReceiptFault.{ReceiptFault}
use Rattle.judging.specs.Blocks.{Judged, judged_block}
use Rattle.judging.specs.Faults.{located}
use Rattle.judging.specs.Places.{is_end}
use Rattle.records.specs.Records.{Record}
use Rattle.products.specs.declared.closed.Closed.{Closed}

-- the limits of a product
abbrev pub most_bytes : ℕ
most_bytes = 65536

abbrev pub most_blocks : ℕ
most_blocks = 1024

abbrev pub record_of : Judged → Record
record_of x = record { form = x.head.form; mode = x.head.modes.mode; submode = x.head.modes.submode; numbers = x.numbers }

-- what a product says: the records of its blocks without the end, and the form of the end
pub record Received : Type 0 where
  pub records : List Record
  pub close : Form

abbrev pub before : Record → Received → Received
before r x = record { records = r ∷ x.records; close = x.close }

-- the end as block k at byte `at`, in front of bs
abbrev pub ended : ℕ → ℕ → List ℕ → Head → Result Received ReceiptFault
ended k at bs h = do
  _ ← refuse (nat_lt (size h) (length bs)) (located k at Leftover)
  Ok (record { records = []; close = h.form })

-- from block k on, found in front of bs; `walk` takes what follows it
abbrev pub onward : (ℕ → ℕ → List ℕ → Result Received ReceiptFault) → ℕ → ℕ → List ℕ → Judged → Result Received ReceiptFault
onward walk k at bs x =
    cond (is_end x.head.modes.mode x.head.modes.submode) (ended k at bs x.head) (do
      y ← walk (k + 1) (at + size x.head) (rest_of x.head bs)
      Ok (before (record_of x) y))

-- the blocks from block k on, which begins at byte `at`; at most n may come, and bs are the bytes left
unfoldable pub closed_walk : Meaning → ℕ → ℕ → ℕ → List ℕ → Result Received ReceiptFault
closed_walk M zero k at bs = Err (located k at TooManyBlocks)
closed_walk M (suc n) k at bs = do
  x ← blame (located k at) (judged_block M k bs)
  onward (closed_walk M n) k at bs x

-- the count by itself, in a memory of `size` bytes
abbrev pub counted : ℕ → ℕ → Result (Unit {0}) BlockFault
counted size n = do
  _ ← refuse (nat_lt size n || nat_lt most_bytes n) Count
  refuse (not (n % 2 == 0)) OddCount

-- what is read in the first n bytes of a memory
unfoldable pub receipt : Meaning → List ℕ → ℕ → Result Received ReceiptFault
receipt M mem n = do
  _ ← blame (located 0 0) (counted (length mem) n)
  closed_walk M most_blocks 0 0 (take n mem)

-- the product of n bytes in which x was read behind k other blocks
abbrev pub closed_as : ℕ → ℕ → Result Received ReceiptFault → Result Closed ReceiptFault
closed_as n k (Ok x) = Ok (record { bytes = n; blocks = k + suc (length x.records); close = x.close })
closed_as n k (Err e) = Err e

-- the product that receipt gives
abbrev pub received : Meaning → List ℕ → ℕ → Result Closed ReceiptFault
received M mem n = closed_as n 0 (receipt M mem n)
