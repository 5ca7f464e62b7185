-- The calls on a product: what turns each down, and the product and the memory after it.
use Rattle.std.specs.Prelude.{ℕ, suc, ◌+◌, ◌-◌, min, Bool, false, not, ◌||◌, List, [], ◌++◌, length, take, ℤ, is_some, Ok, Result, ◌==◌, nat_lt}
use Rattle.wire.specs.declared.forms.Form.{Form}
use Rattle.wire.specs.Forms.{form_of}
use Rattle.wire.specs.Rows.{start_of}
use Rattle.wire.specs.Steps.{◌>>=◌, refuse}
use Rattle.memory.specs.Laid.{spliced, rewritten}
use Rattle.books.specs.Books.{Meaning}
use Rattle.judging.specs.declared.faults.BlockFault.TheVariants.{Misplaced}
use Rattle.judging.specs.declared.faults.Refusal.{Refusal}
use Rattle.judging.specs.declared.faults.Refusal.TheVariants.{Block, NoSuchForm, NoSuchBlock, NoMoreBlocks, NoRoom}
use Rattle.judging.specs.declared.places.Phase.{Phase}
use Rattle.judging.specs.declared.places.Phase.TheVariants.{Opened, Shut}
use Rattle.judging.specs.Places.{is_identification, is_end, misplaced}
use Rattle.records.specs.Records.{Given, gives, given_form, block_of}
use Rattle.records.specs.Drafts.{drafted}
use Rattle.products.specs.Receipts.{most_bytes, most_blocks}
use Rattle.products.specs.Closings.{end_of}
use Rattle.products.specs.Products.{Product}
use Rattle.products.specs.Holding.{holds}

-- what may be asked of a product that there is
pub data Call : Type 0 where
  adds : Given → Call
  replaces : ℕ → Given → Call
  withdraws : ℕ → Call
  closes : Call
  reopens : Call

-- the phase in which a call can be made, and the one in which it leaves the product
abbrev pub wants : Call → Phase
wants (adds g) = Opened
wants (replaces k g) = Opened
wants (withdraws k) = Opened
wants closes = Opened
wants reopens = Shut

abbrev pub leads_to : Call → Phase
leads_to (adds g) = Opened
leads_to (replaces k g) = Opened
leads_to (withdraws k) = Opened
leads_to closes = Shut
leads_to reopens = Opened

-- the bytes of a product, and the number of its blocks
pub record Content : Type 0 where
  pub bytes : List ℕ
  pub blocks : ℕ

abbrev pub content : List ℕ → ℕ → Content
content bytes blocks = record { bytes = bytes; blocks = blocks }

-- the most bytes that a product may have in a memory
abbrev pub limit : List ℕ → ℕ
limit mem = min (length mem) most_bytes

-- so many bytes leave no place for the end
abbrev pub crowded : List ℕ → Form → ℕ → Bool
crowded mem form n = nat_lt (limit mem) (n + length (end_of form))

-- so much content, where it leaves a place for the end
abbrev pub roomy : List ℕ → Form → Content → Result Content Refusal
roomy mem form x = do
  _ ← refuse (crowded mem form (length x.bytes)) NoRoom
  Ok x

-- what may not be added, and what may not stand in the place of block k
abbrev pub bars_adding : ℕ → ℕ → Bool
bars_adding mode submode = is_identification mode submode || is_end mode submode

abbrev pub bars_replacing : ℕ → ℕ → ℕ → Bool
bars_replacing k mode submode = misplaced k mode submode || is_end mode submode

-- what a call makes of a product that is held, with that closing form, n blocks and the bytes bs
unfoldable pub mended : Meaning → List ℕ → Form → ℕ → List ℕ → Call → Result Content Refusal
mended M mem form n bs (adds g) = do
  r ← drafted M n (bars_adding g.mode g.submode) g
  _ ← refuse (not (nat_lt n (most_blocks - 1))) NoMoreBlocks
  roomy mem form (content (bs ++ block_of M r) (suc n))
mended M mem form n bs (replaces k g) = do
  _ ← refuse (not (nat_lt k n)) NoSuchBlock
  r ← drafted M k (bars_replacing k g.mode g.submode) g
  roomy mem form (content (spliced (start_of k bs) (start_of (suc k) bs) (block_of M r) bs) n)
mended M mem form n bs (withdraws k) = do
  _ ← refuse (not (nat_lt k n)) NoSuchBlock
  _ ← refuse (k == 0) (Block Misplaced)
  Ok (content (spliced (start_of k bs) (start_of (suc k) bs) [] bs) (n - 1))
mended M mem form n bs closes = do
  _ ← roomy mem form (content bs n)
  Ok (content (bs ++ end_of form) (suc n))
mended M mem form n bs reopens = Ok (content (take (length bs - length (end_of form)) bs) (n - 1))

-- a product and the memory that holds it
pub record Stored : Type 0 where
  pub product : Product
  pub memory : List ℕ

-- the content in the place of the first `old` bytes of a memory
abbrev pub stored : Phase → Form → Content → ℕ → List ℕ → Stored
stored phase form x old mem = record {
  product = record { phase = phase; bytes = length x.bytes; blocks = x.blocks; close = form };
  memory = rewritten x.bytes old mem;
}

-- a call's outcome: its refusal, which leaves product and memory as they were, or the product and the memory after it
unfoldable pub outcome : Meaning → List ℕ → Product → Call → Result Stored Refusal
outcome M mem p c = do
  _ ← holds M mem p
  x ← mended M mem p.close p.blocks (take p.bytes mem) c
  Ok (stored (leads_to c) p.close x p.bytes mem)

-- the start of a product, with its closing form, and the form and the list of its identification
unfoldable pub started : Meaning → List ℕ → ℕ → ℕ → List ℤ → Result Stored Refusal
started M mem closing form list = do
  _ ← refuse (not (is_some (form_of closing))) NoSuchForm
  r ← drafted M 0 false (gives form 1 1 list)
  x ← roomy mem (given_form closing) (content (block_of M r) 1)
  Ok (stored Opened (given_form closing) x 0 mem)
