-- One writing: what holds of every life of a product, under every book that keeps the laws, with every sink.
use Rattle.std.specs.Prelude.{◌≡◌, ℕ, ◌≢◌, ◌↔◌, List, ◌++◌, length, Ok, Err}
use Rattle.std.specs.List.{flat_map, AllByRecursion}
use Rattle.wire.specs.declared.forms.Form.{Form}
use Rattle.wire.specs.Pairs.{pairs}
use Rattle.books.specs.Books.{Meaning, Lawful}
use Rattle.judging.specs.declared.faults.ReceiptFault.{ReceiptFault}
use Rattle.judging.specs.declared.faults.Refusal.TheVariants.{NotHeld}
use Rattle.judging.specs.declared.places.Phase.{Phase}
use Rattle.judging.specs.declared.places.Phase.TheVariants.{Opened, Shut}
use Rattle.records.specs.Records.{Record}
use Rattle.products.specs.Receipts.{receipt}
use Rattle.products.specs.Closings.{blocks_of, end_of}
use Rattle.products.specs.Products.{as_closed}
use Rattle.products.specs.Calls.{Call, wants, outcome}
use Rattle.sending.specs.Sending.{sending}
use Rattle.lives.specs.Lives.{World, bytes_now, Life}

-- the one writing of records: their blocks in order, and while the product is closed then the end in the closing form
abbrev pub writing : Meaning → Phase → Form → List Record → List ℕ
writing M Opened close rs = blocks_of M rs
writing M Shut close rs = blocks_of M rs ++ end_of close

-- what holds of one life, which began at the sink s and has come to w
pub record OneLife {S : Type 0} (taken : S → List ℕ) (M : Meaning) (s : S) (w : World S) : Type 0 where
  -- the product's bytes are the writing of the records left
  pub written : bytes_now w ≡ writing M w.product.phase w.close w.left
  -- the memory always holds it: no call is turned down by 16
  pub held : (c : Call) → w.product.phase ≡ wants c → (e : ReceiptFault) → outcome M w.memory w.product c ≢ Err (NotHeld e)
  pub held_sending : (room : ℕ) → w.product.phase ≡ Shut → (e : ReceiptFault) → sending M w.memory (as_closed w.product) room ≢ Err (NotHeld e)
  -- the sink holds what it first held, then for each accepted sending all pairs of the product as it stood; it told their number
  pub sink_holds : taken w.sink ≡ taken s ++ flat_map (λ x. pairs x.stood) w.sent
  pub told : AllByRecursion (λ x. x.told ≡ length (pairs x.stood)) w.sent
  -- each product sent, as a memory of its bytes alone, is received again as the records and the closing form then left
  pub received_again : AllByRecursion (λ x. receipt M x.stood (length x.stood) ≡ Ok (record { records = x.left; close = x.close })) w.sent

-- what holds of every life with a sink of one sort, and of every two closed products, whose sinks may be of two sorts
pub record OneWritingUnder {S T : Type 0} (taken : S → List ℕ) (room : S → ℕ) (taken' : T → List ℕ) (room' : T → ℕ) (M : Meaning) : Type 0 where
  pub each : (s : S) (w : World S) → Life taken room M s w → OneLife taken M s w
  -- equal bytes exactly when equal records and closing form
  pub equal_bytes : (s : S) (t : T) (w : World S) (v : World T) → Life taken room M s w → Life taken' room' M t v
      → w.product.phase ≡ Shut → v.product.phase ≡ Shut
      → (bytes_now w ≡ bytes_now v) ↔ ((w.left ≡ v.left) × (w.close ≡ v.close))

abbrev pub OneWriting : {S T : Type 0} → (S → List ℕ) → (S → ℕ) → (T → List ℕ) → (T → ℕ) → Type 0
OneWriting taken room taken' room' = (M : Meaning) → Lawful M → OneWritingUnder taken room taken' room' M
