-- What one step makes of a product and its memory, what it is told, and which pairs it puts into a sink.
use Rattle.std.specs.Prelude.{◌≡◌, ℕ, Bool, true, false, cond, List, [], Ok, Err, vec_items, Result}
use Rattle.books.specs.Books.{Meaning, Number}
use Rattle.std.specs.List.{AllByRecursion}
use Rattle.judging.specs.declared.faults.Refusal.{Refusal}
use Rattle.judging.specs.declared.places.Phase.{Phase}
use Rattle.judging.specs.declared.places.Phase.TheVariants.{Opened, Shut}
use Rattle.products.specs.Products.{Product, as_closed}
use Rattle.products.specs.Calls.{Call, adds, replaces, withdraws, closes, reopens, wants, Stored, outcome}
use Rattle.sending.specs.Sending.{pairs_in, sending}
use Rattle.sinks.specs.Sinks.{Took}
use Rattle.products.specs.declared.tally.Tally.{Tally}
use Rattle.replay.specs.Entries.{entered}
use Rattle.replay.specs.declared.steps.Step.{Step}
use Rattle.replay.specs.declared.steps.Step.TheVariants.{Add, Replace, Withdraw, Close, Reopen, Send}
use Rattle.replay.specs.declared.steps.Told.{Told}
use Rattle.replay.specs.declared.steps.Told.TheVariants.{NotAllowed, Refused, Made, Sent}

-- what was told, the product and the memory after it, and the pairs that were put
pub record Outcome (T : Type 0) : Type 0 where
  pub told : T
  pub product : Product
  pub memory : List ℕ
  pub put : List ℕ

-- a step's outcome
abbrev pub Scene : Type 0
Scene = Outcome Told

-- the state of the product has no such call
abbrev pub passed_over : Product → List ℕ → Scene
passed_over p mem = record { told = NotAllowed; product = p; memory = mem; put = [] }

abbrev pub turned_down : Refusal → Product → List ℕ → Scene
turned_down e p mem = record { told = Refused e; product = p; memory = mem; put = [] }

-- what an answered call on a product that it leaves is told
abbrev pub told_of : Result (Unit {0}) Refusal → Tally → Told
told_of (Ok u) t = Made t.bytes t.blocks
told_of (Err e) t = Refused e

abbrev pub told_call : Result Stored Refusal → Product → List ℕ → Scene
told_call (Ok x) p mem = record { told = Made x.product.bytes x.product.blocks; product = x.product; memory = x.memory; put = [] }
told_call (Err e) p mem = turned_down e p mem

abbrev pub told_sending : Result ℕ Refusal → Product → List ℕ → Scene
told_sending (Ok n) p mem = record { told = Sent n; product = p; memory = mem; put = pairs_in mem (as_closed p) }
told_sending (Err e) p mem = turned_down e p mem

-- by cases, which compute as they stand: the equality that an enum derives is a test of the numbers of its variants
abbrev pub same_phase : Phase → Phase → Bool
same_phase Opened Opened = true
same_phase Opened Shut = false
same_phase Shut Opened = false
same_phase Shut Shut = true

abbrev pub calls : Meaning → Product → List ℕ → Call → Scene
calls M p mem c = cond (same_phase p.phase (wants c)) (told_call (outcome M mem p c) p mem) (passed_over p mem)

abbrev pub sends : Meaning → ℕ → Product → List ℕ → Scene
sends M room p mem = cond (same_phase p.phase Shut) (told_sending (sending M mem (as_closed p) room) p mem) (passed_over p mem)

-- a step on a product and its memory, with a sink that has so much room
abbrev pub played : Meaning → ℕ → Product → List ℕ → Step → Scene
played M room p mem (Add entry) = calls M p mem (adds (entered entry))
played M room p mem (Replace block entry) = calls M p mem (replaces block (entered entry))
played M room p mem (Withdraw block) = calls M p mem (withdraws block)
played M room p mem Close = calls M p mem closes
played M room p mem Reopen = calls M p mem reopens
played M room p mem Send = sends M room p mem

-- the numbers of a step are of 32 bits, as the type of its list has it
abbrev pub TypedOpen : Step → Type 0
TypedOpen (Add entry) = AllByRecursion Number (vec_items entry.numbers)
TypedOpen (Replace block entry) = AllByRecursion Number (vec_items entry.numbers)
TypedOpen (Withdraw block) = Unit {0}
TypedOpen Close = Unit {0}
TypedOpen Reopen = Unit {0}
TypedOpen Send = Unit {0}

-- told of the steps that an open product is put to
abbrev pub TypedIn : Phase → Step → Type 0
TypedIn Opened step = TypedOpen step
TypedIn Shut step = Unit {0}

-- a sink that took ps if they were sent, and else is as it was
abbrev pub Sunk : {S : Type 0} → (S → List ℕ) → (S → ℕ) → (S → List ℕ → S → Type 0) → S → List ℕ → S → Told → Type 0
Sunk taken room wrote s ps t (Sent n) = Took taken room wrote s ps t
Sunk taken room wrote s ps t NotAllowed = t ≡ s
Sunk taken room wrote s ps t (Refused e) = t ≡ s
Sunk taken room wrote s ps t (Made bytes blocks) = t ≡ s
