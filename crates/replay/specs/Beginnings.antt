-- The first call of a life.
use Rattle.std.specs.Prelude.{ℕ, List, Ok, Err, vec_items, Result}
use Rattle.std.specs.List.{AllByRecursion}
use Rattle.wire.specs.Pairs.{Bytes}
use Rattle.books.specs.Books.{Meaning, Number}
use Rattle.judging.specs.declared.faults.ReceiptFault.{ReceiptFault}
use Rattle.judging.specs.declared.faults.Refusal.{Refusal}
use Rattle.products.specs.Receipts.{received}
use Rattle.products.specs.declared.closed.Closed.{Closed}
use Rattle.products.specs.declared.opened.Open.{Open}
use Rattle.products.specs.Answers.{memory_after, opened_by}
use Rattle.products.specs.Calls.{started}
use Rattle.replay.specs.declared.beginning.Beginning.{Beginning}
use Rattle.replay.specs.declared.beginning.Beginning.TheVariants.{Start, Receive}
use Rattle.replay.specs.declared.beginning.NotBegun.{NotBegun}
use Rattle.replay.specs.declared.beginning.NotBegun.TheVariants.{Start as NoStart, Receipt as NoReceipt}
use Rattle.replay.specs.declared.steps.State.{State}
use Rattle.replay.specs.declared.steps.State.TheVariants.{Opened, Shut}

abbrev pub state_started : Result Open Refusal → Result State NotBegun
state_started (Ok p) = Ok (Opened p)
state_started (Err e) = Err (NoStart e)

abbrev pub state_received : Result Closed ReceiptFault → Result State NotBegun
state_received (Ok p) = Ok (Shut p)
state_received (Err e) = Err (NoReceipt e)

abbrev pub begun : Meaning → List ℕ → Beginning → Result State NotBegun
begun M mem (Start o) = state_started (opened_by (started M mem o.closing o.form (vec_items o.numbers)))
begun M mem (Receive count) = state_received (received M mem count)

-- the memory after it
abbrev pub memory_begun : Meaning → List ℕ → Beginning → List ℕ
memory_begun M mem (Start o) = memory_after (started M mem o.closing o.form (vec_items o.numbers)) mem
memory_begun M mem (Receive count) = mem

-- numbers are of 32 bits and a memory is bytes, as their types have it
abbrev pub TypedBeginning : List ℕ → Beginning → Type 0
TypedBeginning mem (Start o) = AllByRecursion Number (vec_items o.numbers)
TypedBeginning mem (Receive count) = Bytes mem
