-- What an outcome leaves to the caller.
use Rattle.std.specs.Prelude.{◌≡◌, ℕ, List, Ok, Err, Result}
use Rattle.wire.specs.Steps.{blame}
use Rattle.books.specs.Books.{Meaning}
use Rattle.judging.specs.declared.faults.Refusal.{Refusal}
use Rattle.products.specs.declared.opened.Open.{Open}
use Rattle.products.specs.declared.closed.Closed.{Closed}
use Rattle.products.specs.declared.kept.Kept.{Kept}
use Rattle.products.specs.Calls.{Call, Stored, outcome}
use Rattle.products.specs.Opens.{passes}
use Rattle.products.specs.Products.{Product, as_open, as_closed}

-- the product and the memory after a call: a refusal leaves both
abbrev pub product_after : Result Stored Refusal → Product → Product
product_after (Ok x) p = x.product
product_after (Err e) p = p

abbrev pub memory_after : Result Stored Refusal → List ℕ → List ℕ
memory_after (Ok x) mem = x.memory
memory_after (Err e) mem = mem

-- what a call on an open product answers, and the product and the memory that it leaves
pub record Mends (M : Meaning) (mem : List ℕ) (p : Product) (c : Call) (result : Result (Unit {0}) Refusal) (p' : Product) (mem' : List ℕ) : Type 0 where
  pub answer : result ≡ passes (outcome M mem p c)
  pub product : p' ≡ product_after (outcome M mem p c) p
  pub after : mem' ≡ memory_after (outcome M mem p c) mem

-- the product that a call leaves, open or closed
abbrev pub opened_by : Result Stored Refusal → Result Open Refusal
opened_by (Ok x) = Ok (as_open x.product)
opened_by (Err e) = Err e

abbrev pub closed_by : Result Stored Refusal → Result Closed Refusal
closed_by (Ok x) = Ok (as_closed x.product)
closed_by (Err e) = Err e

-- the same, or the product handed back with the refusal
abbrev pub or_kept : {P Q : Type 0} → P → Result Q Refusal → Result Q (Kept P)
or_kept p r = blame (λ e. record { product = p; refusal = e }) r

abbrev pub shut_by : Result Stored Refusal → Open → Result Closed (Kept Open)
shut_by r p = or_kept p (closed_by r)

abbrev pub reopened_by : Result Stored Refusal → Closed → Result Open (Kept Closed)
reopened_by r p = or_kept p (opened_by r)
