-- From the first call of a life to the life.
use Rattle.std.proofs.Common.{◌≡◌, ℕ, false, not, List, ℤ, is_some, Ok, Err, vec_items, Result, sym, refl, ap, ◌∙◌}
use Rattle.std.specs.List.{AllByRecursion}
use Rattle.wire.specs.Pairs.{Bytes}
use Rattle.wire.specs.Forms.{form_of}
use Rattle.wire.specs.Steps.{◌>>=◌}
use Rattle.wire.proofs.Passing.{passed, went_on, same_ok}
use Rattle.books.specs.Books.{Meaning, Lawful, Number}
use Rattle.judging.specs.declared.faults.ReceiptFault.{ReceiptFault}
use Rattle.judging.specs.declared.faults.Refusal.{Refusal}
use Rattle.judging.specs.declared.faults.Refusal.TheVariants.{NoSuchForm}
use Rattle.judging.specs.declared.places.Phase.TheVariants.{Opened}
use Rattle.records.specs.Records.{Record, gives, given_form, block_of}
use Rattle.records.specs.Drafts.{drafted}
use Rattle.products.specs.Receipts.{Received, receipt, closed_as}
use Rattle.products.specs.Answers.{memory_after, opened_by}
use Rattle.products.specs.Calls.{Content, content, roomy, Stored, stored, started}
use Rattle.products.specs.Products.{as_open}
use Rattle.lives.specs.Lives.{starts, receives, begins}
use Rattle.lives.proofs.Living.{one_life}
use Rattle.replay.specs.declared.beginning.Beginning.{Beginning}
use Rattle.replay.specs.declared.beginning.Beginning.TheVariants.{Start, Receive}
use Rattle.replay.specs.declared.steps.State.{State}
use Rattle.replay.specs.declared.steps.State.TheVariants.{Opened as OpenState, Shut as ShutState}
use Rattle.replay.specs.Beginnings.{state_started, state_received, begun, memory_begun, TypedBeginning}
use Rattle.replay.specs.Replays.{in_phase, Lived}
use Rattle.replay.specs.States.{product_in}

-- a state is its product in that phase
pub state_is : (r : State) → in_phase (product_in r).phase (product_in r) ≡ r
state_is (OpenState p) = refl
state_is (ShutState p) = refl

phase_started : (M : Meaning) (mem : List ℕ) (closing form : ℕ) (list : List ℤ) (x : Stored) → started M mem closing form list ≡ Ok x → x.product.phase ≡ Opened
unfolding started
phase_started M mem closing form list x h =
    let F = given_form closing in
    let last : Content → Result Stored Refusal = λ y. Ok (stored Opened F y 0 mem) in
    let next : Record → Result Stored Refusal = λ r. roomy mem F (content (block_of M r) 1) >>= last in
    let a = passed (not (is_some (form_of closing))) NoSuchForm (λ _. drafted M 0 false (gives form 1 1 list) >>= next) h in
    let b = went_on (drafted M 0 false (gives form 1 1 list)) next a.1 in
    let d = went_on (roomy mem F (content (block_of M b.0) 1)) last b.2 in
    sym (ap (λ s. s.product.phase) (same_ok d.2))

module _ {S : Type 0} (taken : S → List ℕ) (room : S → ℕ) (M : Meaning) (L : Lawful M) (s : S) (mem : List ℕ) where
  lived_start : (closing form : ℕ) (list : List ℤ) → AllByRecursion Number list → (w : Result Stored Refusal) → started M mem closing form list ≡ w → (state : State) → Ok state ≡ state_started (opened_by w)
      → Lived taken room M s (product_in state) (memory_after w mem) s
  lived_start closing form list known (Ok x) h state e =
      let life = begins (starts mem closing form list x known h) in
      let phase = phase_started M mem closing form list x h in
      let is : state ≡ OpenState (as_open x.product) = same_ok e in
      let product : x.product ≡ product_in (OpenState (as_open x.product)) = (λ i. record { phase = phase i; bytes = x.product.bytes; blocks = x.product.blocks; close = x.product.close }) in
      record { world = _; life = life; product_is = product ∙ ap product_in (sym is); memory_is = refl; sink_is = refl; law = one_life taken room M L s _ life }
  lived_start closing form list known (Err r) h state e = absurd (cc)

  lived_receive : (n : ℕ) → Bytes mem → (w : Result Received ReceiptFault) → receipt M mem n ≡ w → (state : State) → Ok state ≡ state_received (closed_as n 0 w)
      → Lived taken room M s (product_in state) mem s
  lived_receive n known (Ok x) h state e =
      let life = begins (receives mem n x _ known h (ap (λ u. closed_as n 0 u) h)) in
      record { world = _; life = life; product_is = ap product_in (sym (same_ok e)); memory_is = refl; sink_is = refl; law = one_life taken room M L s _ life }
  lived_receive n known (Err r) h state e = absurd (cc)

  pub begun_lived : (b : Beginning) (state : State) → TypedBeginning mem b → Ok state ≡ begun M mem b → Lived taken room M s (product_in state) (memory_begun M mem b) s
  begun_lived (Start o) state known e = lived_start o.closing o.form (vec_items o.numbers) known _ refl state e
  begun_lived (Receive n) state known e = lived_receive n known _ refl state e
