-- From a call that gives a product in its other type to what its step is told.
use Rattle.std.proofs.Common.{◌≡◌, ℕ, List, [], take, Ok, Err, Result, sym, refl, ap}
use Rattle.wire.proofs.Passing.{went_on, same_ok}
use Rattle.books.specs.Books.{Meaning}
use Rattle.judging.specs.declared.faults.Refusal.{Refusal}
use Rattle.judging.specs.declared.places.Phase.TheVariants.{Opened, Shut}
use Rattle.products.specs.declared.opened.Open.{Open}
use Rattle.products.specs.declared.closed.Closed.{Closed}
use Rattle.products.specs.Answers.{memory_after, shut_by, reopened_by}
use Rattle.products.specs.Calls.{Call, closes, reopens, leads_to, mended, Stored, outcome}
use Rattle.products.specs.Holding.{holds}
use Rattle.products.specs.Products.{Product, of_open, of_closed}
use Rattle.replay.specs.declared.steps.Told.TheVariants.{Made}
use Rattle.replay.specs.Steps.{Scene, told_call}

-- a product that was made, and the memory after it
abbrev pub made : Product → List ℕ → Scene
made q after = record { told = Made q.bytes q.blocks; product = q; memory = after; put = [] }

led : (M : Meaning) (mem : List ℕ) (p : Product) (c : Call) (x : Stored) → outcome M mem p c ≡ Ok x → x.product.phase ≡ leads_to c
unfolding outcome
led M mem p c x h =
    let a = went_on (holds M mem p) _ h in
    let b = went_on (mended M mem p.close p.blocks (take p.bytes mem) c) _ a.2 in
    sym (ap (λ y. y.product.phase) (same_ok b.2))

-- the numbers of a product are the product, in the phase that it has
in_its_phase : (p q : Product) (mem after : List ℕ) (x : Stored) → x.product.phase ≡ q.phase → q.bytes ≡ x.product.bytes → q.blocks ≡ x.product.blocks → q.close ≡ x.product.close → after ≡ x.memory
    → made q after ≡ told_call (Ok x) p mem
in_its_phase p q mem after x e f g h k =
    λ i. record {
      told = Made (f i) (g i);
      product = record { phase = sym e i; bytes = f i; blocks = g i; close = h i };
      memory = k i;
      put = [];
    }

shut_scene : (w : Result Stored Refusal) (p : Open) (q : Closed) (mem after : List ℕ) → ((x : Stored) → w ≡ Ok x → x.product.phase ≡ Shut) → Ok q ≡ shut_by w p → after ≡ memory_after w mem
    → made (of_closed q) after ≡ told_call w (of_open p) mem
shut_scene (Ok x) p q mem after phase e h =
    let same = same_ok e in
    in_its_phase (of_open p) (of_closed q) mem after x (phase x refl) (ap (λ r. r.bytes) same) (ap (λ r. r.blocks) same) (ap (λ r. r.close) same) h
shut_scene (Err r) p q mem after phase e h = absurd (cc)

pub shut_told : (M : Meaning) (p : Open) (q : Closed) (mem after : List ℕ) → Ok q ≡ shut_by (outcome M mem (of_open p) closes) p → after ≡ memory_after (outcome M mem (of_open p) closes) mem
    → made (of_closed q) after ≡ told_call (outcome M mem (of_open p) closes) (of_open p) mem
shut_told M p q mem after = shut_scene (outcome M mem (of_open p) closes) p q mem after (λ x. led M mem (of_open p) closes x)

open_scene : (w : Result Stored Refusal) (p : Closed) (q : Open) (mem after : List ℕ) → ((x : Stored) → w ≡ Ok x → x.product.phase ≡ Opened) → Ok q ≡ reopened_by w p → after ≡ memory_after w mem
    → made (of_open q) after ≡ told_call w (of_closed p) mem
open_scene (Ok x) p q mem after phase e h =
    let same = same_ok e in
    in_its_phase (of_closed p) (of_open q) mem after x (phase x refl) (ap (λ r. r.bytes) same) (ap (λ r. r.blocks) same) (ap (λ r. r.close) same) h
open_scene (Err r) p q mem after phase e h = absurd (cc)

pub open_told : (M : Meaning) (p : Closed) (q : Open) (mem after : List ℕ) → Ok q ≡ reopened_by (outcome M mem (of_closed p) reopens) p → after ≡ memory_after (outcome M mem (of_closed p) reopens) mem
    → made (of_open q) after ≡ told_call (outcome M mem (of_closed p) reopens) (of_closed p) mem
open_told M p q mem after = open_scene (outcome M mem (of_closed p) reopens) p q mem after (λ x. led M mem (of_closed p) reopens x)
