-- What a call leaves, from its outcome.
use Rattle.std.proofs.Common.{◌≡◌, ℕ, ◌+◌, ◌-◌, List, length, take, Ok, Err, Result, sym, ap, ◌∙◌, ap₂, arith}
use Rattle.memory.specs.Laid.{spliced, rewritten}
use Rattle.memory.proofs.Lays.{length_spliced}
use Rattle.books.specs.Books.{Meaning}
use Rattle.judging.specs.declared.faults.Refusal.{Refusal}
use Rattle.products.specs.Opens.{passes}
use Rattle.products.specs.declared.opened.Open.{Open}
use Rattle.products.specs.declared.closed.Closed.{Closed}
use Rattle.products.specs.Answers.{product_after, memory_after, opened_by, closed_by}
use Rattle.products.specs.Calls.{Call, closes, reopens, Stored, leads_to, outcome}
use Rattle.products.specs.Products.{Product, of_open, of_closed}
use Rattle.products.specs.Plans.{Planned}

-- ---- a refusal
pub refused_back : {A E : Type 0} (w : Result A E) (e : E) → Err e ≡ passes w → w ≡ Err e
refused_back (Ok x) e h = absurd (let z : ◌≡◌ {A = ℕ} 0 1 = cc in omega arith)
refused_back (Err f) e h = cc

pub product_kept : (w : Result Stored Refusal) (p : Product) (e : Refusal) → Err e ≡ passes w → p ≡ product_after w p
product_kept w p e h = sym (ap (λ u. product_after u p) (refused_back w e h))

pub memory_kept : (w : Result Stored Refusal) (mem : List ℕ) (e : Refusal) → Err e ≡ passes w → mem ≡ memory_after w mem
memory_kept w mem e h = sym (ap (λ u. memory_after u mem) (refused_back w e h))

-- ---- an accepted call
module _ (M : Meaning) (mem : List ℕ) (p : Product) (c : Call) (x : List ℕ) (a b n : ℕ) (P : Planned M mem p c x a b n) where
  pub accepted : Ok tt ≡ passes (outcome M mem p c)
  accepted = sym (ap passes P.result)

  pub product_left : (m : ℕ) → m ≡ (p.bytes - (b - a)) + length x → record { phase = leads_to c; bytes = m; blocks = n; close = p.close } ≡ product_after (outcome M mem p c) p
  product_left m e =
      ap (λ j. record { phase = leads_to c; bytes = j; blocks = n; close = p.close }) (e ∙ sym (length_spliced mem p.bytes a b P.forward P.inside P.within x))
      ∙ sym (ap (λ u. product_after u p) P.result)

  pub memory_left : (after : List ℕ) → after ≡ rewritten (spliced a b x (take p.bytes mem)) p.bytes mem → after ≡ memory_after (outcome M mem p c) mem
  memory_left after e = e ∙ sym (ap (λ u. memory_after u mem) P.result)

-- the product in its other type
module _ (M : Meaning) (mem : List ℕ) (p : Open) (x : List ℕ) (a b n : ℕ) (P : Planned M mem (of_open p) closes x a b n) where
  pub shut_left : (m : ℕ) → m ≡ (p.bytes - (b - a)) + length x → (k : ℕ) → k ≡ n → Ok (record { bytes = m; blocks = k; close = p.close }) ≡ closed_by (outcome M mem (of_open p) closes)
  shut_left m e k f =
      ap₂ (λ i j. Ok (record { bytes = i; blocks = j; close = p.close })) (e ∙ sym (length_spliced mem p.bytes a b P.forward P.inside P.within x)) f
      ∙ sym (ap closed_by P.result)

module _ (M : Meaning) (mem : List ℕ) (p : Closed) (x : List ℕ) (a b n : ℕ) (P : Planned M mem (of_closed p) reopens x a b n) where
  pub reopened_left : (m : ℕ) → m ≡ (p.bytes - (b - a)) + length x → Ok (record { bytes = m; blocks = n; close = p.close }) ≡ opened_by (outcome M mem (of_closed p) reopens)
  reopened_left m e =
      ap (λ i. Ok (record { bytes = i; blocks = n; close = p.close })) (e ∙ sym (length_spliced mem p.bytes a b P.forward P.inside P.within x))
      ∙ sym (ap opened_by P.result)
