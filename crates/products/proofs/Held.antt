-- What a held product tells.
use Rattle.std.proofs.Common.{◌≡◌, ℕ, suc, ◌*◌, ◌<◌, ◌≤◌, not, ◌||◌, eqb, List, [], length, take, IfOk, Ok, Err, Result, sym, refl, ap, ◌∙◌, subst, arith}
use Rattle.std.proofs.lemmas.List.{length-append, length-take}
use Rattle.std.proofs.lemmas.Bool.{eqb-true, or_parts, not-false}
use Rattle.wire.specs.declared.forms.Form.{Form}
use Rattle.wire.specs.declared.forms.Form.TheVariants.{Checksummed, LengthOnly}
use Rattle.wire.specs.Forms.{form_number, fewest_pairs}
use Rattle.wire.specs.Rows.{behind}
use Rattle.wire.specs.Steps.{◌>>=◌, blame}
use Rattle.wire.proofs.Coding.{block_length}
use Rattle.wire.proofs.Passing.{passed, went_on, blameless, same_ok}
use Rattle.books.specs.Books.{Meaning}
use Rattle.judging.specs.declared.faults.ReceiptFault.{ReceiptFault}
use Rattle.judging.specs.declared.faults.Refusal.{Refusal}
use Rattle.judging.specs.declared.faults.Refusal.TheVariants.{NotHeld}
use Rattle.products.specs.Receipts.{Received, receipt, closed_as, most_blocks}
use Rattle.products.specs.Closings.{end_of, blocks_of, block_record, AsWritten}
use Rattle.products.proofs.Standing.{Stands, receipt_stands}
use Rattle.products.proofs.Within.{receipt_within, receipt_few}
use Rattle.products.specs.Opens.{passes}
use Rattle.products.proofs.Opening.{passed_by}
use Rattle.products.specs.declared.closed.Closed.{Closed}
use Rattle.products.specs.Holding.{held, is_held}

-- the bytes of an end
pub end_length : (f : Form) → length (end_of f) ≡ 2 * fewest_pairs f
end_length f = block_length f 1 2 [] refl ∙ omega arith

pub record Held (M : Meaning) (mem : List ℕ) (p : Closed) (x : Received) : Type 0 where
  pub received : receipt M mem p.bytes ≡ Ok x
  pub count : suc (length x.records) ≡ p.blocks
  pub close : form_number x.close ≡ form_number p.close

pub held_back : (M : Meaning) (mem : List ℕ) (p : Closed) (x : Received) → held M mem p ≡ Ok x → Held M mem p x
unfolding held
held_back M mem p x h =
    let q = went_on (blame NotHeld (receipt M mem p.bytes)) _ h in
    let c = passed (not (eqb (suc (length q.0.records)) p.blocks) || not (eqb (form_number q.0.close) (form_number p.close))) _ _ q.2 in
    let parts = or_parts _ _ c.0 in
    subst (Held M mem p) (same_ok c.1)
    (record { received = blameless NotHeld _ q.1; count = eqb-true _ _ (not-false _ parts.0); close = eqb-true _ _ (not-false _ parts.1) })

same_form : (f g : Form) → form_number f ≡ form_number g → f ≡ g
same_form Checksummed Checksummed e = refl
same_form Checksummed LengthOnly e = absurd (omega arith)
same_form LengthOnly Checksummed e = absurd (omega arith)
same_form LengthOnly LengthOnly e = refl

-- the closing form is that of the end that was read
pub held_close : (M : Meaning) (mem : List ℕ) (p : Closed) (x : Received) → held M mem p ≡ Ok x → x.close ≡ p.close
held_close M mem p x h = same_form x.close p.close (held_back M mem p x h).close

-- a product that is received has as many bytes as were counted
as_counted : (w : Result Received ReceiptFault) (n : ℕ) (q : Closed) → Ok q ≡ closed_as n 0 w → q.bytes ≡ n
as_counted (Ok x) n q e = ap (λ k. k.bytes) (same_ok e)
as_counted (Err f) n q e = let z : ◌≡◌ {A = ℕ} 0 1 = cc in absurd (omega arith)

-- the end lies within the bytes
pub held_ended : (M : Meaning) (mem : List ℕ) (p : Closed) (x : Received) → held M mem p ≡ Ok x → (q : Closed) → Ok q ≡ closed_as p.bytes 0 (receipt M mem p.bytes) → AsWritten M mem q → length (end_of p.close) ≤ p.bytes
held_ended M mem p x h q e w =
    let n : q.bytes ≡ p.bytes = as_counted (receipt M mem p.bytes) p.bytes q e in
    let same : w.0 ≡ x = same_ok (sym w.1 ∙ ap (receipt M mem) n ∙ (held_back M mem p x h).received) in
    let close = ap (λ y. y.close) same ∙ held_close M mem p x h in
    let whole = ap length w.2 ∙ length-append (blocks_of M w.0.records) (end_of w.0.close) in
    let taken = length-take q.bytes mem in
    omega (arith, n, whole, taken, ap (λ f. length (end_of f)) close)

-- its blocks are not too many
pub held_few : (M : Meaning) (mem : List ℕ) (p : Closed) (x : Received) → held M mem p ≡ Ok x → p.blocks ≤ most_blocks
held_few M mem p x h = let b = held_back M mem p x h in omega (arith, b.count, receipt_few M mem p.bytes x b.received)

-- block k of a held product
pub held_stands : (M : Meaning) (mem : List ℕ) (p : Closed) (x : Received) → held M mem p ≡ Ok x → (k : ℕ) → k < p.blocks → Stands M k (behind k (take p.bytes mem)) (block_record x k)
held_stands M mem p x h k l = let b = held_back M mem p x h in receipt_stands M mem p.bytes x b.received k (omega (arith, b.count))

-- whether it is held
all_pass : {A E : Type 0} (w : Result A E) → (w >>= (λ _. Ok tt)) ≡ passes w
all_pass (Ok x) = refl
all_pass (Err e) = refl

pub is_held_passes : (M : Meaning) (mem : List ℕ) (p : Closed) → is_held M mem p ≡ passes (held M mem p)
is_held_passes M mem p = all_pass (held M mem p)

pub is_held_within : (M : Meaning) (mem : List ℕ) (p : Closed) (r : Result (Unit {0}) Refusal) → r ≡ is_held M mem p → IfOk r (λ _. p.bytes ≤ length mem)
is_held_within M mem p (Ok u) e = let q = passed_by (held M mem p) (Ok u) u (e ∙ is_held_passes M mem p) refl in receipt_within M mem p.bytes q.0 (held_back M mem p q.0 q.1).received
is_held_within M mem p (Err f) e = tt
