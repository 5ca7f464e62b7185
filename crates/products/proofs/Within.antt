-- An accepted count lies within the memory.
use Rattle.std.proofs.Common.{◌≡◌, ℕ, zero, suc, ◌+◌, ◌<◌, ◌≤◌, ◌||◌, ltb, List, length, take, IfOk, Ok, Err, Result, sym, refl, ap, subst, arith}
use Rattle.std.proofs.lemmas.Bool.{ltb-false, or_parts}
use Rattle.wire.specs.Blocks.{size, rest_of}
use Rattle.wire.specs.Steps.{blame}
use Rattle.wire.proofs.Passing.{passed, went_on, blameless}
use Rattle.books.specs.Books.{Meaning}
use Rattle.judging.specs.declared.faults.ReceiptFault.{ReceiptFault}
use Rattle.judging.specs.Faults.{located}
use Rattle.products.specs.declared.closed.Closed.{Closed}
use Rattle.products.specs.Receipts.{Received, counted, closed_walk, receipt, received, closed_as, most_bytes, most_blocks}
use Rattle.products.proofs.Turns.{ends, goes, turn_back, none_walked}

pub receipt_within : (M : Meaning) (mem : List ℕ) (n : ℕ) (x : Received) → receipt M mem n ≡ Ok x → n ≤ length mem
unfolding receipt
receipt_within M mem n x h =
    let p = went_on (blame (located 0 0) (counted (length mem) n)) _ h in
    let q = passed (ltb (length mem) n || ltb most_bytes n) _ _ (blameless (located 0 0) _ p.1) in
    ltb-false (length mem) n (or_parts _ _ q.0).0

as_within : (M : Meaning) (mem : List ℕ) (n : ℕ) (w : Result Received ReceiptFault) → receipt M mem n ≡ w → IfOk (closed_as n 0 w) (λ p. p.bytes ≤ length mem)
as_within M mem n (Ok x) e = receipt_within M mem n x e
as_within M mem n (Err f) e = tt

pub received_within : (M : Meaning) (mem : List ℕ) (n : ℕ) (r : Result Closed ReceiptFault) → r ≡ received M mem n → IfOk r (λ p. p.bytes ≤ length mem)
received_within M mem n r e = subst (λ r. IfOk r (λ p. p.bytes ≤ length mem)) (sym e) (as_within M mem n (receipt M mem n) refl)

-- ---- and its blocks are not too many
walk_few : (M : Meaning) (n k at : ℕ) (bs : List ℕ) (x : Received) → closed_walk M n k at bs ≡ Ok x → length x.records < n
walk_few M zero k at bs x h = absurd (none_walked M k at bs x h)
walk_few M (suc n) k at bs x h = elim (turn_back M n k at bs x h) [
  | ends y a e last is ↦ omega (arith, ap (λ z. length z.records) is)
  | goes y z a e w is ↦ omega (arith, ap (λ z. length z.records) is, walk_few M n (k + 1) (at + size y.head) (rest_of y.head bs) z w)
]

pub receipt_few : (M : Meaning) (mem : List ℕ) (n : ℕ) (x : Received) → receipt M mem n ≡ Ok x → length x.records < most_blocks
unfolding receipt
receipt_few M mem n x h =
    let p = went_on (blame (located 0 0) (counted (length mem) n)) _ h in
    walk_few M most_blocks 0 0 (take n mem) x p.2
