-- Block j of an accepted product stands behind the j blocks before it, and says what was read there.
use Rattle.std.proofs.Common.{◌≡◌, ℕ, zero, suc, ◌+◌, ◌≤◌, true, List, [], length, take, drop, Ok, sym, refl, subst, arith}
use Rattle.std.proofs.lemmas.Bool.{eqb-true, and_parts}
use Rattle.wire.specs.Blocks.{size, rest_of}
use Rattle.wire.specs.Rows.{behind}
use Rattle.wire.specs.Steps.{blame}
use Rattle.wire.proofs.Coding.{extent_is}
use Rattle.wire.proofs.Passing.{went_on}
use Rattle.books.specs.Books.{Meaning}
use Rattle.judging.specs.Blocks.{Judged}
use Rattle.judging.specs.Faults.{located}
use Rattle.judging.specs.Places.{is_end}
use Rattle.judging.proofs.Judged.{Accepted}
use Rattle.records.specs.Records.{Record}
use Rattle.products.specs.Receipts.{Received, record_of, before, closed_walk, counted, receipt, most_blocks}
use Rattle.products.specs.Closings.{end_record, block_record}
use Rattle.products.proofs.Turns.{ends, goes, turn_back, none_walked}

-- block k in front of bs is judged, and says r
pub record Stands (M : Meaning) (k : ℕ) (bs : List ℕ) (r : Record) : Type 0 where
  pub block : Judged
  pub accepted : Accepted M k bs block
  pub says : record_of block ≡ r

at_end : (M : Meaning) (k : ℕ) (bs : List ℕ) (x : Judged) → Accepted M k bs x → is_end x.head.modes.mode x.head.modes.submode ≡ true → Stands M k bs (end_record x.head.form)
at_end M k bs x a e =
    let m = and_parts _ _ e in
    let mode : x.head.modes.mode ≡ 1 = eqb-true _ _ m.0 in
    let sub : x.head.modes.submode ≡ 2 = eqb-true _ _ m.1 in
    let none = a.end_empty e in
    record { block = x; accepted = a; says = λ i. record { form = x.head.form; mode = mode i; submode = sub i; numbers = none i } }

-- block j from block k on is block i of the product
Reached : Meaning → ℕ → ℕ → List ℕ → Received → Type 0
Reached M n k bs y = (j i : ℕ) → k + j ≡ i → j ≤ length y.records → Stands M i (behind j bs) (block_record y j)

last_reached : (M : Meaning) (n k : ℕ) (bs : List ℕ) (x : Judged) → Accepted M k bs x → is_end x.head.modes.mode x.head.modes.submode ≡ true
    → Reached M n k bs (record { records = []; close = x.head.form })
unfolding Reached behind
last_reached M n k bs x a e zero i s l = subst (λ i. Stands M i bs (end_record x.head.form)) (omega arith) (at_end M k bs x a e)
last_reached M n k bs x a e (suc j) i s l = absurd (omega arith)

more_reached : (M : Meaning) (n k : ℕ) (bs : List ℕ) (x : Judged) (z : Received) → Accepted M k bs x
    → Reached M n (k + 1) (rest_of x.head bs) z → Reached M (suc n) k bs (before (record_of x) z)
unfolding Reached behind
more_reached M n k bs x z a r zero i s l = subst (λ i. Stands M i bs (record_of x)) (omega arith) (record { block = x; accepted = a; says = refl })
more_reached M n k bs x z a r (suc j) i s l =
    subst (λ n. Stands M i (behind j (drop n bs)) (block_record z j)) (sym (extent_is bs x.head a.head)) (r j i (omega arith) (omega arith))

reached : (M : Meaning) (n k at : ℕ) (bs : List ℕ) (y : Received) → closed_walk M n k at bs ≡ Ok y → Reached M n k bs y
reached M zero k at bs y h = absurd (none_walked M k at bs y h)
reached M (suc n) k at bs y h = elim (turn_back M n k at bs y h) [
  | ends x a e last is ↦ subst (Reached M (suc n) k bs) is (last_reached M (suc n) k bs x a e)
  | goes x z a e w is ↦ subst (Reached M (suc n) k bs) is (more_reached M n k bs x z a (reached M n (k + 1) (at + size x.head) (rest_of x.head bs) z w))
]

-- each block of a received product
pub receipt_stands : (M : Meaning) (mem : List ℕ) (n : ℕ) (y : Received) → receipt M mem n ≡ Ok y → (k : ℕ) → k ≤ length y.records → Stands M k (behind k (take n mem)) (block_record y k)
unfolding receipt Reached
receipt_stands M mem n y h k l =
    let w = went_on (blame (located 0 0) (counted (length mem) n)) _ h in
    reached M most_blocks 0 0 (take n mem) y w.2 k k (omega arith) l
