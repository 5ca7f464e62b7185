-- One turn of the walk over the blocks.
use Rattle.std.proofs.Common.{◌≡◌, ℕ, zero, suc, ◌+◌, ◌-◌, ◌<◌, ◌≤◌, Bool, true, false, cond, ltb, List, [], length, Ok, Err, Result, sym, refl, ap, ◌∙◌, inl, inr, arith}
use Rattle.std.proofs.lemmas.Bool.{ltb-false, cond-true, cond-false, cases_Bool}
use Rattle.wire.specs.Steps.{◌>>=◌, blame}
use Rattle.wire.specs.Blocks.{size, rest_of}
use Rattle.wire.proofs.Passing.{passed, went_on, blameless, same_ok}
use Rattle.books.specs.Books.{Meaning}
use Rattle.judging.specs.declared.faults.BlockFault.{BlockFault}
use Rattle.judging.specs.declared.faults.BlockFault.TheVariants.{TooManyBlocks}
use Rattle.judging.specs.declared.faults.ReceiptFault.{ReceiptFault}
use Rattle.judging.specs.declared.blocks.Found.{Found}
use Rattle.judging.specs.Blocks.{Judged, judged_block, found}
use Rattle.judging.specs.Faults.{located}
use Rattle.judging.specs.Places.{is_end}
use Rattle.judging.proofs.Judged.{Accepted, judged_back}
use Rattle.products.specs.declared.closed.Closed.{Closed}
use Rattle.records.specs.Records.{Record}
use Rattle.products.specs.Receipts.{Received, before, record_of, ended, onward, closed_walk, closed_as}

-- what the walk tells behind k blocks, from what is found of block k; `next` takes what follows it
abbrev pub told : (ℕ → ℕ → List ℕ → Result Closed ReceiptFault) → ℕ → ℕ → ℕ → List ℕ → Result Found BlockFault → Result Closed ReceiptFault
told next total k at bs (Err f) = Err (located k at f)
told next total k at bs (Ok x) =
    cond (is_end x.head.modes.mode x.head.modes.submode) (closed_as total k (ended k at bs x.head))
    (next (k + 1) (at + size x.head) (rest_of x.head bs))

deeper : (total k : ℕ) (r : Record) (w : Result Received ReceiptFault) → closed_as total k (w >>= (λ y. Ok (before r y))) ≡ closed_as total (k + 1) w
deeper total k r (Ok y) = ap (λ n. Ok (record { bytes = total; blocks = n; close = y.close })) (omega arith)
deeper total k r (Err e) = refl

turn : (b : Bool) (total k : ℕ) (r : Record) (e w : Result Received ReceiptFault)
    → closed_as total k (cond b e (w >>= (λ y. Ok (before r y)))) ≡ cond b (closed_as total k e) (closed_as total (k + 1) w)
turn true total k r e w = refl
turn false total k r e w = deeper total k r w

walk_told : (M : Meaning) (total n k at : ℕ) (bs : List ℕ) (j : Result Judged BlockFault)
    → closed_as total k (blame (located k at) j >>= onward (closed_walk M n) k at bs) ≡ told (λ k at bs. closed_as total k (closed_walk M n k at bs)) total k at bs (found j)
walk_told M total n k at bs (Ok x) = turn (is_end x.head.modes.mode x.head.modes.submode) total k (record_of x) (ended k at bs x.head) (closed_walk M n (k + 1) (at + size x.head) (rest_of x.head bs))
walk_told M total n k at bs (Err f) = refl

pub walk_over : (M : Meaning) (total n k at : ℕ) (bs : List ℕ) → n ≡ 0 → closed_as total k (closed_walk M n k at bs) ≡ Err (located k at TooManyBlocks)
unfolding closed_walk
walk_over M total n k at bs e = ap (λ j. closed_as total k (closed_walk M j k at bs)) e

-- the walk at block k, where at most `most` may come
pub walk_at : (M : Meaning) (total most k at : ℕ) (bs : List ℕ) → k < most
    → closed_as total k (closed_walk M (most - k) k at bs) ≡ told (λ k at bs. closed_as total k (closed_walk M (most - k) k at bs)) total k at bs (found (judged_block M k bs))
unfolding closed_walk
walk_at M total most k at bs h =
    let n : most - k ≡ suc (most - (k + 1)) = omega arith in
    ap (λ j. closed_as total k (closed_walk M j k at bs)) n ∙ walk_told M total (most - (k + 1)) k at bs (judged_block M k bs)

-- ---- an accepted walk, turn by turn: block k is the end, or z follows it
pub data Turn (M : Meaning) (n k at : ℕ) (bs : List ℕ) (y : Received) : Type 0 where
  ends : (x : Judged) → Accepted M k bs x → is_end x.head.modes.mode x.head.modes.submode ≡ true → length bs ≤ size x.head
      → record { records = []; close = x.head.form } ≡ y → Turn M n k at bs y
  goes : (x : Judged) (z : Received) → Accepted M k bs x → is_end x.head.modes.mode x.head.modes.submode ≡ false
      → closed_walk M n (k + 1) (at + size x.head) (rest_of x.head bs) ≡ Ok z → before (record_of x) z ≡ y → Turn M n k at bs y

pub turn_back : (M : Meaning) (n k at : ℕ) (bs : List ℕ) (y : Received) → closed_walk M (suc n) k at bs ≡ Ok y → Turn M n k at bs y
unfolding closed_walk
turn_back M n k at bs y h =
    let p = went_on (blame (located k at) (judged_block M k bs)) _ h in
    let x = p.0 in
    let a = judged_back M k bs x (blameless (located k at) _ p.1) in
    elim (cases_Bool (is_end x.head.modes.mode x.head.modes.submode)) [
      | inl e ↦
          let q = passed (ltb (size x.head) (length bs)) _ _ (sym (cond-true _ _ _ e) ∙ p.2) in
          ends x a e (ltb-false _ _ q.0) (same_ok q.1)
      | inr e ↦
          let q = went_on (closed_walk M n (k + 1) (at + size x.head) (rest_of x.head bs)) _ (sym (cond-false _ _ _ e) ∙ p.2) in
          goes x q.0 a e q.1 (same_ok q.2)
    ]

pub none_walked : (M : Meaning) (k at : ℕ) (bs : List ℕ) (y : Received) → closed_walk M zero k at bs ≡ Ok y → ⊥
unfolding closed_walk
none_walked M k at bs y h = let z : ◌≡◌ {A = ℕ} 0 1 = cc in omega arith
