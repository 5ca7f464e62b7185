-- One turn of the walk over the blocks of an open product.
use Rattle.std.proofs.Common.{◌≡◌, ℕ, zero, suc, ◌+◌, ◌-◌, ◌<◌, ◌≤◌, Bool, true, false, cond, not, ◌||◌, ltb, List, [], ◌∷◌, length, take, IfOk, Ok, Err, Result, sym, refl, ap, ◌∙◌, arith}
use Rattle.std.proofs.lemmas.Bool.{ltb-true, ltb-false, or_parts, not-false}
use Rattle.wire.specs.Blocks.{size, rest_of}
use Rattle.wire.specs.Steps.{◌>>=◌, refuse, blame}
use Rattle.wire.proofs.Passing.{passed, went_on, blameless}
use Rattle.books.specs.Books.{Meaning}
use Rattle.judging.specs.declared.blocks.Found.{Found}
use Rattle.judging.specs.declared.faults.BlockFault.{BlockFault}
use Rattle.judging.specs.declared.faults.BlockFault.TheVariants.{Leftover, TooManyBlocks}
use Rattle.judging.specs.declared.faults.ReceiptFault.{ReceiptFault}
use Rattle.judging.specs.declared.places.Phase.TheVariants.{Opened}
use Rattle.judging.specs.Blocks.{Judged, judged_in, found}
use Rattle.judging.specs.Faults.{located}
use Rattle.records.specs.Records.{Record}
use Rattle.products.specs.Receipts.{record_of, most_bytes, most_blocks, counted}
use Rattle.products.specs.Opens.{open_walk, open_receipt, passes}

-- what the walk tells at block k, from what is found of it; `next` takes what follows it
abbrev pub told : (ℕ → ℕ → ℕ → ℕ → List ℕ → Result (Unit {0}) ReceiptFault) → ℕ → ℕ → List ℕ → Result Found BlockFault → Result (Unit {0}) ReceiptFault
told next k at bs (Err f) = Err (located k at f)
told next k at bs (Ok x) = next k at (k + 1) (at + size x.head) (rest_of x.head bs)

passes_on : (w : Result (List Record) ReceiptFault) (r : Record) → passes (w >>= (λ rs. Ok (r ∷ rs))) ≡ passes w
passes_on (Ok rs) r = refl
passes_on (Err e) r = refl

turn_told : (M : Meaning) (n k at : ℕ) (bs : List ℕ) (j : Result Judged BlockFault)
    → passes (blame (located k at) j >>= (λ x. open_walk M n k at (k + 1) (at + size x.head) (rest_of x.head bs) >>= (λ rs. Ok (record_of x ∷ rs))))
    ≡ told (λ j since k at bs. passes (open_walk M n j since k at bs)) k at bs (found j)
turn_told M n k at bs (Ok x) = passes_on (open_walk M n k at (k + 1) (at + size x.head) (rest_of x.head bs)) (record_of x)
turn_told M n k at bs (Err f) = refl

-- the walk at block k of `all`
pub open_at : (M : Meaning) (all j since k at : ℕ) (bs : List ℕ) → k < all
    → passes (open_walk M (all - k) j since k at bs)
    ≡ cond (ltb k most_blocks) (told (λ j since k at bs. passes (open_walk M (all - k) j since k at bs)) k at bs (found (judged_in Opened M k bs))) (Err (located k at TooManyBlocks))
unfolding open_walk
open_at M all j since k at bs h =
    let n : all - k ≡ suc (all - (k + 1)) = omega arith in
    ap (λ m. passes (open_walk M m j since k at bs)) n ∙ by (ltb k most_blocks)
  where
    by : (b : Bool)
        → passes (refuse (not b) (located k at TooManyBlocks) >>= (λ _. blame (located k at) (judged_in Opened M k bs) >>= (λ x. open_walk M (all - (k + 1)) k at (k + 1) (at + size x.head) (rest_of x.head bs) >>= (λ rs. Ok (record_of x ∷ rs)))))
        ≡ cond b (told (λ j since k at bs. passes (open_walk M (all - k) j since k at bs)) k at bs (found (judged_in Opened M k bs))) (Err (located k at TooManyBlocks))
    by true = turn_told M (all - (k + 1)) k at bs (judged_in Opened M k bs)
    by false = refl

-- behind the last block
pub open_over : (M : Meaning) (n j since k at : ℕ) (bs : List ℕ) (b : Bool) → n ≡ 0 → ltb 0 (length bs) ≡ b → refuse b (located j since Leftover) ≡ passes (open_walk M n j since k at bs)
unfolding open_walk
open_over M n j since k at bs b e t = sym (ap (λ m. passes (open_walk M m j since k at bs)) e ∙ by (ltb 0 (length bs)) ∙ ap (λ u. refuse u (located j since Leftover)) t)
  where
    by : (b : Bool) → passes {A = List Record} (refuse b (located j since Leftover) >>= (λ _. Ok [])) ≡ refuse b (located j since Leftover)
    by true = refl
    by false = refl

-- ---- what an accepted open product tells
pub passed_by : {A E : Type 0} (w : Result A E) (r : Result (Unit {0}) E) (u : Unit {0}) → r ≡ passes w → r ≡ Ok u → (x : A) × (w ≡ Ok x)
passed_by (Ok x) r u e h = (x, refl)
passed_by (Err f) r u e h = absurd (let z : ◌≡◌ {A = ℕ} 0 1 = cc in omega arith)

open_few : (M : Meaning) (n j since k at : ℕ) (bs : List ℕ) (rs : List Record) → k ≤ most_blocks → open_walk M n j since k at bs ≡ Ok rs → k + n ≤ most_blocks
unfolding open_walk
open_few M zero j since k at bs rs l h = omega arith
open_few M (suc n) j since k at bs rs l h =
    let a = passed (not (ltb k most_blocks)) _ _ h in
    let b = went_on (blame (located k at) (judged_in Opened M k bs)) _ a.1 in
    let c = went_on (open_walk M n k at (k + 1) (at + size b.0.head) (rest_of b.0.head bs)) _ b.2 in
    let t = ltb-true k most_blocks (not-false _ a.0) in
    omega (arith, open_few M n k at (k + 1) (at + size b.0.head) (rest_of b.0.head bs) c.0 (omega arith) c.1)

-- its counts lie within their bounds
pub record Bounded (mem : List ℕ) (n blocks : ℕ) : Type 0 where
  pub within : n ≤ length mem
  pub short : n ≤ most_bytes
  pub few : blocks ≤ most_blocks

pub open_bounded : (M : Meaning) (mem : List ℕ) (n blocks : ℕ) (rs : List Record) → open_receipt M mem n blocks ≡ Ok rs → Bounded mem n blocks
unfolding open_receipt
open_bounded M mem n blocks rs h =
    let a = went_on (blame (located 0 0) (counted (length mem) n)) _ h in
    let c = passed (ltb (length mem) n || ltb most_bytes n) _ _ (blameless (located 0 0) _ a.1) in
    let parts = or_parts _ _ c.0 in
    record {
      within = ltb-false (length mem) n parts.0;
      short = ltb-false most_bytes n parts.1;
      few = omega (arith, open_few M blocks 0 0 0 0 (take n mem) rs (omega arith) a.2);
    }

pub made_bounded : (M : Meaning) (mem : List ℕ) (n blocks : ℕ) (r : Result (Unit {0}) ReceiptFault) → r ≡ passes (open_receipt M mem n blocks) → IfOk r (λ _. Bounded mem n blocks)
made_bounded M mem n blocks (Ok u) e = let p = passed_by (open_receipt M mem n blocks) (Ok u) u e refl in open_bounded M mem n blocks p.0 p.1
made_bounded M mem n blocks (Err f) e = tt
