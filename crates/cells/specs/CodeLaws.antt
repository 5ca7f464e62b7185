-- Proofs, and no definitions: the cells of the blocks are sound.
use Rattle.std.specs.Prelude.{◌≡◌, ℕ, zero, suc, ◌+◌, ◌*◌, ◌/◌, ◌%◌, ◌<◌, ◌≤◌, Bool, true, false, cond, leb, List, [], ◌∷◌, length, ℤ, pos, negsuc, Some, None, Ok, Option, ◌==◌, nat_le, slice_index, unsigned_abs, refl}
use Rattle.std.proofs.Common.{ap, ◌∙◌, ⊎_elim, arith}
use Rattle.std.specs.List.{AllByRecursion}
use Rattle.std.proofs.lemmas.Bool.{cases_Bool, ltb-true, leb-true, le-leb, eqb-true}
use Rattle.wire.specs.Pairs.{Bytes, pair, pair_bytes}
use Rattle.wire.proofs.Passing.{went_on}
use Rattle.books.specs.declared.faults.Rule.{Rule}
use Rattle.books.specs.declared.faults.Rule.TheVariants.{NumberRange, ByteRange}
use Rattle.books.specs.Books.{Number}
use Rattle.books.specs.Words.{within}
use Rattle.books.specs.WordLaws.{within_top}
use Rattle.cells.specs.Signs.{signed, unsigned, in_half, byte_half, pair_half}
use Rattle.cells.specs.SignLaws.{signed_unsigned, unsigned_signed, unsigned_less}
use Rattle.cells.specs.Cells.{Sound, Code, Faithful, upto, twos, bit_seven, or_fault, in_byte, in_pair, byte, byte_upto, pair_upto, signed_pair, signed_byte, blanking, flag_numbers, flag_worth, flags}

-- ---- what a test and a search that succeed tell
pub tested : {A : Type 0} (b : Bool) (x y : A) → cond {A = Option A} b (Some x) None ≡ Some y → (b ≡ true) × (x ≡ y)
tested true x y h = (refl, cc)
tested false x y h = let z : ◌≡◌ {A = ℕ} 0 1 = cc in absurd (omega arith)

pub found : {A : Type 0} (rule : Rule) (place : ℕ) (o : Option A) (x : A) → or_fault rule place o ≡ Ok x → o ≡ Some x
found rule place (Some a) x h = cc
found rule place None x h = let z : ◌≡◌ {A = ℕ} 0 1 = cc in absurd (omega arith)

-- ---- the codes
pub upto_faithful : (top limit : ℕ) → top < limit → limit ≤ 65536 → Faithful limit (upto top)
upto_faithful top limit l m = record {
  forth = λ z n h.
      let t = tested (within top z) (unsigned_abs z) n h in
      let w = within_top top z t.0 in
      let e = t.1 in
      let u : leb n top ≡ true = le-leb _ _ (omega arith) in
      (omega arith, rw (u, ← e, ← w.0));
  back = λ n z k h.
      let t = tested (nat_le n top) (pos n) z h in
      let e = t.1 in
      let u = leb-true n top t.0 in
      let f : Number (pos n) = record { sfits = omega arith } in
      (rw e at f, rw (← e, t.0));
}

half_number : (half : ℕ) (z : ℤ) → half ≤ 32768 → in_half half z ≡ true → Number z
half_number half (pos n) m h = record { sfits = omega (arith, ltb-true n half h) }
half_number half (negsuc n) m h = record { sfits = omega (arith, ltb-true n half h) }

pub twos_faithful : (half : ℕ) → half ≤ 32768 → Faithful (2 * half) (twos half)
twos_faithful half m = record {
  forth = λ z n h.
      let t = tested (in_half half z) (unsigned half z) n h in
      let e = t.1 in
      (rw e at (unsigned_less half z t.0), ap Some (rw e at (signed_unsigned half z t.0)));
  back = λ n z k h.
      let e : signed half n ≡ z = cc in
      let u = unsigned_signed half n k in
      let b : in_half half z ≡ true = rw e at u.1 in
      let v : unsigned half z ≡ n = rw e at u.0 in
      (half_number half z m b, rw (b, v));
}

pub bit_seven_faithful : Faithful 256 bit_seven
bit_seven_faithful = record {
  forth = λ z n h.
      let t = tested (within 1 z) (128 * unsigned_abs z) n h in
      let w = within_top 1 z t.0 in
      go z n t.1 w.1 w.0;
  back = λ n z k h. ⊎_elim (λ e. zero_bit n z h (eqb-true n 0 e)) (λ e. one_bit n z h e) (cases_Bool (n == 0));
}
  where
    go : (z : ℤ) (n : ℕ) → 128 * unsigned_abs z ≡ n → unsigned_abs z ≤ 1 → z ≡ pos (unsigned_abs z) → (n < 256) × (bit_seven.number n ≡ Some z)
    go (pos zero) n e l w = rw (← e) (omega arith, refl)
    go (pos (suc zero)) n e l w = rw (← e) (omega arith, refl)
    go (pos (suc (suc m))) n e l w = absurd (omega arith)
    go (negsuc m) n e l w = let z : ◌≡◌ {A = ℕ} 0 1 = cc in absurd (omega arith)

    zero_bit : (n : ℕ) (z : ℤ) → bit_seven.number n ≡ Some z → n ≡ 0 → Number z × (bit_seven.worth z ≡ Some n)
    zero_bit n z h e =
        let k : Some (pos 0) ≡ Some z = rw e at h in
        let v : pos 0 ≡ z = cc in
        rw (← v, e) (record { sfits = omega arith }, refl)

    one_bit : (n : ℕ) (z : ℤ) → bit_seven.number n ≡ Some z → (n == 0) ≡ false → Number z × (bit_seven.worth z ≡ Some n)
    one_bit n z h e =
        let k : cond (n == 128) (Some (pos 1)) None ≡ Some z = rw e at h in
        let t = tested (n == 128) (pos 1) z k in
        let m = eqb-true n 128 t.0 in
        let v = t.1 in
        rw (← v, m) (record { sfits = omega arith }, refl)

-- ---- the cells
pub in_byte_sound : (c : Code) → Faithful 256 c → Sound (in_byte c)
in_byte_sound c f = record { written = written; reads = reads; counted = counted }
  where
    written : (at : ℕ) (list : List ℤ) (field : List ℕ) → length list ≡ 1 → (in_byte c).writing at list ≡ Ok field → (length field ≡ 1) × Bytes field × ((from : ℕ) → (in_byte c).reading from field ≡ Ok list)
    written at (z ∷ []) field l h =
        let k = went_on (or_fault NumberRange at (c.worth z)) (λ n. Ok (n ∷ [])) h in
        let n = k.0 in
        let p = f.forth z n (found NumberRange at (c.worth z) n k.1) in
        let e : n ∷ [] ≡ field = let o = k.2 in cc in
        rw (← e) (refl, (p.0, tt), λ from. rw p.1)
    written at [] field l h = absurd (omega arith)
    written at (z ∷ y ∷ list) field l h = absurd (omega arith)

    reads : (at : ℕ) (field : List ℕ) (list : List ℤ) → length field ≡ 1 → Bytes field → (in_byte c).reading at field ≡ Ok list → AllByRecursion Number list × ((from : ℕ) → (in_byte c).writing from list ≡ Ok field)
    reads at (b ∷ []) list l a h =
        let k = went_on (or_fault ByteRange at (c.number b)) (λ z. Ok (z ∷ [])) h in
        let z = k.0 in
        let p = f.back b z a.0 (found ByteRange at (c.number b) z k.1) in
        let e : z ∷ [] ≡ list = let o = k.2 in cc in
        rw (← e) ((p.0, tt), λ from. rw p.1)
    reads at [] list l a h = absurd (omega arith)
    reads at (b ∷ d ∷ field) list l a h = absurd (omega arith)

    counted : (at : ℕ) (field : List ℕ) (list : List ℤ) → length field ≡ 1 → (in_byte c).reading at field ≡ Ok list → length list ≡ 1
    counted at field list l h =
        let k = went_on (or_fault ByteRange at (c.number (slice_index field 0))) (λ z. Ok (z ∷ [])) h in
        let e : k.0 ∷ [] ≡ list = let o = k.2 in cc in
        rw (← e) refl

pub in_pair_sound : (c : Code) → Faithful 65536 c → Sound (in_pair c)
in_pair_sound c f = record { written = written; reads = reads; counted = counted }
  where
    written : (at : ℕ) (list : List ℤ) (field : List ℕ) → length list ≡ 1 → (in_pair c).writing at list ≡ Ok field → (length field ≡ 2) × Bytes field × ((from : ℕ) → (in_pair c).reading from field ≡ Ok list)
    written at (z ∷ []) field l h =
        let k = went_on (or_fault NumberRange at (c.worth z)) (λ n. Ok (pair_bytes n)) h in
        let n = k.0 in
        let p = f.forth z n (found NumberRange at (c.worth z) n k.1) in
        let less = p.0 in
        let e : pair_bytes n ≡ field = let o = k.2 in cc in
        let w : 256 * (n / 256) + n % 256 ≡ n = omega arith in
        rw (← e) (refl, (omega arith, (omega arith, tt)), λ from. rw (w, p.1))
    written at [] field l h = absurd (omega arith)
    written at (z ∷ y ∷ list) field l h = absurd (omega arith)

    reads : (at : ℕ) (field : List ℕ) (list : List ℤ) → length field ≡ 2 → Bytes field → (in_pair c).reading at field ≡ Ok list → AllByRecursion Number list × ((from : ℕ) → (in_pair c).writing from list ≡ Ok field)
    reads at (a ∷ b ∷ []) list l y h =
        let k = went_on (or_fault ByteRange at (c.number (pair a b))) (λ z. Ok (z ∷ [])) h in
        let z = k.0 in
        let i : a < 256 = y.0 in
        let j : b < 256 = y.1.0 in
        let p = f.back (pair a b) z (omega arith) (found ByteRange at (c.number (pair a b)) z k.1) in
        let e : z ∷ [] ≡ list = let o = k.2 in cc in
        let high : (256 * a + b) / 256 ≡ a = omega arith in
        let low : (256 * a + b) % 256 ≡ b = omega arith in
        rw (← e) ((p.0, tt), λ from. rw (p.1, high, low))
    reads at [] list l y h = absurd (omega arith)
    reads at (a ∷ []) list l y h = absurd (omega arith)
    reads at (a ∷ b ∷ d ∷ field) list l y h = absurd (omega arith)

    counted : (at : ℕ) (field : List ℕ) (list : List ℤ) → length field ≡ 2 → (in_pair c).reading at field ≡ Ok list → length list ≡ 1
    counted at field list l h =
        let k = went_on (or_fault ByteRange at (c.number (pair (slice_index field 0) (slice_index field 1)))) (λ z. Ok (z ∷ [])) h in
        let e : k.0 ∷ [] ≡ list = let o = k.2 in cc in
        rw (← e) refl

pub byte_sound : Sound byte
byte_sound = in_byte_sound (upto 255) (upto_faithful 255 256 (omega arith) (omega arith))

pub byte_upto_sound : (top : ℕ) → top < 256 → Sound (byte_upto top)
byte_upto_sound top l = in_byte_sound (upto top) (upto_faithful top 256 l (omega arith))

pub pair_upto_sound : (top : ℕ) → top < 65536 → Sound (pair_upto top)
pair_upto_sound top l = in_pair_sound (upto top) (upto_faithful top 65536 l (omega arith))

pub signed_pair_sound : Sound signed_pair
signed_pair_sound = in_pair_sound (twos pair_half) (twos_faithful pair_half (omega arith))

pub signed_byte_sound : Sound signed_byte
signed_byte_sound = in_byte_sound (twos byte_half) (twos_faithful byte_half (omega arith))

pub blanking_sound : Sound blanking
blanking_sound = in_byte_sound bit_seven bit_seven_faithful

upto_worth : (top place : ℕ) (z : ℤ) (n : ℕ) → or_fault NumberRange place ((upto top).worth z) ≡ Ok n → (z ≡ pos n) × (n ≤ top)
upto_worth top place z n h =
    let t = tested (within top z) (unsigned_abs z) n (found NumberRange place ((upto top).worth z) n h) in
    let w = within_top top z t.0 in
    let e = t.1 in
    (w.0 ∙ ap pos e, omega arith)

pub flags_sound : Sound flags
flags_sound = record { written = written; reads = reads; counted = counted }
  where
    split : (b r s : ℕ) → b ≤ 1 → r ≤ 1 → s ≤ 63 → ((128 * b + 64 * r + s) / 128 ≡ b) × ((128 * b + 64 * r + s) / 64 % 2 ≡ r) × ((128 * b + 64 * r + s) % 64 ≡ s)
    split b r s l m n = (omega arith, let e : (128 * b + 64 * r + s) / 64 ≡ 2 * b + r = omega arith in rw e (omega arith), omega arith)

    back : (b r s : ℕ) (x y z : ℤ) (field : List ℕ) → (x ≡ pos b) × (b ≤ 1) → (y ≡ pos r) × (r ≤ 1) → (z ≡ pos s) × (s ≤ 63) → (128 * b + 64 * r + s) ∷ [] ≡ field → (length field ≡ 1) × Bytes field × ((from : ℕ) → flags.reading from field ≡ Ok (x ∷ y ∷ z ∷ []))
    back b r s x y z field i j k e =
        let p = split b r s i.1 j.1 k.1 in
        rw (← e) (refl, (omega arith, tt), λ from. rw (p.0, p.1, p.2, i.0, j.0, k.0))

    written : (at : ℕ) (list : List ℤ) (field : List ℕ) → length list ≡ 3 → flags.writing at list ≡ Ok field → (length field ≡ 1) × Bytes field × ((from : ℕ) → flags.reading from field ≡ Ok list)
    written at (x ∷ y ∷ z ∷ []) field l h =
        let w = went_on (flag_worth at x y z) _ h in
        let i = went_on (or_fault NumberRange at ((upto 1).worth x)) _ w.1 in
        let j = went_on (or_fault NumberRange (at + 1) ((upto 1).worth y)) _ i.2 in
        let k = went_on (or_fault NumberRange (at + 2) ((upto 63).worth z)) _ j.2 in
        let b = upto_worth 1 at x i.0 i.1 in
        let r = upto_worth 1 (at + 1) y j.0 j.1 in
        let s = upto_worth 63 (at + 2) z k.0 k.1 in
        back i.0 j.0 k.0 x y z field b r s (let o = w.2 in let q = k.2 in cc)
    written at [] field l h = absurd (omega arith)
    written at (x ∷ []) field l h = absurd (omega arith)
    written at (x ∷ y ∷ []) field l h = absurd (omega arith)
    written at (x ∷ y ∷ z ∷ w ∷ list) field l h = absurd (omega arith)

    reads : (at : ℕ) (field : List ℕ) (list : List ℤ) → length field ≡ 1 → Bytes field → flags.reading at field ≡ Ok list → AllByRecursion Number list × ((from : ℕ) → flags.writing from list ≡ Ok field)
    reads at (n ∷ []) list l a h =
        let m : n < 256 = a.0 in
        let e : flag_numbers n ≡ list = cc in
        let b : leb (n / 128) 1 ≡ true = le-leb _ _ (omega arith) in
        let r : leb (n / 64 % 2) 1 ≡ true = le-leb _ _ (omega arith) in
        let s : leb (n % 64) 63 ≡ true = le-leb _ _ (omega arith) in
        let w : 128 * (n / 128) + 64 * (n / 64 % 2) + n % 64 ≡ n = let d : n / 128 ≡ n / 64 / 2 = omega arith in omega arith in
        rw (← e) ((record { sfits = omega arith }, (record { sfits = omega arith }, (record { sfits = omega arith }, tt))), λ from. rw (b, r, s, w))
    reads at [] list l a h = absurd (omega arith)
    reads at (n ∷ d ∷ field) list l a h = absurd (omega arith)

    counted : (at : ℕ) (field : List ℕ) (list : List ℤ) → length field ≡ 1 → flags.reading at field ≡ Ok list → length list ≡ 3
    counted at field list l h =
        let e : flag_numbers (slice_index field 0) ≡ list = cc in
        rw (← e) refl
