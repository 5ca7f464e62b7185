-- A barb's checks one after another, with each place counted from the barb's first.
use Rattle.std.proofs.Common.{◌≡◌, ℕ, zero, suc, ◌+◌, ◌-◌, ◌*◌, ◌/◌, ◌%◌, ◌<◌, ◌≤◌, true, leb, List, [], ◌∷◌, length, get_or, take, drop, ℤ, pos, Ok, Err, Result, sym, refl, ap, ◌∙◌, mul-zero, mul-suc, arith}
use Rattle.std.proofs.lemmas.List.{drop-drop, length-drop, take_all}
use Rattle.std.specs.Simd.{first_chunks}
use Rattle.std.proofs.lemmas.Bool.{le-leb}
use Rattle.wire.specs.Pairs.{pair, pair_bytes}
use Rattle.wire.specs.Steps.{◌>>=◌}
use Rattle.books.specs.declared.faults.Rule.TheVariants.{NumberRange, ByteRange}
use Rattle.books.specs.declared.faults.FieldFault.{FieldFault}
use Rattle.cells.specs.Signs.{signed, pair_half}
use Rattle.cells.specs.Cells.{upto, twos, or_fault, checked}
use Rattle.cells.proofs.Flattening.{seen, seen_all, lifted, both}
use Rattle.winds.specs.declared.barb.Barb.{Barb}
use Rattle.winds.specs.Winds.{barb, barb_numbers, barb_of, barb_read}

-- ---- writing
abbrev checks : (at at₁ at₂ at₃ at₄ at₅ : ℕ) → Barb → Result (List ℕ) FieldFault
checks at at₁ at₂ at₃ at₄ at₅ b = do
  m ← or_fault NumberRange at ((twos pair_half).worth b.m)
  n ← or_fault NumberRange at₁ ((twos pair_half).worth b.n)
  d ← or_fault NumberRange at₂ ((upto 360).worth b.direction)
  s ← or_fault NumberRange at₃ ((upto 32767).worth b.speed)
  g ← or_fault NumberRange at₄ ((upto 255).worth b.gust)
  h ← or_fault NumberRange at₅ ((upto 1).worth b.hemisphere)
  Ok (m / 256 ∷ m % 256 ∷ n / 256 ∷ n % 256 ∷ d / 256 ∷ d % 256 ∷ s / 256 ∷ s % 256 ∷ g ∷ h ∷ [])

abbrev pub barb_writing : ℕ → Barb → Result (List ℕ) FieldFault
barb_writing at b = checks at (at + 1) (at + 2) (at + 3) (at + 4) (at + 5) b

flat_writing : (m n d s g h : Result ℕ FieldFault) →
    both (lifted pair_bytes m) (both (lifted pair_bytes n) (both (lifted pair_bytes d) (both (lifted pair_bytes s) (both (lifted (λ x. x ∷ []) g) (both (lifted (λ x. x ∷ []) h) (Ok [])))))) ≡
    (m >>= λ m. n >>= λ n. d >>= λ d. s >>= λ s. g >>= λ g. h >>= λ h. Ok (m / 256 ∷ m % 256 ∷ n / 256 ∷ n % 256 ∷ d / 256 ∷ d % 256 ∷ s / 256 ∷ s % 256 ∷ g ∷ h ∷ []))
flat_writing (Err f) n d s g h = refl
flat_writing (Ok m) (Err f) d s g h = refl
flat_writing (Ok m) (Ok n) (Err f) s g h = refl
flat_writing (Ok m) (Ok n) (Ok d) (Err f) g h = refl
flat_writing (Ok m) (Ok n) (Ok d) (Ok s) (Err f) h = refl
flat_writing (Ok m) (Ok n) (Ok d) (Ok s) (Ok g) (Err f) = refl
flat_writing (Ok m) (Ok n) (Ok d) (Ok s) (Ok g) (Ok h) = refl

pub barb_written : (at : ℕ) (b : Barb) → barb_writing at b ≡ barb.writing at (barb_numbers b)
barb_written at b =
    let two : at + 2 ≡ at + 1 + 1 = omega arith in
    let three : at + 3 ≡ at + 1 + 1 + 1 = omega arith in
    let four : at + 4 ≡ at + 1 + 1 + 1 + 1 = omega arith in
    let five : at + 5 ≡ at + 1 + 1 + 1 + 1 + 1 = omega arith in
    ap (λ x. checks at (at + 1) x (at + 3) (at + 4) (at + 5) b) two
    ∙ ap (λ x. checks at (at + 1) (at + 1 + 1) x (at + 4) (at + 5) b) three
    ∙ ap (λ x. checks at (at + 1) (at + 1 + 1) (at + 1 + 1 + 1) x (at + 5) b) four
    ∙ ap (λ x. checks at (at + 1) (at + 1 + 1) (at + 1 + 1 + 1) (at + 1 + 1 + 1 + 1) x b) five
    ∙ sym (flat_writing
    (or_fault NumberRange at ((twos pair_half).worth b.m))
    (or_fault NumberRange (at + 1) ((twos pair_half).worth b.n))
    (or_fault NumberRange (at + 1 + 1) ((upto 360).worth b.direction))
    (or_fault NumberRange (at + 1 + 1 + 1) ((upto 32767).worth b.speed))
    (or_fault NumberRange (at + 1 + 1 + 1 + 1) ((upto 255).worth b.gust))
    (or_fault NumberRange (at + 1 + 1 + 1 + 1 + 1) ((upto 1).worth b.hemisphere)))

-- all six pass
pub barb_done : (at : ℕ) (b : Barb) (ms ns ds ss : List ℕ) (m n d s g h : ℕ) →
    or_fault NumberRange at ((twos pair_half).worth b.m) ≡ Ok m →
    or_fault NumberRange (at + 1) ((twos pair_half).worth b.n) ≡ Ok n →
    or_fault NumberRange (at + 2) ((upto 360).worth b.direction) ≡ Ok d →
    or_fault NumberRange (at + 3) ((upto 32767).worth b.speed) ≡ Ok s →
    or_fault NumberRange (at + 4) ((upto 255).worth b.gust) ≡ Ok g →
    or_fault NumberRange (at + 5) ((upto 1).worth b.hemisphere) ≡ Ok h →
    ms ≡ pair_bytes m → ns ≡ pair_bytes n → ds ≡ pair_bytes d → ss ≡ pair_bytes s →
    Ok (get_or ms 0 0 ∷ get_or ms 1 0 ∷ get_or ns 0 0 ∷ get_or ns 1 0 ∷ get_or ds 0 0 ∷ get_or ds 1 0 ∷ get_or ss 0 0 ∷ get_or ss 1 0 ∷ g ∷ h ∷ []) ≡ barb.writing at (barb_numbers b)
barb_done at b ms ns ds ss m n d s g h p q r t u v i j k l =
    let e : barb_writing at b ≡ Ok (m / 256 ∷ m % 256 ∷ n / 256 ∷ n % 256 ∷ d / 256 ∷ d % 256 ∷ s / 256 ∷ s % 256 ∷ g ∷ h ∷ []) = rw (p, q, r, t, u, v) in
    rw (i, j, k, l) (sym e ∙ barb_written at b)

-- ---- reading
abbrev pub barb_reading : ℕ → (a b c d e f g h i j : ℕ) → Result Barb FieldFault
barb_reading at a b c d e f g h i j = do
  direction ← or_fault ByteRange (at + 4) ((upto 360).number (pair e f))
  speed ← or_fault ByteRange (at + 6) ((upto 32767).number (pair g h))
  hemisphere ← or_fault ByteRange (at + 9) ((upto 1).number j)
  Ok (record { m = signed pair_half (pair a b); n = signed pair_half (pair c d); direction = direction; speed = speed; gust = pos i; hemisphere = hemisphere })

flat_reading : (m n g : ℤ) (d s h : Result ℤ FieldFault) →
    (both (Ok (m ∷ [])) (both (Ok (n ∷ [])) (both (lifted (λ x. x ∷ []) d) (both (lifted (λ x. x ∷ []) s) (both (Ok (g ∷ [])) (both (lifted (λ x. x ∷ []) h) (Ok [])))))) >>= λ l. Ok (barb_of l)) ≡
    (d >>= λ d. s >>= λ s. h >>= λ h. Ok (barb_of (m ∷ n ∷ d ∷ s ∷ g ∷ h ∷ [])))
flat_reading m n g (Err f) s h = refl
flat_reading m n g (Ok d) (Err f) h = refl
flat_reading m n g (Ok d) (Ok s) (Err f) = refl
flat_reading m n g (Ok d) (Ok s) (Ok h) = refl

pub barb_was_read : (at a b c d e f g h i j : ℕ) → i < 256 → barb_reading at a b c d e f g h i j ≡ barb_read at (a ∷ b ∷ c ∷ d ∷ e ∷ f ∷ g ∷ h ∷ i ∷ j ∷ [])
barb_was_read at a b c d e f g h i j l =
    let four : at + 2 + 2 ≡ at + 4 = omega arith in
    let six : at + 4 + 2 ≡ at + 6 = omega arith in
    let eight : at + 6 + 2 ≡ at + 8 = omega arith in
    let nine : at + 8 + 1 ≡ at + 9 = omega arith in
    let gust : leb i 255 ≡ true = le-leb _ _ (omega arith) in
    simp (four, six, eight, nine, gust) (sym (flat_reading (signed pair_half (pair a b)) (signed pair_half (pair c d)) (pos i)
    (or_fault ByteRange (at + 4) ((upto 360).number (pair e f)))
    (or_fault ByteRange (at + 6) ((upto 32767).number (pair g h)))
    (or_fault ByteRange (at + 9) ((upto 1).number j))))

abbrev pub barb_reading_of : ℕ → List ℕ → Result Barb FieldFault
barb_reading_of at f = barb_reading at (get_or f 0 0) (get_or f 1 0) (get_or f 2 0) (get_or f 3 0) (get_or f 4 0) (get_or f 5 0) (get_or f 6 0) (get_or f 7 0) (get_or f 8 0) (get_or f 9 0)

pub barb_read_of : (at : ℕ) (f : List ℕ) → length f ≡ 10 → get_or f 8 0 < 256 → barb_reading_of at f ≡ barb_read at f
barb_read_of at f l g =
    let e : f ≡ seen f 0 0 10 0 = sym (take_all 10 f (omega arith)) ∙ seen_all f 0 0 10 (omega arith) in
    barb_was_read at (get_or f 0 0) (get_or f 1 0) (get_or f 2 0) (get_or f 3 0) (get_or f 4 0) (get_or f 5 0) (get_or f 6 0) (get_or f 7 0) (get_or f 8 0) (get_or f 9 0) g
    ∙ ap (barb_read at) (sym e)

-- ---- a chunk of many
pub chunk_at : {X : Type 0} (n k i : ℕ) (xs : List X) (d : List X) → i < k → get_or (first_chunks n k xs) i d ≡ take n (drop (n * i) xs)
chunk_at n zero i xs d l = absurd (omega arith)
chunk_at n (suc k) zero xs d l = let z = mul-zero n in rw z refl
chunk_at n (suc k) (suc i) xs d l =
    let e : drop (n * suc i) xs ≡ drop (n * i) (drop n xs) = ap (λ j. drop j xs) (omega (arith, mul-suc n i)) ∙ sym (drop-drop (n * i) n xs) in
    chunk_at n k i (drop n xs) d (omega arith) ∙ ap (take n) (sym e)

-- the same behind the first so many
pub chunk_of : {X : Type 0} (n first i : ℕ) (xs : List X) (chunks : List (List X)) (d : List X) → chunks ≡ first_chunks n (length (take (length xs - first) (drop first xs)) / n) (take (length xs - first) (drop first xs)) → length chunks ≡ length (take (length xs - first) (drop first xs)) / n → i < length chunks → get_or chunks i d ≡ take n (drop (first + n * i) xs)
chunk_of n first i xs chunks d e l h =
    let t = take_all (length xs - first) (drop first xs) (omega (arith, length-drop first xs)) in
    let c = chunk_at n (length (take (length xs - first) (drop first xs)) / n) i (take (length xs - first) (drop first xs)) d (omega arith) in
    let u = drop-drop (n * i) first xs in
    rw (e, ← u) (c ∙ ap (λ ys. take n (drop (n * i) ys)) t)

-- the six numbers of a barb in a list
pub six : (list : List ℤ) (at : ℕ) → at + 6 ≤ length list → barb_numbers (barb_of (take 6 (drop at list))) ≡ take 6 (drop at list)
six list at l = let e = seen_all list at (pos 0) 6 l in rw e

pub barb_taken : (list : List ℤ) (k : ℕ) (chunks : List (List ℤ)) (b : Barb) → chunks ≡ first_chunks 6 (length (take (length list - 2) (drop 2 list)) / 6) (take (length list - 2) (drop 2 list)) → length chunks ≡ length (take (length list - 2) (drop 2 list)) / 6 → k < length chunks → b ≡ barb_of (get_or chunks k []) → barb_numbers b ≡ take 6 (drop (2 + 6 * k) list)
barb_taken list k chunks b e l h is =
    let t = ap length (take_all (length list - 2) (drop 2 list) (omega (arith, length-drop 2 list))) in
    let c = chunk_of 6 2 k list chunks [] e l h in
    ap barb_numbers (is ∙ ap barb_of c) ∙ six list (2 + 6 * k) (omega (arith, length-drop 2 list))

-- ---- a barb that is read passes, and one that is not has the same fault
pub read_passes : (r : Result (List ℤ) FieldFault) (b : Barb) → (r >>= λ l. Ok (barb_of l)) ≡ Ok b → checked r ≡ Ok tt
read_passes (Ok l) b h = refl
read_passes (Err f) b h = let z : ◌≡◌ {A = ℕ} 0 1 = cc in absurd (omega arith)

pub read_fails : (r : Result (List ℤ) FieldFault) (f : FieldFault) → (r >>= λ l. Ok (barb_of l)) ≡ Err f → checked r ≡ Err f
read_fails (Ok l) f h = let z : ◌≡◌ {A = ℕ} 0 1 = cc in absurd (omega arith)
read_fails (Err g) f h = cc
