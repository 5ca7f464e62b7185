-- Bytes laid into a memory, one write after another.
use Rattle.std.proofs.Common.{◌≡◌, ℕ, ◌+◌, ◌-◌, ◌≤◌, max, true, leb, List, ◌++◌, length, take, drop, sym, ap, ◌∙◌, ap₂, arith}
use lib.Seq.{paste}
use borrow.Rule.Slice.PartMut.{put_mid}
use Rattle.std.proofs.lemmas.List.{drop-drop, take_at, drop_at, append_assoc, length-append, length-take, length-drop, take-take, length-replicate, drop-take}
use Rattle.std.proofs.lemmas.Bool.{and_from, le-leb}
use Rattle.memory.specs.Laid.{laid, zeros, spliced, rewritten, has_room}

-- after a write of zs over s[a..a + length zs]
pub laid_mid : (a e : ℕ) (xs ys zs : List ℕ) → e ≡ a + length zs → ys ≡ zs → put_mid a (e - a) xs ys ≡ laid xs a zs
laid_mid a e xs ys zs h y =
    let k : a + (e - a) ≡ a + length zs = omega arith in
    let d : drop (e - a) (drop a xs) ≡ drop (a + length zs) xs = drop-drop (e - a) a xs ∙ ap (λ n. drop n xs) k in
    cc

-- what `copy_within` and the shelf call `paste`
pub laid_paste : (m : List ℕ) (at : ℕ) (s : List ℕ) (n : ℕ) → n ≤ length s → paste m at s n ≡ laid m at (take n s)
laid_paste m at s n h =
    let l : length (take n s) ≡ n = simp length-take (omega arith) in
    append_assoc (take at m) (take n s) (drop (at + n) m) ∙ ap (λ k. take at m ++ (take n s ++ drop (at + k) m)) (sym l)

module _ (m : List ℕ) (at : ℕ) (bs : List ℕ) (fits : at + length bs ≤ length m) where
  pub length_laid : length (laid m at bs) ≡ length m
  length_laid = simp (length-append, length-take, length-drop) (omega arith)

  lt : length (take at m) ≡ at
  lt = simp length-take (omega arith)

  lb : length (take at m ++ bs) ≡ at + length bs
  lb = simp (length-append, length-take) (omega arith)

  pub take_laid : take at (laid m at bs) ≡ take at m
  take_laid = take_at (take at m) (bs ++ drop (at + length bs) m) at lt

  pub take_laid_all : take (at + length bs) (laid m at bs) ≡ take at m ++ bs
  take_laid_all =
      ap (take (at + length bs)) (sym (append_assoc (take at m) bs (drop (at + length bs) m))) ∙ take_at (take at m ++ bs) (drop (at + length bs) m) (at + length bs) lb

  pub drop_laid : drop (at + length bs) (laid m at bs) ≡ drop (at + length bs) m
  drop_laid =
      ap (drop (at + length bs)) (sym (append_assoc (take at m) bs (drop (at + length bs) m))) ∙ drop_at (take at m ++ bs) (drop (at + length bs) m) (at + length bs) lb

  pub drop_laid_more : (k : ℕ) → at + length bs ≤ k → drop k (laid m at bs) ≡ drop k m
  drop_laid_more k h =
      let e : (at + length bs) + (k - (at + length bs)) ≡ k = omega arith in
      let d1 = drop-drop (k - (at + length bs)) (at + length bs) (laid m at bs) in
      let d2 = drop-drop (k - (at + length bs)) (at + length bs) m in
      let d = drop_laid in
      cc

  -- one write right behind another
  pub laid_after : (cs : List ℕ) (k : ℕ) → k ≡ at + length bs → laid (laid m at bs) k cs ≡ laid m at (bs ++ cs)
  laid_after cs k e =
      let t = take_laid_all in
      let d = drop_laid_more (k + length cs) (omega arith) in
      let l = length-append bs cs in
      let n : k + length cs ≡ at + length (bs ++ cs) = omega arith in
      let a1 = append_assoc (take at m) bs (cs ++ drop (k + length cs) m) in
      let a2 = append_assoc bs cs (drop (k + length cs) m) in
      cc

-- one write right before another
pub laid_before : (m : List ℕ) (at : ℕ) (bs cs : List ℕ) (k : ℕ) → k ≡ at + length bs → k + length cs ≤ length m → laid (laid m k cs) at bs ≡ laid m at (bs ++ cs)
laid_before m at bs cs k e h =
    let t1 : take at (take k (laid m k cs)) ≡ take at (laid m k cs) = take-take at k (laid m k cs) (omega arith) in
    let t2 = take_laid m k cs h in
    let t3 : take at (take k m) ≡ take at m = take-take at k m (omega arith) in
    let lt : length (take k m) ≡ k = simp length-take (omega arith) in
    let d1 : drop k (laid m k cs) ≡ cs ++ drop (k + length cs) m = drop_at (take k m) (cs ++ drop (k + length cs) m) k lt in
    let l = length-append bs cs in
    let n : k + length cs ≡ at + length (bs ++ cs) = omega arith in
    let a = append_assoc bs cs (drop (k + length cs) m) in
    cc

-- one write over the front of another
pub laid_over : (m : List ℕ) (at : ℕ) (x y w : List ℕ) → length x ≡ length y → at + length (y ++ w) ≤ length m → laid (laid m at (y ++ w)) at x ≡ laid m at (x ++ w)
laid_over m at x y w e h =
    let l = length-append y w in
    let t : take at (laid m at (y ++ w)) ≡ take at m = take_laid m at (y ++ w) h in
    let lt : length (take at m ++ y) ≡ at + length x = length-append (take at m) y ∙ simp length-take (omega arith) in
    let split : laid m at (y ++ w) ≡ (take at m ++ y) ++ (w ++ drop (at + length (y ++ w)) m) =
    ap (λ u. take at m ++ u) (append_assoc y w (drop (at + length (y ++ w)) m)) ∙ sym (append_assoc (take at m) y (w ++ drop (at + length (y ++ w)) m)) in
    let d : drop (at + length x) (laid m at (y ++ w)) ≡ w ++ drop (at + length (y ++ w)) m =
    ap (drop (at + length x)) split ∙ drop_at (take at m ++ y) (w ++ drop (at + length (y ++ w)) m) (at + length x) lt in
    let n : at + length (y ++ w) ≡ at + length (x ++ w) = omega (arith, length-append x w) in
    ap₂ (λ u v. u ++ (x ++ v)) t (d ∙ ap (λ k. w ++ drop k m) n) ∙ ap (λ u. take at m ++ u) (sym (append_assoc x w (drop (at + length (x ++ w)) m)))

-- a memory with a part replaced by as many bytes as it may take
module _ (mem : List ℕ) (used a b : ℕ) (forward : a ≤ b) (inside : b ≤ used) (within : used ≤ length mem) where
  front : take a (take used mem) ≡ take a mem
  front = take-take a used mem (omega arith)

  back : drop b (take used mem) ≡ take (used - b) (drop b mem)
  back = let e : used ≡ b + (used - b) = omega arith in ap (λ n. drop b (take n mem)) e ∙ drop-take b (used - b) mem

  length_front : length (take a mem) ≡ a
  length_front = simp length-take (omega arith)

  length_back : length (take (used - b) (drop b mem)) ≡ used - b
  length_back = simp (length-take, length-drop) (omega arith)

  pub length_spliced : (x : List ℕ) → length (spliced a b x (take used mem)) ≡ (used - (b - a)) + length x
  length_spliced x =
      ap₂ (λ u v. length (u ++ (x ++ v))) front back
      ∙ length-append (take a mem) (x ++ take (used - b) (drop b mem))
      ∙ omega (arith, length_front, length-append x (take (used - b) (drop b mem)), length_back)

  -- three writes: what follows, what takes its place, and what is freed
  pub rewritten_laid : (x z : List ℕ) → length z ≡ used - ((used - (b - a)) + length x)
      → laid mem a ((x ++ take (used - b) (drop b mem)) ++ z) ≡ take a mem ++ ((x ++ take (used - b) (drop b mem)) ++ (z ++ drop (max used ((used - (b - a)) + length x)) mem))
  rewritten_laid x z h =
      let l = length-append (x ++ take (used - b) (drop b mem)) z in
      let m = length-append x (take (used - b) (drop b mem)) in
      let n : a + length ((x ++ take (used - b) (drop b mem)) ++ z) ≡ max used ((used - (b - a)) + length x) = omega (arith, length_back) in
      ap (λ k. take a mem ++ (((x ++ take (used - b) (drop b mem)) ++ z) ++ drop k mem)) n
      ∙ ap (λ u. take a mem ++ u) (append_assoc (x ++ take (used - b) (drop b mem)) z (drop (max used ((used - (b - a)) + length x)) mem))

  pub laid_rewritten : (x : List ℕ) → laid mem a ((x ++ take (used - b) (drop b mem)) ++ zeros (used - ((used - (b - a)) + length x))) ≡ rewritten (spliced a b x (take used mem)) used mem
  laid_rewritten x =
      let s = length_spliced x in
      let freed = used - ((used - (b - a)) + length x) in
      let later = drop (max used ((used - (b - a)) + length x)) mem in
      rewritten_laid x (zeros freed) (length-replicate {A = ℕ} freed 0)
      ∙ sym (append_assoc (take a mem) (x ++ take (used - b) (drop b mem)) (zeros freed ++ later))
      ∙ ap₂ (λ u v. (u ++ (x ++ v)) ++ (zeros freed ++ later)) (sym front) (sym back)
      ∙ ap (λ n. spliced a b x (take used mem) ++ (zeros (used - n) ++ drop (max used n) mem)) (sym s)

  abbrev follows : List ℕ
  follows = take (used - b) (drop b mem)

  -- what `make_gap` does
  pub gap_made : (m1 m2 m3 : List ℕ) (size n : ℕ) → (used - (b - a)) + size ≤ length mem → n ≡ used - (a + size + (used - b))
      → m1 ≡ laid mem (a + size) (take (used - b) (drop b mem)) → m2 ≡ laid m1 a (zeros size) → m3 ≡ laid m2 (a + size + (used - b)) (zeros n)
      → m3 ≡ rewritten (spliced a b (zeros size) (take used mem)) used mem
  gap_made m1 m2 m3 size n room e h1 h2 h3 =
      let z : length (zeros size) ≡ size = length-replicate {A = ℕ} size 0 in
      let l = length-append (zeros size) follows in
      let two : m2 ≡ laid mem a (zeros size ++ follows) = h2 ∙ ap (λ u. laid u a (zeros size)) h1 ∙ laid_before mem a (zeros size) follows (a + size) (omega arith) (omega (arith, length_back)) in
      let k : n ≡ used - ((used - (b - a)) + length (zeros size)) = omega arith in
      h3 ∙ ap (λ u. laid u (a + size + (used - b)) (zeros n)) two
      ∙ laid_after mem a (zeros size ++ follows) (omega (arith, length_back)) (zeros n) (a + size + (used - b)) (omega (arith, length_back))
      ∙ ap (λ j. laid mem a ((zeros size ++ follows) ++ zeros j)) k
      ∙ laid_rewritten (zeros size)

  -- a gap that is filled
  pub gap_filled : (x : List ℕ) → (used - (b - a)) + length x ≤ length mem
      → laid (rewritten (spliced a b (zeros (length x)) (take used mem)) used mem) a x ≡ rewritten (spliced a b x (take used mem)) used mem
  gap_filled x room =
      let z : length (zeros (length x)) ≡ length x = length-replicate {A = ℕ} (length x) 0 in
      let freed = used - ((used - (b - a)) + length x) in
      let f : length (zeros freed) ≡ freed = length-replicate {A = ℕ} freed 0 in
      let l = length-append (zeros (length x)) (follows ++ zeros freed) in
      let k = length-append follows (zeros freed) in
      ap (λ u. laid u a x) (sym (laid_rewritten (zeros (length x))) ∙ ap (λ j. laid mem a ((zeros (length x) ++ follows) ++ zeros (used - ((used - (b - a)) + j)))) z
      ∙ ap (laid mem a) (append_assoc (zeros (length x)) follows (zeros freed)))
      ∙ laid_over mem a x (zeros (length x)) (follows ++ zeros freed) (sym z) (omega (arith, length_back))
      ∙ ap (laid mem a) (sym (append_assoc x follows (zeros freed)))
      ∙ laid_rewritten x

  pub room_told : (size : ℕ) → (used - (b - a)) + size ≤ length mem → has_room used a b size mem ≡ true
  room_told size room =
      and_from (leb a b) _ (le-leb a b forward)
      (and_from (leb b used) _ (le-leb b used inside)
      (and_from (leb used (length mem)) _ (le-leb used (length mem) within) (le-leb ((used - (b - a)) + size) (length mem) room)))
