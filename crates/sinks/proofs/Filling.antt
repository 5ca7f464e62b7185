-- One cell more, at any width and any writing of a pair.
use Rattle.std.proofs.Common.{min, ◌≡◌, ℕ, zero, suc, ◌+◌, ◌-◌, ◌*◌, ◌/◌, ◌<◌, ◌≤◌, List, [], ◌∷◌, ◌++◌, length, take, drop, sym, refl, ap, ◌∙◌, add-zero, mul-zero, mul-one, mul-suc, mul-add, add-one, arith, MutBor}
use Rattle.std.specs.List.{flat_map}
use Rattle.std.proofs.lemmas.List.{drop-drop, drop_at, take_at, take-append-le, drop-append-le, take-append-drop, length-append, length-take, length-drop, flat_map_more}
use Rattle.std.proofs.lemmas.List.Edits.{paste_all, paste-paste}
use Rattle.std.proofs.Math.Nat.{mul-div-le, mul-le-mul_left}
use Rattle.sinks.specs.Cells.{most_bytes, cells, over, places}
use Rattle.sinks.specs.Sinks.{Took, Wrote}

over_none : (at : ℕ) (m : List ℕ) → over at [] m ≡ m
over_none at m = rw add-zero (take-append-drop at m)

length_over : (at : ℕ) (xs m : List ℕ) → at + length xs ≤ length m → length (over at xs m) ≡ length m
length_over at xs m h = simp (length-append, length-take, length-drop) (omega arith)

over_over : (at : ℕ) (xs ys m : List ℕ) → at ≤ length m → over (at + length xs) ys (over at xs m) ≡ over at (xs ++ ys) m
over_over at xs ys m h =
    let a = paste_all m at xs (length xs) refl in
    let b = paste_all (over at xs m) (at + length xs) ys (length ys) refl in
    let c = paste-paste m at xs ys (length xs) (length ys) refl refl h in
    let d = paste_all m at (xs ++ ys) (length xs + length ys) (sym (length-append xs ys)) in
    let l = length-append xs ys in
    cc

module _ (worth : List ℕ → ℕ) (w : ℕ) where
  cells_more : (n : ℕ) (m : List ℕ) → cells worth w (suc n) m ≡ cells worth w n m ++ (worth (take w (drop (w * n) m)) ∷ [])
  cells_more zero m = rw (mul-zero w)
  cells_more (suc n) m =
      let ih = cells_more n (drop w m) in
      let e : drop (w * n) (drop w m) ≡ drop (w * suc n) m =
      drop-drop (w * n) w m ∙ ap (λ k. drop k m) (omega (arith, mul-suc w n)) in
      ap (λ xs. worth (take w m) ∷ xs) (ih ∙ ap (λ d. cells worth w n (drop w m) ++ (worth (take w d) ∷ [])) e)

  cells_front : (n : ℕ) (p r : List ℕ) → w * n ≤ length p → cells worth w n (p ++ r) ≡ cells worth w n p
  cells_front zero p r h = refl
  cells_front (suc n) p r h =
      let f : w ≤ length p = omega (arith, mul-suc w n) in
      let k : w * n ≤ length (drop w p) = simp length-drop (omega (arith, mul-suc w n)) in
      let ih = cells_front n (drop w p) r k in
      let a = take-append-le w p r f in
      let b = drop-append-le w p r f in
      cc

  cells_same : (n : ℕ) (m r : List ℕ) → w * n ≤ length m → cells worth w n (take (w * n) m ++ r) ≡ cells worth w n m
  cells_same n m r h =
      let l : w * n ≤ length (take (w * n) m) = simp length-take (omega arith) in
      let a = cells_front n (take (w * n) m) r l in
      let b = cells_front n (take (w * n) m) (drop (w * n) m) l in
      let c = take-append-drop (w * n) m in
      cc

  cells_over : (n p : ℕ) (a b xs : List ℕ) → w * n + w ≤ length a → length xs ≡ w → worth xs ≡ p → b ≡ over (w * n) xs a → cells worth w (n + 1) b ≡ cells worth w n a ++ (p ∷ [])
  cells_over n p a b xs h l v e =
      let r : List ℕ = xs ++ drop (w * n + length xs) a in
      let lt : length (take (w * n) a) ≡ w * n = simp length-take (omega arith) in
      let m = cells_more n b in
      let d : drop (w * n) b ≡ r = ap (drop (w * n)) e ∙ drop_at (take (w * n) a) r (w * n) lt in
      let t : take w r ≡ xs = take_at xs (drop (w * n + length xs) a) w l in
      let f : cells worth w n b ≡ cells worth w n a = ap (cells worth w n) e ∙ cells_same n a r (omega arith) in
      let s : n + 1 ≡ suc n = add-one n in
      cc

module _ (w : ℕ) (cell : ℕ → List ℕ) (len : (p : ℕ) → length (cell p) ≡ w) where
  length_joined : (ps : List ℕ) → length (flat_map cell ps) ≡ w * length ps
  length_joined [] = sym (mul-zero w)
  length_joined (p ∷ ps) =
      length-append (cell p) (flat_map cell ps) ∙ omega (arith, len p, length_joined ps, mul-suc w (length ps))

  pub wrote_none : (a : MutBor (List ℕ)) (n : ℕ) → Wrote w cell a n [] a n
  wrote_none a n = record { lent = refl; counted = omega arith; within = λ h. h; bytes = λ h. sym (over_none (w * n) a.now) }

  wrote_more : (a b d : MutBor (List ℕ)) (n k p : ℕ) (ps : List ℕ) → Wrote w cell a n ps b k → w * k + w ≤ length b.now → d.ghost_name ≡ b.ghost_name → d.now ≡ over (w * k) (cell p) b.now → Wrote w cell a n (ps ++ (p ∷ [])) d (k + 1)
  wrote_more a b d n k p ps h fits same e =
      let lj = length_joined ps in
      let lp : length (ps ++ (p ∷ [])) ≡ length ps + 1 = length-append ps (p ∷ []) in
      let wn = mul-add w n (length ps) in
      let wk : w * k ≡ w * n + length (flat_map cell ps) = ap (λ j. w * j) h.counted ∙ omega arith in
      let w1 : w * (k + 1) ≡ w * k + w = omega (arith, mul-add w k 1, mul-one w) in
      let j : flat_map cell ps ++ cell p ≡ flat_map cell (ps ++ (p ∷ [])) = flat_map_more cell [] ps p in record {
        lent = same ∙ h.lent;
        counted = omega (arith, h.counted);
        within = λ f.
            let l : length b.now ≡ length a.now = ap length (h.bytes f) ∙ length_over (w * n) (flat_map cell ps) a.now (omega (arith, h.within f)) in
            omega arith;
        bytes = λ f.
            e ∙ ap (λ i. over i (cell p) b.now) wk ∙ ap (over (w * n + length (flat_map cell ps)) (cell p)) (h.bytes f)
            ∙ over_over (w * n) (flat_map cell ps) (cell p) a.now f ∙ ap (λ xs. over (w * n) xs a.now) j;
      }

room_less : (x n : ℕ) → 0 < x - n → (x - (n + 1)) + 1 ≡ x - n
room_less x n h = omega arith

pub some_left : (x y : ℕ) → x ≡ y → (x ≡ 0 → ⊥) → 0 < y
some_left x y e h = omega (arith, e, h)

-- a place that is left lies within the memory
pub place_fits : (w n bytes : ℕ) → 0 < w → 0 < places w n bytes → w * n + w ≤ bytes
place_fits w n bytes s h =
    let q : ℕ = min bytes most_bytes / w in
    let below : w * q ≤ min bytes most_bytes = mul-div-le (min bytes most_bytes) w in
    let rises : w * (n + 1) ≤ w * q = mul-le-mul_left w (omega (arith, h)) in
    omega (arith, below, rises, mul-add w n 1, mul-one w)

-- a sink of any kind that lays one cell behind the others
module _ (S : Type 0) (memory : S → MutBor (List ℕ)) (count : S → ℕ) (worth : List ℕ → ℕ) (w : ℕ) (cell : ℕ → List ℕ) (len : (p : ℕ) → length (cell p) ≡ w) where
  pub took_cell : (s t : S) (p : ℕ) (bs : List ℕ) → bs ≡ cell p → w * count s + w ≤ length (memory s).now → 0 < places w (count s) (length (memory s).now) → worth (cell p) ≡ p
      → count t ≡ count s + 1 → (memory t).ghost_name ≡ (memory s).ghost_name → (memory t).now ≡ over (w * count s) bs (memory s).now
      → Took (λ r. cells worth w (count r) (memory r).now) (λ r. places w (count r) (length (memory r).now)) (λ r ps q. Wrote w cell (memory r) (count r) ps (memory q) (count q)) s (p ∷ []) t
  took_cell s t p bs written fits free back c same laid =
      let e : (memory t).now ≡ over (w * count s) (cell p) (memory s).now = rw written at laid in
      let l : length (memory t).now ≡ length (memory s).now =
      ap length e ∙ length_over (w * count s) (cell p) (memory s).now (omega (arith, len p)) in
      let more : (r : S) (ps : List ℕ) → Wrote w cell (memory r) (count r) ps (memory s) (count s) → Wrote w cell (memory r) (count r) (ps ++ (p ∷ [])) (memory t) (count t) =
      λ r ps h. rw c (wrote_more w cell len (memory r) (memory s) (memory t) (count r) (count s) p ps h fits same e) in record {
        all = rw c (cells_over worth w (count s) p (memory s).now (memory t).now (cell p) fits (len p) back e);
        left = rw (c, l) (room_less _ (count s) free);
        words = more s [] (wrote_none w cell len (memory s) (count s));
        onward = more;
      }
