-- A loop over groups: what is left to check, group by group, and what each group of an accepted list is.
use Rattle.std.proofs.Common.{◌≡◌, ℕ, zero, suc, ◌+◌, ◌-◌, ◌*◌, ◌<◌, ◌≤◌, List, ◌++◌, length, take, drop, Ok, Err, Result, sym, refl, ap, ◌∙◌, add-zero, suc-mul, mul-zero, mul-suc, arith}
use Rattle.std.proofs.lemmas.List.{drop-drop, take_at, drop_at, length-take-le, length-drop}
use Rattle.wire.specs.Steps.{◌>>=◌}
use Rattle.books.specs.declared.faults.FieldFault.{FieldFault}
use Rattle.cells.specs.Cells.{Way, in_turn, turns, checked}
use Rattle.cells.specs.CellLaws.{turned}

checked_both : {Y : Type 0} (a b : Result (List Y) FieldFault) → checked (a >>= λ ys. b >>= λ more. Ok (ys ++ more)) ≡ (checked a >>= λ _. checked b)
checked_both (Ok ys) (Ok more) = refl
checked_both (Ok ys) (Err f) = refl
checked_both (Err f) b = refl

module _ {X Y : Type 0} where
  pub checked_turn : (n : ℕ) (first next : Way X Y) (at : ℕ) (xs : List X) → checked (in_turn n first next at xs) ≡ (checked (first at (take n xs)) >>= λ _. checked (next (at + n) (drop n xs)))
  checked_turn n first next at xs = checked_both (first at (take n xs)) (next (at + n) (drop n xs))

  -- ---- the groups from i on, of k groups behind the first so many
  pub turn_passed : (n : ℕ) (way : Way X Y) (first k i : ℕ) (xs : List X) → i < k → checked (way (first + n * i) (take n (drop (first + n * i) xs))) ≡ Ok tt → checked (turns (k - i) n way (first + n * i) (drop (first + n * i) xs)) ≡ checked (turns (k - (i + 1)) n way (first + n * (i + 1)) (drop (first + n * (i + 1)) xs))
  turn_passed n way first k i xs l h =
      let e : k - i ≡ suc (k - (i + 1)) = omega arith in
      let a : first + n * (i + 1) ≡ first + n * i + n = omega (arith, mul-suc n i) in
      let d = drop-drop n (first + n * i) xs in
      let c = checked_turn n way (turns (k - (i + 1)) n way) (first + n * i) (drop (first + n * i) xs) in
      rw (e, a, ← d) (c ∙ rw h)

  pub turn_failed : (n : ℕ) (way : Way X Y) (first k i : ℕ) (xs : List X) (f : FieldFault) → i < k → checked (way (first + n * i) (take n (drop (first + n * i) xs))) ≡ Err f → checked (turns (k - i) n way (first + n * i) (drop (first + n * i) xs)) ≡ Err f
  turn_failed n way first k i xs f l h =
      let e : k - i ≡ suc (k - (i + 1)) = omega arith in
      let c = checked_turn n way (turns (k - (i + 1)) n way) (first + n * i) (drop (first + n * i) xs) in
      rw e (c ∙ rw h)

  pub turns_done : (n : ℕ) (way : Way X Y) (at k i : ℕ) (xs : List X) → k ≤ i → checked (turns (k - i) n way at xs) ≡ Ok tt
  turns_done n way at k i xs l = let e : k - i ≡ 0 = omega arith in rw e

  -- ---- the group at i of an accepted list, where each group gives m
  turns_part : (n m : ℕ) (way : Way X Y) → ((at : ℕ) (xs : List X) (ys : List Y) → length xs ≡ n → way at xs ≡ Ok ys → length ys ≡ m) → (k at : ℕ) (xs : List X) (ys : List Y) → length xs ≡ k * n → turns k n way at xs ≡ Ok ys → (i : ℕ) → i < k → way (at + n * i) (take n (drop (n * i) xs)) ≡ Ok (take m (drop (m * i) ys))
  turns_part n m way c zero at xs ys l h i lt = absurd (omega arith)
  turns_part n m way c (suc k) at xs ys l h zero lt =
      let t = turned n way (turns k n way) at xs ys h in
      let size = c at (take n xs) t.0 (length-take-le n xs (omega (arith, suc-mul k n))) t.2 in
      let f = take_at t.0 t.1 m size in
      let e = t.4 in
      let g : take m ys ≡ t.0 = rw e at f in
      rw (mul-zero n, mul-zero m, add-zero at, g) t.2
  turns_part n m way c (suc k) at xs ys l h (suc i) lt =
      let t = turned n way (turns k n way) at xs ys h in
      let size = c at (take n xs) t.0 (length-take-le n xs (omega (arith, suc-mul k n))) t.2 in
      let f = drop_at t.0 t.1 m size in
      let e = t.4 in
      let g : drop m ys ≡ t.1 = rw e at f in
      let p = turns_part n m way c k (at + n) (drop n xs) t.1 (omega (arith, suc-mul k n, length-drop n xs)) t.3 i (omega arith) in
      let a : at + n * suc i ≡ at + n + n * i = omega (arith, mul-suc n i) in
      let b : drop (n * suc i) xs ≡ drop (n * i) (drop n xs) = ap (λ j. drop j xs) (omega (arith, mul-suc n i)) ∙ sym (drop-drop (n * i) n xs) in
      let d : drop (m * suc i) ys ≡ drop (m * i) (drop m ys) = ap (λ j. drop j ys) (omega (arith, mul-suc m i)) ∙ sym (drop-drop (m * i) m ys) in
      rw (a, b, d, g) p

  -- the same behind a head that gives g
  pub part_of : (h g n m : ℕ) (first way : Way X Y) → ((at : ℕ) (xs : List X) (ys : List Y) → length xs ≡ h → first at xs ≡ Ok ys → length ys ≡ g) → ((at : ℕ) (xs : List X) (ys : List Y) → length xs ≡ n → way at xs ≡ Ok ys → length ys ≡ m) → (k : ℕ) (xs : List X) (ys : List Y) → length xs ≡ h + k * n → in_turn h first (turns k n way) 0 xs ≡ Ok ys → (i : ℕ) → i < k → way (h + n * i) (take n (drop (h + n * i) xs)) ≡ Ok (take m (drop (g + m * i) ys))
  part_of h g n m first way b c k xs ys l t i lt =
      let p = turned h first (turns k n way) 0 xs ys t in
      let size = b 0 (take h xs) p.0 (length-take-le h xs (omega arith)) p.2 in
      let f = drop_at p.0 p.1 g size in
      let e = p.4 in
      let r : drop g ys ≡ p.1 = rw e at f in
      let q = turns_part n m way c k (0 + h) (drop h xs) p.1 (omega (arith, length-drop h xs)) p.3 i lt in
      let z : 0 + h ≡ h = omega arith in
      let u = drop-drop (n * i) h xs in
      let v = drop-drop (m * i) g ys in
      rw (← v, r, ← u) (rw z at q)
