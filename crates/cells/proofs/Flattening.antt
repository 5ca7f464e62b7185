-- A row of cells one by one: its elements, and its checks without their brackets.
use Rattle.std.proofs.Common.{◌≡◌, ℕ, zero, suc, ◌+◌, ◌≤◌, List, [], ◌∷◌, ◌++◌, length, get_or, take, drop, Ok, Result, refl, add-zero, arith}
use Rattle.std.proofs.lemmas.List.{drop_more}
use Rattle.wire.specs.Steps.{◌>>=◌}
use Rattle.books.specs.declared.faults.FieldFault.{FieldFault}

-- ---- the elements from i on, one by one
module _ {X : Type 0} (xs : List X) (i : ℕ) (d : X) where
  abbrev pub seen : ℕ → ℕ → List X
  seen zero k = []
  seen (suc n) k = get_or xs (i + k) d ∷ seen n (suc k)

  seen_from : (n k : ℕ) → i + k + n ≤ length xs → take n (drop (i + k) xs) ≡ seen n k
  seen_from zero k l = refl
  seen_from (suc n) k l =
      let e = drop_more xs (i + k) d (omega arith) in
      let f : i + k + 1 ≡ i + suc k = omega arith in
      let r : take n (drop (i + k + 1) xs) ≡ seen n (suc k) = rw f (seen_from n (suc k) (omega arith)) in
      rw (e, r)

  pub seen_all : (n : ℕ) → i + n ≤ length xs → take n (drop i xs) ≡ seen n 0
  seen_all n l = let e : i + 0 ≡ i = add-zero i in rw e at (seen_from n 0 (omega arith))

-- ---- what each cell gives, and a row of two
abbrev pub lifted : {A B : Type 0} → (A → List B) → Result A FieldFault → Result (List B) FieldFault
lifted f r = r >>= λ x. Ok (f x)

abbrev pub both : {B : Type 0} → Result (List B) FieldFault → Result (List B) FieldFault → Result (List B) FieldFault
both a b = a >>= λ ys. b >>= λ more. Ok (ys ++ more)
