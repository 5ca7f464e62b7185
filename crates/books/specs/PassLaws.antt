-- Proofs, and no definitions: what it tells that a check or a whole list passes.
use Rattle.std.specs.Prelude.{◌≡◌, ℕ, suc, ◌+◌, ◌≤◌, Bool, true, false, not, cond, ltb, List, [], ◌∷◌, length, Some, None, Ok, Option, Result, nat_lt, refl}
use Rattle.std.proofs.Common.{⊎_elim, arith}
use Rattle.std.specs.List.{prefix_len, AllByRecursion}
use Rattle.std.proofs.lemmas.Bool.{cases_Bool, ltb-false, le-ltb}
use Rattle.std.proofs.ByRecursion.{All-weaker}
use Rattle.wire.specs.Steps.{◌>>=◌}
use Rattle.books.specs.declared.faults.Rule.{Rule}
use Rattle.books.specs.declared.faults.FieldFault.{FieldFault}
use Rattle.books.specs.Faults.{first_fail, refuse_at}

-- ---- a chain that ends in `Ok` passed its first check
pub passed_refuse_at : {A : Type 0} (rule : Rule) (o : Option ℕ) (k : Unit {0} → Result A FieldFault) (v : A) → (refuse_at rule o >>= k) ≡ Ok v → (o ≡ None) × (k tt ≡ Ok v)
passed_refuse_at rule None k v h = (refl, h)
passed_refuse_at rule (Some i) k v h = let z : ◌≡◌ {A = ℕ} 0 1 = cc in absurd (omega arith)

-- ---- no element fails exactly when all pass
module _ {X : Type 0} (p : X → Bool) where
  all_from_leading : (xs : List X) → length xs ≤ prefix_len p xs → AllByRecursion (λ x. p x ≡ true) xs
  all_from_leading [] h = tt
  all_from_leading (x ∷ xs) h =
      let k : suc (length xs) ≤ cond (p x) (1 + prefix_len p xs) 0 = h in
      ⊎_elim
      (λ e. let m : suc (length xs) ≤ 1 + prefix_len p xs = rw e at k in (e, all_from_leading xs (omega arith)))
      (λ e. let m : suc (length xs) ≤ 0 = rw e at k in absurd (omega arith))
      (cases_Bool (p x))

  leading_from_all : (xs : List X) → AllByRecursion (λ x. p x ≡ true) xs → prefix_len p xs ≡ length xs
  leading_from_all [] h = refl
  leading_from_all (x ∷ xs) h = let e : p x ≡ true = h.0 in rw e (omega (arith, leading_from_all xs h.1))

  none_fails : (xs : List X) → cond (nat_lt (prefix_len p xs) (length xs)) (Some (prefix_len p xs)) None ≡ None → length xs ≤ prefix_len p xs
  none_fails xs h =
      ⊎_elim
      (λ e. let m : cond true (Some (prefix_len p xs)) None ≡ None = rw e at h in let z : ◌≡◌ {A = ℕ} 0 1 = cc in absurd (omega arith))
      (λ e. ltb-false _ _ e)
      (cases_Bool (nat_lt (prefix_len p xs) (length xs)))

-- `first_fail` looks for what does not pass by a test that is turned round twice
once : (b : Bool) → not (not b) ≡ true → b ≡ true
once true h = refl
once false h = h

twice : (b : Bool) → b ≡ true → not (not b) ≡ true
twice b h = rw h refl

module _ {X : Type 0} (p : X → Bool) where
  pub all_from_none : (xs : List X) → first_fail p xs ≡ None → AllByRecursion (λ x. p x ≡ true) xs
  all_from_none xs h = All-weaker (λ x. not (not (p x)) ≡ true) (λ x. p x ≡ true) (λ x e. once (p x) e) xs (all_from_leading (λ x. not (not (p x))) xs (none_fails (λ x. not (not (p x))) xs h))

  pub none_from_all : (xs : List X) → AllByRecursion (λ x. p x ≡ true) xs → first_fail p xs ≡ None
  none_from_all xs h =
      let q : X → Bool = λ x. not (not (p x)) in
      let all = All-weaker (λ x. p x ≡ true) (λ x. q x ≡ true) (λ x e. twice (p x) e) xs h in
      let e : ltb (prefix_len q xs) (length xs) ≡ false = le-ltb _ _ (omega (arith, leading_from_all q xs all)) in rw e
