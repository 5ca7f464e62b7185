-- A place that is not refused has just the room.
use Rattle.std.proofs.Common.{◌≡◌, ℕ, Bool, true, false, not, Ok, Err, Result, refl, sym, ◌∙◌, arith}
use Rattle.std.specs.Prelude.{◌==◌}
use Rattle.std.proofs.lemmas.Bool.{eqb-true, not-false}
use Rattle.wire.specs.Steps.{refuse}
use Rattle.wire.proofs.Passing.{allowed}
use Rattle.books.specs.declared.faults.FieldFault.{FieldFault}
use Rattle.books.specs.declared.faults.Rule.TheVariants.{DataLength}
use Rattle.books.specs.Faults.{fault_at}

pub just_room : (place weight : ℕ) (r : Result (Unit {0}) FieldFault) → r ≡ refuse (not (place == weight)) (fault_at DataLength place) → r ≡ Ok tt → place ≡ weight
just_room place weight r e h = eqb-true place weight (not-false _ (allowed (not (place == weight)) (fault_at DataLength place) (sym e ∙ h)))

pub no_room : (place weight : ℕ) (r : Result (Unit {0}) FieldFault) (f : FieldFault) → r ≡ refuse (not (place == weight)) (fault_at DataLength place) → r ≡ Err f → ((place == weight) ≡ false) × (f ≡ fault_at DataLength place)
no_room place weight r f e h = go (place == weight) refl (sym e ∙ h)
  where
    go : (b : Bool) → (place == weight) ≡ b → ◌≡◌ {A = Result (Unit {0}) FieldFault} (refuse (not b) (fault_at DataLength place)) (Err f) → (b ≡ false) × (f ≡ fault_at DataLength place)
    go true e h = let z : ◌≡◌ {A = ℕ} 0 1 = cc in absurd (omega arith)
    go false e h = (refl, cc)
