-- A result that is worked out check by check: the first refusal ends it.
use Rattle.std.specs.Prelude.{Bool, true, false, Ok, Err, Result}

infixl 20 ◌>>=◌
abbrev pub ◌>>=◌ : {A B E : Type 0} → Result A E → (A → Result B E) → Result B E
◌>>=◌ (Ok a) k = k a
◌>>=◌ (Err e) k = Err e

-- turned down with e where the test is met
abbrev pub refuse : {E : Type 0} → Bool → E → Result (Unit {0}) E
refuse true e = Err e
refuse false e = Ok tt

-- the same result, its refusal told in other words
abbrev pub blame : {A E F : Type 0} → (E → F) → Result A E → Result A F
blame f (Ok a) = Ok a
blame f (Err e) = Err (f e)
