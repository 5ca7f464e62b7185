-- The rules of data fields and lists, their numbers, and a fault at a place.
use Rattle.std.specs.Prelude.{ℕ, Bool, not, List, Some, None, Ok, Err, Option, Result}
use Rattle.std.specs.List.{position}
use Rattle.books.specs.declared.faults.Rule.{Rule}
use Rattle.books.specs.declared.faults.Rule.TheVariants.{DataLength, ListLength, NumberRange, ByteRange, EarlyEnd, WrongEnd, StraySeparator}
use Rattle.books.specs.declared.faults.FieldFault.{FieldFault}

-- the number of each rule
abbrev pub rule_number : Rule → ℕ
rule_number DataLength = 1
rule_number ListLength = 2
rule_number NumberRange = 3
rule_number ByteRange = 4
rule_number EarlyEnd = 5
rule_number WrongEnd = 6
rule_number StraySeparator = 7

-- a rule that is broken, and the place where it is
abbrev pub fault_at : Rule → ℕ → FieldFault
fault_at r p = record { rule = r; place = p }

-- the index of the first element that fails a test; none where all pass
abbrev pub first_fail : {X : Type 0} → (X → Bool) → List X → Option ℕ
first_fail p xs = position (λ x. not (p x)) xs

-- turned down where there is a place at which the rule is broken
abbrev pub refuse_at : Rule → Option ℕ → Result (Unit {0}) FieldFault
refuse_at r None = Ok tt
refuse_at r (Some i) = Err (fault_at r i)
