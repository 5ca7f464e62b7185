-- Texts of 7-bit characters: a text's numbers are its bytes in order.
use Rattle.std.specs.Prelude.{ℕ, ◌+◌, ◌-◌, Bool, false, cond, ◌&&◌, ◌||◌, List, [], ◌∷◌, map, length, pos, Some, None, Ok, Err, Option, Result, ◌==◌, nat_lt, slice_index_or, unsigned_abs}
use Rattle.wire.specs.Steps.{◌>>=◌, refuse}
use Rattle.books.specs.declared.faults.Rule.{Rule}
use Rattle.books.specs.declared.faults.Rule.TheVariants.{DataLength, ListLength, NumberRange, ByteRange, EarlyEnd, WrongEnd, StraySeparator}
use Rattle.books.specs.declared.faults.FieldFault.{FieldFault}
use Rattle.books.specs.Faults.{fault_at}
use Rattle.books.specs.Words.{bad_length}
use Rattle.kinds.specs.Kinds.{KindMeaning}
use Rattle.cells.specs.Characters.{byte_character, number_character}
use Rattle.texts.specs.declared.scan.Rules.{Rules}

-- What a kind of text asks: so many characters at least, and which rule a character breaks.
-- The first argument says that no character follows, the second that the text ends in NUL.
pub record TextMeaning : Type 0 where
  pub fewest : ℕ
  pub breaks : Bool → Bool → ℕ → Option Rule

-- ---- the first fault

-- the rule that an element breaks: the one on the range, which comes before the others, where it is no character
abbrev pub broken : Rule → (ℕ → Option Rule) → Option ℕ → Option Rule
broken range breaks None = Some range
broken range breaks (Some c) = breaks c

-- turned down at a place where a rule is broken
abbrev pub refuse_broken : Option Rule → ℕ → Result (Unit {0}) FieldFault
refuse_broken None place = Ok tt
refuse_broken (Some rule) place = Err (fault_at rule place)

-- turned down at the first element that breaks a rule; they stand from place i on in a text of n
abbrev pub first_broken : (Bool → Option ℕ → Option Rule) → ℕ → ℕ → List (Option ℕ) → Result (Unit {0}) FieldFault
first_broken breaks n i [] = Ok tt
first_broken breaks n i (c ∷ cs) = refuse_broken (breaks (i + 1 == n) c) i >>= (λ _. first_broken breaks n (i + 1) cs)

-- the character NUL
abbrev pub is_nul : Option ℕ → Bool
is_nul None = false
is_nul (Some c) = c == 0

-- the last character is NUL
abbrev pub ends_in_nul : List (Option ℕ) → Bool
ends_in_nul cs = is_nul (slice_index_or cs (length cs - 1) None)

-- odd, too many, or fewer than the fewest
abbrev pub lacks : ℕ → ℕ → Bool
lacks fewest n = bad_length n || nat_lt n fewest

-- turned down by the length first, then at the first element that breaks a rule
abbrev pub checked : TextMeaning → Rules → List (Option ℕ) → Result (Unit {0}) FieldFault
checked t rules cs = do
  _ ← refuse (lacks t.fewest (length cs)) (fault_at rules.amount (length cs))
  first_broken (λ last. broken rules.range (t.breaks last (ends_in_nul cs))) (length cs) 0 cs

-- the rules of a text in a data field
abbrev pub field_rules : Rules
field_rules = record { amount = DataLength; range = ByteRange }

-- the rules of a text in a list
abbrev pub list_rules : Rules
list_rules = record { amount = ListLength; range = NumberRange }

-- a text's numbers are its bytes in order
abbrev pub text_kind : TextMeaning → KindMeaning
text_kind t = record {
  reading = λ field. checked t field_rules (map byte_character field) >>= (λ _. Ok (map pos field));
  writing = λ list. checked t list_rules (map number_character list) >>= (λ _. Ok (map unsigned_abs list));
}

-- ---- 5/20, in octal: any characters, or none
abbrev pub routing : TextMeaning
routing = record { fewest = 0; breaks = λ last nul c. None }

-- ---- 5/4: not empty, and ended by NUL (0), ETX (3) or ETB (23)

-- a character that ends a text
abbrev pub is_terminator : ℕ → Bool
is_terminator c = c == 0 || (c == 3 || c == 23)

-- one of these before the end, another at the end, or RS (30) in a text that ends in NUL
abbrev pub message_breaks : Bool → Bool → ℕ → Option Rule
message_breaks last nul c =
    cond (is_terminator c) (cond last None (Some EarlyEnd))
    (cond last (Some WrongEnd)
    (cond (c == 30 && nul) (Some StraySeparator)
    None))

-- at least one character, and each by these rules
abbrev pub message : TextMeaning
message = record { fewest = 1; breaks = message_breaks }
