-- Proofs, and no definitions: every kind of text keeps the laws of a kind.
use Rattle.std.specs.Prelude.{◌≡◌, ℕ, ◌+◌, ◌%◌, ◌≤◌, Bool, true, false, cond, not, List, [], ◌∷◌, map, length, ℤ, pos, negsuc, Some, None, Ok, Option, ◌==◌, nat_eq, nat_le, nat_lt, unsigned_abs, refl}
use Rattle.std.proofs.Common.{ap, arith}
use Rattle.std.specs.List.{AllByRecursion}
use Rattle.std.proofs.lemmas.Bool.{eqb-true, ltb-false, or_parts, not-false, leb-true}
use Rattle.std.proofs.ByRecursion.{All-weaker}
use Rattle.std.proofs.lemmas.List.{length-map}
use Rattle.wire.specs.Pairs.{Bytes}
use Rattle.wire.proofs.Passing.{pass, passed, went_on}
use Rattle.books.specs.declared.faults.Rule.{Rule}
use Rattle.books.specs.Books.{Agree, Number, most_bytes}
use Rattle.books.specs.Faults.{fault_at}
use Rattle.books.specs.Words.{bad_length, within}
use Rattle.cells.specs.Characters.{top_character, byte_character, number_character}
use Rattle.texts.specs.declared.scan.Rules.{Rules}
use Rattle.texts.specs.Texts.{TextMeaning, broken, refuse_broken, first_broken, ends_in_nul, lacks, checked, field_rules, list_rules, text_kind}

-- ---- a text without a fault
unbroken : (o : Option Rule) (i : ℕ) (u : Unit {0}) → refuse_broken o i ≡ Ok u → o ≡ None
unbroken None i u h = refl
unbroken (Some r) i u h = let z : ◌≡◌ {A = ℕ} 0 1 = cc in absurd (omega arith)

-- an element that breaks no rule is a character, and breaks none under another rule on the range
in_range : (range other : Rule) (breaks : ℕ → Option Rule) (o : Option ℕ) → broken range breaks o ≡ None → ((c : ℕ) × (o ≡ Some c)) × (broken other breaks o ≡ None)
in_range range other breaks None h = let z : ◌≡◌ {A = ℕ} 0 1 = cc in absurd (omega arith)
in_range range other breaks (Some c) h = ((c, refl), h)

module _ (range other : Rule) (breaks : Bool → ℕ → Option Rule) (n : ℕ) where
  each_in_range : (i : ℕ) (cs : List (Option ℕ)) → first_broken (λ last. broken range (breaks last)) n i cs ≡ Ok tt → AllByRecursion (λ o. (c : ℕ) × (o ≡ Some c)) cs × (first_broken (λ last. broken other (breaks last)) n i cs ≡ Ok tt)
  each_in_range i [] h = (tt, refl)
  each_in_range i (c ∷ cs) h =
      let last = nat_eq (i + 1) n in
      let k = went_on (refuse_broken (broken range (breaks last) c) i) (λ _. first_broken (λ last. broken range (breaks last)) n (i + 1) cs) h in
      let m = in_range range other (breaks last) c (unbroken (broken range (breaks last) c) i k.0 k.1) in
      let e = m.1 in
      let r = each_in_range (i + 1) cs k.2 in
      ((m.0, r.0), rw e r.1)

-- what it tells that a text has no fault: its length, its characters, and that it has none elsewhere either
pub passed_text : (t : TextMeaning) (rules other : Rules) (cs : List (Option ℕ)) → checked t rules cs ≡ Ok tt → (length cs % 2 ≡ 0) × (length cs ≤ most_bytes) × AllByRecursion (λ o. (c : ℕ) × (o ≡ Some c)) cs × (checked t other cs ≡ Ok tt)
passed_text t rules other cs h =
    let n = length cs in
    let k = passed (lacks t.fewest n) (fault_at rules.amount n) _ h in
    let b = or_parts (bad_length n) (nat_lt n t.fewest) k.0 in
    let l = or_parts (not (n % 2 == 0)) (nat_lt most_bytes n) b.0 in
    let e = each_in_range rules.range other.range (λ last. t.breaks last (ends_in_nul cs)) n 0 cs k.1 in
    (eqb-true _ _ (not-false _ l.0), ltb-false _ _ l.1, e.0, pass (lacks t.fewest n) (fault_at other.amount n) _ k.0 e.1)

-- ---- there and back
some_passed : (b : Bool) (n c : ℕ) → cond b (Some n) None ≡ Some c → b ≡ true
some_passed true n c h = refl
some_passed false n c h = let z : ◌≡◌ {A = ℕ} 0 1 = cc in absurd (omega arith)

number_in_range : (z : ℤ) → (c : ℕ) × (number_character z ≡ Some c) → within top_character z ≡ true
number_in_range (pos n) h = some_passed (nat_le n top_character) n h.0 h.1
number_in_range (negsuc n) h = let e = h.1 in let z : ◌≡◌ {A = ℕ} 0 1 = cc in absurd (omega arith)

pub numbers_in_range : (list : List ℤ) → AllByRecursion (λ o. (c : ℕ) × (o ≡ Some c)) (map number_character list) → AllByRecursion (λ z. within top_character z ≡ true) list
numbers_in_range [] h = tt
numbers_in_range (z ∷ zs) h = (number_in_range z h.0, numbers_in_range zs h.1)

numbers_back : (list : List ℤ) → AllByRecursion (λ z. within top_character z ≡ true) list → (map byte_character (map unsigned_abs list) ≡ map number_character list) × (map pos (map unsigned_abs list) ≡ list) × Bytes (map unsigned_abs list)
numbers_back [] h = (refl, refl, tt)
numbers_back (pos n ∷ zs) h =
    let k = numbers_back zs h.1 in
    (ap (λ cs. byte_character n ∷ cs) k.0, ap (λ l. pos n ∷ l) k.1, (omega (arith, leb-true n top_character h.0), k.2))
numbers_back (negsuc n ∷ zs) h = let z : ◌≡◌ {A = ℕ} 0 1 = let b : false ≡ true = h.0 in cc in absurd (omega arith)

bytes_there : (field : List ℕ) → (map number_character (map pos field) ≡ map byte_character field) × (map unsigned_abs (map pos field) ≡ field)
bytes_there [] = (refl, refl)
bytes_there (b ∷ bs) = let k = bytes_there bs in (ap (λ cs. byte_character b ∷ cs) k.0, ap (λ l. b ∷ l) k.1)

number_fits : (z : ℤ) → within top_character z ≡ true → Number z
number_fits (pos n) h = record { sfits = omega (arith, leb-true n top_character h) }
number_fits (negsuc n) h = let z : ◌≡◌ {A = ℕ} 0 1 = cc in absurd (omega arith)

-- ---- what an accepted field and an accepted list are
pub read_text : (t : TextMeaning) (field : List ℕ) (list : List ℤ) → (text_kind t).reading field ≡ Ok list → (checked t field_rules (map byte_character field) ≡ Ok tt) × (map pos field ≡ list)
read_text t field list h = let k = went_on (checked t field_rules (map byte_character field)) _ h in let e = k.2 in (k.1, cc)

pub written_text : (t : TextMeaning) (list : List ℤ) (field : List ℕ) → (text_kind t).writing list ≡ Ok field → (checked t list_rules (map number_character list) ≡ Ok tt) × AllByRecursion (λ z. within top_character z ≡ true) list × (map unsigned_abs list ≡ field)
written_text t list field h =
    let k = went_on (checked t list_rules (map number_character list)) _ h in
    let p = passed_text t list_rules list_rules (map number_character list) k.1 in
    let e = k.2 in
    (k.1, numbers_in_range list p.2, cc)

-- ---- the laws
pub text_agree : (t : TextMeaning) → Agree (text_kind t).reading (text_kind t).writing
text_agree t = record {
  written = λ list field _ h.
      let k = written_text t list field h in
      let p = passed_text t list_rules field_rules (map number_character list) k.0 in
      let b = numbers_back list k.1 in
      let e = k.2 in
      rw (← e, b.0, p.3, b.1);
  reads = λ field list _ h.
      let k = read_text t field list h in
      let p = passed_text t field_rules list_rules (map byte_character field) k.0 in
      let b = bytes_there field in
      let e = k.1 in
      rw (← e, b.0, p.3, b.1);
  bytes = λ list field _ h.
      let k = written_text t list field h in
      let e = k.2 in
      rw e at (numbers_back list k.1).2;
  numbers = λ field list _ h.
      let k = read_text t field list h in
      let p = passed_text t field_rules field_rules (map byte_character field) k.0 in
      let e = k.1 in
      let c : AllByRecursion (λ o. (c : ℕ) × (o ≡ Some c)) (map number_character (map pos field)) = rw (bytes_there field).0 p.2 in
      rw e at (All-weaker (λ z. within top_character z ≡ true) Number number_fits (map pos field) (numbers_in_range (map pos field) c));
  even = λ field list h.
      let p = passed_text t field_rules field_rules (map byte_character field) (read_text t field list h).0 in
      let n = length-map field byte_character in
      omega arith;
  short = λ field list h.
      let p = passed_text t field_rules field_rules (map byte_character field) (read_text t field list h).0 in
      let n = length-map field byte_character in
      omega arith;
  few = λ field list h.
      let k = read_text t field list h in
      let p = passed_text t field_rules field_rules (map byte_character field) k.0 in
      let n = length-map field byte_character in
      let m = length-map field pos in
      let e = ap length k.1 in
      omega arith;
}
