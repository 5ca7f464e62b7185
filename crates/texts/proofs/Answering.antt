-- What the weight of a list tells of its characters, and of what is written.
use Rattle.std.proofs.Common.{◌≡◌, ℕ, true, List, map, length, ℤ, nat_abs, Ok, Err, Result, refl, ◌∙◌, arith}
use Rattle.std.specs.List.{AllByRecursion}
use Rattle.std.proofs.lemmas.List.{length-map}
use Rattle.wire.specs.Steps.{◌>>=◌}
use Rattle.books.specs.declared.faults.FieldFault.{FieldFault}
use Rattle.books.specs.Books.{weighed}
use Rattle.books.specs.Words.{within}
use Rattle.cells.specs.Characters.{top_character, number_character}
use Rattle.texts.specs.Texts.{TextMeaning, checked, list_rules, text_kind}
use Rattle.texts.specs.TextLaws.{passed_text, numbers_in_range}

ok_weighed : (r : Result (Unit {0}) FieldFault) (field : List ℕ) (a : Result ℕ FieldFault) (n : ℕ) → a ≡ weighed (r >>= (λ _. Ok field)) → a ≡ Ok n → (r ≡ Ok tt) × (n ≡ length field)
ok_weighed (Ok u) field a n h e = (refl, cc)
ok_weighed (Err f) field a n h e = let z : ◌≡◌ {A = ℕ} 0 1 = cc in absurd (omega arith)

pub weight_text : (t : TextMeaning) (list : List ℤ) (a : Result ℕ FieldFault) (n : ℕ) → a ≡ weighed ((text_kind t).writing list) → a ≡ Ok n → AllByRecursion (λ z. within top_character z ≡ true) list × (n ≡ length list) × ((text_kind t).writing list ≡ Ok (map nat_abs list))
weight_text t list a n h e =
    let k = ok_weighed (checked t list_rules (map number_character list)) (map nat_abs list) a n h e in
    let p = passed_text t list_rules list_rules (map number_character list) k.0 in
    let c = k.0 in
    (numbers_in_range list p.2, k.1 ∙ length-map list nat_abs, rw c)
