-- A whole data field or list: its length first, then its head, then its barbs.
use Rattle.std.proofs.Common.{◌≡◌, ℕ, ◌+◌, ◌-◌, ◌*◌, ◌/◌, ◌<◌, ◌≤◌, true, leb, List, [], ◌∷◌, ◌++◌, length, get_or, take, drop, ℤ, pos, Ok, Err, Result, sym, refl, ap, ◌∙◌, arith}
use Rattle.std.proofs.lemmas.Bool.{le-leb}
use Rattle.wire.specs.Steps.{◌>>=◌}
use Rattle.books.specs.declared.faults.Rule.TheVariants.{DataLength, ListLength, NumberRange, ByteRange}
use Rattle.books.specs.declared.faults.FieldFault.{FieldFault}
use Rattle.books.specs.Books.{judged, weighed}
use Rattle.cells.specs.Cells.{or_fault, upto, bit_seven, turns, checked}
use Rattle.cells.specs.CodeLaws.{found}
use Rattle.cells.specs.Layouts.{whole, fitted, layout_reading, layout_writing}
use Rattle.cells.specs.LayoutLaws.{fitted_parts, whole_sound}
use Rattle.cells.proofs.Counting.{judged_checked, weighed_checked}
use Rattle.cells.proofs.Turning.{checked_turn}
use Rattle.winds.specs.Winds.{barb, winds}
use Rattle.winds.specs.WindLaws.{head_sound, barb_sound}

abbrev passes : Result (Unit {0}) FieldFault
passes = Ok tt

-- ---- the head
head_read : (field : List ℕ) → 2 ≤ length field → get_or field 0 0 < 256 → checked (winds.head.reading 0 (take 2 field)) ≡ (or_fault ByteRange 1 (bit_seven.number (get_or field 1 0)) >>= λ _. Ok tt)
head_read [] l h = absurd (omega arith)
head_read (a ∷ []) l h = absurd (omega arith)
head_read (a ∷ b ∷ field) l h = let e : leb a 255 ≡ true = le-leb _ _ (omega arith) in rw e (go (or_fault ByteRange 1 (bit_seven.number b)))
  where
    go : (r : Result ℤ FieldFault) → checked ((r >>= λ z. Ok (z ∷ [])) >>= (λ ys. Ok (ys ++ [])) >>= λ more. Ok (pos a ∷ more)) ≡ (r >>= λ _. Ok tt)
    go (Ok z) = refl
    go (Err f) = refl

head_written : (list : List ℤ) → 2 ≤ length list → checked (winds.head.writing 0 (take 2 list)) ≡ (or_fault NumberRange 0 ((upto 255).worth (get_or list 0 (pos 0))) >>= λ _. or_fault NumberRange 1 (bit_seven.worth (get_or list 1 (pos 0))) >>= λ _. Ok tt)
head_written [] l = absurd (omega arith)
head_written (x ∷ []) l = absurd (omega arith)
head_written (x ∷ y ∷ list) l = go (or_fault NumberRange 0 ((upto 255).worth x)) (or_fault NumberRange 1 (bit_seven.worth y))
  where
    go : (r s : Result ℕ FieldFault) → checked ((r >>= λ n. Ok (n ∷ [])) >>= λ ys. ((s >>= λ n. Ok (n ∷ [])) >>= (λ zs. Ok (zs ++ []))) >>= λ more. Ok (ys ++ more)) ≡ (r >>= λ _. s >>= λ _. Ok tt)
    go (Ok n) (Ok m) = refl
    go (Ok n) (Err f) = refl
    go (Err f) s = refl

-- ---- the checks of a field, one after another
abbrev judging : ℕ → List ℕ → Result ℕ FieldFault
judging k field = do
  _ ← or_fault ByteRange 1 (bit_seven.number (get_or field 1 0))
  _ ← checked (turns ((length field - 2) / 10) 10 barb.reading 2 (drop 2 field))
  Ok (2 + 6 * k)

abbrev pub field_checks : List ℕ → Result ℕ FieldFault
field_checks field = or_fault DataLength (length field) (fitted winds.many 2 10 (length field)) >>= λ k. judging k field

judging_whole : (k : ℕ) (field : List ℕ) → length field ≡ 2 + k * 10 → get_or field 0 0 < 256 → judging k field ≡ judged ((whole winds k).reading 0 field)
judging_whole k field l b =
    let q : (length field - 2) / 10 ≡ k = omega arith in
    let s = whole_sound winds head_sound barb_sound k in
    let j = judged_checked ((whole winds k).reading 0 field) (2 + 6 * k) (λ list h. let n = s.counted 0 field list l h in omega arith) in
    let c = checked_turn 2 winds.head.reading (turns k 10 barb.reading) 0 field in
    rw q (go (or_fault ByteRange 1 (bit_seven.number (get_or field 1 0))) _ ∙ ap (λ r. (r >>= λ _. checked (turns k 10 barb.reading 2 (drop 2 field))) >>= λ _. Ok (2 + 6 * k)) (sym (head_read field (omega arith) b)) ∙ ap (λ r. r >>= λ _. Ok (2 + 6 * k)) (sym c) ∙ j)
  where
    go : (r : Result ℤ FieldFault) (t : Result (Unit {0}) FieldFault) → (r >>= λ _. t >>= λ _. Ok (2 + 6 * k)) ≡ (((r >>= λ _. passes) >>= λ _. t) >>= λ _. Ok (2 + 6 * k))
    go (Ok z) t = refl
    go (Err f) t = refl

pub judged_whole : (field : List ℕ) → get_or field 0 0 < 256 → field_checks field ≡ judged (layout_reading winds field)
judged_whole field b = go (or_fault DataLength (length field) (fitted winds.many 2 10 (length field))) (λ k h. judging_whole k field (fitted_parts winds.many 2 10 (length field) k (found DataLength (length field) _ k h)).0 b)
  where
    go : (o : Result ℕ FieldFault) → ((k : ℕ) → o ≡ Ok k → judging k field ≡ judged ((whole winds k).reading 0 field)) → (o >>= λ k. judging k field) ≡ judged (o >>= λ k. (whole winds k).reading 0 field)
    go (Ok k) h = h k refl
    go (Err f) h = refl

-- ---- the checks of a list, one after another
abbrev weighing : ℕ → List ℤ → Result ℕ FieldFault
weighing k list = do
  _ ← or_fault NumberRange 0 ((upto 255).worth (get_or list 0 (pos 0)))
  _ ← or_fault NumberRange 1 (bit_seven.worth (get_or list 1 (pos 0)))
  _ ← checked (turns ((length list - 2) / 6) 6 barb.writing 2 (drop 2 list))
  Ok (2 + 10 * k)

abbrev pub list_checks : List ℤ → Result ℕ FieldFault
list_checks list = or_fault ListLength (length list) (fitted winds.many 2 6 (length list)) >>= λ k. weighing k list

weighing_whole : (k : ℕ) (list : List ℤ) → length list ≡ 2 + k * 6 → weighing k list ≡ weighed ((whole winds k).writing 0 list)
weighing_whole k list l =
    let q : (length list - 2) / 6 ≡ k = omega arith in
    let s = whole_sound winds head_sound barb_sound k in
    let j = weighed_checked ((whole winds k).writing 0 list) (2 + 10 * k) (λ field h. let n = (s.written 0 list field l h).0 in omega arith) in
    let c = checked_turn 2 winds.head.writing (turns k 6 barb.writing) 0 list in
    rw q (go (or_fault NumberRange 0 ((upto 255).worth (get_or list 0 (pos 0)))) (or_fault NumberRange 1 (bit_seven.worth (get_or list 1 (pos 0)))) _ ∙ ap (λ r. (r >>= λ _. checked (turns k 6 barb.writing 2 (drop 2 list))) >>= λ _. Ok (2 + 10 * k)) (sym (head_written list (omega arith))) ∙ ap (λ r. r >>= λ _. Ok (2 + 10 * k)) (sym c) ∙ j)
  where
    go : (r s : Result ℕ FieldFault) (t : Result (Unit {0}) FieldFault) → (r >>= λ _. s >>= λ _. t >>= λ _. Ok (2 + 10 * k)) ≡ (((r >>= λ _. s >>= λ _. passes) >>= λ _. t) >>= λ _. Ok (2 + 10 * k))
    go (Ok n) (Ok m) t = refl
    go (Ok n) (Err f) t = refl
    go (Err f) s t = refl

pub weighed_whole : (list : List ℤ) → list_checks list ≡ weighed (layout_writing winds list)
weighed_whole list = go (or_fault ListLength (length list) (fitted winds.many 2 6 (length list))) (λ k h. weighing_whole k list (fitted_parts winds.many 2 6 (length list) k (found ListLength (length list) _ k h)).0)
  where
    go : (o : Result ℕ FieldFault) → ((k : ℕ) → o ≡ Ok k → weighing k list ≡ weighed ((whole winds k).writing 0 list)) → (o >>= λ k. weighing k list) ≡ weighed (o >>= λ k. (whole winds k).writing 0 list)
    go (Ok k) h = h k refl
    go (Err f) h = refl
