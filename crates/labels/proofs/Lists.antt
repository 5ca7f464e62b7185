-- Whole fields and whole lists: their checks one after another, and what an accepted one is.
use Rattle.std.proofs.Common.{◌≡◌, ℕ, zero, suc, ◌+◌, ◌-◌, ◌<◌, ◌≤◌, true, List, [], ◌∷◌, ◌++◌, map, length, get_or, take, drop, ℤ, pos, nat_abs, Ok, Err, Result, sym, refl, ap, ◌∙◌, arith}
use Rattle.std.specs.List.{AllByRecursion}
use Rattle.std.proofs.lemmas.List.{take_at, length-take-le, length-drop}
use Rattle.wire.specs.Pairs.{pair}
use Rattle.wire.specs.Steps.{◌>>=◌}
use Rattle.wire.proofs.Passing.{went_on, same_ok}
use Rattle.books.specs.declared.faults.Rule.TheVariants.{DataLength, ListLength, NumberRange, ByteRange}
use Rattle.books.specs.declared.faults.FieldFault.{FieldFault}
use Rattle.books.specs.Books.{Reading, Writing, judged, weighed}
use Rattle.books.specs.Words.{within}
use Rattle.cells.specs.Signs.{signed, byte_half, pair_half}
use Rattle.cells.specs.Cells.{turns, checked, or_fault, upto, flag_numbers}
use Rattle.cells.specs.Characters.{byte_character, number_character}
use Rattle.cells.specs.CellLaws.{turned}
use Rattle.cells.specs.CodeLaws.{tested, found}
use Rattle.cells.specs.Layouts.{whole, fitted}
use Rattle.cells.specs.LayoutLaws.{layout_read, layout_written, whole_sound}
use Rattle.cells.proofs.Counting.{judged_checked}
use Rattle.cells.proofs.Turning.{checked_turn}
use Rattle.labels.specs.Labels.{labels, character, labels_meaning, characters_checked, written_head}
use Rattle.labels.specs.LabelLaws.{head_sound, character_sound}
use Rattle.labels.proofs.Characters.{counted_length, field_characters, list_characters}
use Rattle.labels.proofs.Heads.{seven}
use Rattle.labels.proofs.Tails.{tail_at}

-- ---- accepted characters
characters_read : (k at : ℕ) (field : List ℕ) (list : List ℤ) → length field ≡ k → turns k 1 character.reading at field ≡ Ok list → list ≡ map pos field
characters_read zero at [] list l h = sym (same_ok h)
characters_read zero at (b ∷ field) list l h = absurd (omega arith)
characters_read (suc k) at [] list l h = absurd (omega arith)
characters_read (suc k) at (b ∷ field) list l h =
    let t = turned 1 character.reading (turns k 1 character.reading) at (b ∷ field) list h in
    let c = went_on (or_fault ByteRange at ((upto 127).number b)) (λ z. Ok (z ∷ [])) t.2 in
    let v = (tested _ (pos b) c.0 (found ByteRange at ((upto 127).number b) c.0 c.1)).1 in
    let o = same_ok c.2 in
    let more = characters_read k (at + 1) field t.1 (omega arith) t.3 in
    let e = t.4 in
    cc

characters_written : (k at : ℕ) (list : List ℤ) (field : List ℕ) → length list ≡ k → turns k 1 character.writing at list ≡ Ok field → AllByRecursion (λ z. within 127 z ≡ true) list × (field ≡ map nat_abs list)
characters_written zero at [] field l h = (tt, sym (same_ok h))
characters_written zero at (z ∷ list) field l h = absurd (omega arith)
characters_written (suc k) at [] field l h = absurd (omega arith)
characters_written (suc k) at (z ∷ list) field l h =
    let t = turned 1 character.writing (turns k 1 character.writing) at (z ∷ list) field h in
    let c = went_on (or_fault NumberRange at ((upto 127).worth z)) (λ n. Ok (n ∷ [])) t.2 in
    let v : (within 127 z ≡ true) × (nat_abs z ≡ c.0) = tested _ (nat_abs z) c.0 (found NumberRange at ((upto 127).worth z) c.0 c.1) in
    let o = same_ok c.2 in
    let more = characters_written k (at + 1) list t.1 (omega arith) t.3 in
    let w = v.1 in
    let r = more.1 in
    let e = t.4 in
    ((v.0, more.0), cc)

-- ---- an accepted field
abbrev pub numbers_of : List ℕ → List ℤ
numbers_of field =
    signed pair_half (pair (get_or field 0 0) (get_or field 1 0))
    ∷ signed pair_half (pair (get_or field 2 0) (get_or field 3 0))
    ∷ signed byte_half (get_or field 4 0)
    ∷ signed byte_half (get_or field 5 0)
    ∷ flag_numbers (get_or field 6 0) ++ map pos (drop 7 field)

pub field_numbers : (field : List ℕ) (list : List ℤ) → labels_meaning.reading field ≡ Ok list → (list ≡ numbers_of field) × (length list ≡ length field) × (7 ≤ length field)
field_numbers field list h =
    let p = layout_read labels field list h in
    let size = p.1 in
    let t = turned 7 labels.head.reading (turns p.0 1 character.reading) 0 field list p.3 in
    let head = same_ok (sym (ap (labels.head.reading 0) (seven 0 field (omega arith))) ∙ t.2) in
    let back = characters_read p.0 7 (drop 7 field) t.1 (omega (arith, length-drop 7 field)) t.3 in
    let n = (whole_sound labels head_sound character_sound p.0).counted 0 field list p.1 p.3 in
    let e = t.4 in
    (cc, omega arith, omega arith)

pub character_number : (field : List ℕ) (list : List ℤ) (i : ℕ) → labels_meaning.reading field ≡ Ok list → 7 ≤ i → i < length field → pos (get_or field i 0) ≡ get_or list i (pos 0)
character_number field list i h l m = sym (ap (λ zs. get_or zs i (pos 0)) (field_numbers field list h).0 ∙ tail_at pos (take 7 (numbers_of field)) field refl i 0 (pos 0) l m)

pub field_accepted : (field : List ℕ) (a : Result ℕ FieldFault) (n : ℕ) → a ≡ judged (labels_meaning.reading field) → a ≡ Ok n → (list : List ℤ) × (labels_meaning.reading field ≡ Ok list) × (length list ≡ n) × (n ≡ length field) × (7 ≤ length field)
field_accepted field a n e h = go (labels_meaning.reading field) refl (sym e ∙ h)
  where
    go : (r : Reading) → labels_meaning.reading field ≡ r → judged r ≡ Ok n → (list : List ℤ) × (labels_meaning.reading field ≡ Ok list) × (length list ≡ n) × (n ≡ length field) × (7 ≤ length field)
    go (Err f) r g = let z : ◌≡◌ {A = ℕ} 0 1 = cc in absurd (omega arith)
    go (Ok list) r g = let k = field_numbers field list r in let o = same_ok g in (list, r, o, omega arith, k.2)

-- the length, and then the characters
abbrev pub field_checks : List ℕ → Result ℕ FieldFault
field_checks field = do
  _ ← or_fault DataLength (length field) (fitted labels.many 7 1 (length field))
  _ ← characters_checked ByteRange (map byte_character field)
  Ok (length field)

pub field_judged : (field : List ℕ) → field_checks field ≡ judged (labels_meaning.reading field)
field_judged field = go (or_fault DataLength (length field) (fitted labels.many 7 1 (length field))) refl
  where
    go : (o : Result ℕ FieldFault) → or_fault DataLength (length field) (fitted labels.many 7 1 (length field)) ≡ o → (o >>= λ _. characters_checked ByteRange (map byte_character field) >>= λ _. Ok (length field)) ≡ judged (o >>= λ k. (whole labels k).reading 0 field)
    go (Err f) e = refl
    go (Ok k) e =
        let c = counted_length DataLength (length field) k e in
        let t = checked_turn 7 labels.head.reading (turns k 1 character.reading) 0 field in
        let b = c.2 in
        let f = field_characters field in
        let j = judged_checked ((whole labels k).reading 0 field) (length field) (λ list h. let n = (whole_sound labels head_sound character_sound k).counted 0 field list (omega arith) h in omega arith) in
        sym (sym j ∙ rw (t, f) (rw b refl))

-- ---- an accepted list
list_length : (list : List ℤ) (field : List ℕ) → labels_meaning.writing list ≡ Ok field → length field ≡ length list
list_length list field h =
    let p = layout_written labels list field h in
    let s = ((whole_sound labels head_sound character_sound p.0).written 0 list field p.1 p.3).0 in
    let c = p.1 in
    omega arith

pub list_bytes : (list : List ℤ) (head : List ℕ) → written_head (labels_meaning.writing list) ≡ Ok head → (7 ≤ length list) × AllByRecursion (λ z. within 127 z ≡ true) (drop 7 list) × (labels_meaning.writing list ≡ Ok (head ++ map nat_abs (drop 7 list))) × (length (head ++ map nat_abs (drop 7 list)) ≡ length list)
list_bytes list head h = go (labels_meaning.writing list) refl h
  where
    go : (w : Writing) → labels_meaning.writing list ≡ w → written_head w ≡ Ok head → (7 ≤ length list) × AllByRecursion (λ z. within 127 z ≡ true) (drop 7 list) × (labels_meaning.writing list ≡ Ok (head ++ map nat_abs (drop 7 list))) × (length (head ++ map nat_abs (drop 7 list)) ≡ length list)
    go (Err f) w g = let z : ◌≡◌ {A = ℕ} 0 1 = cc in absurd (omega arith)
    go (Ok field) w g =
        let p = layout_written labels list field w in
        let count = p.1 in
        let t = turned 7 labels.head.writing (turns p.0 1 character.writing) 0 list field p.3 in
        let size = (head_sound.written 0 (take 7 list) t.0 (length-take-le 7 list (omega arith)) t.2).0 in
        let back = characters_written p.0 7 (drop 7 list) t.1 (omega (arith, length-drop 7 list)) t.3 in
        let front : take 7 field ≡ t.0 = ap (take 7) (sym t.4) ∙ take_at t.0 t.1 7 size in
        let is : t.0 ≡ head = sym front ∙ same_ok g in
        let rest = back.1 in
        let all : field ≡ head ++ map nat_abs (drop 7 list) = sym t.4 ∙ cc in
        (omega arith, back.0, w ∙ ap Ok all, ap length (sym all) ∙ list_length list field w)

pub head_refused : (w : Writing) (f : FieldFault) → written_head w ≡ Err f → w ≡ Err f
head_refused (Ok field) f h = let z : ◌≡◌ {A = ℕ} 0 1 = cc in absurd (omega arith)
head_refused (Err g) f h = h

-- the length, and then the head and the characters
abbrev pub list_checks : List ℤ → Writing
list_checks list = do
  _ ← or_fault ListLength (length list) (fitted labels.many 7 1 (length list))
  head ← labels.head.writing 0 (take 7 list)
  _ ← characters_checked NumberRange (map number_character list)
  Ok head

pub list_checked : (list : List ℤ) → list_checks list ≡ written_head (labels_meaning.writing list)
list_checked list = go (or_fault ListLength (length list) (fitted labels.many 7 1 (length list))) refl
  where
    go : (o : Result ℕ FieldFault) → or_fault ListLength (length list) (fitted labels.many 7 1 (length list)) ≡ o → (o >>= λ _. labels.head.writing 0 (take 7 list) >>= λ head. characters_checked NumberRange (map number_character list) >>= λ _. Ok head) ≡ written_head (o >>= λ k. (whole labels k).writing 0 list)
    go (Err f) e = refl
    go (Ok k) e =
        let c = counted_length ListLength (length list) k e in
        let b = c.2 in
        let f = list_characters list in
        rw (f, b) (parts (labels.head.writing 0 (take 7 list)) (turns (length list - 7) 1 character.writing 7 (drop 7 list)) (λ head h. (head_sound.written 0 (take 7 list) head (length-take-le 7 list (omega arith)) h).0))
      where
        parts : (a r : Writing) → ((head : List ℕ) → a ≡ Ok head → length head ≡ 7) → (a >>= λ head. checked r >>= λ _. Ok head) ≡ written_head (a >>= λ head. r >>= λ more. Ok (head ++ more))
        parts (Err f) r l = refl
        parts (Ok head) (Err f) l = refl
        parts (Ok head) (Ok more) l = ap Ok (sym (take_at head more 7 (l head refl)))

pub list_weighed : (list : List ℤ) → weighed (labels_meaning.writing list) ≡ (written_head (labels_meaning.writing list) >>= λ _. Ok (length list))
list_weighed list = go (labels_meaning.writing list) refl
  where
    go : (w : Writing) → labels_meaning.writing list ≡ w → weighed w ≡ (written_head w >>= λ _. Ok (length list))
    go (Err f) e = refl
    go (Ok field) e = ap Ok (list_length list field e)
