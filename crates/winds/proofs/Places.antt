-- The number at an index, and the barbs of a list at their places.
use Rattle.std.proofs.Common.{◌≡◌, ℕ, ◌+◌, ◌-◌, ◌*◌, ◌/◌, ◌%◌, ◌<◌, ◌≤◌, true, List, [], ◌∷◌, ◌++◌, length, get_or, take, drop, set, ℤ, pos, is_ok, Some, None, Ok, Err, sym, refl, ap, ◌∙◌, arith, take-add}
use borrow.Rule.Slice.PartMut.{put_mid}
use Rattle.std.proofs.lemmas.List.{get_or-take, get_or-drop, length-drop, length-take-le, take_at, take_all}
use Rattle.std.proofs.lemmas.Option.{slice_get-get_or, slice_get_past}
use Rattle.std.proofs.lemmas.Slice.{take-put_mid}
use Rattle.std.specs.List.{slice_get}
use Rattle.std.specs.Simd.{first_chunks}
use Rattle.books.specs.declared.faults.Rule.TheVariants.{NumberRange}
use Rattle.books.specs.Books.{Reading, Writing, judged, weighed, number_at}
use Rattle.cells.specs.Cells.{or_fault, upto, bit_seven, turns}
use Rattle.cells.specs.CellLaws.{turned}
use Rattle.cells.specs.Layouts.{whole, layout_reading, layout_writing}
use Rattle.cells.specs.LayoutLaws.{layout_read, layout_written, whole_sound}
use Rattle.cells.proofs.Turning.{part_of}
use Rattle.winds.specs.declared.barb.Barb.{Barb}
use Rattle.winds.specs.Winds.{barb, winds, barb_numbers, barb_of, barb_read}
use Rattle.winds.specs.WindLaws.{head_sound, barb_sound, few_barbs}
use Rattle.winds.proofs.Barbs.{chunk_of, six}

-- ---- what an accepted field is, and the number at an index
pub record Read (field : List ℕ) : Type 0 where
  pub barbs : ℕ
  pub list : List ℤ
  pub few : barbs ≤ 409
  pub size : length field ≡ 2 + barbs * 10
  pub count : length list ≡ 2 + barbs * 6
  pub is : layout_reading winds field ≡ Ok list
  pub all : (whole winds barbs).reading 0 field ≡ Ok list

ok_list : (r : Reading) → is_ok (judged r) ≡ true → (list : List ℤ) × (r ≡ Ok list)
ok_list (Ok list) h = (list, refl)
ok_list (Err f) h = let z : ◌≡◌ {A = ℕ} 0 1 = cc in absurd (omega arith)

pub read_known : (field : List ℕ) → is_ok (judged (layout_reading winds field)) ≡ true → Read field
read_known field h =
    let k = ok_list (layout_reading winds field) h in
    let p = layout_read winds field k.0 k.1 in
    let n = (whole_sound winds head_sound barb_sound p.0).counted 0 field k.0 p.1 p.3 in
    record { barbs = p.0; list = k.0; few = (few_barbs p.0 p.2).1; size = p.1; count = n; is = k.1; all = p.3 }

-- the barb at i
pub barb_at : (field : List ℕ) (list : List ℤ) (k i : ℕ) → length field ≡ 2 + k * 10 → (whole winds k).reading 0 field ≡ Ok list → i < k → barb_read (2 + 10 * i) (take 10 (drop (2 + 10 * i) field)) ≡ Ok (barb_of (take 6 (drop (2 + 6 * i) list)))
barb_at field list k i l h lt =
    let p = part_of 2 2 10 6 winds.head.reading barb.reading head_sound.counted barb_sound.counted k field list l h i lt in
    rw p

-- the chunks of an accepted field are its barbs, and each reads as one
pub chunk_count : (field : List ℕ) (k n : ℕ) → length field ≡ 2 + k * 10 → n ≡ length (take (length field - 2) (drop 2 field)) / 10 → n ≡ k
chunk_count field k n l e = let t = ap length (take_all (length field - 2) (drop 2 field) (omega (arith, length-drop 2 field))) in omega (arith, length-drop 2 field)

pub chunk_read : (field : List ℕ) (r : Read field) (chunks : List (List ℕ)) (bytes : List ℕ) (i : ℕ) → chunks ≡ first_chunks 10 (length (take (length field - 2) (drop 2 field)) / 10) (take (length field - 2) (drop 2 field)) → length chunks ≡ length (take (length field - 2) (drop 2 field)) / 10 → i < length chunks → bytes ≡ get_or chunks i bytes → barb_read (2 + 10 * i) bytes ≡ Ok (barb_of (take 6 (drop (2 + 6 * i) r.list)))
chunk_read field r chunks bytes i e l h b =
    let n = chunk_count field r.barbs _ r.size l in
    let p = b ∙ chunk_of 10 2 i field chunks bytes e l h in
    ap (barb_read (2 + 10 * i)) p ∙ barb_at field r.list r.barbs i r.size r.all (omega arith)

pub number_past : (field : List ℕ) (r : Read field) (index n : ℕ) → 2 ≤ index → n ≡ length (take (length field - 2) (drop 2 field)) / 10 → n ≤ (index - 2) / 6 → None ≡ number_at (layout_reading winds field) index
number_past field r index n two e l =
    let k = chunk_count field r.barbs n r.size e in
    let c = r.count in
    sym (ap (λ t. number_at t index) r.is ∙ slice_get_past r.list index (omega arith))

pub number_in : (list : List ℤ) (k index : ℕ) (b : Barb) → length list ≡ 2 + k * 6 → 2 ≤ index → index < length list → barb_of (take 6 (drop (2 + 6 * ((index - 2) / 6)) list)) ≡ b → Some (get_or (barb_numbers b) ((index - 2) % 6) (pos 0)) ≡ slice_get list index
number_in list k index b n two l e =
    let at = 2 + 6 * ((index - 2) / 6) in
    let s : take 6 (drop at list) ≡ barb_numbers b = sym (six list at (omega arith)) ∙ ap barb_numbers e in
    let g = get_or-take 6 (drop at list) ((index - 2) % 6) (pos 0) (omega arith) in
    let d = get_or-drop at list ((index - 2) % 6) (pos 0) in
    let i : at + (index - 2) % 6 ≡ index = omega arith in
    let w : get_or (barb_numbers b) ((index - 2) % 6) (pos 0) ≡ get_or list index (pos 0) = ap (λ xs. get_or xs ((index - 2) % 6) (pos 0)) (sym s) ∙ g ∙ d ∙ ap (λ j. get_or list j (pos 0)) i in
    ap Some w ∙ sym (slice_get-get_or list index (pos 0) l)

-- ---- what an accepted list is, and the bytes of its barbs
pub record Written (list : List ℤ) (field : List ℕ) : Type 0 where
  pub barbs : ℕ
  pub count : length list ≡ 2 + barbs * 6
  pub size : length field ≡ 2 + barbs * 10
  pub all : (whole winds barbs).writing 0 list ≡ Ok field

pub written_known : (list : List ℤ) (field : List ℕ) → layout_writing winds list ≡ Ok field → Written list field
written_known list field h =
    let p = layout_written winds list field h in
    record { barbs = p.0; count = p.1; size = ((whole_sound winds head_sound barb_sound p.0).written 0 list field p.1 p.3).0; all = p.3 }

pub ok_field : (r : Writing) (n : ℕ) → weighed r ≡ Ok n → (field : List ℕ) × (r ≡ Ok field) × (length field ≡ n)
ok_field (Ok field) n h = (field, refl, cc)
ok_field (Err f) n h = let z : ◌≡◌ {A = ℕ} 0 1 = cc in absurd (omega arith)

pub right_length : (r : Writing) (field : List ℕ) (n : ℕ) → weighed r ≡ Ok n → r ≡ Ok field → length field ≡ n
right_length (Ok field') field n h e = let f : field' ≡ field = cc in let g : length field' ≡ n = cc in ap length (sym f) ∙ g
right_length (Err f) field n h e = let z : ◌≡◌ {A = ℕ} 0 1 = cc in absurd (omega arith)

pub barb_bytes : (list : List ℤ) (field : List ℕ) (k i : ℕ) → length list ≡ 2 + k * 6 → (whole winds k).writing 0 list ≡ Ok field → i < k → barb.writing (2 + 6 * i) (take 6 (drop (2 + 6 * i) list)) ≡ Ok (take 10 (drop (2 + 10 * i) field))
barb_bytes list field k i l h lt =
    part_of 2 2 6 10 winds.head.writing barb.writing
    (λ at xs ys n e. (head_sound.written at xs ys n e).0)
    (λ at xs ys n e. (barb_sound.written at xs ys n e).0)
    k list field l h i lt

-- ---- a loop that writes
head_bytes : (list : List ℤ) (a b : ℕ) → 2 ≤ length list → or_fault NumberRange 0 ((upto 255).worth (get_or list 0 (pos 0))) ≡ Ok a → or_fault NumberRange 1 (bit_seven.worth (get_or list 1 (pos 0))) ≡ Ok b → winds.head.writing 0 (take 2 list) ≡ Ok (a ∷ b ∷ [])
head_bytes [] a b l p q = absurd (omega arith)
head_bytes (x ∷ []) a b l p q = absurd (omega arith)
head_bytes (x ∷ y ∷ list) a b l p q = rw (p, q)

two_set : (place : List ℕ) (a b : ℕ) → 2 ≤ length place → take 2 (set (set place 0 a) 1 b) ≡ a ∷ b ∷ []
two_set [] a b l = absurd (omega arith)
two_set (x ∷ []) a b l = absurd (omega arith)
two_set (x ∷ y ∷ place) a b l = refl

pub put_more : (field place bytes : List ℕ) (i m : ℕ) → 2 + 10 * i + 10 ≤ length field → length place ≡ length field → bytes ≡ take 10 (drop (2 + 10 * i) field) → take (2 + 10 * i) place ≡ take (2 + 10 * i) field → take (2 + 10 * (i + 1)) (put_mid (2 + 10 * i) m place bytes) ≡ take (2 + 10 * (i + 1)) field
put_more field place bytes i m l n e inv =
    let at = 2 + 10 * i in
    let j : 2 + 10 * (i + 1) ≡ at + 10 = omega arith in
    let s : length bytes ≡ 10 = ap length e ∙ length-take-le 10 (drop at field) (omega (arith, length-drop at field)) in
    let p = take-put_mid at m place bytes (at + 10) (omega arith) (omega arith) in
    let q : take at field ++ take 10 (drop at field) ≡ take (at + 10) field = sym (take-add at 10 field) in
    rw j (p ∙ ap (λ f. f ++ bytes) inv ∙ ap (λ b. take at field ++ b) e ∙ q)

pub put_head : (list : List ℤ) (field place : List ℕ) (k a b : ℕ) → length list ≡ 2 + k * 6 → (whole winds k).writing 0 list ≡ Ok field → or_fault NumberRange 0 ((upto 255).worth (get_or list 0 (pos 0))) ≡ Ok a → or_fault NumberRange 1 (bit_seven.worth (get_or list 1 (pos 0))) ≡ Ok b → 2 ≤ length place → take 2 (set (set place 0 a) 1 b) ≡ take 2 field
put_head list field place k a b n h p q l =
    let t = turned 2 winds.head.writing (turns k 6 barb.writing) 0 list field h in
    let w = head_bytes list a b (omega arith) p q in
    let f : t.0 ≡ a ∷ b ∷ [] = let o = t.2 in cc in
    let e = t.4 in
    let g : take 2 field ≡ t.0 = ap (take 2) (sym e) ∙ take_at t.0 t.1 2 (ap length f) in
    two_set place a b l ∙ sym (g ∙ f)

pub put_all : (field place : List ℕ) (n : ℕ) → length place ≡ n → length field ≡ n → take n place ≡ take n field → place ≡ field
put_all field place n p f e = sym (take_all n place (omega arith)) ∙ e ∙ take_all n field (omega arith)
