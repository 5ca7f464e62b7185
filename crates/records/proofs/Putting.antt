-- A block put together in its place: the field, then the head, then the CHECKSUM.
use Rattle.std.proofs.Common.{◌≡◌, ℕ, ◌+◌, ◌-◌, ◌*◌, ◌/◌, ◌%◌, List, ◌∷◌, ◌++◌, length, take, drop, Ok, Err, Result, sym, refl, ap, ◌∙◌, ap₂, arith}
use borrow.Rule.Slice.PartMut.{put_mid}
use Rattle.std.proofs.lemmas.List.{length-append, length-take, length-drop, take_at, drop_at, drop-drop}
use Rattle.std.proofs.lemmas.Bool.{eq-eqb, ne_eqb, cond-true, cond-false}
use Rattle.wire.specs.declared.forms.Form.{Form}
use Rattle.wire.specs.Blocks.{front, checksum, block_bytes, pairs_of}
use Rattle.wire.specs.Forms.{form_number, checksum_pairs, fewest_pairs}
use Rattle.wire.specs.Pairs.{pair_bytes}
use Rattle.books.specs.declared.faults.FieldFault.{FieldFault}
use Rattle.books.specs.declared.faults.Rule.TheVariants.{DataLength}
use Rattle.books.specs.Books.{Meaning, answered, placed}
use Rattle.books.specs.Faults.{fault_at}
use Rattle.books.proofs.Written.{written_place}
use Rattle.wire.proofs.Passing.{same_ok}
use Rattle.records.specs.Records.{Record, sealed, as_block, block_writing}
use Rattle.records.proofs.Sizes.{Weighed}

-- ---- what a write of the block answers, and what the place then holds
module _ (M : Meaning) (r : Record) (n : ℕ) (w : Weighed M r n) (place : List ℕ) where
  pub fits_answer : length place ≡ 2 * fewest_pairs r.form + n → answered (block_writing M r) place ≡ Ok tt
  fits_answer h =
      ap (λ u. answered (as_block r u) place) w.written
      ∙ cond-true _ _ _ (eq-eqb (length place) _ (h ∙ sym w.size ∙ ap length w.whole))

  pub fits_place : length place ≡ 2 * fewest_pairs r.form + n → placed (block_writing M r) place ≡ block_bytes r.form r.mode r.submode w.field
  fits_place h =
      ap (λ u. placed (as_block r u) place) w.written
      ∙ cond-true _ _ _ (eq-eqb (length place) _ (h ∙ sym w.size ∙ ap length w.whole))

  misfit : (length place ≡ 2 * fewest_pairs r.form + n → ⊥) → length place ≡ length (block_bytes r.form r.mode r.submode w.field) → ⊥
  misfit h e = h (e ∙ sym (ap length w.whole) ∙ w.size)

  pub other_answer : (length place ≡ 2 * fewest_pairs r.form + n → ⊥) → answered (block_writing M r) place ≡ Err (fault_at DataLength (length place))
  other_answer h = ap (λ u. answered (as_block r u) place) w.written ∙ cond-false _ _ _ (ne_eqb (length place) _ (misfit h))

  pub other_place : (length place ≡ 2 * fewest_pairs r.form + n → ⊥) → placed (block_writing M r) place ≡ place
  other_place h = ap (λ u. placed (as_block r u) place) w.written ∙ cond-false _ _ _ (ne_eqb (length place) _ (misfit h))

  -- the field that was written is the one that was weighed
  pub same_field : (a : Result (Unit {0}) FieldFault) (part ys : List ℕ) → a ≡ answered (M.writing r.mode r.submode r.numbers) part → a ≡ Ok tt
      → ys ≡ placed (M.writing r.mode r.submode r.numbers) part → ys ≡ w.field
  same_field a part ys e h p = same_ok (sym (written_place _ a part ys e h p) ∙ w.written)

-- ---- the block in its place
module _ (f : Form) (m s : ℕ) (field place : List ℕ) (even : length field % 2 ≡ 0) (room : length place ≡ 2 * fewest_pairs f + length field) where
  -- the field behind the first two pairs, as the checker reads that write
  middle : ℕ → List ℕ
  middle n = put_mid 4 ((4 + n) - 4) place field

  abbrev tail : List ℕ
  tail = drop (4 + length field) place

  middle_tail : (n : ℕ) → n ≡ length field → drop 4 (middle n) ≡ field ++ tail
  unfolding middle
  middle_tail n e =
      let k : 4 + ((4 + n) - 4) ≡ 4 + length field = omega arith in
      drop_at (take 4 place) (field ++ drop ((4 + n) - 4) (drop 4 place)) 4 (simp length-take (omega arith))
      ∙ ap (λ u. field ++ u) (drop-drop ((4 + n) - 4) 4 place ∙ ap (λ j. drop j place) k)

  pub middle_length : (n : ℕ) (ys : List ℕ) → n ≡ length field → ys ≡ field → length (put_mid 4 ((4 + n) - 4) place ys) ≡ length place
  middle_length n ys e y = let l = ap length y in simp (length-append, length-take, length-drop) (omega arith)

  tail_length : length tail ≡ 2 * checksum_pairs f
  tail_length = simp length-drop (omega arith)

  pub headed : (n : ℕ) (ys : List ℕ) → n ≡ length field → ys ≡ field
      → pair_bytes (form_number f * 16384 + length (put_mid 4 ((4 + n) - 4) place ys) / 2) ++ (m ∷ (s ∷ drop 4 (put_mid 4 ((4 + n) - 4) place ys))) ≡ front f m s field ++ tail
  unfolding middle
  headed n ys e y =
      let l = middle_length n field e refl in
      let k : length (put_mid 4 ((4 + n) - 4) place field) / 2 ≡ pairs_of f (length field) = omega arith in
      ap (λ u. pair_bytes (form_number f * 16384 + length (put_mid 4 ((4 + n) - 4) place u) / 2) ++ (m ∷ (s ∷ drop 4 (put_mid 4 ((4 + n) - 4) place u)))) y
      ∙ ap₂ (λ j u. pair_bytes (form_number f * 16384 + j) ++ (m ∷ (s ∷ u))) k (middle_tail n e)

  pub ended : (p q : List ℕ) → p ≡ front f m s field ++ tail → q ≡ sealed f p → q ≡ block_bytes f m s field
  unfolding block_bytes
  ended p q h k =
      let n : length p - 2 * checksum_pairs f ≡ length (front f m s field) = omega (arith, ap length h, length-append (front f m s field) tail, tail_length) in
      let t : take (length p - 2 * checksum_pairs f) p ≡ front f m s field = ap₂ take n h ∙ take_at (front f m s field) tail _ refl in
      k ∙ ap (λ u. u ++ checksum f u) t
