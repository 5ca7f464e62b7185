-- Edits of a product's bytes are edits of its records, and leave a row that a product may have.
use Rattle.std.proofs.Common.{◌≡◌, ℕ, zero, suc, ◌+◌, ◌-◌, ◌%◌, ◌<◌, ◌≤◌, Bool, true, false, not, ◌&&◌, eqb, ltb, List, [], ◌∷◌, ◌++◌, length, take, drop, set, is_some, Ok, sym, refl, ap, ◌∙◌, subst, ap₂, arith}
use mathlib.Core.Bool.{beq}
use Rattle.std.specs.List.{remove, AllByRecursion}
use Rattle.std.proofs.lemmas.List.{append_assoc, append-nil, length-append, take_at, drop_at, take-append-drop, set_split}
use Rattle.std.proofs.lemmas.Bool.{ltb-false, ne_eqb, and_left}
use Rattle.wire.specs.Blocks.{most_mode}
use Rattle.wire.specs.Forms.{form_of}
use Rattle.wire.specs.Rows.{extent, behind, start_of}
use Rattle.wire.specs.Steps.{blame}
use Rattle.wire.proofs.Coding.{extent_is, checksum_fits}
use Rattle.wire.proofs.Passing.{passed, went_on, blameless, same_ok}
use Rattle.memory.specs.Laid.{spliced}
use Rattle.books.specs.Books.{Meaning, Lawful, Number}
use Rattle.judging.specs.declared.faults.Refusal.TheVariants.{List as ListFault}
use Rattle.judging.specs.Places.{is_identification, is_end, defines, misplaced, astray}
use Rattle.wire.specs.Classes.{class_of}
use Rattle.records.specs.Records.{Record, Given, given_form, recorded, block_of}
use Rattle.records.specs.Drafts.{most_data, drafted}
use Rattle.products.specs.Closings.{blocks_of}
use Rattle.lives.proofs.Good.{Fits, Good, block_size, head_there, read_there}

-- ---- places that do not matter behind block 0
pub later : (k m s : ℕ) → 1 ≤ k → misplaced k m s ≡ is_identification m s
unfolding misplaced
later k m s h = let e = ne_eqb k 0 (λ z. omega arith) in rw e (plain (is_identification m s))
  where
    plain : (b : Bool) → not (beq false b) ≡ b
    plain true = refl
    plain false = refl

nearer : (k m s : ℕ) → 1 ≤ k → astray (suc k) m s ≡ false → astray k m s ≡ false
unfolding astray
nearer k m s h e =
    and_left (defines (class_of m s)) (not (eqb k 1)) (plain (defines (class_of m s)) (sym (ap (λ b. defines (class_of m s) && not b) (ne_eqb (suc k) 1 (λ z. omega arith))) ∙ e))
  where
    plain : (d : Bool) → (d && true) ≡ false → d ≡ false
    plain true z = z
    plain false z = refl

module _ (M : Meaning) where
  -- ---- rows under the edits
  down : (k : ℕ) (r : Record) → 1 ≤ k → Fits M (suc k) r → Fits M k r
  down k r h t = record {
    field = t.field;
    written = t.written;
    sized = t.sized;
    in_place = later k r.mode r.submode h ∙ sym (later (suc k) r.mode r.submode (omega arith)) ∙ t.in_place;
    near = nearer k r.mode r.submode h t.near;
    inner = t.inner;
    numbers = t.numbers;
  }

  all_down : (k : ℕ) (rs : List Record) → 1 ≤ k → Good M (suc k) rs → Good M k rs
  all_down k [] h g = tt
  all_down k (r ∷ rs) h g = (down k r h g.0, all_down (suc k) rs (omega arith) g.1)

  pub good_push : (k n : ℕ) (rs : List Record) (r : Record) → k + length rs ≡ n → Good M k rs → Fits M n r → Good M k (rs ++ (r ∷ []))
  good_push k n [] r e g t = (subst (λ i. Fits M i r) (omega arith) t, tt)
  good_push k n (x ∷ rs) r e g t = (g.0, good_push (suc k) n rs r (omega arith) g.1 t)

  pub good_set : (k i n : ℕ) (rs : List Record) (r : Record) → k + i ≡ n → Good M k rs → Fits M n r → Good M k (set rs i r)
  good_set k i n [] r e g t = tt
  good_set k zero n (x ∷ rs) r e g t = (subst (λ i. Fits M i r) (omega arith) t, g.1)
  good_set k (suc i) n (x ∷ rs) r e g t = (g.0, good_set (suc k) i n rs r (omega arith) g.1 t)

  pub good_removed : (k i : ℕ) (rs : List Record) → 1 ≤ k + i → Good M k rs → Good M k (remove rs i)
  good_removed k zero [] h g = tt
  good_removed k (suc i) [] h g = tt
  good_removed k zero (x ∷ rs) h g = all_down k rs (omega arith) g.1
  good_removed k (suc i) (x ∷ rs) h g = (g.0, good_removed (suc k) i rs (omega arith) g.1)

  -- ---- where the blocks of a row lie
  pub blocks_append : (xs ys : List Record) → blocks_of M (xs ++ ys) ≡ blocks_of M xs ++ blocks_of M ys
  blocks_append [] ys = refl
  blocks_append (x ∷ xs) ys = ap (λ u. block_of M x ++ u) (blocks_append xs ys) ∙ sym (append_assoc (block_of M x) (blocks_of M xs) (blocks_of M ys))

  halves : (i : ℕ) (rs : List Record) → blocks_of M rs ≡ blocks_of M (take i rs) ++ blocks_of M (drop i rs)
  halves i rs = ap (blocks_of M) (sym (take-append-drop i rs)) ∙ blocks_append (take i rs) (drop i rs)

  reaches : (k : ℕ) (r : Record) (t : Fits M k r) (rest : List ℕ) → extent (block_of M r ++ rest) ≡ length (block_of M r)
  reaches k r t rest = extent_is (block_of M r ++ rest) (head_there M k r t) (read_there M k r t rest) ∙ sym (block_size M k r t)

  behind_blocks : (k i : ℕ) (rs : List Record) → Good M k rs → i ≤ length rs → behind i (blocks_of M rs) ≡ blocks_of M (drop i rs)
  unfolding behind
  behind_blocks k zero rs g h = refl
  behind_blocks k (suc i) [] g h = absurd (omega arith)
  behind_blocks k (suc i) (r ∷ rs) g h =
      ap (λ n. behind i (drop n (block_of M r ++ blocks_of M rs))) (reaches k r g.0 (blocks_of M rs))
      ∙ ap (behind i) (drop_at (block_of M r) (blocks_of M rs) (length (block_of M r)) refl)
      ∙ behind_blocks (suc k) i rs g.1 (omega arith)

  starts_at : (i : ℕ) (rs : List Record) → Good M 0 rs → i ≤ length rs → start_of i (blocks_of M rs) ≡ length (blocks_of M (take i rs))
  starts_at i rs g h =
      let b = ap length (behind_blocks 0 i rs g h) in
      let l = ap length (halves i rs) ∙ length-append (blocks_of M (take i rs)) (blocks_of M (drop i rs)) in
      omega (arith, b, l)

  before_block : (i : ℕ) (rs : List Record) → Good M 0 rs → i ≤ length rs → take (start_of i (blocks_of M rs)) (blocks_of M rs) ≡ blocks_of M (take i rs)
  before_block i rs g h =
      ap (take (start_of i (blocks_of M rs))) (halves i rs) ∙ take_at (blocks_of M (take i rs)) (blocks_of M (drop i rs)) _ (sym (starts_at i rs g h))

  from_block : (i : ℕ) (rs : List Record) → Good M 0 rs → i ≤ length rs → drop (start_of i (blocks_of M rs)) (blocks_of M rs) ≡ blocks_of M (drop i rs)
  from_block i rs g h =
      ap (drop (start_of i (blocks_of M rs))) (halves i rs) ∙ drop_at (blocks_of M (take i rs)) (blocks_of M (drop i rs)) _ (sym (starts_at i rs g h))

  -- ---- the edits
  pub edited_add : (rs : List Record) (r : Record) → blocks_of M rs ++ block_of M r ≡ blocks_of M (rs ++ (r ∷ []))
  edited_add rs r = ap (λ u. blocks_of M rs ++ u) (sym (append-nil (block_of M r))) ∙ sym (blocks_append rs (r ∷ []))

  pub edited_replace : (i : ℕ) (rs : List Record) (r : Record) → Good M 0 rs → i < length rs
      → spliced (start_of i (blocks_of M rs)) (start_of (suc i) (blocks_of M rs)) (block_of M r) (blocks_of M rs) ≡ blocks_of M (set rs i r)
  edited_replace i rs r g h =
      ap₂ (λ u v. u ++ (block_of M r ++ v)) (before_block i rs g (omega arith)) (from_block (suc i) rs g h)
      ∙ sym (blocks_append (take i rs) (r ∷ drop (suc i) rs)) ∙ ap (blocks_of M) (sym (set_split rs i r h))

  pub edited_withdraw : (i : ℕ) (rs : List Record) → Good M 0 rs → i < length rs
      → spliced (start_of i (blocks_of M rs)) (start_of (suc i) (blocks_of M rs)) [] (blocks_of M rs) ≡ blocks_of M (remove rs i)
  edited_withdraw i rs g h = ap₂ ◌++◌ (before_block i rs g (omega arith)) (from_block (suc i) rs g h) ∙ sym (blocks_append (take i rs) (drop (suc i) rs))

  pub edited_reopen : (e : List ℕ) (rs : List Record) → take (length (blocks_of M rs ++ e) - length e) (blocks_of M rs ++ e) ≡ blocks_of M rs
  edited_reopen e rs = take_at (blocks_of M rs) e _ (omega (arith, length-append (blocks_of M rs) e))

  pub fewer_bytes : (rs : List Record) (i : ℕ) → length (blocks_of M (remove rs i)) ≤ length (blocks_of M rs)
  fewer_bytes [] zero = omega arith
  fewer_bytes [] (suc i) = omega arith
  fewer_bytes (r ∷ rs) zero = rw (length-append (block_of M r) (blocks_of M rs)) (omega arith)
  fewer_bytes (r ∷ rs) (suc i) =
      rw (length-append (block_of M r) (blocks_of M rs), length-append (block_of M r) (blocks_of M (remove rs i))) (omega (arith, fewer_bytes rs i))

  pub even_blocks : (k : ℕ) (rs : List Record) → Good M k rs → length (blocks_of M rs) % 2 ≡ 0
  even_blocks k [] g = refl
  even_blocks k (r ∷ rs) g =
      rw (length-append (block_of M r) (blocks_of M rs)) (omega (arith, block_size M k r g.0, even_blocks (suc k) rs g.1))

  -- ---- a record that passed its checks
  pub drafted_fits : (L : Lawful M) (k : ℕ) (b : Bool) (g : Given) (r : Record) → AllByRecursion Number g.numbers
      → (b ≡ false → (misplaced k g.mode g.submode ≡ false) × (is_end g.mode g.submode ≡ false)) → drafted M k b g ≡ Ok r → Fits M k (recorded g) × (r ≡ recorded g)
  unfolding drafted
  drafted_fits L k b g r known o h =
      let p15 = passed (not (is_some (form_of g.form))) _ _ h in
      let p8 = passed (ltb most_mode g.mode) _ _ p15.1 in
      let p9 = passed b _ _ p8.1 in
      let p10 = passed (astray k g.mode g.submode) _ _ p9.1 in
      let p18 = went_on (blame ListFault (M.writing g.mode g.submode g.numbers)) _ p10.1 in
      let p19 = passed (ltb (most_data (given_form g.form)) (length p18.0)) _ _ p18.2 in
      let written = blameless ListFault _ p18.1 in
      let law = L g.mode g.submode in
      let even = law.even p18.0 g.numbers (law.written g.numbers p18.0 known written) in (
        record {
          field = p18.0;
          written = written;
          sized = record {
            mode_fits = ltb-false most_mode g.mode p8.0;
            even = even;
            short = omega (arith, even, checksum_fits (given_form g.form), ltb-false (most_data (given_form g.form)) (length p18.0) p19.0);
          };
          in_place = (o p9.0).0;
          near = p10.0;
          inner = (o p9.0).1;
          numbers = known;
        },
        sym (same_ok p19.1),
      )
