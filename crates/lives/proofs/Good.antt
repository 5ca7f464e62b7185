-- Rows of records that a product may have: written, they are read back; and what is accepted is such a row.
use Rattle.std.proofs.Common.{◌≡◌, ℕ, zero, suc, ◌+◌, ◌*◌, ◌<◌, ◌≤◌, true, false, List, [], ◌∷◌, ◌++◌, length, Ok, sym, refl, ap, ◌∙◌, subst, ap₂, arith}
use Rattle.std.specs.List.{AllByRecursion}
use Rattle.std.proofs.ByRecursion.{All-drop}
use Rattle.std.proofs.lemmas.List.{append_assoc, append-nil}
use Rattle.std.proofs.lemmas.Bool.{lt-ltb, le-ltb, ne_eqb, and_left, and_right, not_from_true, cond-false, true≢false, and_parts, eqb-true}
use Rattle.wire.specs.declared.blocks.Head.{Head}
use Rattle.wire.specs.declared.forms.Form.{Form}
use Rattle.wire.specs.Blocks.{Sized, pairs_of, block_bytes, read_head, size, field_of, rest_of}
use Rattle.wire.specs.Codec.{Encoded, head_of}
use Rattle.wire.specs.Forms.{fewest_pairs}
use Rattle.wire.specs.Pairs.{Byte, Bytes}
use Rattle.wire.specs.Steps.{refuse, blame}
use Rattle.wire.proofs.Coding.{codec, block_length, checksum_fits}
use Rattle.wire.proofs.Passing.{pass, go_on, not_blamed}
use Rattle.books.specs.Books.{Meaning, Lawful, Number}
use Rattle.judging.specs.declared.places.Phase.{Phase}
use Rattle.judging.specs.declared.places.Phase.TheVariants.{Opened, Shut}
use Rattle.judging.specs.declared.faults.BlockFault.TheVariants.{Field, EndWithData}
use Rattle.judging.specs.Blocks.{Judged, judged_block, judged_in, numbers_of}
use Rattle.judging.specs.Places.{is_end, misplaced, astray, bars_end}
use Rattle.judging.proofs.Judged.{Accepted}
use Rattle.records.specs.Records.{Record, block_with, block_of}
use Rattle.products.specs.Receipts.{Received, record_of, ended, closed_walk, most_blocks}
use Rattle.products.specs.Closings.{blocks_of, end_of}
use Rattle.products.specs.Opens.{open_walk}
use Rattle.products.proofs.Turns.{ends, goes, turn_back, none_walked}
use Rattle.products.proofs.Written.{bytes_field}
use Rattle.products.proofs.Held.{end_length}

-- a record that a product may have as block k
pub record Fits (M : Meaning) (k : ℕ) (r : Record) : Type 0 where
  pub field : List ℕ
  pub written : M.writing r.mode r.submode r.numbers ≡ Ok field
  pub sized : Sized r.form r.mode field
  pub in_place : misplaced k r.mode r.submode ≡ false
  pub near : astray k r.mode r.submode ≡ false
  pub inner : is_end r.mode r.submode ≡ false
  pub numbers : AllByRecursion Number r.numbers

-- records that a product may have from block k on
abbrev pub Good : Meaning → ℕ → List Record → Type 0
Good M k [] = Unit {0}
Good M k (r ∷ rs) = Fits M k r × Good M (suc k) rs

module _ (M : Meaning) (k : ℕ) (r : Record) (t : Fits M k r) where
  pub block_is : block_of M r ≡ block_bytes r.form r.mode r.submode t.field
  block_is = ap (λ w. block_with r w) t.written

  pub block_size : length (block_of M r) ≡ 2 * pairs_of r.form (length t.field)
  block_size = ap length block_is ∙ block_length r.form r.mode r.submode t.field t.sized.even

  abbrev pub head_there : Head
  head_there = head_of r.form r.mode r.submode t.field

  abbrev pub encoded : (rest : List ℕ) → Encoded r.form r.mode r.submode t.field rest
  encoded rest = codec.encodes r.form r.mode r.submode t.field rest t.sized

  pub read_there : (rest : List ℕ) → read_head (block_of M r ++ rest) ≡ Ok head_there
  read_there rest = ap (λ u. read_head (u ++ rest)) block_is ∙ (encoded rest).head

  pub rest_there : (rest : List ℕ) → rest_of head_there (block_of M r ++ rest) ≡ rest
  rest_there rest = ap (λ u. rest_of head_there (u ++ rest)) block_is ∙ (encoded rest).rest_again

  field_there : (rest : List ℕ) → field_of head_there (block_of M r ++ rest) ≡ t.field
  field_there rest = ap (λ u. field_of head_there (u ++ rest)) block_is ∙ (encoded rest).field_again

  module _ (L : Lawful M) where
    abbrev pub says_so : Judged
    says_so = record { head = head_there; numbers = r.numbers }

    reads_so : M.reading r.mode r.submode t.field ≡ Ok r.numbers
    reads_so = (L r.mode r.submode).written r.numbers t.field t.numbers t.written

    numbers_there : (rest : List ℕ) → numbers_of M head_there (block_of M r ++ rest) ≡ Ok r.numbers
    numbers_there rest =
        cond-false _ _ _ t.inner
        ∙ ap (λ f. blame Field (M.reading r.mode r.submode f)) (field_there rest)
        ∙ not_blamed Field _ reads_so

    pub judged_there : (phase : Phase) (rest : List ℕ) → judged_in phase M k (block_of M r ++ rest) ≡ Ok says_so
    unfolding judged_in
    judged_there phase rest =
        go_on _ _ _ (not_blamed _ _ (read_there rest))
        (go_on _ _ _
        (pass _ _ _ (and_right (bars_end phase) _ t.inner) (pass _ _ _ t.in_place (pass _ _ _ t.near (ap (λ b. refuse b EndWithData) (and_left _ _ t.inner)))))
        (go_on _ _ _ (numbers_there rest) refl))

module _ (M : Meaning) (L : Lawful M) where
  -- ---- the blocks of an open product are read back
  pub open_reads : (j since k at : ℕ) (rs : List Record) → Good M k rs → k + length rs ≤ most_blocks → open_walk M (length rs) j since k at (blocks_of M rs) ≡ Ok rs
  unfolding open_walk
  open_reads j since k at [] g h = refl
  open_reads j since k at (r ∷ rs) g h =
      let e = rest_there M k r g.0 (blocks_of M rs) in
      pass _ _ _ (not_from_true _ (lt-ltb k most_blocks (omega arith)))
      (go_on _ _ _ (not_blamed _ _ (judged_there M k r g.0 L Opened (blocks_of M rs)))
      (go_on _ _ _ (ap (open_walk M (length rs) k at (k + 1) (at + size (head_there M k r g.0))) e
      ∙ ap (λ i. open_walk M (length rs) k at i (at + size (head_there M k r g.0)) (blocks_of M rs)) (omega arith)
      ∙ open_reads k at (suc k) (at + size (head_there M k r g.0)) rs g.1 (omega arith)) refl))

  -- ---- the end is read back
  end_sized : (f : Form) → Sized f 1 []
  end_sized f = record { mode_fits = omega arith; even = refl; short = omega (arith, checksum_fits f) }

  end_placed : (k : ℕ) → 1 ≤ k → misplaced k 1 2 ≡ false
  unfolding misplaced
  end_placed k h = let e = ne_eqb k 0 (λ z. omega arith) in rw e refl

  end_near : (k : ℕ) → astray k 1 2 ≡ false
  unfolding astray
  end_near k = refl

  abbrev end_there : Form → Judged
  end_there f = record { head = head_of f 1 2 []; numbers = [] }

  end_judged : (k : ℕ) (f : Form) → 1 ≤ k → judged_block M k (end_of f) ≡ Ok (end_there f)
  unfolding judged_in
  end_judged k f h =
      let z = codec.encodes f 1 2 [] [] (end_sized f) in
      let read : read_head (end_of f) ≡ Ok (head_of f 1 2 []) = ap read_head (sym (append-nil (end_of f))) ∙ z.head in
      go_on _ _ _ (not_blamed _ _ read)
      (go_on _ _ _
      (pass _ _ _ (end_placed k h) (pass _ _ _ (end_near k) (ap (λ b. refuse b EndWithData) (le-ltb (fewest_pairs f) (pairs_of f 0) (omega arith)))))
      refl)

  end_ended : (k at : ℕ) (f : Form) → ended k at (end_of f) (head_of f 1 2 []) ≡ Ok (record { records = []; close = f })
  end_ended k at f = pass _ _ _ (le-ltb (size (head_of f 1 2 [])) (length (end_of f)) (omega (arith, end_length f))) refl

  -- ---- the blocks of a closed product are read back
  pub closed_reads : (n k at : ℕ) (f : Form) (rs : List Record) → Good M k rs → length rs < n → 1 ≤ k + length rs
      → closed_walk M n k at (blocks_of M rs ++ end_of f) ≡ Ok (record { records = rs; close = f })
  unfolding closed_walk
  closed_reads zero k at f rs g h s = absurd (omega arith)
  closed_reads (suc n) k at f [] g h s = go_on _ _ _ (not_blamed _ _ (end_judged k f (omega arith))) (end_ended k at f)
  closed_reads (suc n) k at f (r ∷ rs) g h s =
      let more = blocks_of M rs ++ end_of f in
      let e = rest_there M k r g.0 more in
      ap (closed_walk M (suc n) k at) (append_assoc (block_of M r) (blocks_of M rs) (end_of f))
      ∙ go_on _ _ _ (not_blamed _ _ (judged_there M k r g.0 L Shut more))
      (cond-false _ _ _ g.0.inner
      ∙ go_on _ _ _ (ap (closed_walk M n (k + 1) (at + size (head_there M k r g.0))) e
      ∙ ap (λ i. closed_walk M n i (at + size (head_there M k r g.0)) more) (omega arith)
      ∙ closed_reads n (suc k) (at + size (head_there M k r g.0)) f rs g.1 (omega arith) (omega arith)) refl)

  -- ---- what is accepted is such a row
  end_begun : (k : ℕ) → misplaced k 1 2 ≡ false → 1 ≤ k
  unfolding misplaced
  end_begun zero h = absurd (true≢false h)
  end_begun (suc k) h = omega arith

  pub record Row (k : ℕ) (y : Received) : Type 0 where
    pub good : Good M k y.records
    pub begun : 1 ≤ k + length y.records

  fits_back : (k : ℕ) (bs : List ℕ) (x : Judged) → Bytes bs → Accepted M k bs x → is_end x.head.modes.mode x.head.modes.submode ≡ false → Fits M k (record_of x)
  fits_back k bs x ok a e =
      let law = L x.head.modes.mode x.head.modes.submode in
      let field = bytes_field x.head bs ok in
      record {
        field = field_of x.head bs;
        written = law.reads (field_of x.head bs) x.numbers field (a.reads e);
        sized = (codec.decodes bs x.head ok a.head).sized;
        in_place = a.place.in_place;
        near = a.place.near;
        inner = e;
        numbers = law.numbers (field_of x.head bs) x.numbers field (a.reads e);
      }

  end_row : (k : ℕ) (bs : List ℕ) (x : Judged) → Accepted M k bs x → is_end x.head.modes.mode x.head.modes.submode ≡ true → Row k (record { records = []; close = x.head.form })
  end_row k bs x a e =
      let m = and_parts _ _ e in
      let there = ap₂ (misplaced k) (sym (eqb-true _ _ m.0)) (sym (eqb-true _ _ m.1)) ∙ a.place.in_place in
      record { good = tt; begun = omega (arith, end_begun k there) }

  pub row_back : (n k at : ℕ) (bs : List ℕ) (y : Received) → Bytes bs → closed_walk M n k at bs ≡ Ok y → Row k y
  row_back zero k at bs y ok h = absurd (none_walked M k at bs y h)
  row_back (suc n) k at bs y ok h = elim (turn_back M n k at bs y h) [
    | ends x a e last is ↦ subst (Row k) is (end_row k bs x a e)
    | goes x z a e w is ↦
        let later = row_back n (k + 1) (at + size x.head) (rest_of x.head bs) z (All-drop Byte (size x.head) bs ok) w in
        subst (Row k) is (record { good = (fits_back k bs x ok a e, subst (λ i. Good M i z.records) (omega arith) later.good); begun = omega arith })
  ]
