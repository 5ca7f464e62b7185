-- What a weight tells of the field that will be written, and of its block.
use Rattle.std.proofs.Common.{◌≡◌, ℕ, ◌+◌, ◌*◌, ◌%◌, ◌≤◌, Bool, false, ltb, List, length, Some, Ok, Err, Result, unwrap_or, sym, refl, ap, ◌∙◌, arith}
use Rattle.std.proofs.lemmas.Bool.{le-ltb}
use Rattle.std.specs.List.{AllByRecursion}
use Rattle.wire.specs.Blocks.{block_bytes, most_mode}
use Rattle.wire.specs.declared.forms.Form.{Form}
use Rattle.wire.specs.declared.forms.Form.TheVariants.{Checksummed}
use Rattle.wire.specs.Forms.{form_of, fewest_pairs}
use Rattle.wire.proofs.Coding.{block_length}
use Rattle.books.specs.declared.faults.FieldFault.{FieldFault}
use Rattle.books.specs.Books.{Meaning, Lawful, Writing, Number, weighed, most_bytes}
use Rattle.judging.specs.Places.{astray}
use Rattle.records.specs.Records.{Record, Given, says, recorded, as_block, block_writing, block_with, bytes_in, block_of}
use Rattle.records.specs.Drafts.{most_data, drafted, draft_of}

-- the field that a list is written as
pub record Weighed (M : Meaning) (r : Record) (n : ℕ) : Type 0 where
  pub field : List ℕ
  pub written : M.writing r.mode r.submode r.numbers ≡ Ok field
  pub long : length field ≡ n
  pub even : n % 2 ≡ 0
  pub short : n ≤ most_bytes
  pub whole : block_of M r ≡ block_bytes r.form r.mode r.submode field
  pub size : length (block_of M r) ≡ 2 * fewest_pairs r.form + n

ok_weighed : (w : Writing) (a : Result ℕ FieldFault) (n : ℕ) → a ≡ weighed w → a ≡ Ok n → (field : List ℕ) × (w ≡ Ok field) × (length field ≡ n)
ok_weighed (Ok field) a n e h = (field, refl, cc)
ok_weighed (Err f) a n e h = let z : ◌≡◌ {A = ℕ} 0 1 = cc in absurd (omega arith)

pub weighed_back : (M : Meaning) (L : Lawful M) (r : Record) (a : Result ℕ FieldFault) (n : ℕ) → AllByRecursion Number r.numbers
    → a ≡ weighed (M.writing r.mode r.submode r.numbers) → a ≡ Ok n → Weighed M r n
weighed_back M L r a n known e h =
    let w = ok_weighed (M.writing r.mode r.submode r.numbers) a n e h in
    let agree = L r.mode r.submode in
    let reads = agree.written r.numbers w.0 known w.1 in
    let even = agree.even w.0 r.numbers reads in
    let whole : block_of M r ≡ block_bytes r.form r.mode r.submode w.0 = ap (λ u. block_with r u) w.1 in
    record {
      field = w.0;
      written = w.1;
      long = w.2;
      even = omega (arith, even, w.2);
      short = omega (arith, agree.short w.0 r.numbers reads, w.2);
      whole = whole;
      size = ap length whole ∙ block_length r.form r.mode r.submode w.0 even ∙ omega (arith, even, w.2);
    }

-- its block is what is written
block_is : (r : Record) (w : Writing) → block_with r w ≡ bytes_in (as_block r w)
block_is r (Ok field) = refl
block_is r (Err f) = refl

pub block_written : (M : Meaning) (r : Record) → block_of M r ≡ bytes_in (block_writing M r)
block_written M r = block_is r (M.writing r.mode r.submode r.numbers)

-- what its block weighs
pub block_weight : (M : Meaning) (r : Record) (n : ℕ) → Weighed M r n → weighed (block_writing M r) ≡ Ok (2 * fewest_pairs r.form + n)
block_weight M r n w = ap (λ u. weighed (as_block r u)) w.written ∙ ap Ok (sym (ap length w.whole) ∙ w.size)

-- the record that was given, in its form
pub given_in : (g : Given) (form : Form) → form_of g.form ≡ Some form → recorded g ≡ says form g.mode g.submode g.numbers
given_in g form e = ap (λ o. says (unwrap_or o Checksummed) g.mode g.submode g.numbers) e

-- a record that passes every check
module _ (M : Meaning) (k : ℕ) (misfit : Bool) (g : Given) (form : Form) (n : ℕ) (w : Weighed M (says form g.mode g.submode g.numbers) n)
    (e15 : form_of g.form ≡ Some form) (e8 : g.mode ≤ most_mode) (e9 : misfit ≡ false) (e10 : astray k g.mode g.submode ≡ false) (e19 : n ≤ most_data form) where
  pub passes : drafted M k misfit g ≡ Ok (recorded g)
  unfolding drafted
  passes =
      let t8 = le-ltb most_mode g.mode e8 in
      let long = w.long in
      let t19 : ltb (most_data form) (length w.field) ≡ false = le-ltb (most_data form) (length w.field) (omega arith) in
      let t18 = w.written in
      rw (e15, t8, e9, e10, t18, t19) refl

  pub draft_made : draft_of M (drafted M k misfit g) ≡ Ok (record { form = form; size = 2 * fewest_pairs form + n })
  draft_made =
      ap (draft_of M) passes
      ∙ ap (λ r. Ok (record { form = r.form; size = length (block_of M r) })) (given_in g form e15)
      ∙ ap (λ m. Ok (record { form = form; size = m })) w.size
