-- The facts of a block of a held product.
use Rattle.std.proofs.Common.{◌≡◌, ℕ, suc, ◌+◌, ◌-◌, ◌*◌, ◌<◌, List, length, take, drop, Ok, Result, sym, refl, ap, ◌∙◌, arith, length-drop}
use Rattle.std.proofs.lemmas.Bool.{lt-ltb, not_from_true}
use Rattle.wire.specs.Blocks.{size, field_end}
use Rattle.wire.specs.Classes.{class_of}
use Rattle.wire.specs.Forms.{checksum_pairs}
use Rattle.wire.specs.Rows.{behind, start_of}
use Rattle.wire.specs.Steps.{blame}
use Rattle.wire.proofs.Coding.{extent_is, head_lies, checksum_fits}
use Rattle.wire.proofs.Passing.{pass, go_on, not_blamed}
use Rattle.wire.proofs.Skipping.{behind_more, behind_length}
use Rattle.books.specs.Books.{Meaning}
use Rattle.judging.specs.declared.faults.Refusal.{Refusal}
use Rattle.judging.specs.declared.faults.Refusal.TheVariants.{NotHeld}
use Rattle.judging.specs.Blocks.{Judged}
use Rattle.judging.specs.Faults.{located}
use Rattle.judging.proofs.Judged.{Accepted}
use Rattle.products.specs.declared.closed.Closed.{Closed}
use Rattle.products.specs.Holding.{held, is_held}
use Rattle.products.proofs.Held.{held_stands, is_held_passes}
use Rattle.products.specs.Closings.{block_record}
use Rattle.products.proofs.Opening.{passed_by}
use Rattle.products.proofs.Standing.{Stands}
use Rattle.records.specs.Records.{Record}
use Rattle.reading.specs.Facts.{facts_of, told_facts}
use Rattle.reading.specs.Finding.{judged_facts, found_block}

field_to : (M : Meaning) (k : ℕ) (bs : List ℕ) (y : Judged) → Accepted M k (behind k bs) y
    → start_of k bs + field_end y.head ≡ start_of (suc k) bs - 2 * checksum_pairs y.head.form
field_to M k bs y a =
    let rest = behind k bs in
    let more = behind_more k bs ∙ ap (λ n. drop n rest) (extent_is rest y.head a.head) in
    let long = ap length more ∙ length-drop (size y.head) rest in
    let lies = head_lies rest y.head a.head in
    omega (arith, long, behind_length k bs, checksum_fits y.head.form, lies.within, lies.least)

-- what is found behind k blocks of a held product
facts_are : (M : Meaning) (k : ℕ) (bs : List ℕ) (r : Record) (s : Stands M k (behind k bs) r) → judged_facts (start_of k bs) s.block ≡ facts_of bs k r
facts_are M k bs r s =
    ap (λ n. record {
      at = start_of k bs;
      form = s.block.head.form;
      modes = s.block.head.modes;
      class = class_of s.block.head.modes.mode s.block.head.modes.submode;
      field = record { from = start_of k bs + 4; to = n };
      numbers = length s.block.numbers;
    }) (field_to M k bs s.block s.accepted)
    ∙ ap (facts_of bs k) s.says

found_is : (M : Meaning) (k : ℕ) (bs : List ℕ) (r : Record) → Stands M k (behind k bs) r → found_block M k bs ≡ Ok (facts_of bs k r)
unfolding found_block
found_is M k bs r s =
    go_on _ _ _ (not_blamed (located k (start_of k bs)) _ s.accepted.judged) (ap Ok (facts_are M k bs r s))

-- what the call tells of a held product, and that no block of it has a fault
pub told : (M : Meaning) (mem : List ℕ) (p : Closed) (k : ℕ) → ◌≡◌ {A = Result (Unit {0}) Refusal} (Ok tt) (is_held M mem p) → k < p.blocks
    → told_facts M mem p k ≡ blame NotHeld (found_block M k (take p.bytes mem))
told M mem p k e l =
    let q = passed_by (held M mem p) (Ok tt) tt (e ∙ is_held_passes M mem p) refl in
    let s = held_stands M mem p q.0 q.1 k l in
    go_on _ _ _ q.1 (pass _ _ _ (not_from_true _ (lt-ltb _ _ l)) (sym (not_blamed NotHeld _ (found_is M k (take p.bytes mem) (block_record q.0 k) s))))
