-- From what the checks of a call find to its outcome.
use Rattle.std.proofs.Common.{◌≡◌, ℕ, suc, ◌+◌, ◌-◌, ◌<◌, ◌≤◌, Bool, true, false, not, eqb, ltb, List, [], ◌++◌, length, take, ℤ, Some, Ok, Err, Result, sym, refl, ap, ◌∙◌, ap₂, arith}
use Rattle.std.proofs.lemmas.List.{append-nil, length-append, length-take, length-take-le, take_all, drop_all}
use Rattle.std.proofs.lemmas.Bool.{ltb-false, lt-ltb, ne_eqb, not_from_true}
use Rattle.wire.specs.declared.forms.Form.{Form}
use Rattle.wire.specs.Forms.{form_of}
use Rattle.wire.specs.Rows.{start_of}
use Rattle.wire.proofs.Passing.{same_ok}
use Rattle.memory.specs.declared.Part.{Part}
use Rattle.memory.specs.Laid.{spliced}
use Rattle.memory.proofs.Lays.{length_spliced}
use Rattle.books.specs.Books.{Meaning, Writing, weighed}
use Rattle.judging.specs.declared.places.Phase.TheVariants.{Opened}
use Rattle.judging.specs.declared.faults.Refusal.{Refusal}
use Rattle.judging.specs.declared.faults.Refusal.TheVariants.{NoRoom}
use Rattle.records.specs.declared.drafts.Draft.{Draft}
use Rattle.records.specs.Records.{Given, Record, gives, recorded, bytes_in, block_writing, block_of}
use Rattle.records.proofs.Sizes.{block_written}
use Rattle.records.specs.Drafts.{drafted, drafts, draft_of}
use Rattle.products.specs.Receipts.{Received, most_blocks}
use Rattle.products.specs.Closings.{end_of}
use Rattle.products.specs.Opens.{passes}
use Rattle.products.proofs.Opening.{passed_by}
use Rattle.products.specs.declared.opened.Open.{Open}
use Rattle.products.specs.declared.closed.Closed.{Closed}
use Rattle.products.specs.Products.{of_open, of_closed}
use Rattle.products.specs.Holding.{held, held_open}
use Rattle.products.proofs.Held.{held_few}
use Rattle.products.specs.Calls.{adds, replaces, withdraws, closes, reopens, content, limit, crowded, bars_adding, bars_replacing, mended, stored, leads_to, outcome, started}
use Rattle.products.specs.Plans.{Planned, Ready}

-- ---- a draft and the record that it stands for
drafted_is : (M : Meaning) (k : ℕ) (b : Bool) (g : Given) (r : Record) → drafted M k b g ≡ Ok r → r ≡ recorded g
unfolding drafted
drafted_is M k b g r h = grind arith

draft_back : (M : Meaning) (w : Result Record Refusal) (a : Result Draft Refusal) (d : Draft) → a ≡ draft_of M w → a ≡ Ok d → (r : Record) × (w ≡ Ok r) × (r.form ≡ d.form)
draft_back M (Ok r) a d e h = (r, refl, ap (λ x. x.form) (same_ok (sym e ∙ h)))
draft_back M (Err f) a d e h = absurd (let z : ◌≡◌ {A = ℕ} 0 1 = cc in omega arith)

-- what was drafted is the record of the draft
pub draft_is : (M : Meaning) (k : ℕ) (b : Bool) (g : Given) (a : Result Draft Refusal) (d : Draft) → a ≡ draft_of M (drafted M k b g) → a ≡ Ok d → drafted M k b g ≡ Ok (drafts d g)
draft_is M k b g a d e h =
    let q = draft_back M (drafted M k b g) a d e h in
    let is = drafted_is M k b g q.0 q.1 in
    let form : (recorded g).form ≡ d.form = ap (λ r. r.form) (sym is) ∙ q.2 in
    q.1 ∙ ap Ok (is ∙ (λ i. record { form = form i; mode = g.mode; submode = g.submode; numbers = g.numbers }))

block_size : (w : Writing) (n : ℕ) → weighed w ≡ Ok n → length (bytes_in w) ≡ n
block_size (Ok bs) n h = same_ok h
block_size (Err f) n h = absurd (let z : ◌≡◌ {A = ℕ} 0 1 = cc in omega arith)

-- ---- room for so many bytes
pub roomy_so : (mem : List ℕ) (f : Form) (n : ℕ) → crowded mem f n ≡ false → n + length (end_of f) ≤ length mem
roomy_so mem f n h = omega (arith, ltb-false (limit mem) (n + length (end_of f)) h)

-- behind the last byte
at_end : (n : ℕ) (mem x : List ℕ) → n ≤ length mem → take n mem ++ x ≡ spliced n n x (take n mem)
at_end n mem x h =
    let l = length-take-le n mem h in
    ap (λ u. take n mem ++ u) (sym (append-nil x)) ∙ ap₂ (λ u v. u ++ (x ++ v)) (sym (take_all n (take n mem) (omega arith))) (sym (drop_all n (take n mem) (omega arith)))

-- ---- an open product that is held, as the code finds it
module _ (M : Meaning) (mem : List ℕ) (p : Open) (r : Result (Unit {0}) Refusal) (u : Unit {0}) (told : r ≡ passes (held_open M mem p)) (accepted : r ≡ Ok u)
    (within : p.bytes ≤ length mem) (some : p.blocks ≤ most_blocks) where
  holding : (rs : List Record) × (held_open M mem p ≡ Ok rs)
  holding = passed_by (held_open M mem p) r u told accepted

  -- ---- add
  module _ (g : Given) (d : Draft) (misfit : Bool) (bars : misfit ≡ bars_adding g.mode g.submode) (a : Result Draft Refusal) (checked : a ≡ draft_of M (drafted M p.blocks misfit g))
      (drawn : a ≡ Ok d) (fits : weighed (block_writing M (drafts d g)) ≡ Ok d.size) (few : p.blocks < most_blocks - 1) where
    drafted_so : drafted M p.blocks (bars_adding g.mode g.submode) g ≡ Ok (drafts d g)
    drafted_so = draft_is M p.blocks _ g a d (checked ∙ ap (λ b. draft_of M (drafted M p.blocks b g)) bars) drawn

    size : length (block_of M (drafts d g)) ≡ d.size
    size = ap length (block_written M (drafts d g)) ∙ block_size (block_writing M (drafts d g)) d.size fits

    grown : length (take p.bytes mem ++ block_of M (drafts d g)) ≡ p.bytes + d.size
    grown = length-append (take p.bytes mem) (block_of M (drafts d g)) ∙ ap₂ ◌+◌ (length-take-le p.bytes mem within) size

    pub add_crowded : crowded mem p.close (p.bytes + d.size) ≡ true → outcome M mem (of_open p) (adds g) ≡ Err NoRoom
    unfolding outcome mended
    add_crowded t =
        let held = holding.1 in
        let draft = drafted_so in
        let few_so = not_from_true _ (lt-ltb _ _ few) in
        let full : crowded mem p.close (length (take p.bytes mem ++ block_of M (drafts d g))) ≡ true = ap (crowded mem p.close) grown ∙ t in
        rw (held, draft, few_so, full) refl

    pub add_ready : crowded mem p.close (p.bytes + d.size) ≡ false → Ready M mem (of_open p) (adds g) d g p.bytes p.bytes (suc p.blocks)
    unfolding outcome mended
    add_ready t =
        let held = holding.1 in
        let draft = drafted_so in
        let few_so = not_from_true _ (lt-ltb _ _ few) in
        let free : crowded mem p.close (length (take p.bytes mem ++ block_of M (drafts d g))) ≡ false = ap (crowded mem p.close) grown ∙ t in
        record {
          planned = record {
            result = rw (held, draft, few_so, free) (ap (λ u. Ok (stored (leads_to (adds g)) p.close (content u (suc p.blocks)) p.bytes mem)) (at_end p.bytes mem (block_of M (drafts d g)) within));
            forward = omega arith;
            inside = omega arith;
            within = within;
            room = omega (arith, size, roomy_so mem p.close (p.bytes + d.size) t);
            few = omega arith;
          };
          fits = fits;
          size = size;
        }

  -- ---- replace and withdraw
  module _ (k : ℕ) (part : Part) (from : part.from ≡ start_of k (take (p.bytes - 0) mem)) (to : part.to ≡ start_of (suc k) (take (p.bytes - 0) mem)) (forward : part.from ≤ part.to)
      (inner : part.to ≤ length (take (p.bytes - 0) mem)) (there : k < p.blocks) where
    all : p.bytes - 0 ≡ p.bytes
    all = omega arith

    inside : part.to ≤ p.bytes
    inside = omega (arith, inner, length-take (p.bytes - 0) mem)

    there_so : not (ltb k p.blocks) ≡ false
    there_so = not_from_true _ (lt-ltb _ _ there)

    cut_there : (x : List ℕ) → spliced (start_of k (take p.bytes mem)) (start_of (suc k) (take p.bytes mem)) x (take p.bytes mem) ≡ spliced part.from part.to x (take p.bytes mem)
    cut_there x =
        ap₂ (λ u v. spliced u v x (take p.bytes mem)) (sym (from ∙ ap (λ n. start_of k (take n mem)) all)) (sym (to ∙ ap (λ n. start_of (suc k) (take n mem)) all))

    module _ (g : Given) (d : Draft) (misfit : Bool) (bars : misfit ≡ bars_replacing k g.mode g.submode) (a : Result Draft Refusal) (checked : a ≡ draft_of M (drafted M k misfit g))
        (drawn : a ≡ Ok d) (fits : weighed (block_writing M (drafts d g)) ≡ Ok d.size) where
      replaced_so : drafted M k (bars_replacing k g.mode g.submode) g ≡ Ok (drafts d g)
      replaced_so = draft_is M k _ g a d (checked ∙ ap (λ b. draft_of M (drafted M k b g)) bars) drawn

      new_size : length (block_of M (drafts d g)) ≡ d.size
      new_size = ap length (block_written M (drafts d g)) ∙ block_size (block_writing M (drafts d g)) d.size fits

      changed : length (spliced (start_of k (take p.bytes mem)) (start_of (suc k) (take p.bytes mem)) (block_of M (drafts d g)) (take p.bytes mem)) ≡ (p.bytes - (part.to - part.from)) + d.size
      changed =
          ap length (cut_there (block_of M (drafts d g))) ∙ length_spliced mem p.bytes part.from part.to forward inside within (block_of M (drafts d g))
          ∙ ap (λ n. (p.bytes - (part.to - part.from)) + n) new_size

      pub replace_crowded : crowded mem p.close ((p.bytes - (part.to - part.from)) + d.size) ≡ true → outcome M mem (of_open p) (replaces k g) ≡ Err NoRoom
      unfolding outcome mended
      replace_crowded t =
          let held = holding.1 in
          let there = there_so in
          let draft = replaced_so in
          let full = ap (crowded mem p.close) changed ∙ t in
          rw (held, there, draft, full) refl

      pub replace_ready : crowded mem p.close ((p.bytes - (part.to - part.from)) + d.size) ≡ false → Ready M mem (of_open p) (replaces k g) d g part.from part.to p.blocks
      unfolding outcome mended
      replace_ready t =
          let held = holding.1 in
          let there = there_so in
          let draft = replaced_so in
          let free = ap (crowded mem p.close) changed ∙ t in
          record {
            planned = record {
              result = rw (held, there, draft, free) (ap (λ u. Ok (stored (leads_to (replaces k g)) p.close (content u p.blocks) p.bytes mem)) (cut_there (block_of M (drafts d g))));
              forward = forward;
              inside = inside;
              within = within;
              room = omega (arith, new_size, roomy_so mem p.close ((p.bytes - (part.to - part.from)) + d.size) t);
              few = omega arith;
            };
            fits = fits;
            size = new_size;
          }

    pub withdraw_planned : (k ≡ 0 → ⊥) → Planned M mem (of_open p) (withdraws k) [] part.from part.to (p.blocks - 1)
    unfolding outcome mended
    withdraw_planned later =
        let held = holding.1 in
        let there = there_so in
        let later_so : eqb k 0 ≡ false = ne_eqb k 0 later in
        record {
          result = rw (held, there, later_so) (ap (λ u. Ok (stored (leads_to (withdraws k)) p.close (content u (p.blocks - 1)) p.bytes mem)) (cut_there []));
          forward = forward;
          inside = inside;
          within = within;
          room = omega arith;
          few = omega arith;
        }

  -- ---- close
  length_bs : length (take p.bytes mem) ≡ p.bytes
  length_bs = length-take-le p.bytes mem within

  pub close_crowded : crowded mem p.close p.bytes ≡ true → outcome M mem (of_open p) closes ≡ Err NoRoom
  unfolding outcome mended
  close_crowded t =
      let held = holding.1 in
      let full : crowded mem p.close (length (take p.bytes mem)) ≡ true = ap (crowded mem p.close) length_bs ∙ t in
      rw (held, full) refl

  pub close_planned : crowded mem p.close p.bytes ≡ false → Planned M mem (of_open p) closes (end_of p.close) p.bytes p.bytes (suc p.blocks)
  unfolding outcome mended
  close_planned t =
      let held = holding.1 in
      let free : crowded mem p.close (length (take p.bytes mem)) ≡ false = ap (crowded mem p.close) length_bs ∙ t in
      record {
        result = rw (held, free) (ap (λ u. Ok (stored (leads_to closes) p.close (content u (suc p.blocks)) p.bytes mem)) (at_end p.bytes mem (end_of p.close) within));
        forward = omega arith;
        inside = omega arith;
        within = within;
        room = omega (arith, roomy_so mem p.close p.bytes t);
        few = omega arith;
      }

-- ---- reopen
pub reopen_planned : (M : Meaning) (mem : List ℕ) (p : Closed) (x : Received) → held M mem p ≡ Ok x → p.bytes ≤ length mem → (a : ℕ) → a ≡ p.bytes - length (end_of p.close)
    → Planned M mem (of_closed p) reopens [] a p.bytes (p.blocks - 1)
unfolding outcome mended
reopen_planned M mem p x h within a from =
    let l = length-take-le p.bytes mem within in
    let cut : take (length (take p.bytes mem) - length (end_of p.close)) (take p.bytes mem) ≡ spliced a p.bytes [] (take p.bytes mem) =
    ap (λ n. take n (take p.bytes mem)) (omega arith) ∙ sym (append-nil (take a (take p.bytes mem)))
    ∙ ap (λ v. take a (take p.bytes mem) ++ v) (sym (drop_all p.bytes (take p.bytes mem) (omega arith))) in
    record {
      result = rw h (ap (λ u. Ok (stored (leads_to reopens) p.close (content u (p.blocks - 1)) p.bytes mem)) cut);
      forward = omega arith;
      inside = omega arith;
      within = within;
      room = omega arith;
      few = omega (arith, held_few M mem p x h);
    }

pub reopen_refused : (M : Meaning) (mem : List ℕ) (p : Closed) (e : Refusal) → held M mem p ≡ Err e → outcome M mem (of_closed p) reopens ≡ Err e
unfolding outcome
reopen_refused M mem p e h = rw h refl

-- ---- start
module _ (M : Meaning) (mem : List ℕ) (closing form : ℕ) (list : List ℤ) (close : Form) (ClosingSo : form_of closing ≡ Some close)
    (d : Draft) (draft : drafted M 0 false (gives form 1 1 list) ≡ Ok (drafts d (gives form 1 1 list))) (fits : weighed (block_writing M (drafts d (gives form 1 1 list))) ≡ Ok d.size) where
  block : List ℕ
  block = block_of M (drafts d (gives form 1 1 list))

  start_size : length block ≡ d.size
  unfolding block
  start_size = ap length (block_written M (drafts d (gives form 1 1 list))) ∙ block_size (block_writing M (drafts d (gives form 1 1 list))) d.size fits

  pub start_crowded : crowded mem close d.size ≡ true → started M mem closing form list ≡ Err NoRoom
  unfolding started block
  start_crowded t =
      let full : crowded mem close (length (block_of M (drafts d (gives form 1 1 list)))) ≡ true = ap (crowded mem close) start_size ∙ t in
      rw (ClosingSo, draft, full) refl

  pub start_done : crowded mem close d.size ≡ false
      → started M mem closing form list ≡ Ok (stored Opened close (content (spliced 0 0 (block_of M (drafts d (gives form 1 1 list))) (take 0 mem)) 1) 0 mem)
  unfolding started block
  start_done t =
      let free : crowded mem close (length (block_of M (drafts d (gives form 1 1 list)))) ≡ false = ap (crowded mem close) start_size ∙ t in
      rw (ClosingSo, draft, free) (ap (λ u. Ok (stored Opened close (content u 1) 0 mem)) (sym (append-nil (block_of M (drafts d (gives form 1 1 list))))))

  pub start_bytes : length (spliced 0 0 (block_of M (drafts d (gives form 1 1 list))) (take 0 mem)) ≡ d.size
  unfolding block
  start_bytes = ap length (append-nil (block_of M (drafts d (gives form 1 1 list)))) ∙ start_size
