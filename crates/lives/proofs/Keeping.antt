-- What every accepted call keeps: the memory holds the product that the records left make.
use Rattle.std.proofs.Common.{◌≡◌, ℕ, suc, ◌+◌, ◌-◌, ◌%◌, ◌<◌, ◌≤◌, max, false, not, ◌||◌, eqb, ltb, List, [], ◌∷◌, ◌++◌, length, take, drop, ℤ, is_some, Ok, sym, refl, ap, ◌∙◌, subst, ap₂, arith}
use Rattle.std.specs.List.{AllByRecursion}
use Rattle.std.proofs.lemmas.List.Edits.{length-remove}
use Rattle.std.proofs.ByRecursion.{All-take}
use Rattle.std.proofs.lemmas.List.{append-nil, length-append, length-drop, length-replicate, length-set, length-take-le, take_at}
use Rattle.std.proofs.lemmas.Bool.{ltb-true, ltb-false, le-ltb, eqb-false, eq-eqb, or_from, or_parts, not_from_true, not-false}
use Rattle.wire.specs.declared.forms.Form.{Form}
use Rattle.wire.specs.Forms.{form_number, form_of}
use Rattle.wire.specs.Rows.{start_of}
use Rattle.wire.specs.Pairs.{Byte, Bytes}
use Rattle.wire.specs.Steps.{refuse, blame}
use Rattle.wire.proofs.Passing.{pass, passed, go_on, went_on, not_blamed, blameless, same_ok, from_there}
use Rattle.memory.specs.Laid.{spliced, rewritten, zeros}
use Rattle.books.specs.Books.{Meaning, Lawful, Number}
use Rattle.judging.specs.declared.places.Phase.{Phase}
use Rattle.judging.specs.declared.places.Phase.TheVariants.{Opened, Shut}
use Rattle.judging.specs.declared.faults.BlockFault.TheVariants.{OddCount}
use Rattle.judging.specs.Faults.{located}
use Rattle.judging.specs.Places.{misplaced}
use Rattle.records.specs.Records.{Record, Given, gives, given_form, recorded, block_of}
use Rattle.records.specs.Drafts.{drafted}
use Rattle.products.specs.Receipts.{Received, counted, closed_walk, receipt, most_bytes, most_blocks, closed_as, received}
use Rattle.products.specs.Closings.{blocks_of, end_of}
use Rattle.products.specs.Opens.{open_walk, open_receipt}
use Rattle.products.proofs.Within.{receipt_few}
use Rattle.products.proofs.Written.{receipt_written}
use Rattle.products.specs.declared.closed.Closed.{Closed}
use Rattle.products.specs.Products.{Product, of_closed, as_closed}
use Rattle.products.specs.Holding.{held, records_in, holds}
use Rattle.products.specs.Calls.{Call, adds, replaces, withdraws, closes, reopens, wants, leads_to, Content, content, limit, crowded, roomy, bars_adding, bars_replacing, mended, Stored, stored, outcome, started}
use Rattle.products.proofs.Held.{end_length}
use Rattle.lives.specs.Lives.{leaves, Typed}
use Rattle.lives.specs.Law.{writing}
use Rattle.lives.proofs.Good.{Good, open_reads, closed_reads, row_back}
use Rattle.lives.proofs.Edits.{later, good_push, good_set, good_removed, edited_add, edited_replace, edited_withdraw, edited_reopen, fewer_bytes, even_blocks, drafted_fits}

-- the blocks of a product with so many records
abbrev pub block_count : Phase → ℕ → ℕ
block_count Opened n = n
block_count Shut n = suc n

-- records that a product may have
pub record Lasting (M : Meaning) (rs : List Record) : Type 0 where
  pub good : Good M 0 rs
  pub some : 1 ≤ length rs
  pub few : length rs < most_blocks

-- the memory holds the product that the records make
pub record Sound (M : Meaning) (p : Product) (mem : List ℕ) (f : Form) (rs : List Record) : Type 0 where
  pub lasting : Lasting M rs
  pub bytes_is : p.bytes ≡ length (writing M p.phase f rs)
  pub blocks_is : p.blocks ≡ block_count p.phase (length rs)
  pub close_is : p.close ≡ f
  pub stands : take p.bytes mem ≡ writing M p.phase f rs
  pub room : p.bytes ≤ limit mem

first_placed : misplaced 0 1 1 ≡ false
unfolding misplaced
first_placed = refl

ap₃ : {A B C D : Type 0} (g : A → B → C → D) {a a' : A} {b b' : B} {c c' : C} → a ≡ a' → b ≡ b' → c ≡ c' → g a b c ≡ g a' b' c'
ap₃ g p q r = λ i. g (p i) (q i) (r i)

module _ (M : Meaning) (L : Lawful M) where
  even_writing : (ph : Phase) (f : Form) (rs : List Record) → Lasting M rs → length (writing M ph f rs) % 2 ≡ 0
  even_writing Opened f rs l = even_blocks M 0 rs l.good
  even_writing Shut f rs l = rw (length-append (blocks_of M rs) (end_of f)) (omega (arith, even_blocks M 0 rs l.good, end_length f))

  counts : (mem : List ℕ) (n : ℕ) → n ≤ limit mem → n % 2 ≡ 0 → counted (length mem) n ≡ Ok tt
  counts mem n h e =
      pass _ _ _ (or_from _ _ (le-ltb (length mem) n (omega arith)) (le-ltb most_bytes n (omega arith))) (ap (λ b. refuse b OddCount) (not_from_true _ (eq-eqb (n % 2) 0 e)))

  sound_counts : (p : Product) (mem : List ℕ) (f : Form) (rs : List Record) → Sound M p mem f rs → counted (length mem) p.bytes ≡ Ok tt
  sound_counts p mem f rs s = counts mem p.bytes s.room (omega (arith, s.bytes_is, even_writing p.phase f rs s.lasting))

  -- ---- so it is read back
  holds_open : (p : Product) (mem : List ℕ) (f : Form) (rs : List Record) → p.phase ≡ Opened → Sound M p mem f rs → open_receipt M mem p.bytes p.blocks ≡ Ok rs
  unfolding open_receipt
  holds_open p mem f rs e s =
      go_on _ _ _ (not_blamed _ _ (sound_counts p mem f rs s))
      (ap₂ (λ k bs. open_walk M k 0 0 0 0 bs) (s.blocks_is ∙ ap (λ ph. block_count ph (length rs)) e) (s.stands ∙ ap (λ ph. writing M ph f rs) e)
      ∙ open_reads M L 0 0 0 0 rs s.lasting.good (omega (arith, s.lasting.few)))

  pub holds_closed : (p : Product) (mem : List ℕ) (f : Form) (rs : List Record) → p.phase ≡ Shut → Sound M p mem f rs → receipt M mem p.bytes ≡ Ok (record { records = rs; close = f })
  unfolding receipt
  holds_closed p mem f rs e s =
      go_on _ _ _ (not_blamed _ _ (sound_counts p mem f rs s))
      (ap (closed_walk M most_blocks 0 0) (s.stands ∙ ap (λ ph. writing M ph f rs) e)
      ∙ closed_reads M L most_blocks 0 0 f rs s.lasting.good s.lasting.few (omega (arith, s.lasting.some)))

  pub held_closed : (p : Product) (mem : List ℕ) (f : Form) (rs : List Record) → p.phase ≡ Shut → Sound M p mem f rs → held M mem (as_closed p) ≡ Ok (record { records = rs; close = f })
  unfolding held
  held_closed p mem f rs e s =
      go_on _ _ _ (not_blamed _ _ (holds_closed p mem f rs e s))
      (pass _ _ _
      (or_from _ _ (not_from_true _ (eq-eqb _ _ (sym (s.blocks_is ∙ ap (λ ph. block_count ph (length rs)) e)))) (not_from_true _ (eq-eqb _ _ (ap form_number (sym s.close_is)))))
      refl)

  held_as : (ph : Phase) (p : Product) (mem : List ℕ) (f : Form) (rs : List Record) → p.phase ≡ ph → Sound M p mem f rs → records_in ph M mem p ≡ Ok rs
  held_as Opened p mem f rs e s = not_blamed _ _ (holds_open p mem f rs e s)
  held_as Shut p mem f rs e s = go_on _ _ _ (held_closed p mem f rs e s) refl

  pub held_sound : (p : Product) (mem : List ℕ) (f : Form) (rs : List Record) → Sound M p mem f rs → holds M mem p ≡ Ok rs
  held_sound p mem f rs s = held_as p.phase p mem f rs refl s

  -- ---- a product that was stored is sound
  length_rewritten : (new : List ℕ) (old : ℕ) (mem : List ℕ) → old ≤ length mem → length new ≤ length mem → length (rewritten new old mem) ≡ length mem
  length_rewritten new old mem h k =
      rw (
        length-append new (zeros (old - length new) ++ drop (max old (length new)) mem),
        length-append (zeros (old - length new)) (drop (max old (length new)) mem),
        length-replicate {A = ℕ} (old - length new) 0,
        length-drop (max old (length new)) mem,
      ) (omega arith)

  stored_sound : (ph : Phase) (f : Form) (n : ℕ) (rs : List Record) (new : List ℕ) (old : ℕ) (mem : List ℕ) → Lasting M rs → new ≡ writing M ph f rs → n ≡ block_count ph (length rs)
      → old ≤ limit mem → length new ≤ limit mem → Sound M (stored ph f (content new n) old mem).product (stored ph f (content new n) old mem).memory f rs
  stored_sound ph f n rs new old mem l e c h k = record {
    lasting = l;
    bytes_is = ap length e;
    blocks_is = c;
    close_is = refl;
    stands = take_at new _ _ refl ∙ e;
    room = rw (length_rewritten new old mem (omega arith) (omega arith)) k;
  }

  uncrowded : (mem : List ℕ) (f : Form) (n : ℕ) → crowded mem f n ≡ false → n + length (end_of f) ≤ limit mem
  uncrowded mem f n h = ltb-false (limit mem) (n + length (end_of f)) h

  -- what a call that nothing turns down leaves
  record Left (c : Call) (f : Form) (mem : List ℕ) (rs : List Record) (x : Content) : Type 0 where
    lasting : Lasting M (leaves c rs)
    bytes : x.bytes ≡ writing M (leads_to c) f (leaves c rs)
    count : x.blocks ≡ block_count (leads_to c) (length (leaves c rs))
    room : length x.bytes ≤ limit mem

  roomy_back : (mem : List ℕ) (f : Form) (y x : Content) → roomy mem f y ≡ Ok x → (crowded mem f (length y.bytes) ≡ false) × (y ≡ x)
  roomy_back mem f y x h = let p = passed (crowded mem f (length y.bytes)) _ _ h in (p.0, same_ok p.1)

  left_add : (g : Given) (mem : List ℕ) (f : Form) (rs : List Record) (x : Content) → AllByRecursion Number g.numbers → Lasting M rs
      → mended M mem f (length rs) (blocks_of M rs) (adds g) ≡ Ok x → Left (adds g) f mem rs x
  unfolding mended
  left_add g mem f rs x known l h =
      let a = went_on (drafted M (length rs) (bars_adding g.mode g.submode) g) _ h in
      let b = passed (not (ltb (length rs) (most_blocks - 1))) _ _ a.2 in
      let c = roomy_back mem f (content (blocks_of M rs ++ block_of M a.0) (suc (length rs))) x b.1 in
      let few = ltb-true (length rs) (most_blocks - 1) (not-false _ b.0) in
      let fit = drafted_fits M L (length rs) (bars_adding g.mode g.submode) g a.0 known (λ o. (later (length rs) g.mode g.submode l.some ∙ (or_parts _ _ o).0, (or_parts _ _ o).1)) a.1 in
      let more = length-append rs (recorded g ∷ []) in
      subst (Left (adds g) f mem rs) c.1 (record {
        lasting = record { good = good_push M 0 (length rs) rs (recorded g) (omega arith) l.good fit.0; some = omega (arith, more); few = omega (arith, more) };
        bytes = ap (λ r. blocks_of M rs ++ block_of M r) fit.1 ∙ edited_add M rs (recorded g);
        count = omega (arith, more);
        room = omega (arith, uncrowded mem f _ c.0);
      })

  left_replace : (k : ℕ) (g : Given) (mem : List ℕ) (f : Form) (rs : List Record) (x : Content) → AllByRecursion Number g.numbers → Lasting M rs
      → mended M mem f (length rs) (blocks_of M rs) (replaces k g) ≡ Ok x → Left (replaces k g) f mem rs x
  unfolding mended
  left_replace k g mem f rs x known l h =
      let a = passed (not (ltb k (length rs))) _ _ h in
      let there = ltb-true k (length rs) (not-false _ a.0) in
      let b = went_on (drafted M k (bars_replacing k g.mode g.submode) g) _ a.1 in
      let new = spliced (start_of k (blocks_of M rs)) (start_of (suc k) (blocks_of M rs)) (block_of M b.0) (blocks_of M rs) in
      let c = roomy_back mem f (content new (length rs)) x b.2 in
      let fit = drafted_fits M L k (bars_replacing k g.mode g.submode) g b.0 known (λ o. or_parts _ _ o) b.1 in
      let same = length-set rs k (recorded g) in
      subst (Left (replaces k g) f mem rs) c.1 (record {
        lasting = record { good = good_set M 0 k k rs (recorded g) (omega arith) l.good fit.0; some = omega (arith, same, l.some); few = omega (arith, same, l.few) };
        bytes = ap (λ r. spliced (start_of k (blocks_of M rs)) (start_of (suc k) (blocks_of M rs)) (block_of M r) (blocks_of M rs)) fit.1 ∙ edited_replace M k rs (recorded g) l.good there;
        count = sym same;
        room = omega (arith, uncrowded mem f (length new) c.0);
      })

  left_withdraw : (k : ℕ) (mem : List ℕ) (f : Form) (rs : List Record) (x : Content) → Lasting M rs → length (blocks_of M rs) ≤ limit mem
      → mended M mem f (length rs) (blocks_of M rs) (withdraws k) ≡ Ok x → Left (withdraws k) f mem rs x
  unfolding mended
  left_withdraw k mem f rs x l room h =
      let a = passed (not (ltb k (length rs))) _ _ h in
      let there = ltb-true k (length rs) (not-false _ a.0) in
      let b = passed (eqb k 0) _ _ a.1 in
      let less = length-remove rs k there in
      let pos : 1 ≤ k = omega (arith, eqb-false k 0 b.0) in
      subst (Left (withdraws k) f mem rs) (same_ok b.1) (record {
        lasting = record { good = good_removed M 0 k rs (omega arith) l.good; some = omega (arith, less); few = omega (arith, less, l.few) };
        bytes = edited_withdraw M k rs l.good there;
        count = omega (arith, less);
        room = omega (arith, ap length (edited_withdraw M k rs l.good there), fewer_bytes M rs k, room);
      })

  left_close : (mem : List ℕ) (f : Form) (rs : List Record) (x : Content) → Lasting M rs → mended M mem f (length rs) (blocks_of M rs) closes ≡ Ok x → Left closes f mem rs x
  unfolding mended
  left_close mem f rs x l h =
      let a = went_on (roomy mem f (content (blocks_of M rs) (length rs))) _ h in
      let c = roomy_back mem f _ a.0 a.1 in
      subst (Left closes f mem rs) (same_ok a.2) (record {
        lasting = l;
        bytes = refl;
        count = refl;
        room = omega (arith, length-append (blocks_of M rs) (end_of f), uncrowded mem f _ c.0);
      })

  left_reopen : (mem : List ℕ) (f : Form) (rs : List Record) (x : Content) → Lasting M rs → length (blocks_of M rs ++ end_of f) ≤ limit mem
      → mended M mem f (suc (length rs)) (blocks_of M rs ++ end_of f) reopens ≡ Ok x → Left reopens f mem rs x
  unfolding mended
  left_reopen mem f rs x l room h =
      let back = edited_reopen M (end_of f) rs in
      subst (Left reopens f mem rs) (same_ok h) (record {
        lasting = l;
        bytes = back;
        count = omega arith;
        room = omega (arith, ap length back, length-append (blocks_of M rs) (end_of f), room);
      })

  left : (c : Call) (mem : List ℕ) (f : Form) (rs : List Record) (x : Content) → Typed c → Lasting M rs → length (writing M (wants c) f rs) ≤ limit mem
      → mended M mem f (block_count (wants c) (length rs)) (writing M (wants c) f rs) c ≡ Ok x → Left c f mem rs x
  left (adds g) mem f rs x known l room h = left_add g mem f rs x known l h
  left (replaces k g) mem f rs x known l room h = left_replace k g mem f rs x known l h
  left (withdraws k) mem f rs x known l room h = left_withdraw k mem f rs x l room h
  left closes mem f rs x known l room h = left_close mem f rs x l h
  left reopens mem f rs x known l room h = left_reopen mem f rs x l room h

  -- ---- an accepted call on a sound product gives a sound product, of the records that it leaves
  pub outcome_sound : (c : Call) (p : Product) (mem : List ℕ) (f : Form) (rs : List Record) (x : Stored) → Typed c → Sound M p mem f rs → p.phase ≡ wants c
      → outcome M mem p c ≡ Ok x → Sound M x.product x.memory f (leaves c rs)
  unfolding outcome
  outcome_sound c p mem f rs x known s e h =
      let bytes : take p.bytes mem ≡ writing M (wants c) f rs = s.stands ∙ ap (λ ph. writing M ph f rs) e in
      let blocks : p.blocks ≡ block_count (wants c) (length rs) = s.blocks_is ∙ ap (λ ph. block_count ph (length rs)) e in
      let rest = from_there _ _ _ (held_sound p mem f rs s) h in
      let y = went_on (mended M mem p.close p.blocks (take p.bytes mem) c) _ rest in
      let mends : mended M mem f (block_count (wants c) (length rs)) (writing M (wants c) f rs) c ≡ Ok y.0 =
      ap₃ (λ g n bs. mended M mem g n bs c) (sym s.close_is) (sym blocks) (sym bytes) ∙ y.1 in
      let size : length (writing M (wants c) f rs) ≤ limit mem = subst (λ n. n ≤ limit mem) (s.bytes_is ∙ ap (λ ph. length (writing M ph f rs)) e) s.room in
      let l = left c mem f rs y.0 known s.lasting size mends in
      subst (λ z. Sound M z.product z.memory f (leaves c rs)) (ap (λ g. stored (leads_to c) g y.0 p.bytes mem) (sym s.close_is) ∙ same_ok y.2)
      (stored_sound (leads_to c) f y.0.blocks (leaves c rs) y.0.bytes p.bytes mem l.lasting l.bytes l.count s.room l.room)

  pub started_sound : (mem : List ℕ) (closing form : ℕ) (list : List ℤ) (x : Stored) → AllByRecursion Number list → started M mem closing form list ≡ Ok x
      → Sound M x.product x.memory (given_form closing) (recorded (gives form 1 1 list) ∷ [])
  unfolding started
  started_sound mem closing form list x known h =
      let a = passed (not (is_some (form_of closing))) _ _ h in
      let b = went_on (drafted M 0 false (gives form 1 1 list)) _ a.1 in
      let c = went_on (roomy mem (given_form closing) (content (block_of M b.0) 1)) _ b.2 in
      let d = roomy_back mem (given_form closing) (content (block_of M b.0) 1) c.0 c.1 in
      let fit = drafted_fits M L 0 false (gives form 1 1 list) b.0 known (λ o. (first_placed, refl)) b.1 in
      let r = recorded (gives form 1 1 list) in
      subst (λ z. Sound M z.product z.memory (given_form closing) (r ∷ [])) (ap (λ y. stored Opened (given_form closing) y 0 mem) d.1 ∙ same_ok c.2)
      (stored_sound Opened (given_form closing) 1 (r ∷ []) (block_of M b.0) 0 mem
      (record { good = (fit.0, tt); some = omega arith; few = omega arith })
      (ap (block_of M) fit.1 ∙ sym (append-nil (block_of M r))) refl (omega arith) (omega (arith, uncrowded mem (given_form closing) (length (block_of M b.0)) d.0)))

  pub receipt_sound : (mem : List ℕ) (n : ℕ) (x : Received) (p : Closed) → Bytes mem → receipt M mem n ≡ Ok x → received M mem n ≡ Ok p → Sound M (of_closed p) mem x.close x.records
  unfolding receipt
  receipt_sound mem n x p ok h k =
      let c = went_on (blame (located 0 0) (counted (length mem) n)) _ h in
      let bound = passed (ltb (length mem) n || ltb most_bytes n) _ _ (blameless (located 0 0) _ c.1) in
      let parts = or_parts _ _ bound.0 in
      let row = row_back M L most_blocks 0 0 (take n mem) x (All-take Byte n mem ok) c.2 in
      let whole = receipt_written M L mem n x ok h in
      let fits : n ≤ limit mem = omega (arith, ltb-false (length mem) n parts.0, ltb-false most_bytes n parts.1) in
      let is : record { bytes = n; blocks = 0 + suc (length x.records); close = x.close } ≡ p = same_ok (sym (ap (λ w. closed_as n 0 w) h) ∙ k) in
      subst (λ q. Sound M (of_closed q) mem x.close x.records) is (record {
        lasting = record { good = row.good; some = omega (arith, row.begun); few = receipt_few M mem n x h };
        bytes_is = sym (length-take-le n mem (omega arith)) ∙ ap length whole;
        blocks_is = omega arith;
        close_is = refl;
        stands = whole;
        room = fits;
      })
