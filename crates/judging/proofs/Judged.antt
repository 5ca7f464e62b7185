-- What an accepted block tells.
use Rattle.std.proofs.Common.{◌≡◌, ℕ, ◌≤◌, Bool, true, false, ◌&&◌, ltb, List, [], Ok, sym, ◌∙◌, subst, arith}
use Rattle.std.proofs.lemmas.Bool.{ltb-false, cond-true, cond-false}
use Rattle.wire.specs.declared.blocks.Head.{Head}
use Rattle.wire.specs.Blocks.{read_head, field_of}
use Rattle.wire.specs.Forms.{fewest_pairs}
use Rattle.wire.specs.Steps.{blame}
use Rattle.wire.proofs.Passing.{passed, allowed, went_on, blameless, same_ok}
use Rattle.books.specs.Books.{Meaning}
use Rattle.judging.specs.declared.faults.BlockFault.TheVariants.{Wire, Field}
use Rattle.judging.specs.Blocks.{Judged, judged_block, judged_in, numbers_of}
use Rattle.judging.specs.Places.{is_end, misplaced, astray, placed}

-- a block that may stand as block k
pub record Placed (k : ℕ) (h : Head) : Type 0 where
  pub in_place : misplaced k h.modes.mode h.modes.submode ≡ false
  pub near : astray k h.modes.mode h.modes.submode ≡ false
  pub end_bare : is_end h.modes.mode h.modes.submode ≡ true → h.pairs ≤ fewest_pairs h.form

pub record Accepted (M : Meaning) (k : ℕ) (bs : List ℕ) (x : Judged) : Type 0 where
  pub judged : judged_block M k bs ≡ Ok x
  pub head : read_head bs ≡ Ok x.head
  pub place : Placed k x.head
  pub reads : is_end x.head.modes.mode x.head.modes.submode ≡ false → M.reading x.head.modes.mode x.head.modes.submode (field_of x.head bs) ≡ Ok x.numbers
  pub end_empty : is_end x.head.modes.mode x.head.modes.submode ≡ true → x.numbers ≡ []

bare : (e : Bool) (a b : ℕ) → (e && ltb a b) ≡ false → e ≡ true → b ≤ a
bare true a b h t = ltb-false a b h
bare false a b h t = absurd (let z : ◌≡◌ {A = ℕ} 0 1 = cc in omega arith)

placed_back : (k : ℕ) (h : Head) {u : Unit {0}} → placed k h ≡ Ok u → Placed k h
placed_back k h e =
    let p9 = passed (misplaced k h.modes.mode h.modes.submode) _ _ e in
    let p10 = passed (astray k h.modes.mode h.modes.submode) _ _ p9.1 in
    let p11 = allowed (is_end h.modes.mode h.modes.submode && ltb (fewest_pairs h.form) h.pairs) _ p10.1 in
    record { in_place = p9.0; near = p10.0; end_bare = bare _ _ _ p11 }

pub judged_back : (M : Meaning) (k : ℕ) (bs : List ℕ) (x : Judged) → judged_block M k bs ≡ Ok x → Accepted M k bs x
unfolding judged_in
judged_back M k bs x e =
    let a = went_on (blame Wire (read_head bs)) _ e in
    let b = went_on (placed k a.0) _ a.2 in
    let c = went_on (numbers_of M a.0 bs) _ b.2 in
    subst (Accepted M k bs) (same_ok c.2)
    (record {
      judged = e ∙ sym c.2;
      head = blameless Wire _ a.1;
      place = placed_back k a.0 b.1;
      reads = λ i. blameless Field _ (sym (cond-false (is_end a.0.modes.mode a.0.modes.submode) _ _ i) ∙ c.1);
      end_empty = λ i. sym (same_ok (sym (cond-true (is_end a.0.modes.mode a.0.modes.submode) _ _ i) ∙ c.1));
    })
