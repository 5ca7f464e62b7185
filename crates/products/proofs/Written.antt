-- An accepted product is the blocks of the records read in it, and the end.
use Rattle.std.proofs.Common.{◌≡◌, ℕ, zero, suc, ◌+◌, ◌-◌, ◌≤◌, true, false, List, [], ◌++◌, length, take, drop, IfOk, Ok, Err, Result, sym, refl, ap, ◌∙◌, subst, ap₂, arith}
use Rattle.std.proofs.ByRecursion.{All-take, All-drop}
use Rattle.std.proofs.lemmas.List.{append_assoc, append-nil, drop_all}
use Rattle.std.proofs.lemmas.Bool.{eqb-true, and_parts}
use Rattle.wire.specs.declared.blocks.Head.{Head}
use Rattle.wire.specs.Blocks.{block_bytes, size, field_end, field_of, rest_of}
use Rattle.wire.specs.Pairs.{Byte, Bytes}
use Rattle.wire.specs.Steps.{blame}
use Rattle.wire.proofs.Coding.{codec}
use Rattle.wire.proofs.Passing.{went_on}
use Rattle.books.specs.Books.{Meaning, Lawful}
use Rattle.judging.specs.declared.faults.ReceiptFault.{ReceiptFault}
use Rattle.judging.specs.Blocks.{Judged}
use Rattle.judging.specs.Faults.{located}
use Rattle.judging.specs.Places.{is_end}
use Rattle.judging.proofs.Judged.{Accepted}
use Rattle.products.specs.declared.closed.Closed.{Closed}
use Rattle.records.specs.Records.{block_with, block_of}
use Rattle.products.specs.Receipts.{Received, record_of, closed_walk, counted, receipt, received, closed_as, most_blocks}
use Rattle.products.specs.Closings.{blocks_of, end_of, closed_bytes, AsWritten}
use Rattle.products.proofs.Turns.{ends, goes, turn_back, none_walked}

pub bytes_field : (h : Head) (bs : List ℕ) → Bytes bs → Bytes (field_of h bs)
bytes_field h bs ok = All-take Byte (field_end h - 4) (drop 4 bs) (All-drop Byte 4 bs ok)

-- the end
ending : (M : Meaning) (k : ℕ) (bs : List ℕ) (x : Judged) → Bytes bs → Accepted M k bs x
    → is_end x.head.modes.mode x.head.modes.submode ≡ true → length bs ≤ size x.head → bs ≡ end_of x.head.form
ending M k bs x ok a e last =
    let m = and_parts _ _ e in
    let mode : x.head.modes.mode ≡ 1 = eqb-true _ _ m.0 in
    let sub : x.head.modes.submode ≡ 2 = eqb-true _ _ m.1 in
    let few = a.place.end_bare e in
    let none : field_end x.head - 4 ≡ 0 = omega arith in
    let field : field_of x.head bs ≡ [] = ap (λ n. take n (drop 4 bs)) none in
    let rest : rest_of x.head bs ≡ [] = drop_all (size x.head) bs last in
    let block : block_bytes x.head.form x.head.modes.mode x.head.modes.submode (field_of x.head bs) ≡ end_of x.head.form = rw (mode, sub, field) refl in
    (codec.decodes bs x.head ok a.head).whole ∙ ap₂ (λ b r. b ++ r) block rest ∙ append-nil (end_of x.head.form)

module _ (M : Meaning) (L : Lawful M) where
  -- a record is written as the block that it was read from
  again : (k : ℕ) (bs : List ℕ) (x : Judged) → Bytes bs → Accepted M k bs x → is_end x.head.modes.mode x.head.modes.submode ≡ false
      → bs ≡ block_of M (record_of x) ++ rest_of x.head bs
  again k bs x ok a e =
      let w = (L x.head.modes.mode x.head.modes.submode).reads (field_of x.head bs) x.numbers (bytes_field x.head bs ok) (a.reads e) in
      (codec.decodes bs x.head ok a.head).whole ∙ ap (λ b. b ++ rest_of x.head bs) (sym (ap (λ u. block_with (record_of x) u) w))

  walked : (n k at : ℕ) (bs : List ℕ) (y : Received) → Bytes bs → closed_walk M n k at bs ≡ Ok y → bs ≡ closed_bytes M y
  walked zero k at bs y ok h = absurd (none_walked M k at bs y h)
  walked (suc n) k at bs y ok h = elim (turn_back M n k at bs y h) [
    | ends x a e last is ↦ subst (λ y. bs ≡ closed_bytes M y) is (ending M k bs x ok a e last)
    | goes x z a e w is ↦
        subst (λ y. bs ≡ closed_bytes M y) is
        (again k bs x ok a e
        ∙ ap (λ r. block_of M (record_of x) ++ r) (walked n (k + 1) (at + size x.head) (rest_of x.head bs) z (All-drop Byte (size x.head) bs ok) w)
        ∙ sym (append_assoc (block_of M (record_of x)) (blocks_of M z.records) (end_of z.close)))
  ]

  pub receipt_written : (mem : List ℕ) (n : ℕ) (x : Received) → Bytes mem → receipt M mem n ≡ Ok x → take n mem ≡ closed_bytes M x
  unfolding receipt
  receipt_written mem n x ok h =
      let p = went_on (blame (located 0 0) (counted (length mem) n)) _ h in
      walked most_blocks 0 0 (take n mem) x (All-take Byte n mem ok) p.2

  as_written : (mem : List ℕ) (n : ℕ) → Bytes mem → (w : Result Received ReceiptFault) → receipt M mem n ≡ w → IfOk (closed_as n 0 w) (AsWritten M mem)
  as_written mem n ok (Ok x) e = (x, e, receipt_written mem n x ok e)
  as_written mem n ok (Err f) e = tt

  pub received_written : (mem : List ℕ) (n : ℕ) (r : Result Closed ReceiptFault) → Bytes mem → r ≡ received M mem n → IfOk r (AsWritten M mem)
  received_written mem n r ok e = subst (λ r. IfOk r (AsWritten M mem)) (sym e) (as_written mem n ok (receipt M mem n) refl)
