use Rattle.std.proofs.Common.{◌≡◌, ◌-◌, true, false, ltb, length, drop, Err, ap, ◌∙◌, arith, length-drop, rules}
use Rattle.std.proofs.lemmas.List.{take_rest, drop-drop}
use Rattle.std.proofs.lemmas.Bool.{lt-ltb, le-ltb}
use Rattle.products.proofs.Opening.{open_at, open_over}
use Rattle.products.proofs.opens.walk_open.Goals as goal

pub returns-then-block-ge-MOST_BLOCKS : goal.returns-then-block-ge-MOST_BLOCKS
returns-then-block-ge-MOST_BLOCKS g c = search (rules, open_at, take_rest)

pub returns-in_err-found : goal.returns-in_err-found
returns-in_err-found g c = search (rules, open_at, take_rest)

pub loop-block-preserved : goal.loop-block-preserved
loop-block-preserved g c = search (rules, open_at, take_rest, drop-drop)

pub returns-then-at-bytes : goal.returns-then-at-bytes
returns-then-at-bytes g c =
    let l = c.loop-block in
    let left : ltb 0 (length (drop l.at c.args.bytes.now)) ≡ true = lt-ltb _ _ (simp length-drop (omega arith)) in
    ap Err c.fault-then-at-bytes.ensures ∙ open_over (g.B.Book.meaning c.args.book.now) (c.args.blocks - l.block) l.last.block l.last.at l.block l.at (drop l.at c.args.bytes.now) true (omega arith) left ∙ l.invariant.1

pub returns : goal.returns
returns g c =
    let l = c.loop-block in
    let none : ltb 0 (length (drop l.at c.args.bytes.now)) ≡ false = le-ltb _ _ (simp length-drop (omega arith)) in
    open_over (g.B.Book.meaning c.args.book.now) (c.args.blocks - l.block) l.last.block l.last.at l.block l.at (drop l.at c.args.bytes.now) false (omega arith) none ∙ l.invariant.1
