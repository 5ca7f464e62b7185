use Rattle.std.proofs.Common.{◌≡◌, ◌-◌, ◌≤◌, length, drop}
use Rattle.products.specs.Receipts.{closed_walk, closed_as, most_blocks}
use Rattle.products.proofs.receipt.walk_blocks.Given as goal

-- what is left of the product tells the whole of it
abbrev pub invariant-loop-block : goal.invariant-loop-block
invariant-loop-block g l =
    let M = g.B.Book.meaning l.book in
    let total = length l.bytes in
    (l.at ≤ length l.bytes)
    × (closed_as total l.block (closed_walk M (most_blocks - l.block) l.block l.at (drop l.at l.bytes)) ≡ closed_as total 0 (closed_walk M most_blocks 0 0 l.bytes))
