use Rattle.std.proofs.Common.{◌≡◌, ◌-◌, ◌≤◌, length, drop}
use Rattle.products.specs.Opens.{open_walk, passes}
use Rattle.products.proofs.opens.walk_open.Given as goal

-- what is left of the product tells the whole of it
abbrev pub invariant-loop-block : goal.invariant-loop-block
invariant-loop-block g l =
    let M = g.B.Book.meaning l.book in
    (l.at ≤ length l.bytes)
    × (passes (open_walk M (l.blocks - l.block) l.last.block l.last.at l.block l.at (drop l.at l.bytes)) ≡ passes (open_walk M l.blocks 0 0 0 0 l.bytes))
