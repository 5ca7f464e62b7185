use Rattle.std.proofs.Common.{◌≡◌, ◌+◌, ◌-◌, ◌*◌, ◌/◌, length, drop}
use Rattle.cells.specs.Cells.{turns, checked}
use Rattle.winds.specs.Winds.{barb}
use Rattle.winds.proofs.parts.check_numbers.Given as goal

-- the barbs from k on decide
abbrev pub invariant-loop-k : goal.invariant-loop-k
invariant-loop-k l = checked (turns ((length l.list - 2) / 6 - l.k) 6 barb.writing (2 + 6 * l.k) (drop (2 + 6 * l.k) l.list)) ≡ checked (turns ((length l.list - 2) / 6) 6 barb.writing 2 (drop 2 l.list))
