use Rattle.std.proofs.Common.{◌≡◌, ◌+◌, ◌-◌, ◌*◌, ◌/◌, length, drop}
use Rattle.cells.specs.Cells.{turns, checked}
use Rattle.winds.specs.Winds.{barb}
use Rattle.winds.proofs.parts.check_bytes.Given as goal

-- the barbs from k on decide
abbrev pub invariant-loop-k : goal.invariant-loop-k
invariant-loop-k l = checked (turns ((length l.field - 2) / 10 - l.k) 10 barb.reading (2 + 10 * l.k) (drop (2 + 10 * l.k) l.field)) ≡ checked (turns ((length l.field - 2) / 10) 10 barb.reading 2 (drop 2 l.field))
