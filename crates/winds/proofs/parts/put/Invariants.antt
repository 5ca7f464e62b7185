use Rattle.std.proofs.Common.{◌≡◌, ℕ, ◌+◌, ◌*◌, List, take, Ok}
use Rattle.cells.specs.Layouts.{layout_writing}
use Rattle.winds.specs.Winds.{winds}
use Rattle.winds.proofs.parts.put.Given as goal

-- the head and the first k barbs are written
abbrev pub invariant-loop-k : goal.invariant-loop-k
invariant-loop-k l = (field : List ℕ) → layout_writing winds l.list ≡ Ok field → take (2 + 10 * l.k) l.place ≡ take (2 + 10 * l.k) field
