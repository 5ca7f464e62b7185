use Rattle.std.proofs.Common.{ℕ, ◌<◌, get_or, pos, w32, SFits}
use Rattle.books.proofs.known.numbers_known.Given as goal

abbrev pub invariant-loop-number : goal.invariant-loop-number
invariant-loop-number l = (k : ℕ) → k < l.number-index → SFits w32 (get_or l.list k (pos 0))
