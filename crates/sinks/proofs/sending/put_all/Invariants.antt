use Rattle.std.proofs.Common.{◌≡◌, ℕ, List, ◌++◌}
use Rattle.std.specs.Slice.Iter.{chunks_exact_rest, chunks_exact_size}
use Rattle.wire.specs.Pairs.{pairs}
use Rattle.sinks.specs.Sinks.{Took}
use Rattle.sinks.proofs.sending.put_all.Given as goal

-- the sink took the pairs in front of those that are left
abbrev pub invariant-loop-two : goal.invariant-loop-two
invariant-loop-two g l =
    (chunks_exact_size l.two-iterator ≡ 2)
    × ((done : List ℕ) × (done ++ pairs (chunks_exact_rest l.two-iterator) ≡ pairs l.bytes)
    × Took g.S.Sink.taken g.S.Sink.room g.S.Sink.wrote l.initial.sink done l.sink)
