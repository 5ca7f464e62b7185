use Rattle.std.proofs.Common.{◌≡◌, ◌+◌, ◌%◌, ◌<◌}
use Rattle.std.specs.Slice.Iter.{chunks_exact_rest, chunks_exact_size}
use Rattle.wire.specs.Pairs.{pairs, total}
use Rattle.wire.proofs.pairs.sum_pairs.Given as goal

-- the sum so far and what is left make the whole sum
abbrev pub invariant-loop-two : goal.invariant-loop-two
invariant-loop-two l =
    (l.sum < 65536) × (chunks_exact_size l.two-iterator ≡ 2)
    × ((l.sum + total (pairs (chunks_exact_rest l.two-iterator))) % 65536 ≡ total (pairs l.bytes) % 65536)
