use Rattle.std.proofs.Common.{rules}
use Rattle.wire.specs.Pairs.{pair_sum}
use Rattle.wire.proofs.Summing.{total_front, total_short}
use Rattle.wire.proofs.pairs.sum_pairs.Goals as goal

pub loop-two-preserved : goal.loop-two-preserved
loop-two-preserved c = search (rules, total_front)

pub returns : goal.returns
unfolding pair_sum
returns c = search (rules, total_short)
