use Rattle.std.proofs.Common.{rules}
use Rattle.wire.proofs.Skipping.{behind_none, behind_at}
use Rattle.wire.proofs.rows.skip_blocks.Goals as goal

pub loop-preserved : goal.loop-preserved
loop-preserved c = search (rules, behind_at)

pub returns : goal.returns
returns c = search (rules, behind_none)
