use Rattle.std.proofs.Common.{length, ap, arith}
use Rattle.wire.proofs.Skipping.{behind_length}
use Rattle.reading.proofs.facts.find_block.Goals as goal

pub overflow_sub-at : goal.overflow_sub-at
overflow_sub-at g c = omega (arith, ap length c.skip_blocks-rest.ensures, behind_length c.args.block c.args.bytes.now)
