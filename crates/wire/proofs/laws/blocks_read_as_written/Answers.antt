use Rattle.wire.proofs.Coding.{codec}
use Rattle.wire.proofs.laws.blocks_read_as_written.Goals as goal

pub returns : goal.returns
returns c = codec
