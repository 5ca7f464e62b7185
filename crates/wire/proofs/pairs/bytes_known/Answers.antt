use Rattle.wire.proofs.Typed.{bytes_typed}
use Rattle.wire.proofs.pairs.bytes_known.Goals as goal

pub returns : goal.returns
returns c = bytes_typed c.args.bytes.now c.type_inv.bytes
