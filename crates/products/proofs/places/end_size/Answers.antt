use Rattle.std.proofs.Common.{sym, ◌∙◌, arith}
use Rattle.wire.proofs.Coding.{checksum_fits}
use Rattle.products.proofs.Held.{end_length}
use Rattle.products.proofs.places.end_size.Goals as goal

pub returns : goal.returns
returns c = record { value = c.fewest_bytes.ensures ∙ sym (end_length c.args.form); short = omega (arith, c.fewest_bytes.ensures, checksum_fits c.args.form) }
