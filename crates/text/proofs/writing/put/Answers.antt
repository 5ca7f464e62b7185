use Rattle.std.proofs.Common.{arith}
use Rattle.text.proofs.Numerals.{length_numeral-le}
use Rattle.text.proofs.writing.put.Goals as goal

pub put_digits-requires-clause-room : goal.put_digits-requires-clause-room
put_digits-requires-clause-room c = omega (arith, length_numeral-le c.args.base c.args.n (omega arith) (omega arith))

pub returns-clause-short : goal.returns-clause-short
returns-clause-short c = length_numeral-le c.args.base c.args.n (omega arith) (omega arith)
