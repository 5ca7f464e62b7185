use Rattle.std.proofs.Common.{pos, arith}
use Rattle.std.proofs.ByRecursion.{All-from_get_or}
use Rattle.books.specs.Books.{Number}
use Rattle.books.proofs.known.numbers_known.Goals as goal

pub returns : goal.returns
returns c = All-from_get_or Number c.args.list.now (pos 0) (λ i h. c.loop-number.invariant i (omega arith))
