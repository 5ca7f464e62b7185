use Rattle.std.proofs.Common.{length, sym}
use lib.Seq.{take-length}
use Rattle.commands.proofs.command.first_word.Goals as goal

pub returns-in-None : goal.returns-in-None
returns-in-None c = (length c.args.line.now, sym (take-length c.args.line.now))
