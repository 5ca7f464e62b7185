use Rattle.std.proofs.Common.{sym, ◌∙◌, rules}
use Rattle.replay.proofs.Telling.{shut_told}
use Rattle.replay.proofs.playing.close_step.Goals as goal

pub returns-in-Ok : goal.returns-in-Ok
returns-in-Ok g c =
    let t = shut_told _ c.args.product c.in-Ok.closed c.args.memory.now _ (sym c.in-Ok.is ∙ c.close.ensures.answer) c.close.ensures.after in
    search rules
