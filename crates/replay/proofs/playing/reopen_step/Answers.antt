use Rattle.std.proofs.Common.{sym, ◌∙◌, rules}
use Rattle.replay.proofs.Telling.{open_told}
use Rattle.replay.proofs.playing.reopen_step.Goals as goal

pub returns-in-Ok : goal.returns-in-Ok
returns-in-Ok g c =
    let t = open_told _ c.args.product c.in-Ok.opened c.args.memory.now _ (sym c.in-Ok.is ∙ c.reopen.ensures.answer) c.reopen.ensures.after in
    search rules
