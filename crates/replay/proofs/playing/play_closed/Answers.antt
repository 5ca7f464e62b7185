use Rattle.std.proofs.Common.{sym, ap, ◌∙◌}
use Rattle.products.specs.Products.{of_closed}
use Rattle.replay.specs.Steps.{played, told_sending}
use Rattle.replay.proofs.playing.play_closed.Goals as goal

pub returns-in-Err-clause-told : goal.returns-in-Err-clause-told
returns-in-Err-clause-told g c =
    let p = of_closed c.args.product in
    let mem = c.args.memory.now in
    ap (λ w. (told_sending w p mem).told) (sym c.in-Err.is ∙ c.send.ensures.answer)
    ∙ ap (λ s. (played (g.B.Book.meaning c.args.book.now) (g.S.Sink.room c.args.sink.now) p mem s).told) (sym c.in-Send.is)
