use Rattle.std.proofs.Common.{ap, ◌∙◌, rules}
use Rattle.wire.proofs.Passing.{blamed}
use Rattle.products.specs.Answers.{or_kept}
use Rattle.products.proofs.closed.Closed.reopen.Goals as goal

pub returns-clause-answer : goal.returns-clause-answer
returns-clause-answer g c =
    blamed (λ e. record { product = c.args.self; refusal = e }) _ c.opened.result _ c.map_err.ensures.cases (λ e x k. search rules)
    ∙ ap (or_kept c.args.self) c.opened.ensures.answer
