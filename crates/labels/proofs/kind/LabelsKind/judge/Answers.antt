use Rattle.std.proofs.Common.{◌≡◌, length, Ok, ◌∙◌, rules}
use Rattle.labels.proofs.Lists.{field_checks, field_judged}
use Rattle.labels.proofs.kind.LabelsKind.judge.Goals as goal

pub returns-in_err-check_characters : goal.returns-in_err-check_characters
returns-in_err-check_characters c = let e : c.from_residual-in_err-check_characters.result ≡ field_checks c.args.field.now = search rules in e ∙ field_judged c.args.field.now

pub returns : goal.returns
returns c = let e : Ok (length c.args.field.now) ≡ field_checks c.args.field.now = search rules in e ∙ field_judged c.args.field.now
