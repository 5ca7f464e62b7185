use Rattle.std.proofs.Common.{◌≡◌, Ok, ◌∙◌, rules}
use Rattle.labels.proofs.Lists.{list_checks, list_checked}
use Rattle.labels.proofs.parts.check_list.Goals as goal

pub returns-in_err-check_characters : goal.returns-in_err-check_characters
returns-in_err-check_characters c = let e : c.from_residual-in_err-check_characters.result ≡ list_checks c.args.list.now = search rules in e ∙ list_checked c.args.list.now

pub returns : goal.returns
returns c = let e : Ok c.in_ok-head.head ≡ list_checks c.args.list.now = search rules in e ∙ list_checked c.args.list.now
