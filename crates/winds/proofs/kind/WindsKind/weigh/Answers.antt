use Rattle.std.proofs.Common.{◌≡◌, ◌+◌, ◌*◌, Ok, ◌∙◌, rules}
use Rattle.winds.proofs.Wholes.{list_checks, weighed_whole}
use Rattle.winds.proofs.kind.WindsKind.weigh.Goals as goal

pub returns : goal.returns
returns c =
    let e : Ok (2 + 10 * c.in_ok-barbs.barbs) ≡ list_checks c.args.list.now = search rules in
    e ∙ weighed_whole c.args.list.now
