use Rattle.std.proofs.Common.{◌≡◌, length, Ok, sym, ◌∙◌, rules}
use Rattle.wire.specs.Steps.{◌>>=◌}
use Rattle.labels.specs.Labels.{labels_meaning, written_head}
use Rattle.labels.proofs.Lists.{list_weighed}
use Rattle.labels.proofs.kind.LabelsKind.weigh.Goals as goal

pub returns-in_err-check_list : goal.returns-in_err-check_list
returns-in_err-check_list c =
    let list = c.args.list.now in
    let e : c.from_residual.result ≡ (written_head (labels_meaning.writing list) >>= λ _. Ok (length list)) = search rules in
    e ∙ sym (list_weighed list)

pub returns : goal.returns
returns c =
    let list = c.args.list.now in
    let e : Ok (length list) ≡ (written_head (labels_meaning.writing list) >>= λ _. Ok (length list)) = search rules in
    e ∙ sym (list_weighed list)
