use Rattle.std.proofs.Common.{◌≡◌, ◌+◌, ◌*◌, Ok, ◌∙◌, arith, rules}
use Rattle.winds.proofs.Wholes.{field_checks, judged_whole}
use Rattle.winds.proofs.kind.WindsKind.judge.Goals as goal

pub returns-in_err-read_blanking : goal.returns-in_err-read_blanking
returns-in_err-read_blanking c =
    let e : c.from_residual-in_err-read_blanking.result ≡ field_checks c.args.field.now = search rules in
    e ∙ judged_whole c.args.field.now (let t = c.type_inv.field 0 in omega arith)

pub returns-in_err-check_bytes : goal.returns-in_err-check_bytes
returns-in_err-check_bytes c =
    let e : c.from_residual-in_err-check_bytes.result ≡ field_checks c.args.field.now = search rules in
    e ∙ judged_whole c.args.field.now (let t = c.type_inv.field 0 in omega arith)

pub returns : goal.returns
returns c =
    let e : Ok (2 + 6 * c.in_ok-barbs.barbs) ≡ field_checks c.args.field.now = search rules in
    e ∙ judged_whole c.args.field.now (let t = c.type_inv.field 0 in omega arith)
