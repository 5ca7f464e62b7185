use Rattle.std.proofs.Common.{pos, Some, sym, ap, ◌∙◌, arith, w32, SFits, rules}
use Rattle.std.proofs.lemmas.Option.{slice_get-get_or}
use Rattle.std.proofs.lemmas.Int.{to_z-of_z}
use Rattle.books.specs.Books.{number_at}
use Rattle.labels.proofs.Lists.{field_accepted}
use Rattle.labels.proofs.kind.LabelsKind.number.Goals as goal

pub number_at-requires : goal.number_at-requires
number_at-requires c =
    let k = field_accepted c.args.field.now _ _ c.judge.ensures c.in-Ok.is in
    record { head = k.4; inside = omega arith }

pub returns-in-Ok : goal.returns-in-Ok
returns-in-Ok c =
    let k = field_accepted c.args.field.now _ _ c.judge.ensures c.in-Ok.is in
    let i = c.args.index in
    let f : SFits w32 c.number_at.result = search rules in
    simp to_z-of_z (ap Some (c.number_at.ensures k.0 k.1) ∙ sym (ap (λ r. number_at r i) k.1 ∙ slice_get-get_or k.0 i (pos 0) (omega arith)))
