use Rattle.std.proofs.Common.{◌∙◌, arith, w32, SFits, rules}
use Rattle.std.proofs.lemmas.Int.{to_z-of_z}
use Rattle.labels.proofs.Lists.{character_number}
use Rattle.labels.proofs.parts.number_at.Goals as goal

pub returns-in_default : goal.returns-in_default
returns-in_default c =
    λ list h.
    let f : SFits w32 c.from.result = search rules in
    simp to_z-of_z (c.from.ensures ∙ character_number c.args.field.now list c.args.index h (omega arith) c.requires.inside)
