use Rattle.std.proofs.Common.{length, refl, ◌∙◌, arith}
use Rattle.std.proofs.lemmas.Slice.{put_mid-paste}
use Rattle.std.proofs.lemmas.List.Edits.{paste_all}
use Rattle.sinks.proofs.cells.lay.Goals as goal

pub returns : goal.returns
returns c =
    put_mid-paste _ _ c.args.memory.now _ c.args.cell.now (length c.args.cell.now) c.copy_from_slice.ensures.after (omega arith) refl
    ∙ paste_all c.args.memory.now c.args.at c.args.cell.now _ refl
