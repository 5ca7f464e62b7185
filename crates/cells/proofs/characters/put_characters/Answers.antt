use Rattle.std.proofs.Common.{refl, sym, ◌∙◌, arith}
use Rattle.std.proofs.lemmas.List.{get_or-take, length-take-le}
use Rattle.cells.proofs.Putting.{put_more, put_done}
use Rattle.cells.proofs.characters.put_characters.Goals as goal

pub loop-index-preserved : goal.loop-index-preserved
loop-index-preserved g c =
    let n = c.min-common.result in
    let i = c.loop-index.index in
    let xs = c.args.elements.now in
    let x = c.element-item.result in
    let t = length-take-le n xs (omega arith) in
    let e = c.element-item.is ∙ get_or-take n xs i x (omega arith) in
    put_more g.E.Element.reads i xs c.loop-index.place _ x c.character.result c.unwrap_or.result (omega arith) (omega arith) e c.character.ensures c.unwrap_or.ensures refl ∙ c.loop-index.invariant

pub returns : goal.returns
returns g c =
    let xs = c.args.elements.now in
    let t = length-take-le c.min-common.result xs (omega arith) in
    sym (put_done g.E.Element.reads c.loop-index.index xs c.loop-index.place (omega arith)) ∙ c.loop-index.invariant
