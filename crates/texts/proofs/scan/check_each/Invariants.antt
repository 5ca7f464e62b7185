use Rattle.std.proofs.Common.{◌≡◌, map, length, drop}
use Rattle.texts.specs.Texts.{broken, first_broken}
use Rattle.texts.proofs.scan.check_each.Given as goal

abbrev pub invariant-loop-index : goal.invariant-loop-index
invariant-loop-index g l =
    first_broken (λ last. broken l.range ((g.T.Text.meaning l.text).breaks last l.nul)) (length l.elements) l.index (map g.E.Element.reads (drop l.index l.elements))
    ≡ first_broken (λ last. broken l.range ((g.T.Text.meaning l.text).breaks last l.nul)) (length l.elements) 0 (map g.E.Element.reads l.elements)
