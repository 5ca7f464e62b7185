use Rattle.std.proofs.Common.{◌≡◌, map}
use Rattle.cells.specs.Characters.{put_over}
use Rattle.cells.proofs.Putting.{put_from}
use Rattle.cells.proofs.characters.put_characters.Given as goal

abbrev pub invariant-loop-index : goal.invariant-loop-index
invariant-loop-index g l = put_from g.E.Element.reads l.index l.elements l.place ≡ put_over (map g.E.Element.reads l.elements) l.initial.place
