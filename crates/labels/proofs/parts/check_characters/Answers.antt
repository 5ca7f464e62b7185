use Rattle.labels.proofs.Tails.{none_at, none_found}
use Rattle.labels.proofs.parts.check_characters.Goals as goal

pub returns-in-Some : goal.returns-in-Some
returns-in-Some g c = none_at g.E.Element.reads c.args.range c.args.elements.now _ c.in-Some.index _ c.first_outside.ensures c.in-Some.is c.at.ensures

pub returns-in-None : goal.returns-in-None
returns-in-None g c = none_found g.E.Element.reads c.args.range c.args.elements.now _ c.first_outside.ensures c.in-None.is
