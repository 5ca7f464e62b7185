use Rattle.lives.proofs.Shown.{worked_life}
use Rattle.lives.proofs.worked_life_stands.Goals as goal

pub returns : goal.returns
returns c = worked_life
