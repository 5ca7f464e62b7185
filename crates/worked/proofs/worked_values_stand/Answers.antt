use Rattle.worked.proofs.Shown.{shown}
use Rattle.worked.proofs.worked_values_stand.Goals as goal

pub returns : goal.returns
returns c = shown
