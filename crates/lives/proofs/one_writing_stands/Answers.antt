use Rattle.lives.proofs.Living.{one_writing}
use Rattle.lives.proofs.one_writing_stands.Goals as goal

pub returns : goal.returns
returns g c = one_writing g.S.Sink.taken g.S.Sink.room g.T.Sink.taken g.T.Sink.room
