use Rattle.replay.specs.States.{product_in}
use Rattle.replay.proofs.Running.{SoFar}
use Rattle.replay.proofs.replaying.play_all.Given as goal

abbrev pub invariant-loop-index : goal.invariant-loop-index
invariant-loop-index g l =
    SoFar g.S.Sink.taken g.S.Sink.room g.S.Sink.wrote (g.B.Book.meaning l.book) l.initial.sink (product_in l.initial.state) l.initial.memory l.steps l.initial.told
    l.index l.told (product_in l.state) l.memory l.sink
