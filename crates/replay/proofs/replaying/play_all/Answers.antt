use Rattle.std.proofs.Common.{◌≡◌, ◌<◌, min, length, ◌∙◌, arith}
use Rattle.std.proofs.lemmas.List.{set-get_or}
use Rattle.replay.proofs.Running.{none_so_far, more_so_far, all_done}
use Rattle.replay.proofs.replaying.play_all.Goals as goal

pub loop-index-init : goal.loop-index-init
loop-index-init g c = none_so_far g.S.Sink.taken g.S.Sink.room g.S.Sink.wrote (g.B.Book.meaning c.args.book.now) c.args.sink.now _ c.args.memory.now c.args.steps.now c.args.told.now c.space.ensures.begun

pub loop-index-preserved : goal.loop-index-preserved
loop-index-preserved g c =
    let l = c.loop-index in
    let play = c.play-next.ensures in
    let place : l.index < length l.told = omega (arith, c.loop-index-test.true, l.auto.told) in
    let at = c.in-Some.ensures.lookup in
    more_so_far g.S.Sink.taken g.S.Sink.room g.S.Sink.wrote (g.B.Book.meaning c.args.book.now) c.args.sink.now _ c.args.memory.now c.args.steps.now c.args.told.now (g.B.Book.lawful c.args.book.now) l.index l.told _ _ l.memory _ l.sink _ c.in-Some.step.now c.play-next.result.1 l.invariant at.3.0 at.1 place
    play.known play.told play.product play.after play.sunk

pub returns-after-loop-index : goal.returns-after-loop-index
returns-after-loop-index g c =
    let l = c.loop-index in
    let end : l.index ≡ min (length c.args.told.now) (length c.args.steps.now) = omega (arith, c.loop-index-test.false, l.auto.index-end, l.invariant.within) in
    let all = all_done g.S.Sink.taken g.S.Sink.room g.S.Sink.wrote (g.B.Book.meaning c.args.book.now) c.args.sink.now _ c.args.memory.now c.args.steps.now c.args.told.now l.index l.told _ l.memory l.sink l.invariant l.auto.told end in
    record { told = all.told_is; product = all.product_is; after = all.memory_is; took = all.took; lived = l.invariant.lived }

pub returns-in_default : goal.returns-in_default
returns-in_default g c =
    let l = c.loop-index in
    let end : l.index ≡ min (length c.args.told.now) (length c.args.steps.now) = omega (arith, c.loop-index-test.true, c.in_default.ensures.lookup.3, l.invariant.within) in
    let all = all_done g.S.Sink.taken g.S.Sink.room g.S.Sink.wrote (g.B.Book.meaning c.args.book.now) c.args.sink.now _ c.args.memory.now c.args.steps.now c.args.told.now l.index l.told _ l.memory l.sink l.invariant l.auto.told end in
    record { told = set-get_or l.told l.index _ ∙ all.told_is; product = all.product_is; after = all.memory_is; took = all.took; lived = l.invariant.lived }
