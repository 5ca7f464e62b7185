use Rattle.std.proofs.Common.{◌≡◌, Ok, sym, ap, ◌∙◌, subst}
use Rattle.replay.specs.Beginnings.{memory_begun}
use Rattle.replay.specs.Replays.{run_told, run_from, replayed, in_phase, ends_in, ends_with, tells, Sank}
use Rattle.replay.specs.States.{product_in}
use Rattle.replay.proofs.Begun.{state_is, begun_lived}
use Rattle.replay.proofs.Running.{lived_as}
use Rattle.replay.proofs.replaying.replay.Goals as goal

pub returns : goal.returns
returns g c =
    let M = g.B.Book.meaning c.args.book.now in
    let L = g.B.Book.lawful c.args.book.now in
    let s = c.args.sink.now in
    let free = g.S.Sink.room s in
    let mem = c.args.memory.now in
    let b = c.args.beginning.now in
    let steps = c.args.steps.now in
    let places = c.args.told.now in
    let state = c.in_ok-state.state in
    let first = c.in_ok-state.ensures in
    let all = c.play_all.ensures in
    let whole : replayed M free mem b steps places ≡ Ok (run_told M free (product_in state) c.begin.new.memory steps places) =
    ap (run_from M free (memory_begun M mem b) steps places) (sym first.answer) ∙ ap (λ m. Ok (run_told M free (product_in state) m steps places)) (sym first.after) in
    record {
      answer = ap Ok (sym (state_is c.play_all.result) ∙ ap (λ q. in_phase q.phase q) all.product) ∙ ap ends_in (sym whole);
      after = all.after ∙ ap (λ x. ends_with x mem) (sym whole);
      told = all.told ∙ ap (λ x. tells x places) (sym whole);
      sunk = subst (λ x. Sank g.S.Sink.taken g.S.Sink.room g.S.Sink.wrote x s c.play_all.new.sink) (sym whole) all.took;
      lived = all.lived (lived_as g.S.Sink.taken g.S.Sink.room M s (product_in state) (product_in state) (memory_begun M mem b) c.begin.new.memory s (begun_lived g.S.Sink.taken g.S.Sink.room M L s mem b state first.known first.answer) (λ _. product_in state) first.after);
    }
