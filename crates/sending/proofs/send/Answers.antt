use Rattle.std.proofs.Common.{◌≡◌, length, ap, ◌∙◌, subst, rules}
use Rattle.std.specs.Prelude.{MatchResult}
use Rattle.wire.specs.Steps.{blame}
use Rattle.judging.specs.declared.faults.Refusal.TheVariants.{SinkFull}
use Rattle.products.proofs.Opening.{passed_by}
use Rattle.products.specs.Holding.{held}
use Rattle.products.proofs.Held.{is_held_passes}
use Rattle.sinks.specs.Sinks.{Took, sent}
use Rattle.wire.proofs.Passing.{blamed, blamed_alike}
use Rattle.sending.proofs.Telling.{whole, sending_told}
use Rattle.sending.proofs.send.Goals as goal

pub returns : goal.returns
returns g c =
    let M = g.B.Book.meaning c.args.book.now in
    let mem = c.args.memory.now in
    let p = c.args.product.now in
    let room = g.S.Sink.room c.args.sink.now in
    let h = passed_by (held M mem p) _ _ (c.check_held.ensures.value ∙ is_held_passes M mem p) c.in_ok-check_held.was in
    let all = whole mem p _ c.bytes.ensures in
    let told = blamed (λ _. SinkFull) _ c.put_all.result _ c.map_err.ensures.cases (λ e x k. search rules) in
    let sends = ap (blame (λ _. SinkFull)) (c.put_all.ensures.answer ∙ ap (λ ps. sent room (length ps)) all) ∙ sending_told M mem p room h.0 h.1 in
    let took = subst (λ ps. MatchResult c.put_all.result (λ _. Took g.S.Sink.taken g.S.Sink.room g.S.Sink.wrote c.args.sink.now ps c.put_all.new.sink) (λ _. c.put_all.new.sink ≡ c.args.sink.now)) all c.put_all.ensures.after in
    record {
      answer = told ∙ sends;
      after = blamed_alike (λ _. SinkFull) _ _ c.put_all.result _ told took;
    }
