use Rattle.std.proofs.Common.{sym, ap, arith}
use Rattle.products.specs.Opens.{passes}
use Rattle.products.proofs.Planning.{withdraw_planned}
use Rattle.products.proofs.opened.Open.check_withdraw.Goals as goal

pub returns : goal.returns
returns g c =
    let h = c.in_ok-check_held.ensures in
    let b = c.block_part.ensures in
    let planned = withdraw_planned _ c.args.memory.now c.args.self.now _ _ c.check_held.ensures.value c.in_ok-check_held.was h.within h.few c.args.block c.block_part.result b.from b.to b.forward b.within c.if-block-self.false c.if-block-eq0.false in
    record { answer = sym (ap passes planned.result); ready = planned; some = omega arith }
