use Rattle.std.proofs.Common.{sym, ap, ◌∙◌, arith, rules}
use Rattle.wire.proofs.Passing.{allowed, turned_down}
use Rattle.judging.specs.declared.faults.Refusal.TheVariants.{NoRoom}
use Rattle.products.specs.Opens.{passes}
use Rattle.records.specs.Asked.{asked}
use Rattle.products.proofs.Planning.{add_crowded, add_ready}
use Rattle.products.proofs.opened.Open.check_add.Goals as goal

pub returns-in_err-check_room-clause-answer : goal.returns-in_err-check_room-clause-answer
returns-in_err-check_room-clause-answer g c =
    let h = c.in_ok-check_held.ensures in
    let t = turned_down _ NoRoom (sym c.check_room.ensures ∙ c.in_err-check_room.was) in
    let full = add_crowded _ c.args.memory.now c.args.self.now _ _ c.check_held.ensures.value c.in_ok-check_held.was h.within h.few (asked c.args.given) c.in_ok-draft.draft _ c.bars_adding-misfit.ensures _ c.check_record.ensures.value c.in_ok-draft.was c.in_ok-draft.ensures.fits (omega arith) t.0 in
    let told = ap passes full in
    let is = t.1 in
    search rules

pub returns : goal.returns
returns g c =
    let h = c.in_ok-check_held.ensures in
    let ready = add_ready _ c.args.memory.now c.args.self.now _ _ c.check_held.ensures.value c.in_ok-check_held.was h.within h.few (asked c.args.given) c.in_ok-draft.draft _ c.bars_adding-misfit.ensures _ c.check_record.ensures.value c.in_ok-draft.was c.in_ok-draft.ensures.fits (omega arith) (allowed _ NoRoom (sym c.check_room.ensures ∙ c.in_ok-check_room.was)) in
    record { answer = sym (ap passes ready.planned.result); ready = ready }
