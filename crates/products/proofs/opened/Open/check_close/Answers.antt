use Rattle.std.proofs.Common.{suc, Result, sym, ap, ◌∙◌, subst, ⊎_elim}
use Rattle.std.proofs.lemmas.Bool.{cases_Bool}
use Rattle.std.specs.Prelude.{OnOk}
use Rattle.wire.specs.Steps.{refuse}
use Rattle.judging.specs.declared.faults.Refusal.{Refusal}
use Rattle.judging.specs.declared.faults.Refusal.TheVariants.{NoRoom}
use Rattle.products.specs.Closings.{end_of}
use Rattle.products.specs.Plans.{Planned}
use Rattle.products.specs.Products.{of_open}
use Rattle.products.specs.Opens.{passes}
use Rattle.products.specs.Calls.{closes, crowded}
use Rattle.products.proofs.Planning.{close_crowded, close_planned}
use Rattle.products.proofs.opened.Open.check_close.Goals as goal

pub returns : goal.returns
returns g c =
    let h = c.in_ok-check_held.ensures in
    let p = c.args.self.now in
    let told = c.check_room.ensures in
    let ready : Result (Unit {0}) Refusal → Type 0 = λ r. OnOk r (Planned (g.B.Book.meaning c.args.book.now) c.args.memory.now (of_open p) closes (end_of p.close) p.bytes p.bytes (suc p.blocks)) in
    ⊎_elim
    (λ t.
    let full = close_crowded _ c.args.memory.now p _ _ c.check_held.ensures.value c.in_ok-check_held.was h.within h.few t in
    let so = told ∙ ap (λ b. refuse b NoRoom) t in
    record { answer = so ∙ sym (ap passes full); ready = subst ready (sym so) tt })
    (λ f.
    let planned = close_planned _ c.args.memory.now p _ _ c.check_held.ensures.value c.in_ok-check_held.was h.within h.few f in
    let so = told ∙ ap (λ b. refuse b NoRoom) f in
    record { answer = so ∙ sym (ap passes planned.result); ready = subst ready (sym so) planned })
    (cases_Bool (crowded c.args.memory.now p.close p.bytes))
