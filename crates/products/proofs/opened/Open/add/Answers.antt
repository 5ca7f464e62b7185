use Rattle.std.proofs.Common.{◌+◌, ◌-◌, sym, ap, ◌∙◌, arith, rules}
use Rattle.wire.proofs.Passing.{same_ok}
use Rattle.judging.specs.declared.places.Phase.TheVariants.{Opened}
use Rattle.products.proofs.Leaving.{accepted, product_left, memory_left}
use Rattle.products.proofs.opened.Open.add.Goals as goal

pub overflow_add-self : goal.overflow_add-self
overflow_add-self g c = let few = c.in_ok-draft.ensures.ready.planned.few in search rules

pub returns : goal.returns
returns g c =
    let ready = c.in_ok-draft.ensures.ready in
    let p = c.args.self.now in
    let told = same_ok (sym c.in_ok-self.was ∙ c.put_block.ensures.answer) in
    record {
      answer = accepted _ _ _ _ _ _ _ _ ready.planned;
      product = ap (λ n. record { phase = Opened; bytes = c.in_ok-self.field-0; blocks = n; close = p.close }) (omega arith)
          ∙ product_left _ _ _ _ _ _ _ _ ready.planned _ (told ∙ ap (λ n. (p.bytes - (p.bytes - p.bytes)) + n) (sym ready.size));
      after = memory_left _ _ _ _ _ _ _ _ ready.planned _ c.put_block.ensures.after;
    }
