use Rattle.std.proofs.Common.{◌+◌, ◌-◌, sym, ap, ◌∙◌}
use Rattle.wire.proofs.Passing.{same_ok}
use Rattle.products.proofs.Leaving.{accepted, product_left, memory_left}
use Rattle.products.proofs.opened.Open.replace.Goals as goal

pub returns : goal.returns
returns g c =
    let ready = c.in_ok-part.ensures.ready in
    let p = c.args.self.now in
    let part = c.in_ok-part.part in
    let told = same_ok (sym c.in_ok-self.was ∙ c.put_block.ensures.answer) in
    record {
      answer = accepted _ _ _ _ _ _ _ _ ready.planned;
      product = product_left _ _ _ _ _ _ _ _ ready.planned _ (told ∙ ap (λ n. (p.bytes - (part.to - part.from)) + n) (sym ready.size));
      after = memory_left _ _ _ _ _ _ _ _ ready.planned _ c.put_block.ensures.after;
    }
