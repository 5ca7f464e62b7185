use Rattle.std.proofs.Common.{sym, ◌∙◌, arith}
use Rattle.wire.proofs.Passing.{same_ok}
use Rattle.products.proofs.Leaving.{accepted, product_left, memory_left}
use Rattle.products.proofs.opened.Open.withdraw.Goals as goal

pub returns : goal.returns
returns g c =
    let planned = c.in_ok-part.ensures.ready in
    let told = same_ok (sym c.in_ok-self.was ∙ c.cut.ensures.answer) in
    record {
      answer = accepted _ _ _ _ _ _ _ _ planned;
      product = product_left _ _ _ _ _ _ _ _ planned _ (told ∙ omega arith);
      after = memory_left _ _ _ _ _ _ _ _ planned _ c.cut.ensures.after;
    }
