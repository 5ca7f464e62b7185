use Rattle.std.proofs.Common.{◌≡◌, rules}
use Rattle.std.proofs.lemmas.Result.{IfOk-weaker}
use Rattle.products.specs.Opens.{open_receipt, passes}
use Rattle.products.proofs.Opening.{Bounded, made_bounded}
use Rattle.products.proofs.opens.receive_open.Goals as goal

pub returns : goal.returns
unfolding open_receipt
returns g c =
    let M = g.B.Book.meaning c.args.book.now in
    let mem = c.args.memory.now in
    let r = c.walk_open.result in
    let value : r ≡ passes (open_receipt M mem c.args.count c.args.blocks) = search rules in
    let b = made_bounded M mem c.args.count c.args.blocks r value in
    record {
      value = value;
      within = IfOk-weaker r (λ _. Bounded mem c.args.count c.args.blocks) _ (λ _ h. h.within) b;
      short = IfOk-weaker r (λ _. Bounded mem c.args.count c.args.blocks) _ (λ _ h. h.short) b;
      few = IfOk-weaker r (λ _. Bounded mem c.args.count c.args.blocks) _ (λ _ h. h.few) b;
    }
