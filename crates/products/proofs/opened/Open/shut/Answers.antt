use Rattle.std.proofs.Common.{◌+◌, sym, ◌∙◌, arith}
use Rattle.wire.proofs.Passing.{same_ok}
use Rattle.products.proofs.Leaving.{memory_left, shut_left}
use Rattle.products.proofs.opened.Open.shut.Goals as goal

pub returns : goal.returns
returns g c =
    let planned = c.in_ok-check_close.ensures.ready in
    let told = same_ok (sym c.in_ok-bytes.was ∙ c.put_end.ensures.answer) in
    record {
      answer = shut_left _ _ c.args.self.now _ _ _ _ planned c.in_ok-bytes.bytes (told ∙ omega arith) (c.args.self.now.blocks + 1) (omega arith);
      after = memory_left _ _ _ _ _ _ _ _ planned _ c.put_end.ensures.after;
    }
