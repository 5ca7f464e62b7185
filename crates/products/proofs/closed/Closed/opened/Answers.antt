use Rattle.std.proofs.Common.{◌-◌, sym, ap, ◌∙◌, arith, rules}
use Rattle.wire.proofs.Passing.{same_ok}
use Rattle.products.proofs.Opening.{passed_by}
use Rattle.products.specs.Answers.{memory_after, opened_by}
use Rattle.products.specs.Holding.{held}
use Rattle.products.proofs.Held.{is_held_passes}
use Rattle.products.proofs.Leaving.{refused_back, memory_left, reopened_left}
use Rattle.products.proofs.Planning.{reopen_refused, reopen_planned}
use Rattle.products.proofs.closed.Closed.opened.Goals as goal

pub returns-in_err-check_held : goal.returns-in_err-check_held
returns-in_err-check_held g c =
    let M = g.B.Book.meaning c.args.book.now in
    let mem = c.args.memory.now in
    let p = c.args.self.now in
    let refused = reopen_refused M mem p _ (refused_back (held M mem p) _ (sym c.in_err-check_held.was ∙ c.check_held.ensures.value ∙ is_held_passes M mem p)) in
    let told = ap opened_by refused in
    record { answer = search rules; after = sym (ap (λ w. memory_after w mem) refused) }

pub returns : goal.returns
returns g c =
    let M = g.B.Book.meaning c.args.book.now in
    let mem = c.args.memory.now in
    let p = c.args.self.now in
    let h = passed_by (held M mem p) _ _ (c.check_held.ensures.value ∙ is_held_passes M mem p) c.in_ok-check_held.was in
    let planned = reopen_planned M mem p h.0 h.1 c.in_ok-check_held.ensures.within (p.bytes - c.end_size.result) (ap (λ n. p.bytes - n) c.end_size.ensures.value) in
    let told = same_ok (sym c.in_ok-bytes.was ∙ c.cut.ensures.answer) in
    record {
      answer = reopened_left _ _ p _ _ _ _ planned c.in_ok-bytes.bytes (told ∙ omega arith);
      after = memory_left _ _ _ _ _ _ _ _ planned _ c.cut.ensures.after;
    }
