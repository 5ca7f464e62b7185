use Rattle.std.proofs.Common.{◌≡◌, Ok, Result, refl, ◌∙◌, arith, rules}
use Rattle.judging.specs.declared.faults.Refusal.{Refusal}
use Rattle.products.specs.Holding.{held, is_held}
use Rattle.products.proofs.Held.{end_length, is_held_within, is_held_passes, held_back, held_ended}
use Rattle.products.proofs.Opening.{passed_by}
use Rattle.products.proofs.closed.Closed.check_held.Goals as goal
use Rattle.products.proofs.closed.Closed.check_held.Goals.{then-found-self-via-then-found-self, then-found-self-via-else-found-self+then-ne}

pub returns-then-found-self : goal.returns-then-found-self
unfolding held
returns-then-found-self g c =
    elim c.then-found-self.branch [
      | then-found-self-via-then-found-self w ↦ search (rules, end_length)
      | then-found-self-via-else-found-self+then-ne w ↦ search (rules, end_length)
    ]

pub returns : goal.returns
unfolding held
returns g c =
    let M = g.B.Book.meaning c.args.book.now in
    let value : ◌≡◌ {A = Result (Unit {0}) Refusal} (Ok tt) (is_held M c.args.memory.now c.args.self.now) = search rules in
    let p = c.args.self.now in
    let x = passed_by (held M c.args.memory.now p) (Ok tt) tt (value ∙ is_held_passes M c.args.memory.now p) refl in
    record {
      value = value;
      within = is_held_within M c.args.memory.now p (Ok tt) value;
      ended = held_ended M c.args.memory.now p x.0 x.1 _ c.in_ok-found.ensures.value c.in_ok-found.ensures.written;
      some = omega (arith, (held_back M c.args.memory.now p x.0 x.1).count);
    }
