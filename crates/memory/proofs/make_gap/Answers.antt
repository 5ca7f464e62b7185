use Rattle.std.proofs.Common.{◌+◌, ◌-◌, ◌≤◌, length, sym, ◌∙◌, arith}
use Rattle.std.proofs.lemmas.Bool.{cond-true}
use Rattle.memory.proofs.Lays.{gap_made, room_told}
use Rattle.memory.proofs.make_gap.Goals as goal

pub returns : goal.returns
returns c =
    let mem = c.args.memory.now in
    let used = c.args.used in
    let forward : c.args.part.from ≤ c.args.part.to = omega arith in
    let inside : c.args.part.to ≤ used = omega arith in
    let within : used ≤ length mem = omega arith in
    let fits : (used - (c.args.part.to - c.args.part.from)) + c.args.size ≤ length mem = omega arith in
    let room = room_told mem used c.args.part.from c.args.part.to forward inside within c.args.size fits in
    record {
      answer = sym room;
      after = gap_made mem used c.args.part.from c.args.part.to forward inside within _ _ _ c.args.size _ fits c.saturating_sub.ensures c.shift.ensures c.clear.ensures c.clear-2.ensures
          ∙ sym (cond-true _ _ _ room);
    }
