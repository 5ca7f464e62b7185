use Rattle.std.proofs.Common.{◌≡◌, ℕ, ◌+◌, ◌-◌, ◌≤◌, List, length, drop, ap, ◌∙◌, arith, length-drop}
use lib.Seq.{paste}
use Rattle.memory.proofs.Lays.{laid_paste}
use Rattle.memory.proofs.shift.Goals as goal

pub returns : goal.returns
returns c =
    let m : List ℕ = c.args.memory.now in
    let k : (c.args.from + c.args.count) - c.args.from ≡ c.args.count = omega arith in
    let l : c.args.count ≤ length (drop c.args.from m) = simp length-drop (omega arith) in
    c.copy_within.ensures.after ∙ ap (paste m c.args.to (drop c.args.from m)) k ∙ laid_paste m c.args.to (drop c.args.from m) c.args.count l
