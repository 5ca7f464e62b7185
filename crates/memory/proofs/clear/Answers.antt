use Rattle.std.proofs.Common.{◌≡◌, ℕ, ◌+◌, ◌-◌, List, length, take, drop, replicate, ap, ◌∙◌, arith}
use Rattle.std.proofs.lemmas.List.{length-replicate, length-take, length-drop}
use Rattle.memory.proofs.Lays.{laid_mid}
use Rattle.memory.proofs.clear.Goals as goal

pub returns : goal.returns
returns c =
    let at : ℕ = c.args.at in
    let n : ℕ = c.args.count in
    let m : List ℕ = c.args.memory.now in
    let k : length (take ((at + n) - at) (drop at m)) ≡ n = simp (length-take, length-drop) (omega arith) in
    let f : c.fill.new.self ≡ replicate n 0 = c.fill.ensures.after (λ y h. h) ∙ ap (λ j. replicate j 0) k in
    laid_mid at (at + n) m _ (replicate n 0) (omega (arith, length-replicate {A = ℕ} n 0)) f
