use Rattle.std.proofs.Common.{◌≡◌, suc, ◌-◌, length, ap, ◌∙◌, arith}
use Rattle.wire.specs.Rows.{behind}
use Rattle.wire.proofs.Skipping.{behind_length, behind_one}
use Rattle.products.proofs.places.block_part.Goals as goal

pub overflow_sub-result : goal.overflow_sub-result
overflow_sub-result c = omega (arith, ap length c.skip_blocks-rest.ensures, behind_length c.args.block c.args.bytes.now)

pub overflow_sub-result-2 : goal.overflow_sub-result-2
overflow_sub-result-2 c =
    let bs = c.args.bytes.now in
    let next : c.skip_blocks-next.result.now ≡ behind (suc c.args.block) bs = c.skip_blocks-next.ensures ∙ ap (behind 1) c.skip_blocks-rest.ensures ∙ behind_one c.args.block bs in
    omega (arith, ap length next, behind_length (suc c.args.block) bs)

pub returns : goal.returns
returns c =
    let bs = c.args.bytes.now in
    let rest = c.skip_blocks-rest.ensures in
    let next : c.skip_blocks-next.result.now ≡ behind (suc c.args.block) bs = c.skip_blocks-next.ensures ∙ ap (behind 1) rest ∙ behind_one c.args.block bs in
    let shorter = behind_length 1 c.skip_blocks-rest.result.now in
    record {
      from = ap (λ u. length bs - length u) rest;
      to = ap (λ u. length bs - length u) next;
      forward = omega (arith, ap length c.skip_blocks-next.ensures, shorter);
      within = omega arith;
    }
