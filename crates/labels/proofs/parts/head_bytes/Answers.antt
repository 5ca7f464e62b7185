use Rattle.std.proofs.Common.{◌≡◌, ◌/◌, ◌%◌, get_or, pos, sym, ap, ◌∙◌, arith, w16, w32, Fits, SFits, rules}
use Rattle.std.proofs.lemmas.Int.{to_z-of_z}
use Rattle.labels.proofs.Heads.{head_passed}
use Rattle.labels.proofs.parts.head_bytes.Goals as goal

pub returns : goal.returns
returns c =
    let xs = c.args.list.now in
    let z0 : SFits w32 (get_or xs 0 (pos 0)) = search rules in
    let z1 : SFits w32 (get_or xs 1 (pos 0)) = search rules in
    let z2 : SFits w32 (get_or xs 2 (pos 0)) = search rules in
    let z3 : SFits w32 (get_or xs 3 (pos 0)) = search rules in
    let z4 : SFits w32 (get_or xs 4 (pos 0)) = search rules in
    let z5 : SFits w32 (get_or xs 5 (pos 0)) = search rules in
    let z6 : SFits w32 (get_or xs 6 (pos 0)) = search rules in
    let m = sym (simp to_z-of_z at c.write_signed.ensures) ∙ c.in_ok-write_signed.was in
    let n = sym (simp to_z-of_z at c.write_signed-2.ensures) ∙ c.in_ok-write_signed-2.was in
    let x = sym (simp to_z-of_z at c.write_signed-3.ensures) ∙ c.in_ok-delta_m.was in
    let y = sym (simp to_z-of_z at c.write_signed-4.ensures) ∙ c.in_ok-delta_n.was in
    let f = sym (simp to_z-of_z at c.write_flags.ensures) ∙ c.in_ok-flags.was in
    let a : Fits w16 c.in_ok-write_signed.field-0 = search rules in
    let b : Fits w16 c.in_ok-write_signed-2.field-0 = search rules in
    let m0 : get_or c.to_be_bytes.result 0 0 ≡ c.in_ok-write_signed.field-0 / 256 = ap (λ l. get_or l 0 0) c.to_be_bytes.ensures ∙ omega arith in
    let m1 : get_or c.to_be_bytes.result 1 0 ≡ c.in_ok-write_signed.field-0 % 256 = ap (λ l. get_or l 1 0) c.to_be_bytes.ensures in
    let n0 : get_or c.to_be_bytes-2.result 0 0 ≡ c.in_ok-write_signed-2.field-0 / 256 = ap (λ l. get_or l 0 0) c.to_be_bytes-2.ensures ∙ omega arith in
    let n1 : get_or c.to_be_bytes-2.result 1 0 ≡ c.in_ok-write_signed-2.field-0 % 256 = ap (λ l. get_or l 1 0) c.to_be_bytes-2.ensures in
    head_passed xs _ _ _ _ _ _ _ _ _ c.requires m n x y f m0 m1 n0 n1
