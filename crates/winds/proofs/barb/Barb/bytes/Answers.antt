use Rattle.std.proofs.Common.{◌≡◌, ◌+◌, Ok, rules}
use Rattle.books.specs.declared.faults.Rule.TheVariants.{NumberRange}
use Rattle.cells.specs.Signs.{pair_half}
use Rattle.cells.specs.Cells.{or_fault, twos, upto}
use Rattle.wire.specs.Pairs.{pair_bytes}
use Rattle.winds.proofs.Barbs.{barb_done}
use Rattle.winds.proofs.barb.Barb.bytes.Goals as goal

pub returns : goal.returns
returns c =
    let m = c.in_ok-write_signed.field-0 in
    let n = c.in_ok-write_signed-2.field-0 in
    let d = c.in_ok-write_up_to.field-0 in
    let s = c.in_ok-write_up_to-2.field-0 in
    let i : c.to_be_bytes.result ≡ pair_bytes m = search rules in
    let j : c.to_be_bytes-2.result ≡ pair_bytes n = search rules in
    let k : c.to_be_bytes-3.result ≡ pair_bytes d = search rules in
    let l : c.to_be_bytes-4.result ≡ pair_bytes s = search rules in
    let at = c.args.index in
    let b = c.args.self in
    let p : or_fault NumberRange at ((twos pair_half).worth b.m) ≡ Ok m = search rules in
    let q : or_fault NumberRange (at + 1) ((twos pair_half).worth b.n) ≡ Ok n = search rules in
    let r : or_fault NumberRange (at + 2) ((upto 360).worth b.direction) ≡ Ok d = search rules in
    let t : or_fault NumberRange (at + 3) ((upto 32767).worth b.speed) ≡ Ok s = search rules in
    let u : or_fault NumberRange (at + 4) ((upto 255).worth b.gust) ≡ Ok c.in_ok-gust.gust = search rules in
    let v : or_fault NumberRange (at + 5) ((upto 1).worth b.hemisphere) ≡ Ok c.in_ok-hemisphere.hemisphere = search rules in
    barb_done c.args.index c.args.self c.to_be_bytes.result c.to_be_bytes-2.result c.to_be_bytes-3.result c.to_be_bytes-4.result m n d s
    c.in_ok-gust.gust c.in_ok-hemisphere.hemisphere
    p q r t u v i j k l
