use Rattle.std.proofs.Common.{◌≡◌, ℕ, ◌+◌, ◌*◌, ◌≤◌, List, length, take, drop, set, Ok, sym, refl, ap, ◌∙◌, arith, rules}
use Rattle.std.proofs.lemmas.List.{length-set}
use Rattle.cells.specs.Layouts.{layout_writing}
use Rattle.winds.specs.Winds.{winds, barb}
use Rattle.winds.proofs.Barbs.{barb_taken}
use Rattle.winds.proofs.Places.{ok_field, right_length, written_known, barb_bytes, put_more, put_head, put_all}
use Rattle.winds.proofs.parts.put.Goals as goal

-- the place is as long as it was
same_length : (place now' : List ℕ) (a b : ℕ) → length now' ≡ length (set (set place 0 a) 1 b) → length now' ≡ length place
same_length place now' a b e = e ∙ length-set (set place 0 a) 1 b ∙ length-set place 0 a

pub loop-k-init : goal.loop-k-init
loop-k-init c = λ field h.
    let w = written_known c.args.list.now field h in
    let n = right_length (layout_writing winds c.args.list.now) field _ c.requires h in
    put_head c.args.list.now field c.args.place.now w.barbs _ _ w.count w.all (search rules) (search rules) (omega arith)

pub returns-in_err-bytes : goal.returns-in_err-bytes
returns-in_err-bytes c =
    let list = c.args.list.now in
    let at = 2 + 6 * c.loop-k.k in
    let f = ok_field (layout_writing winds list) _ c.requires in
    let w = written_known list f.0 f.1 in
    let b = barb_bytes list f.0 w.barbs c.loop-k.k w.count w.all (omega arith) in
    let t = barb_taken list c.loop-k.k c.as_chunks.result.0.now c.from.result c.as_chunks.ensures.front c.as_chunks.ensures.front_len c.loop-k-test.true c.from.ensures in
    let e = sym b ∙ ap (barb.writing at) (sym t) ∙ sym c.bytes.ensures ∙ c.in_err-bytes.was in
    let z : ◌≡◌ {A = ℕ} 0 1 = cc in
    absurd (omega arith)

pub slice_bounds-copy_from_slice-end : goal.slice_bounds-copy_from_slice-end
slice_bounds-copy_from_slice-end c =
    let f = ok_field (layout_writing winds c.args.list.now) _ c.requires in
    let w = written_known c.args.list.now f.0 f.1 in
    let n = f.2 in
    let s = same_length c.args.place.now c.loop-k.place c.in_ok-place.field-0 c.in_ok-place-2.field-0 (omega arith) in
    let l : 2 + 10 * c.loop-k.k + 10 ≤ length c.loop-k.place = omega arith in
    search rules

pub loop-k-preserved : goal.loop-k-preserved
loop-k-preserved c = λ field h.
    let list = c.args.list.now in
    let k = c.loop-k.k in
    let w = written_known list field h in
    let n = right_length (layout_writing winds list) field _ c.requires h in
    let s = same_length c.args.place.now c.loop-k.place c.in_ok-place.field-0 c.in_ok-place-2.field-0 (omega arith) in
    let b = barb_bytes list field w.barbs k w.count w.all (omega arith) in
    let t = barb_taken list k c.as_chunks.result.0.now c.from.result c.as_chunks.ensures.front c.as_chunks.ensures.front_len c.loop-k-test.true c.from.ensures in
    let e = sym b ∙ ap (barb.writing (2 + 6 * k)) (sym t) ∙ sym c.bytes.ensures ∙ c.in_ok-bytes.was in
    let g : c.in_ok-bytes.bytes ≡ take 10 (drop (2 + 10 * k) field) = cc in
    put_more field c.loop-k.place _ k _ (omega arith) (omega arith) (c.copy_from_slice.ensures.after ∙ g) (c.loop-k.invariant field h)

pub returns : goal.returns
returns c =
    let f = ok_field (layout_writing winds c.args.list.now) _ c.requires in
    let w = written_known c.args.list.now f.0 f.1 in
    let n = f.2 in
    let s = same_length c.args.place.now c.loop-k.place c.in_ok-place.field-0 c.in_ok-place-2.field-0 (omega arith) in
    let i = c.loop-k.invariant f.0 f.1 in
    record { answer = refl; after = f.1 ∙ ap Ok (sym (put_all f.0 c.loop-k.place (2 + 10 * c.loop-k.k) (omega arith) (omega arith) i)) }
