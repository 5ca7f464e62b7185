use Rattle.std.proofs.Common.{◌≡◌, false, ◌++◌, map, length, drop, nat_abs, Err, sym, refl, ap, ◌∙◌, arith}
use Rattle.std.specs.Prelude.{◌==◌}
use Rattle.std.proofs.lemmas.List.{length-take-le}
use Rattle.std.proofs.lemmas.Result.{err_from_is_err_and}
use Rattle.std.proofs.lemmas.Bool.{eq-eqb}
use Rattle.books.specs.Books.{answered, placed}
use Rattle.books.proofs.Roomy.{just_room, no_room}
use Rattle.labels.proofs.Lists.{head_refused, list_bytes}
use Rattle.labels.proofs.Tails.{put_behind}
use Rattle.labels.proofs.kind.LabelsKind.write.Goals as goal

pub returns-in_err-head : goal.returns-in_err-head
returns-in_err-head c =
    let p = err_from_is_err_and c.from_residual.result c.from_residual.ensures.1 in
    let w = head_refused _ _ (sym c.check_list.ensures ∙ c.in_err-head.was) in
    let place = c.args.place.now in
    record { answer = p.1 ∙ ap Err p.2 ∙ sym (ap (λ r. answered r place) w); after = sym (ap (λ r. placed r place) w) }

pub returns-in_err-check_room : goal.returns-in_err-check_room
returns-in_err-check_room c =
    let k = list_bytes c.args.list.now c.in_ok-head.head (sym c.check_list.ensures ∙ c.in_ok-head.was) in
    let place = c.args.place.now in
    let q = no_room (length place) _ _ _ c.check_room.ensures c.in_err-check_room.was in
    let p = err_from_is_err_and c.from_residual-in_err-check_room.result c.from_residual-in_err-check_room.ensures.1 in
    let l = k.3 in
    let n : (length place == length (c.in_ok-head.head ++ map nat_abs (drop 7 c.args.list.now))) ≡ false = rw l q.0 in
    record { answer = rw (k.2, n) (p.1 ∙ ap Err (p.2 ∙ q.1)); after = rw (k.2, n) refl }

pub returns : goal.returns
returns c =
    let k = list_bytes c.args.list.now c.in_ok-head.head (sym c.check_list.ensures ∙ c.in_ok-head.was) in
    let place = c.args.place.now in
    let r = just_room (length place) _ _ c.check_room.ensures c.in_ok-check_room.was in
    let e = eq-eqb (length place) (length (c.in_ok-head.head ++ map nat_abs (drop 7 c.args.list.now))) (omega (arith, k.3)) in
    let size : length c.copy_from_slice.new.self ≡ 7 = c.copy_from_slice.ensures.len ∙ length-take-le 7 place (omega (arith, k.0)) in
    let front = ap (λ h. h ++ map nat_abs (drop 7 c.args.list.now)) c.copy_from_slice.ensures.after in
    record { answer = rw (k.2, e); after = rw (k.2, e) (put_behind c.copy_from_slice.new.self place _ c.args.list.now size k.0 (omega arith) k.1 c.put_characters.ensures ∙ front) }
