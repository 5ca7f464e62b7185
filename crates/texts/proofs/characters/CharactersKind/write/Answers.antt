use Rattle.std.proofs.Common.{map, length, nat_abs, ◌∙◌, refl, arith}
use Rattle.std.proofs.lemmas.List.{length-map}
use Rattle.std.proofs.lemmas.Bool.{eq-eqb}
use Rattle.books.proofs.Roomy.{just_room}
use Rattle.cells.proofs.Putting.{put_numbers}
use Rattle.texts.proofs.Answering.{weight_text}
use Rattle.texts.proofs.characters.CharactersKind.write.Goals as goal

pub returns : goal.returns
returns g c =
    let list = c.args.list.now in
    let place = c.args.place.now in
    let k = weight_text (g.T.Text.meaning c.args.self.now.text) list _ _ c.weigh.ensures c.in_ok-weigh.was in
    let r = just_room (length place) _ _ c.check_room.ensures c.in_ok-check_room.was in
    let e = eq-eqb (length place) (length (map nat_abs list)) (omega (arith, length-map list nat_abs)) in
    record { answer = rw (k.2, e) refl; after = rw (k.2, e) (c.put_characters.ensures ∙ put_numbers list place k.0 (omega arith)) }
