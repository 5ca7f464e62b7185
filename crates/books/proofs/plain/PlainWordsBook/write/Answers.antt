use Rattle.std.proofs.Common.{length, arith, refl}
use Rattle.std.proofs.lemmas.Bool.{eq-eqb}
use Rattle.books.specs.Words.{word_bytes}
use Rattle.books.specs.WordLaws.{length_word_bytes}
use Rattle.books.proofs.PlainWords.{weighed_words}
use Rattle.books.proofs.Roomy.{just_room}
use Rattle.books.proofs.plain.PlainWordsBook.write.Goals as goal

pub put_words-requires : goal.put_words-requires
put_words-requires c =
    let k = weighed_words c.args.list.now _ _ c.weigh.ensures c.in_ok-weigh.was in
    let r = just_room (length c.args.place.now) _ _ c.check_room.ensures c.in_ok-check_room.was in
    record { fit = k.1; room = omega arith }

pub returns : goal.returns
returns c =
    let list = c.args.list.now in
    let k = weighed_words list _ _ c.weigh.ensures c.in_ok-weigh.was in
    let r = just_room (length c.args.place.now) _ _ c.check_room.ensures c.in_ok-check_room.was in
    let e = eq-eqb (length c.args.place.now) (length (word_bytes list)) (omega (arith, length_word_bytes list)) in
    record { answer = rw (k.3, e) refl; after = rw (k.3, e) c.put_words.ensures }
