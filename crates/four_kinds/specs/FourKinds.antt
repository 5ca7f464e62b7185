-- The book of the programs: the four kinds of mode 5, each at its submode, over plain words.
use Rattle.books.specs.Books.{Meaning}
use Rattle.books.specs.Words.{plain}
use Rattle.kinds.specs.Kinds.{laid}
use Rattle.labels.specs.Labels.{labels_meaning}
use Rattle.texts.specs.Texts.{text_kind, routing, message}
use Rattle.winds.specs.Winds.{winds_meaning}

abbrev pub four_kinds : Meaning
four_kinds =
    laid 5 0o20 (text_kind routing)
    (laid 5 4 (text_kind message)
    (laid 5 1 labels_meaning
    (laid 5 3 winds_meaning
    plain)))
