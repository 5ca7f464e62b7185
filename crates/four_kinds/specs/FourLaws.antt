-- Proofs, and no definitions: the four kinds over plain words keep the laws of a book.
use Rattle.books.specs.Books.{Lawful}
use Rattle.books.specs.WordLaws.{plain_lawful}
use Rattle.kinds.specs.Laid.{laid_lawful}
use Rattle.labels.specs.LabelLaws.{labels_lawful}
use Rattle.texts.specs.TextLaws.{text_agree}
use Rattle.texts.specs.Texts.{routing, message}
use Rattle.winds.specs.WindLaws.{winds_lawful}
use Rattle.four_kinds.specs.FourKinds.{four_kinds}

pub four_lawful : Lawful four_kinds
four_lawful =
    laid_lawful _ _ _ _ (text_agree routing)
    (laid_lawful _ _ _ _ (text_agree message)
    (laid_lawful _ _ _ _ labels_lawful
    (laid_lawful _ _ _ _ winds_lawful
    plain_lawful)))
