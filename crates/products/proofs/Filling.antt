-- A block put into a gap of a product's memory.
use Rattle.std.proofs.Common.{◌≡◌, ℕ, ◌+◌, ◌-◌, ◌≤◌, List, length, take, Ok, Result, sym, refl, ap, ◌∙◌, arith}
use borrow.Rule.Slice.PartMut.{put_mid}
use Rattle.std.proofs.lemmas.Bool.{cond-true}
use Rattle.wire.proofs.Passing.{same_ok}
use Rattle.memory.specs.Laid.{laid, zeros, spliced, rewritten, gapped}
use Rattle.memory.proofs.Lays.{laid_mid, room_told, gap_filled}
use Rattle.books.specs.declared.faults.FieldFault.{FieldFault}
use Rattle.books.specs.Books.{Writing, weighed, answered, placed}
use Rattle.books.proofs.Written.{written_place}
use Rattle.records.specs.Records.{bytes_in}

pub filled : (w : Writing) (a : Result (Unit {0}) FieldFault) (mem part gap ys : List ℕ) (used from to size : ℕ) → from ≤ to → to ≤ used → used ≤ length mem
    → (used - (to - from)) + size ≤ length mem → weighed w ≡ Ok size → gap ≡ gapped used from to size mem
    → a ≡ answered w part → a ≡ Ok tt → ys ≡ placed w part
    → put_mid from ((from + size) - from) gap ys ≡ rewritten (spliced from to (bytes_in w) (take used mem)) used mem
filled w a mem part gap ys used from to size forward inside within room weight g e h p =
    let is : w ≡ Ok ys = written_place w a part ys e h p in
    let size_is : length ys ≡ size = same_ok (sym (ap weighed is) ∙ weight) in
    let whole = g ∙ cond-true _ _ _ (room_told mem used from to forward inside within size room) in
    laid_mid from (from + size) gap ys ys (omega arith) refl
    ∙ ap (λ u. laid u from ys) (whole ∙ ap (λ n. rewritten (spliced from to (zeros n) (take used mem)) used mem) (sym size_is))
    ∙ gap_filled mem used from to forward inside within ys (omega arith)
    ∙ ap (λ v. rewritten (spliced from to (bytes_in v) (take used mem)) used mem) (sym is)
