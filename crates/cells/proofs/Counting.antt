-- A count or a weight that is known where there is no fault.
use Rattle.std.proofs.Common.{◌≡◌, ℕ, List, length, ℤ, Ok, Err, refl, sym, ap}
use Rattle.wire.specs.Steps.{◌>>=◌}
use Rattle.books.specs.Books.{Reading, Writing, judged, weighed}
use Rattle.cells.specs.Cells.{checked}

pub judged_checked : (r : Reading) (n : ℕ) → ((list : List ℤ) → r ≡ Ok list → length list ≡ n) → (checked r >>= λ _. Ok n) ≡ judged r
judged_checked (Ok list) n h = ap Ok (sym (h list refl))
judged_checked (Err f) n h = refl

pub weighed_checked : (r : Writing) (n : ℕ) → ((field : List ℕ) → r ≡ Ok field → length field ≡ n) → (checked r >>= λ _. Ok n) ≡ weighed r
weighed_checked (Ok field) n h = ap Ok (sym (h field refl))
weighed_checked (Err f) n h = refl
