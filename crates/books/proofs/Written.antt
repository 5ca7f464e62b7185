-- What an accepted write tells, for whoever writes by a book.
use Rattle.std.proofs.Common.{◌≡◌, ℕ, Bool, true, false, cond, eqb, List, length, Ok, Err, Result, sym, refl, ap, ◌∙◌, arith}
use Rattle.books.specs.declared.faults.FieldFault.{FieldFault}
use Rattle.books.specs.Books.{Writing, answered, placed}

accepted : (b : Bool) (f : FieldFault) (field place : List ℕ) → cond {A = Result (Unit {0}) FieldFault} b (Ok tt) (Err f) ≡ Ok tt → cond b field place ≡ field
accepted true f field place h = refl
accepted false f field place h = let z : ◌≡◌ {A = ℕ} 0 1 = cc in absurd (omega arith)

-- the place then holds the written field
pub written_place : (w : Writing) (a : Result (Unit {0}) FieldFault) (place now' : List ℕ) → a ≡ answered w place → a ≡ Ok tt → now' ≡ placed w place → w ≡ Ok now'
written_place (Ok field) a place now' e h p = ap Ok (sym (p ∙ accepted (eqb (length place) (length field)) _ field place (sym e ∙ h)))
written_place (Err f) a place now' e h p = let z : ◌≡◌ {A = ℕ} 0 1 = cc in absurd (omega arith)
