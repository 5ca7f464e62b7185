-- A loop that puts characters over the bytes of a place.
use Rattle.std.proofs.Common.{◌≡◌, ℕ, zero, suc, ◌+◌, ◌<◌, ◌≤◌, List, [], ◌∷◌, ◌++◌, map, length, get_or, take, drop, set, Option, min, refl, ap, ⊎_elim, add-one, arith}
use Rattle.std.specs.Prelude.{false, true, ℤ, pos, negsuc, nat_abs, unwrap_or}
use Rattle.std.specs.List.{AllByRecursion}
use Rattle.std.proofs.lemmas.Bool.{cases_lt}
use Rattle.std.proofs.lemmas.List.{drop_all, take-append-drop}
use Rattle.books.specs.Words.{within}
use Rattle.cells.specs.Characters.{top_character, number_character, put_over}

module _ {X : Type 0} (reads : X → Option ℕ) where
  -- the place after the elements before i, and what the others are yet to make of it
  abbrev pub put_from : ℕ → List X → List ℕ → List ℕ
  put_from i xs place = take i place ++ put_over (map reads (drop i xs)) (drop i place)

  next_put : (i : ℕ) (xs : List X) (place : List ℕ) (x : X) → i < length xs → i < length place → x ≡ get_or xs i x → put_from (suc i) xs (set place i (unwrap_or (reads x) (get_or place i 0))) ≡ put_from i xs place
  next_put i [] place x l m e = absurd (omega arith)
  next_put i (y ∷ xs) [] x l m e = absurd (omega arith)
  next_put zero (y ∷ xs) (b ∷ place) x l m e = ap (λ z. unwrap_or (reads z) b ∷ put_over (map reads xs) place) e
  next_put (suc i) (y ∷ xs) (b ∷ place) x l m e = ap (λ t. b ∷ t) (next_put i xs place x (omega arith) (omega arith) e)

  -- one element over the byte at its place, and no element
  pub put_more : (i : ℕ) (xs : List X) (place placed : List ℕ) (x : X) (c : Option ℕ) (b : ℕ) → i < length xs → i < length place → x ≡ get_or xs i x → c ≡ reads x → b ≡ unwrap_or c (get_or place i 0) → placed ≡ set place i b → put_from (i + 1) xs placed ≡ put_from i xs place
  put_more i xs place placed x c b l m e f g h = rw (h, g, f, add-one i) (next_put i xs place x l m e)

  put_all : (i : ℕ) (xs : List X) (place : List ℕ) → length xs ≤ i → put_from i xs place ≡ place
  put_all i xs place l = let d = drop_all i xs l in rw d (take-append-drop i place)

  put_nothing : (cs : List (Option ℕ)) → put_over cs [] ≡ []
  put_nothing [] = refl
  put_nothing (c ∷ cs) = refl

  put_end : (i : ℕ) (xs : List X) (place : List ℕ) → length place ≤ i → put_from i xs place ≡ place
  put_end i xs place l =
      let d = drop_all i place l in
      let n = put_nothing (map reads (drop i xs)) in
      let t = take-append-drop i place in
      rw (d, n) (rw d at t)

  -- the end of the elements or of the place
  pub put_done : (i : ℕ) (xs : List X) (place : List ℕ) → min (length xs) (length place) ≤ i → put_from i xs place ≡ place
  put_done i xs place l =
      ⊎_elim
      (λ m. put_end i xs place (omega arith))
      (λ m. put_all i xs place m)
      (cases_lt i (length xs))

-- numbers that are all characters fill a place of as many bytes
pub put_numbers : (list : List ℤ) (place : List ℕ) → AllByRecursion (λ z. within top_character z ≡ true) list → length place ≡ length list → put_over (map number_character list) place ≡ map nat_abs list
put_numbers [] [] h l = refl
put_numbers [] (b ∷ place) h l = absurd (omega arith)
put_numbers (z ∷ list) [] h l = absurd (omega arith)
put_numbers (pos n ∷ list) (b ∷ place) h l = let e = h.0 in rw e (ap (λ t. n ∷ t) (put_numbers list place h.1 (omega arith)))
put_numbers (negsuc n ∷ list) (b ∷ place) h l = let z : ◌≡◌ {A = ℕ} 0 1 = let b : false ≡ true = h.0 in cc in absurd (omega arith)
