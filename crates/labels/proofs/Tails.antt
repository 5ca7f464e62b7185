-- Seven before the characters: one character of many, the first that is none, and a place whose characters are put.
use Rattle.std.proofs.Common.{◌≡◌, ℕ, ◌+◌, ◌-◌, ◌<◌, ◌≤◌, Bool, true, false, cond, List, [], ◌∷◌, ◌++◌, map, length, get_or, take, drop, ℤ, nat_abs, not, is_some, Some, None, Ok, Err, Option, refl, sym, ap, ◌∙◌, arith}
use borrow.Rule.Slice.PartMut.{put_mid}
use Rattle.std.specs.List.{AllByRecursion, position, position_from}
use Rattle.std.proofs.lemmas.List.{append-nil, length-append, length-drop, get_or-drop, get_or-map, get_or-append_right, drop-map, take_at, drop_at, take_all, drop_all}
use Rattle.std.proofs.lemmas.Iterator.Adapters.{position_from-zero}
use Rattle.books.specs.declared.faults.Rule.{Rule}
use Rattle.books.specs.declared.faults.FieldFault.{FieldFault}
use Rattle.books.specs.Faults.{fault_at, refuse_at}
use Rattle.books.specs.Words.{within}
use Rattle.cells.specs.Characters.{number_character, put_over}
use Rattle.cells.proofs.Putting.{put_numbers}
use Rattle.labels.specs.Labels.{characters_checked}

pub tail_at : {X Y : Type 0} (f : X → Y) (head : List Y) (xs : List X) → length head ≡ 7 → (i : ℕ) (d : X) (e : Y) → 7 ≤ i → i < length xs → get_or (head ++ map f (drop 7 xs)) i e ≡ f (get_or xs i d)
tail_at f head xs seven i d e l m =
    let k : 7 + (i - 7) ≡ i = omega arith in
    let n : i - 7 < length (drop 7 xs) = omega (arith, length-drop 7 xs) in
    get_or-append_right head (map f (drop 7 xs)) 7 i e seven l
    ∙ get_or-map f (drop 7 xs) (i - 7) d e n
    ∙ ap f (get_or-drop 7 xs (i - 7) d ∙ ap (λ j. get_or xs j d) k)

-- ---- the first that is no character
abbrev behind : ℕ → Option ℕ → Option ℕ
behind at None = None
behind at (Some i) = Some (at + i)

module _ {X : Type 0} (reads : X → Option ℕ) where
  abbrev none : X → Bool
  none x = not (is_some (reads x))

  none_behind : (at i : ℕ) (xs : List X) → position_from (λ c. not (is_some c)) (at + i) (map reads xs) ≡ behind at (position_from none i xs)
  none_behind at i [] = refl
  none_behind at i (x ∷ xs) = go (none x) (none_behind at (i + 1) xs)
    where
      go : (b : Bool) → position_from (λ c. not (is_some c)) (at + (i + 1)) (map reads xs) ≡ behind at (position_from none (i + 1) xs) → cond b (Some (at + i)) (position_from (λ c. not (is_some c)) (at + i + 1) (map reads xs)) ≡ behind at (cond b (Some i) (position_from none (i + 1) xs))
      go true h = refl
      go false h = let e : at + i + 1 ≡ at + (i + 1) = omega arith in rw e h

  first_none : (range : Rule) (xs : List X) (o : Option ℕ) → o ≡ position none (take (length xs - 7) (drop 7 xs)) → refuse_at range (behind 7 o) ≡ characters_checked range (map reads xs)
  first_none range xs o h =
      let t = take_all (length xs - 7) (drop 7 xs) (omega (arith, length-drop 7 xs)) in
      let p : o ≡ position_from none 0 (drop 7 xs) = (rw t at h) ∙ position_from-zero none (drop 7 xs) in
      let d = drop-map reads 7 xs in
      rw (p, d) (ap (refuse_at range) (sym (none_behind 7 0 (drop 7 xs))))

  pub none_at : (range : Rule) (xs : List X) (o : Option ℕ) (i : ℕ) (f : FieldFault) → o ≡ position none (take (length xs - 7) (drop 7 xs)) → o ≡ Some i → f ≡ fault_at range (7 + i) → Err f ≡ characters_checked range (map reads xs)
  none_at range xs o i f h e k = let t = first_none range xs o h in rw k (rw e at t)

  pub none_found : (range : Rule) (xs : List X) (o : Option ℕ) → o ≡ position none (take (length xs - 7) (drop 7 xs)) → o ≡ None → Ok tt ≡ characters_checked range (map reads xs)
  none_found range xs o h e = let f = first_none range xs o h in rw e at f

-- ---- the characters put behind the seven bytes
pub put_behind : (head place new : List ℕ) (list : List ℤ) → length head ≡ 7 → 7 ≤ length list → length place ≡ length list → AllByRecursion (λ z. within 127 z ≡ true) (drop 7 list) → new ≡ put_over (map number_character (take (length list - 7) (drop 7 list))) (take (length (head ++ drop 7 place) - 7) (drop 7 (head ++ drop 7 place))) → put_mid 7 (length (head ++ drop 7 place) - 7) (head ++ drop 7 place) new ≡ head ++ map nat_abs (drop 7 list)
put_behind head place new list seven l m all e =
    let n : length (head ++ drop 7 place) ≡ length list = omega (arith, length-append head (drop 7 place), length-drop 7 place) in
    let d = drop_at head (drop 7 place) 7 seven in
    let t = take_at head (drop 7 place) 7 seven in
    let s = take_all (length (head ++ drop 7 place) - 7) (drop 7 place) (omega (arith, length-drop 7 place)) in
    let u = take_all (length list - 7) (drop 7 list) (omega (arith, length-drop 7 list)) in
    let p = put_numbers (drop 7 list) (drop 7 place) all (omega (arith, length-drop 7 place, length-drop 7 list)) in
    let v : new ≡ map nat_abs (drop 7 list) = (rw (d, s, u) at e) ∙ p in
    let z = drop_all (length (head ++ drop 7 place) - 7) (drop 7 place) (omega (arith, length-drop 7 place)) in
    rw (t, v, d, z) (ap (λ xs. head ++ xs) (append-nil _))
