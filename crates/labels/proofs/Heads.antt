-- The head: its checks one after another, and its bytes and numbers one by one.
use Rattle.std.proofs.Common.{◌≡◌, ℕ, ◌/◌, ◌%◌, ◌≤◌, List, [], ◌∷◌, length, get_or, take, ℤ, pos, Ok, Err, Result, sym, refl, ap, ◌∙◌, arith}
use Rattle.wire.specs.Pairs.{pair_bytes}
use Rattle.wire.specs.Steps.{◌>>=◌}
use Rattle.books.specs.declared.faults.Rule.TheVariants.{NumberRange}
use Rattle.books.specs.declared.faults.FieldFault.{FieldFault}
use Rattle.cells.specs.Signs.{byte_half, pair_half}
use Rattle.cells.specs.Cells.{twos, or_fault, flag_worth}
use Rattle.cells.proofs.Flattening.{seen_all, lifted, both}
use Rattle.labels.specs.Labels.{labels}

-- a list of seven or more, one by one
pub seven : {X : Type 0} (d : X) (xs : List X) → 7 ≤ length xs → take 7 xs ≡ get_or xs 0 d ∷ get_or xs 1 d ∷ get_or xs 2 d ∷ get_or xs 3 d ∷ get_or xs 4 d ∷ get_or xs 5 d ∷ get_or xs 6 d ∷ []
seven d xs l = seen_all xs 0 d 7 (omega arith)

-- ---- writing
flat : (m n x y f : Result ℕ FieldFault) →
    both (lifted pair_bytes m) (both (lifted pair_bytes n) (both (lifted (λ b. b ∷ []) x) (both (lifted (λ b. b ∷ []) y) (both (lifted (λ b. b ∷ []) f) (Ok []))))) ≡
    (m >>= λ m. n >>= λ n. x >>= λ x. y >>= λ y. f >>= λ f. Ok (m / 256 ∷ m % 256 ∷ n / 256 ∷ n % 256 ∷ x ∷ y ∷ f ∷ []))
flat (Err e) n x y f = refl
flat (Ok m) (Err e) x y f = refl
flat (Ok m) (Ok n) (Err e) y f = refl
flat (Ok m) (Ok n) (Ok x) (Err e) f = refl
flat (Ok m) (Ok n) (Ok x) (Ok y) (Err e) = refl
flat (Ok m) (Ok n) (Ok x) (Ok y) (Ok f) = refl

abbrev pub head_checks : List ℤ → Result (List ℕ) FieldFault
head_checks list = do
  m ← or_fault NumberRange 0 ((twos pair_half).worth (get_or list 0 (pos 0)))
  n ← or_fault NumberRange 1 ((twos pair_half).worth (get_or list 1 (pos 0)))
  x ← or_fault NumberRange 2 ((twos byte_half).worth (get_or list 2 (pos 0)))
  y ← or_fault NumberRange 3 ((twos byte_half).worth (get_or list 3 (pos 0)))
  f ← flag_worth 4 (get_or list 4 (pos 0)) (get_or list 5 (pos 0)) (get_or list 6 (pos 0))
  Ok (m / 256 ∷ m % 256 ∷ n / 256 ∷ n % 256 ∷ x ∷ y ∷ f ∷ [])

pub head_written : (list : List ℤ) → 7 ≤ length list → head_checks list ≡ labels.head.writing 0 (take 7 list)
head_written list l =
    let s = seven (pos 0) list l in
    sym (ap (labels.head.writing 0) s ∙ flat
    (or_fault NumberRange 0 ((twos pair_half).worth (get_or list 0 (pos 0))))
    (or_fault NumberRange 1 ((twos pair_half).worth (get_or list 1 (pos 0))))
    (or_fault NumberRange 2 ((twos byte_half).worth (get_or list 2 (pos 0))))
    (or_fault NumberRange 3 ((twos byte_half).worth (get_or list 3 (pos 0))))
    (flag_worth 4 (get_or list 4 (pos 0)) (get_or list 5 (pos 0)) (get_or list 6 (pos 0))))

pub head_passed : (list : List ℤ) (m n x y f m0 m1 n0 n1 : ℕ) → 7 ≤ length list →
    or_fault NumberRange 0 ((twos pair_half).worth (get_or list 0 (pos 0))) ≡ Ok m →
    or_fault NumberRange 1 ((twos pair_half).worth (get_or list 1 (pos 0))) ≡ Ok n →
    or_fault NumberRange 2 ((twos byte_half).worth (get_or list 2 (pos 0))) ≡ Ok x →
    or_fault NumberRange 3 ((twos byte_half).worth (get_or list 3 (pos 0))) ≡ Ok y →
    flag_worth 4 (get_or list 4 (pos 0)) (get_or list 5 (pos 0)) (get_or list 6 (pos 0)) ≡ Ok f →
    m0 ≡ m / 256 → m1 ≡ m % 256 → n0 ≡ n / 256 → n1 ≡ n % 256 →
    Ok (m0 ∷ m1 ∷ n0 ∷ n1 ∷ x ∷ y ∷ f ∷ []) ≡ labels.head.writing 0 (take 7 list)
head_passed list m n x y f m0 m1 n0 n1 l hm hn hx hy hf a b c d = rw (a, b, c, d) (sym (rw (hm, hn, hx, hy, hf) refl) ∙ head_written list l)
