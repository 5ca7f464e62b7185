-- The pairs of a row of bytes, one by one, and a sink that takes them.
use Rattle.std.proofs.Common.{◌≡◌, ℕ, ◌/◌, ◌<◌, List, [], ◌∷◌, ◌++◌, length, get_or, sym, refl, ap, ◌∙◌, arith}
use Rattle.std.proofs.lemmas.List.{append_assoc, append-nil, length-append}
use Rattle.wire.specs.Pairs.{pair, pairs}
use Rattle.sinks.specs.Sinks.{Took}

pub pairs_front : (bs xs rest : List ℕ) → bs ≡ xs ++ rest → length xs ≡ 2 → pairs bs ≡ pair (get_or xs 0 0) (get_or xs 1 0) ∷ pairs rest
pairs_front bs [] rest e h = absurd (omega arith)
pairs_front bs (a ∷ []) rest e h = absurd (omega arith)
pairs_front bs (a ∷ b ∷ []) rest e h = ap pairs e
pairs_front bs (a ∷ b ∷ c ∷ xs) rest e h = absurd (omega arith)

pub pairs_short : (bs : List ℕ) → length bs < 2 → pairs bs ≡ []
pairs_short [] h = refl
pairs_short (a ∷ []) h = refl
pairs_short (a ∷ b ∷ bs) h = absurd (omega arith)

pub length_pairs : (bs : List ℕ) → length (pairs bs) ≡ length bs / 2
length_pairs [] = refl
length_pairs (a ∷ []) = refl
length_pairs (a ∷ b ∷ bs) = omega (arith, length_pairs bs)

module _ (S : Type 0) (taken : S → List ℕ) (room : S → ℕ) (wrote : S → List ℕ → S → Type 0) where
  pub took_none : (s : S) → wrote s [] s → Took taken room wrote s [] s
  took_none s h = record {
    all = sym (append-nil (taken s));
    left = omega arith;
    words = h;
    onward = λ r qs k. rw append-nil k;
  }

  pub took_more : (s t u : S) (ps qs : List ℕ) → Took taken room wrote s ps t → Took taken room wrote t qs u → Took taken room wrote s (ps ++ qs) u
  took_more s t u ps qs a b = record {
    all = b.all ∙ ap (λ xs. xs ++ qs) a.all ∙ append_assoc (taken s) ps qs;
    left = omega (arith, a.left, b.left, length-append ps qs);
    words = b.onward s ps a.words;
    onward = λ r rs k. rw append_assoc at (b.onward r (rs ++ ps) (a.onward r rs k));
  }
