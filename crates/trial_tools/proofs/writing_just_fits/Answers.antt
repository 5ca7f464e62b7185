use Rattle.std.proofs.Common.{◌≡◌, ℕ, List, subst, rules}
use Rattle.trial_tools.proofs.writing_just_fits.Goals as goal

-- what a call may leave, it may leave under another name
same_after : {F R : Type 0} (gives : F → List ℕ → R → List ℕ → Type 0) (f : F) (before : List ℕ) (r : R) (a b : List ℕ) → a ≡ b → gives f before r a → gives f before r b
same_after gives f before r a b e h = subst (gives f before r) e h

-- each call of `answer_if` says what it gave; the rest is lengths
pub returns : goal.returns
returns g c =
    let told = same_after g.W.Writing.gives c.args.writing.now _ _ _ _ c.as_bytes.ensures.value c.in_ok-told.ensures in
    ((_, search rules, told), (_, search rules, c.in_ok-refused.ensures))
