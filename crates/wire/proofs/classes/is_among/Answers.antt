use Rattle.std.proofs.Common.{refl, rules, tests, ◌∙◌}
use Rattle.std.specs.Prelude.{◌==◌, ◌&&◌, ◌||◌}
use Rattle.std.specs.List.{list_any}
use Rattle.std.proofs.lemmas.Iterator.{YieldsList-from_slice}
use Rattle.std.proofs.lemmas.Iterator.Search.{any_from_yields_List}
use Rattle.std.proofs.lemmas.List.Recursion.{same_from_clauses}
use Rattle.wire.specs.Classes.{Kind, among}
use Rattle.wire.proofs.classes.is_among.Goals as goal

pub returns : goal.returns
returns c =
    let m = c.args.entry.0 in
    let s = c.args.entry.1 in
    let is = λ (k : Kind). k.0 == m && k.1 == s in
    any_from_yields_List is _ _ c.any.result c.any.ensures.ran (YieldsList-from_slice c.args.table.now cc) (λ x b q k. search (rules, tests))
    ∙ same_from_clauses (list_any is) (among m s) (λ k r. is k || r) refl (λ _ _. refl) (λ _ _. refl) c.args.table.now
