use Rattle.std.proofs.Common.{rules, ◌∙◌}
use Rattle.trial_tools.proofs.just_fits.Goals as goal

-- each call of `told_if` says what it gave; the rest is lengths
pub returns : goal.returns
returns g c =
    let told = c.in_ok-told.ensures in
    ((_, search rules, (told.0, told.1, told.2, told.3, told.4 ∙ c.as_bytes.ensures.value)), (_, search rules, c.in_ok-refused.ensures))
