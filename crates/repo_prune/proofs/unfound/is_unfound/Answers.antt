use Rattle.std.proofs.Common.{ap, not, refl, ◌∙◌}
use Rattle.repo_prune.proofs.Finding.{none_found}
use Rattle.repo_prune.proofs.unfound.is_unfound.Goals as goal

pub returns-then-has-clause-yes : goal.returns-then-has-clause-yes
returns-then-has-clause-yes c = λ yes. (c.if-has.ensures.0 refl, none_found c.find.result (c.is_none.ensures ∙ ap not yes) c.find.ensures.none)
