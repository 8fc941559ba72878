use Rattle.std.proofs.Common.{ap, ◌∙◌}
use Rattle.std.specs.Option.{option_map}
use Rattle.repo_locks.proofs.TokenMaps.{kind_found}
use Rattle.repo_locks.proofs.searches.kind_among.Goals as goal

pub returns-in-Some : goal.returns-in-Some
returns-in-Some c = ap (λ o. option_map (λ r. r.exclusive) o) c.in-Some.ensures.value ∙ kind_found c.args.rows.now.entries c.args.token c.requires

pub returns-in-None : goal.returns-in-None
returns-in-None c = ap (λ o. option_map (λ r. r.exclusive) o) c.in-None.ensures.value ∙ kind_found c.args.rows.now.entries c.args.token c.requires
