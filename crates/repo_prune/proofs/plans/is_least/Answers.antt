use Rattle.std.proofs.Common.{subst}
use Rattle.repo_pack.specs.declared.places.Place.{Place}
use Rattle.repo_index.specs.Lookups.{IsLeast}
use Rattle.repo_prune.proofs.Planning.{least_one}
use Rattle.repo_prune.proofs.plans.is_least.Goals as goal

pub returns-in-None : goal.returns-in-None
returns-in-None c = λ among. (λ h. absurd (cc), λ least. absurd (c.in-None.ensures.none c.args.fact.now.place among))

pub returns-in-Some : goal.returns-in-Some
returns-in-Some c = λ among.
    let facts = c.args.lookup.now in
    let kind = c.args.fact.now.kind in
    let name = c.args.fact.now.name in
    (λ h. subst (λ (p : Place). IsLeast facts kind name p) (c.is_same.ensures.0 h) c.in-Some.ensures.found, λ l. c.is_same.ensures.1 (least_one facts kind name c.in-Some.place c.args.fact.now.place c.in-Some.ensures.found l))
