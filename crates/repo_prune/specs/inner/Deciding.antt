-- What a prune decides once all trees were read.
use Rattle.std.specs.Prelude.{◌↔◌, List}
use Rattle.repo_name.specs.declared.kinds.BlobKind.{BlobKind}
use Rattle.repo_name.specs.declared.kinds.BlobKind.TheVariants.{Content}
use Rattle.repo_name.specs.declared.names.Name.{Name}
use Rattle.repo_index.specs.declared.facts.Fact.{Fact}
use Rattle.repo_reach.specs.Laws.{IsUsed}
use Rattle.repo_reach.specs.Used.{UsedHasPair}
use Rattle.repo_reach.specs.declared.trees.Trees.{Trees}
use Rattle.repo_reach.specs.declared.used.Used.{Used}
use Rattle.repo_session.specs.Catalogs.{IsBlobNowhere}
use Rattle.repo_writing.specs.Blobs.{HasFact}
use Rattle.repo_prune.specs.Plans.{IsPlanOf, Covers}
use Rattle.repo_prune.specs.Reading.{AreFound}
use Rattle.repo_prune.specs.declared.deciding.Decided.{Decided}
use Rattle.repo_prune.specs.declared.plans.Plan.{Plan}

-- a plan by what the walk came upon, of which each pair has a fact
pub record IsPlanned (facts : List Fact) (trees : Trees) (plan : Plan) : Type 0 where
  pub used : Used
  pub pairs : (k : BlobKind) (n : Name) → UsedHasPair used k n ↔ IsUsed trees.seen.items k n
  pub given : AreFound facts trees.seen.items → (k : BlobKind) (n : Name) → UsedHasPair used k n → HasFact facts k n
  pub plan_of : IsPlanOf used facts plan
  pub covers : Covers used facts plan

-- some content that is used has no fact; or there is a plan
abbrev pub Decides : List Fact → Trees → Decided → Type 0
Decides facts trees (Decided.Missing n) = IsUsed trees.seen.items Content n × IsBlobNowhere facts Content n
Decides facts trees (Decided.Plan plan) = IsPlanned facts trees plan
