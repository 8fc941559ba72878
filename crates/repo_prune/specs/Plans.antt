-- What a prune keeps, and what it moves.
use Rattle.std.specs.Prelude.{◌≡◌, ◌≢◌, ◌≤◌, ◌⊎◌, ◌++◌, ◌∷◌, ◌↔◌, [], List, map, length, Contains}
use Rattle.std.specs.List.Sorted.{IsStrictlySortedBy}
use Rattle.repo_name.specs.Naming.{name_cmp}
use Rattle.repo_name.specs.declared.kinds.BlobKind.{BlobKind}
use Rattle.repo_name.specs.declared.names.Name.{Name}
use Rattle.repo_index.specs.IndexText.{facts_in}
use Rattle.repo_index.specs.Order.{place_first}
use Rattle.repo_index.specs.declared.facts.Fact.{Fact}
use Rattle.repo_index.specs.declared.facts.PackFacts.{PackFacts}
use Rattle.repo_reach.specs.Used.{UsedHasPair}
use Rattle.repo_reach.specs.declared.used.Used.{Used}
use Rattle.repo_writing.specs.Blobs.{HasFact, AreFactsOnce}
use Rattle.repo_prune.specs.Pruning.{IsUsedCopyBy, MayStayBy, MustMoveBy}
use Rattle.repo_prune.specs.declared.plans.Plan.{Plan}

-- the copy of a used pair that is used: the one at the least place
abbrev pub IsUsedCopy : Used → List Fact → Fact → Type 0
IsUsedCopy used facts fact = IsUsedCopyBy (UsedHasPair used) facts fact

-- a pack stays: these are its facts, 1 to 4,096, and all are used copies
abbrev pub MayStay : Used → List Fact → PackFacts → Type 0
MayStay used facts listed = MayStayBy (UsedHasPair used) facts listed

-- a blob moves: it is a used copy, and its pack doesn't stay
abbrev pub MustMove : Used → List Fact → Fact → Type 0
MustMove used facts fact = MustMoveBy (UsedHasPair used) facts fact

-- the packs that stay, and the blobs that move, ascending
pub record IsPlanOf (used : Used) (facts : List Fact) (plan : Plan) : Type 0 where
  pub kept : (listed : PackFacts) → Contains plan.kept.items listed ↔ MayStay used facts listed
  pub moves : (fact : Fact) → Contains plan.moves.items fact ↔ MustMove used facts fact
  pub kept_ascend : IsStrictlySortedBy name_cmp (map (λ (listed : PackFacts). listed.pack) plan.kept.items)
  pub moves_ascend : IsStrictlySortedBy place_first plan.moves.items

-- the facts of a plan: those of the packs that stay, and those that move
abbrev pub planned_facts : Plan → List Fact
planned_facts plan = facts_in plan.kept.items ++ plan.moves.items

-- they cover what is used: each used pair that has a fact is one of them, each of them is of a used pair, and no two are of one pair
pub record Covers (used : Used) (facts : List Fact) (plan : Plan) : Type 0 where
  pub given : (k : BlobKind) (n : Name) → UsedHasPair used k n → HasFact facts k n → HasFact (planned_facts plan) k n
  pub just : (fact : Fact) → Contains (planned_facts plan) fact → UsedHasPair used fact.kind fact.name
  pub once : AreFactsOnce (planned_facts plan)

-- ---- on the way

-- those of some facts that are used copies, in their order
pub record AreCopiesOf (used : Used) (facts own copies : List Fact) : Type 0 where
  pub each : (fact : Fact) → Contains copies fact ↔ (Contains own fact × IsUsedCopy used facts fact)
  pub ascend : IsStrictlySortedBy place_first own → IsStrictlySortedBy place_first copies
  pub fewer : length copies ≤ length own
  pub whole : (length copies ≡ length own) ↔ ((fact : Fact) → Contains own fact → IsUsedCopy used facts fact)

-- where a pack's own facts are among all
abbrev pub AreOwnCopies : Used → List Fact → List Fact → List Fact → Type 0
AreOwnCopies used facts own copies = ((fact : Fact) → Contains own fact → Contains facts fact) → AreCopiesOf used facts own copies

-- a plan for the packs of these names alone
pub record IsPlanFor (used : Used) (facts : List Fact) (packs : List Name) (plan : Plan) : Type 0 where
  pub kept : (listed : PackFacts) → Contains plan.kept.items listed ↔ (Contains packs listed.pack × MayStay used facts listed)
  pub moves : (fact : Fact) → Contains plan.moves.items fact ↔ (Contains packs fact.place.pack × MustMove used facts fact)
  pub kept_ascend : IsStrictlySortedBy name_cmp (map (λ (listed : PackFacts). listed.pack) plan.kept.items)
  pub moves_ascend : IsStrictlySortedBy place_first plan.moves.items

-- it stays, and comes to those that are kept
pub record PlansStay (used : Used) (facts : List Fact) (pack : Name) (old new : Plan) : Type 0 where
  pub listed : PackFacts
  pub named : listed.pack ≡ pack
  pub stays : MayStay used facts listed
  pub kept : new.kept.items ≡ old.kept.items ++ listed ∷ []
  pub moves : new.moves.items ≡ old.moves.items

-- it doesn't, and its used copies come to those that move
pub record PlansMoves (used : Used) (facts : List Fact) (pack : Name) (old new : Plan) : Type 0 where
  pub copies : List Fact
  pub each : (fact : Fact) → Contains copies fact ↔ ((fact.place.pack ≡ pack) × IsUsedCopy used facts fact)
  pub ascend : IsStrictlySortedBy place_first copies
  pub leaves : (listed : PackFacts) → MayStay used facts listed → listed.pack ≢ pack
  pub moves : new.moves.items ≡ old.moves.items ++ copies
  pub kept : new.kept.items ≡ old.kept.items

-- one pack more came to the plan
abbrev pub Plans : Used → List Fact → Name → Plan → Plan → Type 0
Plans used facts pack old new = PlansStay used facts pack old new ⊎ PlansMoves used facts pack old new
