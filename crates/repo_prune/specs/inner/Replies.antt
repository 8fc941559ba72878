-- What comes of replies, by the stage of a prune.
use Rattle.std.specs.Prelude.{◌≡◌, List, ℕ, Option, Some, None}
use Rattle.repo_pack.specs.declared.places.Place.{Place}
use Rattle.repo_index.specs.Lookups.{IsNextPlace, IsLastPlace}
use Rattle.repo_session.specs.Blobs.{range_of}
use Rattle.repo_session.specs.Ends.{blob_thing}
use Rattle.repo_session.specs.declared.outcomes.End.{End}
use Rattle.repo_session.specs.declared.outcomes.Outcome.{Outcome}
use Rattle.repo_prune.specs.Moving.{copy_at}
use Rattle.repo_prune.specs.PruneStates.{HasListed, StepsFrom, HasWalked, HasMoved, GoesTo, known_in, KnowsAsMuch}
use Rattle.repo_reach.specs.declared.trees.Trees.{Trees}
use Rattle.repo_index.specs.declared.facts.Fact.{Fact}
use Rattle.repo_prune.specs.declared.relisting.Relisting.{Relisting}
use Rattle.repo_prune.specs.declared.moving.Moving.{Moving}
use Rattle.repo_name.specs.declared.kinds.Kind.{Kind}
use Rattle.repo_name.specs.declared.tokens.Token.{Token}
use Rattle.repo_wire.specs.declared.messages.Say.{Say}
use Rattle.repo_prune.specs.declared.prunes.Prune.{Prune}
use Rattle.repo_wire.specs.declared.messages.Ask.{Ask}
use Rattle.repo_prune.specs.declared.prunes.Stage.{Stage}
use Rattle.repo_name.specs.declared.names.Name.{Name}
use Rattle.repo_session.specs.declared.jobs.Step.{Step}

-- while it walks the trees: what comes of a part of a pack; what is known; and what comes after
abbrev pub StepsInWalk : Prune → Token → Say → Step → Prune → Type 0
StepsInWalk old token say step new = (trees : Trees) (fact : Fact) (pack : Name) (offset len : ℕ) → old.stage ≡ Stage.Walking trees fact
    → StepsFrom old token (Ask.Range pack offset len) say step new

abbrev pub KnowsInWalk : Prune → Prune → Type 0
KnowsInWalk old new = (trees : Trees) (fact : Fact) (pack : Name) (offset len : ℕ) → old.stage ≡ Stage.Walking trees fact → KnowsAsMuch old (Ask.Range pack offset len) new

abbrev pub EndsWalk : Prune → Token → Step → Prune → Type 0
EndsWalk old token step new = (trees : Trees) (fact : Fact) → old.stage ≡ Stage.Walking trees fact → GoesTo (known_in old) token (HasWalked (known_in old) trees) step new

-- while it moves blobs
abbrev pub StepsInMoves : Prune → Token → Say → Step → Prune → Type 0
StepsInMoves old token say step new = (moving : Moving) (place : Option Place) (pack : Name) (offset len : ℕ) → old.stage ≡ Stage.Moving moving place
    → StepsFrom old token (Ask.Range pack offset len) say step new

abbrev pub KnowsInMoves : Prune → Prune → Type 0
KnowsInMoves old new = (moving : Moving) (place : Option Place) (pack : Name) (offset len : ℕ) → old.stage ≡ Stage.Moving moving place → KnowsAsMuch old (Ask.Range pack offset len) new

abbrev pub EndsMoves : Prune → Token → Step → Prune → Type 0
EndsMoves old token step new = (moving : Moving) (place : Option Place) → old.stage ≡ Stage.Moving moving place → GoesTo (known_in old) token (HasMoved (known_in old) moving) step new

-- where a copy came bad: the next one behind it is asked for; and it ends where there is none
abbrev pub LooksBehind : List Fact → Fact → Step → Option Place → Type 0
LooksBehind facts copy step (Some place) = IsNextPlace facts copy.kind copy.name copy.place place × (step ≡ Step.Ask (range_of (copy_at copy (Some place))))
LooksBehind facts copy step None = IsLastPlace facts copy.kind copy.name copy.place × (step ≡ Step.Finish (Outcome.Ended (End.BadObject (blob_thing copy.kind) copy.name)))

-- after its indexes were put
abbrev pub EndsIndexes : Prune → Token → Step → Prune → Type 0
EndsIndexes old token step new = (relisting : Relisting) → old.stage ≡ Stage.Relisting relisting
    → GoesTo (known_in old) token (HasListed (known_in old) relisting) step new

-- what comes of what was said to a put of a kind, whichever
abbrev pub StepsFromPut : Kind → Say → Prune → Token → Step → Prune → Type 0
StepsFromPut kind say old token step new = (own : Token) (name : Name) (bytes : List ℕ) → StepsFrom old token (Ask.Put own kind name bytes) say step new
