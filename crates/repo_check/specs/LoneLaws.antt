-- What holds of a check that is alone with its store, by the definitions alone.
use Rattle.std.specs.Prelude.{◌≡◌, ◌<◌, ◌^◌, ◌-◌, ◌↔◌, [], ⊤, ℕ, List, length, Option, Some, None, Contains}
use Rattle.std.specs.List.Sorted.{IsStrictlySortedBy}
use Rattle.repo_name.specs.Naming.{name_cmp}
use Rattle.repo_name.specs.declared.kinds.Kind.{Kind}
use Rattle.repo_name.specs.declared.names.Name.{Name}
use Rattle.repo_wire.specs.declared.messages.Code.{Code}
use Rattle.repo_wire.specs.declared.messages.Request.{Request}
use Rattle.repo_store.specs.Laws.{greatest_count}
use Rattle.repo_store.specs.Stores.{Store, Objects}
use Rattle.repo_session.specs.Versions.{upto}
use Rattle.repo_session.specs.Alone.{IsFit, AreVersionsUpto, IsSent, IsSpoken, NoClash}
use Rattle.repo_session.specs.Askers.{Asker}
use Rattle.repo_session.specs.Clients.{IsObedientBy}
use Rattle.repo_session.specs.Soundness.{IsSound}
use Rattle.repo_session.specs.Talks.{Talk, trace_of, TalkRan, MayBeAhead}
use Rattle.repo_session.specs.Traces.{Trace}
use Rattle.repo_session.specs.declared.outcomes.End.{End}
use Rattle.repo_session.specs.declared.outcomes.Outcome.{Outcome}
use Rattle.repo_check.specs.Checking.{check_task, check_rule, IsCount, Pair, pair_cmp}
use Rattle.repo_check.specs.Laws.{IsReachedIn}

-- these exchanges, what is pending and the outcome are a check's
abbrev pub IsCheck : Asker → Option Request → Option Outcome → Trace → Type 0
IsCheck who next outcome es = IsObedientBy check_rule who next outcome es

-- no two of the objects of a store, and of the blobs in its packs, have one name
abbrev pub AreStoredApart : Store → Type 0
AreStoredApart from = NoClash (IsSpoken (λ x. ⊥) from (IsSent [] None))

-- a check changes no object: after every exchange, whatever the store says, and also where it is one step ahead
abbrev pub CheckChangesNothing : Type 0
CheckChangesNothing = (who : Asker) (from mid to : Store) (failed failing : ℕ) (talk : Talk) (next : Option Request) (outcome : Option Outcome)
    → TalkRan from failed talk mid failing → MayBeAhead mid next to → IsCheck who next outcome (trace_of talk) → to.objects ≡ from.objects

-- a check alone with a store, whatever that is, is clean only where it is sound
abbrev pub CleanIsOfSound : Type 0
CleanIsOfSound = (who : Asker) (from to : Store) (failed failing : ℕ) (talk : Talk) (next : Option Request) (snapshots indexes packs blobs : ℕ)
    → AreStoredApart from → TalkRan from failed talk to failing → IsCheck who next (Some (Outcome.Clean snapshots indexes packs blobs)) (trace_of talk) → IsSound from.objects

-- these are the names that objects of the kind have, each once
pub record AreNamesOf (objects : Objects) (k : Kind) (names : List Name) : Type 0 where
  pub each : (n : Name) → Contains names n ↔ ((x : List ℕ) × (objects k n ≡ Some x))
  pub ascend : IsStrictlySortedBy name_cmp names

-- these are the pairs that snapshots among the objects reach in the blobs held, each once
pub record ArePairsOf (objects : Objects) (pairs : List Pair) : Type 0 where
  pub each : (pair : Pair) → Contains pairs pair ↔ IsReachedIn objects pair.kind pair.name
  pub ascend : IsStrictlySortedBy pair_cmp pairs

-- there are so many snapshots, indexes and packs among the objects, and so many pairs that these snapshots reach
pub record AreCountsOf (objects : Objects) (snapshots indexes packs blobs : ℕ) : Type 0 where
  pub snapshots_are : (names : List Name) × AreNamesOf objects Kind.Snapshot names × IsCount snapshots (length names)
  pub indexes_are : (names : List Name) × AreNamesOf objects Kind.Index names × IsCount indexes (length names)
  pub packs_are : (names : List Name) × AreNamesOf objects Kind.Pack names × IsCount packs (length names)
  pub blobs_are : (pairs : List Pair) × ArePairsOf objects pairs × IsCount blobs (length pairs)

-- a check alone with a store, whatever that is, tells the store's own numbers where it is clean
abbrev pub CleanTellsCounts : Type 0
CleanTellsCounts = (who : Asker) (from to : Store) (failed failing : ℕ) (talk : Talk) (next : Option Request) (snapshots indexes packs blobs : ℕ)
    → AreStoredApart from → TalkRan from failed talk to failing → IsCheck who next (Some (Outcome.Clean snapshots indexes packs blobs)) (trace_of talk) → AreCountsOf from.objects snapshots indexes packs blobs

-- it is clean, or the store had no memory
abbrev pub IsCleanOrMemory : Option Outcome → Type 0
IsCleanOrMemory None = ⊥
IsCleanOrMemory (Some (Outcome.Clean snapshots indexes packs blobs)) = ⊤
IsCleanOrMemory (Some outcome) = outcome ≡ Outcome.Ended (End.Refused Code.NoMemory)

-- so ends a check alone with a store in which it finds all that it wants, and whose device doesn't fail
abbrev pub CheckEndsWell : Type 0
CheckEndsWell = (who : Asker) (from to : Store) (failed : ℕ) (talk : Talk) (outcome : Option Outcome)
    → IsFit from → AreVersionsUpto (upto (check_task who).versions) from → AreStoredApart from → failed < greatest_count → TalkRan from failed talk to failed → length talk < 2 ^ 64 - 1 → IsCheck who None outcome (trace_of talk) → IsCleanOrMemory outcome
