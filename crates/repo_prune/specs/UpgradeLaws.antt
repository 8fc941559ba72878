-- What holds of an upgrade that is alone with its store, by the definitions alone.
use Rattle.std.specs.Prelude.{◌≡◌, ◌<◌, ◌^◌, ◌-◌, ⊤, ℕ, length, Option, Some, None}
use Rattle.repo_wire.specs.declared.messages.Code.{Code}
use Rattle.repo_wire.specs.declared.messages.Request.{Request}
use Rattle.repo_store.specs.Laws.{greatest_count}
use Rattle.repo_store.specs.Stores.{Store}
use Rattle.repo_session.specs.Alone.{IsFit, AreVersionsUpto}
use Rattle.repo_session.specs.Askers.{Asker}
use Rattle.repo_session.specs.Clients.{IsObedientBy}
use Rattle.repo_session.specs.Talks.{Talk, trace_of, TalkRan, MayBeAhead}
use Rattle.repo_session.specs.Versions.{upto}
use Rattle.repo_session.specs.declared.outcomes.End.{End}
use Rattle.repo_session.specs.declared.outcomes.Outcome.{Outcome}
use Rattle.repo_prune.specs.Upgrading.{upgrade_rule, upgrade_task}

-- an upgrade alone with its store changes no object: after every exchange, whatever the store answers, and also where it is one step ahead
abbrev pub UpgradeChangesNoObject : Type 0
UpgradeChangesNoObject = (who : Asker) (from mid to : Store) (failed failing : ℕ) (talk : Talk) (next : Option Request) (outcome : Option Outcome)
    → TalkRan from failed talk mid failing → MayBeAhead mid next to → IsObedientBy upgrade_rule who next outcome (trace_of talk) → to.objects ≡ from.objects

-- it is upgraded, or the store had no memory
abbrev pub IsUpgradedOrMemory : Option Outcome → Type 0
IsUpgradedOrMemory None = ⊥
IsUpgradedOrMemory (Some Outcome.Upgraded) = ⊤
IsUpgradedOrMemory (Some outcome) = outcome ≡ Outcome.Ended (End.Refused Code.NoMemory)

-- so ends an upgrade alone with a store in which it finds all that it wants, whose versions it knows, and whose device doesn't fail; whichever mode the store has
abbrev pub UpgradeEndsWell : Type 0
UpgradeEndsWell = (who : Asker) (from to : Store) (failed : ℕ) (talk : Talk) (outcome : Option Outcome)
    → IsFit from → AreVersionsUpto (upto (upgrade_task who).versions) from → failed < greatest_count → TalkRan from failed talk to failed → length talk < 2 ^ 64 - 1 → IsObedientBy upgrade_rule who None outcome (trace_of talk)
    → IsUpgradedOrMemory outcome
