-- What an upgrade may ask, and how it may end.
use Rattle.std.specs.Prelude.{◌≡◌, ◌⊎◌, ⊤, ℕ, true, false, List, None}
use Rattle.repo_name.specs.declared.tokens.Token.{Token}
use Rattle.repo_wire.specs.declared.messages.Ask.{Ask}
use Rattle.repo_wire.specs.declared.messages.Say.{Say}
use Rattle.repo_tree.specs.declared.configs.Config.{Config}
use Rattle.repo_tree.specs.ConfigText.{IsConfigText}
use Rattle.repo_session.specs.declared.versions.Versions.{Versions}
use Rattle.repo_session.specs.declared.outcomes.Outcome.{Outcome}
use Rattle.repo_session.specs.Askers.{Asker}
use Rattle.repo_session.specs.Jobs.{Rule}
use Rattle.repo_session.specs.Order.{Task}
use Rattle.repo_session.specs.Traces.{Exchange, Trace, Exchanged, WasAsked}

-- the config that was read is of this version
pub record HasReadVersion (es : Trace) (version : ℕ) : Type 0 where
  pub text : List ℕ
  pub config : Config
  pub read : Exchanged es Ask.Config (Say.Bytes text)
  pub reads : IsConfigText text config
  pub of_version : config.version ≡ version

-- it is done under a lock of its own
abbrev pub upgrade_task : Asker → Task
upgrade_task who = record { who = who; exclusive = true; snapshot = None; versions = who.versions; notes = false }

-- it asks for one thing, once: that the config be of version 2, where the one that it read is of version 1
abbrev pub UpgradeAllows : Trace → Ask → Type 0
UpgradeAllows es (Ask.Upgrade token) = HasReadVersion es 1 × ((t : Token) → ¬ WasAsked es (Ask.Upgrade t))
UpgradeAllows es _ = ⊥

-- nothing is given out
abbrev pub UpgradeGives : Trace → Exchange → Type 0
UpgradeGives es e = ⊥

-- it tells that the config is of version 2: the one that it read is, or that was done
abbrev pub UpgradeConcludes : Trace → Outcome → Type 0
UpgradeConcludes es Outcome.Upgraded = HasReadVersion es 2 ⊎ ((token : Token) × Exchanged es (Ask.Upgrade token) Say.Done)
UpgradeConcludes es _ = ⊥

-- its rule, as a job's
abbrev pub upgrade_rule : Rule
upgrade_rule = record { exclusive = true; snapshot = None; versions = Versions.Both; notes = false; calm = ⊤; allows = UpgradeAllows; gives = UpgradeGives; concludes = UpgradeConcludes; wanting = λ es. ⊥ }
