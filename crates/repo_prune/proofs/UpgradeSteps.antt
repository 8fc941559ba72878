-- The steps of an upgrade.
use Rattle.std.proofs.Common.{arith, ◌≡◌, ◌≢◌, ◌≤◌, ℕ, zero, suc, List, refl, inl, inr}
use Rattle.repo_name.specs.declared.tokens.Token.{Token}
use Rattle.repo_wire.specs.declared.messages.Ask.{Ask}
use Rattle.repo_tree.specs.declared.configs.Config.{Config}
use Rattle.repo_tree.specs.ConfigText.{IsConfigText}
use Rattle.repo_session.specs.Askers.{Asker}
use Rattle.repo_session.specs.Jobs.{known_under, task_under, MayAsk}
use Rattle.repo_session.specs.Order.{Task, opened}
use Rattle.repo_session.specs.Traces.{WasAsked}
use Rattle.repo_session.specs.Versions.{shared}
use Rattle.repo_session.specs.declared.versions.Versions.{Versions}
use Rattle.repo_session.proofs.Faulting.{known_exist}
use Rattle.repo_session.proofs.Holding.{opened_working}
use Rattle.repo_prune.specs.Upgrading.{HasReadVersion, upgrade_rule}
use Rattle.repo_prune.specs.UpgradeStates.{KnowsUpgrade}
use Rattle.repo_prune.specs.declared.upgrades.Upgrade.{Upgrade}

-- the config that was just read
pub read_now : (task : Task) (token : Token) (text : List ℕ) (config : Config) (version : ℕ) → IsConfigText text config → config.version ≡ version → HasReadVersion (opened task token text) version
read_now task token text config version reads is = record { text = text; config = config; read = inl (refl, refl); reads = reads; of_version = is }

-- of two versions it is the first where it isn't the second
first_of : (v : ℕ) → 1 ≤ v → v ≤ 2 → v ≢ 2 → v ≡ 1
first_of zero least most other = absurd (omega (arith, least))
first_of (suc zero) least most other = refl
first_of (suc (suc zero)) least most other = absurd (other refl)
first_of (suc (suc (suc v))) least most other = absurd (omega (arith, most))

not_asked : (task : Task) (token : Token) (text : List ℕ) (t : Token) → WasAsked (opened task token text) (Ask.Upgrade t) → ⊥
not_asked task token text t (inl h) = absurd (cc)
not_asked task token text t (inr (inl h)) = absurd (cc)
not_asked task token text t (inr (inr (inl h))) = absurd (cc)
not_asked task token text t (inr (inr (inr h))) = absurd h

-- an upgrade may be asked for right after a config of version 1
pub upgrade_asked : (j : Upgrade) (who : Asker) (token : Token) (text : List ℕ) (config : Config) → IsConfigText text config → config.version ≤ known_under upgrade_rule who → config.version ≢ 2
    → MayAsk upgrade_rule who (KnowsUpgrade j) (opened (task_under upgrade_rule who) token text) (Ask.Upgrade token)
upgrade_asked j who token text config reads known other =
    let task = task_under upgrade_rule who in
    let least = reads.known.0 in
    let few = known_exist (shared Versions.Both who.versions) in
    let first : config.version ≡ 1 = first_of config.version least (omega (arith, known, few)) other in
    record { work = tt; may = (opened_working task token text config reads known, refl); allowed = (read_now task token text config 1 reads first, not_asked task token text); knows = (token, refl) }
