-- What the commands do that bring a job to its end, over connections that are made one after another.
use Rattle.std.specs.Prelude.{◌≡◌, ◌⊎◌, ℕ, Bool, List, Option, Result, Err, codes}
use Rattle.repo_name.specs.declared.names.Name.{Name}
use Rattle.repo_tree.specs.declared.snapshots.Snapshot.{Snapshot}
use Rattle.repo_session.specs.declared.driving.DriveError.{DriveError}
use Rattle.repo_session.specs.declared.emissions.Emission.{Emission}
use Rattle.repo_session.specs.declared.outcomes.Outcome.{Outcome}
use Rattle.repo_session.specs.Askers.{Asker, asker}
use Rattle.repo_session.specs.declared.versions.Versions.{Versions}
use Rattle.repo_dial.specs.Bringing.{BroughtInto, Ended, Obeyed}
use Rattle.repo_dial.specs.Dialing.{Connections}
use Rattle.repo_dial.specs.declared.again.TryError.{TryError}
use Rattle.repo_session.specs.Feeds.{Fed}
use Rattle.repo_feeding.specs.FedRules.{fed_rule}
use Rattle.repo_check.specs.Checking.{check_rule}
use Rattle.repo_prune.specs.declared.choices.Choice.{Choice}
use Rattle.repo_prune.specs.Forgetting.{WouldForget, forget_rule}
use Rattle.repo_prune.specs.Pruning.{prune_rule}
use Rattle.repo_prune.specs.Upgrading.{upgrade_rule}
use Rattle.repo_restore.specs.Listing.{list_rule}
use Rattle.repo_restore.specs.Restoring.{restore_rule}
use Rattle.repo_prog.specs.declared.callers.Caller.{Caller}

-- the name of the machine where a command isn't told another
abbrev pub vault_host : List ℕ
vault_host = codes "vault"

-- who lists, restores, forgets, prunes, upgrades or checks
abbrev pub vault_asker : Caller → Asker
vault_asker caller = asker caller.instance vault_host caller.time Versions.Both

-- who backs up
abbrev pub backup_asker : Caller → List ℕ → Asker
backup_asker caller host = asker caller.instance host caller.time Versions.Both

-- the snapshots were listed
abbrev pub ListsSnapshots : Caller → List (Name × Snapshot) → ℕ → Connections → Connections → Type 0
ListsSnapshots caller rows retry coming after = Ended list_rule (vault_asker caller) (Outcome.Listed rows) retry coming after

-- the snapshot was restored
abbrev pub RestoresSnapshot : Caller → Name → ℕ → ℕ → Connections → Connections → Type 0
RestoresSnapshot caller name entries retry coming after = Ended (restore_rule name) (vault_asker caller) (Outcome.Complete entries) retry coming after

-- the chosen snapshots were forgotten: those of these names
abbrev pub Forgets : Caller → Choice → List Name → ℕ → Connections → Connections → Type 0
Forgets caller choice names retry coming after = Ended (forget_rule choice) (vault_asker caller) (Outcome.Forgotten names) retry coming after

-- the snapshots were listed, and of them the chosen ones would be forgotten: those of these names
abbrev pub Foresees : Caller → Choice → List Name → ℕ → Connections → Connections → Type 0
Foresees caller choice names retry coming after = (rows : List (Name × Snapshot)) × ListsSnapshots caller rows retry coming after × WouldForget choice rows names

-- what no snapshot needs was removed: so many packs were deleted, and so many bytes of blobs put
abbrev pub Prunes : Caller → ℕ → ℕ → ℕ → Connections → Connections → Type 0
Prunes caller packs bytes retry coming after = Ended prune_rule (vault_asker caller) (Outcome.Pruned packs bytes) retry coming after

-- the store's config is of version 2
abbrev pub Upgrades : Caller → ℕ → Connections → Connections → Type 0
Upgrades caller retry coming after = Ended upgrade_rule (vault_asker caller) Outcome.Upgraded retry coming after

-- the store was checked, with this outcome: it is clean, or things are at fault
abbrev pub Checks : Caller → Outcome → ℕ → Connections → Connections → Type 0
Checks caller outcome retry coming after = Ended check_rule (vault_asker caller) outcome retry coming after

-- what a source gave was stored under this name: all that it was made to give, where that is known
abbrev pub Stores : Caller → List ℕ → Option (List Fed) → Name → ℕ → ℕ → ℕ → Connections → Connections → Type 0
Stores caller host whole name blobs bytes retry coming after = Ended (fed_rule (backup_asker caller host) whole) (backup_asker caller host) (Outcome.Stored name blobs bytes) retry coming after

-- ---- by job: however it ended, its rules were met

abbrev pub ListObeyed : Caller → ℕ → Connections → Connections → Type 0
ListObeyed caller retry coming after = Obeyed list_rule (vault_asker caller) retry coming after

abbrev pub RestoreObeyed : Caller → Name → ℕ → Connections → Connections → Type 0
RestoreObeyed caller name retry coming after = Obeyed (restore_rule name) (vault_asker caller) retry coming after

-- what a restore into a sink came to: there was no memory to begin it, and no connection was asked for; or it was brought on, and came to this
abbrev pub RestoreCame : {F : Type 0} → (F → Emission → Bool → F → Type 0) → F → Caller → Name → Result Outcome TryError → ℕ → Connections → Connections → F → Type 0
RestoreCame Called old caller name result retry coming after new =
    ((result ≡ Err (TryError.Drive DriveError.Memory)) × (after ≡ coming) × (new ≡ old)) ⊎ BroughtInto Called old (restore_rule name) (vault_asker caller) result retry coming after new

abbrev pub ForgetObeyed : Caller → Choice → ℕ → Connections → Connections → Type 0
ForgetObeyed caller choice retry coming after = Obeyed (forget_rule choice) (vault_asker caller) retry coming after

abbrev pub PruneObeyed : Caller → ℕ → Connections → Connections → Type 0
PruneObeyed caller retry coming after = Obeyed prune_rule (vault_asker caller) retry coming after

abbrev pub UpgradeObeyed : Caller → ℕ → Connections → Connections → Type 0
UpgradeObeyed caller retry coming after = Obeyed upgrade_rule (vault_asker caller) retry coming after

abbrev pub CheckObeyed : Caller → ℕ → Connections → Connections → Type 0
CheckObeyed caller retry coming after = Obeyed check_rule (vault_asker caller) retry coming after

abbrev pub BackupObeyed : Caller → List ℕ → Option (List Fed) → ℕ → Connections → Connections → Type 0
BackupObeyed caller host whole retry coming after = Obeyed (fed_rule (backup_asker caller host) whole) (backup_asker caller host) retry coming after
