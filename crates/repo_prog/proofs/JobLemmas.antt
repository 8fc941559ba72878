-- Each job that was brought to its end over one connection after another.
use Rattle.std.proofs.Common.{◌≡◌, [], ℕ, Bool, List, Option, Some, Result, Ok, ap, refl, subst, inl, inr, ◌∙◌}
use Rattle.repo_name.specs.declared.names.Name.{Name}
use Rattle.repo_wire.specs.declared.messages.Request.{Request}
use Rattle.repo_session.specs.declared.emissions.Emission.{Emission}
use Rattle.repo_session.specs.declared.outcomes.Outcome.{Outcome}
use Rattle.repo_session.specs.Feeds.{Fed}
use Rattle.repo_session.specs.Traces.{Trace}
use Rattle.repo_dial.specs.Bringing.{BroughtInto}
use Rattle.repo_session.specs.Clients.{IsObedientBy}
use Rattle.repo_dial.specs.Dialing.{Connections, Driven, DrivesAgain, driven_by}
use Rattle.repo_dial.specs.declared.again.TryError.{TryError}
use Rattle.repo_dial.proofs.BringLemmas.{Stands, brought_into, obeyed_over, obeyed_none}
use Rattle.repo_check.specs.Checking.{check_rule}
use Rattle.repo_feeding.specs.FedObedience.{stands_obeys, stands_tells}
use Rattle.repo_feeding.specs.FedRules.{fed_rule}
use Rattle.repo_feeding.specs.FedStates.{FedJob, Feeder, StandsFed, ended_of, job_of, next_of, token_of}
use Rattle.repo_prune.specs.declared.choices.Choice.{Choice}
use Rattle.repo_prune.specs.Forgetting.{forget_rule}
use Rattle.repo_prune.specs.Pruning.{prune_rule}
use Rattle.repo_prune.specs.Upgrading.{upgrade_rule}
use Rattle.repo_restore.specs.Listing.{list_rule}
use Rattle.repo_restore.specs.Restoring.{restore_rule}
use Rattle.repo_prog.specs.declared.callers.Caller.{Caller}
use Rattle.repo_prog.specs.Jobs.{backup_asker, vault_asker, ListObeyed, RestoreCame, RestoreObeyed, BackupObeyed, ForgetObeyed, PruneObeyed, UpgradeObeyed, CheckObeyed, Stores}

-- ---- a backup, which feeds itself

-- what a backup was made for
abbrev pub backup_job : Caller → List ℕ → Option (List Fed) → FedJob
backup_job caller host whole = record { who = backup_asker caller host; whole = whole }

-- (a backup by what it stands for, and the request whose reply it went ahead of)
abbrev pub backup_driven : {C : Type 0} → (C → Feeder) → (C → Option Request) → Driven C FedJob
backup_driven {C} feeder_of awaited_of = driven_by (λ (j : FedJob). j.who) (λ (c : C). job_of (feeder_of c)) (λ (c : C) es. StandsFed (feeder_of c) (awaited_of c) es)
    (λ (c : C). next_of (feeder_of c).backup (awaited_of c)) (λ (c : C). token_of (feeder_of c).backup (awaited_of c))

-- a backup
module _ {C F : Type 0} (feeder_of : C → Feeder) (awaited_of : C → Option Request) (Called : F → Emission → Bool → F → Type 0) (caller : Caller) (host : List ℕ) (whole : Option (List Fed)) (old : C) (fits : StandsFed (feeder_of old) (awaited_of old) [])
    (job : job_of (feeder_of old) ≡ backup_job caller host whole) where
  obeys : (c : C) → job_of (feeder_of c) ≡ job_of (feeder_of old) → (es : Trace) → StandsFed (feeder_of c) (awaited_of c) es
      → Stands (fed_rule (backup_asker caller host) whole) (backup_asker caller host) (next_of (feeder_of c).backup (awaited_of c)) (ended_of (feeder_of c).backup (awaited_of c)) (token_of (feeder_of c).backup (awaited_of c)) es
  obeys c same es h =
      let P : FedJob → Type 0 = λ j. IsObedientBy (fed_rule j.who j.whole) j.who (next_of (feeder_of c).backup (awaited_of c)) (ended_of (feeder_of c).backup (awaited_of c)) es in
      (subst P (same ∙ job) (stands_obeys (feeder_of c) (awaited_of c) es h), stands_tells (feeder_of c) (awaited_of c) es h)

  pub stored : (retry n : ℕ) (new : C) (from to : F) (coming after : Connections) (name : Name) (blobs bytes : ℕ) → DrivesAgain (backup_driven feeder_of awaited_of) Called retry old from (Ok n) new to coming after
      → ended_of (feeder_of new).backup (awaited_of new) ≡ Some (Outcome.Stored name blobs bytes) → Stores caller host whole name blobs bytes retry coming after
  stored retry n new from to coming after name blobs bytes d is =
      (brought_into (backup_driven feeder_of awaited_of) (λ (c : C). ended_of (feeder_of c).backup (awaited_of c)) (fed_rule (backup_asker caller host) whole) (backup_asker caller host) Called old obeys
      (ap (λ (j : FedJob). j.who.instance) job) fits retry from (Ok n) new to coming after (Ok (Outcome.Stored name blobs bytes)) d (Outcome.Stored name blobs bytes, is, refl)).brought

  pub backup_obeyed : (retry : ℕ) (result : Result ℕ TryError) (new : C) (from to : F) (coming after : Connections) → DrivesAgain (backup_driven feeder_of awaited_of) Called retry old from result new to coming after
      → BackupObeyed caller host whole retry coming after
  backup_obeyed retry result new from to coming after d =
      obeyed_over (backup_driven feeder_of awaited_of) (λ (c : C). ended_of (feeder_of c).backup (awaited_of c)) (fed_rule (backup_asker caller host) whole) (backup_asker caller host) Called old obeys
      (ap (λ (j : FedJob). j.who.instance) job) fits (λ es wants. wants) retry from result new to coming after d

-- ---- a restore into a sink

module _ {F : Type 0} (Called : F → Emission → Bool → F → Type 0) (old : F) (caller : Caller) (name : Name) (retry : ℕ) (coming after : Connections) (new : F) where
  pub came_obeyed : (result : Result Outcome TryError) → RestoreCame Called old caller name result retry coming after new → RestoreObeyed caller name retry coming after
  came_obeyed result (inl h) = inl h.1
  came_obeyed result (inr h) = inr (result, h.brought)

  pub came_ended : (outcome : Outcome) → RestoreCame Called old caller name (Ok outcome) retry coming after new → BroughtInto Called old (restore_rule name) (vault_asker caller) (Ok outcome) retry coming after new
  came_ended outcome (inl h) = let e = h.0 in absurd (cc)
  came_ended outcome (inr h) = h

-- ---- no connection was asked for

pub list_none : (caller : Caller) (retry : ℕ) (coming : Connections) → ListObeyed caller retry coming coming
list_none caller retry coming = obeyed_none list_rule (vault_asker caller) retry coming

pub restore_none : (caller : Caller) (name : Name) (retry : ℕ) (coming : Connections) → RestoreObeyed caller name retry coming coming
restore_none caller name retry coming = obeyed_none (restore_rule name) (vault_asker caller) retry coming

pub backup_none : (caller : Caller) (host : List ℕ) (whole : Option (List Fed)) (retry : ℕ) (coming : Connections) → BackupObeyed caller host whole retry coming coming
backup_none caller host whole retry coming = obeyed_none (fed_rule (backup_asker caller host) whole) (backup_asker caller host) retry coming

pub forget_none : (caller : Caller) (choice : Choice) (retry : ℕ) (coming : Connections) → ForgetObeyed caller choice retry coming coming
forget_none caller choice retry coming = obeyed_none (forget_rule choice) (vault_asker caller) retry coming

pub prune_none : (caller : Caller) (retry : ℕ) (coming : Connections) → PruneObeyed caller retry coming coming
prune_none caller retry coming = obeyed_none prune_rule (vault_asker caller) retry coming

pub upgrade_none : (caller : Caller) (retry : ℕ) (coming : Connections) → UpgradeObeyed caller retry coming coming
upgrade_none caller retry coming = obeyed_none upgrade_rule (vault_asker caller) retry coming

pub check_none : (caller : Caller) (retry : ℕ) (coming : Connections) → CheckObeyed caller retry coming coming
check_none caller retry coming = obeyed_none check_rule (vault_asker caller) retry coming
