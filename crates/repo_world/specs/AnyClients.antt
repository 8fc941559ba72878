-- A client of any job, as its job's own client stands.
use Rattle.std.specs.Prelude.{◌≡◌, [], Bool, List, Option, None}
use Rattle.repo_wire.specs.declared.messages.Request.{Request}
use Rattle.repo_name.specs.declared.tokens.Token.{Token}
use Rattle.repo_session.specs.declared.emissions.Emission.{Emission}
use Rattle.repo_session.specs.declared.outcomes.Outcome.{Outcome}
use Rattle.repo_session.specs.Clients.{IsObedientBy, TellsToken}
use Rattle.repo_session.specs.Obedience.{session_obeys}
use Rattle.repo_session.specs.Tickets.{session_tells}
use Rattle.repo_session.specs.Sessions.{Given, who_in, next_in, ended_in, given_by, token_in}
use Rattle.repo_session.specs.Traces.{Trace}
use Rattle.repo_backup.specs.Backups as backups
use Rattle.repo_backup.specs.Backups.{FitsBackup}
use Rattle.repo_backup.specs.PieceBackups.{FitsPieces}
use Rattle.repo_backup.specs.PieceObedience.{pieces_obey, pieces_tell}
use Rattle.repo_restore.specs.ListStates.{FitsList, IsFreshList, KnowsList}
use Rattle.repo_restore.specs.RestoreStates.{FitsRestore, IsNewRestore, KnowsRestore}
use Rattle.repo_prune.specs.ForgetStates.{FitsForget, IsFreshForget, KnowsForget}
use Rattle.repo_prune.specs.PruneStates.{FitsPrune, IsFreshPrune, KnowsPrune}
use Rattle.repo_prune.specs.UpgradeStates.{FitsUpgrade, IsFreshUpgrade, KnowsUpgrade, nothing_in, rule_of_upgrade}
use Rattle.repo_check.specs.CheckStates.{FitsCheck, IsFreshCheck, KnowsCheck}
use Rattle.repo_backup.specs.Rules.{backup_rule}
use Rattle.repo_restore.specs.Listing.{list_rule}
use Rattle.repo_restore.specs.Restoring.{restore_rule}
use Rattle.repo_restore.specs.declared.listings.SnapshotList.{SnapshotList}
use Rattle.repo_restore.specs.declared.restores.Restore.{Restore}
use Rattle.repo_prune.specs.Forgetting.{forget_rule}
use Rattle.repo_prune.specs.Pruning.{prune_rule}
use Rattle.repo_prune.specs.declared.forgets.Forget.{Forget}
use Rattle.repo_prune.specs.declared.prunes.Prune.{Prune}
use Rattle.repo_check.specs.Checking.{check_rule}
use Rattle.repo_check.specs.declared.checks.Check.{Check}
use Rattle.repo_world.specs.Clients.{Client}
use Rattle.repo_world.specs.Rules.{rule_of}
use Rattle.repo_world.specs.declared.any_clients.AnyClient.{AnyClient}
use Rattle.repo_world.specs.declared.jobs.Job.{Job}

-- who asks, and the job
abbrev pub given_to : AnyClient → Given Job
given_to (AnyClient.Backup c) = record { who = who_in c; handed = Job.Backup (backups.handed_to c.job) }
given_to (AnyClient.Pieces c) = record { who = who_in c.session; handed = Job.Pieces }
given_to (AnyClient.Restore c) = record { who = who_in c; handed = Job.Restore c.job.snapshot }
given_to (AnyClient.List c) = record { who = who_in c; handed = Job.List }
given_to (AnyClient.Forget c) = record { who = who_in c; handed = Job.Forget c.job.choice }
given_to (AnyClient.Prune c) = record { who = who_in c; handed = Job.Prune }
given_to (AnyClient.Check c) = record { who = who_in c; handed = Job.Check }
given_to (AnyClient.Upgrade c) = record { who = who_in c; handed = Job.Upgrade }

-- it stands where the trace leaves it
abbrev pub FitsAny : AnyClient → Trace → Type 0
FitsAny (AnyClient.Backup c) es = FitsBackup c es
FitsAny (AnyClient.Pieces c) es = FitsPieces c es
FitsAny (AnyClient.Restore c) es = FitsRestore c es
FitsAny (AnyClient.List c) es = FitsList c es
FitsAny (AnyClient.Forget c) es = FitsForget c es
FitsAny (AnyClient.Prune c) es = FitsPrune c es
FitsAny (AnyClient.Check c) es = FitsCheck c es
FitsAny (AnyClient.Upgrade c) es = FitsUpgrade c es

-- what is pending
abbrev pub any_next : AnyClient → Option Request
any_next (AnyClient.Backup c) = next_in c
any_next (AnyClient.Pieces c) = next_in c.session
any_next (AnyClient.Restore c) = next_in c
any_next (AnyClient.List c) = next_in c
any_next (AnyClient.Forget c) = next_in c
any_next (AnyClient.Prune c) = next_in c
any_next (AnyClient.Check c) = next_in c
any_next (AnyClient.Upgrade c) = next_in c

-- how it ended
abbrev pub any_ended : AnyClient → Option Outcome
any_ended (AnyClient.Backup c) = ended_in c
any_ended (AnyClient.Pieces c) = ended_in c.session
any_ended (AnyClient.Restore c) = ended_in c
any_ended (AnyClient.List c) = ended_in c
any_ended (AnyClient.Forget c) = ended_in c
any_ended (AnyClient.Prune c) = ended_in c
any_ended (AnyClient.Check c) = ended_in c
any_ended (AnyClient.Upgrade c) = ended_in c

-- it waits: nothing is pending, and it hasn't ended
abbrev pub AnyWaits : AnyClient → Type 0
AnyWaits c = (any_next c ≡ None) × (any_ended c ≡ None)

-- what it gave out last
abbrev pub any_given : AnyClient → List Emission
any_given (AnyClient.Backup c) = given_by (λ j. []) c
any_given (AnyClient.Pieces c) = []
any_given (AnyClient.Restore c) = given_by (λ j. j.given.items) c
any_given (AnyClient.List c) = given_by (λ j. []) c
any_given (AnyClient.Forget c) = given_by (λ j. []) c
any_given (AnyClient.Prune c) = given_by (λ j. []) c
any_given (AnyClient.Check c) = given_by (λ j. []) c
any_given (AnyClient.Upgrade c) = given_by (λ j. []) c

-- the token that it tells
abbrev pub any_token : AnyClient → Option Token
any_token (AnyClient.Backup c) = token_in c
any_token (AnyClient.Pieces c) = token_in c.session
any_token (AnyClient.Restore c) = token_in c
any_token (AnyClient.List c) = token_in c
any_token (AnyClient.Forget c) = token_in c
any_token (AnyClient.Prune c) = token_in c
any_token (AnyClient.Check c) = token_in c
any_token (AnyClient.Upgrade c) = token_in c

-- it goes by its job's rule
pub any_obeys : (c : AnyClient) (es : Trace) → FitsAny c es → IsObedientBy (rule_of (given_to c).handed) (given_to c).who (any_next c) (any_ended c) es
any_obeys (AnyClient.Backup c) es f = session_obeys backups.handed_to backup_rule backups.IsFreshBackup backups.Knows (λ j fs. ⊥) c es f
any_obeys (AnyClient.Pieces c) es f = pieces_obey c es f
any_obeys (AnyClient.Restore c) es f = session_obeys (λ (j : Restore). j.snapshot) restore_rule IsNewRestore KnowsRestore (λ j fs. ⊥) c es f
any_obeys (AnyClient.List c) es f = session_obeys (λ (j : SnapshotList). tt {0}) (λ h. list_rule) IsFreshList KnowsList (λ j fs. ⊥) c es f
any_obeys (AnyClient.Forget c) es f = session_obeys (λ (j : Forget). j.choice) forget_rule IsFreshForget KnowsForget (λ j fs. ⊥) c es f
any_obeys (AnyClient.Prune c) es f = session_obeys (λ (j : Prune). tt {0}) (λ h. prune_rule) IsFreshPrune KnowsPrune (λ j fs. ⊥) c es f
any_obeys (AnyClient.Check c) es f = session_obeys (λ (j : Check). tt {0}) (λ h. check_rule) IsFreshCheck KnowsCheck (λ j fs. ⊥) c es f
any_obeys (AnyClient.Upgrade c) es f = session_obeys nothing_in rule_of_upgrade IsFreshUpgrade KnowsUpgrade (λ j fs. ⊥) c es f

pub any_tells : (c : AnyClient) (es : Trace) → FitsAny c es → TellsToken (any_token c) (any_ended c) es
any_tells (AnyClient.Backup c) es f = session_tells backups.handed_to backup_rule backups.IsFreshBackup backups.Knows (λ j fs. ⊥) c es f
any_tells (AnyClient.Pieces c) es f = pieces_tell c es f
any_tells (AnyClient.Restore c) es f = session_tells (λ (j : Restore). j.snapshot) restore_rule IsNewRestore KnowsRestore (λ j fs. ⊥) c es f
any_tells (AnyClient.List c) es f = session_tells (λ (j : SnapshotList). tt {0}) (λ h. list_rule) IsFreshList KnowsList (λ j fs. ⊥) c es f
any_tells (AnyClient.Forget c) es f = session_tells (λ (j : Forget). j.choice) forget_rule IsFreshForget KnowsForget (λ j fs. ⊥) c es f
any_tells (AnyClient.Prune c) es f = session_tells (λ (j : Prune). tt {0}) (λ h. prune_rule) IsFreshPrune KnowsPrune (λ j fs. ⊥) c es f
any_tells (AnyClient.Check c) es f = session_tells (λ (j : Check). tt {0}) (λ h. check_rule) IsFreshCheck KnowsCheck (λ j fs. ⊥) c es f
any_tells (AnyClient.Upgrade c) es f = session_tells nothing_in rule_of_upgrade IsFreshUpgrade KnowsUpgrade (λ j fs. ⊥) c es f

-- what a client of the world is that stands so, after these exchanges
abbrev pub client_of : AnyClient → Trace → Bool → Client
client_of c es crashed = record { job = (given_to c).handed; who = (given_to c).who; trace = es; next = any_next c; outcome = any_ended c; crashed = crashed }
