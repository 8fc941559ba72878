-- The whole rule by which each job of this repository goes, and its clients: more than a client owes.
use Rattle.repo_session.specs.Clients.{IsObedientBy}
use Rattle.repo_session.specs.Jobs.{Rule}
use Rattle.repo_session.specs.Traces.{Each}
use Rattle.repo_backup.specs.Rules.{backup_rule}
use Rattle.repo_backup.specs.PieceRules.{piece_rule}
use Rattle.repo_restore.specs.Listing.{list_rule}
use Rattle.repo_restore.specs.Restoring.{restore_rule}
use Rattle.repo_prune.specs.Forgetting.{forget_rule}
use Rattle.repo_prune.specs.Pruning.{prune_rule}
use Rattle.repo_prune.specs.Upgrading.{upgrade_rule}
use Rattle.repo_check.specs.Checking.{check_rule}
use Rattle.repo_world.specs.Clients.{Client}
use Rattle.repo_world.specs.World.{World}
use Rattle.repo_world.specs.declared.jobs.Job.{Job}

-- a job's rule
abbrev pub rule_of : Job → Rule
rule_of (Job.Backup entries) = backup_rule entries
rule_of Job.Pieces = piece_rule
rule_of (Job.Restore snapshot) = restore_rule snapshot
rule_of Job.List = list_rule
rule_of (Job.Forget choice) = forget_rule choice
rule_of Job.Prune = prune_rule
rule_of Job.Check = check_rule
rule_of Job.Upgrade = upgrade_rule

-- ---- who goes by it

-- a client goes by its job's whole rule: each of its requests, what is pending, what it gave out, and how it ended
abbrev pub IsRuled : Client → Type 0
IsRuled c = IsObedientBy (rule_of c.job) c.who c.next c.outcome c.trace

-- each client of the world does
abbrev pub AllAreRuled : World → Type 0
AllAreRuled w = Each IsRuled w.clients
