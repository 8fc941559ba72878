use Rattle.std.proofs.Common.{◌∙◌, sym, ap}
use Rattle.repo_world.specs.AnyClients.{any_next}
use Rattle.repo_world.proofs.any_clients.AnyClientClient.pending.Goals as goal

pub returns-in-Backup-clause-frame : goal.returns-in-Backup-clause-frame
returns-in-Backup-clause-frame c = λ request h. c.pending.ensures.frame request (sym (ap any_next c.in-Backup.is) ∙ h)

pub returns-in-Pieces-clause-frame : goal.returns-in-Pieces-clause-frame
returns-in-Pieces-clause-frame c = λ request h. c.pending-in-Pieces.ensures.frame request (sym (ap any_next c.in-Pieces.is) ∙ h)

pub returns-in-Restore-clause-frame : goal.returns-in-Restore-clause-frame
returns-in-Restore-clause-frame c = λ request h. c.pending-in-Restore.ensures.frame request (sym (ap any_next c.in-Restore.is) ∙ h)

pub returns-in-List-clause-frame : goal.returns-in-List-clause-frame
returns-in-List-clause-frame c = λ request h. c.pending-in-List.ensures.frame request (sym (ap any_next c.in-List.is) ∙ h)

pub returns-in-Forget-clause-frame : goal.returns-in-Forget-clause-frame
returns-in-Forget-clause-frame c = λ request h. c.pending-in-Forget.ensures.frame request (sym (ap any_next c.in-Forget.is) ∙ h)

pub returns-in-Prune-clause-frame : goal.returns-in-Prune-clause-frame
returns-in-Prune-clause-frame c = λ request h. c.pending-in-Prune.ensures.frame request (sym (ap any_next c.in-Prune.is) ∙ h)

pub returns-in-Check-clause-frame : goal.returns-in-Check-clause-frame
returns-in-Check-clause-frame c = λ request h. c.pending-in-Check.ensures.frame request (sym (ap any_next c.in-Check.is) ∙ h)

pub returns-in-Upgrade-clause-frame : goal.returns-in-Upgrade-clause-frame
returns-in-Upgrade-clause-frame c = λ request h. c.pending-in-Upgrade.ensures.frame request (sym (ap any_next c.in-Upgrade.is) ∙ h)
