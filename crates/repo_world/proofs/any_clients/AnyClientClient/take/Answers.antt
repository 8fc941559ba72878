use Rattle.repo_world.proofs.any_clients.AnyClientClient.take.Goals as goal

pub returns-in-Backup-clause-taken : goal.returns-in-Backup-clause-taken
returns-in-Backup-clause-taken c = rw c.in-Backup.is c.take.ensures.taken

pub returns-in-Pieces-clause-taken : goal.returns-in-Pieces-clause-taken
returns-in-Pieces-clause-taken c = rw c.in-Pieces.is c.take-in-Pieces.ensures.taken

pub returns-in-Restore-clause-taken : goal.returns-in-Restore-clause-taken
returns-in-Restore-clause-taken c = rw c.in-Restore.is c.take-in-Restore.ensures.taken

pub returns-in-List-clause-taken : goal.returns-in-List-clause-taken
returns-in-List-clause-taken c = rw c.in-List.is c.take-in-List.ensures.taken

pub returns-in-Forget-clause-taken : goal.returns-in-Forget-clause-taken
returns-in-Forget-clause-taken c = rw c.in-Forget.is c.take-in-Forget.ensures.taken

pub returns-in-Prune-clause-taken : goal.returns-in-Prune-clause-taken
returns-in-Prune-clause-taken c = rw c.in-Prune.is c.take-in-Prune.ensures.taken

pub returns-in-Check-clause-taken : goal.returns-in-Check-clause-taken
returns-in-Check-clause-taken c = rw c.in-Check.is c.take-in-Check.ensures.taken

pub returns-in-Upgrade-clause-taken : goal.returns-in-Upgrade-clause-taken
returns-in-Upgrade-clause-taken c = rw c.in-Upgrade.is c.take-in-Upgrade.ensures.taken

pub returns-in-Upgrade-clause-stays : goal.returns-in-Upgrade-clause-stays
returns-in-Upgrade-clause-stays c = rw c.in-Upgrade.is c.take-in-Upgrade.ensures.stays
