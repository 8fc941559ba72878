use Rattle.repo_prune.proofs.UpgradeRuns as lemmas
use Rattle.repo_prune.proofs.laws.upgrade_changes_no_object.Goals as goal

pub returns : goal.returns
returns c = lemmas.upgrade_changes
