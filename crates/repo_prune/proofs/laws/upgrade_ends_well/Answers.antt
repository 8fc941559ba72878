use Rattle.repo_prune.proofs.UpgradeRuns as lemmas
use Rattle.repo_prune.proofs.laws.upgrade_ends_well.Goals as goal

pub returns : goal.returns
returns c = lemmas.upgrade_ends
