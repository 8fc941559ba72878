use Rattle.repo_runs.proofs.Outcomes as lemmas
use Rattle.repo_runs.proofs.bag_laws.each_upgrade_holds.Goals as goal

pub returns : goal.returns
returns c = lemmas.each_upgrade_holds
