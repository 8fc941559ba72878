use Rattle.repo_world.proofs.Taking as lemmas
use Rattle.repo_runs.proofs.bag_laws.crashes_keep_bag.Goals as goal

pub returns : goal.returns
returns c = lemmas.crash_keeps
