use Rattle.repo_world.proofs.Taking as lemmas
use Rattle.repo_runs.proofs.bag_laws.replies_keep_bag.Goals as goal

pub returns : goal.returns
returns c = λ w v k reply bag m t. lemmas.take_keeps w bag k reply v m t
