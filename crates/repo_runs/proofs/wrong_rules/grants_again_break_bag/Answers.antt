use Rattle.repo_runs.proofs.WrongRules as lemmas
use Rattle.repo_runs.proofs.wrong_rules.grants_again_break_bag.Goals as goal

pub returns : goal.returns
returns c = lemmas.grants_break
