use Rattle.repo_runs.proofs.WrongRules as lemmas
use Rattle.repo_runs.proofs.wrong_rules.takes_any_break_bag.Goals as goal

pub returns : goal.returns
returns c = lemmas.takes_any_break
