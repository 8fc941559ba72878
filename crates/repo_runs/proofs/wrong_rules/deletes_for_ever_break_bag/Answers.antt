use Rattle.repo_runs.proofs.WrongRules as lemmas
use Rattle.repo_runs.proofs.wrong_rules.deletes_for_ever_break_bag.Goals as goal

pub returns : goal.returns
returns c = lemmas.deletes_break
