use Rattle.repo_runs.proofs.WrongRules as lemmas
use Rattle.repo_runs.proofs.wrong_rules.unkept_break_sound.Goals as goal

pub returns : goal.returns
returns c = lemmas.unkept_break
