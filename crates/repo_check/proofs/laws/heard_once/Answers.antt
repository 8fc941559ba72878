use Rattle.repo_check.proofs.Again as lemmas
use Rattle.repo_check.proofs.laws.heard_once.Goals as goal

pub returns : goal.returns
returns c = lemmas.heard_once
