use Rattle.repo_runs.proofs.Outcomes as lemmas
use Rattle.repo_runs.proofs.laws.each_report_holds.Goals as goal

pub returns : goal.returns
returns c = lemmas.each_report_holds
