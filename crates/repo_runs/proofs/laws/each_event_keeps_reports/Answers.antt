use Rattle.repo_runs.proofs.Outcomes as lemmas
use Rattle.repo_runs.proofs.laws.each_event_keeps_reports.Goals as goal

pub returns : goal.returns
returns c = lemmas.keeps_reports
