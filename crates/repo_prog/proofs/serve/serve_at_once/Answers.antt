use Rattle.repo_prog.proofs.ServedLemmas.{hosted_kept, hosted_ran}
use Rattle.repo_prog.proofs.serve.serve_at_once.Goals as goal

pub returns-in-Ok-Well-clause-hosted : goal.returns-in-Ok-Well-clause-hosted
returns-in-Ok-Well-clause-hosted g c honest = c.serve_many.ensures.connected honest

pub returns-in-Ok-Well-clause-kept : goal.returns-in-Ok-Well-clause-kept
returns-in-Ok-Well-clause-kept g c honest = let h = c.serve_many.ensures.hosted honest in hosted_kept _ _ h.0 _ _ h.1

pub returns-in-Ok-Well-clause-ran : goal.returns-in-Ok-Well-clause-ran
returns-in-Ok-Well-clause-ran g c honest = let h = c.serve_many.ensures.hosted honest in hosted_ran _ _ h.0 _ _ h.1

pub returns-in-Ok-WithErrors-clause-hosted : goal.returns-in-Ok-WithErrors-clause-hosted
returns-in-Ok-WithErrors-clause-hosted g c honest = c.serve_many.ensures.connected honest

pub returns-in-Ok-WithErrors-clause-kept : goal.returns-in-Ok-WithErrors-clause-kept
returns-in-Ok-WithErrors-clause-kept g c honest = let h = c.serve_many.ensures.hosted honest in hosted_kept _ _ h.0 _ _ h.1

pub returns-in-Ok-WithErrors-clause-ran : goal.returns-in-Ok-WithErrors-clause-ran
returns-in-Ok-WithErrors-clause-ran g c honest = let h = c.serve_many.ensures.hosted honest in hosted_ran _ _ h.0 _ _ h.1

pub returns-in-Err-clause-hosted : goal.returns-in-Err-clause-hosted
returns-in-Err-clause-hosted g c honest = c.serve_many.ensures.connected honest

pub returns-in-Err-clause-kept : goal.returns-in-Err-clause-kept
returns-in-Err-clause-kept g c honest = let h = c.serve_many.ensures.hosted honest in hosted_kept _ _ h.0 _ _ h.1

pub returns-in-Err-clause-ran : goal.returns-in-Err-clause-ran
returns-in-Err-clause-ran g c honest = let h = c.serve_many.ensures.hosted honest in hosted_ran _ _ h.0 _ _ h.1
