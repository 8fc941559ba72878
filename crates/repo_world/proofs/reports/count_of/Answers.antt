use Rattle.std.proofs.Common.{rules}
use Rattle.repo_world.proofs.reports.count_of.Goals as goal

pub returns-clause-count : goal.returns-clause-count
returns-clause-count g c h = record { names = c.in_ok-names.names; ordered = search rules; just = (c.in_ok-names.ensures.law h).0; counted = c.len.ensures.len }
