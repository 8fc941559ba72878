use Rattle.repo_locks.proofs.TokenMaps.{first_exclusive}
use Rattle.repo_locks.proofs.searches.first_is_exclusive.Goals as goal

pub returns-in-Some : goal.returns-in-Some
returns-in-Some c = first_exclusive c.args.rows.now.entries (c.in-Some.field-0-0.now, c.in-Some.row.now) c.requires c.in-Some.ensures.first
