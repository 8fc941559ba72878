use Rattle.std.proofs.Common.{rules}
use Rattle.repo_locks.proofs.TokenMaps.{put_under}
use Rattle.repo_locks.proofs.searches.put_row.Goals as goal

pub returns-clause-ok : goal.returns-clause-ok
returns-clause-ok c = (put_under c.args.rows.now.entries c.insert.new.self.entries c.args.row c.requires.under c.requires.free (search rules)).0

pub returns-clause-under : goal.returns-clause-under
returns-clause-under c = (put_under c.args.rows.now.entries c.insert.new.self.entries c.args.row c.requires.under c.requires.free (search rules)).1
