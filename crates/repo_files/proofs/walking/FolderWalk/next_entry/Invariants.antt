use Rattle.std.proofs.Common.{◌≡◌}
use Rattle.repo_files.proofs.walking.FolderWalk.next_entry.Given as goal

abbrev pub invariant-loop : goal.invariant-loop
invariant-loop g l = l.self.failed ≡ l.fn.self.failed
