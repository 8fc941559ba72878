use Rattle.std.proofs.Common.{◌≡◌, take, string_bytes}
use Rattle.repo_prog.specs.Tellings.{lock_lines}
use Rattle.repo_prog.proofs.telling.lock_lines.Given as goal

abbrev pub invariant-loop-row : goal.invariant-loop-row
invariant-loop-row l = string_bytes l.lines ≡ lock_lines (take l.row-index l.rows)
