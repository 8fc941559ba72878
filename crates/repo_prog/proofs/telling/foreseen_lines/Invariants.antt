use Rattle.std.proofs.Common.{◌≡◌, take, string_bytes}
use Rattle.repo_prog.specs.Tellings.{foreseen_lines}
use Rattle.repo_prog.proofs.telling.foreseen_lines.Given as goal

abbrev pub invariant-loop-name : goal.invariant-loop-name
invariant-loop-name l = string_bytes l.lines ≡ foreseen_lines (take l.name-index l.names)
