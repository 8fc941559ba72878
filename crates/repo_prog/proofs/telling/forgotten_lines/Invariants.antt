use Rattle.std.proofs.Common.{◌≡◌, take, string_bytes}
use Rattle.repo_prog.specs.Tellings.{forgotten_lines}
use Rattle.repo_prog.proofs.telling.forgotten_lines.Given as goal

abbrev pub invariant-loop-name : goal.invariant-loop-name
invariant-loop-name l = string_bytes l.lines ≡ forgotten_lines (take l.name-index l.names)
