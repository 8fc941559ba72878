use Rattle.std.proofs.Common.{◌≡◌, string_bytes}
use Rattle.std.specs.List.{flat_map}
use Rattle.repo_prog.specs.Printing.{printed_char}
use Rattle.repo_prog.proofs.printing.printed.Given as goal

abbrev pub invariant-loop-c : goal.invariant-loop-c
invariant-loop-c l = string_bytes l.shown ≡ flat_map printed_char l.yielded
