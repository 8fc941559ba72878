use Rattle.std.proofs.Common.{take}
use Rattle.repo_check.specs.Rounds.{Match}
use Rattle.repo_check.specs.Walks.{ContentFault, known_of}
use Rattle.repo_check.proofs.verdicts.content_found.Given as goal

abbrev pub invariant-loop-name : goal.invariant-loop-name
invariant-loop-name l = Match (ContentFault (known_of l.known).facts) (take l.name-index l.names) l.found.items
