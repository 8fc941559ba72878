use Rattle.std.proofs.Common.{◌≡◌, map, take}
use Rattle.repo_name.specs.Naming.{hex_of}
use Rattle.repo_prog.proofs.choosing.named.Given as goal

abbrev pub invariant-loop-word : goal.invariant-loop-word
invariant-loop-word l = map (λ word. word.now) (take l.word-index l.words) ≡ map hex_of l.names.items
