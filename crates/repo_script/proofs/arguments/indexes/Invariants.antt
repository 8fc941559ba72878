use Rattle.std.proofs.Common.{◌≡◌, ◌++◌, ℕ, List, map, drop}
use Rattle.std.specs.Borrow.{Bor}
use Rattle.std.specs.Option.{option_map}
use Rattle.repo_script.specs.Numbers.{numbers}
use Rattle.repo_script.proofs.arguments.indexes.Given as goal

-- the numbers so far and those of what is left are those of all
abbrev pub invariant-loop-word : goal.invariant-loop-word
invariant-loop-word l = numbers (map (λ (w : Bor (List ℕ)). w.now) l.left) ≡ option_map (λ ns. l.found.items ++ ns) (numbers (map (λ (w : Bor (List ℕ)). w.now) (drop l.word-index l.left)))
