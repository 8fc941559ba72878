use Rattle.std.proofs.Common.{◌≡◌, length, false}
use Rattle.std.specs.List.{All}
use Rattle.repo_reach.proofs.looks.no_depths.Given as goal

abbrev pub invariant-loop : goal.invariant-loop
invariant-loop l = (length l.depths.items ≡ l.counter) × All (λ flag. flag ≡ false) l.depths.items
