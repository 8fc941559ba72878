use Rattle.std.proofs.Common.{drop}
use Rattle.repo_name.specs.NameMaps.{found}
use Rattle.repo_check.proofs.Giving.{Gathered}
use Rattle.repo_check.proofs.reaching.set_given.Given as goal

abbrev pub invariant-loop-visit : goal.invariant-loop-visit
invariant-loop-visit l = Gathered l.gift (found l.known.kept) l.visits l.set (drop l.visit-index l.visits)
