use Rattle.std.proofs.Common.{take}
use Rattle.repo_store.specs.Kept.{PageJoins}
use Rattle.repo_store.proofs.pages.join.Given as goal

abbrev pub invariant-loop-name : goal.invariant-loop-name
invariant-loop-name l = PageJoins (take l.name-index l.page) l.fn.names l.names
