use Rattle.std.proofs.Common.{◌≡◌, length}
use Rattle.repo_check.specs.inner.Placing.{HasMaps}
use Rattle.repo_check.proofs.queues.make_room.Given as goal

abbrev pub invariant-loop : goal.invariant-loop
invariant-loop l = HasMaps l.fn.index.items l.index.items × (length l.index.items ≡ l.counter)
