use Rattle.std.proofs.Common.{◌≡◌}
use Rattle.repo_dial.proofs.dialing.Address.reach.Given as goal

abbrev pub invariant-loop-tried : goal.invariant-loop-tried
invariant-loop-tried g l = (l.self.address.now ≡ l.fn.self.address.now) × (l.self.idle ≡ l.fn.self.idle)
