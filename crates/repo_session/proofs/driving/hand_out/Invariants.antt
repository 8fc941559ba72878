use Rattle.std.proofs.Common.{take}
use Rattle.std.specs.Fn.{CalledAt}
use Rattle.repo_session.specs.Sinks.{AreTaken}
use Rattle.repo_session.proofs.driving.hand_out.Given as goal

abbrev pub invariant-loop-emission : goal.invariant-loop-emission
invariant-loop-emission g l = record {
  sink : goal.F-IsAlwaysCallable g l.sink;
  taken : AreTaken (CalledAt g.F.FnMut) l.fn.sink (take l.emission-index l.emitted) l.sink;
}
