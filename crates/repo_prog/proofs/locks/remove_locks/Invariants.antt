use Rattle.std.proofs.Common.{◌≡◌, ◌+◌, take}
use Rattle.repo_prog.specs.Asking.{streams, AreRemoved}
use Rattle.repo_prog.proofs.locks.remove_locks.Given as goal

abbrev pub invariant-loop-token : goal.invariant-loop-token
invariant-loop-token g l = record {
  sequence : l.sequence ≡ l.token-index + 2;
  removed : AreRemoved l.caller 2 (take l.token-index l.tokens) (streams (g.E.KnownChannel.ends l.fn.channel) (g.O.Write.contents l.fn.console.output))
      (streams (g.E.KnownChannel.ends l.channel) (g.O.Write.contents l.console.output));
  silent : l.console.faults ≡ l.fn.console.faults;
}
