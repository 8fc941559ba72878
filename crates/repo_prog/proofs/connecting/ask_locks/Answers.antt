use Rattle.std.proofs.Common.{inr}
use Rattle.repo_prog.proofs.connecting.ask_locks.Goals as goal

pub returns-clause-gives : goal.returns-clause-gives
returns-clause-gives g c =
    let known = g.D.Ends.KnownChannel.ends in
    inr (known c.in-Some.channel, known c.ask_about_locks-status.new.channel, (g.D.Dial.connections c.dial.new.self, c.in-Some.ensures, c.hang_up.ensures), c.ask_about_locks-status.ensures.gives)
