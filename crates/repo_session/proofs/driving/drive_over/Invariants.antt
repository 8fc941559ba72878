use Rattle.std.proofs.Common.{◌≡◌, ◌≤◌, ◌^◌, ℕ, List}
use Rattle.std.specs.Fn.{CalledAt}
use Rattle.repo_wire.specs.declared.messages.Reply.{Reply}
use Rattle.repo_session.specs.Connections.{Heard}
use Rattle.repo_session.specs.Sinks.{AreTaken}
use Rattle.repo_session.specs.Talks.{given_in}
use Rattle.repo_session.proofs.Awaiting.{Gone}
use Rattle.repo_session.proofs.driving.drive_over.Given as goal

abbrev pub invariant-loop-turn : goal.invariant-loop-turn
invariant-loop-turn g l = record {
  gone : (bytes : List ℕ) (told : List Reply) → Heard bytes told l.fn.connection
      → (gone : Gone g.L.Channel.hears g.L.Channel.says bytes told (g.C.Client.who (g.C.Client.job l.fn.client)).instance g.C.Client.fits g.C.Client.next l.fn.client l.fn.channel l.client l.connection l.channel l.turn)
      × AreTaken (CalledAt g.F.FnMut) l.fn.sink (given_in gone.talk) l.sink;
  few : l.turn ≤ 2 ^ 32;
  sink : goal.F-IsAlwaysCallable g l.sink;
  job : g.C.Client.job l.client ≡ g.C.Client.job l.fn.client;
}
