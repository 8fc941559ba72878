use Rattle.std.proofs.Common.{◌≡◌, Some, take}
use Rattle.repo_session.specs.Talks.{Talk, TookEach}
use Rattle.repo_session.specs.Traces.{Trace}
use Rattle.repo_session.specs.declared.outcomes.Outcome.{Outcome}
use Rattle.repo_session.proofs.replies.take_each.Given as goal

abbrev pub invariant-loop-before : goal.invariant-loop-before
invariant-loop-before g l = record {
  took : (talk : Talk) × TookEach (g.C.Client.who (g.C.Client.job l.fn.client)).instance g.C.Client.fits g.C.Client.next l.fn.client (take l.before l.replies) talk l.client;
  stays : (es : Trace) (outcome : Outcome) → g.C.Client.fits l.fn.client es → g.C.Client.ended l.fn.client ≡ Some outcome → g.C.Client.ended l.client ≡ Some outcome;
  job : g.C.Client.job l.client ≡ g.C.Client.job l.fn.client;
}
