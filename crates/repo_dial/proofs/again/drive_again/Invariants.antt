use Rattle.std.proofs.Common.{◌≡◌, ◌<◌, ◌≤◌, ◌↔◌, Bool, true}
use Rattle.std.specs.Fn.{CalledAt}
use Rattle.repo_dial.specs.Dialing.{driven_by}
use Rattle.repo_dial.proofs.DialLemmas.{Tried}
use Rattle.repo_dial.proofs.again.drive_again.Given as goal

abbrev pub invariant-loop-turn : goal.invariant-loop-turn
invariant-loop-turn g l = (asks : Bool) × ((asks ≡ true) ↔ (0 < l.retry)) × (l.turn ≤ l.retry)
    × Tried (driven_by g.C.Client.who g.C.Client.job g.C.Client.fits g.C.Client.next g.C.Client.token_of) (CalledAt g.F.FnMut) asks l.fn.client l.fn.sink l.result l.client l.sink l.known (g.D.Dial.connections l.fn.dial) (g.D.Dial.connections l.dial) l.turn
