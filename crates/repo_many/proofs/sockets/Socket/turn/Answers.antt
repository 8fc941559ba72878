use Rattle.std.proofs.Common.{rules, ◌≡◌}
use Rattle.repo_many.specs.declared.progress.Progress.{Progress}
use Rattle.repo_many.proofs.Wiring.{none_lost, serves_lead}
use Rattle.repo_many.proofs.sockets.Socket.turn.Goals as goal

pub returns-then-eq-clause-serves : goal.returns-then-eq-clause-serves
returns-then-eq-clause-serves g c honest =
    let s = c.advance-progress.ensures.serves honest in
    let still : c.advance-progress.result ≡ Progress.Still = search rules in
    (s.0, none_lost c.advance-progress.result s.0 c.stand.result still s.1, rw c.stand.ensures.stream s.2)

pub returns-then-eq-clause-leads : goal.returns-then-eq-clause-leads
returns-then-eq-clause-leads g c honest =
    let s = c.advance-progress.ensures.serves honest in
    serves_lead g.T.Wire.hears g.T.Wire.says _ _ _ _ c.args.turn.place _ s.0 _ _ _ _ _ c.requires s.2

pub returns-clause-serves : goal.returns-clause-serves
returns-clause-serves g c honest = c.advance-progress.ensures.serves honest

pub returns-clause-leads : goal.returns-clause-leads
returns-clause-leads g c honest =
    let s = c.advance-progress.ensures.serves honest in
    serves_lead g.T.Wire.hears g.T.Wire.says _ _ _ _ c.args.turn.place _ s.0 _ _ _ _ _ c.requires s.2
