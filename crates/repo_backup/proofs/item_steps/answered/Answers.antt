use Rattle.std.proofs.Common.{[]}
use Rattle.repo_session.specs.Sessions.{who_in}
use Rattle.repo_backup.proofs.ItemRunning.{steps_go}
use Rattle.repo_backup.proofs.item_steps.answered.Goals as goal

pub returns-clause-goes : goal.returns-clause-goes
returns-clause-goes g c honest =
    let s = c.lockstep_fed.ensures.steps honest in
    steps_go (who_in c.args.backup.now.session).instance c.args.backup.now c.lockstep_fed.result c.lockstep_fed.new.backup s.0 (g.S.Shelf.store c.args.shelf.now) (g.S.Shelf.failed c.args.shelf.now)
    (g.S.Shelf.store c.lockstep_fed.new.shelf) (g.S.Shelf.failed c.lockstep_fed.new.shelf) [] s.1 s.2
