use Rattle.std.proofs.Common.{[], ap, inl, inr, ◌∙◌}
use Rattle.repo_session.specs.Askers.{Asker}
use Rattle.repo_feeding.specs.FedStates.{feeder_of, fed_job, held_of}
use Rattle.repo_feeding.specs.Sources.{whole_of}
use Rattle.repo_feeding.proofs.Feeding.{ended_fed}
use Rattle.repo_prog.proofs.JobLemmas.{stored, backup_obeyed, backup_none}
use Rattle.repo_prog.proofs.TellLemmas.{came_done, tells_as}
use Rattle.repo_prog.proofs.backup.backup_from.Goals as goal

pub returns-in_default-clause-obeyed : goal.returns-in_default-clause-obeyed
returns-in_default-clause-obeyed g c = backup_none c.args.caller.now c.args.origin.host.now (whole_of (g.S.Source.told c.args.origin.source)) c.args.route.now.retry (g.D.Dial.connections c.args.route.now.dial)

pub returns-in_default-new-clause-obeyed : goal.returns-in_default-new-clause-obeyed
returns-in_default-new-clause-obeyed g c = backup_none c.args.caller.now c.args.origin.host.now (whole_of (g.S.Source.told c.args.origin.source)) c.args.route.now.retry (g.D.Dial.connections c.args.route.now.dial)

pub returns-in-Ok-drive_again-clause-obeyed : goal.returns-in-Ok-drive_again-clause-obeyed
returns-in-Ok-drive_again-clause-obeyed g c =
    let told = g.S.Source.told c.args.origin.source in
    let made = c.in-Ok-new.ensures in
    let job = made.job ∙ ap (λ (w : Asker). fed_job w told) c.in-Ok.ensures in
    backup_obeyed (λ b. feeder_of g.S.Source.told g.S.Source.name g.S.Source.failed g.S.Source.rewinds b) (λ b. b.awaited) _ c.args.caller.now c.args.origin.host.now (whole_of told) c.in-Ok-new.backup (made.fits c.requires.fresh) job c.args.route.now.retry _ c.drive_again.new.client _ _
    (g.D.Dial.connections c.args.route.now.dial) (g.D.Dial.connections c.drive_again.new.dial) c.in-Ok-drive_again.ensures.again

pub returns-in-Ok-drive_again-clause-tells : goal.returns-in-Ok-drive_again-clause-tells
returns-in-Ok-drive_again-clause-tells g c =
    let told = g.S.Source.told c.args.origin.source in
    let made = c.in-Ok-new.ensures in
    let job = made.job ∙ ap (λ (w : Asker). fed_job w told) c.in-Ok.ensures in
    tells_as _ _ _ _ _ (λ s is. stored (λ b. feeder_of g.S.Source.told g.S.Source.name g.S.Source.failed g.S.Source.rewinds b) (λ b. b.awaited) _ c.args.caller.now c.args.origin.host.now (whole_of told) c.in-Ok-new.backup (made.fits c.requires.fresh) job c.args.route.now.retry c.in-Ok-drive_again.field-0
    c.drive_again.new.client _ _ (g.D.Dial.connections c.args.route.now.dial) (g.D.Dial.connections c.drive_again.new.dial) s.0 s.1 s.2 c.in-Ok-drive_again.ensures.again is) _ c.show_ended.ensures.shows

pub returns-clause-obeyed : goal.returns-clause-obeyed
returns-clause-obeyed g c =
    let told = g.S.Source.told c.args.origin.source in
    let made = c.in-Ok-new.ensures in
    let job = made.job ∙ ap (λ (w : Asker). fed_job w told) c.in-Ok.ensures in
    backup_obeyed (λ b. feeder_of g.S.Source.told g.S.Source.name g.S.Source.failed g.S.Source.rewinds b) (λ b. b.awaited) _ c.args.caller.now c.args.origin.host.now (whole_of told) c.in-Ok-new.backup (made.fits c.requires.fresh) job c.args.route.now.retry _ c.drive_again.new.client _ _
    (g.D.Dial.connections c.args.route.now.dial) (g.D.Dial.connections c.drive_again.new.dial) c.in-Err.ensures.again

pub returns-in-Ok-drive_again-clause-whole : goal.returns-in-Ok-drive_again-clause-whole
returns-in-Ok-drive_again-clause-whole g c = λ done. (
    let b = c.drive_again.new.client in
    let fits = c.in-Ok-drive_again.ensures.again.went.fits [] (c.in-Ok-new.ensures.fits c.requires.fresh) in
    let came = came_done _ _ _ _ _ (inl done) c.show_ended.ensures.shows in
    let ended = ended_fed (feeder_of g.S.Source.told g.S.Source.name g.S.Source.failed g.S.Source.rewinds b) b.awaited _ _ fits came.1 in
    (b.source, (b.backup, (held_of (g.S.Source.name b.source) b.found, (b.room, (b.given_up, (_, ended.0, (came.0, ended.1)))))), c.show_ended.ensures.whole done))

pub returns-in-Ok-drive_again-clause-flawed : goal.returns-in-Ok-drive_again-clause-flawed
returns-in-Ok-drive_again-clause-flawed g c = λ done. (
    let b = c.drive_again.new.client in
    let fits = c.in-Ok-drive_again.ensures.again.went.fits [] (c.in-Ok-new.ensures.fits c.requires.fresh) in
    let came = came_done _ _ _ _ _ (inr done) c.show_ended.ensures.shows in
    let ended = ended_fed (feeder_of g.S.Source.told g.S.Source.name g.S.Source.failed g.S.Source.rewinds b) b.awaited _ _ fits came.1 in
    (b.source, (b.backup, (held_of (g.S.Source.name b.source) b.found, (b.room, (b.given_up, (_, ended.0, (came.0, ended.1)))))), c.show_ended.ensures.flawed done))
