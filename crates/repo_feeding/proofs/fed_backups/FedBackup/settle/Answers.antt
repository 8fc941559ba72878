use Rattle.std.proofs.Common.{◌≢◌, List, Option, None, refl, ap}
use Rattle.repo_session.specs.Askers.{Asker, Holding}
use Rattle.repo_wire.specs.declared.messages.Say.{Say}
use Rattle.repo_session.specs.Feeds.{Fed}
use Rattle.repo_backup.specs.Items.{Place}
use Rattle.repo_feeding.specs.FedStates.{FedJob, feeder, feeder_of, told_to}
use Rattle.repo_feeding.specs.Reasons.{HasReason}
use Rattle.repo_feeding.specs.Sources.{whole_of}
use Rattle.repo_feeding.proofs.Feeding.{ahead_fed, retracted_on}
use Rattle.repo_feeding.proofs.fed_backups.FedBackup.settle.Goals.{in-Done, in_default}
use Rattle.repo_feeding.proofs.fed_backups.FedBackup.settle.Goals as goal

abbrev job_under : Asker → Option (List Fed) → FedJob
job_under who whole = record { who = who; whole = whole }

pub returns-clause-err : goal.returns-clause-err
returns-clause-err g c = λ es ahead. (
    let f = feeder_of g.S.Source.told g.S.Source.name g.S.Source.failed g.S.Source.rewinds c.args.self.now in
    let now = feeder_of g.S.Source.told g.S.Source.name g.S.Source.failed g.S.Source.rewinds c.feed_up.new.self in
    ahead_fed f now c.args.letter es c.feed_up.ensures.goes c.feed_up.ensures.holder (ap (λ (j : FedJob). j.whole) c.feed_up.ensures.job) ahead)

pub returns-then-not-matches-clause-ok : goal.returns-then-not-matches-clause-ok
returns-then-not-matches-clause-ok g c = λ es ahead. (
    let old = c.args.self.now in
    let told = told_to g.S.Source.told g.S.Source.name old in
    let failed = g.S.Source.failed old.source in
    let f = feeder old.backup told old.room failed g.S.Source.rewinds old.given_up in
    let cause : Place → Type 0 = λ p. HasReason failed g.S.Source.rewinds (whole_of told) p None in
    let other : c.args.say.now ≢ Say.Done = elim c.match-matches.branch [
      | in-Done w ↦ (let is = w.matches-is in let not = c.if-not-matches.true in absurd (cc))
      | in_default w ↦ w.in_default.not-Done
    ] in
    let back = retracted_on f c.retract.new.self c.args.letter c.args.say.now es cause other ahead (λ fs awaited. c.retract.ensures.fits other fs awaited) in
    record { fs = back.0; upto = back.1; full = λ hungry. (let none = hungry.1 in let some = c.retract.ensures.ended.1 in absurd (cc)) })
