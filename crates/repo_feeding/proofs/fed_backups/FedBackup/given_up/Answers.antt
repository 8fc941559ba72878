use Rattle.std.specs.Prelude.{IfSome}
use Rattle.std.proofs.Common.{rules, sym, subst, ◌∙◌}
use Rattle.repo_session.specs.declared.outcomes.End.{End}
use Rattle.repo_session.specs.declared.outcomes.Outcome.{Outcome}
use Rattle.repo_session.specs.Traces.{fed_in}
use Rattle.repo_backup.specs.Items.{place_of}
use Rattle.repo_feeding.specs.FedStates.{feeder_of, held_of, told_to}
use Rattle.repo_feeding.specs.Reasons.{IsReason}
use Rattle.repo_feeding.specs.Sources.{whole_of}
use Rattle.repo_feeding.proofs.Places.{with_whole}
use Rattle.repo_feeding.proofs.Feeding.{ended_fed, reason_of, not_stored, some_is}
use Rattle.repo_feeding.proofs.fed_backups.FedBackup.given_up.Goals as goal

pub returns-in-None-clause-abandoned : goal.returns-in-None-clause-abandoned
returns-in-None-clause-abandoned g c = λ es stands is. (
    let old = c.args.self.now in
    let f = feeder_of g.S.Source.told g.S.Source.name g.S.Source.failed g.S.Source.rewinds old in
    let fits = ended_fed f old.awaited es (Outcome.Ended End.Abandoned) stands is in
    c.as_ref.ensures.variant ∙ reason_of f es fits.0 fits.1)

pub returns-in-None-clause-stored : goal.returns-in-None-clause-stored
returns-in-None-clause-stored g c = λ es name blobs bytes stands is some. (
    let old = c.args.self.now in
    let f = feeder_of g.S.Source.told g.S.Source.name g.S.Source.failed g.S.Source.rewinds old in
    let fits = ended_fed f old.awaited es (Outcome.Stored name blobs bytes) stands is in
    not_stored f es name blobs bytes fits.0 fits.1 (sym c.as_ref.ensures.variant ∙ some_is c.as_ref.result some))

pub returns-in-None-clause-cause : goal.returns-in-None-clause-cause
returns-in-None-clause-cause g c = λ es fits. (
    let old = c.args.self.now in
    let failed = g.S.Source.failed old.source in
    let rewinds = g.S.Source.rewinds in
    let here : IfSome c.as_ref.result (λ reason. IsReason failed rewinds (whole_of (told_to g.S.Source.told g.S.Source.name old)) (place_of (fed_in fits.fs)) reason.now) = search rules in
    subst (λ w. IfSome c.as_ref.result (λ reason. IsReason failed rewinds w (place_of (fed_in fits.fs)) reason.now)) (with_whole (g.S.Source.told old.source) (held_of (g.S.Source.name old.source) old.found)) here)
