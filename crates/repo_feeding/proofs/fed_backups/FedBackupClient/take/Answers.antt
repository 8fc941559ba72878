use Rattle.std.specs.Prelude.{IfNone, IfSome}
use Rattle.std.proofs.Common.{◌≡◌, ◌≢◌, ◌+◌, ◌∷◌, [], length, None, Some, refl, sym, ap, subst, ◌∙◌}
use Rattle.repo_wire.specs.declared.messages.Say.{Say}
use Rattle.repo_session.specs.Askers.{Asker}
use Rattle.repo_session.specs.Clients.{AnswersNext, IsReplyTo, exchange}
use Rattle.repo_session.specs.Ends.{IsUnwelcome}
use Rattle.repo_session.specs.Sessions.{IsPut, ended_in, next_in, who_in}
use Rattle.repo_session.specs.Traces.{Trace}
use Rattle.repo_session.specs.declared.outcomes.Outcome.{Outcome}
use Rattle.repo_backup.specs.PieceBackups.{IsHungry}
use Rattle.repo_backup.specs.PieceObedience.{pieces_obey}
use Rattle.repo_backup.specs.PieceStates.{IsListedOrGot}
use Rattle.repo_backup.proofs.PackingLemmas.{on_any, on_err, on_ok}
use Rattle.repo_feeding.specs.FedStates.{FeedsAgain, FeedsUp, FitsFed, IsPutting, StandsFed, feeder, feeder_of, next_of, told_to}
use Rattle.repo_feeding.specs.Unseen.{unfed_length}
use Rattle.repo_feeding.proofs.Feeding.{fits_still, no_reason, none_given, nothing_there, taken_on, unended_before, well_before}
use Rattle.repo_feeding.proofs.Quiet.{quiet_behind}
use Rattle.repo_feeding.proofs.fed_backups.FedBackupClient.take.Goals.{in-Refused, in_default-say}
use Rattle.repo_feeding.proofs.fed_backups.FedBackupClient.take.Goals as goal

pub returns-in_err-take-clause-fits : goal.returns-in_err-take-clause-fits
returns-in_err-take-clause-fits g c = on_any _ c.from_residual-in_err-take.result (λ es stands. (
    let old = c.args.self.now in
    let mid = c.await_done.new.self in
    let say = c.args.reply.now.say in
    let before : mid.awaited ≡ None = sym c.take.ensures.value ∙ nothing_there c.take.result c.in_default.not-Some in
    let told = told_to g.S.Source.told g.S.Source.name mid in
    let failed = g.S.Source.failed mid.source in
    let f = feeder mid.backup told mid.room failed g.S.Source.rewinds mid.given_up in
    let taken = c.take-2.new.self in
    let now = feeder taken told mid.room failed g.S.Source.rewinds mid.given_up in
    let at : FitsFed f es = subst (λ a. StandsFed f a es) before (c.in_ok-await_done.ensures.fits es stands) in
    let err = c.in_err-take.ensures in
    subst (λ a. StandsFed now a es) (sym c.take.ensures.after) (fits_still f taken es err.fits err.next err.ended at)))

pub returns-in-None-clause-taken : goal.returns-in-None-clause-taken
returns-in-None-clause-taken g c = λ request is answered es stands. (
    let old = c.args.self.now in
    let mid = c.await_done.new.self in
    let say = c.args.reply.now.say in
    let before : mid.awaited ≡ None = sym c.take.ensures.value ∙ nothing_there c.take.result c.in_default.not-Some in
    let told = told_to g.S.Source.told g.S.Source.name mid in
    let failed = g.S.Source.failed mid.source in
    let f = feeder mid.backup told mid.room failed g.S.Source.rewinds mid.given_up in
    let taken = c.take-2.new.self in
    let now = feeder taken told mid.room failed g.S.Source.rewinds mid.given_up in
    let at : FitsFed f es = subst (λ a. StandsFed f a es) before (c.in_ok-await_done.ensures.fits es stands) in
    let pending : next_in mid.backup.session ≡ Some request = sym (ap (next_of mid.backup) before) ∙ c.in_ok-await_done.ensures.next ∙ is in
    let hs : Trace = exchange request c.args.reply.now [] ∷ es in
    let more : Trace = exchange request c.args.reply.now [] ∷ at.fs in
    let inner = c.in_ok-take.ensures.taken request pending answered at.fs at.upto.fed.at in
    let stays : (outcome : Outcome) → ended_in mid.backup.session ≡ Some outcome → ended_in taken.session ≡ Some outcome = λ outcome there. c.in_ok-take.ensures.stays at.fs outcome at.upto.fed.at there in
    let upto = taken_on f taken es at.fs request.ask say [] (well_before mid.backup taken stays) inner at.upto in
    let quiet : ended_in taken.session ≡ None → IsListedOrGot request.ask → IsUnwelcome request.ask say = λ unended reads. elim c.match-reply.branch [
      | in-Refused w ↦ subst (λ s. IsUnwelcome request.ask s) (sym w.in-Refused.is) tt
      | in_default-say w ↦
          let Unread : Type 0 = ended_in mid.backup.session ≡ None → IfSome (next_in mid.backup.session) (λ r. ¬ IsListedOrGot r.ask) in
          let unread : Unread = subst (λ o. IfNone o Unread) (sym w.reading-is ∙ c.in-None.is) w.reading-reading.ensures.none in
          let other = subst (λ o. IfSome o (λ r. ¬ IsListedOrGot r.ask)) pending (unread (unended_before mid.backup taken stays unended)) in
          absurd (other reads)
    ] in
    let full : ¬ IsHungry taken = λ hungry. (
    let none = none_given mid.given_up (no_reason now hs more hungry upto.fed) in
    let other = c.in_ok-await_done.ensures.other before none in
    quiet_behind taken (exchange request c.args.reply.now []) at.fs inner (quiet hungry.1) (λ put done. other done (subst IsPutting (sym (c.in_ok-await_done.ensures.next ∙ is)) put)) hungry) in
    let there : FitsFed now hs = record { fs = more; upto = upto; full = full } in
    subst (λ a. StandsFed now a hs) (sym c.take.ensures.after) there)

pub returns-in-Some-reading-clause-taken : goal.returns-in-Some-reading-clause-taken
returns-in-Some-reading-clause-taken g c =
    let old = c.args.self.now in
    let mid = c.await_done.new.self in
    let say = c.args.reply.now.say in
    let before : mid.awaited ≡ None = sym c.take.ensures.value ∙ nothing_there c.take.result c.in_default.not-Some in
    let told = told_to g.S.Source.told g.S.Source.name mid in
    let failed = g.S.Source.failed mid.source in
    let f = feeder mid.backup told mid.room failed g.S.Source.rewinds mid.given_up in
    let taken = c.take-2.new.self in
    let now = feeder taken told mid.room failed g.S.Source.rewinds mid.given_up in
    let new = c.feed_first.new.self in
    let last = feeder_of g.S.Source.told g.S.Source.name g.S.Source.failed g.S.Source.rewinds new in
    on_ok c.feed_first.result (FeedsUp now last) _ (λ up request is answered es stands. (
    let at : FitsFed f es = subst (λ a. StandsFed f a es) before (c.in_ok-await_done.ensures.fits es stands) in
    let pending : next_in mid.backup.session ≡ Some request = sym (ap (next_of mid.backup) before) ∙ c.in_ok-await_done.ensures.next ∙ is in
    let hs : Trace = exchange request c.args.reply.now [] ∷ es in
    let more : Trace = exchange request c.args.reply.now [] ∷ at.fs in
    let inner = c.in_ok-take.ensures.taken request pending answered at.fs at.upto.fed.at in
    let stays : (outcome : Outcome) → ended_in mid.backup.session ≡ Some outcome → ended_in taken.session ≡ Some outcome = λ outcome there. c.in_ok-take.ensures.stays at.fs outcome at.upto.fed.at there in
    let upto = taken_on f taken es at.fs request.ask say [] (well_before mid.backup taken stays) inner at.upto in
    subst (λ a. StandsFed last a hs) (sym (c.feed_first.ensures.awaited ∙ c.take.ensures.after)) (up hs more upto))) c.feed_first.ensures.ok

pub returns-in-Some-reading-clause-fits : goal.returns-in-Some-reading-clause-fits
returns-in-Some-reading-clause-fits g c =
    let old = c.args.self.now in
    let mid = c.await_done.new.self in
    let say = c.args.reply.now.say in
    let before : mid.awaited ≡ None = sym c.take.ensures.value ∙ nothing_there c.take.result c.in_default.not-Some in
    let told = told_to g.S.Source.told g.S.Source.name mid in
    let failed = g.S.Source.failed mid.source in
    let f = feeder mid.backup told mid.room failed g.S.Source.rewinds mid.given_up in
    let taken = c.take-2.new.self in
    let now = feeder taken told mid.room failed g.S.Source.rewinds mid.given_up in
    let new = c.feed_first.new.self in
    let last = feeder_of g.S.Source.told g.S.Source.name g.S.Source.failed g.S.Source.rewinds new in
    let request = c.in-Some-reading.letter in
    on_err c.feed_first.result (FeedsAgain request now last) _ (λ again es stands. (
    let at : FitsFed f es = subst (λ a. StandsFed f a es) before (c.in_ok-await_done.ensures.fits es stands) in
    let some : (next_in mid.backup.session ≡ Some request) × (ended_in mid.backup.session ≡ None) × IsListedOrGot request.ask = elim c.match-reply.branch [
      | in-Refused w ↦ (let none = w.reading-is in let there = c.in-Some-reading.is in absurd (cc))
      | in_default-say w ↦
          subst (λ o. IfSome o (λ letter. (next_in mid.backup.session ≡ Some letter) × (ended_in mid.backup.session ≡ None) × IsListedOrGot letter.ask)) (sym w.reading-is ∙ c.in-Some-reading.is) w.reading-reading.ensures.some
    ] in
    let pending = some.0 in
    let answered : IsReplyTo request c.args.reply.now =
    subst (λ o. AnswersNext o c.args.reply.now) (sym c.in_ok-await_done.ensures.next ∙ ap (next_of mid.backup) before ∙ pending) (c.is_answered.ensures.0 c.if-not-is_answered.false) in
    let hs : Trace = exchange request c.args.reply.now [] ∷ es in
    let more : Trace = exchange request c.args.reply.now [] ∷ at.fs in
    let inner = c.in_ok-take.ensures.taken request pending answered at.fs at.upto.fed.at in
    let stays : (outcome : Outcome) → ended_in mid.backup.session ≡ Some outcome → ended_in taken.session ≡ Some outcome = λ outcome there. c.in_ok-take.ensures.stays at.fs outcome at.upto.fed.at there in
    let upto = taken_on f taken es at.fs request.ask say [] (well_before mid.backup taken stays) inner at.upto in
    let asked = (pieces_obey mid.backup at.fs at.upto.fed.at).pending request pending in
    let instance = asked.instance ∙ sym (ap (λ (w : Asker). w.instance) c.in_ok-take.ensures.job) in
    let sequence = asked.sequence ∙ ap (λ n. n + 1) (sym (unfed_length at.fs) ∙ ap length at.upto.fed.same) in
    subst (λ a. StandsFed last a es) (sym (c.feed_first.ensures.awaited ∙ c.take.ensures.after)) (again (exchange request c.args.reply.now []) es more refl some.2 instance sequence upto))) c.feed_first.ensures.err
