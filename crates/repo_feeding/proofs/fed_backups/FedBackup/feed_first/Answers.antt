use Rattle.std.proofs.Common.{◌≡◌, ◌∷◌, [], None, refl, sym, ap, subst, ◌∙◌}
use Rattle.repo_session.specs.Askers.{Holding}
use Rattle.repo_session.specs.Traces.{fed_in}
use Rattle.repo_backup.specs.Items.{Place, at_root, place_of}
use Rattle.repo_backup.specs.declared.items.FeedError.{FeedError}
use Rattle.repo_feeding.specs.FedStates.{feeder_of, held_of, FitsFed, HasCome}
use Rattle.repo_feeding.specs.Reasons.{HasReason, Justifies}
use Rattle.repo_feeding.specs.Sources.{told_with, whole_of}
use Rattle.repo_feeding.specs.declared.reasons.GivenUp.{GivenUp}
use Rattle.repo_feeding.proofs.Feeding.{standing, again_fed, fed_none, no_reason, reason_so}
use Rattle.repo_feeding.proofs.Places.{rewound, rewound_held, told_none, with_whole}
use Rattle.repo_feeding.proofs.fed_backups.FedBackup.feed_first.Goals as goal

pub returns-then-not-rewind-clause-ok : goal.returns-then-not-rewind-clause-ok
returns-then-not-rewind-clause-ok g c = λ es fs upto. (
    let mid = c.feed_up.new.self in
    let f = feeder_of g.S.Source.told g.S.Source.name g.S.Source.failed g.S.Source.rewinds mid in
    let source = c.rewind.new.self in
    let told = told_with (g.S.Source.told source) (held_of (g.S.Source.name source) mid.found) in
    let same : told ≡ f.told = ap (λ x. told_with (g.S.Source.told x) (held_of (g.S.Source.name x) mid.found)) (c.if-not-rewind.ensures.still refl) in
    let short = c.in-Err.ensures.short es fs upto in
    let p = place_of (fed_in short.0) in
    let fed = fed_none f mid.backup es short.0 told mid.room (λ q. HasReason (g.S.Source.failed source) g.S.Source.rewinds (whole_of told) q mid.given_up) (ap whole_of same) short.1.fed.at short.1.fed in
    let sound = c.rewind.ensures.sound short.2.0 in
    let reason : Justifies (g.S.Source.failed source) (whole_of told) p (GivenUp.Refused FeedError.Memory) =
    subst (λ w. Justifies (g.S.Source.failed source) w p (GivenUp.Refused FeedError.Memory)) (sym (ap whole_of same)) (sound, short.2.1) in
    c.give_up.ensures.up es short.0 fed (reason, λ is. c.if-not-rewind.ensures.cant refl))

pub returns-clause-err : goal.returns-clause-err
returns-clause-err g c = λ e es fs ask reads instance sequence upto. (
    let mid = c.feed_up.new.self in
    let f = feeder_of g.S.Source.told g.S.Source.name g.S.Source.failed g.S.Source.rewinds mid in
    let hungry = c.in-Err.ensures.hungry in
    let source = c.rewind.new.self in
    let now = g.S.Source.told source in
    let told = told_with now None in
    let again = c.if-not-rewind.ensures.again refl in
    let short = c.in-Err.ensures.short (e ∷ es) fs upto in
    let none = no_reason f (e ∷ es) short.0 hungry short.1.fed in
    let sound = c.rewind.ensures.sound short.2.0 in
    let own : c.args.letter.instance ≡ mid.backup.session.head.holder.who.instance = instance ∙ sym (ap (λ (h : Holding). h.who.instance) c.feed_up.ensures.holder) in
    let whole : whole_of told ≡ whole_of f.told = with_whole now None ∙ rewound (g.S.Source.told mid.source) now again ∙ sym (with_whole (g.S.Source.told mid.source) (held_of (g.S.Source.name mid.source) mid.found)) in
    let cause : Place → Type 0 = λ p. HasReason (g.S.Source.failed source) g.S.Source.rewinds (whole_of told) p mid.given_up in
    let there = again_fed f c.args.letter c.unread.new.self told cause e es short.0 hungry ask reads sequence (λ x older counted asks reads fits. c.unread.ensures.fits x older hungry own counted asks reads fits) c.unread.ensures.next whole
    (λ p come. subst (λ o. HasCome o at_root []) (sym (told_none now)) (rewound_held (g.S.Source.told mid.source) (held_of (g.S.Source.name mid.source) mid.found) now p mid.room again come)) (reason_so (g.S.Source.failed source) g.S.Source.rewinds (whole_of told) mid.given_up none sound) short.1 in
    subst (λ rest. FitsFed (standing c.unread.new.self told rest f.gave cause) es) (sym c.clear.ensures) there)
