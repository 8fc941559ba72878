use Rattle.std.proofs.Common.{arith, ◌≡◌, ◌≢◌, [], length, refl, sym, ap, subst, inl, inr, take, ◌∙◌}
use Rattle.std.proofs.lemmas.Bool.{eqb-false, eqb-true}
use Rattle.std.proofs.lemmas.List.{take_all}
use Rattle.repo_session.specs.Feeds.{fed_bytes}
use Rattle.repo_session.specs.Traces.{feeding, fed_in}
use Rattle.repo_backup.specs.Items.{ItemFault, MayTake, Place, place_of}
use Rattle.repo_backup.specs.PieceBackups.{FitsPieces}
use Rattle.repo_feeding.specs.FedStates.{feeder_of, told_to, IsFedUpto}
use Rattle.repo_feeding.specs.Reasons.{HasReason}
use Rattle.repo_feeding.specs.Sources.{whole_of}
use Rattle.repo_feeding.specs.inner.Rooms.{Lessens}
use Rattle.repo_feeding.proofs.Feeding.{standing, fed_none, fed_part_of, no_reason, rest_next, sound_of, reason_so, upto_still}
use Rattle.repo_feeding.proofs.Places.{less_part, no_bytes, some_bytes}
use Rattle.repo_feeding.proofs.fed_backups.FedBackup.feed_next.Goals as goal

pub returns-in-Ok-clause-ok : goal.returns-in-Ok-clause-ok
returns-in-Ok-clause-ok g c = λ es fs upto. (
    let old = c.args.self.now in
    let f = feeder_of g.S.Source.told g.S.Source.name g.S.Source.failed g.S.Source.rewinds old in
    let failed = g.S.Source.failed old.source in
    let none = no_reason f es fs c.requires upto.fed in
    let sound = sound_of failed g.S.Source.rewinds (whole_of f.told) (place_of (fed_in fs)) old.given_up none (upto.caused (inr (inl c.requires.1))) in
    let cause : Place → Type 0 = λ p. HasReason failed g.S.Source.rewinds (whole_of f.told) p old.given_up in
    let n = c.in-Ok.count in
    let new = c.feed.new.self in
    let fits = subst (λ bytes. FitsPieces new (feeding (fed_bytes (take n bytes)) fs)) c.rest-rest.ensures (c.in-Ok.ensures.took.2 fs upto.fed.at) in
    let may = subst (λ bytes. MayTake (place_of (fed_in fs)) (fed_bytes (take n bytes))) c.rest-rest.ensures (c.in-Ok.ensures.may fs upto.fed.at).2 in
    let more = feeding (fed_bytes (take n old.room)) fs in
    let some : old.room ≢ [] = subst (λ bytes. bytes ≢ []) c.rest-rest.ensures (some_bytes c.rest-rest.result.now (eqb-false (length c.rest-rest.result.now) 0 (sym c.is_empty.ensures ∙ c.if-is_empty.false))) in
    (more, subst (λ rest. IsFedUpto (standing new f.told rest f.gave cause) es more) (sym c.pass.ensures) (fed_part_of f new es fs c.requires upto n cause some may (reason_so failed g.S.Source.rewinds (whole_of f.told) old.given_up none sound) fits)))

pub returns-in-Err-clause-err : goal.returns-in-Err-clause-err
returns-in-Err-clause-err g c = λ es fs upto. (
    let old = c.args.self.now in
    let f = feeder_of g.S.Source.told g.S.Source.name g.S.Source.failed g.S.Source.rewinds old in
    let failed = g.S.Source.failed old.source in
    let none = no_reason f es fs c.requires upto.fed in
    let sound = sound_of failed g.S.Source.rewinds (whole_of f.told) (place_of (fed_in fs)) old.given_up none (upto.caused (inr (inl c.requires.1))) in
    let some : old.room ≢ [] = subst (λ bytes. bytes ≢ []) c.rest-rest.ensures (some_bytes c.rest-rest.result.now (eqb-false (length c.rest-rest.result.now) 0 (sym c.is_empty.ensures ∙ c.if-is_empty.false))) in
    let all = take_all (length old.room) old.room (omega (arith)) in
    let fault = subst (λ bytes. ItemFault (place_of (fed_in fs)) (fed_bytes (take (length bytes) bytes)) c.in-Err.error) c.rest-rest.ensures (c.in-Err.ensures.fault c.requires fs upto.fed.at) in (
      fed_none f c.feed.new.self es fs f.told f.rest f.cause refl (c.in-Err.ensures.stays fs upto.fed.at) upto.fed,
      (sound, (fed_bytes old.room, subst (λ bytes. ItemFault (place_of (fed_in fs)) (fed_bytes bytes) c.in-Err.error) all fault, rest_next f old.backup es fs c.requires upto some)),
    ))

pub returns-in-Ok-clause-fewer : goal.returns-in-Ok-clause-fewer
returns-in-Ok-clause-fewer g c = λ es fs upto. (
    let old = c.args.self.now in
    let told = told_to g.S.Source.told g.S.Source.name old in
    let n = c.in-Ok.count in
    let count = c.in-Ok.ensures.took.1 in
    let same = ap length c.rest-rest.ensures in
    let some = eqb-false (length c.rest-rest.result.now) 0 (sym c.is_empty.ensures ∙ c.if-is_empty.false) in
    subst (λ rest. Lessens told old.room told rest) (sym c.pass.ensures) (less_part told old.room n (omega (arith, count.0, same)) (count.1 (omega (arith, some)))))

pub returns-in-Err-clause-still : goal.returns-in-Err-clause-still
returns-in-Err-clause-still g c = λ refusal es fs upto. (
    let old = c.args.self.now in
    let f = feeder_of g.S.Source.told g.S.Source.name g.S.Source.failed g.S.Source.rewinds old in
    upto_still f c.feed.new.self es fs (c.in-Err.ensures.stays fs upto.fed.at) c.in-Err.ensures.next.1 upto)
