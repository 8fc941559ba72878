use Rattle.std.proofs.Common.{◌+◌, sym, subst, take}
use Rattle.repo_check.specs.Fitting.{facts_by}
use Rattle.repo_check.specs.Rounds.{Match, round_of}
use Rattle.repo_check.specs.Verdicts.{IsFoundOfIndex}
use Rattle.repo_check.proofs.Matching.{match_all, match_next}
use Rattle.repo_check.proofs.verdicts.places_of.Goals as goal

pub loop-note-preserved : goal.loop-note-preserved
loop-note-preserved c = λ ascend.
    let packs = facts_by (round_of c.args.packs.now) in
    subst (λ found. Match (IsFoundOfIndex packs) (take (c.loop-note.note-index + 1) c.args.notes.now) found) (sym c.in_ok-push.ensures.items)
    (match_next (IsFoundOfIndex packs) c.args.notes.now c.loop-note.note-index c.note-item.result c.loop-note.found.items c.in_ok-place.place c.loop-note-test.true (c.loop-note.invariant ascend)
    (subst (λ note. IsFoundOfIndex packs note c.in_ok-place.place) c.note-item.is (c.in_ok-place.ensures ascend)))

pub returns : goal.returns
returns c = λ ascend. match_all (IsFoundOfIndex (facts_by (round_of c.args.packs.now))) c.args.notes.now c.loop-note.note-index c.loop-note.found.items c.loop-note-test.false (c.loop-note.invariant ascend)
