use Rattle.std.proofs.Common.{ap, sym, subst}
use Rattle.repo_wire.specs.declared.messages.Ask.{Ask}
use Rattle.repo_session.specs.declared.rolls.Roll.{Roll}
use Rattle.repo_check.specs.Rounds.{round_of}
use Rattle.repo_check.specs.Surveys.{HasTaken, Surveys, rounds_of}
use Rattle.repo_check.specs.Walks.{walk_of}
use Rattle.repo_check.proofs.Surveying.{object_back, tree_back}
use Rattle.repo_check.proofs.surveys.Survey.take_back.Goals as goal

pub returns-in-Get : goal.returns-in-Get
returns-in-Get c = λ rounds walk es mark taken h.
    let old = c.args.self.now in
    let ask = Ask.Get c.in-Get.kind c.in-Get.name in
    let packs = c.unnote.new.self in
    let new = rounds_of c.args.self.now in
    let took = subst (λ a. HasTaken rounds walk a (rounds_of old) (walk_of old.walk)) c.in-Get.is taken in
    let known = subst (λ a. Surveys rounds walk a es) c.in-Get.is h in
    let back = object_back rounds (rounds_of old) walk (walk_of old.walk) (round_of packs) c.in-Get.kind c.in-Get.name es took (ap (λ (r : Roll). r.kind) c.unnote.ensures.roll) (ap (λ (r : Roll). r.names.items) c.unnote.ensures.roll)
    (ap (λ (r : Roll). r.read) c.unnote.ensures.roll) c.unnote.ensures.notes known in
    rw c.in-Get.is back

pub returns-in-Range : goal.returns-in-Range
returns-in-Range c = λ rounds walk es mark taken h.
    let old = c.args.self.now in
    let new = c.take_back_tree.new.self in
    let took = subst (λ a. HasTaken rounds walk a (rounds_of old) (walk_of old.walk)) c.in-Range.is taken in
    let known = subst (λ a. Surveys rounds walk a es) c.in-Range.is h in
    let back = tree_back rounds (rounds_of old) walk (walk_of old.walk) (walk_of new.walk) c.in-Range.pack c.in-Range.offset c.in-Range.length es took
    (λ roots fact note awaits noted. c.take_back_tree.ensures.back roots fact note walk mark awaits noted) known in
    subst (λ a. Surveys (rounds_of new) (walk_of new.walk) a es) (sym c.in-Range.is) (subst (λ r. Surveys r (walk_of new.walk) (Ask.Range c.in-Range.pack c.in-Range.offset c.in-Range.length) es) (sym c.take_back_tree.ensures.rounds) back)
