use Rattle.std.proofs.Common.{refl, sym, subst}
use Rattle.repo_name.specs.declared.kinds.Kind.{Kind}
use Rattle.repo_wire.specs.declared.messages.Ask.{Ask}
use Rattle.repo_check.specs.Rounds.{round_of}
use Rattle.repo_check.specs.Surveys.{RoundsView, TakesSurvey, rounds_of}
use Rattle.repo_check.specs.Walks.{walk_of}
use Rattle.repo_check.proofs.Trailing.{packs_got}
use Rattle.repo_check.proofs.Heeding.{trees_heed}
use Rattle.repo_check.proofs.surveys.Survey.take_pack.Goals as goal

pub returns-in-Ok-clause-takes : goal.returns-in-Ok-clause-takes
returns-in-Ok-clause-takes c =
    let old = rounds_of c.args.self.now in
    let walk = walk_of c.args.self.now.walk in
    let mid : RoundsView = record { snapshots = old.snapshots; indexes = old.indexes; packs = round_of c.take_pack.new.round } in
    let now = c.after_packs.new.self in
    subst (λ r. TakesSurvey old walk (Ask.Get Kind.Pack c.args.name) c.args.say.now c.in-Ok.next r (walk_of now.walk)) (sym c.in-Ok.ensures.rounds)
    (λ task token es w may h. packs_got old mid walk (walk_of now.walk) c.args.say.now c.in_ok-turn.turn c.in-Ok.next refl refl c.in-Ok.ensures.after c.args.name c.in_ok-turn.ensures.takes task token es w h)

pub returns-in-Ok-clause-heeds : goal.returns-in-Ok-clause-heeds
returns-in-Ok-clause-heeds c = λ known. trees_heed known (Ask.Get Kind.Pack c.args.name) c.args.say.now _ (walk_of c.after_packs.new.self.walk) c.in_ok-turn.turn c.in-Ok.next c.in-Ok.ensures.after (c.in_ok-turn.ensures.heeds known)
