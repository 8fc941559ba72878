use Rattle.std.proofs.Common.{Option, ap, refl, sym, subst, ◌∙◌}
use Rattle.std.proofs.lemmas.Result.{IfOk-weaker}
use Rattle.repo_name.specs.declared.kinds.Kind.{Kind}
use Rattle.repo_name.specs.declared.names.Name.{Name}
use Rattle.repo_wire.specs.declared.messages.Ask.{Ask}
use Rattle.repo_session.specs.declared.parts.Came.{Came}
use Rattle.repo_check.specs.Rounds.{round_of}
use Rattle.repo_check.specs.Surveys.{GoesToTrees, RoundsView, TakesSurvey, rounds_of}
use Rattle.repo_check.specs.Walks.{walk_of}
use Rattle.repo_check.proofs.Arriving.{ok_then}
use Rattle.repo_check.proofs.Surveying.{listing_packs}
use Rattle.repo_check.proofs.Rounding.{err_with}
use Rattle.repo_check.proofs.Trailing.{packs_page}
use Rattle.repo_check.proofs.Heeding.{trees_heed}
use Rattle.repo_check.proofs.surveys.Survey.take_pack_page.Goals as goal

pub returns-clause-takes : goal.returns-clause-takes
returns-clause-takes c =
    let old = rounds_of c.args.self.now in
    let walk = walk_of c.args.self.now.walk in
    let mid : RoundsView = record { snapshots = old.snapshots; indexes = old.indexes; packs = round_of c.take_page.new.self } in
    let now = c.after_packs.new.self in
    let P : Came (Unit {0}) → Type 0 = λ next. GoesToTrees mid (walk_of now.walk) c.in_ok-turn.turn next in
    let Q : Came (Unit {0}) → Type 0 = λ next. (after : Option Name) → TakesSurvey old walk (Ask.List Kind.Pack after) c.args.say.now next (rounds_of now) (walk_of now.walk) in
    ok_then P Q c.after_packs.result (λ next goes after task token es w may h.
    subst (λ r. TakesSurvey old walk (Ask.List Kind.Pack after) c.args.say.now next r (walk_of now.walk)) (sym c.after_packs.ensures.rounds)
    (λ task token es w may h. packs_page old mid walk (walk_of now.walk) c.args.say.now c.in_ok-turn.turn next refl refl goes c.in_ok-turn.ensures.pages (ap (λ v. v.items) c.in_ok-turn.ensures.notes) task token after es w may h) task token es w may h)
    c.after_packs.ensures.after

pub returns-clause-same : goal.returns-clause-same
returns-clause-same c = err_with c.after_packs.result (λ all after es h.
    let at = listing_packs (rounds_of c.args.self.now) (walk_of c.args.self.now.walk) es after h in
    let same = c.in_ok-turn.ensures.all all at.packs.1.none in
    c.after_packs.ensures.rounds ∙ (λ i. record { snapshots = round_of c.args.self.now.snapshots; indexes = round_of c.args.self.now.indexes; packs = same i })) c.after_packs.ensures.err

pub returns-clause-heeds : goal.returns-clause-heeds
returns-clause-heeds c =
    let turn = c.in_ok-turn.turn in
    IfOk-weaker c.after_packs.result _ _ (λ next goes known after behind. trees_heed known (Ask.List Kind.Pack after) c.args.say.now _ (walk_of c.after_packs.new.self.walk) turn next goes (c.in_ok-turn.ensures.heeds known Kind.Pack after behind)) c.after_packs.ensures.after
