use Rattle.std.proofs.Common.{ap, refl}
use Rattle.repo_name.specs.declared.kinds.Kind.{Kind}
use Rattle.repo_wire.specs.declared.messages.Ask.{Ask}
use Rattle.repo_check.specs.Rounds.{round_of}
use Rattle.repo_check.specs.Surveys.{RoundsView, rounds_of}
use Rattle.repo_check.specs.Walks.{walk_of}
use Rattle.repo_check.proofs.Surveying.{snapshots_page}
use Rattle.repo_check.proofs.Heeding.{next_heeds}
use Rattle.repo_check.proofs.surveys.Survey.take_snapshot_page.Goals as goal

pub returns-clause-takes : goal.returns-clause-takes
returns-clause-takes c = λ after task token es w may h.
    let old = rounds_of c.args.self.now in
    let new : RoundsView = record { snapshots = round_of c.take_page.new.self; indexes = old.indexes; packs = old.packs } in
    snapshots_page old new (walk_of c.args.self.now.walk) c.args.say.now c.in_ok-turn.turn c.after_turn.result c.in_ok-turn.ensures.pages (ap (λ v. v.items) c.in_ok-turn.ensures.notes) refl refl c.after_turn.ensures.after task token after es w may h

pub returns-clause-heeds : goal.returns-clause-heeds
returns-clause-heeds c = λ known after behind. next_heeds known (Ask.List Kind.Snapshot after) c.args.say.now c.in_ok-turn.turn _ c.after_turn.result c.after_turn.ensures.after (c.in_ok-turn.ensures.heeds known Kind.Snapshot after behind)
