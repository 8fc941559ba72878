use Rattle.std.proofs.Common.{[], ◌∷◌, None, Vec, Global, refl, sym, ap, subst, inl, ◌∙◌, inr}
use Rattle.repo_wire.specs.declared.messages.Ask.{Ask}
use Rattle.repo_wire.specs.declared.messages.Say.{Say}
use Rattle.repo_name.specs.declared.kinds.Kind.{Kind}
use Rattle.repo_session.specs.declared.emissions.Emission.{Emission}
use Rattle.repo_session.specs.Readings.{KnowsIndexes}
use Rattle.repo_session.proofs.Parting.{part_heeds, part_turns}
use Rattle.repo_session.specs.Jobs.{known_under, task_under}
use Rattle.repo_session.specs.Traces.{Exchange, giving}
use Rattle.repo_session.proofs.Spoken.{was_asked}
use Rattle.repo_restore.specs.declared.restores.Restore.{Restore}
use Rattle.repo_restore.specs.declared.restores.Stage.{Stage}
use Rattle.repo_restore.specs.Restoring.{restore_rule}
use Rattle.repo_restore.specs.RestoreStates.{KnowsAtStage, KnowsRestore}
use Rattle.repo_session.proofs.Descending.{root_grows}
use Rattle.repo_restore.proofs.Advancing.{before_on, reads_allowed, index_no_blob, turn_is, once_first}
use Rattle.repo_session.proofs.KindReads.{due_index}
use Rattle.repo_restore.proofs.restores.Restore.take_reading.Goals as goal

pub returns-in-All-clause-ok : goal.returns-in-All-clause-ok
returns-in-All-clause-ok c = λ holding es w obeys asked.
    let j = c.args.self.now in
    let tree = c.args.tree in
    let e : Exchange = giving c.args.ask.now c.args.say.now c.go_on.new.self.given.items in
    let same = ap (λ (v : Vec Emission Global). v.items) c.go_on.ensures.given in
    let S : Stage → Type 0 = λ stage. KnowsAtStage j stage e.ask es in
    let known = subst S c.requires asked.knows in
    let reads = (rw c.in-All.is at c.in_ok-read_on.ensures.ok) (known_under (restore_rule j.snapshot) holding.who) (task_under (restore_rule j.snapshot) holding.who) holding.token e.emitted es w asked.may known.0 in
    let before = before_on j.walk j.given.items e es same known.2 in
    let turns = c.start-turn.ensures (e ∷ es) c.args.version before.no_levels before.no_entries before.not_onward in
    c.go_on.ensures.steps holding.who holding.token e es w (inl (same ∙ known.2.none_given)) (record {
      root = tree;
      found = root_grows e es j.snapshot c.args.version tree known.1;
      indexes = reads.1.0;
      all = reads.1.1;
      turns = turn_is None c.read_on.new.self.lookup j.walk c.args.version tree (e ∷ es) [] [] c.start-turn.result before.nothing (λ end r. absurd r) turns;
      once = once_first j.catalog j.walk e es c.args.version tree c.start-turn.result known.0;
      came = λ asks. absurd (index_no_blob j.catalog e.ask es known.0 asks);
    })

pub returns-clause-ok : goal.returns-clause-ok
returns-clause-ok c = λ holding es w obeys asked.
    let j = c.args.self.now in
    let rule = restore_rule j.snapshot in
    let e : Exchange = giving c.args.ask.now c.args.say.now j.given.items in
    let S : Stage → Type 0 = λ stage. KnowsAtStage j stage e.ask es in
    let known = subst S c.requires asked.knows in
    let on = (rw c.in-Step.is at c.in_ok-read_on.ensures.ok) (known_under rule holding.who) (task_under rule holding.who) holding.token j.given.items es w asked.may known.0 in
    let new : Restore = record { snapshot = j.snapshot; stage = j.stage; catalog = c.read_on.new.self; walk = j.walk; given = j.given; alloc = j.alloc } in
    part_turns rule holding.who (KnowsIndexes new.catalog) (KnowsRestore new) e es c.in-Step.step refl (inl known.2.none_given) (λ ask due.
    let N : Stage → Type 0 = λ stage. KnowsAtStage new stage ask (e ∷ es) in
    let read = inr (was_asked es (Ask.Get Kind.Snapshot j.snapshot) (Say.Bytes known.1.0) known.1.2.0) in
    (reads_allowed j.snapshot (e ∷ es) ask read (due_index _ new.catalog (e ∷ es) ask due), subst N (sym c.requires) (due.knows, root_grows e es j.snapshot c.args.version c.args.tree known.1, before_on j.walk j.given.items e es refl known.2))) on

pub returns-in-All-clause-heeds : goal.returns-in-All-clause-heeds
returns-in-All-clause-heeds c = λ holding es w obeys asked.
    let j = c.args.self.now in
    let rule = restore_rule j.snapshot in
    let e : Exchange = giving c.args.ask.now c.args.say.now c.go_on.new.self.given.items in
    let S : Stage → Type 0 = λ stage. KnowsAtStage j stage e.ask es in
    let knows = (subst S c.requires asked.knows).0 in
    let reads = (rw c.in-All.is at c.in_ok-read_on.ensures.ok) (known_under rule holding.who) (task_under rule holding.who) holding.token e.emitted es w asked.may knows in
    λ ends. absurd (reads.0 ends)

pub returns-clause-heeds : goal.returns-clause-heeds
returns-clause-heeds c = λ holding es w obeys asked.
    let j = c.args.self.now in
    let rule = restore_rule j.snapshot in
    let e : Exchange = giving c.args.ask.now c.args.say.now j.given.items in
    let S : Stage → Type 0 = λ stage. KnowsAtStage j stage e.ask es in
    let knows = (subst S c.requires asked.knows).0 in
    let on = (rw c.in-Step.is at c.in_ok-read_on.ensures.ok) (known_under rule holding.who) (task_under rule holding.who) holding.token j.given.items es w asked.may knows in
    part_heeds (known_under rule holding.who) (task_under rule holding.who) (KnowsIndexes c.read_on.new.self) e es c.in-Step.step on
