use Rattle.std.proofs.Common.{arith, ◌≡◌, ◌∷◌, [], List, Vec, Global, refl, sym, ap, subst, inl, ◌∙◌}
use Rattle.repo_session.specs.Feeds.{Fed}
use Rattle.repo_session.specs.Jobs.{known_under}
use Rattle.repo_session.specs.Traces.{Exchange, silent}
use Rattle.repo_session.specs.declared.jobs.Step.{Step}
use Rattle.repo_session.specs.Readings.{KnowsIndexes}
use Rattle.repo_session.proofs.Cataloguing.{are_indexed}
use Rattle.repo_session.proofs.Parting.{part_heeds, part_turns}
use Rattle.repo_session.proofs.KindReads.{due_index}
use Rattle.repo_tree.specs.declared.entries.Entry.{Entry}
use Rattle.repo_backup.specs.BackupStates.{backup_task}
use Rattle.repo_backup.specs.Backups.{handed_to, left_in, Knows}
use Rattle.repo_backup.specs.Plans.{walked, left_fed, LeadThrough}
use Rattle.repo_backup.specs.Rules.{backup_rule}
use Rattle.repo_backup.specs.declared.backups.Backup.{Backup}
use Rattle.repo_backup.specs.declared.steps.WalkStep.{WalkStep}
use Rattle.repo_backup.proofs.BackupStepping.{anew_begun, may_read}
use Rattle.repo_backup.proofs.PieceStepping.{begun_still, stands_first, none_waits, turns_on}
use Rattle.repo_backup.proofs.Staging.{if_ok, on_three}
use Rattle.repo_backup.proofs.backups.Backup.read_on.Goals as goal

pub returns-in-All-clause-ok : goal.returns-in-All-clause-ok
returns-in-All-clause-ok c = if_ok _ _ c.go_first.result (λ (step : Step) goes es working obeys asked.
    let old = c.args.self.now in
    let holding = c.args.holder.now in
    let ask = c.args.ask.now in
    let say = c.args.say.now in
    let d = c.read_on.new.self in
    let e : Exchange = silent ask say in
    let reads = rw c.in-All.is at c.in_ok-noted.ensures.ok in
    let all = reads (known_under (backup_rule (handed_to old)) holding.who) (backup_task holding.who) holding.token [] es working asked.may asked.knows.knows in
    let work = asked.knows.begun in
    let begun = begun_still old.catalog work.0 ask say es asked.knows.knows work.2 in
    let indexed = are_indexed d.roll.kind d.roll.names.items d.roll.read d.lookup (e ∷ es) all.1.0 all.1.1 in
    let first = stands_first d.lookup work.0 (e ∷ es) begun indexed all.1.0.gives in
    let room = none_waits work.0.waiting begun.waiting in
    turns_on (backup_rule (handed_to old)) holding.who (Knows c.go_first.new.self) (λ fs. ⊥) e es step refl
    (goes work.0 (e ∷ es) working work.1 (record { puts = []; goes = record { items = []; leads = asked.knows.leads; at = first; unsealed = begun.ready.unsealed }; none = begun.listed; few = omega (arith, room) }))) c.go_first.ensures.ok

pub returns-in-All-clause-err : goal.returns-in-All-clause-err
returns-in-All-clause-err c = on_three _ _ _ _ c.go_first.result (λ again position back es known.
    let old = c.args.self.now in
    let new = c.go_first.new.self in
    let noted = rw c.in-All.is at c.in_ok-noted.ensures.back in
    let b = known.begun in
    let d = again b.0 b.1 in
    let left : left_in new ≡ left_in old = λ i. left_fed ((position ∙ sym known.begins) i) (c.go_first.ensures.steps i).items in
    let L : List Entry → List Fed → Type 0 = λ en l. LeadThrough en l [] in
    record {
      knows = back old.catalog (noted es known.knows) c.args.ask.now es known.knows;
      begun = (d.0, d.1, anew_begun b.0 d.0 es d.2 b.2);
      leads = subst (λ en. L en (left_in new)) (sym (ap (λ (s : Vec WalkStep Global). walked [] s.items) c.go_first.ensures.steps)) (subst (λ l. L (handed_to old) l) (sym left) known.leads);
      begins = position;
    }) c.go_first.ensures.again c.go_first.ensures.position c.go_first.ensures.back

pub returns-in-Step-clause-ok : goal.returns-in-Step-clause-ok
returns-in-Step-clause-ok c = λ es working obeys asked.
    let old = c.args.self.now in
    let who = c.args.holder.now.who in
    let rule = backup_rule (handed_to old) in
    let e : Exchange = silent c.args.ask.now c.args.say.now in
    let new : Backup = record { steps = old.steps; position = old.position; backing = old.backing; catalog = c.read_on.new.self; alloc = old.alloc } in
    let on = (rw c.in-Step.is at c.in_ok-noted.ensures.ok) (known_under rule who) (backup_task who) c.args.holder.now.token [] es working asked.may asked.knows.knows in
    let work = asked.knows.begun in
    let still = begun_still old.catalog work.0 e.ask e.say es asked.knows.knows work.2 in
    part_turns rule who (KnowsIndexes new.catalog) (Knows new) e es c.in-Step.step refl (inl refl) (λ ask due.
    (may_read (handed_to old) (e ∷ es) ask (due_index (backup_task who) new.catalog (e ∷ es) ask due), inl (record { knows = due.knows; begun = (work.0, work.1, still); leads = asked.knows.leads; begins = asked.knows.begins }))) on

pub returns-in-All-clause-heeds : goal.returns-in-All-clause-heeds
returns-in-All-clause-heeds c = if_ok _ _ c.go_first.result (λ (step : Step) short es working obeys asked ends.
    let old = c.args.self.now in
    let holding = c.args.holder.now in
    let all = (rw c.in-All.is at c.in_ok-noted.ensures.ok) (known_under (backup_rule (handed_to old)) holding.who) (backup_task holding.who) holding.token [] es working asked.may asked.knows.knows in
    absurd (all.0 ends)) c.go_first.ensures.short

pub returns-in-Step-clause-heeds : goal.returns-in-Step-clause-heeds
returns-in-Step-clause-heeds c = λ es working obeys asked.
    let who = c.args.holder.now.who in
    let known = known_under (backup_rule (handed_to c.args.self.now)) who in
    let e : Exchange = silent c.args.ask.now c.args.say.now in
    let on = (rw c.in-Step.is at c.in_ok-noted.ensures.ok) known (backup_task who) c.args.holder.now.token [] es working asked.may asked.knows.knows in
    part_heeds known (backup_task who) (KnowsIndexes c.read_on.new.self) e es c.in-Step.step on
