use Rattle.std.proofs.Common.{◌∷◌, [], false, List, refl, sym, subst, inl}
use Rattle.repo_name.specs.declared.names.Name.{Name}
use Rattle.repo_tree.specs.declared.snapshots.Snapshot.{Snapshot}
use Rattle.repo_session.specs.Ends.{MayFollow}
use Rattle.repo_session.specs.Jobs.{task_under}
use Rattle.repo_session.specs.Listings.{IsSnapshotListing, KnowsSnapshots}
use Rattle.repo_session.specs.Readings.{PartSteps}
use Rattle.repo_session.specs.Traces.{Exchange, silent}
use Rattle.repo_session.specs.Versions.{upto}
use Rattle.repo_session.proofs.KindReads.{due_snapshot}
use Rattle.repo_session.proofs.Parting.{part_heeds, part_turns}
use Rattle.repo_restore.specs.Listing.{list_rule}
use Rattle.repo_restore.proofs.listings.SnapshotListJob.reply.Goals as goal

pub returns-in-All-clause-steps : goal.returns-in-All-clause-steps
returns-in-All-clause-steps c = λ es w obeys asked.
    let holding = c.args.holder.now in
    let e : Exchange = silent c.args.ask.now c.args.say.now in
    let lists = rw c.in-All.is at c.in_ok-read_on.ensures.ok in
    let L : List (Name × Snapshot) → Type 0 = λ rows. IsSnapshotListing (e ∷ es) rows in
    (inl refl, subst L (sym c.take_rows.ensures.rows) (lists (task_under list_rule holding.who) holding.token [] es w asked.may asked.knows).1)

pub returns-in-Step-clause-steps : goal.returns-in-Step-clause-steps
returns-in-Step-clause-steps c = λ es w obeys asked.
    let who = c.args.holder.now.who in
    let e : Exchange = silent c.args.ask.now c.args.say.now in
    let new = c.read_on.new.self in
    let task = task_under list_rule who in
    let lists = (rw c.in-Step.is at c.in_ok-read_on.ensures.ok) task c.args.holder.now.token [] es w asked.may asked.knows in
    let on = subst (λ versions. PartSteps (upto versions) task (KnowsSnapshots new) e es c.in-Step.step) c.versions.ensures lists in
    part_turns list_rule who (KnowsSnapshots new) (KnowsSnapshots new) e es c.in-Step.step refl (inl refl) (λ ask due. (due_snapshot task new (e ∷ es) ask due, due.knows)) on

-- ---- on which replies it ends at once

pub returns-in-All-clause-heeds : goal.returns-in-All-clause-heeds
returns-in-All-clause-heeds c = λ es w obeys asked.
    let who = c.args.holder.now.who in
    let e : Exchange = silent c.args.ask.now c.args.say.now in
    let lists = (rw c.in-All.is at c.in_ok-read_on.ensures.ok) (task_under list_rule who) c.args.holder.now.token [] es w asked.may asked.knows in
    λ ends. absurd (subst (λ versions. MayFollow (upto versions) false e) c.versions.ensures lists.0 ends)

pub returns-in-Step-clause-heeds : goal.returns-in-Step-clause-heeds
returns-in-Step-clause-heeds c = λ es w obeys asked.
    let who = c.args.holder.now.who in
    let e : Exchange = silent c.args.ask.now c.args.say.now in
    let new = c.read_on.new.self in
    let task = task_under list_rule who in
    let lists = (rw c.in-Step.is at c.in_ok-read_on.ensures.ok) task c.args.holder.now.token [] es w asked.may asked.knows in
    part_heeds (upto who.versions) task (KnowsSnapshots new) e es c.in-Step.step (subst (λ versions. PartSteps (upto versions) task (KnowsSnapshots new) e es c.in-Step.step) c.versions.ensures lists)
