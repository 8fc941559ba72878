use Rattle.std.proofs.Common.{◌∷◌, [], false, refl, subst, inl}
use Rattle.repo_session.specs.Ends.{MayFollow}
use Rattle.repo_session.specs.Listings.{KnowsSnapshots}
use Rattle.repo_session.specs.Readings.{PartSteps}
use Rattle.repo_session.specs.Traces.{Exchange, silent}
use Rattle.repo_session.specs.Versions.{upto}
use Rattle.repo_session.proofs.Parting.{part_heeds, part_turns}
use Rattle.repo_prune.specs.declared.forgets.Forget.{Forget}
use Rattle.repo_prune.specs.Forgetting.{forget_rule, forget_task}
use Rattle.repo_prune.specs.ForgetStates.{KnowsForget}
use Rattle.repo_prune.proofs.Choosing.{may_read, none_read, read_chosen}
use Rattle.repo_prune.proofs.forgets.Forget.take_reading.Goals as goal

pub returns-in-Ok-clause-steps : goal.returns-in-Ok-clause-steps
returns-in-Ok-clause-steps c = λ policy es w obeys asked.
    let f = c.args.self.now in
    let who = c.args.holder.now.who in
    let e : Exchange = silent c.args.ask.now c.args.say.now in
    let listing = ((rw c.in-All.is at c.in_ok-read_on.ensures.ok) (forget_task who) c.args.holder.now.token [] es w asked.may asked.knows.1).1 in
    let none = none_read f.snapshots.roll c.args.ask.now c.args.say.now es asked.knows.1.rolls asked.knows.0 in
    c.begin.ensures.begins c.args.ask.now c.args.say.now es w none (read_chosen f.choice c.read_on.new.self.rows.items c.in-Ok.picked.items (e ∷ es) listing c.in-Ok.ensures.chosen)

pub returns-in-Step-clause-steps : goal.returns-in-Step-clause-steps
returns-in-Step-clause-steps c = λ policy es w obeys asked.
    let f = c.args.self.now in
    let who = c.args.holder.now.who in
    let task = forget_task who in
    let e : Exchange = silent c.args.ask.now c.args.say.now in
    let new = c.read_on.new.self in
    let job : Forget = record { choice = f.choice; snapshots = new; chosen = f.chosen; deleted = f.deleted; alloc = f.alloc } in
    let none = none_read f.snapshots.roll c.args.ask.now c.args.say.now es asked.knows.1.rolls asked.knows.0 in
    let lists = (rw c.in-Step.is at c.in_ok-read_on.ensures.ok) task c.args.holder.now.token [] es w asked.may asked.knows.1 in
    let on = subst (λ versions. PartSteps (upto versions) task (KnowsSnapshots new) e es c.in-Step.step) c.versions.ensures lists in
    part_turns (forget_rule f.choice) who (KnowsSnapshots new) (KnowsForget job) e es c.in-Step.step refl (inl refl) (λ ask due. may_read job task (e ∷ es) ask policy none due) on

-- ---- on which replies it ends at once

pub returns-in-Ok-clause-heeds : goal.returns-in-Ok-clause-heeds
returns-in-Ok-clause-heeds c = λ es w obeys asked.
    let e : Exchange = silent c.args.ask.now c.args.say.now in
    let lists = (rw c.in-All.is at c.in_ok-read_on.ensures.ok) (forget_task c.args.holder.now.who) c.args.holder.now.token [] es w asked.may asked.knows.1 in
    λ ends. absurd (subst (λ versions. MayFollow (upto versions) false e) c.versions.ensures lists.0 ends)

pub returns-in-Step-clause-heeds : goal.returns-in-Step-clause-heeds
returns-in-Step-clause-heeds c = λ es w obeys asked.
    let who = c.args.holder.now.who in
    let task = forget_task who in
    let e : Exchange = silent c.args.ask.now c.args.say.now in
    let Part = KnowsSnapshots c.read_on.new.self in
    let lists = (rw c.in-Step.is at c.in_ok-read_on.ensures.ok) task c.args.holder.now.token [] es w asked.may asked.knows.1 in
    part_heeds (upto who.versions) task Part e es c.in-Step.step (subst (λ versions. PartSteps (upto versions) task Part e es c.in-Step.step) c.versions.ensures lists)
