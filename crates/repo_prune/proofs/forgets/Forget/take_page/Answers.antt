use Rattle.std.proofs.Common.{◌∷◌, [], true, refl, sym, subst, inl, ◌∙◌}
use Rattle.repo_name.specs.declared.kinds.Kind.{Kind}
use Rattle.repo_wire.specs.declared.messages.Ask.{Ask}
use Rattle.repo_session.specs.declared.snapshot_rolls.SnapshotRoll.{SnapshotRoll}
use Rattle.repo_session.specs.Order.{last_of}
use Rattle.repo_session.specs.Readings.{KnowsRoll}
use Rattle.repo_session.specs.Rolls.{IsRolled}
use Rattle.repo_session.specs.Traces.{Exchange, silent}
use Rattle.repo_session.specs.Versions.{upto}
use Rattle.repo_session.proofs.Listing.{snapshots_paged}
use Rattle.repo_session.proofs.Parting.{part_heeds, part_turns}
use Rattle.repo_prune.specs.declared.choices.Choice.{Choice}
use Rattle.repo_prune.specs.declared.forgets.Forget.{Forget}
use Rattle.repo_prune.specs.Forgetting.{forget_rule, forget_task, AreChosen, AreChosenOf}
use Rattle.repo_prune.specs.ForgetStates.{KnowsForget}
use Rattle.repo_prune.proofs.Choosing.{may_page, none_read, page_chosen}
use Rattle.repo_prune.proofs.Paging.{IsNextPage, page_behind}
use Rattle.repo_prune.proofs.forgets.Forget.take_page.Goals as goal

pub returns-in-Ok-clause-steps : goal.returns-in-Ok-clause-steps
returns-in-Ok-clause-steps c = λ kind after names is es w obeys asked.
    let f = c.args.self.now in
    let who = c.args.holder.now.who in
    let e : Exchange = silent (Ask.List kind after) c.args.say.now in
    let roll = c.add_page.new.self in
    let h = asked.knows.1 in
    let last = (rw c.in-All.is at c.in_ok-add_page.ensures.pages) (upto who.versions) (forget_task who) c.args.holder.now.token kind after [] es w asked.may h.rolls in
    let rolled : IsRolled Kind.Snapshot roll.names.items roll.read true (e ∷ es) = subst (λ k. IsRolled k roll.names.items roll.read true (e ∷ es)) (c.add_page.ensures.kind ∙ h.of_kind) last.1.1 in
    let C : Choice → Type 0 = λ choice. AreChosenOf choice f.snapshots.rows.items roll.names.items c.in-Ok.picked.items in
    let D : Choice → Type 0 = λ choice. AreChosen choice (e ∷ es) c.in-Ok.picked.items in
    c.begin.ensures.begins (Ask.List kind after) c.args.say.now es w (none_read f.snapshots.roll (Ask.List kind after) c.args.say.now es h.rolls asked.knows.0)
    (subst D (sym is) (page_chosen names f.snapshots.rows.items roll.names.items roll.read c.in-Ok.picked.items (e ∷ es) rolled (subst C is c.in-Ok.ensures.chosen)))

pub returns-in-Step-clause-steps : goal.returns-in-Step-clause-steps
returns-in-Step-clause-steps c = λ kind after names is es w obeys asked.
    let f = c.args.self.now in
    let s = f.snapshots in
    let who = c.args.holder.now.who in
    let task = forget_task who in
    let roll = c.add_page.new.self in
    let new : SnapshotRoll = record { roll = roll; rows = s.rows; alloc = s.alloc } in
    let job : Forget = record { choice = f.choice; snapshots = new; chosen = f.chosen; deleted = f.deleted; alloc = f.alloc } in
    let e : Exchange = silent (Ask.List kind after) c.args.say.now in
    let h = asked.knows.1 in
    let none = none_read s.roll (Ask.List kind after) c.args.say.now es h.rolls asked.knows.0 in
    let rows = snapshots_paged s new e es h.rolls.1 c.add_page.ensures.read refl h.rows in
    let takes = rw c.in-Step.is at c.in_ok-add_page.ensures.takes in
    let pages = (rw c.in-Step.is at c.in_ok-add_page.ensures.pages) (upto who.versions) task c.args.holder.now.token kind after [] es w asked.may h.rolls in
    part_turns (forget_rule f.choice) who (IsNextPage task Kind.Snapshot roll) (KnowsForget job) e es c.in-Step.step refl (inl refl) (λ ask due.
    may_page job (e ∷ es) ask (last_of roll.names.items) due.knows.0 none (record { of_kind = c.add_page.ensures.kind ∙ h.of_kind; rolls = due.knows.1.knows; rows = rows }))
    (page_behind (upto who.versions) task Kind.Snapshot s.roll roll e es c.in-Step.step h.of_kind takes pages)

-- ---- on which replies it ends at once

pub returns-in-Ok-clause-heeds : goal.returns-in-Ok-clause-heeds
returns-in-Ok-clause-heeds c = λ kind after es w obeys asked.
    let who = c.args.holder.now.who in
    let last = (rw c.in-All.is at c.in_ok-add_page.ensures.pages) (upto who.versions) (forget_task who) c.args.holder.now.token kind after [] es w asked.may asked.knows.1.rolls in
    λ ends. absurd (last.0 ends)

pub returns-in-Step-clause-heeds : goal.returns-in-Step-clause-heeds
returns-in-Step-clause-heeds c = λ kind after es w obeys asked.
    let who = c.args.holder.now.who in
    let e : Exchange = silent (Ask.List kind after) c.args.say.now in
    let pages = (rw c.in-Step.is at c.in_ok-add_page.ensures.pages) (upto who.versions) (forget_task who) c.args.holder.now.token kind after [] es w asked.may asked.knows.1.rolls in
    part_heeds (upto who.versions) (forget_task who) (KnowsRoll c.add_page.new.self) e es c.in-Step.step pages
