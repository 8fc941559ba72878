use Rattle.std.proofs.Common.{◌∷◌, ◌∙◌, [], refl, ap, inl}
use Rattle.repo_name.specs.declared.kinds.Kind.{Kind}
use Rattle.repo_wire.specs.declared.messages.Ask.{Ask}
use Rattle.repo_session.specs.Order.{last_of}
use Rattle.repo_session.specs.Readings.{KnowsIndexes}
use Rattle.repo_session.specs.Traces.{Exchange, silent}
use Rattle.repo_session.specs.Versions.{upto}
use Rattle.repo_session.proofs.Deleting.{listing_stays}
use Rattle.repo_session.proofs.KindReads.{due_index}
use Rattle.repo_session.proofs.Parting.{part_heeds, part_turns}
use Rattle.repo_prune.specs.Pruning.{prune_rule, prune_task}
use Rattle.repo_prune.specs.PruneStates.{KnowsPrune}
use Rattle.repo_prune.specs.declared.prunes.Prune.{Prune}
use Rattle.repo_prune.proofs.TreeReading.{on_any}
use Rattle.repo_prune.proofs.Asides.{target_later}
use Rattle.repo_prune.proofs.PruneListing.{indexes_known, indexes_back, index_listing, indexes_allowed, listing_untouched, unlisted_same, other_lists, pack_page}
use Rattle.repo_prune.proofs.prunes.Prune.take_indexes.Goals as goal

pub returns-in_err-read_on-clause-knows : goal.returns-in_err-read_on-clause-knows
returns-in_err-read_on-clause-knows c = on_any c.from_residual.result (λ is es known.
    let old = c.args.self.now in
    let h = indexes_known old c.args.ask.now es is known in
    let new : Prune = record { snapshots = old.snapshots; catalog = c.read_on.new.self; packs = old.packs; stage = old.stage; target = old.target; alloc = old.alloc } in
    indexes_back new c.args.ask.now es is (record { untouched = h.untouched; snapshots = h.snapshots; indexes = c.in_err-read_on.ensures.err c.args.ask.now es h.indexes; packs = h.packs; target = h.target }))

pub returns-in-All-clause-steps : goal.returns-in-All-clause-steps
returns-in-All-clause-steps c = λ token is who es w obeys asked.
    let old = c.args.self.now in
    let e : Exchange = silent c.args.ask.now c.args.say.now in
    let h = indexes_known old c.args.ask.now es is asked.knows in
    let all = (rw c.in-All.is at c.in_ok-read_on.ensures.ok) (upto who.versions) (prune_task who) token [] es w asked.may h.indexes in
    let untouched = listing_untouched Kind.Index e es is h.untouched in
    let packs = unlisted_same Kind.Index e es old.packs refl is h.packs in
    let due = c.page_ask.ensures.due (prune_task who) token (e ∷ es) w packs.none_read packs.rolled in
    let new : Prune = record { snapshots = old.snapshots; catalog = c.read_on.new.self; packs = old.packs; stage = old.stage; target = old.target; alloc = old.alloc } in
    let last = last_of old.packs.names.items in
    let page = pack_page new (e ∷ es) c.page_ask.result last (c.page_ask.ensures.ask ∙ ap (λ k. Ask.List k last) packs.of_packs) (record {
      untouched = untouched;
      snapshots = listing_stays e es old.snapshots.rows.items (other_lists Kind.Index Kind.Snapshot e refl is) h.snapshots;
      indexes = all.1.0;
      all = all.1.1;
      of_packs = packs.of_packs;
      packs = due.knows;
      target = target_later e es old.target.bytes h.target;
    }) in
    (inl refl, record { work = due.work; may = due.may; allowed = page.0; knows = page.1 })

pub returns-clause-steps : goal.returns-clause-steps
returns-clause-steps c = λ token is who es w obeys asked.
    let old = c.args.self.now in
    let e : Exchange = silent c.args.ask.now c.args.say.now in
    let h = indexes_known old c.args.ask.now es is asked.knows in
    let task = prune_task who in
    let new : Prune = record { snapshots = old.snapshots; catalog = c.read_on.new.self; packs = old.packs; stage = old.stage; target = old.target; alloc = old.alloc } in
    let on = (rw c.in-Step.is at c.in_ok-read_on.ensures.ok) (upto who.versions) task token [] es w asked.may h.indexes in
    let untouched = listing_untouched Kind.Index e es is h.untouched in
    let snapshots = listing_stays e es old.snapshots.rows.items (other_lists Kind.Index Kind.Snapshot e refl is) h.snapshots in
    part_turns prune_rule who (KnowsIndexes new.catalog) (KnowsPrune new) e es c.in-Step.step refl (inl refl) (λ ask due. (
      indexes_allowed (e ∷ es) ask old.snapshots.rows.items snapshots (due_index task new.catalog (e ∷ es) ask due) untouched,
      indexes_back new ask (e ∷ es) (index_listing new.catalog ask (e ∷ es) due.knows) (record {
        untouched = untouched;
        snapshots = snapshots;
        indexes = due.knows;
        packs = unlisted_same Kind.Index e es old.packs refl is h.packs;
        target = target_later e es old.target.bytes h.target;
      }),
    )) on

-- ---- on which replies it ends at once

pub returns-in-All-clause-heeds : goal.returns-in-All-clause-heeds
returns-in-All-clause-heeds c = λ token is who es w obeys asked.
    let h = indexes_known c.args.self.now c.args.ask.now es is asked.knows in
    let all = (rw c.in-All.is at c.in_ok-read_on.ensures.ok) (upto who.versions) (prune_task who) token [] es w asked.may h.indexes in
    λ ends. absurd (all.0 ends)

pub returns-clause-heeds : goal.returns-clause-heeds
returns-clause-heeds c = λ token is who es w obeys asked.
    let e : Exchange = silent c.args.ask.now c.args.say.now in
    let h = indexes_known c.args.self.now c.args.ask.now es is asked.knows in
    let on = (rw c.in-Step.is at c.in_ok-read_on.ensures.ok) (upto who.versions) (prune_task who) token [] es w asked.may h.indexes in
    part_heeds (upto who.versions) (prune_task who) (KnowsIndexes c.read_on.new.self) e es c.in-Step.step on
