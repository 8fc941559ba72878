use Rattle.std.proofs.Common.{◌∷◌, [], false, refl, sym, subst, inl}
use Rattle.repo_name.specs.declared.kinds.Kind.{Kind}
use Rattle.repo_session.specs.Ends.{MayFollow}
use Rattle.repo_session.specs.Listings.{KnowsSnapshots}
use Rattle.repo_session.specs.Readings.{PartSteps}
use Rattle.repo_session.specs.Traces.{Exchange, silent}
use Rattle.repo_session.specs.Versions.{upto}
use Rattle.repo_session.proofs.KindReads.{due_index, due_snapshot}
use Rattle.repo_session.proofs.Parting.{part_heeds, part_turns}
use Rattle.repo_prune.specs.Pruning.{prune_rule, prune_task}
use Rattle.repo_prune.specs.PruneStates.{IsListingOf, KnowsPrune}
use Rattle.repo_prune.specs.declared.prunes.Prune.{Prune}
use Rattle.repo_prune.proofs.Asides.{target_later}
use Rattle.repo_prune.proofs.PruneListing.{snapshots_known, snapshots_back, indexes_back, index_listing, roll_listing, indexes_allowed, snapshots_allowed, listing_untouched, unlisted_same, catalog_same}
use Rattle.repo_prune.proofs.TreeReading.{on_any}
use Rattle.repo_prune.proofs.prunes.Prune.take_snapshots.Goals as goal

pub returns-in_err-read_on-clause-knows : goal.returns-in_err-read_on-clause-knows
returns-in_err-read_on-clause-knows c = on_any c.from_residual.result (λ is es known.
    let old = c.args.self.now in
    let h = snapshots_known old c.args.ask.now es is known in
    let new : Prune = record { snapshots = c.read_on.new.self; catalog = old.catalog; packs = old.packs; stage = old.stage; target = old.target; alloc = old.alloc } in
    snapshots_back new c.args.ask.now es is (record {
      untouched = h.untouched;
      snapshots = c.in_err-read_on.ensures.err c.args.ask.now es h.snapshots;
      indexes = h.indexes;
      none_read = h.none_read;
      packs = h.packs;
      target = h.target;
    }))

pub returns-in-All-clause-steps : goal.returns-in-All-clause-steps
returns-in-All-clause-steps c = λ token is who knows es w obeys asked.
    let old = c.args.self.now in
    let e : Exchange = silent c.args.ask.now c.args.say.now in
    let h = snapshots_known old c.args.ask.now es is asked.knows in
    let lists = rw c.in-All.is at c.in_ok-read_on.ensures.ok in
    let listing = (lists (prune_task who) token [] es w asked.may h.snapshots).1 in
    let untouched = listing_untouched Kind.Snapshot e es is h.untouched in
    let indexes = catalog_same Kind.Snapshot e es old.catalog _ refl is h.indexes in
    let due = c.page_ask.ensures.due (prune_task who) token (e ∷ es) w h.none_read indexes in
    let next = c.page_ask.result in
    let first : IsListingOf Kind.Index next = index_listing old.catalog next (e ∷ es) due.knows in
    let new : Prune = record { snapshots = c.read_on.new.self; catalog = old.catalog; packs = old.packs; stage = old.stage; target = old.target; alloc = old.alloc } in (
      inl refl,
      record {
        work = due.work;
        may = due.may;
        allowed = indexes_allowed (e ∷ es) next new.snapshots.rows.items listing (due_index (prune_task who) old.catalog (e ∷ es) next due) untouched;
        knows = indexes_back new next (e ∷ es) first (record {
          untouched = untouched;
          snapshots = listing;
          indexes = due.knows;
          packs = unlisted_same Kind.Snapshot e es old.packs refl is h.packs;
          target = target_later e es old.target.bytes h.target;
        });
      },
    )

pub returns-in-Step-clause-steps : goal.returns-in-Step-clause-steps
returns-in-Step-clause-steps c = λ token is who knows es w obeys asked.
    let old = c.args.self.now in
    let e : Exchange = silent c.args.ask.now c.args.say.now in
    let h = snapshots_known old c.args.ask.now es is asked.knows in
    let task = prune_task who in
    let new : Prune = record { snapshots = c.read_on.new.self; catalog = old.catalog; packs = old.packs; stage = old.stage; target = old.target; alloc = old.alloc } in
    let lists = (rw c.in-Step.is at c.in_ok-read_on.ensures.ok) task token [] es w asked.may h.snapshots in
    let on = subst (λ versions. PartSteps (upto versions) task (KnowsSnapshots new.snapshots) e es c.in-Step.step) (sym knows) lists in
    let untouched = listing_untouched Kind.Snapshot e es is h.untouched in
    part_turns prune_rule who (KnowsSnapshots new.snapshots) (KnowsPrune new) e es c.in-Step.step refl (inl refl) (λ ask due.
    let listing : IsListingOf Kind.Snapshot ask = subst (λ k. IsListingOf k ask) due.knows.of_kind (roll_listing new.snapshots.roll ask (e ∷ es) due.knows.rolls) in (
      snapshots_allowed (e ∷ es) ask (due_snapshot task new.snapshots (e ∷ es) ask due) untouched,
      snapshots_back new ask (e ∷ es) listing (record {
        untouched = untouched;
        snapshots = due.knows;
        indexes = catalog_same Kind.Snapshot e es old.catalog _ refl is h.indexes;
        none_read = h.none_read;
        packs = unlisted_same Kind.Snapshot e es old.packs refl is h.packs;
        target = target_later e es old.target.bytes h.target;
      }),
    )) on

-- ---- on which replies it ends at once

pub returns-in-All-clause-heeds : goal.returns-in-All-clause-heeds
returns-in-All-clause-heeds c = λ token is who same es w obeys asked.
    let e : Exchange = silent c.args.ask.now c.args.say.now in
    let h = snapshots_known c.args.self.now c.args.ask.now es is asked.knows in
    let lists = (rw c.in-All.is at c.in_ok-read_on.ensures.ok) (prune_task who) token [] es w asked.may h.snapshots in
    λ ends. absurd (subst (λ versions. MayFollow (upto versions) false e) (sym same) lists.0 ends)

pub returns-in-Step-clause-heeds : goal.returns-in-Step-clause-heeds
returns-in-Step-clause-heeds c = λ token is who same es w obeys asked.
    let e : Exchange = silent c.args.ask.now c.args.say.now in
    let h = snapshots_known c.args.self.now c.args.ask.now es is asked.knows in
    let task = prune_task who in
    let Part = KnowsSnapshots c.read_on.new.self in
    let lists = (rw c.in-Step.is at c.in_ok-read_on.ensures.ok) task token [] es w asked.may h.snapshots in
    part_heeds (upto who.versions) task Part e es c.in-Step.step (subst (λ versions. PartSteps (upto versions) task Part e es c.in-Step.step) (sym same) lists)
