use Rattle.std.proofs.Common.{[], false, refl, sym, subst, inl}
use Rattle.repo_name.specs.declared.kinds.Kind.{Kind}
use Rattle.repo_session.specs.Jobs.{task_under}
use Rattle.repo_session.specs.Order.{opened}
use Rattle.repo_session.specs.Rolls.{IsRolled}
use Rattle.repo_session.proofs.Cataloguing.{catalog_fresh}
use Rattle.repo_session.proofs.Deleting.{none_deleted_at_first}
use Rattle.repo_session.proofs.Holding.{opened_working}
use Rattle.repo_session.proofs.KindReads.{due_snapshot}
use Rattle.repo_session.proofs.Listing.{opened_snapshots}
use Rattle.repo_session.proofs.Rolling.{opened_rolled}
use Rattle.repo_writing.proofs.Filling.{most_known}
use Rattle.repo_prune.specs.Pruning.{prune_rule, HasOnlyListed}
use Rattle.repo_prune.specs.PruneStates.{IsListingOf}
use Rattle.repo_prune.specs.declared.prunes.Prune.{Prune}
use Rattle.repo_prune.proofs.PruneListing.{snapshots_back, roll_listing, snapshots_allowed, opened_unranged}
use Rattle.repo_prune.proofs.prunes.PruneJob.opened.Goals as goal

pub returns-clause-begins : goal.returns-clause-begins
returns-clause-begins c = λ text fresh reads known.
    let old = c.args.self.now in
    let holding = c.args._holder.now in
    let config = c.args.config.now in
    let task = task_under prune_rule holding.who in
    let es = opened task holding.token text in
    let working = opened_working task holding.token text config reads known in
    let due = c.page_ask.ensures.due task holding.token es working fresh.snapshots.none_read (opened_snapshots old.snapshots task holding.token text fresh.snapshots) in
    let untouched : HasOnlyListed es = record { none_put = λ k. refl; none_deleted = none_deleted_at_first task holding.token text; none_ranged = opened_unranged task holding.token text } in
    let next = c.page_ask.result in
    let listing : IsListingOf Kind.Snapshot next = subst (λ k. IsListingOf k next) due.knows.of_kind (roll_listing old.snapshots.roll next es due.knows.rolls) in
    let new : Prune = record { snapshots = old.snapshots; catalog = old.catalog; packs = old.packs; stage = old.stage; target = c.of_config-self.result; alloc = old.alloc } in
    record {
      work = due.work;
      may = due.may;
      allowed = snapshots_allowed es next (due_snapshot task old.snapshots es next due) untouched;
      knows = snapshots_back new next es listing (record {
        untouched = untouched;
        snapshots = due.knows;
        indexes = catalog_fresh task holding.token text old.catalog.roll.kind old.catalog.roll.names.items old.catalog.roll.read old.catalog.lookup es fresh.of_indexes fresh.no_indexes fresh.no_index_read fresh.no_facts refl;
        none_read = fresh.no_index_read;
        packs = record {
          of_packs = fresh.of_packs;
          none_read = fresh.no_pack_read;
          rolled = subst (λ ns. IsRolled old.packs.kind ns old.packs.read false es) (sym fresh.no_packs)
              (subst (λ i. IsRolled old.packs.kind [] i false es) (sym fresh.no_pack_read) (opened_rolled old.packs.kind task holding.token text));
        };
        target = (
          config,
          record { text = text; read = inl (refl, refl); reads = reads; known = most_known config.version holding.who.versions known },
          sym (c.of_config-self.ensures reads.allowed.1),
        );
      });
    }
