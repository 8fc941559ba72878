use Rattle.std.proofs.Common.{◌∷◌, [], true, refl, subst, inl, ◌∙◌}
use Rattle.repo_name.specs.declared.kinds.Kind.{Kind}
use Rattle.repo_wire.specs.declared.messages.Ask.{Ask}
use Rattle.repo_session.specs.Order.{last_of}
use Rattle.repo_session.specs.Readings.{KnowsRoll}
use Rattle.repo_session.specs.Rolls.{IsRolled}
use Rattle.repo_session.specs.Traces.{Exchange, silent}
use Rattle.repo_session.specs.Versions.{upto}
use Rattle.repo_session.proofs.Deleting.{listing_stays}
use Rattle.repo_session.proofs.Parting.{part_heeds, part_turns}
use Rattle.repo_prune.specs.Pruning.{prune_rule, prune_task}
use Rattle.repo_prune.specs.PruneStates.{KnowsPrune, known_in}
use Rattle.repo_prune.specs.declared.prunes.Prune.{Prune}
use Rattle.repo_prune.proofs.Asides.{target_later}
use Rattle.repo_prune.proofs.Paging.{IsNextPage, page_behind}
use Rattle.repo_prune.proofs.PruneListing.{pack_page, packs_listed, listed_come, catalog_same, other_lists, listing_untouched, gone_on, may_step}
use Rattle.repo_prune.proofs.prunes.Prune.take_page.Goals as goal

pub returns-in-Ok-clause-steps : goal.returns-in-Ok-clause-steps
returns-in-Ok-clause-steps c = λ after who es w obeys asked.
    let old = c.args.self.now in
    let h = asked.knows in
    let e : Exchange = silent (Ask.List Kind.Pack after) c.args.say.now in
    let last = (rw c.in-All.is at c.in_ok-add_page.ensures.pages) (upto who.versions) (prune_task who) c.args.token Kind.Pack after [] es w asked.may h.packs in
    let packs = c.add_page.new.self in
    let rolled : IsRolled Kind.Pack packs.names.items packs.read true (e ∷ es) = subst (λ k. IsRolled k packs.names.items packs.read true (e ∷ es)) (c.add_page.ensures.kind ∙ h.of_packs) last.1.1 in
    let read = packs_listed old packs e es refl h.untouched h.snapshots h.indexes h.all h.target rolled.paged in
    let mid : Prune = record { snapshots = old.snapshots; catalog = old.catalog; packs = packs; stage = old.stage; target = old.target; alloc = old.alloc } in
    let comes = c.in-Ok.ensures.on who (e ∷ es) w read in
    let new = c.go.new.self in
    may_step new who e es c.go.result refl (listed_come (e ∷ es) read.1) (gone_on (known_in mid) who c.in-Ok.onward new c.go.result (e ∷ es) c.go.ensures.step c.go.ensures.stage c.go.ensures.known comes)

pub returns-in-Step-clause-steps : goal.returns-in-Step-clause-steps
returns-in-Step-clause-steps c = λ after who es w obeys asked.
    let old = c.args.self.now in
    let h = asked.knows in
    let e : Exchange = silent (Ask.List Kind.Pack after) c.args.say.now in
    let task = prune_task who in
    let packs = c.add_page.new.self in
    let new : Prune = record { snapshots = old.snapshots; catalog = old.catalog; packs = packs; stage = old.stage; target = old.target; alloc = old.alloc } in
    let takes = rw c.in-Step.is at c.in_ok-add_page.ensures.takes in
    let pages = (rw c.in-Step.is at c.in_ok-add_page.ensures.pages) (upto who.versions) task c.args.token Kind.Pack after [] es w asked.may h.packs in
    part_turns prune_rule who (IsNextPage task Kind.Pack packs) (KnowsPrune new) e es c.in-Step.step refl (inl refl) (λ ask due. pack_page new (e ∷ es) ask (last_of packs.names.items) due.knows.0 (record {
      untouched = listing_untouched Kind.Pack e es refl h.untouched;
      snapshots = listing_stays e es old.snapshots.rows.items (other_lists Kind.Pack Kind.Snapshot e refl refl) h.snapshots;
      indexes = catalog_same Kind.Pack e es old.catalog true refl refl h.indexes;
      all = h.all;
      of_packs = c.add_page.ensures.kind ∙ h.of_packs;
      packs = due.knows.1.knows;
      target = target_later e es old.target.bytes h.target;
    })) (page_behind (upto who.versions) task Kind.Pack old.packs packs e es c.in-Step.step h.of_packs takes pages)

-- ---- on which replies it ends at once

pub returns-in-Ok-clause-heeds : goal.returns-in-Ok-clause-heeds
returns-in-Ok-clause-heeds c = λ after who es w obeys asked.
    let last = (rw c.in-All.is at c.in_ok-add_page.ensures.pages) (upto who.versions) (prune_task who) c.args.token Kind.Pack after [] es w asked.may asked.knows.packs in
    λ ends. absurd (last.0 ends)

pub returns-in-Step-clause-heeds : goal.returns-in-Step-clause-heeds
returns-in-Step-clause-heeds c = λ after who es w obeys asked.
    let e : Exchange = silent (Ask.List Kind.Pack after) c.args.say.now in
    let pages = (rw c.in-Step.is at c.in_ok-add_page.ensures.pages) (upto who.versions) (prune_task who) c.args.token Kind.Pack after [] es w asked.may asked.knows.packs in
    part_heeds (upto who.versions) (prune_task who) (KnowsRoll c.add_page.new.self) e es c.in-Step.step pages
