-- How a prune deletes.
use Rattle.std.specs.Prelude.{◌≡◌, ◌<◌, ◌≤◌, ◌+◌, ◌⊎◌, false, List, length, map, slice_get, Some}
use Rattle.repo_name.specs.declared.kinds.Kind.{Kind}
use Rattle.repo_name.specs.declared.names.Name.{Name}
use Rattle.repo_name.specs.declared.tokens.Token.{Token}
use Rattle.repo_index.specs.declared.facts.PackFacts.{PackFacts}
use Rattle.repo_wire.specs.declared.messages.Ask.{Ask}
use Rattle.repo_session.specs.declared.jobs.Step.{Step}
use Rattle.repo_session.specs.declared.outcomes.Outcome.{Outcome}
use Rattle.repo_prune.specs.inner.Picking.{ArePicked}
use Rattle.repo_prune.specs.declared.deleting.Deleting.{Deleting}
use Rattle.repo_prune.specs.declared.relisting.Relisting.{Relisting}

-- what is to be deleted: of these indexes those that weren't put, and of these packs those that no new index lists
pub record BeginsDeleting (r : Relisting) (indexes packs : List Name) (d : Deleting) : Type 0 where
  pub indexes_are : ArePicked indexes r.indexes.items false d.indexes.items
  pub packs_are : ArePicked packs (map (λ (listed : PackFacts). listed.pack) r.packs.items) false d.packs.items
  pub none_gone : (d.indexes_gone ≡ 0) × (d.packs_gone ≡ 0)
  pub bytes : d.bytes ≡ r.counts.bytes

-- what comes next: an index; a pack, once these are gone; or the end, once those are gone too
abbrev pub DeletesNext : Deleting → Token → Step → Type 0
DeletesNext d token step = ((n : Name) × (slice_get d.indexes.items d.indexes_gone ≡ Some n) × (step ≡ Step.Ask (Ask.Delete token Kind.Index n)))
    ⊎ ((length d.indexes.items ≤ d.indexes_gone) × (((n : Name) × (slice_get d.packs.items d.packs_gone ≡ Some n) × (step ≡ Step.Ask (Ask.Delete token Kind.Pack n)))
    ⊎ ((length d.packs.items ≤ d.packs_gone) × (step ≡ Step.Finish (Outcome.Pruned (length d.packs.items) d.bytes)))))

-- one more of the indexes, or of the packs, is gone
abbrev pub IsGone : Deleting → Kind → Deleting → Type 0
IsGone old Kind.Index new = (new.indexes ≡ old.indexes) × (new.packs ≡ old.packs) × (old.indexes_gone < length old.indexes.items → new.indexes_gone ≡ old.indexes_gone + 1) × (new.packs_gone ≡ old.packs_gone) × (new.bytes ≡ old.bytes)
IsGone old Kind.Pack new = (new.indexes ≡ old.indexes) × (new.packs ≡ old.packs) × (new.indexes_gone ≡ old.indexes_gone) × (old.packs_gone < length old.packs.items → new.packs_gone ≡ old.packs_gone + 1) × (new.bytes ≡ old.bytes)
IsGone old Kind.Snapshot new = new ≡ old
