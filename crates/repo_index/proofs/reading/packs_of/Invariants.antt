-- The values begin with those of the packs so far, and the ones that are left follow.
use Rattle.std.proofs.Common.{drop}
use Rattle.serde_json.specs.View.{items_view}
use Rattle.repo_json.specs.Listing.{BeginsWith}
use Rattle.repo_index.specs.IndexText.{PackLists}
use Rattle.repo_index.proofs.reading.packs_of.Given as goal

abbrev pub invariant-loop-value : goal.invariant-loop-value
invariant-loop-value l = BeginsWith PackLists (items_view l.values) l.packs.items (items_view (drop l.value-index l.values))
