-- The values begin with those of some names, and the ones that are left follow.
use Rattle.std.proofs.Common.{drop, List}
use Rattle.serde_json.specs.View.{items_view}
use Rattle.repo_name.specs.declared.names.Name.{Name}
use Rattle.repo_json.specs.Listing.{BeginsWith}
use Rattle.repo_index.specs.IndexText.{IsNameText}
use Rattle.repo_index.proofs.reading.check_names.Given as goal

abbrev pub invariant-loop-value : goal.invariant-loop-value
invariant-loop-value l = (names : List Name) × BeginsWith IsNameText (items_view l.values) names (items_view (drop l.value-index l.values))
