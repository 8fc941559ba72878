-- The items so far are those of the first packs.
use Rattle.std.proofs.Common.{◌≡◌, take}
use Rattle.serde_json.specs.View.{items_view}
use Rattle.repo_index.specs.IndexWriting.{pack_items, ArePacks}
use Rattle.repo_index.proofs.writing.packs_value.Given as goal

abbrev pub invariant-loop-listed : goal.invariant-loop-listed
invariant-loop-listed l = record {
  same : items_view l.items.items ≡ pack_items (take l.listed-index l.packs);
  made : ArePacks (take l.listed-index l.packs);
}
