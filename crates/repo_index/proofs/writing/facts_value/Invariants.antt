-- The items so far are those of the first facts.
use Rattle.std.proofs.Common.{◌≡◌, take, All}
use Rattle.serde_json.specs.View.{items_view}
use Rattle.repo_index.specs.IndexText.{IsFact}
use Rattle.repo_index.specs.IndexWriting.{fact_items}
use Rattle.repo_index.proofs.writing.facts_value.Given as goal

abbrev pub invariant-loop-fact : goal.invariant-loop-fact
invariant-loop-fact l = record {
  same : items_view l.items.items ≡ fact_items (take l.fact-index l.facts);
  made : All IsFact (take l.fact-index l.facts);
}
