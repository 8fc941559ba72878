-- The blobs that were kept are the first ones.
use Rattle.std.proofs.Common.{◌≡◌, List, length, take}
use Rattle.repo_index.specs.declared.facts.Fact.{Fact}
use Rattle.repo_pack.specs.PackLayout.{Item}
use Rattle.repo_backup.specs.Packings.{IsPacking}
use Rattle.repo_backup.proofs.packing.Packing.take_back.Given as goal

abbrev pub invariant-loop-self : goal.invariant-loop-self
invariant-loop-self l = record {
  packing : (known : List Fact) (sent sealed : List Item) → IsPacking l.fn.self known sent sealed → IsPacking l.self known sent sealed;
  items : take l.count l.self.packer.writer.items ≡ take l.count l.fn.self.packer.writer.items;
  size : l.self.packer.writer.target ≡ l.fn.self.packer.writer.target;
  target : l.self.packer.target ≡ l.fn.self.packer.target;
  sealed : l.self.packer.sealed ≡ l.fn.self.packer.sealed;
}

abbrev pub decreases-loop-self : goal.decreases-loop-self
decreases-loop-self l = length l.self.packer.writer.items
