use Rattle.std.proofs.Common.{take, Contains}
use Rattle.repo_name.specs.declared.kinds.BlobKind.TheVariants.{Content}
use Rattle.repo_name.specs.declared.names.Name.{Name}
use Rattle.repo_reach.specs.Used.{UsedHasPair}
use Rattle.repo_writing.specs.Blobs.{HasFact}
use Rattle.repo_prune.proofs.unfound.unfound_in.Given as goal

abbrev pub invariant-loop-name : goal.invariant-loop-name
invariant-loop-name l = (n : Name) → Contains (take l.name-index l.content) n → UsedHasPair l.used Content n → HasFact l.lookup Content n
