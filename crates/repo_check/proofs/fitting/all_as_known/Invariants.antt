use Rattle.std.proofs.Common.{drop, None, Contains}
use Rattle.repo_name.specs.declared.names.Name.{Name}
use Rattle.repo_store.specs.Pages.{NamesAscend}
use Rattle.repo_check.specs.Fitting.{ListsAsKnown, facts_by}
use Rattle.repo_check.specs.Rounds.{round_of}
use Rattle.repo_check.proofs.fitting.all_as_known.Given as goal

abbrev pub invariant-loop-pack : goal.invariant-loop-pack
invariant-loop-pack l = NamesAscend None l.packs.roll.names.items → ((pack : Name) → Contains (drop l.pack-index l.names) pack → ListsAsKnown l.own (facts_by (round_of l.packs)) pack) → (pack : Name) → Contains l.names pack → ListsAsKnown l.own (facts_by (round_of l.packs)) pack
