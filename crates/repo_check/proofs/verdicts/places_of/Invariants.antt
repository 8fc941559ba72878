use Rattle.std.proofs.Common.{None, take}
use Rattle.repo_store.specs.Pages.{NamesAscend}
use Rattle.repo_check.specs.Fitting.{facts_by}
use Rattle.repo_check.specs.Rounds.{Match, round_of}
use Rattle.repo_check.specs.Verdicts.{IsFoundOfIndex}
use Rattle.repo_check.proofs.verdicts.places_of.Given as goal

abbrev pub invariant-loop-note : goal.invariant-loop-note
invariant-loop-note l = NamesAscend None l.packs.roll.names.items → Match (IsFoundOfIndex (facts_by (round_of l.packs))) (take l.note-index l.notes) l.found.items
