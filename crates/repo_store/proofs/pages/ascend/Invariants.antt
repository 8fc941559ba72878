use Rattle.std.proofs.Common.{◌↔◌, drop}
use Rattle.repo_store.specs.Pages.{NamesAscend}
use Rattle.repo_store.proofs.pages.ascend.Given as goal

abbrev pub invariant-loop-name : goal.invariant-loop-name
invariant-loop-name l = NamesAscend l.fn.after l.names ↔ NamesAscend l.last (drop l.name-index l.names)
