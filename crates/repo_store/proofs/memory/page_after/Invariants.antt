use Rattle.std.proofs.Common.{◌≡◌, ◌≤◌, ◌++◌, length, option_map}
use Rattle.std.specs.Map.{keys_of}
use Rattle.repo_store.specs.Memory.{above}
use Rattle.repo_store.proofs.memory.page_after.Given as goal

abbrev pub invariant-loop-name : goal.invariant-loop-name
invariant-loop-name g l =
    (goal.iterator-loop-name g).can_next l.name-iterator ×
    (goal.iterator-loop-name g).is_finite l.name-iterator ×
    (length l.names.items ≤ l.limit) ×
    (above (option_map (λ name. name.now) l.fn.after) l.map ≡ l.names.items ++ keys_of l.name-iterator)
