use Rattle.std.proofs.Common.{◌≡◌, ℕ, List, map, take}
use Rattle.std.specs.Borrow.{Bor}
use Rattle.repo_script.proofs.cuts.path_with.Given as goal

abbrev pub invariant-loop-part : goal.invariant-loop-part
invariant-loop-part l = l.components.items ≡ map (λ (w : Bor (List ℕ)). w.now) (take l.part-index l.parts)
