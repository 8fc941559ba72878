use Rattle.std.proofs.Common.{arith, ◌≤◌, [], ℕ, length, List, refl, inl}
use Rattle.repo_name.specs.declared.kinds.BlobKind.{BlobKind}
use Rattle.repo_tree.specs.Spelling.{greatest_depth}
use Rattle.repo_session.proofs.Descending.{part_self}
use Rattle.repo_session.proofs.Reaching.{under_reached}
use Rattle.repo_session.specs.Received.{Received}
use Rattle.repo_restore.proofs.Positioning.{own_at}
use Rattle.repo_restore.proofs.Standing.{stopped_first}
use Rattle.repo_restore.proofs.walks.Walk.start.Goals as goal

pub returns-in-None : goal.returns-in-None
returns-in-None c = λ gs version levels entries onward.
    let root = c.args.root in
    let none : length {A = List ℕ} [] ≤ greatest_depth = omega arith in
    (inl (BlobKind.Tree, refl, c.in-None.ensures.none, under_reached version (Received gs) root [] root none (part_self version (Received gs) root), inl (own_at version (Received gs) root [] [] root [] (refl, refl, refl) none refl)), stopped_first c.args.lookup.now version (Received gs) root)
