use Rattle.std.proofs.Common.{false, refl, subst, inr}
use Rattle.std.proofs.lemmas.Result.{IfOk-weaker}
use Rattle.repo_name.specs.declared.kinds.BlobKind.{BlobKind}
use Rattle.repo_session.specs.Received.{Received}
use Rattle.repo_restore.specs.Walking.{WaitsByKind}
use Rattle.repo_session.specs.Rebuilding.{Follow}
use Rattle.repo_restore.specs.Walks.{is_open}
use Rattle.repo_restore.proofs.Refusing.{tree_refused}
use Rattle.repo_restore.proofs.Standing.{stopped_none}
use Rattle.repo_restore.proofs.Trees.{text_part}
use Rattle.repo_restore.proofs.Moving.{content_gives, text_moves}
use Rattle.repo_restore.proofs.walks.Walk.take.Goals as goal

pub returns-in-Ok-clause-ok : goal.returns-in-Ok-clause-ok
returns-in-Ok-clause-ok c = IfOk-weaker c.take_tree.result _ _ (λ turn enters gs root old h received named long none.
    let R : BlobKind → Type 0 = λ kind. Received gs kind c.args.bytes.now in
    let part = text_part c.args.version (Received gs) c.args.fact.name c.args.bytes.now c.in-Ok.nodes.items c.in-Ok.next (subst R c.in-Tree.is received) named c.in-Ok.ensures.ok in
    enters gs c.args.version root c.args.fact old h refl c.in-Tree.is refl part none) c.take_tree.ensures.ok

pub returns-in_ok-check_fault-in-Err-clause-ok : goal.returns-in_ok-check_fault-in-Err-clause-ok
returns-in_ok-check_fault-in-Err-clause-ok c = λ gs root old h received named long none.
    let w = c.args.self.now in
    let version = c.args.version in
    let K : BlobKind → Type 0 = λ kind. WaitsByKind kind c.args.lookup.now version (Received gs) root w.levels.items w.sent w.onward c.args.fact old in
    let R : BlobKind → Type 0 = λ kind. Received gs kind c.args.bytes.now in
    let unread = c.in-Err.ensures.none c.in_ok-check_fault-in-Err.ensures.fault in
    let waits = subst K c.in-Tree.is h.waits in
    let order = subst (λ kind. Follow false old (is_open kind)) c.in-Tree.is h.order in
    (inr (refl, none, tree_refused version (Received gs) root w.levels.items c.args.fact old order w.onward c.args.bytes.now waits (subst R c.in-Tree.is received) named unread), stopped_none c.args.lookup.now version (Received gs) root w.levels.items w.sent w.onward w.entries c.args.fact old _ none h)

pub returns-in-Content-clause-moves : goal.returns-in-Content-clause-moves
returns-in-Content-clause-moves c = content_gives c.args.version c.args.fact c.args.bytes.now c.args.self.now c.take_blob.new.out.items c.take_blob.new.self c.take_blob.result c.take_blob.ensures.moves

pub returns-in-Ok-clause-moves : goal.returns-in-Ok-clause-moves
returns-in-Ok-clause-moves c =
    text_moves c.args.version c.args.fact c.args.bytes.now c.args.self.now c.in-Ok.nodes.items c.in-Ok.next c.take_tree.new.out.items c.take_tree.new.self c.in-Tree.is c.in-Ok.ensures.ok c.take_tree.result c.take_tree.ensures.moves c.take_tree.ensures.parts
