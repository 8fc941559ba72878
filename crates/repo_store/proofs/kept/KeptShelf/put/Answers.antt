use Rattle.std.proofs.Common.{sym, subst}
use Rattle.repo_store.specs.Kept.{Agrees}
use Rattle.repo_store.specs.Stores.{PutsObject}
use Rattle.repo_store.proofs.Remembering.{put_agrees, back_agrees, failed_agrees}
use Rattle.repo_store.proofs.kept.KeptShelf.put.Goals as goal

pub returns-in-Ok-clause-honest : goal.returns-in-Ok-clause-honest
returns-in-Ok-clause-honest g c h =
    let noted = c.in_ok-added.ensures.ok in
    (c.in-Ok.ensures.honest h.0, put_agrees c.args.self.now.known c.note.new.self c.args.kind c.args.name.now c.args.bytes.now _ _ h.1 noted.0 noted.1 (c.in-Ok.ensures.law h.0))

pub returns-in-Err-clause-honest : goal.returns-in-Err-clause-honest
returns-in-Err-clause-honest g c h =
    let kind = c.args.kind in
    let name = c.args.name.now in
    let old = g.S.Shelf.store c.args.self.now.inner in
    let new = g.S.Shelf.store c.put.new.self in
    let noted = c.in_ok-added.ensures.ok in
    let taken = c.take_back.ensures in
    let back = back_agrees c.args.self.now.known c.note.new.self c.take_back.new.self kind name c.in_ok-added.added old h.1 noted.0 noted.1 c.in_ok-added.ensures.new taken.added taken.other in
    let agrees = failed_agrees (PutsObject kind name c.args.bytes.now) c.in-Err.error c.take_back.new.self c.failed.new.self.known old new c.failed.ensures.fault c.failed.ensures.memory (c.in-Err.ensures.law h.0) back in
    (subst g.S.Shelf.honest (sym c.failed.ensures.inner) (c.in-Err.ensures.honest h.0), subst (λ s. Agrees c.failed.new.self.known (g.S.Shelf.store s)) (sym c.failed.ensures.inner) agrees)
