use Rattle.std.proofs.Common.{◌≡◌, ◌<◌, ◌++◌, ◌∷◌, [], ℕ, List, Some, length, sym, ap, subst, ◌∙◌}
use Rattle.std.proofs.lemmas.Option.{slice_get_within}
use Rattle.repo_name.specs.declared.names.Name.{Name}
use Rattle.repo_session.specs.declared.emissions.Emission.{Emission}
use Rattle.repo_session.specs.Rebuilding.{rebuilt}
use Rattle.repo_restore.specs.declared.nodes.Level.{Level}
use Rattle.repo_session.specs.Received.{Received}
use Rattle.repo_restore.specs.Walking.{StopsAt, Turns}
use Rattle.repo_restore.specs.Walks.{AtOpen}
use Rattle.repo_restore.proofs.Passing.{file_waits, blob_last, blob_more, blob_there}
use Rattle.repo_restore.proofs.Moving.{some_put, some_moves}
use Rattle.repo_restore.proofs.walks.Walk.take_blob.Goals as goal

pub returns-in_ok-stop-in-Done-clause-ok : goal.returns-in_ok-stop-in-Done-clause-ok
returns-in_ok-stop-in-Done-clause-ok c = λ gs version root fact old h k among named long none.
    let w = c.args.self.now in
    let levels = w.levels.items in
    let facts = c.args.lookup.now in
    let out = c.args.out.now.items in
    let mid = c.push.new.self.items in
    let new = c.next_blob.new.out.items in
    let content = c.open_content-content.result.now in
    let next = c.one_more-sent.result in
    let bytes = c.args.bytes.now in
    let both = file_waits facts version (Received gs) root levels w.sent w.onward w.entries fact old out mid new content next bytes h k in
    let f = both.0 in
    let same = c.open_content-content.ensures f.above f.level f.node f.size f.content (c.as_slice.ensures.value ∙ f.levels_are) (f.begun.at, f.begun.counts, f.begun.node_is) f.file in
    let within = slice_get_within f.content w.sent fact.name f.asked in
    let count = c.one_more-sent.ensures (let P : List Name → Type 0 = λ ns. w.sent < length ns in subst P (sym same) within) in
    let m : mid ≡ out ++ Emission.Piece bytes ∷ [] = c.in_ok-push.ensures.items ∙ ap (λ b. out ++ Emission.Piece b ∷ []) c.in_ok-piece.ensures in
    let b = rw c.in-Done.is at c.in_ok-next_blob.ensures in
    let last = blob_last facts version (Received gs) root levels w.sent w.onward w.entries fact old out mid new content next bytes f both.1 same count among named long none m both.2 b in
    let begun : c.innermost_begun-begun.result ≡ f.level.begun = c.innermost_begun-begun.ensures f.above f.level (c.as_slice-in-Done.ensures.value ∙ f.levels_are) in
    let slice = c.as_slice-in-Done-2.result.now in
    let N : ℕ → Type 0 = λ n. AtOpen version (Received gs) root levels (length levels) n (rebuilt (old ++ new)) in
    let A : List Level → Type 0 = λ ls. AtOpen version (Received gs) root ls (length ls) c.innermost_begun-begun.result (rebuilt (old ++ new)) in
    let stops = c.in_ok-stop-in-Done.ensures.goes gs version root old (subst A (sym c.as_slice-in-Done-2.ensures.value) (subst N (sym begun) last.0)) last.1 in
    let out' = c.go_on.new.out.items in
    let stop = c.in_ok-stop-in-Done.stop in
    let F : List Level → Type 0 = λ ls. StopsAt facts version (Received gs) root ls old out' stop.depth stop.begun stop.what in
    let G : List Emission → Type 0 = λ e. StopsAt facts version (Received gs) root levels old e stop.depth stop.begun stop.what in
    let R : List Emission → Type 0 = λ e. Turns (Some fact.name) facts version (Received gs) root c.stop_at.new.self old e c.stop_at.result in
    subst R c.as_slice-in-Done-3.ensures.value (c.stop_at.ensures.turns (Some fact.name) facts gs version root old (subst G (sym c.as_slice-in-Done-3.ensures.value) (subst F c.as_slice-in-Done-2.ensures.value stops)) h.count)

pub returns-in-Waits-clause-ok : goal.returns-in-Waits-clause-ok
returns-in-Waits-clause-ok c = λ gs version root fact old h k among named long none.
    let w = c.args.self.now in
    let levels = w.levels.items in
    let facts = c.args.lookup.now in
    let out = c.args.out.now.items in
    let mid = c.push.new.self.items in
    let new = c.next_blob.new.out.items in
    let content = c.open_content-content.result.now in
    let next = c.one_more-sent.result in
    let bytes = c.args.bytes.now in
    let both = file_waits facts version (Received gs) root levels w.sent w.onward w.entries fact old out mid new content next bytes h k in
    let f = both.0 in
    let same = c.open_content-content.ensures f.above f.level f.node f.size f.content (c.as_slice.ensures.value ∙ f.levels_are) (f.begun.at, f.begun.counts, f.begun.node_is) f.file in
    let within = slice_get_within f.content w.sent fact.name f.asked in
    let count = c.one_more-sent.ensures (let P : List Name → Type 0 = λ ns. w.sent < length ns in subst P (sym same) within) in
    let m : mid ≡ out ++ Emission.Piece bytes ∷ [] = c.in_ok-push.ensures.items ∙ ap (λ b. out ++ Emission.Piece b ∷ []) c.in_ok-piece.ensures in
    let b = rw c.in-Waits.is at c.in_ok-next_blob.ensures in
    blob_more facts version (Received gs) root levels w.sent w.onward w.entries fact old out mid new content next bytes c.in-Waits.fact f both.1 same count among named long none m h.count both.2 b

pub returns-in-Ended-clause-ok : goal.returns-in-Ended-clause-ok
returns-in-Ended-clause-ok c = λ gs version root fact old h k among named long none.
    let w = c.args.self.now in
    let levels = w.levels.items in
    let facts = c.args.lookup.now in
    let content = c.open_content-content.result.now in
    let both = file_waits facts version (Received gs) root levels w.sent w.onward w.entries fact old c.args.out.now.items c.push.new.self.items c.next_blob.new.out.items content c.one_more-sent.result c.args.bytes.now h k in
    let f = both.0 in
    let same = c.open_content-content.ensures f.above f.level f.node f.size f.content (c.as_slice.ensures.value ∙ f.levels_are) (f.begun.at, f.begun.counts, f.begun.node_is) f.file in
    let within = slice_get_within f.content w.sent fact.name f.asked in
    let count = c.one_more-sent.ensures (let P : List Name → Type 0 = λ ns. w.sent < length ns in subst P (sym same) within) in
    let b = rw c.in-Ended.is at c.in_ok-next_blob.ensures in
    absurd (blob_there facts version (Received gs) root levels w.sent w.onward w.entries fact old c.args.out.now.items c.push.new.self.items c.next_blob.new.out.items content c.one_more-sent.result c.args.bytes.now f both.1 same count c.in-Ended.end among named long b)

pub returns-in-GoesOn-clause-ok : goal.returns-in-GoesOn-clause-ok
returns-in-GoesOn-clause-ok c = λ gs version root fact old h k among named long none. absurd (rw c.in-GoesOn.is at c.in_ok-next_blob.ensures)

pub returns-in_ok-stop-in-Done-clause-moves : goal.returns-in_ok-stop-in-Done-clause-moves
returns-in_ok-stop-in-Done-clause-moves c =
    let b = rw c.in-Done.is at c.in_ok-next_blob.ensures in
    let some = some_put c.push.new.self.items c.next_blob.new.out.items Emission.Close [] b.1 in
    some_moves c.as_slice-in-Done-2.result.now c.innermost_begun-begun.result c.in_ok-stop-in-Done.stop.what c.next_blob.new.out.items c.go_on.new.out.items c.stop_at.result c.stop_at.new.self some c.in_ok-stop-in-Done.ensures.moves c.stop_at.ensures.asks

pub returns-in-Waits-clause-moves : goal.returns-in-Waits-clause-moves
returns-in-Waits-clause-moves c =
    let b = rw c.in-Waits.is at c.in_ok-next_blob.ensures in
    some_put c.args.out.now.items c.next_blob.new.out.items (Emission.Piece c.in_ok-piece.piece) [] (b.2 ∙ c.in_ok-push.ensures.items)

pub returns-in-GoesOn-clause-moves : goal.returns-in-GoesOn-clause-moves
returns-in-GoesOn-clause-moves c = absurd (rw c.in-GoesOn.is at c.in_ok-next_blob.ensures)
