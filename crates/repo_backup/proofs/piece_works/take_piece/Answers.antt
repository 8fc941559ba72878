use Rattle.std.proofs.Common.{rules, arith, ◌≡◌, take, take_all, length, sym, ap, subst, List, ℕ, ◌∙◌}
use Rattle.std.proofs.Math.Seq.{take-append_seam}
use Rattle.repo_chunk.specs.Cuts.{HasNoCut}
use Rattle.repo_chunk.specs.Parameters.{Parameters}
use Rattle.repo_backup.specs.Pieces.{EndsChunk}
use Rattle.repo_backup.proofs.Biting.{ends_from}
use Rattle.repo_backup.proofs.Closing.{uncut_of}
use Rattle.repo_backup.proofs.piece_works.take_piece.Goals as goal

pub returns-in-Ok-clause-ok : goal.returns-in-Ok-clause-ok
returns-in-Ok-clause-ok c =
    let known = c.args.lookup.now in
    let f = c.args.file.now in
    let h = c.scan.new.self in
    let g = c.end_chunk.new.file in
    let p = c.args.packing.now in
    let q = c.end_chunk.new.packing in
    let chunk : List ℕ = c.in-Chunk.chunk.items in
    let ends : EndsChunk known chunk h p c.in-Ok.named c.in-Ok.listed g q = subst (λ (l : List ℕ). EndsChunk known l h p c.in-Ok.named c.in-Ok.listed g q) c.deref.ensures.value c.in-Ok.ensures.ok in
    (search rules, search rules, search rules, ends_from known chunk f h g p q c.in-Ok.named c.in-Ok.listed c.scan.ensures.ended (ap (λ v. v.items) c.scan.ensures.content) ends)

pub back-requires : goal.back-requires
back-requires c =
    let f = c.args.file.now in
    let chunk : List ℕ = c.in-Chunk.chunk.items in
    let scans = rw c.in-Chunk.is at c.in_ok-scan.ensures.ok in
    let rest : take c.mark-mark.result.rest chunk ≡ f.rest.items = (λ i. take (c.mark-mark.ensures.rest i) (scans.2 i)) ∙ take-append_seam f.rest.items (take c.in-Chunk.count c.args.piece.now) in
    subst (λ (q : Parameters). HasNoCut q (take c.mark-mark.result.rest chunk)) (sym (c.end_chunk.ensures.params ∙ c.scan.ensures.params)) (subst (λ (b : List ℕ). HasNoCut f.params b) (sym rest) (uncut_of f))

pub returns-in-Err-clause-err : goal.returns-in-Err-clause-err
returns-in-Err-clause-err c =
    let f = c.args.file.now in
    let chunk : List ℕ = c.in-Chunk.chunk.items in
    let scans = rw c.in-Chunk.is at c.in_ok-scan.ensures.ok in
    let mark = c.mark-mark.ensures in
    let back = c.back.ensures in
    let same = c.in-Err.ensures.err.0 in
    let rest : take c.mark-mark.result.rest chunk ≡ f.rest.items = (λ i. take (mark.rest i) (scans.2 i)) ∙ take-append_seam f.rest.items (take c.in-Chunk.count c.args.piece.now) in
    let content = (λ i. take (mark.chunks i) ((same.2 ∙ ap (λ v. v.items) c.scan.ensures.content) i)) ∙ take_all (length f.content.items) f.content.items (omega arith) in
    let ended = (λ i. take (mark.ended i) ((same.5 ∙ c.scan.ensures.ended) i)) ∙ take_all (length f.ended) f.ended (omega arith) in (
      (back.name ∙ same.0 ∙ c.scan.ensures.name, back.size ∙ mark.size, back.content ∙ content, back.rest ∙ rest, back.params ∙ same.4 ∙ c.scan.ensures.params, back.ended ∙ ended),
      c.in-Err.ensures.err.1,
    )
