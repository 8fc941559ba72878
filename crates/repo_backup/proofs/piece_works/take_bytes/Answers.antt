use Rattle.std.proofs.Common.{rules, arith, ◌≡◌, ◌≢◌, ◌+◌, [], ℕ, List, length, take, drop, None, refl, sym, ap, subst, ◌∙◌, length-drop}
use Rattle.std.specs.Option.{option_or}
use Rattle.std.proofs.Math.Seq.{take-append_seam}
use Rattle.repo_chunk.specs.Cuts.{HasNoCut}
use Rattle.repo_chunk.specs.Parameters.{Parameters}
use Rattle.repo_backup.specs.Pieces.{first_ended, first_rest}
use Rattle.repo_backup.proofs.Biting.{TakesSome, bites_as, bites_on, bites_whole, takes_as, takes_none, takes_on, kept_or, chunk_bytes, not_listed, is_listed, first_same, ended_same}
use Rattle.repo_backup.proofs.Closing.{uncut_of}
use Rattle.repo_backup.proofs.piece_works.take_bytes.Goals as goal

pub loop-taken-init : goal.loop-taken-init
loop-taken-init c = takes_none c.args.lookup.now c.args.piece.now c.args.file.now c.args.packing.now c.requires.small c.requires.room c.requires.unsealed

pub returns-then-is_some-clause-ok : goal.returns-then-is_some-clause-ok
returns-then-is_some-clause-ok c = λ w unended unlaid.
    let inv = c.loop-taken.invariant in
    let k = c.in-Ok.bite in
    let e = c.in-Ok.ensures in
    let piece : List ℕ = c.args.piece.now in
    let rest : List ℕ = c.split_at.result.1.now in
    let taken = c.loop-taken.taken in
    let n = k.count in
    let f0 = c.args.file.now in
    let f = c.loop-taken.file in
    let g = c.take_piece.new.file in
    let p0 = c.args.packing.now in
    let p = c.loop-taken.packing in
    let q = c.take_piece.new.packing in
    let known = c.args.lookup.now in
    let listed = k.listed in
    let chunk = chunk_bytes k.chunk in
    let is : rest ≡ drop taken piece = c.split_at.ensures.back in
    let some : listed ≢ None = is_listed listed c.if-is_some.ensures in
    let same = c.reuse.ensures in
    let whole = bites_whole known rest f g p q n listed chunk k.named some e.ok in
    let long : length rest + taken ≡ length piece = omega (arith, ap length is, length-drop taken piece, inv.within) in (
      omega (arith, long, e.count.1),
      (λ any. omega (arith, e.count.0)),
      (λ none. absurd (some none)),
      (λ any. (same.3 ∙ whole.0, c.reuse-then-is_some.ensures ∙ same.5 ∙ whole.1)),
      bites_on known piece rest taken n f0 f _ p0 p q chunk k.named listed is inv.within inv.size c.requires.small inv.unsealed inv.grows e.count.0 e.count.1 (same.0 ∙ e.name) (same.1 ∙ e.size) (same.4 ∙ e.params)
          (bites_as known rest f g _ p q n chunk k.named listed same.3 same.2 (c.reuse-then-is_some.ensures ∙ same.5) e.ok) inv.goes w unended unlaid,
    )

pub returns-clause-ok : goal.returns-clause-ok
returns-clause-ok c = λ w unended unlaid.
    let inv = c.loop-taken.invariant in
    let piece : List ℕ = c.args.piece.now in
    let taken = c.loop-taken.taken in
    let all : taken ≡ length piece = omega (arith, inv.within, c.loop-taken-test.false) in
    let same = c.reuse-2.ensures in (
      inv.within,
      (λ some. omega (arith, all, some)),
      (λ none. all),
      (λ some. absurd (some refl)),
      takes_as c.args.lookup.now (take taken piece) w c.args.file.now c.loop-taken.file _ c.args.packing.now c.loop-taken.packing unlaid inv.unsealed inv.grows.1 same.0 same.1 same.2 same.3 same.4 (c.reuse-3.ensures ∙ same.5) (inv.goes w unended unlaid),
    )

pub back-requires : goal.back-requires
back-requires c =
    let inv = c.loop-taken.invariant in
    let f0 = c.args.file.now in
    let f = c.loop-taken.file in
    let g = c.take_piece.new.file in
    let same = c.in-Err.ensures.err.0 in
    let first = chunk_bytes c.loop-taken.first in
    let params : g.params ≡ f0.params = same.4 ∙ inv.params in
    let rest : take c.mark-mark.result.rest (first_rest first g) ≡ f0.rest.items = (λ i. take (c.mark-mark.ensures.rest i) (first_same first f g same.3 i)) ∙ inv.rest in
    subst (λ (q : Parameters). HasNoCut q (take c.mark-mark.result.rest (first_rest first g))) (sym params) (subst (λ (b : List ℕ). HasNoCut f0.params b) (sym rest) (uncut_of f0))

pub returns-in-Err-clause-err : goal.returns-in-Err-clause-err
returns-in-Err-clause-err c =
    let inv = c.loop-taken.invariant in
    let known = c.args.lookup.now in
    let f0 = c.args.file.now in
    let f = c.loop-taken.file in
    let g = c.take_piece.new.file in
    let p0 = c.args.packing.now in
    let err = c.in-Err.ensures.err in
    let same = err.0 in
    let stays = err.1 in
    let first = chunk_bytes c.loop-taken.first in
    let named = c.loop-taken.ended in
    let mark = c.mark-mark.ensures in
    let back = c.back.ensures in
    let less = c.take_back.ensures in
    let rest : take c.mark-mark.result.rest (first_rest first g) ≡ f0.rest.items = (λ i. take (mark.rest i) (first_same first f g same.3 i)) ∙ inv.rest in
    let ended : take c.mark-mark.result.ended (first_ended named g) ≡ f0.ended = (λ i. take (mark.ended i) (ended_same named f g same.5 i)) ∙ inv.ended in
    let content : take c.mark-mark.result.chunks g.content.items ≡ f0.content.items = (λ i. take (mark.chunks i) ((same.2 ∙ inv.chunks.1) i)) ∙ take-append_seam f0.content.items inv.chunks.0 in
    let count : c.len-packed.result ≡ length p0.packer.writer.items = search rules in
    let items : c.take_back.new.self.packer.writer.items ≡ p0.packer.writer.items =
    less.items ∙ (λ i. take (count i) ((ap (λ w. w.items) stays.0 ∙ inv.grows.0.1) i)) ∙ take-append_seam p0.packer.writer.items inv.grows.0.0 in
    let target : c.take_back.new.self.packer.writer.target ≡ p0.packer.writer.target = less.size ∙ ap (λ w. w.target) stays.0 ∙ inv.grows.1 in (
      (back.name ∙ same.0 ∙ inv.name, back.size ∙ mark.size, back.content ∙ content, back.rest ∙ rest, back.params ∙ same.4 ∙ inv.params, back.ended ∙ ended),
      ((λ i. record { items = items i; target = target i }), less.sealed ∙ stays.1 ∙ inv.unsealed ∙ sym c.requires.unsealed, λ sent h. less.packing known sent [] (stays.2 sent (inv.packs sent h))),
    )

pub loop-taken-preserved : goal.loop-taken-preserved
loop-taken-preserved c =
    let inv = c.loop-taken.invariant in
    let k = c.in-Ok.bite in
    let e = c.in-Ok.ensures in
    let piece : List ℕ = c.args.piece.now in
    let rest : List ℕ = c.split_at.result.1.now in
    let taken = c.loop-taken.taken in
    let n = k.count in
    let f0 = c.args.file.now in
    let f = c.loop-taken.file in
    let g = c.take_piece.new.file in
    let p0 = c.args.packing.now in
    let p = c.loop-taken.packing in
    let q = c.take_piece.new.packing in
    let known = c.args.lookup.now in
    let listed = k.listed in
    let chunk = chunk_bytes k.chunk in
    let is : rest ≡ drop taken piece = c.split_at.ensures.back in
    let none : listed ≡ None = not_listed listed c.if-is_some.ensures in
    let on = takes_on known piece rest taken n (chunk_bytes c.loop-taken.first) chunk c.loop-taken.ended k.named listed f0 f g p0 p q inv is c.requires.small e.count.0 e.count.1 e.name e.size e.params none e.room e.aims.0 e.ok in
    let first = kept_or c.loop-taken.first k.chunk ∙ ap chunk_bytes (sym c.or-first.ensures) in
    let named = sym c.or-ended.ensures in
    subst (λ o. TakesSome known piece (taken + n) (chunk_bytes c.or-first.result) o f0 g p0 q) named (subst (λ o. TakesSome known piece (taken + n) o (option_or c.loop-taken.ended k.named) f0 g p0 q) first on)
