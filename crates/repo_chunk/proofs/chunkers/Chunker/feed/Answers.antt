use Rattle.std.proofs.Common.{◌≡◌, ◌≢◌, ℕ, ◌+◌, List, ◌++◌, length, sym, ap, ◌∙◌, subst, append_assoc, take_all, arith}
use Rattle.std.proofs.lemmas.Bool.{eqb-true, eqb-false}
use Rattle.repo_chunk.specs.Parameters.{Parameters}
use Rattle.repo_chunk.specs.Cuts.{HasNoCut}
use Rattle.repo_chunk.specs.Chunkers.{params_of}
use Rattle.repo_chunk.proofs.Held.{Holds-uncut}
use Rattle.repo_chunk.proofs.Cutting.{cut_in_front}
use Rattle.repo_chunk.proofs.chunkers.Chunker.feed.Goals as goal

pub returns-then-gather-clause-cut : goal.returns-then-gather-clause-cut
returns-then-gather-clause-cut c = λ m h.
    cut_in_front (params_of c.args.self.now) m c.split_at.result.0.now c.split_at.result.1.now c.args.piece.now
    (length m + length c.split_at.result.0.now) (sym c.split_at.ensures.by_index.0) (c.if-gather.ensures.cut m h)

pub returns-then-is_empty-clause-uncut : goal.returns-then-is_empty-clause-uncut
returns-then-is_empty-clause-uncut c = λ m h.
    let front : List ℕ = c.split_at.result.0.now in
    let none : length c.split_at.result.1.now ≡ 0 =
    eqb-true (length c.split_at.result.1.now) 0 (sym c.is_empty.ensures ∙ c.if-is_empty.true) in
    let whole : front ≡ c.args.piece.now = c.split_at.ensures.front ∙ take_all c.min.result c.args.piece.now (omega arith) in
    let Bytes : List ℕ → Type 0 = λ bytes. HasNoCut (params_of c.args.self.now) (m ++ bytes) in
    let Params : Parameters → Type 0 = λ p. HasNoCut p (m ++ front) in
    subst Bytes whole (subst Params c.gather.ensures.params (Holds-uncut c.gather.new.self (m ++ front) (c.if-gather.ensures.more m h)))

pub roll-requires-2 : goal.roll-requires-2
unfolding params_of
roll-requires-2 c =
    let same : c.gather.new.self.params.min ≡ c.args.self.now.params.min = ap (λ p. p.min) c.gather.ensures.params in
    let taken : c.gather.new.self.taken ≡ c.args.self.now.taken + length c.split_at.result.0.now = c.if-gather.ensures.taken in
    let some : length c.split_at.result.1.now ≢ 0 =
    eqb-false (length c.split_at.result.1.now) 0 (sym c.is_empty.ensures ∙ c.if-is_empty.false) in
    omega arith

pub returns-in-More-clause-uncut : goal.returns-in-More-clause-uncut
returns-in-More-clause-uncut c = λ m h.
    let front : List ℕ = c.split_at.result.0.now in
    let rest : List ℕ = c.split_at.result.1.now in
    let whole : (m ++ front) ++ rest ≡ m ++ c.args.piece.now =
    append_assoc m front rest ∙ ap (λ t. m ++ t) (sym c.split_at.ensures.by_index.0) in
    let Params : Parameters → Type 0 = λ p. HasNoCut p ((m ++ front) ++ rest) in
    let Bytes : List ℕ → Type 0 = λ bytes. HasNoCut (params_of c.args.self.now) bytes in
    subst Bytes whole (subst Params c.gather.ensures.params (c.in-More.ensures.uncut (m ++ front) (c.if-gather.ensures.more m h)))
