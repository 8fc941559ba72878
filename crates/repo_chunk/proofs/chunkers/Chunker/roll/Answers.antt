use Rattle.std.proofs.Common.{◌≡◌, ℕ, ◌+◌, ◌-◌, inl, inr, List, ◌++◌, length, refl, sym, ◌∙◌, subst, arith, take_all}
use Rattle.std.specs.Prelude.{replicate}
use Rattle.std.proofs.lemmas.List.{length-append}
use Rattle.repo_chunk.specs.inner.Rolling.{IsFirstMark}
use Rattle.repo_chunk.specs.Cuts.{IsCut, HasNoCut}
use Rattle.repo_chunk.specs.Chunkers.{Holds, params_of}
use Rattle.repo_chunk.specs.declared.rolling.Found.TheVariants.{Mark, NoMark}
use Rattle.repo_chunk.proofs.Cutting.{last_slides, rolled_on, rolled_cut, rolled_uncut, cut_in_front}
use Rattle.repo_chunk.proofs.chunkers.Chunker.roll.Goals as goal

pub returns-in-Mark-clause-cut : goal.returns-in-Mark-clause-cut
unfolding Holds params_of
returns-in-Mark-clause-cut c = λ m h.
    let old = c.args.self.now in
    let front : List ℕ = c.split_at.result.0.now in
    let Bits : ℕ → Type 0 = λ bits. IsFirstMark bits (old.window ++ front) (length front) (Mark c.in-Mark.n) in
    let found = subst Bits c.bits.ensures.value c.in-Mark.ensures in
    cut_in_front old.params m front c.split_at.result.1.now c.args.piece.now (length m + c.in-Mark.n) (sym c.split_at.ensures.by_index.0)
    (rolled_cut old.params (replicate 64 0) m old.window front refl (omega (arith, h.1, c.max.ensures.lawful.least)) h.0 h.2 c.in-Mark.n
    found.0 found.1 (omega (arith, h.1)) (omega (arith, h.1, found.1)) found.3 (inr found.2))

pub returns-in-NoMark-clause-cut : goal.returns-in-NoMark-clause-cut
unfolding Holds params_of
returns-in-NoMark-clause-cut c = λ m h.
    let old = c.args.self.now in
    let front : List ℕ = c.split_at.result.0.now in
    let Bits : ℕ → Type 0 = λ bits. IsFirstMark bits (old.window ++ front) (length front) (NoMark c.in-NoMark.field-0) in
    let found = subst Bits c.bits.ensures.value c.in-NoMark.ensures in
    let Length : ℕ → Type 0 = λ n. IsCut old.params (m ++ c.args.piece.now) n in
    let room : length m + length front ≡ length m + (c.max-2.result - old.taken) = omega arith in
    subst Length room
    (cut_in_front old.params m front c.split_at.result.1.now c.args.piece.now (length m + length front) (sym c.split_at.ensures.by_index.0)
    (rolled_cut old.params (replicate 64 0) m old.window front refl (omega (arith, h.1, c.max.ensures.lawful.least)) h.0 h.2 (length front)
    (omega arith) (omega arith) (omega (arith, h.1)) (omega (arith, h.1)) (λ k some less. found.0 k some (omega arith))
    (inl (omega (arith, h.1)))))

pub invariant_of-self-in-NoMark-2 : goal.invariant_of-self-in-NoMark-2
invariant_of-self-in-NoMark-2 c =
    let whole : c.split_at.result.0.now ≡ c.args.piece.now =
    c.split_at.ensures.front ∙ take_all c.min.result c.args.piece.now (omega (arith, c.if-front-room.false)) in
    record {
      unfinished = omega (arith, c.if-front-room.false);
      rolled = rolled_on c.args.self.now.window c.split_at.result.0.now c.args.piece.now c.slide.new.window c.args.self.now.params.min
          c.args.self.now.taken c.in-NoMark.field-0 (omega arith) whole c.requires c.in-NoMark.ensures.1 c.slide.ensures;
    }

pub returns-in-NoMark-2-clause-uncut : goal.returns-in-NoMark-2-clause-uncut
unfolding Holds params_of
returns-in-NoMark-2-clause-uncut c = λ m h.
    let old = c.args.self.now in
    let front : List ℕ = c.split_at.result.0.now in
    let Bits : ℕ → Type 0 = λ bits. IsFirstMark bits (old.window ++ front) (length front) (NoMark c.in-NoMark.field-0) in
    let found = subst Bits c.bits.ensures.value c.in-NoMark.ensures in
    let whole : front ≡ c.args.piece.now =
    c.split_at.ensures.front ∙ take_all c.min.result c.args.piece.now (omega (arith, c.if-front-room.false)) in
    let Bytes : List ℕ → Type 0 = λ bytes. HasNoCut old.params (m ++ bytes) in
    subst Bytes whole
    (rolled_uncut old.params (replicate 64 0) m old.window front refl (omega (arith, h.1, c.max.ensures.lawful.least)) h.0 h.2
    (omega (arith, h.1, c.if-front-room.false)) found.0)

pub returns-in-NoMark-2-clause-more : goal.returns-in-NoMark-2-clause-more
unfolding Holds params_of
returns-in-NoMark-2-clause-more c = λ m h. (
  returns-in-NoMark-2-clause-uncut c m h,
  omega (arith, h.1, length-append m c.args.piece.now),
  c.slide.ensures ∙ last_slides (replicate 64 0) m c.args.self.now.window c.args.piece.now refl h.2,
)
