use Rattle.std.proofs.Common.{◌≡◌, ℕ, ◌+◌, ◌-◌, ◌≤◌, inl, inr, List, ◌++◌, length, drop, refl, sym, ap, ◌∙◌, subst, arith}
use Rattle.std.specs.Prelude.{replicate}
use Rattle.std.proofs.lemmas.Bool.{iff_false, cases_lt}
use Rattle.std.proofs.lemmas.List.{length-append}
use Rattle.repo_chunk.specs.Rabin.{remainder}
use Rattle.repo_chunk.specs.Cuts.{last, IsCut}
use Rattle.repo_chunk.specs.Chunkers.{Holds, params_of}
use Rattle.repo_chunk.proofs.Cutting.{last_slides, counted_after, gathered_cut, gathered_uncut}
use Rattle.repo_chunk.proofs.chunkers.Chunker.gather.Goals as goal

-- the remainder, with the window that the bytes make
rolled_after : (window bytes after : List ℕ) (min taken fingerprint : ℕ) → length window ≡ 64 → taken + length bytes ≤ min
    → fingerprint ≡ remainder (drop (min - taken) (window ++ bytes)) → after ≡ last 64 (window ++ bytes)
    → fingerprint ≡ remainder (drop (min - (taken + length bytes)) after)
rolled_after window bytes after min taken fingerprint wide early counted slid =
    counted ∙ ap remainder (counted_after window bytes (min - taken) (min - (taken + length bytes)) wide (omega arith)
    ∙ ap (drop (min - (taken + length bytes))) (sym slid))

pub returns-then-ends_at-clause-cut : goal.returns-then-ends_at-clause-cut
unfolding Holds params_of
returns-then-ends_at-clause-cut c = λ m h.
    let bytes : List ℕ = c.args.bytes.now in
    let old = c.args.self.now in
    let Length : ℕ → Type 0 = λ n. IsCut old.params (m ++ bytes) n in
    let count : old.taken + length bytes ≡ length m + length bytes = omega (arith, h.1) in
    subst Length count
    (gathered_cut old.params (replicate 64 0) (m ++ bytes) (last 64 (old.window ++ bytes)) (old.taken + length bytes)
    c.fingerprint_with-fingerprint.result refl c.max.ensures.lawful (omega (arith, h.1, length-append m bytes)) c.requires
    (last_slides (replicate 64 0) m old.window bytes refl h.2)
    (rolled_after old.window bytes (last 64 (old.window ++ bytes)) old.params.min old.taken c.fingerprint_with-fingerprint.result (omega arith)
    c.requires c.fingerprint_with-fingerprint.ensures refl)
    (c.ends_at.ensures.0 c.if-ends_at.true))

pub invariant_of-self : goal.invariant_of-self
invariant_of-self c = record {
  unfinished = elim (cases_lt (c.args.self.now.taken + length c.args.bytes.now) c.args.self.now.params.max) [
    | inl short ↦ short
    | inr full ↦ absurd (iff_false c.ends_at.ensures c.if-ends_at.false (omega arith, inl (omega arith)))
  ];
  rolled = rolled_after c.args.self.now.window c.args.bytes.now c.slide.new.window c.args.self.now.params.min c.args.self.now.taken
      c.fingerprint_with-fingerprint.result (omega arith) c.requires c.fingerprint_with-fingerprint.ensures c.slide.ensures;
}

pub returns-clause-more : goal.returns-clause-more
unfolding Holds params_of
returns-clause-more c = λ m h.
    let bytes : List ℕ = c.args.bytes.now in
    let old = c.args.self.now in
    let count : old.taken + length bytes ≡ length (m ++ bytes) = omega (arith, h.1, length-append m bytes) in
    let is : c.slide.new.window ≡ last 64 (replicate 64 0 ++ (m ++ bytes)) =
    c.slide.ensures ∙ last_slides (replicate 64 0) m old.window bytes refl h.2 in (
      gathered_uncut old.params (replicate 64 0) (m ++ bytes) c.slide.new.window (old.taken + length bytes)
          c.fingerprint_with-fingerprint.result refl c.max.ensures.lawful count c.requires is
          (rolled_after old.window bytes c.slide.new.window old.params.min old.taken c.fingerprint_with-fingerprint.result (omega arith)
          c.requires c.fingerprint_with-fingerprint.ensures c.slide.ensures)
          (λ p. iff_false c.ends_at.ensures c.if-ends_at.false p),
      count,
      is,
    )
