use Rattle.std.proofs.Common.{◌≡◌, ℕ, List, take, sym, ap, ◌∙◌, take_all, arith}
use Rattle.std.specs.Prelude.{fold}
use Rattle.repo_chunk.specs.inner.Tables.{with_byte}
use Rattle.repo_chunk.proofs.Linear.{remainder-append}
use Rattle.repo_chunk.proofs.rolling.with_bytes.Goals as goal

pub returns-clause-value : goal.returns-clause-value
returns-clause-value c = λ front is.
    let bytes : List ℕ = c.args.bytes.now in
    let whole : take c.loop-byte.byte-index bytes ≡ bytes = take_all c.loop-byte.byte-index bytes (omega arith) in
    c.loop-byte.invariant.value ∙ ap (fold with_byte c.args.fingerprint) whole ∙ ap (λ r. fold with_byte r bytes) is
    ∙ sym (remainder-append front bytes)
