use Rattle.std.proofs.Common.{◌≡◌, ◌+◌, ◌%◌, ◌^◌, ℕ, List, sym, ap, ◌∙◌, arith}
use Rattle.std.proofs.lemmas.Bool.{iff_false}
use Rattle.repo_chunk.specs.Rabin.{remainder}
use Rattle.repo_chunk.specs.inner.Rolling.{IsRoll, window_at}
use Rattle.repo_chunk.proofs.Windows.{rolls_on, no_mark_more}
use Rattle.repo_chunk.proofs.rolling.scan.Goals as goal

pub returns-then-is_marked : goal.returns-then-is_marked
returns-then-is_marked c = λ bytes roll. (
  omega arith,
  omega arith,
  (let next : c.rolled-so_far.result ≡ remainder (window_at bytes (c.loop-i.i + 1)) =
      rolls_on bytes c.args.leaving.now c.args.entering.now c.args.fingerprint c.loop-i.i roll c.loop-i-test.true
      c.loop-i.so_far c.rolled-so_far.result (c.loop-i.invariant.at bytes roll) c.rolled-so_far.ensures.value in
      ap (λ n. n % 2 ^ c.args.bits) (sym next) ∙ c.is_marked.ensures.0 c.if-is_marked.true),
  c.loop-i.invariant.none bytes roll,
)

pub loop-i-preserved : goal.loop-i-preserved
loop-i-preserved c =
    let next : (bytes : List ℕ) → IsRoll bytes c.args.fingerprint c.args.leaving.now c.args.entering.now
    → c.rolled-so_far.result ≡ remainder (window_at bytes (c.loop-i.i + 1)) =
    λ bytes roll. rolls_on bytes c.args.leaving.now c.args.entering.now c.args.fingerprint c.loop-i.i roll c.loop-i-test.true
    c.loop-i.so_far c.rolled-so_far.result (c.loop-i.invariant.at bytes roll) c.rolled-so_far.ensures.value in
    record {
      degree = c.rolled-so_far.ensures.degree;
      at = next;
      none = λ bytes roll. no_mark_more c.args.bits bytes c.loop-i.i c.rolled-so_far.result (c.loop-i.invariant.none bytes roll)
          (next bytes roll)
          (λ zero. iff_false c.is_marked.ensures c.if-is_marked.false zero);
    }
