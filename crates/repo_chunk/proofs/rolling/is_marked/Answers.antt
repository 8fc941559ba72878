use Rattle.std.proofs.Common.{rules, ◌≡◌, ◌%◌, ◌^◌, ℕ, sym, subst}
use Rattle.std.specs.Prelude.{◌↔◌, ◌==◌, IsTrue}
use Rattle.repo_chunk.proofs.Windows.{mask_test}
use Rattle.repo_chunk.proofs.rolling.is_marked.Goals as goal

none_left : (n : ℕ) → IsTrue (n == 0) ↔ (n ≡ 0)
none_left n = search rules

pub returns : goal.returns
returns c =
    let low : ℕ = c.args.fingerprint % 2 ^ c.args.bits in
    let Test : ℕ → Type 0 = λ n. IsTrue (n == 0) ↔ (low ≡ 0) in
    subst Test (sym (mask_test c.args.fingerprint c.args.bits c.requires)) (none_left low)
