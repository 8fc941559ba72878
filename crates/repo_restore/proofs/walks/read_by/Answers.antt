use Rattle.std.proofs.Common.{ℕ, Result, Ok, Err, IfErr, sym, subst}
use Rattle.repo_session.specs.Trees.{IsNoText}
use Rattle.repo_restore.proofs.Trees.{no_text_alone}
use Rattle.repo_restore.proofs.walks.read_by.Goals as goal

err_weaker : {T E : Type 0} (P Q : E → Type 0) (r : Result T E) → ((e : E) → P e → Q e) → IfErr r P → IfErr r Q
err_weaker P Q (Ok x) f h = h
err_weaker P Q (Err e) f h = f e h

pub returns-then-version-eq2-clause-none : goal.returns-then-version-eq2-clause-none
returns-then-version-eq2-clause-none c = err_weaker _ _ c.read_part.result (λ e h other. subst (λ (v : ℕ). IsNoText v c.args.bytes.now) (sym c.if-version-eq2.true) (h other)) c.read_part.ensures.none

pub returns-in-Err-clause-none : goal.returns-in-Err-clause-none
returns-in-Err-clause-none c = λ other. no_text_alone c.args.version c.args.bytes.now c.if-version-eq2.false (c.in-Err.ensures.none other)
