-- What is known of a tree decides whether it breaks its directory.
use Rattle.std.proofs.Common.{◌≡◌, Bool, IsTrue, false, Some, sym, ap, subst, ⊎_elim, ◌∙◌}
use Rattle.std.proofs.lemmas.Option.{same_Some}
use Rattle.repo_name.specs.declared.names.Name.{Name}
use Rattle.repo_check.specs.Keeping.{KeptTrees, StandsWrong, next_kept}
use Rattle.repo_check.specs.Visiting.{BreaksHere, GoesOnWrong, IsMisread, IsTooDeep}
use Rattle.repo_check.specs.declared.keeping.Kept.{Kept}
use Rattle.repo_check.specs.declared.visiting.Visit.{Visit}

pub misread_else : (trees : KeptTrees) (v : Visit) (kept : Kept) → trees v.tree ≡ Some kept → BreaksHere trees v → (IsTooDeep kept v → ⊥) → IsMisread kept v
misread_else trees v kept at (own, is, breaks) shallow =
    let same : own ≡ kept = same_Some own kept (sym is ∙ at) in
    ⊎_elim (λ deep. absurd (shallow (subst (λ k. IsTooDeep k v) same deep))) (λ misread. subst (λ k. IsMisread k v) same misread) breaks

pub wrong_only : (trees : KeptTrees) (v : Visit) (kept behind : Kept) (next n : Name) → trees v.tree ≡ Some kept → next_kept kept v.follows ≡ Some next → trees next ≡ Some behind → GoesOnWrong trees v n → StandsWrong kept behind
wrong_only trees v kept behind next n at goes there (own, other, is, on, so, wrong) =
    let same : own ≡ kept = same_Some own kept (sym is ∙ at) in
    let name : n ≡ next = same_Some n next (sym on ∙ ap (λ k. next_kept k v.follows) same ∙ goes) in
    let later : other ≡ behind = same_Some other behind (sym so ∙ ap trees name ∙ there) in
    subst (λ k. StandsWrong kept k) later (subst (λ k. StandsWrong k other) same wrong)

pub wrong_one : (trees : KeptTrees) (v : Visit) (n m : Name) → GoesOnWrong trees v n → GoesOnWrong trees v m → n ≡ m
wrong_one trees v n m (own, other, is, on, so, wrong) (kept, behind, at, goes, there, not) =
    same_Some n m (sym on ∙ ap (λ k. next_kept k v.follows) (same_Some own kept (sym is ∙ at)) ∙ goes)

pub false_true : (b : Bool) → b ≡ false → IsTrue b → ⊥
false_true b isnt is = absurd (cc (is, isnt))
