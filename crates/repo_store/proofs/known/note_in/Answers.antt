use Rattle.std.proofs.Common.{◌≡◌, ◌∙◌, ap, sym, Some, Option, Result, Ok, Err, option_map, is_some}
use Rattle.std.specs.Prelude.{OnErr}
use Rattle.repo_name.specs.declared.names.Name.{Name}
use Rattle.repo_store.specs.Kept.{is_in}
use Rattle.repo_store.proofs.known.note_in.Goals as goal

on_err : {T E : Type 0} (r : Result T E) (P : Type 0) → P → OnErr r P
on_err (Ok x) P p = tt
on_err (Err e) P p = p

pub returns-in_err-insert_named-clause-err : goal.returns-in_err-insert_named-clause-err
returns-in_err-insert_named-clause-err c =
    let same : Some (is_in c.insert_named.new.map) ≡ Some (is_in c.in-Some.known) = ap (λ (f : Name → Option (Unit {0})). Some (λ (n : Name). is_some (f n))) c.in_err-insert_named.ensures.err in
    on_err c.from_residual.result _ (same ∙ sym (ap (option_map is_in) c.in-Some.is))
