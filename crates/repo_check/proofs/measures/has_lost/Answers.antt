use Rattle.std.proofs.Common.{◌≡◌, [], Option, Some, None, true, refl, ◌+◌}
use Rattle.std.specs.Option.{IfSome, is_some}
use Rattle.repo_name.specs.declared.names.Name.{Name}
use Rattle.repo_pack.specs.declared.places.Place.{Place}
use Rattle.repo_check.proofs.Measuring.{measures_next}
use Rattle.repo_check.proofs.measures.has_lost.Goals as goal

there : (o : Option Place) (P : Place → Type 0) → IfSome o P → is_some o ≡ true → (p : Place) × P p
there (Some p) P h is = (p, h)
there None P h is = absurd (cc is)

pub loop-name-preserved : goal.loop-name-preserved
loop-name-preserved c = λ rest.
    let found = there c.find.result _ c.find.ensures.found c.if-is_none.ensures in
    let no_name : Name = record { 0 = [] } in
    let next = measures_next c.args.lookup.now c.args.content.now c.loop-name.name-index no_name (found.0.length + rest.0) rest.0 found.0 c.loop-name-test.true found.1 refl in
    c.loop-name.invariant (found.0.length + rest.0, next.1 rest.1)
