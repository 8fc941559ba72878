use Rattle.std.proofs.Common.{arith, ◌≡◌, ◌<◌, ◌+◌, [], subst}
use Rattle.repo_name.specs.declared.names.Name.{Name}
use Rattle.repo_check.specs.Measures.{Measures}
use Rattle.repo_check.proofs.Measuring.{left_at, measures_next, measures_lost, measures_short}
use Rattle.repo_check.proofs.measures.sums_to.Goals as goal

-- the name that stands for none
abbrev no_name : Name
no_name = record { 0 = [] }

pub loop-name-preserved : goal.loop-name-preserved
loop-name-preserved c =
    let fits = c.in-Some-checked_sub.ensures.0 in
    let rest = c.in-Some-checked_sub.ensures.1 in
    let sum : c.loop-name.left ≡ c.in-Some.place.length + c.in-Some-checked_sub.rest = omega (arith, fits, rest) in
    let next = measures_next c.args.lookup.now c.args.content.now c.loop-name.name-index no_name c.loop-name.left c.in-Some-checked_sub.rest c.in-Some.place c.loop-name-test.true c.in-Some.ensures.found sum in
    (λ m. next.0 (c.loop-name.invariant.0 m), λ m. c.loop-name.invariant.1 (next.1 m))

pub returns-in_default : goal.returns-in_default
returns-in_default c = (
  λ never. absurd (cc never),
  λ m. absurd (let split = left_at c.args.content.now c.loop-name.name-index no_name c.loop-name-test.true in
      measures_lost c.args.lookup.now _ _ c.loop-name.left c.in_default.ensures.none (subst (λ ns. Measures c.args.lookup.now ns c.loop-name.left) split (c.loop-name.invariant.0 m))),
)

pub returns-in_default-checked_sub : goal.returns-in_default-checked_sub
returns-in_default-checked_sub c = (
  λ never. absurd (cc never),
  λ m. absurd (let split = left_at c.args.content.now c.loop-name.name-index no_name c.loop-name-test.true in
      let short = c.in_default-checked_sub.ensures in
      let less : c.loop-name.left < c.in-Some.place.length = omega (arith, short) in
      measures_short c.args.lookup.now _ _ c.loop-name.left c.in-Some.place c.in-Some.ensures.found less (subst (λ ns. Measures c.args.lookup.now ns c.loop-name.left) split (c.loop-name.invariant.0 m))),
)
