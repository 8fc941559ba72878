use Rattle.std.proofs.Common.{rules}
use Rattle.repo_name.specs.declared.kinds.BlobKind.TheVariants.{Content}
use Rattle.repo_prune.proofs.deciding.decide.Goals as goal

pub returns-in-Some : goal.returns-in-Some
returns-in-Some c = let some = c.in-Some.ensures.some in ((c.in_ok-used.ensures Content c.in-Some.name).0 some.0, some.1)

pub returns : goal.returns
returns c =
    let none = rw c.as_slice.ensures.value at c.in_default.ensures.none in
    record {
      used = c.in_ok-used.used;
      pairs = c.in_ok-used.ensures;
      given = λ found. none (search rules) found c.in_ok-used.ensures;
      plan_of = c.in_ok-of.ensures.plan;
      covers = c.in_ok-of.ensures.covers;
    }
