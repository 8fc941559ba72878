use Rattle.std.proofs.Common.{◌≡◌, arith}
use Rattle.repo_sha.proofs.schedules.put_firsts.Goals as goal

pub firsts-preserved : goal.firsts-preserved
firsts-preserved c = (
  omega arith,
  λ j lt block begins. c.put_first.ensures j lt block begins (c.firsts.invariant.1 j lt block begins),
)

pub returns : goal.returns
returns c j lt block begins =
    let done : c.firsts.t ≡ 16 = omega arith in
    rw done at (c.firsts.invariant.1 j lt block begins)
