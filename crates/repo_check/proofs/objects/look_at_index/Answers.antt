use Rattle.std.proofs.Common.{refl}
use Rattle.repo_name.specs.declared.kinds.Kind.{Kind}
use Rattle.repo_check.proofs.Arriving.{with_bytes, is_answer, misnamed, absent, misread}
use Rattle.repo_check.proofs.objects.look_at_index.Goals as goal

pub returns-in-Misnamed : goal.returns-in-Misnamed
returns-in-Misnamed c = misnamed Kind.Index c.args.name c.args.say.now c.in-Misnamed.ensures

pub returns-in-Absent : goal.returns-in-Absent
returns-in-Absent c = absent Kind.Index c.args.name c.args.say.now c.in-Absent.ensures

pub returns-in-Ok : goal.returns-in-Ok
returns-in-Ok c =
    let x = c.in-Named.bytes.now in
    (with_bytes c.args.name x, is_answer c.args.name x c.args.say.now c.in-Named.ensures.0, (x, (refl, c.in-Named.ensures.1), c.in-Ok.ensures.ok))

pub returns-in_ok-check_fault-in-Err : goal.returns-in_ok-check_fault-in-Err
returns-in_ok-check_fault-in-Err c =
    misread Kind.Index c.args.name c.in-Named.bytes.now c.args.say.now c.in-Named.ensures.0 c.in-Named.ensures.1 (λ r. c.in-Err.ensures.none c.in_ok-check_fault-in-Err.ensures.fault r.0 r.1)
