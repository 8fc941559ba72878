use Rattle.std.proofs.Common.{refl, subst}
use Rattle.std.specs.Prelude.{IfSome}
use Rattle.repo_name.specs.declared.kinds.Kind.{Kind}
use Rattle.repo_pack.specs.PackLayout.{IsTruePack}
use Rattle.repo_check.proofs.Arriving.{with_bytes, is_answer, misnamed, absent, misread}
use Rattle.repo_check.proofs.objects.look_at_pack.Goals as goal

pub returns-in-Misnamed : goal.returns-in-Misnamed
returns-in-Misnamed c = misnamed Kind.Pack c.args.name c.args.say.now c.in-Misnamed.ensures

pub returns-in-Absent : goal.returns-in-Absent
returns-in-Absent c = absent Kind.Pack c.args.name c.args.say.now c.in-Absent.ensures

pub returns-in_default : goal.returns-in_default
returns-in_default c = misread Kind.Pack c.args.name c.in-Named.bytes.now c.args.say.now c.in-Named.ensures.0 c.in-Named.ensures.1 (c.in_ok-view.ensures.none c.in_default.is)

pub returns : goal.returns
returns c =
    let x = c.in-Named.bytes.now in
    (with_bytes c.args.name x, is_answer c.args.name x c.args.say.now c.in-Named.ensures.0, (x, c.in-Some.view, (refl, c.in-Named.ensures.1), subst (λ found. IfSome found (IsTruePack x)) c.in-Some.is c.in_ok-view.ensures.some, c.in_ok-facts_of.ensures))
