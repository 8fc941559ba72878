use Rattle.std.proofs.Common.{[], List, subst, arith, All}
use Rattle.std.proofs.Math.Seq.{take_all}
use Rattle.std.proofs.lemmas.List.Elements.{All-more}
use Rattle.repo_name.specs.declared.names.Name.{Name}
use Rattle.repo_name.specs.Naming.{IsName}
use Rattle.repo_name.proofs.payloads.are_names.Goals as goal

pub loop-name-preserved : goal.loop-name-preserved
loop-name-preserved c = All-more IsName c.args.names.now c.loop-name.name-index (record { 0 = [] }) c.loop-name-test.true c.loop-name.invariant c.to_bytes.ensures.name

pub returns : goal.returns
returns c =
    let P : List Name → Type 0 = λ names. All IsName names in
    subst P (take_all c.loop-name.name-index c.args.names.now (omega arith)) c.loop-name.invariant
