use Rattle.std.proofs.Common.{List, ℕ, subst, take}
use Rattle.repo_hall.proofs.Hosting.{there}
use Rattle.repo_many.proofs.Wiring.{gives_serves, none_told, says_none, still_serves}
use Rattle.repo_many.proofs.steps.give.Goals as goal

pub returns-then-is_empty-clause-serves : goal.returns-then-is_empty-clause-serves
returns-then-is_empty-clause-serves g c = still_serves g.C.Wire.hears g.C.Wire.says _ _ _ _ _ _ (λ from to failed failing log s. s)

pub returns-in-Ok-clause-serves : goal.returns-in-Ok-clause-serves
returns-in-Ok-clause-serves g c =
    let t = there c.args.hall.now.guests.items c.args.place c.requires in
    let said = subst (λ (out : List ℕ). g.C.Wire.says c.args.wire.now (take c.in-Ok.count out) c.say.new.self) (c.out-out.ensures t.0 t.1) c.in-Ok.ensures.said in
    gives_serves g.C.Wire.hears g.C.Wire.says _ _ _ _ _ _ _ _ said (c.gave.ensures.stands t.0 t.1)

pub returns-in-Ok-eq0-clause-serves : goal.returns-in-Ok-eq0-clause-serves
returns-in-Ok-eq0-clause-serves g c =
    let said = none_told c.say.result c.in-Ok-eq0.field-0 (λ bs. g.C.Wire.says c.args.wire.now bs c.say.new.self) c.out-out.result.now c.in-Ok-eq0.is c.in-Ok-eq0.field-0-test c.say.ensures.said in
    says_none g.C.Wire.hears g.C.Wire.says _ _ _ _ _ _ _ said (λ from to failed failing log s. s)

pub returns-in-Err-clause-serves : goal.returns-in-Err-clause-serves
returns-in-Err-clause-serves g c = says_none g.C.Wire.hears g.C.Wire.says _ _ _ _ _ _ _ c.in-Err.ensures.err (λ from to failed failing log s. s)

pub returns-in-Err-2-clause-serves : goal.returns-in-Err-2-clause-serves
returns-in-Err-2-clause-serves g c = says_none g.C.Wire.hears g.C.Wire.says _ _ _ _ _ _ _ c.in-Err-2.ensures.err (λ from to failed failing log s. s)

pub returns-in-Err-3-clause-serves : goal.returns-in-Err-3-clause-serves
returns-in-Err-3-clause-serves g c = says_none g.C.Wire.hears g.C.Wire.says _ _ _ _ _ _ _ c.in-Err-3.ensures.err (λ from to failed failing log s. s)
