use Rattle.std.proofs.Common.{[], ◌∷◌, refl, inl, inr, take}
use Rattle.repo_store.specs.Channels.{heard}
use Rattle.repo_many.proofs.Wiring.{brings_serves, hears_none, loses_serves, none_told}
use Rattle.repo_many.proofs.steps.take.Goals as goal

pub returns-in-Ok-eq0-clause-serves : goal.returns-in-Ok-eq0-clause-serves
returns-in-Ok-eq0-clause-serves g c =
    let none = none_told c.hear.result c.in-Ok-eq0.field-0 (λ bs. g.C.Wire.hears c.args.wire.now bs c.hear.new.self) c.hear.new.piece c.in-Ok-eq0.is c.in-Ok-eq0.field-0-test c.hear.ensures.heard in
    ([], inl refl, hears_none g.C.Wire.hears g.C.Wire.says _ _ _ _ _ _ _ none (λ from to failed failing log s. s))

pub returns-in-Ok-arrives-clause-serves : goal.returns-in-Ok-arrives-clause-serves
returns-in-Ok-arrives-clause-serves g c =
    ([], inl refl, brings_serves g.C.Wire.hears g.C.Wire.says _ _ _ c.args.place _ _ _ _ c.in-Ok.ensures.heard c.requires.awaited c.in-Ok-arrives.ensures.ok)

pub returns-in-Err-arrives-clause-serves : goal.returns-in-Err-arrives-clause-serves
returns-in-Err-arrives-clause-serves g c =
    (heard (take c.in-Ok.count c.hear.new.piece) ∷ [], inr refl, loses_serves g.C.Wire.hears g.C.Wire.says _ _ _ c.args.place _ _ _ _ c.in-Ok.ensures.heard c.in-Err-arrives.ensures.err)

pub returns-in-Err-clause-serves : goal.returns-in-Err-clause-serves
returns-in-Err-clause-serves g c = ([], inl refl, hears_none g.C.Wire.hears g.C.Wire.says _ _ _ _ _ _ _ c.in-Err.ensures.err (λ from to failed failing log s. s))

pub returns-in-Err-2-clause-serves : goal.returns-in-Err-2-clause-serves
returns-in-Err-2-clause-serves g c = ([], inl refl, hears_none g.C.Wire.hears g.C.Wire.says _ _ _ _ _ _ _ c.in-Err-2.ensures.err (λ from to failed failing log s. s))

pub returns-in-Err-3-clause-serves : goal.returns-in-Err-3-clause-serves
returns-in-Err-3-clause-serves g c = ([], inl refl, hears_none g.C.Wire.hears g.C.Wire.says _ _ _ _ _ _ _ c.in-Err-3.ensures.err (λ from to failed failing log s. s))
