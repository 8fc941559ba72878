use Rattle.std.proofs.Common.{◌∷◌, refl, sym, subst, inl}
use Rattle.repo_name.specs.declared.kinds.Thing.{Thing}
use Rattle.repo_wire.specs.declared.messages.Say.{Say}
use Rattle.repo_session.specs.declared.outcomes.End.{End}
use Rattle.repo_session.specs.declared.outcomes.Outcome.{Outcome}
use Rattle.repo_session.specs.Ends.{Concludes}
use Rattle.repo_session.specs.Traces.{Exchange, giving}
use Rattle.repo_session.specs.Versions.{upto}
use Rattle.repo_restore.specs.declared.restores.Stage.{Stage}
use Rattle.repo_restore.specs.Restoring.{RestoreConcludes}
use Rattle.repo_restore.specs.RestoreStates.{KnowsAtStage}
use Rattle.repo_restore.proofs.Advancing.{part_refused}
use Rattle.repo_restore.proofs.restores.Restore.refuse_blob.Goals as goal

pub returns-clause-replied : goal.returns-clause-replied
returns-clause-replied c = λ ask x wrong holding es w obeys asked.
    let j = c.args.self.now in
    let fact = c.args.fact in
    let known = upto holding.who.versions in
    let e : Exchange = giving ask (Say.Bytes x) c.clear.new.self.items in
    let S : Stage → Type 0 = λ stage. KnowsAtStage j stage ask es in
    let knows = subst S c.requires asked.knows in
    let B : Thing → Type 0 = λ thing. Concludes known (RestoreConcludes j.snapshot) (e ∷ es) (Outcome.Ended (End.BadObject thing fact.name)) in
    (inl c.clear.ensures.items, subst B (sym c.blob_thing.ensures) (part_refused known j c.args.version fact e x es knows.0 refl knows.1 wrong))
