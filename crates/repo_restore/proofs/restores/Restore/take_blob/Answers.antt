use Rattle.std.proofs.Common.{◌≡◌, ◌∷◌, Some, Vec, Global, refl, sym, subst, inr}
use Rattle.repo_wire.specs.declared.messages.Say.{Say}
use Rattle.repo_session.specs.declared.emissions.Emission.{Emission}
use Rattle.repo_session.specs.Blobs.{HasCome}
use Rattle.repo_session.specs.Jobs.{task_under, MayStep}
use Rattle.repo_session.specs.Order.{IsWorking}
use Rattle.repo_session.specs.Received.{Received}
use Rattle.repo_session.specs.Traces.{Exchange, emitted_in, giving}
use Rattle.repo_restore.specs.declared.restores.Stage.{Stage}
use Rattle.repo_restore.specs.Restoring.{IsDueBlob, RestoreGives, restore_rule}
use Rattle.repo_session.specs.Ends.{AsksPart}
use Rattle.repo_restore.specs.RestoreStates.{KnowsAtStage, KnowsRestore}
use Rattle.repo_restore.proofs.Advancing.{blob_due, range_taken, refused_now, turn_is, turn_may_give, once_next}
use Rattle.repo_restore.proofs.Standing.{turn_beginning}
use Rattle.repo_restore.proofs.restores.Restore.take_blob.Goals as goal

pub returns-clause-ok : goal.returns-clause-ok
returns-clause-ok c = λ ask named long holding es working obeys asked.
    let j = c.args.self.now in
    let fact = c.args.fact in
    let rule = restore_rule j.snapshot in
    let x = c.args.bytes.now in
    let walk = c.take.new.self in
    let out = c.take.new.out.items in
    let turn = c.in_ok-turn.turn in
    let e : Exchange = giving ask (Say.Bytes x) out in
    let is : e.say ≡ Say.Bytes x = refl in
    let S : Stage → Type 0 = λ stage. KnowsAtStage j stage ask es in
    let known = subst S c.requires asked.knows in
    let root = known.1.root in
    let taken = range_taken j c.args.version fact e x es known.0 is known.1 in
    let turns = c.in_ok-turn.ensures.ok (e ∷ es) root (emitted_in es) taken.waits (taken.got long named) named long c.new-out.ensures.items in
    let gave = turn_may_give (Some fact.name) j.catalog (e ∷ es) c.args.version root walk.levels.items walk.sent walk.onward walk.entries (emitted_in es) out turn taken.indexes turns in
    let begins = turn_beginning (Some fact.name) j.catalog.lookup c.args.version (Received (e ∷ es)) root walk.levels.items walk.sent walk.onward walk.entries (emitted_in es) out turn turns in
    let came : HasCome (IsDueBlob j.snapshot) (e ∷ es) = λ asks. (fact, blob_due j c.args.version fact es known.1, (known.0, x, refl, long, named)) in
    let gives : RestoreGives j.snapshot es e = (subst AsksPart (sym known.0) tt, c.args.version, root, known.1.found, gave, begins, came) in
    let once = once_next j.catalog.lookup c.args.version root j.walk walk fact e es x taken.waits refl named (taken.got long named) known.1.went (Some fact.name) out turn refl turns c.in_ok-turn.ensures.moves in
    let next = turn_is (Some fact.name) j.catalog.lookup walk c.args.version root (e ∷ es) (emitted_in es) out turn refl (λ end r. refused_now e es c.args.version root fact.name x out end refl named refl r) turns in
    let V : Vec Emission Global → Type 0 = λ v. IsWorking (task_under rule holding.who) holding.token (giving ask (Say.Bytes x) v.items ∷ es)
    → MayStep rule holding.who (KnowsRestore c.go_on.new.self) es (giving ask (Say.Bytes x) v.items) c.go_on.result in
    subst V (sym c.go_on.ensures.given) (λ w. c.go_on.ensures.steps holding.who holding.token e es w (inr gives) (record { root = root; found = taken.still; indexes = taken.indexes; all = known.1.all; turns = next; once = once; came = came })) working
