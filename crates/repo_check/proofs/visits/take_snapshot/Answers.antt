use Rattle.std.proofs.Common.{ap, refl}
use Rattle.repo_session.specs.Versions.{upto}
use Rattle.repo_session.specs.declared.jobs.Step.{Step}
use Rattle.repo_session.specs.declared.outcomes.End.{End}
use Rattle.repo_session.specs.declared.parts.Came.{Came}
use Rattle.repo_session.specs.declared.rolls.Roll.{Roll}
use Rattle.repo_check.specs.Rounds.{round_of}
use Rattle.repo_name.specs.declared.kinds.Kind.{Kind}
use Rattle.repo_check.specs.Arrivals.{IsRootOf}
use Rattle.repo_check.specs.declared.rounds.Note.{Note}
use Rattle.repo_check.proofs.Rounding.{by_versions, ended, of_any, ok_with, other_version, taken}
use Rattle.repo_check.proofs.Heeding.{object_heeds}
use Rattle.repo_check.proofs.visits.take_snapshot.Goals as goal

pub returns-in-Root-clause-takes : goal.returns-in-Root-clause-takes
returns-in-Root-clause-takes c =
    let look = rw c.in-Root.is at c.in_ok-root.ensures in
    ok_with c.go_on.result _ _ _ (λ turn notes asks. by_versions c.args.versions (round_of c.args.round.now) (round_of c.go_on.new.self) c.args.name c.args.say.now turn
    (taken Kind.Snapshot IsRootOf (round_of c.args.round.now) (round_of c.go_on.new.self) (Note.Well c.in-Root.root) c.args.name c.args.say.now turn (look.0, look.1, look.2) (ap (λ (r : Roll). r.kind) c.go_on.ensures.roll) (ap (λ (r : Roll). r.names.items) c.go_on.ensures.roll) notes asks)) c.go_on.ensures.notes c.go_on.ensures.next

pub returns-in-Fault-clause-takes : goal.returns-in-Fault-clause-takes
returns-in-Fault-clause-takes c =
    let go = c.go_on-in-Fault in
    let look = rw c.in-Fault.is at c.in_ok-root.ensures in
    ok_with go.result _ _ _ (λ turn notes asks. by_versions c.args.versions (round_of c.args.round.now) (round_of go.new.self) c.args.name c.args.say.now turn
    (taken Kind.Snapshot IsRootOf (round_of c.args.round.now) (round_of go.new.self) (Note.Fault c.in-Fault.what) c.args.name c.args.say.now turn (look.0, look.1, look.2) (ap (λ (r : Roll). r.kind) go.ensures.roll) (ap (λ (r : Roll). r.names.items) go.ensures.roll) notes asks)) go.ensures.notes go.ensures.next

pub returns-in-Version-clause-takes : goal.returns-in-Version-clause-takes
returns-in-Version-clause-takes c =
    let look = rw c.in-Version.is at c.in_ok-root.ensures in
    other_version c.args.versions (round_of c.args.round.now) c.args.name c.args.say.now look

pub returns-in-Unwelcome-clause-takes : goal.returns-in-Unwelcome-clause-takes
returns-in-Unwelcome-clause-takes c =
    let look = rw c.in-Unwelcome.is at c.in_ok-root.ensures in
    by_versions c.args.versions (round_of c.args.round.now) (round_of c.args.round.now) c.args.name c.args.say.now (Came.Step Step.Away) (ended Kind.Snapshot IsRootOf (round_of c.args.round.now) c.args.name c.args.say.now look)

pub returns-in-Root-clause-heeds : goal.returns-in-Root-clause-heeds
returns-in-Root-clause-heeds c =
    let look = rw c.in-Root.is at c.in_ok-root.ensures in
    of_any c.go_on.result _ (λ turn. object_heeds (upto c.args.versions) Kind.Snapshot c.args.name c.args.say.now look.0 turn look.1 look.3)

pub returns-in-Fault-clause-heeds : goal.returns-in-Fault-clause-heeds
returns-in-Fault-clause-heeds c =
    let look = rw c.in-Fault.is at c.in_ok-root.ensures in
    of_any c.go_on-in-Fault.result _ (λ turn. object_heeds (upto c.args.versions) Kind.Snapshot c.args.name c.args.say.now look.0 turn look.1 look.3)

pub returns-in-Version-clause-heeds : goal.returns-in-Version-clause-heeds
returns-in-Version-clause-heeds c = λ ends. (End.Version, refl, rw c.in-Version.is at c.in_ok-root.ensures)
