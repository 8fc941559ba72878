use Rattle.std.proofs.Common.{ap}
use Rattle.repo_session.specs.declared.rolls.Roll.{Roll}
use Rattle.repo_check.specs.Rounds.{round_of}
use Rattle.repo_name.specs.declared.kinds.Kind.{Kind}
use Rattle.repo_check.specs.Arrivals.{IsPackOf}
use Rattle.repo_check.specs.declared.rounds.Note.{Note}
use Rattle.repo_check.proofs.Rounding.{ended, ok_with, taken}
use Rattle.repo_check.proofs.Heeding.{noted_heeds}
use Rattle.repo_check.proofs.visits.take_pack.Goals as goal

pub returns-in-Read-clause-takes : goal.returns-in-Read-clause-takes
returns-in-Read-clause-takes c =
    let look = rw c.in-Read.is at c.in_ok-facts.ensures in
    ok_with c.go_on.result _ _ _ (λ turn notes asks. taken Kind.Pack IsPackOf (round_of c.args.round.now) (round_of c.go_on.new.self) (Note.Well c.in-Read.facts) c.args.name c.args.say.now turn look (ap (λ (r : Roll). r.kind) c.go_on.ensures.roll) (ap (λ (r : Roll). r.names.items) c.go_on.ensures.roll) notes asks) c.go_on.ensures.notes c.go_on.ensures.next

pub returns-in-Fault-clause-takes : goal.returns-in-Fault-clause-takes
returns-in-Fault-clause-takes c =
    let go = c.go_on-in-Fault in
    let look = rw c.in-Fault.is at c.in_ok-facts.ensures in
    ok_with go.result _ _ _ (λ turn notes asks. taken Kind.Pack IsPackOf (round_of c.args.round.now) (round_of go.new.self) (Note.Fault c.in-Fault.what) c.args.name c.args.say.now turn look (ap (λ (r : Roll). r.kind) go.ensures.roll) (ap (λ (r : Roll). r.names.items) go.ensures.roll) notes asks) go.ensures.notes go.ensures.next

pub returns-in-Unwelcome-clause-takes : goal.returns-in-Unwelcome-clause-takes
returns-in-Unwelcome-clause-takes c =
    let look = rw c.in-Unwelcome.is at c.in_ok-facts.ensures in
    ended Kind.Pack IsPackOf (round_of c.args.round.now) c.args.name c.args.say.now look

pub returns-in-Read-clause-heeds : goal.returns-in-Read-clause-heeds
returns-in-Read-clause-heeds c =
    let look = rw c.in-Read.is at c.in_ok-facts.ensures in
    noted_heeds Kind.Pack c.args.name c.args.say.now look.0 c.go_on.result look.1 (λ known other. other)

pub returns-in-Fault-clause-heeds : goal.returns-in-Fault-clause-heeds
returns-in-Fault-clause-heeds c =
    let look = rw c.in-Fault.is at c.in_ok-facts.ensures in
    noted_heeds Kind.Pack c.args.name c.args.say.now look.0 c.go_on-in-Fault.result look.1 (λ known other. other)
