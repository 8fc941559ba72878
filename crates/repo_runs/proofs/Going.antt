-- What a backup said that feeds itself is what a backup that is fed goes by.
use Rattle.std.proofs.Common.{arith, ◌≡◌, ℕ, ◌+◌, ◌∷◌, [], List, length, false, refl, sym, ap, subst, Option, Some, None}
use Rattle.std.proofs.lemmas.List.{length-map}
use Rattle.std.proofs.lemmas.Option.{none-some}
use Rattle.repo_wire.specs.declared.messages.Ask.{Ask}
use Rattle.repo_wire.specs.declared.messages.Request.{Request}
use Rattle.repo_session.specs.Askers.{Asker, asker}
use Rattle.repo_session.specs.Clients.{exchange}
use Rattle.repo_session.specs.Order.{May, IsPermitted, Obeys}
use Rattle.repo_session.specs.Talks.{Turn, Talk, AreNumbered, IsTurn, trace_of}
use Rattle.repo_session.specs.Traces.{Each, Exchange, Trace, giving}
use Rattle.repo_session.specs.declared.outcomes.Outcome.{Outcome}
use Rattle.repo_session.specs.declared.versions.Versions.{Versions}
use Rattle.repo_feeding.specs.Unfed.{unfed}
use Rattle.repo_feeding.specs.Unseen.{unfed_length}
use Rattle.repo_feeding.proofs.Fed.{fed_clients}
use Rattle.repo_world.specs.Clients.{task_of}
use Rattle.repo_world.specs.Duties.{GivesAny, IsDutiful, Owes}
use Rattle.repo_world.proofs.Owing.{ruled_dutiful}
use Rattle.repo_world.specs.World.{instance_of, started}
use Rattle.repo_world.specs.declared.jobs.Job.{Job}
use Rattle.repo_runs.proofs.Joining.{first_ticket, unfed_talk, welcome_well}
use Rattle.repo_runs.proofs.Waiting.{asked_of, waits_dutiful}
use Rattle.repo_runs.specs.Connected.{FedBackupGoes, GoesBy, TakesTurn}
use Rattle.repo_runs.specs.Fed.{AreWelcomeTo, IsFedWell, running}

module _ (k : ℕ) (job : Job) (host : List ℕ) (time : ℕ) where
  abbrev who : Asker
  who = asker (instance_of k) host time Versions.Both

  -- one turn
  module _ (turn : Turn) (talk : Talk) (e : Exchange) (fs : Trace) (same : unfed (e ∷ fs) ≡ trace_of (turn ∷ talk)) (is : IsTurn turn) (instance : turn.request.instance ≡ instance_of k) (sequence : turn.request.sequence ≡ 0 + length talk + 1) where
    front : giving e.ask e.say e.emitted ≡ exchange turn.request turn.reply turn.emitted
    front = cc

    ask_is : e.ask ≡ turn.request.ask
    ask_is = ap (λ (x : Exchange). x.ask) front

    say_is : e.say ≡ turn.reply.say
    say_is = ap (λ (x : Exchange). x.say) front

    emitted_is : e.emitted ≡ turn.emitted
    emitted_is = ap (λ (x : Exchange). x.emitted) front

    rest : unfed fs ≡ trace_of talk
    rest = cc

    sequence_is : length fs + 1 ≡ turn.request.sequence
    sequence_is = omega (arith, sequence, unfed_length fs, ap length rest, length-map talk (λ (t : Turn). exchange t.request t.reply t.emitted))

    request_is : asked_of k fs e.ask ≡ turn.request
    request_is = λ i. record { instance = sym instance i; sequence = sequence_is i; ask = ask_is i }

    takes_turn : (o : Option Outcome) (next : Option Request) → AreWelcomeTo job e.fed e.ask e.say e.emitted fs → IsDutiful (running k job host time (e ∷ fs) next o)
        → TakesTurn (running k job host time fs (Some (asked_of k fs e.ask)) None) turn (running k job host time (e ∷ fs) next o)
    takes_turn o next welcome dutiful = record {
      running = refl;
      pending = ap Some request_is;
      answers = is.answers;
      job = refl;
      who = refl;
      items = e.fed;
      welcome = subst (λ (x : Exchange). AreWelcomeTo job e.fed x.ask x.say x.emitted fs) front welcome;
      under_way = λ some. refl;
      trace = λ i. record { ask = ask_is i; say = say_is i; emitted = emitted_is i; fed = e.fed } ∷ fs;
      up = refl;
      dutiful = dutiful;
      stays = λ x q. absurd (none-some x q);
    }

  -- to where a request is pending
  goes_by : (talk : Talk) (fs : Trace) (a : Ask) → unfed fs ≡ trace_of talk → IsFedWell job fs → Each IsTurn talk → AreNumbered (instance_of k) 0 talk
      → Obeys (task_of job who) (Owes job) GivesAny fs → May (task_of job who) fs a → IsPermitted (Owes job) fs a → GoesBy (started k job host time false) talk (running k job host time fs (Some (asked_of k fs a)) None)
  goes_by [] [] a same well turns numbered obeys may permitted = let ticket = first_ticket (task_of job who) a may in λ i. running k job host time [] (Some (asked_of k [] (ticket i))) None
  goes_by [] (e ∷ fs) a same well turns numbered obeys may permitted = absurd (cc)
  goes_by (turn ∷ talk) [] a same well turns numbered obeys may permitted = absurd (cc)
  goes_by (turn ∷ talk) (e ∷ fs) a same well turns numbered obeys may permitted =
      let rest : unfed fs ≡ trace_of talk = cc in
      let before = goes_by talk fs e.ask rest well.1 turns.1 numbered.2 obeys.3 obeys.0 obeys.1 in
      let takes = takes_turn turn talk e fs same turns.0 numbered.0 numbered.1 None (Some (asked_of k (e ∷ fs) a)) well.0 (waits_dutiful k job host time (e ∷ fs) a obeys may permitted) in
      (running k job host time fs (Some (asked_of k fs e.ask)) None, before, takes)

  -- to whatever it stands at
  goes_on : (turn : Turn) (talk : Talk) (fs : Trace) (next : Option Request) (o : Option Outcome) → unfed fs ≡ trace_of (turn ∷ talk) → IsFedWell job fs → Each IsTurn (turn ∷ talk) → AreNumbered (instance_of k) 0 (turn ∷ talk)
      → IsDutiful (running k job host time fs next o) → GoesBy (started k job host time false) (turn ∷ talk) (running k job host time fs next o)
  goes_on turn talk [] next o same well turns numbered dutiful = absurd (cc)
  goes_on turn talk (e ∷ fs) next o same well turns numbered dutiful =
      let rest : unfed fs ≡ trace_of talk = cc in
      let obeys = dutiful.obeys in
      let before = goes_by talk fs e.ask rest well.1 turns.1 numbered.2 obeys.3 obeys.0 obeys.1 in
      let takes = takes_turn turn talk e fs same turns.0 numbered.0 numbered.1 o next well.0 dutiful in
      (running k job host time fs (Some (asked_of k fs e.ask)) None, before, takes)

pub fed_backup_goes : FedBackupGoes
fed_backup_goes k whole host time turn talk next outcome turns numbered is =
    let s = fed_clients (asker (instance_of k) host time Versions.Both) whole next outcome (trace_of (turn ∷ talk)) (unfed_talk (turn ∷ talk)) is in
    (s.fs, s.same, s.told, goes_on k Job.Pieces host time turn talk s.fs next outcome s.same (welcome_well s.fs s.welcome) turns numbered (ruled_dutiful (running k Job.Pieces host time s.fs next outcome) s.fed))
