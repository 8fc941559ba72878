use Rattle.std.proofs.Common.{◌≡◌, ◌≢◌, ◌^◌, ◌++◌, ℕ, true, false, Option, Result, Some, None, Ok, Err, is_some, not, refl, sym, ap, subst, lit≤, arith, option_map, ◌∙◌}
use Rattle.std.specs.Fn.{CalledAt}
use Rattle.std.proofs.lemmas.Result.{err_from_is_err_and}
use Rattle.repo_store.specs.Channels.{heard_in}
use Rattle.repo_session.specs.declared.driving.DriveError.{DriveError}
use Rattle.repo_session.specs.Sinks.{AreTaken, StopsAt, IsHandedOn}
use Rattle.repo_session.specs.Talks.{Turn, IsTurn, given_in, read_in}
use Rattle.repo_session.proofs.Awaiting.{gone_nowhere, gone_ahead, gone_done, gone_far, gone_stopped, gone_unanswered, gone_untaken, gone_on}
use Rattle.repo_session.proofs.Handing.{handed_all, handed_some, stops_some, taken_both}
use Rattle.repo_session.proofs.Talking.{numbered_next, went_on}
use Rattle.repo_session.proofs.driving.drive_over.Goals as goal

none_in : {A B : Type 0} (f : A → B) (o : Option A) → is_some o ≡ false → option_map f o ≡ None
none_in f None h = refl
none_in f (Some x) h = absurd (cc)

some_in : {A B : Type 0} (f : A → B) (o : Option A) → is_some o ≡ true → option_map f o ≢ None
some_in f None h = absurd (cc)
some_in f (Some x) h = λ none. absurd (cc)

some_is : {A B : Type 0} (f : A → B) (o : Option A) (x : A) {next : Option B} → o ≡ Some x → option_map f o ≡ next → next ≢ None
some_is f o x is same none = some_in f o (ap is_some is) (same ∙ none)

pub loop-turn-init : goal.loop-turn-init
loop-turn-init g c = record {
  gone = λ bytes told h. gone_nowhere g.L.Channel.hears g.L.Channel.says bytes told (g.C.Client.who (g.C.Client.job c.args.client.now)).instance g.C.Client.fits g.C.Client.next c.args.client.now c.args.channel.now c.args.connection.now h (λ t. AreTaken (CalledAt g.F.FnMut) c.args.sink.now (given_in t) c.args.sink.now) refl;
  few = lit≤ tt;
  sink = c.requires;
  job = refl;
}

pub returns-then-is_none-clause-carries : goal.returns-then-is_none-clause-carries
returns-then-is_none-clause-carries g c bytes told h =
    let none : g.C.Client.next c.loop-turn.client ≡ None = sym c.pending.ensures.next ∙ none_in _ c.pending.result (c.is_none.ensures ∙ ap not c.if-is_none.true) in
    let i = c.loop-turn.invariant.gone bytes told h in
    let done : Result ℕ DriveError = Ok c.loop-turn.turn in
    gone_done _ _ bytes told _ _ _ _ _ _ _ _ _ i.0 _ refl none (λ t. IsHandedOn (CalledAt g.F.FnMut) (done ≡ Err DriveError.Sink) c.args.sink.now t c.loop-turn.sink)
    (handed_all (CalledAt g.F.FnMut) (done ≡ Err DriveError.Sink) i.0.talk c.args.sink.now c.loop-turn.sink (λ sink. absurd (cc)) i.1)

pub converse-requires : goal.converse-requires
converse-requires g c = record { pending = λ none. some_in _ c.pending.result (c.is_none.ensures ∙ ap not c.if-is_none.false) (c.pending.ensures.next ∙ none) }

pub returns-in_err-reply-clause-carries : goal.returns-in_err-reply-clause-carries
returns-in_err-reply-clause-carries g c bytes told h =
    let p = err_from_is_err_and c.from_residual.result c.from_residual.ensures.1 in
    let before = c.loop-turn.invariant.gone bytes told h in
    let said = c.in_err-reply.ensures.asks in
    let handed = gone_ahead _ _ bytes told _ _ _ _ _ _ _ _ _ before.0 c.converse.new.client c.in_err-reply.ensures.next c.in_err-reply.ensures.fits (λ t. AreTaken (CalledAt g.F.FnMut) c.args.sink.now (given_in t) c.loop-turn.sink) before.1 in
    let i = handed.0 in
    let pending : g.C.Client.next c.converse.new.client ≡ Some said.0 = c.in_err-reply.ensures.next ∙ said.1 in
    let failed : Result ℕ DriveError = Err c.in_err-reply.field-0.0 in
    let n = said.2 (bytes ++ heard_in i.passages) (told ++ read_in i.talk) i.reads in
    rw (p.1, p.2) (
    gone_unanswered _ _ bytes told _ _ _ _ _ _ _ _ _ i said.0 pending _ c.converse.new.connection c.converse.new.channel n (omega (arith, c.loop-turn-test.true)) c.in_err-reply.field-0.0 refl
    (λ t. IsHandedOn (CalledAt g.F.FnMut) (failed ≡ Err DriveError.Sink) c.args.sink.now t c.loop-turn.sink)
    (λ other. handed_all (CalledAt g.F.FnMut) (failed ≡ Err DriveError.Sink) i.talk c.args.sink.now c.loop-turn.sink (λ sink. other (cc)) handed.1))

pub returns-in_err-take-clause-carries : goal.returns-in_err-take-clause-carries
returns-in_err-take-clause-carries g c bytes told h =
    let p = err_from_is_err_and c.from_residual-in_err-take.result c.from_residual-in_err-take.ensures.1 in
    let before = c.loop-turn.invariant.gone bytes told h in
    let said = c.in_ok-reply.ensures.asks in
    let handed = gone_ahead _ _ bytes told _ _ _ _ _ _ _ _ _ before.0 c.converse.new.client c.in_ok-reply.ensures.next c.in_ok-reply.ensures.fits (λ t. AreTaken (CalledAt g.F.FnMut) c.args.sink.now (given_in t) c.loop-turn.sink) before.1 in
    let i = handed.0 in
    let pending : g.C.Client.next c.converse.new.client ≡ Some said.0 = c.in_ok-reply.ensures.next ∙ said.1 in
    let n = said.2 (bytes ++ heard_in i.passages) (told ++ read_in i.talk) i.reads in
    let failed : Result ℕ DriveError = Err DriveError.Memory in
    rw (p.1, p.2) (gone_untaken _ _ bytes told _ _ _ _ _ _ _ _ _ i said.0 pending _ c.converse.new.connection c.converse.new.channel n (omega (arith, c.loop-turn-test.true)) c.in_ok-reply.reply refl c.take.new.self
    c.in_err-take.ensures.next c.in_err-take.ensures.fits (λ t. IsHandedOn (CalledAt g.F.FnMut) (failed ≡ Err DriveError.Sink) c.args.sink.now t c.loop-turn.sink)
    (handed_all (CalledAt g.F.FnMut) (failed ≡ Err DriveError.Sink) i.talk c.args.sink.now c.loop-turn.sink (λ sink. absurd (cc)) handed.1))

pub returns-then-not-hand_out-clause-carries : goal.returns-then-not-hand_out-clause-carries
returns-then-not-hand_out-clause-carries g c bytes told h =
    let before = c.loop-turn.invariant.gone bytes told h in
    let said = c.in_ok-reply.ensures.asks in
    let handed = gone_ahead _ _ bytes told _ _ _ _ _ _ _ _ _ before.0 c.converse.new.client c.in_ok-reply.ensures.next c.in_ok-reply.ensures.fits (λ t. AreTaken (CalledAt g.F.FnMut) c.args.sink.now (given_in t) c.loop-turn.sink) before.1 in
    let i = handed.0 in
    let pending : g.C.Client.next c.converse.new.client ≡ Some said.0 = c.in_ok-reply.ensures.next ∙ said.1 in
    let n = said.2 (bytes ++ heard_in i.passages) (told ++ read_in i.talk) i.reads in
    let given = g.C.Client.given c.take.new.self in
    let turn : Turn = record { request = said.0; passed = n.passed; reply = c.in_ok-reply.reply; emitted = given } in
    let is : IsTurn turn = record { fits = c.pending.ensures.frame said.0 said.1; passed = n.past; answers = n.asks.0.0 } in
    let went = went_on (g.C.Client.who (g.C.Client.job c.args.client.now)).instance g.C.Client.fits c.args.client.now c.converse.new.client c.take.new.self i.talk turn i.went is
    (λ es f. numbered_next _ _ _ _ _ _ _ es (g.C.Client.who (g.C.Client.job c.args.client.now)).instance said.0 (g.met.C.Client.obedient c.converse.new.client es f) pending (ap (λ j. (g.C.Client.who j).instance) (c.in_ok-reply.ensures.job ∙ c.loop-turn.invariant.job)))
    (c.in_ok-take.ensures.taken said.0 pending is.answers) in
    let stops = subst (λ xs. StopsAt (CalledAt g.F.FnMut) c.loop-turn.sink xs c.hand_out.new.sink) c.emitted.ensures (c.hand_out.ensures.stops c.if-not-hand_out.true) in
    let stopped : Result ℕ DriveError = Err DriveError.Sink in
    gone_stopped _ _ bytes told _ _ _ _ _ _ _ _ _ i said.0 pending _ c.converse.new.connection c.converse.new.channel n (omega (arith, c.loop-turn-test.true)) c.in_ok-reply.reply refl c.take.new.self given went (stops_some (CalledAt g.F.FnMut) given c.loop-turn.sink c.hand_out.new.sink stops)
    (λ t. IsHandedOn (CalledAt g.F.FnMut) (stopped ≡ Err DriveError.Sink) c.args.sink.now t c.hand_out.new.sink)
    (handed_some (CalledAt g.F.FnMut) (stopped ≡ Err DriveError.Sink) turn i.talk c.args.sink.now c.loop-turn.sink c.hand_out.new.sink refl handed.1 stops)

pub loop-turn-preserved : goal.loop-turn-preserved
loop-turn-preserved g c = record {
  gone = λ bytes told h.
      let before = c.loop-turn.invariant.gone bytes told h in
      let said = c.in_ok-reply.ensures.asks in
      let handed = gone_ahead _ _ bytes told _ _ _ _ _ _ _ _ _ before.0 c.converse.new.client c.in_ok-reply.ensures.next c.in_ok-reply.ensures.fits (λ t. AreTaken (CalledAt g.F.FnMut) c.args.sink.now (given_in t) c.loop-turn.sink) before.1 in
      let i = handed.0 in
      let pending : g.C.Client.next c.converse.new.client ≡ Some said.0 = c.in_ok-reply.ensures.next ∙ said.1 in
      let n = said.2 (bytes ++ heard_in i.passages) (told ++ read_in i.talk) i.reads in
      let given = g.C.Client.given c.take.new.self in
      let turn : Turn = record { request = said.0; passed = n.passed; reply = c.in_ok-reply.reply; emitted = given } in
      let is : IsTurn turn = record { fits = c.pending.ensures.frame said.0 said.1; passed = n.past; answers = n.asks.0.0 } in
      let went = went_on (g.C.Client.who (g.C.Client.job c.args.client.now)).instance g.C.Client.fits c.args.client.now c.converse.new.client c.take.new.self i.talk turn i.went is
      (λ es f. numbered_next _ _ _ _ _ _ _ es (g.C.Client.who (g.C.Client.job c.args.client.now)).instance said.0 (g.met.C.Client.obedient c.converse.new.client es f) pending (ap (λ j. (g.C.Client.who j).instance) (c.in_ok-reply.ensures.job ∙ c.loop-turn.invariant.job)))
      (c.in_ok-take.ensures.taken said.0 pending is.answers) in
      let all = subst (λ xs. AreTaken (CalledAt g.F.FnMut) c.loop-turn.sink xs c.hand_out.new.sink) c.emitted.ensures (c.hand_out.ensures.taken c.if-not-hand_out.false) in
      gone_on _ _ bytes told _ _ _ _ _ _ _ _ _ i said.0 pending _ c.converse.new.connection c.converse.new.channel n (omega (arith, c.loop-turn-test.true)) c.in_ok-reply.reply refl c.take.new.self given went
      (λ t. AreTaken (CalledAt g.F.FnMut) c.args.sink.now (given_in t) c.hand_out.new.sink)
      (taken_both (CalledAt g.F.FnMut) (given_in i.talk) given c.args.sink.now c.loop-turn.sink c.hand_out.new.sink handed.1 all);
  few = omega (arith, c.loop-turn-test.true);
  sink = c.hand_out.ensures.callable;
  job = c.in_ok-take.ensures.job ∙ c.in_ok-reply.ensures.job ∙ c.loop-turn.invariant.job;
}

pub returns-in-None-clause-carries : goal.returns-in-None-clause-carries
returns-in-None-clause-carries g c bytes told h =
    let none : g.C.Client.next c.loop-turn.client ≡ None = sym c.pending-2.ensures.next ∙ ap (option_map (λ r. r.now)) c.in-None.is in
    let i = c.loop-turn.invariant.gone bytes told h in
    let many = c.loop-turn-test.false in
    let count : c.loop-turn.turn ≡ 2 ^ 32 = omega (arith, many, c.loop-turn.invariant.few) in
    let done : Result ℕ DriveError = Ok (2 ^ 32) in
    gone_done _ _ bytes told _ _ _ _ _ _ _ _ _ i.0 _ count none (λ t. IsHandedOn (CalledAt g.F.FnMut) (done ≡ Err DriveError.Sink) c.args.sink.now t c.loop-turn.sink)
    (handed_all (CalledAt g.F.FnMut) (done ≡ Err DriveError.Sink) i.0.talk c.args.sink.now c.loop-turn.sink (λ sink. absurd (cc)) i.1)

pub returns-in-Some-clause-carries : goal.returns-in-Some-clause-carries
returns-in-Some-clause-carries g c bytes told h =
    let i = c.loop-turn.invariant.gone bytes told h in
    let many = c.loop-turn-test.false in
    let far : Result ℕ DriveError = Err DriveError.Limit in
    gone_far _ _ bytes told _ _ _ _ _ _ _ _ _ i.0 (omega (arith, many, c.loop-turn.invariant.few)) (some_is _ c.pending-2.result _ c.in-Some.is c.pending-2.ensures.next) (λ t. IsHandedOn (CalledAt g.F.FnMut) (far ≡ Err DriveError.Sink) c.args.sink.now t c.loop-turn.sink)
    (handed_all (CalledAt g.F.FnMut) (far ≡ Err DriveError.Sink) i.0.talk c.args.sink.now c.loop-turn.sink (λ sink. absurd (cc)) i.1)
