-- The example is a run.
use Rattle.std.specs.Prelude.{⊤}
use Rattle.std.proofs.Common.{◌≡◌, ◌⊎◌, ◌<◌, ◌^◌, inl, inr, ⊎_elim, ℕ, zero, suc, true, false, ◌∷◌, [], List, refl, sym, ◌∙◌, ap, subst, Some, None, arith, lit≤, replicate, Ok}
use Rattle.std.proofs.lemmas.Option.{none-some, same_Some}
use Rattle.hex.specs.Hex.{IsBytes}
use Rattle.repo_name.specs.Rows.{IsHost}
use Rattle.repo_wire.specs.declared.messages.Ask.{Ask}
use Rattle.repo_wire.specs.declared.messages.Code.{Code}
use Rattle.repo_wire.specs.declared.messages.Reply.{Reply}
use Rattle.repo_wire.specs.declared.messages.Request.{Request}
use Rattle.repo_wire.specs.declared.messages.Say.{Say}
use Rattle.repo_wire.specs.Messages.{requests}
use Rattle.repo_wire.specs.Stream.{FitsFrame}
use Rattle.repo_wire.proofs.Fitting.{request_fits}
use Rattle.repo_locks.specs.declared.outcomes.Grant.{Grant}
use Rattle.repo_locks.specs.TokenMachine.{start, issued, granted}
use Rattle.repo_store.specs.declared.faults.Fail.{Fail}
use Rattle.repo_store.specs.Stores.{empty}
use Rattle.repo_session.specs.declared.versions.Versions.{Versions}
use Rattle.repo_session.specs.Askers.{asker}
use Rattle.repo_session.specs.Clients.{exchange, IsNextRequest}
use Rattle.repo_session.specs.Traces.{Exchanged}
use Rattle.repo_session.specs.declared.outcomes.End.{End}
use Rattle.repo_session.specs.declared.outcomes.Outcome.{Outcome}
use Rattle.repo_world.specs.Clients.{Client, task_of}
use Rattle.repo_world.specs.Duties.{IsDutiful, Owes, Tells}
use Rattle.repo_world.specs.Events.{Happens, Run}
use Rattle.repo_runs.specs.Example.{host, token, given, row, second, failed, done, removal, with_tokens, refused, last, events, ExampleIsARun}
use Rattle.repo_world.specs.Safe.{IsSpoken, by_put, by_reply, IsKnown, known_spoken, known_part, known_made, HasNoClash}
use Rattle.repo_world.specs.World.{World, instance_of, first_of, started, beginning, IsOneOf, Asked, Said}
use Rattle.repo_world.specs.declared.jobs.Job.{Job}
use Rattle.repo_world.specs.declared.events.Event.{Event}
use Rattle.repo_world.specs.declared.events.Applied.{Applied}

host_within : (5 < 2 ^ 64) × IsHost host
unfolding lib.Utf8.encode
host_within = (omega arith, (omega arith, omega arith, (97 ∷ [], (refl, refl))))

-- ---- the worlds on the way

abbrev asking : Client
asking = record { job = Job.Backup []; who = asker (instance_of 0) host 5 Versions.Both; trace = exchange (first_of 0) given [] ∷ []; next = Some second; outcome = None; crashed = false }

abbrev w1 : World
w1 = record { store = empty; clients = started 0 (Job.Backup []) host 5 false ∷ []; messages = Asked 0 (first_of 0) ∷ [] }

abbrev w2 : World
w2 = record { store = with_tokens (issued start); clients = started 0 (Job.Backup []) host 5 false ∷ []; messages = Asked 0 (first_of 0) ∷ Said 0 given ∷ [] }

abbrev w3 : World
w3 = record { store = with_tokens (issued start); clients = asking ∷ []; messages = Asked 0 (first_of 0) ∷ Said 0 given ∷ Asked 0 second ∷ [] }

abbrev w4 : World
w4 = record { store = with_tokens (granted (issued start) row); clients = asking ∷ []; messages = Asked 0 (first_of 0) ∷ Said 0 given ∷ Asked 0 second ∷ Said 0 failed ∷ [] }

abbrev w5 : World
w5 = record { store = with_tokens (granted (issued start) row); clients = asking ∷ []; messages = Asked 0 (first_of 0) ∷ Said 0 given ∷ Asked 0 second ∷ Said 0 failed ∷ Said 0 done ∷ [] }

abbrev w6 : World
w6 = record { store = with_tokens (granted (issued start) row); clients = refused ∷ []; messages = Asked 0 (first_of 0) ∷ Said 0 given ∷ Asked 0 second ∷ Said 0 failed ∷ Said 0 done ∷ [] }

-- ---- the client

next_1 : IsNextRequest (task_of (Job.Backup []) asking.who) (Owes (Job.Backup [])) asking.trace second
next_1 = record { instance = refl; sequence = refl; may = (token, refl, refl); permitted = λ work. absurd work }

dutiful_1 : IsDutiful asking
dutiful_1 = record {
  obeys = (refl, (λ work. absurd work), inl refl, tt);
  pending = λ r e. subst (λ (q : Request). IsNextRequest (task_of (Job.Backup []) asking.who) (Owes (Job.Backup [])) asking.trace q) (same_Some second r e) next_1;
  concluded = λ o e. absurd (none-some o e);
}

dutiful_2 : IsDutiful refused
dutiful_2 = record {
  obeys = ((token, refl, refl), (λ work. absurd work), inl refl, (refl, (λ work. absurd work), inl refl, tt));
  pending = λ r e. absurd (none-some r e);
  concluded = λ o e. subst (λ x. Tells (Job.Backup []) refused.trace x) (same_Some (Outcome.Ended (End.Refused Code.Fault)) o e) tt;
}

-- ---- its steps

step_1 : Happens ⊤ (beginning empty) (Event.Start (Job.Backup []) host 5 false) Applied.Done w1
step_1 = inl (refl, record { accepted = tt; limits = host_within; is = refl })

step_2 : Happens ⊤ w1 (Event.Deliver 0) Applied.Done w2
step_2 = (
  refl,
  record {
    reply = given;
    store = with_tokens (issued start);
    answers = (refl, refl);
    step = (inl (record { result = Ok token; tokens = issued start; step = (omega arith, refl, refl); says = refl; saves = (refl, refl, refl, refl) }), λ e. tt);
    is = refl;
  },
)

step_3 : Happens ⊤ w2 (Event.Deliver 1) Applied.Done w3
step_3 = inl (
  refl,
  record {
    running = refl;
    request = first_of 0;
    pending = refl;
    answers = (refl, refl);
    emitted = [];
    new = asking;
    job = refl;
    who = refl;
    trace = refl;
    up = refl;
    dutiful = dutiful_1;
    stays = λ o e. absurd (none-some o e);
    is = refl;
  },
)

step_4 : Happens ⊤ w3 (Event.Fault 2 (Fail.Write true)) Applied.Done w4
step_4 = (
  refl,
  record {
    reply = failed;
    store = with_tokens (granted (issued start) row);
    answers = (refl, refl);
    step = inl (
      Say.Done,
      with_tokens (granted (issued start) row),
      record { result = Ok Grant.New; tokens = granted (issued start) row; step = ((refl, refl, refl, omega arith), refl); says = refl; saves = (refl, refl, refl, refl) },
      ((λ q. none-some false q), (λ q. q)),
      refl,
      refl,
    );
    is = refl;
  },
)

step_5 : Happens ⊤ w4 (Event.Deliver 2) Applied.Done w5
step_5 = (
  refl,
  record {
    reply = done;
    store = with_tokens (granted (issued start) row);
    answers = (refl, refl);
    step = (inl (record { result = Ok Grant.Held; tokens = granted (issued start) row; step = (refl, refl); says = refl; saves = (refl, refl, refl, refl) }), λ e. tt);
    is = refl;
  },
)

step_6 : Happens ⊤ w5 (Event.Deliver 3) Applied.Done w6
step_6 = inl (
  refl,
  record {
    running = refl;
    request = second;
    pending = refl;
    answers = (refl, refl);
    emitted = [];
    new = refused;
    job = refl;
    who = refl;
    trace = refl;
    up = refl;
    dutiful = dutiful_2;
    stays = λ o e. absurd (none-some o e);
    is = refl;
  },
)

zeros : (n : ℕ) → IsBytes (replicate n 0)
zeros zero i = lit≤ tt
zeros (suc n) zero = lit≤ tt
zeros (suc n) (suc i) = zeros n i

removal_fits : FitsFrame requests removal
removal_fits = request_fits removal (record { instance = (refl, zeros 16); sequence = omega arith; ask = omega arith }) tt

step_7 : Happens ⊤ w6 (Event.Ask removal) Applied.Done last
step_7 = inl (
  refl,
  record {
    may = (removal_fits, tt);
    reply = done;
    store = last.store;
    answers = (refl, refl);
    step = (inl (record { result = true; tokens = last.store.tokens; step = (refl, refl); says = refl; saves = (refl, refl, refl, refl) }), λ e. tt);
    memory = λ e. absurd (cc);
    is = refl;
  },
)

run : Run (beginning empty) events last
run = (w1, (Applied.Done, step_1), (w2, (Applied.Done, step_2), (w3, (Applied.Done, step_3), (w4, (Applied.Done, step_4), (w5, (Applied.Done, step_5), (w6, (Applied.Done, step_6), (last, (Applied.Done, step_7), (last, (Applied.Done, (refl, refl)), refl))))))))

-- ---- no byte lists are known

no_put : (k : ℕ) (r : Request) → IsOneOf last.messages (Asked k r) → (r ≡ first_of 0) ⊎ (r ≡ second)
no_put k r (inl e) = let q : first_of 0 ≡ r = cc in inl (sym q)
no_put k r (inr (inl e)) = absurd (cc)
no_put k r (inr (inr (inl e))) = let q : second ≡ r = cc in inr (sym q)
no_put k r (inr (inr (inr (inl e)))) = absurd (cc)
no_put k r (inr (inr (inr (inr (inl e))))) = absurd (cc)
no_put k r (inr (inr (inr (inr (inr e))))) = absurd e

no_bytes : (k : ℕ) (r : Reply) → IsOneOf last.messages (Said k r) → (x : List ℕ) → r.say ≡ Say.Bytes x → ⊥
no_bytes k r (inl e) x h = absurd (cc)
no_bytes k r (inr (inl e)) x h = let q : given ≡ r = cc in let p : Say.Token token ≡ Say.Bytes x = ap (λ (z : Reply). z.say) q ∙ h in absurd (cc)
no_bytes k r (inr (inr (inl e))) x h = absurd (cc)
no_bytes k r (inr (inr (inr (inl e)))) x h = let q : failed ≡ r = cc in let p : Say.Refused Code.Fault ≡ Say.Bytes x = ap (λ (z : Reply). z.say) q ∙ h in absurd (cc)
no_bytes k r (inr (inr (inr (inr (inl e))))) x h = let q : done ≡ r = cc in let p : Say.Done ≡ Say.Bytes x = ap (λ (z : Reply). z.say) q ∙ h in absurd (cc)
no_bytes k r (inr (inr (inr (inr (inr e))))) x h = absurd e

none_spoken : (x : List ℕ) → IsSpoken last x → ⊥
none_spoken x (by_put k n p) = ⊎_elim (λ e. (let q : Ask.Ticket ≡ Ask.Put p.token k n x = ap (λ (z : Request). z.ask) (sym e) ∙ p.asks in absurd (cc))) (λ e. (let q : Ask.Lock row ≡ Ask.Put p.token k n x = ap (λ (z : Request). z.ask) (sym e) ∙ p.asks in absurd (cc))) (no_put p.by p.request p.message)
none_spoken x (by_reply k r m e) = no_bytes k r m x e

no_config : (x : List ℕ) → Exchanged refused.trace Ask.Config (Say.Bytes x) → ⊥
no_config x (inl h) = let e : Ask.Lock row ≡ Ask.Config = h.0 in absurd (cc)
no_config x (inr (inl h)) = let e : Ask.Ticket ≡ Ask.Config = h.0 in absurd (cc)
no_config x (inr (inr h)) = absurd h

none_known : (x : List ℕ) → IsKnown last x → ⊥
none_known x (known_spoken h) = none_spoken x h
none_known x (known_part h) = none_spoken h.pack h.there
none_known x (known_made zero made) = no_config made.cut.text made.cut.read
none_known x (known_made (suc k) made) = absurd made

calm : HasNoClash last
calm x y a b e = absurd (none_known x a)

pub example_is_run : ExampleIsARun
example_is_run = (run, calm)
