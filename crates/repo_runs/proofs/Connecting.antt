-- What is answered over connections is a run of the world.
use Rattle.std.specs.Prelude.{⊤}
use Rattle.std.proofs.Common.{◌≡◌, inl, inr, ⊎_elim, ℕ, zero, suc, ◌++◌, ◌∷◌, [], List, length, refl, sym, ◌∙◌, ap, subst, Option, Some, slice_get, slice_set}
use Rattle.repo_wire.specs.declared.messages.Reply.{Reply}
use Rattle.repo_wire.specs.declared.messages.Request.{Request}
use Rattle.repo_store.specs.Failing.{Plainly}
use Rattle.repo_store.specs.Runs.{Replies, StoreRun}
use Rattle.repo_store.specs.Stores.{Store}
use Rattle.repo_hall.specs.Happenings.{Log, Brought, Answered, Given, all_asked, all_replies}
use Rattle.repo_session.specs.Clients.{exchange}
use Rattle.repo_session.specs.Feeds.{Fed}
use Rattle.repo_session.specs.Traces.{fed_in, feeding}
use Rattle.repo_backup.specs.Items.{AreTaken}
use Rattle.repo_world.specs.Clients.{Client, IsWaiting, MayBeFed}
use Rattle.repo_world.specs.Events.{Delivers, Feeds, Happens, MayAnybodySend, Takes}
use Rattle.repo_world.specs.World.{World, Message, Asked, Said, IsOneOf, client, sends}
use Rattle.repo_world.specs.declared.events.Applied.{Applied}
use Rattle.repo_world.specs.declared.events.Event.{Event}
use Rattle.repo_world.proofs.Asking.{memory_or, unchanged}
use Rattle.repo_world.proofs.Later.{has_left, has_split}
use Rattle.repo_runs.proofs.Joining.{as_item, as_item_is, run_more}
use Rattle.repo_runs.specs.Connected.{AnswerGoes, AreFed, ConnectionsAreARun, HallGoes, HallsGo, LeadsTo, Senders, with_store}

-- ---- runs of the store

no_reply : (s : Store) (rs : List Reply) (r : Reply) (new : Store) → StoreRun s [] (rs ++ r ∷ []) new → ⊥
no_reply s [] r new h = h
no_reply s (x ∷ rs) r new h = h

no_request : (s : Store) (qs : List Request) (q : Request) (new : Store) → StoreRun s (qs ++ q ∷ []) [] new → ⊥
no_request s [] q new h = h
no_request s (x ∷ qs) q new h = h

run_split : (old : Store) (qs : List Request) (rs : List Reply) (q : Request) (r : Reply) (new : Store) → StoreRun old (qs ++ q ∷ []) (rs ++ r ∷ []) new
    → (mid : Store) × StoreRun old qs rs mid × Replies mid q r new
run_split old [] [] q r new h = (old, refl, subst (λ s. Replies old q r s) (sym h.2) h.1)
run_split old [] (x ∷ rs) q r new h = absurd (no_reply h.0 rs r new h.2)
run_split old (x ∷ qs) [] q r new h = absurd (no_request h.0 qs q new h.2)
run_split old (x ∷ qs) (y ∷ rs) q r new h =
    let s = run_split h.0 qs rs q r new h.2 in
    (s.0, (h.0, h.1, s.1), s.2)

-- ---- messages by their places

place_of : (xs : List Message) (m : Message) → IsOneOf xs m → (i : ℕ) × (slice_get xs i ≡ Some m)
place_of [] m h = absurd h
place_of (x ∷ xs) m (inl e) = (zero, ap Some e)
place_of (x ∷ xs) m (inr h) = let r = place_of xs m h in (suc r.0, r.1)

at_end : (xs : List Message) (x : Message) → slice_get (xs ++ x ∷ []) (length xs) ≡ Some x
at_end [] x = refl
at_end (y ∷ xs) x = at_end xs x

all_left : (xs ys zs : List Message) → ((m : Message) → IsOneOf xs m → IsOneOf ys m) → (m : Message) → IsOneOf xs m → IsOneOf (ys ++ zs) m
all_left xs ys zs more m h = has_left ys zs m (more m h)

has_right : (xs ys : List Message) (m : Message) → IsOneOf ys m → IsOneOf (xs ++ ys) m
has_right [] ys m h = h
has_right (x ∷ xs) ys m h = inr (has_right xs ys m h)

both_left : (xs ys us zs : List Message) → ((m : Message) → IsOneOf xs m → IsOneOf ys m) → (m : Message) → IsOneOf (xs ++ zs) m → IsOneOf ((ys ++ us) ++ zs) m
both_left xs ys us zs more m h = ⊎_elim (λ g. has_left (ys ++ us) zs m (has_left ys us m (more m g))) (λ g. has_right (ys ++ us) zs m g) (has_split xs zs m h)

front_left : (xs ys zs : List Message) → ((m : Message) → IsOneOf xs m → IsOneOf ys m) → (m : Message) → IsOneOf (xs ++ zs) m → IsOneOf (ys ++ zs) m
front_left xs ys zs more m h = ⊎_elim (λ g. has_left ys zs m (more m g)) (λ g. has_right ys zs m g) (has_split xs zs m h)

-- ---- a client is fed

leads_on : (w : World) (mid : Store) (between : Senders) (to : Store) (new : Senders) → (l : LeadsTo w mid between) → LeadsTo l.last to new → LeadsTo w to new
leads_on w mid between to new l m = record {
  events = l.events ++ m.events;
  last = m.last;
  run = run_more w l.events m.events l.last m.last l.run m.run;
  store_is = m.store_is;
  clients_are = m.clients_are;
  sent = m.sent;
}

-- one item, in a world with these clients
module _ (u : World) (old : Senders) (clients : u.clients ≡ old.clients) (sent : (m : Message) → IsOneOf old.sent m → IsOneOf u.messages m) (k : ℕ) (item : Fed) (new : Senders) (t : Feeds (with_store u.store old) k item (with_store u.store new)) where
  same_fed : client (with_store u.store old) k ≡ client u k
  same_fed = ap (λ (cs : List Client). client (record { store = u.store; clients = cs; messages = [] }) k) (sym clients)

  abbrev fed : World
  fed = record { store = u.store; clients = slice_set u.clients k t.new; messages = u.messages ++ sends k t.new.next }

  feeds : Feeds u k item fed
  feeds = record {
    fed = subst (λ (c : Client). MayBeFed c) same_fed t.fed;
    waits = subst (λ (c : Client). IsWaiting c) same_fed t.waits;
    may = subst (λ (c : Client). AreTaken (item ∷ fed_in c.trace)) same_fed t.may;
    new = t.new;
    job = t.job ∙ ap (λ (c : Client). c.job) same_fed;
    who = t.who ∙ ap (λ (c : Client). c.who) same_fed;
    trace = t.trace ∙ ap (λ (c : Client). feeding item c.trace) same_fed;
    up = t.up;
    dutiful = t.dutiful;
    is = refl;
  }

  fed_after : new ≡ record { clients = slice_set old.clients k t.new; sent = old.sent ++ sends k t.new.next }
  fed_after = ap (λ (x : World). record { clients = x.clients; sent = x.messages }) t.is

  item_leads : LeadsTo u u.store new
  item_leads = record {
    events = Event.Feed k (as_item item) ∷ [];
    last = fed;
    run = (fed, (Applied.Done, inl (refl, subst (λ x. Feeds u k x fed) (sym (as_item_is item)) feeds)), refl);
    store_is = refl;
    clients_are = ap (λ (cs : List Client). slice_set cs k t.new) clients ∙ ap (λ (s : Senders). s.clients) (sym fed_after);
    sent = subst (λ (ms : List Message). (m : Message) → IsOneOf ms m → IsOneOf fed.messages m) (ap (λ (s : Senders). s.sent) (sym fed_after)) (front_left old.sent u.messages (sends k t.new.next) sent);
  }

-- some items, one after another
fed_leads : (w : World) (to : Store) (old : Senders) (k : ℕ) (items : List Fed) (new : Senders) → LeadsTo w to old → AreFed old k items new → LeadsTo w to new
fed_leads w to old k [] new l same = subst (LeadsTo w to) (sym same) l
fed_leads w to old k (item ∷ items) new l (mid, before, feeds) =
    let b = fed_leads w to old k items mid l before in
    let one = item_leads b.last mid b.clients_are b.sent k item new (feeds b.last.store) in
    leads_on w to mid to new b (subst (λ s. LeadsTo b.last s new) b.store_is one)

-- ---- one answer, in a world with these clients, in which what they sent is among the messages

module _ (u : World) (old : Senders) (clients : u.clients ≡ old.clients) (sent : (m : Message) → IsOneOf old.sent m → IsOneOf u.messages m) (request : Request) (reply : Reply) (to : Store) (replies : Replies u.store request reply to) where
  -- the request of a client is delivered
  module _ (k : ℕ) (asked : IsOneOf old.sent (Asked k request)) where
    place : (i : ℕ) × (slice_get u.messages i ≡ Some (Asked k request))
    place = place_of u.messages (Asked k request) (sent (Asked k request) asked)

    abbrev answered : World
    answered = record { store = to; clients = u.clients; messages = u.messages ++ Said k reply ∷ [] }

    served : Happens ⊤ u (Event.Deliver place.0) Applied.Done answered
    served = subst (λ (m : Option Message). Delivers (Plainly ⊤) u m Applied.Done answered) (sym place.1)
        (refl, record { reply = reply; store = to; answers = (replies.instance, replies.sequence); step = (replies.step, λ e. tt); is = refl })

    pub lost : LeadsTo u to old
    lost = record {
      events = Event.Deliver place.0 ∷ [];
      last = answered;
      run = (answered, (Applied.Done, served), refl);
      store_is = refl;
      clients_are = clients;
      sent = all_left old.sent u.messages (Said k reply ∷ []) sent;
    }

    -- and the client takes the reply
    module _ (new : Senders) (t : Takes (with_store to old) k reply (with_store to new)) where
      same : client (with_store to old) k ≡ client answered k
      same = ap (λ (cs : List Client). client (record { store = to; clients = cs; messages = [] }) k) (sym clients)

      abbrev taken : World
      taken = record { store = to; clients = slice_set u.clients k t.new; messages = (u.messages ++ Said k reply ∷ []) ++ sends k t.new.next }

      takes : Takes answered k reply taken
      takes = record {
        running = ap (λ (c : Client). c.crashed) (sym same) ∙ t.running;
        request = t.request;
        pending = ap (λ (c : Client). c.next) (sym same) ∙ t.pending;
        answers = t.answers;
        emitted = t.emitted;
        new = t.new;
        job = t.job ∙ ap (λ (c : Client). c.job) same;
        who = t.who ∙ ap (λ (c : Client). c.who) same;
        trace = t.trace ∙ ap (λ (c : Client). exchange t.request reply t.emitted ∷ c.trace) same;
        up = t.up;
        dutiful = t.dutiful;
        stays = λ o e. t.stays o (ap (λ (c : Client). c.outcome) same ∙ e);
        is = refl;
      }

      given : Happens ⊤ answered (Event.Deliver (length u.messages)) Applied.Done taken
      given = subst (λ (m : Option Message). Delivers (Plainly ⊤) answered m Applied.Done taken) (sym (at_end u.messages (Said k reply))) (inl (refl, takes))

      after : new ≡ record { clients = slice_set old.clients k t.new; sent = old.sent ++ sends k t.new.next }
      after = ap (λ (x : World). record { clients = x.clients; sent = x.messages }) t.is

      pub taken_leads : LeadsTo u to new
      taken_leads = record {
        events = Event.Deliver place.0 ∷ Event.Deliver (length u.messages) ∷ [];
        last = taken;
        run = (answered, (Applied.Done, served), (taken, (Applied.Done, given), refl));
        store_is = refl;
        clients_are = ap (λ (cs : List Client). slice_set cs k t.new) clients ∙ ap (λ (s : Senders). s.clients) (sym after);
        sent = subst (λ (ms : List Message). (m : Message) → IsOneOf ms m → IsOneOf taken.messages m) (ap (λ (s : Senders). s.sent) (sym after)) (both_left old.sent u.messages (Said k reply ∷ []) (sends k t.new.next) sent);
      }

  -- somebody asks who is no client
  strange : MayAnybodySend request → LeadsTo u to old
  strange may = ⊎_elim
      (λ none. record { events = []; last = u; run = refl; store_is = sym (unchanged u.store request.ask reply.say to may.1 none replies.step); clients_are = clients; sent = sent })
      (λ other. record {
        events = Event.Ask request ∷ [];
        last = record { store = to; clients = u.clients; messages = u.messages };
        run = (record { store = to; clients = u.clients; messages = u.messages }, (Applied.Done, inl (refl, record { may = may; reply = reply; store = to; answers = (replies.instance, replies.sequence); step = (replies.step, λ e. tt); memory = other; is = refl })), refl);
        store_is = refl;
        clients_are = clients;
        sent = sent;
      })
      (memory_or reply.say)

  pub answer_leads : (new : Senders) → AnswerGoes old request reply new → LeadsTo u to new
  answer_leads new (inl t) = fed_leads u to t.mid t.by t.items new (taken_leads t.by t.sent t.mid (t.takes to)) t.fed
  answer_leads new (inr (inl (k, asked), e)) = subst (LeadsTo u to) (sym e) (lost k asked)
  answer_leads new (inr (inr may, e)) = subst (LeadsTo u to) (sym e) (strange may)

-- ---- one after another

hall_leads : (w : World) (old : Senders) (log : Log) (to : Store) (new : Senders) → w.clients ≡ old.clients → ((m : Message) → IsOneOf old.sent m → IsOneOf w.messages m)
    → StoreRun w.store (all_asked log) (all_replies log) to → HallGoes old log new → LeadsTo w to new
hall_leads w old [] to new clients sent run goes = record {
  events = [];
  last = w;
  run = refl;
  store_is = sym run;
  clients_are = clients ∙ ap (λ (s : Senders). s.clients) (sym goes);
  sent = subst (λ (s : Senders). (m : Message) → IsOneOf s.sent m → IsOneOf w.messages m) (sym goes) sent;
}
hall_leads w old (Brought n piece ∷ log) to new clients sent run goes = hall_leads w old log to new clients sent run goes
hall_leads w old (Given n piece ∷ log) to new clients sent run goes = hall_leads w old log to new clients sent run goes
hall_leads w old (Answered n request reply ∷ log) to new clients sent run (mid, before, goes) =
    let s = run_split w.store (all_asked log) (all_replies log) request reply to run in
    let l = hall_leads w old log s.0 mid clients sent s.1 before in
    leads_on w s.0 mid to new l (answer_leads l.last mid l.clients_are l.sent request reply to (subst (λ x. Replies x request reply to) (sym l.store_is) s.2) new goes)

-- the server is closed and opened
reopened : (w : World) (to : Store) (s : Senders) → LeadsTo w to s → LeadsTo w to s
reopened w to s l = record {
  events = l.events ++ Event.Restart ∷ [];
  last = l.last;
  run = run_more w l.events (Event.Restart ∷ []) l.last l.last l.run (l.last, (Applied.Done, (refl, refl)), refl);
  store_is = l.store_is;
  clients_are = l.clients_are;
  sent = l.sent;
}

halls_lead : (w : World) (old : Senders) (logs : List Log) (to : Store) (new : Senders) → w.clients ≡ old.clients → ((m : Message) → IsOneOf old.sent m → IsOneOf w.messages m)
    → HallsGo w.store old logs to new → LeadsTo w to new
halls_lead w old [] to new clients sent (same, goes) = record {
  events = [];
  last = w;
  run = refl;
  store_is = sym same;
  clients_are = clients ∙ ap (λ (s : Senders). s.clients) (sym goes);
  sent = subst (λ (s : Senders). (m : Message) → IsOneOf s.sent m → IsOneOf w.messages m) (sym goes) sent;
}
halls_lead w old (log ∷ logs) to new clients sent (mid, between, (failed, failing, hosted), goes, more) =
    let l = reopened w mid between (hall_leads w old log mid between clients sent hosted.run goes) in
    leads_on w mid between to new l (halls_lead l.last between logs to new l.clients_are l.sent (subst (λ x. HallsGo x between logs to new) (sym l.store_is) more))

pub connections_are_a_run : ConnectionsAreARun
connections_are_a_run w logs to s goes = halls_lead w (record { clients = w.clients; sent = w.messages }) logs to s refl (λ m h. h) goes
