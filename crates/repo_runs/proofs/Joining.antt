-- What a client that is alone with its store does is a part of a run.
use Rattle.std.specs.Prelude.{⊤}
use Rattle.std.proofs.Common.{arith, take_all, ◌≡◌, ◌≢◌, ◌<◌, ◌^◌, inl, inr, ℕ, ◌+◌, false, ◌++◌, ◌∷◌, [], List, length, refl, sym, ◌∙◌, ap, subst, Option, Some, None, slice_get, slice_set, append-nil}
use Rattle.std.proofs.lemmas.Option.{none-some}
use Rattle.repo_name.specs.Rows.{IsHost}
use Rattle.repo_name.specs.declared.tokens.Token.{Token}
use Rattle.repo_wire.specs.declared.messages.Ask.{Ask}
use Rattle.repo_wire.specs.declared.messages.Reply.{Reply}
use Rattle.repo_wire.specs.declared.messages.Request.{Request}
use Rattle.repo_wire.specs.declared.messages.Say.{Say}
use Rattle.repo_store.specs.StoreMachine.{Step}
use Rattle.repo_store.specs.Stores.{Store}
use Rattle.repo_session.specs.declared.versions.Versions.{Versions}
use Rattle.repo_session.specs.declared.outcomes.Outcome.{Outcome}
use Rattle.repo_session.specs.Askers.{Asker, asker}
use Rattle.repo_session.specs.Clients.{exchange}
use Rattle.repo_session.specs.Order.{Task, May, IsPermitted, IsWorking, Obeys, opened, locked, ticketed}
use Rattle.repo_session.specs.Talks.{Talk, trace_of}
use Rattle.repo_session.specs.Feeds.{Fed, fed_dir, fed_file, fed_bytes, fed_close, fed_end, fed_abandon}
use Rattle.repo_session.specs.Traces.{Each, Exchange, Trace, fed_in, feeding, giving}
use Rattle.repo_session.specs.declared.emissions.Emission.{Emission}
use Rattle.repo_backup.specs.Items.{AreTaken, MayTake, fed_of, place_of}
use Rattle.repo_backup.specs.PieceRules.{WantsInput}
use Rattle.repo_backup.specs.declared.items.Item.{Item}
use Rattle.repo_feeding.specs.FedRules.{AreWelcome, AreWelcomeOn}
use Rattle.repo_feeding.specs.Unfed.{unfed}
use Rattle.repo_feeding.proofs.Fed.{fed_clients}
use Rattle.repo_session.proofs.Growing.{Led, led}
use Rattle.repo_world.specs.Clients.{Accepts, Client, task_of}
use Rattle.repo_world.specs.Duties.{GivesAny, IsDutiful, Owes}
use Rattle.repo_world.proofs.Owing.{ruled_dutiful}
use Rattle.repo_world.specs.Events.{Delivers, Feeds, Takes, Happens, Run}
use Rattle.repo_store.specs.Failing.{Plainly}
use Rattle.repo_runs.proofs.Waiting.{asked_of, waits_dutiful}
use Rattle.repo_runs.specs.Fed.{AreWelcomeTo, IsFedWell}
use Rattle.repo_runs.specs.Lone.{FedBackupIsARun, LoneTalkIsARun, ended}
use Rattle.repo_world.specs.World.{World, Message, Asked, Said, client, client_at, sends, instance_of, first_of, started}
use Rattle.repo_world.specs.declared.jobs.Job.{Job}
use Rattle.repo_world.specs.declared.events.Event.{Event}
use Rattle.repo_world.specs.declared.events.Applied.{Applied}

-- ---- lists

got_last : (xs : List Message) (x : Message) → slice_get (xs ++ x ∷ []) (length xs) ≡ Some x
got_last [] x = refl
got_last (y ∷ xs) x = got_last xs x

client_last : (xs : List Client) (c : Client) → client_at (xs ++ c ∷ []) (length xs) ≡ c
client_last [] c = refl
client_last (y ∷ xs) c = client_last xs c

set_last : (xs : List Client) (c d : Client) → slice_set (xs ++ c ∷ []) (length xs) d ≡ xs ++ d ∷ []
set_last [] c d = refl
set_last (y ∷ xs) c d = ap (λ (zs : List Client). y ∷ zs) (set_last xs c d)

joined : (xs ys zs : List Message) (a b : Message) → ((xs ++ ys) ++ a ∷ []) ++ b ∷ [] ≡ xs ++ (ys ++ a ∷ b ∷ [])
joined [] [] zs a b = refl
joined [] (y ∷ ys) zs a b = ap (λ (ms : List Message). y ∷ ms) (joined [] ys zs a b)
joined (x ∷ xs) ys zs a b = ap (λ (ms : List Message). x ∷ ms) (joined xs ys zs a b)

pub run_more : (w : World) (es fs : List Event) (u v : World) → Run w es u → Run u fs v → Run w (es ++ fs) v
run_more w [] fs u v h g = subst (λ (x : World). Run x fs v) h g
run_more w (e ∷ es) fs u v h g = (h.0, h.1, run_more h.0 es fs u v h.2 g)

-- ---- first comes the ticket

none_yet : (task : Task) (token : Token) → IsWorking task token [] → ⊥
none_yet task token w = let o = w.1 in not_opened task token o.text o.later o.since
  where
    not_opened : (task : Task) (token : Token) (text : List ℕ) (later : Trace) → [] ≡ later ++ opened task token text → ⊥
    not_opened task token text [] q = absurd (cc)
    not_opened task token text (x ∷ later) q = absurd (cc)

not_locked : (task : Task) (token : Token) (later : Trace) → [] ≡ later ++ locked task token → ⊥
not_locked task token [] q = absurd (cc)
not_locked task token (x ∷ later) q = absurd (cc)

pub first_ticket : (task : Task) (a : Ask) → May task [] a → a ≡ Ask.Ticket
first_ticket task Ask.Ticket m = refl
first_ticket task (Ask.Lock row) m = let q : [] ≡ ticketed m.0 = m.1 in absurd (cc)
first_ticket task Ask.Config m = let q : [] ≡ locked task m.0 = m.1 in absurd (cc)
first_ticket task (Ask.List k after) m = absurd (none_yet task m.0.0 m.0.1)
first_ticket task (Ask.Get k n) m = absurd (none_yet task m.0.0 m.0.1)
first_ticket task (Ask.Range p offset len) m = absurd (none_yet task m.0.0 m.0.1)
first_ticket task (Ask.Put t k n x) m = absurd (none_yet task t m.0)
first_ticket task (Ask.Delete t k n) m = absurd (none_yet task t m.0)
first_ticket task (Ask.Upgrade t) m = absurd (none_yet task t m.0)
first_ticket task (Ask.Unlock t) m = absurd (not_locked task t m.later m.since)
first_ticket task (Ask.Refresh t time) m = absurd m
first_ticket task Ask.Locks m = absurd m

-- ---- what is fed

-- an exchange on which these items were fed
abbrev on_exchange : List Fed → Ask → Say → List Emission → Exchange
on_exchange items ask say emitted = record { ask = ask; say = say; emitted = emitted; fed = items }

-- an item as it is given
pub as_item : Fed → Item
as_item (fed_dir name) = Item.Dir (record { ref_ptr = (0, 0); now = name })
as_item (fed_file name) = Item.File (record { ref_ptr = (0, 0); now = name })
as_item (fed_bytes bytes) = Item.Bytes (record { ref_ptr = (0, 0); now = bytes })
as_item fed_close = Item.Close
as_item fed_end = Item.End
as_item fed_abandon = Item.Abandon

pub as_item_is : (item : Fed) → fed_of (as_item item) ≡ item
unfolding as_item
as_item_is (fed_dir name) = refl
as_item_is (fed_file name) = refl
as_item_is (fed_bytes bytes) = ap fed_bytes (take_all (length bytes) bytes (omega arith))
as_item_is fed_close = refl
as_item_is fed_end = refl
as_item_is fed_abandon = refl

-- nothing was fed on any exchange
abbrev pub AreUnfed : Trace → Type 0
AreUnfed es = Each (λ e. e.fed ≡ []) es

-- which may be so, whatever the job
pub unfed_well : (job : Job) (es : Trace) → AreUnfed es → IsFedWell job es
unfed_well job [] h = tt
unfed_well job (e ∷ es) h = (subst (λ items. AreWelcomeTo job items e.ask e.say e.emitted es) (sym h.0) tt, unfed_well job es h.1)

-- ---- the world while a client talks

abbrev answered_of : ℕ → Trace → Say → Reply
answered_of k es s = record { instance = instance_of k; sequence = length es + 1; say = s }

-- the messages of these exchanges
abbrev pub posts : ℕ → Trace → List Message
posts k [] = []
posts k (e ∷ es) = posts k es ++ Asked k (asked_of k es e.ask) ∷ Said k (answered_of k es e.say) ∷ []

module _ (w : World) (job : Job) (host : List ℕ) (time : ℕ) (accepted : Accepts job) (limits : (time < 2 ^ 64) × IsHost host) where
  abbrev k : ℕ
  k = length w.clients

  abbrev who : Asker
  who = asker (instance_of (length w.clients)) host time Versions.Both

  abbrev talking : Trace → Option Request → Option Outcome → Client
  talking es next o = record { job = job; who = asker (instance_of (length w.clients)) host time Versions.Both; trace = es; next = next; outcome = o; crashed = false }

  abbrev sent : Trace → List Message
  sent es = w.messages ++ posts (length w.clients) es

  abbrev at : Trace → Option Request → Option Outcome → Store → World
  at es next o store = record { store = store; clients = w.clients ++ talking es next o ∷ []; messages = sent es ++ sends (length w.clients) next }

  -- a client that waits for input is dutiful
  waits_input : (fed old : List Fed) (ask : Ask) (say : Say) (emitted : List Emission) (es : Trace) → Obeys (task_of job who) (Owes job) GivesAny (on_exchange old ask say emitted ∷ es) → IsDutiful (talking (on_exchange fed ask say emitted ∷ es) None None)
  waits_input fed old ask say emitted es obeys = record { obeys = (obeys.0, obeys.1, inr tt, obeys.3); pending = λ r q. absurd (none-some r q); concluded = λ x q. absurd (none-some x q) }

  -- the request is delivered, and its reply
  module _ (es : Trace) (ask : Ask) (say : Say) (emitted : List Emission) (mid to : Store) (o : Option Outcome) (step : Step mid ask say to) where
    abbrev before : World
    before = at es (Some (asked_of (length w.clients) es ask)) o mid

    abbrev between : World
    between = record { store = to; clients = w.clients ++ talking es (Some (asked_of (length w.clients) es ask)) o ∷ []; messages = (sent es ++ Asked (length w.clients) (asked_of (length w.clients) es ask) ∷ []) ++ Said (length w.clients) (answered_of (length w.clients) es say) ∷ [] }

    served_now : Happens ⊤ before (Event.Deliver (length (sent es))) Applied.Done between
    served_now = subst (λ (m : Option Message). Delivers (Plainly ⊤) before m Applied.Done between) (sym (got_last (sent es) (Asked (length w.clients) (asked_of (length w.clients) es ask))))
        (refl, record { reply = answered_of (length w.clients) es say; store = to; answers = (refl, refl); step = (step, λ q. tt); is = refl })

    here : client between (length w.clients) ≡ talking es (Some (asked_of (length w.clients) es ask)) o
    here = client_last w.clients (talking es (Some (asked_of (length w.clients) es ask)) o)

    -- and the client goes on so
    module _ (next : Option Request) (p : Option Outcome) (dutiful : IsDutiful (talking (giving ask say emitted ∷ es) next p)) (stays : (x : Outcome) → o ≡ Some x → p ≡ Some x) where
      messages_are : (sent es ++ Asked (length w.clients) (asked_of (length w.clients) es ask) ∷ []) ++ Said (length w.clients) (answered_of (length w.clients) es say) ∷ [] ≡ sent (giving ask say emitted ∷ es)
      messages_are = joined w.messages (posts (length w.clients) es) [] (Asked (length w.clients) (asked_of (length w.clients) es ask)) (Said (length w.clients) (answered_of (length w.clients) es say))

      world_is : at (giving ask say emitted ∷ es) next p to ≡ record { store = to; clients = slice_set between.clients (length w.clients) (talking (giving ask say emitted ∷ es) next p); messages = between.messages ++ sends (length w.clients) next }
      world_is =
          ap (λ (cs : List Client). record { store = to; clients = cs; messages = sent (giving ask say emitted ∷ es) ++ sends (length w.clients) next }) (sym (set_last w.clients (talking es (Some (asked_of (length w.clients) es ask)) o) (talking (giving ask say emitted ∷ es) next p)))
          ∙ ap (λ (ms : List Message). record { store = to; clients = slice_set between.clients (length w.clients) (talking (giving ask say emitted ∷ es) next p); messages = ms ++ sends (length w.clients) next }) (sym messages_are)

      takes : Takes between (length w.clients) (answered_of (length w.clients) es say) (at (giving ask say emitted ∷ es) next p to)
      takes = record {
        running = ap (λ (c : Client). c.crashed) here;
        request = asked_of (length w.clients) es ask;
        pending = ap (λ (c : Client). c.next) here;
        answers = (refl, refl);
        emitted = emitted;
        new = talking (giving ask say emitted ∷ es) next p;
        job = sym (ap (λ (c : Client). c.job) here);
        who = sym (ap (λ (c : Client). c.who) here);
        trace = ap (λ (c : Client). giving ask say emitted ∷ c.trace) (sym here);
        up = refl;
        dutiful = dutiful;
        stays = λ x q. stays x (sym (ap (λ (c : Client). c.outcome) here) ∙ q);
        is = world_is;
      }

      taken_now : Happens ⊤ between (Event.Deliver (length (sent es ++ Asked (length w.clients) (asked_of (length w.clients) es ask) ∷ []))) Applied.Done (at (giving ask say emitted ∷ es) next p to)
      taken_now = subst (λ (m : Option Message). Delivers (Plainly ⊤) between m Applied.Done (at (giving ask say emitted ∷ es) next p to)) (sym (got_last (sent es ++ Asked (length w.clients) (asked_of (length w.clients) es ask) ∷ []) (Said (length w.clients) (answered_of (length w.clients) es say))))
          (inl (refl, takes))

      one_reply : (events : List Event) × Run before events (at (giving ask say emitted ∷ es) next p to)
      one_reply = (
        Event.Deliver (length (sent es)) ∷ Event.Deliver (length (sent es ++ Asked (length w.clients) (asked_of (length w.clients) es ask) ∷ [])) ∷ [],
        (between, (Applied.Done, served_now), (at (giving ask say emitted ∷ es) next p to, (Applied.Done, taken_now), refl)),
      )

  -- the client is fed on its newest exchange
  module _ (es : Trace) (ask : Ask) (say : Say) (emitted : List Emission) (to : Store) (pieces : job ≡ Job.Pieces) where
    -- one item more
    module _ (items : List Fed) (item : Fed) (next : Option Request) (p : Option Outcome) (wants : WantsInput (on_exchange items ask say emitted ∷ es)) (may : MayTake (place_of (items ++ fed_in es)) item)
        (dutiful : IsDutiful (talking (on_exchange (item ∷ items) ask say emitted ∷ es) next p)) where
      abbrev hungry : World
      hungry = at (on_exchange items ask say emitted ∷ es) None None to

      fed_here : client hungry (length w.clients) ≡ talking (on_exchange items ask say emitted ∷ es) None None
      fed_here = client_last w.clients (talking (on_exchange items ask say emitted ∷ es) None None)

      fed_is : at (on_exchange (item ∷ items) ask say emitted ∷ es) next p to
          ≡ record { store = to; clients = slice_set hungry.clients (length w.clients) (talking (on_exchange (item ∷ items) ask say emitted ∷ es) next p); messages = hungry.messages ++ sends (length w.clients) next }
      fed_is =
          ap (λ (cs : List Client). record { store = to; clients = cs; messages = sent (giving ask say emitted ∷ es) ++ sends (length w.clients) next })
          (sym (set_last w.clients (talking (on_exchange items ask say emitted ∷ es) None None) (talking (on_exchange (item ∷ items) ask say emitted ∷ es) next p)))
          ∙ ap (λ (ms : List Message). record { store = to; clients = slice_set hungry.clients (length w.clients) (talking (on_exchange (item ∷ items) ask say emitted ∷ es) next p); messages = ms ++ sends (length w.clients) next })
          (sym (append-nil (sent (giving ask say emitted ∷ es))))

      feeds : Feeds hungry (length w.clients) item (at (on_exchange (item ∷ items) ask say emitted ∷ es) next p to)
      feeds = record {
        fed = (ap (λ (c : Client). c.crashed) fed_here, ap (λ (c : Client). c.job) fed_here ∙ pieces);
        waits = (ap (λ (c : Client). c.next) fed_here, ap (λ (c : Client). c.outcome) fed_here);
        may = subst (λ (c : Client). AreTaken (item ∷ fed_in c.trace)) (sym fed_here) (wants.goes_on, wants.kept, may, wants.taken);
        new = talking (on_exchange (item ∷ items) ask say emitted ∷ es) next p;
        job = sym (ap (λ (c : Client). c.job) fed_here);
        who = sym (ap (λ (c : Client). c.who) fed_here);
        trace = ap (λ (c : Client). feeding item c.trace) (sym fed_here);
        up = refl;
        dutiful = dutiful;
        is = fed_is;
      }

      fed_now : Happens ⊤ hungry (Event.Feed (length w.clients) (as_item item)) Applied.Done (at (on_exchange (item ∷ items) ask say emitted ∷ es) next p to)
      fed_now = inl (refl, subst (λ x. Feeds hungry (length w.clients) x (at (on_exchange (item ∷ items) ask say emitted ∷ es) next p to)) (sym (as_item_is item)) feeds)

      one_item : (events : List Event) × Run hungry events (at (on_exchange (item ∷ items) ask say emitted ∷ es) next p to)
      one_item = (Event.Feed (length w.clients) (as_item item) ∷ [], (at (on_exchange (item ∷ items) ask say emitted ∷ es) next p to, (Applied.Done, fed_now), refl))

    -- all items but the newest
    older_items : (item : Fed) (items all : List Fed) → AreWelcomeOn (item ∷ items) ask say emitted es → Obeys (task_of job who) (Owes job) GivesAny (on_exchange all ask say emitted ∷ es)
        → (events : List Event) × Run (at (giving ask say emitted ∷ es) None None to) events (at (on_exchange items ask say emitted ∷ es) None None to)
    older_items item [] all welcome obeys = ([], refl)
    older_items item (older ∷ items) all welcome obeys =
        let before = older_items older items all welcome.3 obeys in
        let one = one_item items older None None welcome.3.1 welcome.3.2 (waits_input (older ∷ items) all ask say emitted es obeys) in
        (before.0 ++ one.0, run_more (at (giving ask say emitted ∷ es) None None to) before.0 one.0 (at (on_exchange items ask say emitted ∷ es) None None to) (at (on_exchange (older ∷ items) ask say emitted ∷ es) None None to) before.1 one.1)

  -- one turn: the request is delivered, and its reply; and then the client is fed, if it is
  turn_by : (es : Trace) (ask : Ask) (say : Say) (emitted : List Emission) (items : List Fed) (mid to : Store) (o p : Option Outcome) (next : Option Request) → AreWelcomeTo job items ask say emitted es → Step mid ask say to
      → IsDutiful (talking (on_exchange items ask say emitted ∷ es) next p) → ((x : Outcome) → o ≡ Some x → p ≡ Some x) → (items ≢ [] → o ≡ None)
      → (events : List Event) × Run (at es (Some (asked_of (length w.clients) es ask)) o mid) events (at (on_exchange items ask say emitted ∷ es) next p to)
  turn_by es ask say emitted [] mid to o p next welcome step dutiful stays open_still = one_reply es ask say emitted mid to o step next p dutiful stays
  turn_by es ask say emitted (item ∷ items) mid to o p next welcome step dutiful stays open_still =
      let obeys = dutiful.obeys in
      let none : o ≡ None = open_still (λ e. absurd (cc)) in
      let first = waits_input [] (item ∷ items) ask say emitted es obeys in
      let reply = one_reply es ask say emitted mid to o step None None first (λ x q. absurd (none-some x (sym none ∙ q))) in
      let older = older_items es ask say emitted to welcome.0 item items (item ∷ items) welcome.1 obeys in
      let last = one_item es ask say emitted to welcome.0 items item next p welcome.1.1 welcome.1.2 dutiful in
      let start = at es (Some (asked_of (length w.clients) es ask)) o mid in
      let hungry = at (on_exchange items ask say emitted ∷ es) None None to in
      let end = at (on_exchange (item ∷ items) ask say emitted ∷ es) next p to in
      let fed = run_more (at (giving ask say emitted ∷ es) None None to) older.0 last.0 hungry end older.1 last.1 in
      (reply.0 ++ (older.0 ++ last.0), run_more start reply.0 (older.0 ++ last.0) (at (giving ask say emitted ∷ es) None None to) end reply.1 fed)

  one_turn : (es : Trace) (e : Exchange) (mid to : Store) (o p : Option Outcome) (next : Option Request) → AreWelcomeTo job e.fed e.ask e.say e.emitted es → Step mid e.ask e.say to → IsDutiful (talking (e ∷ es) next p)
      → ((x : Outcome) → o ≡ Some x → p ≡ Some x) → (e.fed ≢ [] → o ≡ None) → (events : List Event) × Run (at es (Some (asked_of (length w.clients) es e.ask)) o mid) events (at (e ∷ es) next p to)
  one_turn es e mid to o p next welcome step dutiful stays open_still = turn_by es e.ask e.say e.emitted e.fed mid to o p next welcome step dutiful stays open_still

  -- the store's steps over these exchanges
  abbrev pub Stepped : Store → Trace → Store → Type 0
  Stepped from [] to = to ≡ from
  Stepped from (e ∷ es) to = (mid : Store) × Stepped from es mid × Step mid e.ask e.say to

  -- the client starts
  starts : (a : Ask) → a ≡ Ask.Ticket → (events : List Event) × Run w events (at [] (Some (asked_of (length w.clients) [] a)) None w.store)
  starts a q = (
    Event.Start job host time false ∷ [],
    (at [] (Some (asked_of (length w.clients) [] a)) None w.store, (Applied.Done, inl (refl, record { accepted = accepted; limits = limits; is = is })), refl),
  )
    where
      is : at [] (Some (asked_of (length w.clients) [] a)) None w.store
          ≡ record { store = w.store; clients = w.clients ++ started (length w.clients) job host time false ∷ []; messages = w.messages ++ Asked (length w.clients) (first_of (length w.clients)) ∷ [] }
      is = ap (λ (b : Ask). at [] (Some (asked_of (length w.clients) [] b)) None w.store) q
          ∙ ap (λ (ms : List Message). record { store = w.store; clients = w.clients ++ started (length w.clients) job host time false ∷ []; messages = ms ++ Asked (length w.clients) (first_of (length w.clients)) ∷ [] }) (append-nil w.messages)

  -- it comes to where a request is pending
  comes : (es : Trace) (mid : Store) (a : Ask) → Stepped w.store es mid → IsFedWell job es → Obeys (task_of job who) (Owes job) GivesAny es → May (task_of job who) es a → IsPermitted (Owes job) es a
      → (events : List Event) × Run w events (at es (Some (asked_of (length w.clients) es a)) None mid)
  comes [] mid a steps well obeys may permitted =
      subst (λ (s : Store). (events : List Event) × Run w events (at [] (Some (asked_of (length w.clients) [] a)) None s)) (sym steps) (starts a (first_ticket (task_of job who) a may))
  comes (e ∷ es) mid a steps well obeys may permitted =
      let before = comes es steps.0 e.ask steps.1 well.1 obeys.3 obeys.0 obeys.1 in
      let next = one_turn es e steps.0 mid None None (Some (asked_of (length w.clients) (e ∷ es) a)) well.0 steps.2 (waits_dutiful (length w.clients) job host time (e ∷ es) a obeys may permitted) (λ x q. absurd (none-some x q)) (λ some. refl) in (
        before.0 ++ next.0,
        run_more w before.0 next.0 (at es (Some (asked_of (length w.clients) es e.ask)) None steps.0) (at (e ∷ es) (Some (asked_of (length w.clients) (e ∷ es) a)) None mid) before.1 next.1,
      )

  -- and to its end
  pub finished_fed : (e : Exchange) (es : Trace) (to : Store) (outcome : Outcome) → Stepped w.store (e ∷ es) to → IsFedWell job (e ∷ es) → IsDutiful (talking (e ∷ es) None (Some outcome)) → (events : List Event) × Run w events (at (e ∷ es) None (Some outcome) to)
  finished_fed e es to outcome steps well dutiful =
      let o = dutiful.obeys in
      let before = comes es steps.0 e.ask steps.1 well.1 o.3 o.0 o.1 in
      let last = one_turn es e steps.0 to None (Some outcome) None well.0 steps.2 dutiful (λ x q. absurd (none-some x q)) (λ some. refl) in (
        before.0 ++ last.0,
        run_more w before.0 last.0 (at es (Some (asked_of (length w.clients) es e.ask)) None steps.0) (at (e ∷ es) None (Some outcome) to) before.1 last.1,
      )

  -- so does one that isn't fed
  pub finished : (e : Exchange) (es : Trace) (to : Store) (outcome : Outcome) → Stepped w.store (e ∷ es) to → AreUnfed (e ∷ es) → IsDutiful (talking (e ∷ es) None (Some outcome)) → (events : List Event) × Run w events (at (e ∷ es) None (Some outcome) to)
  finished e es to outcome steps unfed dutiful = finished_fed e es to outcome steps (unfed_well job (e ∷ es) unfed) dutiful

  -- the store makes its steps whatever was fed between them
  pub steps_so : (from : Store) (fs : Trace) (to : Store) → Stepped from (unfed fs) to → Stepped from fs to
  steps_so from [] to h = h
  steps_so from (e ∷ fs) to h = (h.0, steps_so from fs h.0 h.1, h.2)

-- ---- a talk

talk_steps : (w : World) (job : Job) (host : List ℕ) (time : ℕ) (accepted : Accepts job) (limits : (time < 2 ^ 64) × IsHost host) (talk : Talk) (to : Store) → Led w.store talk to → Stepped w job host time accepted limits w.store (trace_of talk) to
talk_steps w job host time accepted limits [] to h = h
talk_steps w job host time accepted limits (turn ∷ talk) to h = (h.0, talk_steps w job host time accepted limits talk h.0 h.1, h.2.step)

pub lone_talk : LoneTalkIsARun
lone_talk w job host time turn talk to failed failing outcome [] accepted limits ran same well dutiful = absurd (cc)
lone_talk w job host time turn talk to failed failing outcome (e ∷ fs) accepted limits ran same well dutiful =
    let steps = talk_steps w job host time accepted limits (turn ∷ talk) to (led w.store (turn ∷ talk) to ran.run) in
    let steps_fed = steps_so w job host time accepted limits w.store (e ∷ fs) to (subst (λ es. Stepped w job host time accepted limits w.store es to) (sym same) steps) in
    let found = finished_fed w job host time accepted limits e fs to outcome steps_fed well dutiful in
    record { events = found.0; last = _; run = found.1; store_is = refl; clients_are = refl }

-- ---- a backup that feeds itself

pub welcome_well : (fs : Trace) → AreWelcome fs → IsFedWell Job.Pieces fs
welcome_well [] h = tt
welcome_well (e ∷ fs) h = (one e.fed h.0, welcome_well fs h.1)
  where
    one : (items : List Fed) → AreWelcomeOn items e.ask e.say e.emitted fs → AreWelcomeTo Job.Pieces items e.ask e.say e.emitted fs
    one [] h = tt
    one (item ∷ items) h = (refl, h)

-- a talk is that of one who isn't fed
pub unfed_talk : (talk : Talk) → unfed (trace_of talk) ≡ trace_of talk
unfed_talk [] = refl
unfed_talk (turn ∷ talk) = ap (λ (es : Trace). exchange turn.request turn.reply turn.emitted ∷ es) (unfed_talk talk)

pub fed_backup : FedBackupIsARun
fed_backup w whole host time turn talk to failed failing outcome limits ran is =
    let s = fed_clients (asker (instance_of (length w.clients)) host time Versions.Both) whole None (Some outcome) (trace_of (turn ∷ talk)) (unfed_talk (turn ∷ talk)) is in
    (s.fs, s.same, s.told, lone_talk w Job.Pieces host time turn talk to failed failing outcome s.fs tt limits ran s.same (welcome_well s.fs s.welcome) (ruled_dutiful (ended (length w.clients) Job.Pieces host time s.fs (Some outcome)) s.fed))
