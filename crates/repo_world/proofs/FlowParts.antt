-- A flow, as an event changes one of its seats.
use Rattle.std.proofs.Common.{Bool, Bor, ◌≡◌, ◌∙◌, inl, inr, ◌<◌, ◌-◌, ◌++◌, ◌∷◌, [], ℕ, zero, suc, true, false, List, length, map, slice_get, slice_set, slice_index_or, Option, Some, None, is_some, option_map, refl, sym, ap, subst, arith, append-nil, length-append, ◌^◌, lit≤, ⊎_elim, Contains}
use Rattle.std.proofs.lemmas.List.{get_or-set_same, length-map, map-append, map-set}
use Rattle.std.proofs.lemmas.Option.{slice_get-map, slice_get_read}
use Rattle.std.specs.Option.{IfSome, MatchOption, option_copied}
use Rattle.std.proofs.Math.Seq.{get_or-append_seam, map-set_same}
use Rattle.repo_wire.specs.declared.messages.Ask.{Ask}
use Rattle.repo_wire.specs.declared.messages.Reply.{Reply}
use Rattle.repo_wire.specs.declared.messages.Request.{Request}
use Rattle.repo_store.specs.Stores.{Store}
use Rattle.repo_store.specs.declared.faults.Armed.{Armed}
use Rattle.repo_name.specs.Rows.{IsHost}
use Rattle.repo_session.specs.Askers.{asker}
use Rattle.repo_session.specs.Clients.{AnswersNext, exchange}
use Rattle.repo_world.specs.AnyClients.{FitsAny, any_next, any_obeys, client_of, given_to}
use Rattle.repo_session.specs.Feeds.{Fed}
use Rattle.repo_session.specs.Traces.{Each, fed_in, feeding}
use Rattle.repo_backup.specs.Items.{AreTaken, IsCountOf, fed_part, size_of}
use Rattle.repo_backup.specs.declared.items.FeedError.{FeedError}
use Rattle.repo_backup.specs.declared.items.Item.{Item}
use Rattle.repo_world.specs.Clients.{Accepts, Client, IsWaiting, MayBeFed}
use Rattle.repo_world.specs.Events.{Arrives, Crashes, Feeds, Gives, RefusesItem, Serves, Starts, Takes, Unfeeds}
use Rattle.repo_world.specs.Flows.{EachIsThere, Flow, FlowStands, IsThere, messages_in, seat_at, spoken, world_of}
use Rattle.repo_world.specs.inner.Flowing.{TellsTaken}
use Rattle.repo_world.specs.inner.Seating.{Answered, Crashed, StepsAsArmed, TookItem, TookReply}
use Rattle.repo_world.specs.Rules.{IsRuled}
use Rattle.repo_world.specs.Seats.{Seated, empty_seat, listed, nothing, silence}
use Rattle.repo_world.specs.World as world
use Rattle.repo_world.specs.World.{versions_of, World, client_at, crashed_one, first_of, instance_of, sends, started}
use Rattle.repo_world.specs.declared.any_clients.AnyClient.{AnyClient}
use Rattle.repo_world.specs.declared.events.Applied.{Applied}
use Rattle.repo_world.specs.declared.jobs.Job.{Job}
use Rattle.repo_world.specs.declared.messages.Message.{Message}
use Rattle.repo_world.proofs.Flowing.{GoesOn, Grows, all_kept, all_set, all_started, all_there, client_there, goes_same, grows_end, grows_set, messages_more, messages_same, there_more, within_end}
use Rattle.repo_name.proofs.Containing.{first_contained}
use Rattle.repo_world.proofs.Owing.{ruled_dutiful}
use Rattle.repo_world.proofs.Seating.{each_end}
use Rattle.repo_world.proofs.Starting.{no_outcome_yet, ticket_pending}

-- ---- what may be pending

pub asked_from : {A B : Type 0} (f : A → B) (o : Option A) (next : Option B) → option_map f o ≡ next → is_some o ≡ true → (b : B) × (next ≡ Some b)
asked_from f None next e t = absurd (cc)
asked_from f (Some a) next e t = (f a, sym e)

pub none_from : {A B : Type 0} (f : A → B) (o : Option A) (next : Option B) → option_map f o ≡ next → is_some o ≡ false → next ≡ None
none_from f None next e t = sym e
none_from f (Some a) next e t = absurd (cc)

-- ---- the message of a number

pub got_copied : (N : Type 0) (H : Bor Message → Type 0) (messages : List Message) (n : ℕ) (o : Option (Bor Message)) (m : Message) → option_copied o ≡ Some m
    → IfSome o (λ x. x.now ≡ slice_index_or messages n x.now) → MatchOption o N (λ x. (n < length messages) × H x) → slice_get messages n ≡ Some m
got_copied N H messages n None m e same less = absurd (cc)
got_copied N H messages n (Some x) m e same less = slice_get_read messages (length messages) n x.now refl less.0 same ∙ e

-- it is a reply
pub said_there_as : (flow : Flow) (n k place : ℕ) → slice_get flow.messages n ≡ Some (Message.Said k place)
    → slice_get (messages_in flow) n ≡ Some (world.Said k (slice_index_or (seat_at flow.seats k).replies place silence))
said_there_as flow n k place e = slice_get-map (spoken flow.seats) flow.messages n ∙ ap (option_map (spoken flow.seats)) e

-- ---- what comes of an item that was taken

told_taken : (w : World) (k : ℕ) (item : Item) (n : ℕ) (v : World) (applied : Applied) → IsCountOf n item → (f : Feeds w k (fed_part n item) v) → (n < size_of item → ¬ IsWaiting f.new)
    → TellsTaken n item applied → Gives w k item applied v
told_taken w k item n v applied count f busy (inl (done, all)) = inl (done, subst (λ m. Feeds w k (fed_part m item) v) all f)
told_taken w k item n v applied count f busy (inr (took, less)) = inr (inl (n, took, record { some = count.1 (let l = less in omega (arith, l)); less = less; part = f; busy = busy less }))

-- ---- each client goes by its rule

abbrev AreRuled : List Seated → Type 0
AreRuled seats = Each (λ (seat : Seated). IsRuled seat.client) seats

pub clients_ruled : (seats : List Seated) → AreRuled seats → Each IsRuled (map (λ (seat : Seated). seat.client) seats)
clients_ruled [] h = tt
clients_ruled (s ∷ seats) h = (h.0, clients_ruled seats h.1)

ruled_at : (seats : List Seated) (k : ℕ) → k < length seats → AreRuled seats → IsRuled (seat_at seats k).client
ruled_at [] k less h = absurd (let l = less in omega (arith, l))
ruled_at (s ∷ seats) zero less h = h.0
ruled_at (s ∷ seats) (suc k) less h = ruled_at seats k (let l = less in omega (arith, l)) h.1

ruled_set : (seats : List Seated) (k : ℕ) (s : Seated) → AreRuled seats → IsRuled s.client → AreRuled (slice_set seats k s)
ruled_set [] k s h r = tt
ruled_set (x ∷ seats) zero s h r = (r, h.1)
ruled_set (x ∷ seats) (suc k) s h r = (h.0, ruled_set seats k s h.1 r)

-- ---- a seat of a flow becomes another one

module _ (seats : List Seated) (messages : List Message) (k : ℕ) (stands : FlowStands seats messages) (less : k < length seats) where
  abbrev there : EachIsThere seats messages
  there = stands.there

  -- the seat of k is another one now
  abbrev with_seat : Seated → List Seated
  with_seat s = slice_set seats k s

  here : (s : Seated) → seat_at (with_seat s) k ≡ s
  here s = get_or-set_same seats k s empty_seat less

  -- the client of the seat is the same
  stay_ruled : (s : Seated) → s.client ≡ (seat_at seats k).client → AreRuled (with_seat s)
  stay_ruled s e = ruled_set seats k s stands.ruled (subst IsRuled (sym e) (ruled_at seats k less stands.ruled))

  -- the seat shows what it showed
  pub kept_stands : (s : Seated) → s ≡ seat_at seats k → FlowStands (with_seat s) messages
  kept_stands s e = record {
    there = all_there seats (with_seat s) (grows_set seats k s less (goes_same _ _ (ap (λ (x : Seated). x.requests) e)) (goes_same _ _ (ap (λ (x : Seated). x.replies) e))) messages there;
    all = all_kept seats k s less messages stands.all (ap (λ (x : Seated). x.requests) e) (ap (λ (x : Seated). x.replies) e);
    ruled = stay_ruled s (ap (λ (x : Seated). x.client) e);
  }

  pub same_world : (s : Seated) → s ≡ seat_at seats k → (store : Store) → world_of store (record { seats = with_seat s; messages = messages }) ≡ world_of store (record { seats = seats; messages = messages })
  same_world s e store = λ i. record {
    store = store;
    clients = map-set_same (λ (x : Seated). x.client) seats k s empty_seat (ap (λ (x : Seated). x.client) e) i;
    messages = messages_same seats (with_seat s) (grows_set seats k s less (goes_same _ _ (ap (λ (x : Seated). x.requests) e)) (goes_same _ _ (ap (λ (x : Seated). x.replies) e))) messages there i;
  }

  -- a reply to a client that stopped
  pub stopped : (reply : Reply) (s : Seated) → s ≡ seat_at seats k → (seat_at seats k).client.crashed ≡ true → (store : Store)
      → Arrives (world_of store (record { seats = seats; messages = messages })) k reply Applied.Ignored (world_of store (record { seats = with_seat s; messages = messages }))
  stopped reply s e crashed store = inr (inr (refl, ap (λ (c : Client). c.crashed) (client_there seats k) ∙ crashed, same_world s e store))

  -- a reply to a client that doesn't await it
  pub unawaited : (reply : Reply) (s : Seated) → s ≡ seat_at seats k → (seat_at seats k).client.crashed ≡ false → ¬ AnswersNext (seat_at seats k).client.next reply → (store : Store)
      → Arrives (world_of store (record { seats = seats; messages = messages })) k reply Applied.Done (world_of store (record { seats = with_seat s; messages = messages }))
  unawaited reply s e running other store = inr (inl (
    refl,
    ap (λ (c : Client). c.crashed) (client_there seats k) ∙ running,
    subst (λ (c : Client). ¬ AnswersNext c.next reply) (sym (client_there seats k)) other,
    same_world s e store,
  ))

  -- ---- a request was answered

  module _ (s : Seated) (reply : Reply) (is : s ≡ record { client = (seat_at seats k).client; requests = (seat_at seats k).requests; replies = (seat_at seats k).replies ++ reply ∷ [] }) where
    abbrev reply_place : ℕ
    reply_place = length (seat_at seats k).replies

    requests_on : GoesOn (seat_at seats k).requests s.requests
    requests_on = goes_same _ _ (ap (λ (x : Seated). x.requests) is)

    replies_on : GoesOn (seat_at seats k).replies s.replies
    replies_on = (reply ∷ [], ap (λ (x : Seated). x.replies) is)

    said_there : IsThere (with_seat s) (Message.Said k reply_place)
    said_there = subst (λ (x : Seated). reply_place < length x.replies) (sym (here s ∙ is)) (omega (arith, length-append (seat_at seats k).replies (reply ∷ [])))

    said_last : (place : ℕ) → place ≡ reply_place → Contains (Message.Said k reply_place ∷ []) (Message.Said k place)
    said_last place last = subst (λ n. Contains (Message.Said k reply_place ∷ []) (Message.Said k n)) (sym last) (first_contained (Message.Said k reply_place) [])

    pub served_stands : FlowStands (with_seat s) (messages ++ Message.Said k (length (seat_at seats k).replies) ∷ [])
    served_stands = record {
      there = there_more seats (with_seat s) (grows_set seats k s less requests_on replies_on) messages there (Message.Said k reply_place) said_there;
      all = all_set seats k s less messages stands.all (Message.Said k reply_place ∷ [])
          (λ place within. inl (subst (λ l. place < length l) (ap (λ (x : Seated). x.requests) is) within))
          (λ place within. ⊎_elim inl (λ last. inr (said_last place last)) (within_end (seat_at seats k).replies s.replies reply (ap (λ (x : Seated). x.replies) is) place within));
      ruled = stay_ruled s (ap (λ (x : Seated). x.client) is);
    }

    said : spoken (with_seat s) (Message.Said k reply_place) ≡ world.Said k reply
    said = ap (world.Said k) (ap (λ (x : Seated). slice_index_or x.replies reply_place silence) (here s ∙ is) ∙ get_or-append_seam (seat_at seats k).replies reply [] silence)

    said_more : map (spoken (with_seat s)) (messages ++ Message.Said k reply_place ∷ []) ≡ map (spoken seats) messages ++ world.Said k reply ∷ []
    said_more = messages_more seats (with_seat s) (grows_set seats k s less requests_on replies_on) messages there (Message.Said k reply_place) (world.Said k reply) said

  module _ (place : ℕ) (s : Seated) (from : Store) (armed : Armed) (own : ℕ) (to : Store) (left : Armed) (owned : ℕ)
      (a : Answered (seat_at seats k) place s from armed own to left owned) where
    pub served : Serves (StepsAsArmed armed own left owned) (world_of from (record { seats = seats; messages = messages })) k (slice_index_or (seat_at seats k).requests place nothing)
        (world_of to (record { seats = with_seat s; messages = messages ++ Message.Said k (length (seat_at seats k).replies) ∷ [] }))
    served = record {
      reply = a.reply;
      store = to;
      answers = a.answers;
      step = a.step;
      is = λ i. record {
        store = to;
        clients = map-set_same (λ (x : Seated). x.client) seats k s empty_seat (ap (λ (x : Seated). x.client) a.is) i;
        messages = said_more s a.reply a.is i;
      };
    }

  -- ---- a client went on, and may have sent one request more

  module _ (s : Seated) (requests : s.requests ≡ (seat_at seats k).requests ++ listed s.client.next) (replies : s.replies ≡ (seat_at seats k).replies) where
    grown : Grows seats (with_seat s)
    grown = grows_set seats k s less (listed s.client.next, requests) (goes_same _ _ replies)

    clients_now : map (λ (x : Seated). x.client) (with_seat s) ≡ slice_set (map (λ (x : Seated). x.client) seats) k s.client
    clients_now = map-set (λ (x : Seated). x.client) seats k s

    -- the world in which it did
    abbrev pub gone_on : Store → World
    gone_on store = record { store = store; clients = slice_set (map (λ (x : Seated). x.client) seats) k s.client; messages = map (spoken seats) messages ++ sends k s.client.next }

    -- nothing more is asked
    pub last_stands : s.client.next ≡ None → IsRuled s.client → FlowStands (with_seat s) messages
    last_stands none ruled = record {
      there = all_there seats (with_seat s) grown messages there;
      all = all_kept seats k s less messages stands.all (requests ∙ ap (λ n. (seat_at seats k).requests ++ listed n) none ∙ append-nil (seat_at seats k).requests) replies;
      ruled = ruled_set seats k s stands.ruled ruled;
    }

    pub last_is : s.client.next ≡ None → (store : Store) → world_of store (record { seats = with_seat s; messages = messages }) ≡ gone_on store
    last_is none store = λ i. record {
      store = store;
      clients = clients_now i;
      messages = (messages_same seats (with_seat s) grown messages there ∙ sym (append-nil (map (spoken seats) messages)) ∙ ap (λ n. map (spoken seats) messages ++ sends k n) (sym none)) i;
    }

    -- one request more is
    module _ (request : Request) (some : s.client.next ≡ Some request) where
      asked_now : s.requests ≡ (seat_at seats k).requests ++ request ∷ []
      asked_now = requests ∙ ap (λ n. (seat_at seats k).requests ++ listed n) some

      abbrev last : ℕ
      last = length s.requests - 1

      last_place : last ≡ length (seat_at seats k).requests
      last_place = let e = ap length asked_now in omega (arith, e, length-append (seat_at seats k).requests (request ∷ []))

      asked : spoken (with_seat s) (Message.Asked k last) ≡ world.Asked k request
      asked = ap (world.Asked k) (ap (λ (x : Seated). slice_index_or x.requests last nothing) (here s)
          ∙ (λ i. slice_index_or (asked_now i) (last_place i) nothing)
          ∙ get_or-append_seam (seat_at seats k).requests request [] nothing)

      asked_there : IsThere (with_seat s) (Message.Asked k last)
      asked_there = subst (λ (x : Seated). last < length x.requests) (sym (here s))
          (let e = ap length asked_now in omega (arith, e, last_place, length-append (seat_at seats k).requests (request ∷ [])))

      asked_last : (place : ℕ) → place ≡ last → Contains (Message.Asked k last ∷ []) (Message.Asked k place)
      asked_last place is = subst (λ n. Contains (Message.Asked k last ∷ []) (Message.Asked k n)) (sym is) (first_contained (Message.Asked k last) [])

      pub more_stands : IsRuled s.client → FlowStands (with_seat s) (messages ++ Message.Asked k (length s.requests - 1) ∷ [])
      more_stands ruled = record {
        there = there_more seats (with_seat s) grown messages there (Message.Asked k last) asked_there;
        all = all_set seats k s less messages stands.all (Message.Asked k last ∷ [])
            (λ place within. ⊎_elim inl (λ is. inr (asked_last place (is ∙ sym last_place))) (within_end (seat_at seats k).requests s.requests request asked_now place within))
            (λ place within. inl (subst (λ l. place < length l) replies within));
        ruled = ruled_set seats k s stands.ruled ruled;
      }

      pub more_is : (store : Store) → world_of store (record { seats = with_seat s; messages = messages ++ Message.Asked k (length s.requests - 1) ∷ [] }) ≡ gone_on store
      more_is store = λ i. record {
        store = store;
        clients = clients_now i;
        messages = (messages_more seats (with_seat s) grown messages there (Message.Asked k last) (world.Asked k request) asked ∙ ap (λ n. map (spoken seats) messages ++ sends k n) (sym some)) i;
      }

  -- a reply was taken
  module _ (reply : Reply) (s : Seated) (t : TookReply (seat_at seats k) reply s) where
    at_k : client_at (map (λ (x : Seated). x.client) seats) k ≡ (seat_at seats k).client
    at_k = client_there seats k

    pub takes : (store : Store) (v : World) → v ≡ gone_on s t.requests t.replies store → Takes (world_of store (record { seats = seats; messages = messages })) k reply v
    takes store v is = record {
      running = ap (λ (c : Client). c.crashed) at_k ∙ t.running;
      request = t.request;
      pending = ap (λ (c : Client). c.next) at_k ∙ t.pending;
      answers = t.answers;
      emitted = t.emitted;
      new = s.client;
      job = t.job ∙ ap (λ (c : Client). c.job) (sym at_k);
      who = t.who ∙ ap (λ (c : Client). c.who) (sym at_k);
      trace = t.trace ∙ ap (λ (c : Client). exchange t.request reply t.emitted ∷ c.trace) (sym at_k);
      up = t.up;
      dutiful = ruled_dutiful s.client t.ruled;
      stays = λ o e. t.stays o (ap (λ (c : Client). c.outcome) (sym at_k) ∙ e);
      is = is;
    }

  -- an item was taken
  module _ (item : Fed) (s : Seated) (t : TookItem (seat_at seats k) item s) where
    fed_at : (seat_at seats k).client ≡ client_at (map (λ (x : Seated). x.client) seats) k
    fed_at = sym (client_there seats k)

    pub feeds : (store : Store) (v : World) → v ≡ gone_on s t.requests t.replies store → Feeds (world_of store (record { seats = seats; messages = messages })) k item v
    feeds store v is = record {
      fed = subst MayBeFed fed_at t.fed;
      waits = subst IsWaiting fed_at t.waits;
      may = subst (λ (c : Client). AreTaken (item ∷ fed_in c.trace)) fed_at t.may;
      new = s.client;
      job = t.job ∙ ap (λ (c : Client). c.job) fed_at;
      who = t.who ∙ ap (λ (c : Client). c.who) fed_at;
      trace = t.trace ∙ ap (λ (c : Client). feeding item c.trace) fed_at;
      up = t.up;
      dutiful = ruled_dutiful s.client t.ruled;
      is = is;
    }

  -- what comes of it
  pub fed_told : (item : Item) (n : ℕ) (s : Seated) (t : TookItem (seat_at seats k) (fed_part n item) s) (applied : Applied) → IsCountOf n item → (n < size_of item → ¬ IsWaiting s.client) → TellsTaken n item applied
      → (store : Store) (v : World) → v ≡ gone_on s t.requests t.replies store → Gives (world_of store (record { seats = seats; messages = messages })) k item applied v
  unfolding feeds
  fed_told item n s t applied count busy tells store v is = told_taken (world_of store (record { seats = seats; messages = messages })) k item n v applied count (feeds (fed_part n item) s t store v is) busy tells

  -- no item was
  pub unfeeds : (item : Item) (e : FeedError) (s : Seated) → s ≡ seat_at seats k → MayBeFed (seat_at seats k).client → RefusesItem (seat_at seats k).client item e → (store : Store)
      → Unfeeds (world_of store (record { seats = seats; messages = messages })) k item e (world_of store (record { seats = with_seat s; messages = messages }))
  unfeeds item e s same fed refuses store = record {
    fed = subst MayBeFed (sym (client_there seats k)) fed;
    refuses = subst (λ (c : Client). RefusesItem c item e) (sym (client_there seats k)) refuses;
    is = same_world s same store;
  }

  -- ---- a client stopped for good

  module _ (s : Seated) (stopped : Crashed (seat_at seats k) s) where
    crash_grown : Grows seats (with_seat s)
    crash_grown = grows_set seats k s less (goes_same _ _ (ap (λ (x : Seated). x.requests) stopped)) (goes_same _ _ (ap (λ (x : Seated). x.replies) stopped))

    pub crashed_stands : FlowStands (with_seat s) messages
    crashed_stands = record {
      there = all_there seats (with_seat s) crash_grown messages there;
      all = all_kept seats k s less messages stands.all (ap (λ (x : Seated). x.requests) stopped) (ap (λ (x : Seated). x.replies) stopped);
      ruled = ruled_set seats k s stands.ruled (subst IsRuled (sym (ap (λ (x : Seated). x.client) stopped)) (ruled_at seats k less stands.ruled));
    }

    pub crashes : (seat_at seats k).client.crashed ≡ false → (store : Store)
        → Crashes (world_of store (record { seats = seats; messages = messages })) k (world_of store (record { seats = with_seat s; messages = messages }))
    crashes running store = record {
      running = ap (λ (c : Client). c.crashed) (client_there seats k) ∙ running;
      is = λ i. record {
        store = store;
        clients = (map-set (λ (x : Seated). x.client) seats k s
            ∙ ap (λ c. slice_set (map (λ (x : Seated). x.client) seats) k c) (ap (λ (x : Seated). x.client) stopped ∙ ap crashed_one (sym (client_there seats k)))) i;
        messages = messages_same seats (with_seat s) crash_grown messages there i;
      };
    }

-- ---- a client starts

module _ (seats : List Seated) (messages : List Message) (stands : FlowStands seats messages) (c : AnyClient) (f : FitsAny c []) (job : Job) (host : List ℕ) (time : ℕ) (old : Bool)
    (given : given_to c ≡ record { who = asker (instance_of (length seats)) host time (versions_of old); handed = job }) where
  abbrev number : ℕ
  number = length seats

  -- its seat
  abbrev first_seat : Seated
  first_seat = record { client = client_of c [] false; requests = listed (any_next c); replies = [] }

  pending : any_next c ≡ Some (first_of number)
  pending = ticket_pending c f ∙ ap (λ g. Some (record { instance = g.who.instance; sequence = 1; ask = Ask.Ticket })) given

  client_is : first_seat.client ≡ started number job host time old
  client_is = λ i. record { job = (given i).handed; who = (given i).who; trace = []; next = pending i; outcome = no_outcome_yet c f i; crashed = false }

  abbrev now : List Seated
  now = seats ++ first_seat ∷ []

  seat_is : seat_at now number ≡ first_seat
  seat_is = get_or-append_seam seats first_seat [] empty_seat

  requests_are : (seat_at now number).requests ≡ first_of number ∷ []
  requests_are = ap (λ (x : Seated). x.requests) seat_is ∙ ap listed pending

  pub started_stands : FlowStands (seats ++ first_seat ∷ []) (messages ++ Message.Asked (length seats) 0 ∷ [])
  started_stands = record {
    there = there_more seats now (grows_end seats first_seat) messages stands.there (Message.Asked number 0) (subst (λ (l : List Request). 0 < length l) (sym requests_are) (lit≤ tt));
    all = all_started seats first_seat messages stands.all (ap (λ l. length (listed l)) pending) refl;
    ruled = each_end (λ (x : Seated). IsRuled x.client) seats first_seat stands.ruled (any_obeys c [] f);
  }

  module _ (store : Store) (accepted : Accepts job) (small : time < 2 ^ 64) (named : IsHost host) where
    abbrev before : World
    before = world_of store (record { seats = seats; messages = messages })

    count : length before.clients ≡ number
    count = length-map seats (λ (x : Seated). x.client)

    pub starts : Starts (world_of store (record { seats = seats; messages = messages })) job host time old
        (world_of store (record { seats = seats ++ first_seat ∷ []; messages = messages ++ Message.Asked (length seats) 0 ∷ [] }))
    starts = record {
      accepted = accepted;
      limits = (small, named);
      is = λ i. record {
        store = store;
        clients = (map-append (λ (x : Seated). x.client) seats (first_seat ∷ []) ∙ (λ j. before.clients ++ client_is j ∷ []) ∙ ap (λ n. before.clients ++ started n job host time old ∷ []) (sym count)) i;
        messages = (messages_more seats now (grows_end seats first_seat) messages stands.there (Message.Asked number 0) (world.Asked number (first_of number))
            (ap (λ (l : List Request). world.Asked number (slice_index_or l 0 nothing)) requests_are)
            ∙ ap (λ n. before.messages ++ world.Asked n (first_of n) ∷ []) (sym count)) i;
      };
    }
