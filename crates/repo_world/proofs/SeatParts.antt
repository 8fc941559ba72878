-- A seat made of its parts, as one of them changes.
use Rattle.std.proofs.Common.{◌≡◌, ◌∙◌, ◌<◌, ◌++◌, ◌∷◌, [], Bool, false, List, length, map, None, Some, refl, sym, ap, subst, append-nil}
use Rattle.std.proofs.lemmas.List.{map-append}
use Rattle.repo_wire.specs.declared.messages.Reply.{Reply}
use Rattle.repo_wire.specs.declared.messages.Request.{Request}
use Rattle.repo_session.specs.Clients.{IsReplyTo, exchange}
use Rattle.repo_session.specs.Feeds.{Fed}
use Rattle.repo_session.specs.Traces.{Trace, fed_in, feeding, giving}
use Rattle.repo_session.specs.declared.outcomes.Outcome.{Outcome}
use Rattle.repo_world.specs.AnyClients.{FitsAny, any_ended, any_given, any_next, any_obeys, client_of, given_to}
use Rattle.repo_backup.specs.Items.{AreTaken}
use Rattle.repo_world.specs.inner.Seating.{TookItem, TookReply}
use Rattle.repo_world.specs.Seats.{IsSeated, exchanges_of, kept_item, kept_items, listed, requests_of, say_of, seated, trace_of}
use Rattle.repo_world.specs.declared.any_clients.AnyClient.{AnyClient}
use Rattle.repo_world.specs.declared.fed_items.FedItem.{FedItem}
use Rattle.repo_world.specs.declared.jobs.Job.{Job}
use Rattle.repo_world.specs.declared.pasts.Past.{Past}
use Rattle.repo_world.proofs.Seating.{each_end, kept_more, there_grows, trace_fed, trace_grows, trace_more}

-- ---- one reply more stands there

module _ (c : AnyClient) (pasts : List Past) (fed : List FedItem) (replies : List Reply) (crashed : Bool) (s : IsSeated c pasts fed replies) (reply : Reply) where
  same_trace : exchanges_of c pasts fed (replies ++ reply ∷ []) ≡ exchanges_of c pasts fed replies
  same_trace = trace_grows replies (reply ∷ []) (any_given c) (kept_items fed) pasts s.there

  pub replied_is : seated c pasts fed (replies ++ reply ∷ []) crashed ≡ record { client = client_of c (exchanges_of c pasts fed replies) crashed; requests = requests_of c pasts; replies = replies ++ reply ∷ [] }
  replied_is = λ i. record { client = client_of c (same_trace i) crashed; requests = requests_of c pasts; replies = replies ++ reply ∷ [] }

  pub replied_seated : IsSeated c pasts fed (replies ++ reply ∷ [])
  replied_seated = record { fits = subst (FitsAny c) (sym same_trace) s.fits; there = there_grows replies (reply ∷ []) pasts s.there }

-- ---- the client took a reply

module _ (old new : AnyClient) (pasts : List Past) (fed : List FedItem) (p : Past) (replies : List Reply) (s : IsSeated old pasts fed replies) (request : Request) (reply : Reply)
    (pending : any_next old ≡ Some request) (answers : IsReplyTo request reply)
    (letter : p.letter ≡ request) (said : say_of replies p.reply ≡ reply.say) (place : p.reply < length replies) (before : p.before.items ≡ any_given old) (items : p.fed.items ≡ fed)
    (taken : (es : Trace) → FitsAny old es → FitsAny new (exchange request reply (any_given new) ∷ es))
    (stays : (es : Trace) (o : Outcome) → FitsAny old es → any_ended old ≡ Some o → any_ended new ≡ Some o)
    (job : given_to new ≡ given_to old) where
  one_more : exchanges_of new (pasts ++ p ∷ []) [] replies ≡ exchange request reply (any_given new) ∷ exchanges_of old pasts fed replies
  one_more = trace_more replies (any_given old) (any_given new) (kept_items fed) pasts p before (ap kept_items items)
      ∙ (λ i. giving (letter i).ask (said i) (any_given new) ∷ exchanges_of old pasts fed replies)

  fits_new : FitsAny new (exchanges_of new (pasts ++ p ∷ []) [] replies)
  fits_new = subst (FitsAny new) (sym one_more) (taken (exchanges_of old pasts fed replies) s.fits)

  pub taken_seated : IsSeated new (pasts ++ p ∷ []) [] replies
  taken_seated = record { fits = fits_new; there = each_end (λ (q : Past). q.reply < length replies) pasts p s.there place }

  requests_more : requests_of new (pasts ++ p ∷ []) ≡ requests_of old pasts ++ listed (any_next new)
  requests_more = ap (λ (l : List Request). l ++ listed (any_next new)) (map-append (λ (q : Past). q.letter) pasts (p ∷ []))
      ∙ (λ i. (map (λ (q : Past). q.letter) pasts ++ letter i ∷ []) ++ listed (any_next new))
      ∙ ap (λ n. (map (λ (q : Past). q.letter) pasts ++ listed n) ++ listed (any_next new)) (sym pending)

  pub taken_reply : TookReply (seated old pasts fed replies false) reply (seated new (pasts ++ p ∷ []) [] replies false)
  taken_reply = record {
    running = refl;
    request = request;
    pending = pending;
    answers = answers;
    emitted = any_given new;
    job = ap (λ g. g.handed) job;
    who = ap (λ g. g.who) job;
    trace = one_more;
    up = refl;
    ruled = any_obeys new (exchanges_of new (pasts ++ p ∷ []) [] replies) fits_new;
    stays = λ o e. stays (exchanges_of old pasts fed replies) o s.fits e;
    requests = requests_more;
    replies = refl;
  }

-- ---- the client took an item

module _ (old new : AnyClient) (pasts : List Past) (fed : List FedItem) (x : FedItem) (item : Fed) (replies : List Reply) (s : IsSeated old pasts fed replies)
    (kept : kept_item x ≡ item) (is : (given_to old).handed ≡ Job.Pieces) (none : any_next old ≡ None) (still : any_ended old ≡ None)
    (taken : (es : Trace) → FitsAny old es → FitsAny new (feeding item es)) (may : (es : Trace) → FitsAny old es → AreTaken (item ∷ fed_in es))
    (job : given_to new ≡ given_to old) (given : any_given new ≡ any_given old) where
  one_fed : exchanges_of new pasts (fed ++ x ∷ []) replies ≡ feeding item (exchanges_of old pasts fed replies)
  one_fed = (λ i. trace_of replies (given i) ((kept_more fed x ∙ ap (λ f. f ∷ kept_items fed) kept) i) pasts) ∙ trace_fed replies (any_given old) item (kept_items fed) pasts

  fits_fed : FitsAny new (exchanges_of new pasts (fed ++ x ∷ []) replies)
  fits_fed = subst (FitsAny new) (sym one_fed) (taken (exchanges_of old pasts fed replies) s.fits)

  pub fed_seated : IsSeated new pasts (fed ++ x ∷ []) replies
  fed_seated = record { fits = fits_fed; there = s.there }

  pub fed_item : TookItem (seated old pasts fed replies false) item (seated new pasts (fed ++ x ∷ []) replies false)
  fed_item = record {
    fed = (refl, is);
    waits = (none, still);
    may = may (exchanges_of old pasts fed replies) s.fits;
    job = ap (λ g. g.handed) job;
    who = ap (λ g. g.who) job;
    trace = one_fed;
    up = refl;
    ruled = any_obeys new (exchanges_of new pasts (fed ++ x ∷ []) replies) fits_fed;
    requests = ap (λ l. l ++ listed (any_next new)) (sym (append-nil (map (λ (q : Past). q.letter) pasts))) ∙ ap (λ n. (map (λ (q : Past). q.letter) pasts ++ listed n) ++ listed (any_next new)) (sym none);
    replies = refl;
  }

-- ---- the client didn't take an item

module _ (old new : AnyClient) (pasts : List Past) (fed : List FedItem) (replies : List Reply) (s : IsSeated old pasts fed replies)
    (stays : (es : Trace) → FitsAny old es → FitsAny new es) (next : any_next new ≡ any_next old) (ended : any_ended new ≡ any_ended old)
    (job : given_to new ≡ given_to old) (given : any_given new ≡ any_given old) where
  pub same_seat : (crashed : Bool) → seated new pasts fed replies crashed ≡ seated old pasts fed replies crashed
  same_seat crashed = λ i. record {
    client = record { job = (job i).handed; who = (job i).who; trace = trace_of replies (given i) (kept_items fed) pasts; next = next i; outcome = ended i; crashed = crashed };
    requests = map (λ (q : Past). q.letter) pasts ++ listed (next i);
    replies = replies;
  }

  pub still_seated : IsSeated new pasts fed replies
  still_seated = record { fits = subst (λ g. FitsAny new (trace_of replies g (kept_items fed) pasts)) (sym given) (stays (exchanges_of old pasts fed replies) s.fits); there = s.there }
