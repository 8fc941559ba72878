-- What was asked and heard over a channel, after one step more.
use Rattle.std.proofs.Common.{◌≡◌, ◌≢◌, ◌≤◌, ◌<◌, ◌+◌, ◌^◌, ◌++◌, ◌∷◌, [], ℕ, List, Option, Some, None, Result, Ok, Err, length, take, refl, sym, ap, subst, arith, inl, append_assoc, ◌∙◌}
use Rattle.std.specs.Io.KnownBytes.{Appends}
use Rattle.std.proofs.lemmas.List.{append-nil}
use Rattle.repo_name.specs.declared.names.Instance.{Instance}
use Rattle.repo_wire.specs.declared.messages.Reply.{Reply}
use Rattle.repo_wire.specs.declared.messages.Request.{Request}
use Rattle.repo_wire.specs.Messages.{replies, request_body}
use Rattle.repo_wire.specs.Reading.{Reading, NextMessage}
use Rattle.repo_wire.specs.Stream.{frame}
use Rattle.repo_wire.proofs.Streams.{readers_follow}
use Rattle.repo_store.specs.Channels.{Passage, heard, said, Passes, heard_in, said_in, AreSaid}
use Rattle.repo_store.proofs.ChannelLemmas.{said_join, heard_join, passes_join}
use Rattle.repo_session.specs.declared.connections.Connection.{Connection}
use Rattle.repo_session.specs.declared.driving.DriveError.{DriveError}
use Rattle.repo_session.specs.declared.emissions.Emission.{Emission}
use Rattle.repo_session.specs.Connections.{Heard, BeginsWithReplies, IsWaiting, AreReadPast, Hears, Asks}
use Rattle.repo_session.specs.Talks.{Talk, IsTurn, Said, Went, DrivesAfter, first_carried, sent_in, read_in, frames_of}
use Rattle.repo_session.specs.Traces.{Each, Trace}
use Rattle.repo_session.specs.Turns.{IsUnanswered, AreHeardWhile, HearsBy, SendsOver, IsAskedFirst, AsksOver, IsAwaiting, AreAskedInTurn, asked_in, DrivesOver}
use Rattle.repo_session.proofs.Connecting.{asked, begins, begins_more, head_cut, rest_cut, told_none, unsent}
use Rattle.repo_session.proofs.Talking.{first_of_more, frames_on, heard_all, part_next, passed_none, unanswered, went_nowhere, went_same, whole_next, whole_part, written_by, written_on}

-- where nothing was said
said_none : (Awaits : List ℕ → Type 0) (later earlier : List Passage) → AreHeardWhile Awaits later → said_in (later ++ earlier) ≡ said_in earlier
said_none Awaits [] earlier alone = refl
said_none Awaits (heard bytes ∷ later) earlier alone = said_none Awaits later earlier alone.0
said_none Awaits (said bytes ∷ later) earlier alone = absurd alone

hearing_join : (Awaits Then : List ℕ → Type 0) (first : List ℕ) → ((x : List ℕ) → Then x → Awaits (first ++ x)) → (later earlier : List Passage) → heard_in earlier ≡ first → AreHeardWhile Then later
    → AreHeardWhile Awaits earlier → AreHeardWhile Awaits (later ++ earlier)
hearing_join Awaits Then first so [] earlier all h k = k
hearing_join Awaits Then first so (heard bytes ∷ later) earlier all h k = (
  hearing_join Awaits Then first so later earlier all h.0 k,
  subst Awaits (sym (heard_join later earlier ∙ ap (λ x. x ++ heard_in later) all)) (so (heard_in later) h.1),
)
hearing_join Awaits Then first so (said bytes ∷ later) earlier all h k = absurd h

-- where nothing was heard
nothing_heard : (passages : List Passage) → AreSaid passages → heard_in passages ≡ []
nothing_heard [] alone = refl
nothing_heard (heard bytes ∷ passages) alone = absurd alone
nothing_heard (said bytes ∷ passages) alone = nothing_heard passages alone

asked_none : (before : List ℕ) (told : List Reply) (request : Request) (passages : List Passage) → AreSaid passages → IsAskedFirst before told request passages
asked_none before told request [] alone = tt
asked_none before told request (heard bytes ∷ passages) alone = absurd alone
asked_none before told request (said bytes ∷ passages) alone = asked_none before told request passages alone

-- a request was said whole, and then nothing, while it was unanswered
asked_first : (before : List ℕ) (told : List Reply) (request : Request) (later earlier : List Passage) → AreHeardWhile (λ x. IsUnanswered (before ++ x) told request) later → AreSaid earlier
    → said_in earlier ≡ frame (request_body request) → IsAskedFirst before told request (later ++ earlier)
asked_first before told request [] earlier h k whole = asked_none before told request earlier k
asked_first before told request (heard bytes ∷ later) earlier h k whole =
    let same : heard_in (later ++ earlier) ≡ heard_in later = heard_join later earlier ∙ ap (λ x. x ++ heard_in later) (nothing_heard earlier k) in (
      asked_first before told request later earlier h.0 k whole,
      said_none (λ x. IsUnanswered (before ++ x) told request) later earlier h.0 ∙ whole,
      subst (λ x. IsUnanswered (before ++ x) told request) (sym same) h.1,
    )
asked_first before told request (said bytes ∷ later) earlier h k whole = absurd h

-- a connection that has no more replies to give
pub heard_waits : (bytes : List ℕ) (told : List Reply) (connection : Connection) (new : Reading) → Heard bytes told connection → NextMessage replies connection.replies (Ok None) new → IsWaiting bytes told
heard_waits bytes told connection new h none = (connection.replies.unread, (readers_follow replies).waiting bytes told connection.replies new h.reader none)

-- nor has one that passed over replies to no such request
pub unanswered_by : (bytes first more : List ℕ) (told passed : List Reply) (request : Request) → AreReadPast request passed → IsWaiting ((bytes ++ first) ++ more) (told ++ passed)
    → IsUnanswered (bytes ++ (first ++ more)) told request
unanswered_by bytes first more told passed request past w =
    record { passed = passed; past = past; waits = subst (λ x. IsWaiting x (told ++ passed)) (append_assoc bytes first more) w }

module _ {C : Type 0} (Hearing Saying : C → List ℕ → C → Type 0) where
  pub hears_none : (Awaits : List ℕ → Type 0) (a : C) → HearsBy Hearing Saying Awaits a [] a
  hears_none Awaits a = record { passages = []; passes = refl; alone = tt; all = refl }

  pub hears_more : (Awaits : List ℕ → Type 0) (a b c : C) (first bytes : List ℕ) → HearsBy Hearing Saying Awaits a first b → Awaits first → Hearing b bytes c
      → HearsBy Hearing Saying Awaits a (first ++ bytes) c
  hears_more Awaits a b c first bytes p while h = record {
    passages = heard bytes ∷ p.passages;
    passes = (b, p.passes, h);
    alone = (p.alone, subst Awaits (sym p.all) while);
    all = ap (λ x. x ++ bytes) p.all;
  }

  pub hears_then : (Awaits Then : List ℕ → Type 0) (a b c : C) (first second : List ℕ) → ((x : List ℕ) → Then x → Awaits (first ++ x)) → HearsBy Hearing Saying Awaits a first b
      → HearsBy Hearing Saying Then b second c → HearsBy Hearing Saying Awaits a (first ++ second) c
  hears_then Awaits Then a b c first second so p q = record {
    passages = q.passages ++ p.passages;
    passes = passes_join Hearing Saying a b c q.passages p.passages p.passes q.passes;
    alone = hearing_join Awaits Then first so q.passages p.passages p.all q.alone p.alone;
    all = heard_join q.passages p.passages ∙ ap (λ x. x ++ heard_in q.passages) p.all ∙ ap (λ x. first ++ x) q.all;
  }

  -- there was no memory for the head
  pub sends_none : (request : Request) (a : C) → SendsOver Hearing Saying request a (Err DriveError.Memory) a
  sends_none request a = record { passages = []; passes = refl; alone = tt; sends = refl }

  -- the head was said in part
  pub sends_head : (request : Request) (head rest : List ℕ) (a b : C) (n : ℕ) → head ++ rest ≡ frame (request_body request) → n ≤ length head → Saying a (take n head) b
      → SendsOver Hearing Saying request a (Err DriveError.Write) b
  sends_head request head rest a b n whole few h = record {
    passages = said (take n head) ∷ [];
    passes = (a, refl, h);
    alone = tt;
    sends = head_cut (Some []) (Some (take n head)) head rest (frame (request_body request)) whole (n, few, refl);
  }

  -- the head was said, and its payload in part
  pub sends_part : (request : Request) (head rest : List ℕ) (a b c : C) (n : ℕ) → head ++ rest ≡ frame (request_body request) → Saying a head b → n ≤ length rest → Saying b (take n rest) c
      → SendsOver Hearing Saying request a (Err DriveError.Write) c
  sends_part request head rest a b c n whole h few k = record {
    passages = said (take n rest) ∷ said head ∷ [];
    passes = (b, (a, refl, h), k);
    alone = tt;
    sends = rest_cut (Some []) (Some head) (Some (head ++ take n rest)) head rest (frame (request_body request)) whole refl (n, few, refl);
  }

  -- both were said
  pub sends_all : (request : Request) (head rest : List ℕ) (a b c : C) (done : Unit {0}) → head ++ rest ≡ frame (request_body request) → Saying a head b → Saying b rest c
      → SendsOver Hearing Saying request a (Ok done) c
  sends_all request head rest a b c done whole h k = record { passages = said rest ∷ said head ∷ []; passes = (b, (a, refl, h), k); alone = tt; sends = whole }

  -- a request that wasn't said whole
  pub asks_unsent : (before : List ℕ) (told : List Reply) (request : Request) (a : C) (error : DriveError) (connection : Connection) (b : C) → BeginsWithReplies before told
      → SendsOver Hearing Saying request a (Err error) b → AsksOver Hearing Saying before told request a (Err error) connection b
  asks_unsent before told request a error connection b begun s = record {
    passages = s.passages;
    passes = s.passes;
    in_turn = asked_none before told request s.passages s.alone;
    passed = [];
    past = tt;
    asks = unsent request error (before ++ heard_in s.passages) told connection (Some []) (Some (said_in s.passages)) (begins_more before (heard_in s.passages) told begun) s.sends;
  }

  -- a request that was said whole, and what was heard then
  pub asks_sent : (before : List ℕ) (told : List Reply) (request : Request) (a b : C) (result : Result Reply DriveError) (connection : Connection) (c : C) (done : Unit {0}) (more : List ℕ) (passed : List Reply)
      → SendsOver Hearing Saying request a (Ok done) b → HearsBy Hearing Saying (λ x. IsUnanswered (before ++ x) told request) b more c → AreReadPast request passed → Hears request result (before ++ more) told passed connection
      → AsksOver Hearing Saying before told request a result connection c
  asks_sent before told request a b result connection c done more passed s h past gave =
      let all : List Passage = h.passages ++ s.passages in
      let brought : heard_in all ≡ more = heard_join h.passages s.passages ∙ ap (λ x. x ++ heard_in h.passages) (nothing_heard s.passages s.alone) ∙ h.all in
      record {
        passages = all;
        passes = passes_join Hearing Saying a b c h.passages s.passages s.passes h.passes;
        in_turn = asked_first before told request h.passages s.passages h.alone s.alone s.sends;
        passed = passed;
        past = past;
        asks = asked request result (before ++ heard_in all) told passed connection (Some []) (Some (said_in all)) (subst (λ x. Hears request result (before ++ x) told passed connection) (sym brought) gave)
            (said_none (λ x. IsUnanswered (before ++ x) told request) h.passages s.passages h.alone ∙ s.sends);
      }

-- ---- what was said as what was written

pub asks_written : (request : Request) (result : Result Reply DriveError) (bytes : List ℕ) (told passed : List Reply) (new : Connection) (start written : Option (List ℕ)) (all : List ℕ) → Appends start written all
    → Asks request result bytes told passed new (Some []) (Some all) → Asks request result bytes told passed new start written
asks_written request (Ok reply) bytes told passed new start written all a h = (h.0, subst (λ x. Appends start written x) h.1 a)
asks_written request (Err DriveError.Write) bytes told passed new start written all a h = (h.0, h.1, (h.2.0, subst (λ x. Appends start written x) h.2.1 a))
asks_written request (Err DriveError.Read) bytes told passed new start written all a h = (h.0, subst (λ x. Appends start written x) h.1 a)
asks_written request (Err DriveError.Malformed) bytes told passed new start written all a h = (h.0, subst (λ x. Appends start written x) h.1 a)
asks_written request (Err DriveError.Limit) bytes told passed new start written all a h = (h.0, (h.1.0, subst (λ x. Appends start written x) h.1.1 a))
asks_written request (Err DriveError.Memory) bytes told passed new start written all a h = (h.0, (h.1.0, subst (λ x. Appends start written x) h.1.1 a))
asks_written request (Err DriveError.Sink) bytes told passed new start written all a h = absurd h

pub drives_written : {C : Type 0} (before : List ℕ) (told : List Reply) (instance : Instance) (Fits : C → Trace → Type 0) (next : C → Option Request) (old : C) (result : Result ℕ DriveError) (new : C) (what : Said)
    (start written : Option (List ℕ)) (all : List ℕ) → Appends start written all
    → DrivesAfter before told instance Fits next old result new what (Some []) (Some all) → DrivesAfter before told instance Fits next old result new what start written
drives_written before told instance Fits next old (Ok n) new what start written all a h = (h.0, h.1, h.2, h.3, h.4, subst (λ x. Appends start written x) h.5 a, h.6)
drives_written before told instance Fits next old (Err error) new what start written all a h = (h.0, h.1, written_by error (sent_in what.talk) (next new) start written all a h.2, h.3, h.4)

-- ---- one request more

regrouped : (before : List ℕ) (later earlier : List Passage) → (before ++ heard_in earlier) ++ heard_in later ≡ before ++ heard_in (later ++ earlier)
regrouped before later earlier = append_assoc before (heard_in earlier) (heard_in later) ∙ ap (λ x. before ++ x) (sym (heard_join later earlier))

-- what asking gives, behind what was heard and said before
asks_join : (request : Request) (result : Result Reply DriveError) (before : List ℕ) (told passed : List Reply) (connection : Connection) (later earlier : List Passage)
    → Asks request result ((before ++ heard_in earlier) ++ heard_in later) told passed connection (Some []) (Some (said_in later))
    → Asks request result (before ++ heard_in (later ++ earlier)) told passed connection (Some (said_in earlier)) (Some (said_in (later ++ earlier)))
asks_join request result before told passed connection later earlier h =
    subst (λ x. Asks request result x told passed connection (Some (said_in earlier)) (Some (said_in (later ++ earlier)))) (regrouped before later earlier)
    (asks_written request result ((before ++ heard_in earlier) ++ heard_in later) told passed connection (Some (said_in earlier)) (Some (said_in (later ++ earlier))) (said_in later) (said_join later earlier) h)

awaiting_grows : (before : List ℕ) (told : List Reply) (asked more : List Request) (passages : List Passage) → IsAwaiting before told asked passages → IsAwaiting before told (asked ++ more) passages
awaiting_grows before told asked more passages w = record {
  talk = w.talk;
  request = w.request;
  later = w.later ++ more;
  first = ap (λ x. x ++ more) w.first ∙ append_assoc (sent_in w.talk ++ w.request ∷ []) w.later more;
  whole = w.whole;
  turns = w.turns;
  unanswered = w.unanswered;
}

turn_grows : (before : List ℕ) (told : List Reply) (asked more : List Request) (passages : List Passage) → AreAskedInTurn before told asked passages → AreAskedInTurn before told (asked ++ more) passages
turn_grows before told asked more [] h = tt
turn_grows before told asked more (heard bytes ∷ passages) h = (turn_grows before told asked more passages h.0, awaiting_grows before told asked more passages h.1)
turn_grows before told asked more (said bytes ∷ passages) h = turn_grows before told asked more passages h

-- the request that is pending wasn't asked
turn_rests : (before : List ℕ) (told : List Reply) (talk : Talk) (next : Option Request) (passages : List Passage) → AreAskedInTurn before told (sent_in talk) passages → AreAskedInTurn before told (asked_in talk next) passages
turn_rests before told talk None passages h = h
turn_rests before told talk (Some request) passages h = turn_grows before told (sent_in talk) (request ∷ []) passages h

-- one request more was asked
turn_next : (before : List ℕ) (told : List Reply) (talk : Talk) (request : Request) (later earlier : List Passage) → IsAskedFirst (before ++ heard_in earlier) (told ++ read_in talk) request later
    → said_in earlier ≡ frames_of (sent_in talk) → Each IsTurn talk → AreAskedInTurn before told (sent_in talk) earlier → AreAskedInTurn before told (sent_in talk ++ request ∷ []) (later ++ earlier)
turn_next before told talk request [] earlier first whole turns h = turn_grows before told (sent_in talk) (request ∷ []) earlier h
turn_next before told talk request (heard bytes ∷ later) earlier first whole turns h = (
  turn_next before told talk request later earlier first.0 whole turns h,
  record {
    talk = talk;
    request = request;
    later = [];
    first = sym (append-nil (sent_in talk ++ request ∷ []));
    whole = said_join later earlier ∙ ap (λ x. x ++ said_in later) whole ∙ ap (λ x. frames_of (sent_in talk) ++ x) first.1 ∙ sym (frames_on (sent_in talk) request);
    turns = turns;
    unanswered = subst (λ x. IsUnanswered x (told ++ read_in talk) request) (regrouped before later earlier) first.2;
  },
)
turn_next before told talk request (said bytes ∷ later) earlier first whole turns h = turn_next before told talk request later earlier first whole turns h

-- ---- a client that is driven

-- a client was driven over some turns: all that was said is the frames of their requests, whole, and what was heard was read up to the last reply
pub record Gone {L C : Type 0} (Hearing Saying : L → List ℕ → L → Type 0) (before : List ℕ) (told : List Reply) (instance : Instance) (Fits : C → Trace → Type 0) (next : C → Option Request)
    (old : C) (from : L) (new : C) (connection : Connection) (to : L) (count : ℕ) : Type 0 where
  pub passages : List Passage
  pub passes : Passes Hearing Saying from passages to
  pub talk : Talk
  pub in_turn : AreAskedInTurn before told (sent_in talk) passages
  pub reads : Heard (before ++ heard_in passages) (told ++ read_in talk) connection
  pub went : Went instance Fits old talk new
  pub counted : count ≡ length talk
  pub whole : said_in passages ≡ frames_of (sent_in talk)
  pub first : first_carried (sent_in talk) (next new) ≡ next old

module _ {L C : Type 0} (Hearing Saying : L → List ℕ → L → Type 0) (before : List ℕ) (told : List Reply) (instance : Instance) (Fits : C → Trace → Type 0) (next : C → Option Request) (old : C) (from : L) where
  pub gone_nowhere : (connection : Connection) → Heard before told connection → (Also : Talk → Type 0) → Also []
      → (gone : Gone Hearing Saying before told instance Fits next old from old connection from 0) × Also gone.talk
  gone_nowhere connection h Also also = (
    record {
      passages = [];
      passes = refl;
      talk = [];
      in_turn = tt;
      reads = told_none before told connection h;
      went = went_nowhere instance Fits old;
      counted = refl;
      whole = refl;
      first = refl;
    },
    also,
  )

  module _ (new : C) (connection : Connection) (to : L) (count : ℕ) (i : Gone Hearing Saying before told instance Fits next old from new connection to count) where
    abbrev here : Said
    here = record { bytes = heard_in i.passages; talk = i.talk; more = [] }

    begun : BeginsWithReplies (before ++ heard_in i.passages) (told ++ read_in i.talk)
    begun = begins (before ++ heard_in i.passages) (told ++ read_in i.talk) connection i.reads

    unsaid : AreAskedInTurn before told (asked_in i.talk (next new)) i.passages
    unsaid = turn_rests before told i.talk (next new) i.passages i.in_turn

    -- the client worked ahead
    pub gone_ahead : (later : C) → next later ≡ next new → ((es : Trace) → Fits new es → Fits later es) → (Also : Talk → Type 0) → Also i.talk
        → (gone : Gone Hearing Saying before told instance Fits next old from later connection to count) × Also gone.talk
    gone_ahead later same fits Also also = (
      record {
        passages = i.passages;
        passes = i.passes;
        talk = i.talk;
        in_turn = i.in_turn;
        reads = i.reads;
        went = went_same instance Fits old new later i.talk i.went fits;
        counted = i.counted;
        whole = i.whole;
        first = ap (first_carried (sent_in i.talk)) same ∙ i.first;
      },
      also,
    )

    -- nothing is pending
    pub gone_done : (n : ℕ) → count ≡ n → next new ≡ None → (Also : Talk → Type 0) → Also i.talk
        → (driven : DrivesOver Hearing Saying before told instance Fits next old from (Ok n) new connection to) × Also driven.said.talk
    gone_done n same none Also also = (
      record {
        passages = i.passages;
        passes = i.passes;
        said = here;
        bytes = refl;
        in_turn = unsaid;
        drives = (i.went, sym same ∙ i.counted, none, heard_all before (heard_in i.passages) told i.talk begun, refl, i.whole, i.first);
        rests = i.reads;
      },
      also,
    )

    -- too many requests were sent
    pub gone_far : count ≡ 2 ^ 32 → next new ≢ None → (Also : Talk → Type 0) → Also i.talk
        → (driven : DrivesOver Hearing Saying before told instance Fits next old from (Err DriveError.Limit) new connection to) × Also driven.said.talk
    gone_far many some Also also = (
      record {
        passages = i.passages;
        passes = i.passes;
        said = here;
        bytes = refl;
        in_turn = unsaid;
        drives = (
          i.went,
          (heard_all before (heard_in i.passages) told i.talk begun, passed_none (next new), inl (omega (arith, i.counted, many), some)),
          whole_part (Some []) (Some (said_in i.passages)) (sent_in i.talk) (next new) i.whole,
          i.first,
          omega (arith, i.counted, many),
        );
        rests = tt;
      },
      also,
    )

    module _ (request : Request) (pending : next new ≡ Some request) (result : Result Reply DriveError) (connection2 : Connection) (end : L)
        (n : AsksOver Hearing Saying (before ++ heard_in i.passages) (told ++ read_in i.talk) request to result connection2 end) (few : count < 2 ^ 32) where
      abbrev all : List Passage
      all = n.passages ++ i.passages

      passed_all : Passes Hearing Saying from all end
      passed_all = passes_join Hearing Saying from to end n.passages i.passages i.passes n.passes

      asks_all : Asks request result (before ++ heard_in all) (told ++ read_in i.talk) n.passed connection2 (Some (said_in i.passages)) (Some (said_in all))
      asks_all = asks_join request result before (told ++ read_in i.talk) n.passed connection2 n.passages i.passages n.asks

      turn_all : AreAskedInTurn before told (sent_in i.talk ++ request ∷ []) all
      turn_all = turn_next before told i.talk request n.passages i.passages n.in_turn i.whole i.went.turns i.in_turn

      -- no reply came
      pub gone_unanswered : (error : DriveError) → result ≡ Err error → (Also : Talk → Type 0) → (error ≢ DriveError.Sink → Also i.talk)
          → (driven : DrivesOver Hearing Saying before told instance Fits next old from (Err error) new connection2 end) × Also driven.said.talk
      gone_unanswered error is Also also =
          let asks = subst (λ r. Asks request r (before ++ heard_in all) (told ++ read_in i.talk) n.passed connection2 (Some (said_in i.passages)) (Some (said_in all))) is asks_all in
          let r = unanswered error request before (heard_in all) told i.talk n.passed connection2 (next new) (Some []) (Some (said_in i.passages)) (Some (said_in all)) pending n.past asks i.whole in (
            record {
              passages = all;
              passes = passed_all;
              said = record { bytes = heard_in all; talk = i.talk; more = n.passed };
              bytes = refl;
              in_turn = subst (λ o. AreAskedInTurn before told (asked_in i.talk o) all) (sym pending) turn_all;
              drives = (i.went, r.0, r.1, i.first, omega (arith, i.counted, few));
              rests = tt;
            },
            also (λ sink. subst (λ e. Asks request (Err e) (before ++ heard_in all) (told ++ read_in i.talk) n.passed connection2 (Some (said_in i.passages)) (Some (said_in all))) sink asks),
          )

      module _ (reply : Reply) (is : result ≡ Ok reply) where
        asks_ok : Asks request (Ok reply) (before ++ heard_in all) (told ++ read_in i.talk) n.passed connection2 (Some (said_in i.passages)) (Some (said_in all))
        asks_ok = subst (λ r. Asks request r (before ++ heard_in all) (told ++ read_in i.talk) n.passed connection2 (Some (said_in i.passages)) (Some (said_in all))) is asks_all

        reads_all : Heard (before ++ heard_in all) (told ++ (read_in i.talk ++ (n.passed ++ reply ∷ []))) connection2
        reads_all = subst (λ x. Heard (before ++ heard_in all) x connection2) (append_assoc told (read_in i.talk) (n.passed ++ reply ∷ [])) asks_ok.0.1

        said_all : Appends (Some []) (Some (said_in all)) (frames_of (sent_in i.talk ++ request ∷ []))
        said_all = written_on (Some []) (Some (said_in i.passages)) (Some (said_in all)) (sent_in i.talk) request i.whole asks_ok.1

        -- the client had no memory for the reply
        pub gone_untaken : (later : C) → next later ≡ next new → ((es : Trace) → Fits new es → Fits later es) → (Also : Talk → Type 0) → Also i.talk
            → (driven : DrivesOver Hearing Saying before told instance Fits next old from (Err DriveError.Memory) later connection2 end) × Also driven.said.talk
        gone_untaken later same fits Also also =
            let more = n.passed ++ reply ∷ [] in
            let still = same ∙ pending in (
              record {
                passages = all;
                passes = passed_all;
                said = record { bytes = heard_in all; talk = i.talk; more = more };
                bytes = refl;
                in_turn = subst (λ o. AreAskedInTurn before told (asked_in i.talk o) all) (sym still) turn_all;
                drives = (
                  went_same instance Fits old new later i.talk i.went fits,
                  begins (before ++ heard_in all) (told ++ (read_in i.talk ++ more)) connection2 reads_all,
                  part_next (Some []) (Some (said_in all)) (sent_in i.talk) request (next later) still (whole_next (Some []) (Some (said_in all)) (sent_in i.talk) request said_all),
                  ap (first_carried (sent_in i.talk)) same ∙ i.first,
                  omega (arith, i.counted, few),
                );
                rests = tt;
              },
              also,
            )

        -- the client took the reply
        pub gone_on : (later : C) (emitted : List Emission) → Went instance Fits old (record { request = request; passed = n.passed; reply = reply; emitted = emitted } ∷ i.talk) later
            → (Also : Talk → Type 0) → Also (record { request = request; passed = n.passed; reply = reply; emitted = emitted } ∷ i.talk)
            → (gone : Gone Hearing Saying before told instance Fits next old from later connection2 end (count + 1)) × Also gone.talk
        gone_on later emitted went Also also = (
          record {
            passages = all;
            passes = passed_all;
            talk = record { request = request; passed = n.passed; reply = reply; emitted = emitted } ∷ i.talk;
            in_turn = turn_all;
            reads = reads_all;
            went = went;
            counted = omega (arith, i.counted);
            whole = said_all;
            first = first_of_more (sent_in i.talk) request (next old) (next new) (next later) pending i.first;
          },
          also,
        )

        -- the sink took no more of what was given out
        pub gone_stopped : (later : C) (emitted : List Emission) → Went instance Fits old (record { request = request; passed = n.passed; reply = reply; emitted = emitted } ∷ i.talk) later → emitted ≢ []
            → (Also : Talk → Type 0) → Also (record { request = request; passed = n.passed; reply = reply; emitted = emitted } ∷ i.talk)
            → (driven : DrivesOver Hearing Saying before told instance Fits next old from (Err DriveError.Sink) later connection2 end) × Also driven.said.talk
        gone_stopped later emitted went gave Also also =
            let talk : Talk = record { request = request; passed = n.passed; reply = reply; emitted = emitted } ∷ i.talk in (
              record {
                passages = all;
                passes = passed_all;
                said = record { bytes = heard_in all; talk = talk; more = [] };
                bytes = refl;
                in_turn = turn_rests before told talk (next later) all turn_all;
                drives = (
                  went,
                  (heard_all before (heard_in all) told talk (begins (before ++ heard_in all) (told ++ read_in talk) connection2 reads_all), refl, gave),
                  said_all,
                  first_of_more (sent_in i.talk) request (next old) (next new) (next later) pending i.first,
                  omega (arith, i.counted, few),
                );
                rests = tt;
              },
              also,
            )
