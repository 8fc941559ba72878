-- Passages over a channel, and a service over them.
use Rattle.std.proofs.Common.{◌≡◌, ◌++◌, ◌∷◌, [], ℕ, List, Option, Some, Result, Ok, Err, take, refl, sym, ap, subst, inl, inr, ◌∙◌, append_assoc}
use Rattle.std.specs.Io.KnownBytes.{Appends, Consumes, IsAtEnd}
use Rattle.std.proofs.KnownBytes.{Appends-nil, Appends-trans, Consumes-nil, Consumes-trans}
use Rattle.std.proofs.lemmas.List.{append-nil, append_cancel_right}
use Rattle.repo_wire.specs.Stream.{Ending, Waits, Fails}
use Rattle.repo_store.specs.AppendOnly.{OnlyAppends}
use Rattle.repo_store.specs.Channels.{Passage, heard, said, Passes, heard_in, said_in, AreSaid, IsServed, AreAnsweredInTurn, GoesOver, ServesChannel}
use Rattle.repo_store.specs.Services.{Rests, EndsBy, AnswersAll, ServesEach}
use Rattle.repo_store.specs.Serving.{Moment, Past, seen, plain, shown, AllServed, SomeServed, ServesConnection}
use Rattle.repo_store.specs.declared.forms.ServiceError.{ServiceError}
use Rattle.repo_store.specs.declared.services.Service.{Service}
use Rattle.repo_store.specs.declared.serving.ServeError.{ServeError}
use Rattle.repo_store.specs.Stores.{Store}
use Rattle.repo_store.proofs.Appending.{serving_only_appends}

pub said_join : (later earlier : List Passage) → said_in (later ++ earlier) ≡ said_in earlier ++ said_in later
said_join [] earlier = sym (append-nil (said_in earlier))
said_join (heard bytes ∷ later) earlier = said_join later earlier
said_join (said bytes ∷ later) earlier = ap (λ x. x ++ bytes) (said_join later earlier) ∙ append_assoc (said_in earlier) (said_in later) bytes

pub heard_join : (later earlier : List Passage) → heard_in (later ++ earlier) ≡ heard_in earlier ++ heard_in later
heard_join [] earlier = sym (append-nil (heard_in earlier))
heard_join (heard bytes ∷ later) earlier = ap (λ x. x ++ bytes) (heard_join later earlier) ∙ append_assoc (heard_in earlier) (heard_in later) bytes
heard_join (said bytes ∷ later) earlier = heard_join later earlier

-- where nothing was heard
pub heard_none : (later earlier : List Passage) → AreSaid later → heard_in (later ++ earlier) ≡ heard_in earlier
heard_none [] earlier alone = refl
heard_none (heard bytes ∷ later) earlier alone = absurd alone
heard_none (said bytes ∷ later) earlier alone = heard_none later earlier alone

pub turn_stays : (from : Store) (later earlier : List Passage) → AreSaid later → AreAnsweredInTurn from earlier → AreAnsweredInTurn from (later ++ earlier)
turn_stays from [] earlier alone h = h
turn_stays from (heard bytes ∷ later) earlier alone h = absurd alone
turn_stays from (said bytes ∷ later) earlier alone h = turn_stays from later earlier alone h

pub alone_join : (later earlier : List Passage) → AreSaid later → AreSaid earlier → AreSaid (later ++ earlier)
alone_join [] earlier h k = k
alone_join (heard bytes ∷ later) earlier h k = h
alone_join (said bytes ∷ later) earlier h k = alone_join later earlier h k

-- what was heard is served where a service rests
pub served_so : {F : Type 0} (from : Store) (failures : ℕ) (earlier : List Passage) (service : Service F) (past : Past) (to : Store) (count : ℕ) → past.bytes ≡ heard_in earlier
    → Rests plain (seen from failures (Some [])) service past (seen to count (Some (said_in earlier))) → IsServed from earlier
served_so from failures earlier service past to count all rests =
    record { past = past; unread = service.reader.unread; all = all; stream = rests.waits; to = to; ran = rests.has.answered.0; told = rests.has.written }

-- where some bytes were heard, and then nothing
pub said_after : (later earlier : List Passage) (bytes : List ℕ) → said_in ((later ++ heard bytes ∷ []) ++ earlier) ≡ said_in earlier ++ said_in later
said_after later earlier bytes = said_join (later ++ heard bytes ∷ []) earlier ∙ ap (λ x. said_in earlier ++ x) (said_join later (heard bytes ∷ []))

pub heard_after : (later earlier : List Passage) (bytes : List ℕ) → AreSaid later → heard_in ((later ++ heard bytes ∷ []) ++ earlier) ≡ heard_in earlier ++ bytes
heard_after later earlier bytes alone = heard_join (later ++ heard bytes ∷ []) earlier ∙ ap (λ x. heard_in earlier ++ x) (heard_none later (heard bytes ∷ []) alone)

pub turn_after : (from : Store) (later earlier : List Passage) (bytes : List ℕ) → AreSaid later → IsServed from earlier → AreAnsweredInTurn from earlier → AreAnsweredInTurn from ((later ++ heard bytes ∷ []) ++ earlier)
turn_after from later earlier bytes alone served h =
    subst (λ ps. AreAnsweredInTurn from ps) (sym (append_assoc later (heard bytes ∷ []) earlier)) (turn_stays from later (heard bytes ∷ earlier) alone (h, served))

module _ {C : Type 0} (Hears Says : C → List ℕ → C → Type 0) where
  pub passes_join : (a b c : C) (later earlier : List Passage) → Passes Hears Says a earlier b → Passes Hears Says b later c → Passes Hears Says a (later ++ earlier) c
  passes_join a b c [] earlier first then = subst (λ x. Passes Hears Says a earlier x) (sym then) first
  passes_join a b c (heard bytes ∷ later) earlier first then = (then.0, passes_join a b then.0 later earlier first then.1, then.2)
  passes_join a b c (said bytes ∷ later) earlier first then = (then.0, passes_join a b then.0 later earlier first then.1, then.2)

  module _ (Does : Moment → Moment → Type 0) (a : C) (from to : Store) (k l : ℕ) where
    -- nothing was said
    pub says_none : ((before : List ℕ) → Does (seen from k (Some before)) (seen to l (Some before))) → GoesOver Hears Says Does a from k a to l
    says_none h = record {
      passages = [];
      passes = refl;
      alone = tt;
      does = λ before. subst (λ (x : List ℕ). Does (seen from k (Some before)) (seen to l (Some x))) (sym (append-nil before)) (h before);
    }

    -- these bytes were said
    pub says_some : (b : C) (bytes : List ℕ) → Says a bytes b → ((before : List ℕ) → Does (seen from k (Some before)) (seen to l (Some (before ++ bytes)))) → GoesOver Hears Says Does a from k b to l
    says_some b bytes says h = record { passages = said bytes ∷ []; passes = (a, refl, says); alone = tt; does = h }

  -- one after another
  pub says_then : (First Then Both : Moment → Moment → Type 0) (a b c : C) (from mid to : Store) (k l m : ℕ) → ((x y z : Moment) → First x y → Then y z → Both x z)
      → GoesOver Hears Says First a from k b mid l → GoesOver Hears Says Then b mid l c to m → GoesOver Hears Says Both a from k c to m
  says_then First Then Both a b c from mid to k l m both first then = record {
    passages = then.passages ++ first.passages;
    passes = passes_join a b c then.passages first.passages first.passes then.passes;
    alone = alone_join then.passages first.passages then.alone first.alone;
    does = λ before.
        let all : before ++ said_in (then.passages ++ first.passages) ≡ (before ++ said_in first.passages) ++ said_in then.passages =
        ap (λ x. before ++ x) (said_join then.passages first.passages) ∙ sym (append_assoc before (said_in first.passages) (said_in then.passages)) in
        subst (λ (x : List ℕ). Both (seen from k (Some before)) (seen to m (Some x))) (sym all)
        (both (seen from k (Some before)) (seen mid l (Some (before ++ said_in first.passages))) (seen to m (Some ((before ++ said_in first.passages) ++ said_in then.passages)))
        (first.does before) (then.does (before ++ said_in first.passages)));
  }

-- what serving a channel gives is a run, and so only appends where the store does
pub channel_only_appends : {C : Type 0} (Hears Says : C → List ℕ → C → Type 0) (IsOver : C → Type 0) (old : C) (from : Store) (failures : ℕ) (result : Result ℕ ServeError) (new : C) (to : Store) (count : ℕ)
    → ServesChannel Hears Says IsOver old from failures result new to count → OnlyAppends from to
channel_only_appends Hears Says IsOver old from failures result new to count h =
    serving_only_appends (Some (heard_in h.passages ++ h.left)) (Some h.left) (seen from failures (Some [])) (seen to count (Some (said_in h.passages))) result h.serves

-- ---- what was said as what was written

module _ (form : List ℕ → List ℕ) (before : Moment) (to : Store) (count : ℕ) (start written : Option (List ℕ)) (all : List ℕ) (same : before.written ≡ start) (appends : Appends start written all) where
  abbrev pub spoken : Moment
  spoken = seen before.store before.failures (Some [])

  appends_more : (x : List ℕ) → all ≡ x → Appends before.written written x
  appends_more x e = subst (λ s. Appends s written x) (sym same) (subst (λ l. Appends start written l) e appends)

  pub all_written : (past : Past) (ending : Ending) → AllServed form spoken past ending (seen to count (Some all)) → AllServed form before past ending (seen to count written)
  all_written past ending h = record { stream = h.stream; answered = h.answered; written = appends_more (shown form past.replies) h.written }

  pub some_written : (past : Past) → SomeServed form spoken past (seen to count (Some all)) → SomeServed form before past (seen to count written)
  some_written past h = record { stream = h.stream; answered = h.answered; written = (h.written.0, appends_more (take h.written.0 (shown form past.replies)) h.written.1) }

  pub rests_written : {F : Type 0} (service : Service F) (past : Past) → Rests form spoken service past (seen to count (Some all)) → Rests form before service past (seen to count written)
  rests_written service past h = record {
    has = record { reader = h.has.reader; answered = h.has.answered; count = h.has.count; written = appends_more (shown form past.replies) h.has.written };
    waits = h.waits;
  }

  pub ends_written : (error : ServiceError) (past : Past) → EndsBy form error spoken past (seen to count (Some all)) → EndsBy form error before past (seen to count written)
  ends_written (ServiceError.Wire fault) past h = all_written past (Fails fault) h
  ends_written ServiceError.Write past h = some_written past h
  ends_written ServiceError.Limit past h = (some_written past h.0, h.1)
  ends_written ServiceError.Memory past h = some_written past h

  pub answers_written : {F : Type 0} (result : Result (Unit {0}) ServiceError) (bytes : List ℕ) (service : Service F) → AnswersAll form result spoken bytes service (seen to count (Some all)) → AnswersAll form result before bytes service (seen to count written)
  answers_written (Ok done) bytes service h = (h.0, h.1, rests_written service h.0 h.2)
  answers_written (Err error) bytes service h = (h.0, h.1, ends_written error h.0 h.2)

-- a service that answers over passages, whatever was said before, answers so where that is written
pub each_written : {F : Type 0} (form : List ℕ → List ℕ) (old new : Service F) (result : Result (Unit {0}) ServiceError) (from to : Store) (failures count : ℕ) (start written : Option (List ℕ)) (more : List ℕ)
    → ((before : List ℕ) → ServesEach form old (seen from failures (Some before)) result new (seen to count (Some (before ++ more)))) → Appends start written more
    → ServesEach form old (seen from failures start) result new (seen to count written)
each_written form old new result from to failures count start written more each appends before past has =
    let told = shown form past.replies in
    let mine : Moment = seen before.store before.failures (Some []) in
    answers_written form before to count before.written written (told ++ more) refl (Appends-trans before.written start written told more has.written appends) result past.bytes new
    (each told mine past (record { reader = has.reader; answered = has.answered; count = has.count; written = refl }))

-- and what serving a channel gives is what serving its ends gives
pub connection_written : (result : Result ℕ ServeError) (input rest : Option (List ℕ)) (brought left : List ℕ) (from to : Store) (failures count : ℕ) (start written : Option (List ℕ)) (told : List ℕ)
    → Consumes input rest brought → (left ≡ [] → IsAtEnd rest) → Appends start written told
    → ServesConnection (Some (brought ++ left)) (seen from failures (Some [])) result (Some left) (seen to count (Some told)) → ServesConnection input (seen from failures start) result rest (seen to count written)
connection_written (Ok n) input rest brought left from to failures count start written told read end appends h =
    (h.0, subst (λ l. Consumes input rest l) (append_cancel_right brought h.0.bytes left h.1) read, end h.2, h.3, all_written plain (seen from failures start) to count start written told refl appends h.0 (Waits []) h.4)
connection_written (Err ServeError.Read) input rest brought left from to failures count start written told read end appends h =
    (h.0, h.1, subst (λ l. Consumes input rest l) (append_cancel_right brought h.0.bytes left h.2) read, all_written plain (seen from failures start) to count start written told refl appends h.0 (Waits h.1) h.3)
connection_written (Err ServeError.Write) input rest brought left from to failures count start written told read end appends h =
    (h.0, subst (λ l. Consumes input rest l) (append_cancel_right brought h.0.bytes left h.1) read, some_written plain (seen from failures start) to count start written told refl appends h.0 h.2)
connection_written (Err ServeError.Malformed) input rest brought left from to failures count start written told read end appends (past, same, inl h) =
    (past, subst (λ l. Consumes input rest l) (append_cancel_right brought past.bytes left same) read, inl (h.0, all_written plain (seen from failures start) to count start written told refl appends past (Fails h.0) h.1))
connection_written (Err ServeError.Malformed) input rest brought left from to failures count start written told read end appends (past, same, inr h) =
    (past, subst (λ l. Consumes input rest l) (append_cancel_right brought past.bytes left same) read, inr (h.0, h.1, end h.2, all_written plain (seen from failures start) to count start written told refl appends past (Waits h.0) h.3))
connection_written (Err ServeError.Limit) input rest brought left from to failures count start written told read end appends h =
    (h.0, subst (λ l. Consumes input rest l) (append_cancel_right brought h.0.bytes left h.1) read, some_written plain (seen from failures start) to count start written told refl appends h.0 h.2, h.3)
connection_written (Err ServeError.Memory) input rest brought left from to failures count start written told read end appends h =
    (h.0, h.1, subst (λ l. Consumes input rest l) (append_cancel_right brought (h.0.bytes ++ h.1) left h.2) read, some_written plain (seen from failures start) to count start written told refl appends h.0 h.3)

-- ---- passages over a reader and a writer

module _ {C N : Type 0} (Hears Says : C → List ℕ → C → Type 0) (name : C → N) (contents : C → Option (List ℕ)) (named : (a b : C) (bytes : List ℕ) → Says a bytes b → name b ≡ name a)
    (writes : (a b : C) (bytes : List ℕ) → Says a bytes b → Appends (contents a) (contents b) bytes) where
  -- where nothing was heard
  pub said_named : (a b : C) (passages : List Passage) → AreSaid passages → Passes Hears Says a passages b → name b ≡ name a
  said_named a b [] alone h = ap name h
  said_named a b (heard bytes ∷ passages) alone h = absurd alone
  said_named a b (said bytes ∷ passages) alone h = named h.0 b bytes h.2 ∙ said_named a h.0 passages alone h.1

  pub said_writes : (a b : C) (passages : List Passage) → AreSaid passages → Passes Hears Says a passages b → Appends (contents a) (contents b) (said_in passages)
  said_writes a b [] alone h = subst (λ x. Appends (contents a) (contents x) []) (sym h) (Appends-nil (contents a))
  said_writes a b (heard bytes ∷ passages) alone h = absurd alone
  said_writes a b (said bytes ∷ passages) alone h = Appends-trans (contents a) (contents h.0) (contents b) (said_in passages) bytes (said_writes a h.0 passages alone h.1) (writes h.0 b bytes h.2)

module _ {C : Type 0} (Hears Says : C → List ℕ → C → Type 0) (remaining contents : C → Option (List ℕ))
    (reads : (a b : C) (bytes : List ℕ) → Hears a bytes b → Consumes (remaining a) (remaining b) bytes × (contents b ≡ contents a))
    (writes : (a b : C) (bytes : List ℕ) → Says a bytes b → (remaining b ≡ remaining a) × Appends (contents a) (contents b) bytes) where
  pub passes_read : (a b : C) (passages : List Passage) → Passes Hears Says a passages b → Consumes (remaining a) (remaining b) (heard_in passages)
  passes_read a b [] h = subst (λ x. Consumes (remaining a) (remaining x) []) (sym h) (Consumes-nil (remaining a))
  passes_read a b (heard bytes ∷ passages) h = Consumes-trans (remaining a) (remaining h.0) (remaining b) (heard_in passages) bytes (passes_read a h.0 passages h.1) (reads h.0 b bytes h.2).0
  passes_read a b (said bytes ∷ passages) h = subst (λ x. Consumes (remaining a) x (heard_in passages)) (sym (writes h.0 b bytes h.2).0) (passes_read a h.0 passages h.1)

  pub passes_write : (a b : C) (passages : List Passage) → Passes Hears Says a passages b → Appends (contents a) (contents b) (said_in passages)
  passes_write a b [] h = subst (λ x. Appends (contents a) (contents x) []) (sym h) (Appends-nil (contents a))
  passes_write a b (heard bytes ∷ passages) h = subst (λ x. Appends (contents a) x (said_in passages)) (sym (reads h.0 b bytes h.2).1) (passes_write a h.0 passages h.1)
  passes_write a b (said bytes ∷ passages) h = Appends-trans (contents a) (contents h.0) (contents b) (said_in passages) bytes (passes_write a h.0 passages h.1) (writes h.0 b bytes h.2).1

module _ {C N : Type 0} (Hears Says : C → List ℕ → C → Type 0) (name : C → N) (hears : (a b : C) (bytes : List ℕ) → Hears a bytes b → name b ≡ name a) (says : (a b : C) (bytes : List ℕ) → Says a bytes b → name b ≡ name a) where
  pub passes_named : (a b : C) (passages : List Passage) → Passes Hears Says a passages b → name b ≡ name a
  passes_named a b [] h = ap name h
  passes_named a b (heard bytes ∷ passages) h = hears h.0 b bytes h.2 ∙ passes_named a h.0 passages h.1
  passes_named a b (said bytes ∷ passages) h = says h.0 b bytes h.2 ∙ passes_named a h.0 passages h.1
