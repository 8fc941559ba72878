-- Guests at whose other end are clients: what they are answered, each client takes in its order.
use Rattle.std.proofs.Common.{◌≡◌, ◌≢◌, ◌⊎◌, inl, inr, ⊎_elim, ℕ, Bool, true, false, ◌++◌, ◌∷◌, [], List, length, cond, eqb, refl, sym, ◌∙◌, ap, subst, arith, Option, Some, None, append-nil, length-append}
use Rattle.std.proofs.lemmas.Bool.{ne_eqb}
use Rattle.std.proofs.lemmas.Bool.Decides.{eqb_tells}
use Rattle.std.proofs.lemmas.Option.{none-some, same_Some}
use Rattle.repo_wire.specs.declared.messages.Reply.{Reply}
use Rattle.repo_wire.specs.declared.messages.Request.{Request}
use Rattle.repo_session.specs.Talks.{Talk, Turn, sent_in, taken_in}
use Rattle.repo_session.specs.Traces.{Each}
use Rattle.repo_hall.specs.Happenings.{Log, Brought, Answered, Given, Stay, going_on, stay}
use Rattle.repo_hall.specs.Joined.{AtMostPending}
use Rattle.repo_world.specs.Clients.{Client}
use Rattle.repo_world.specs.Events.{MayAnybodySend, Takes}
use Rattle.repo_world.specs.World.{Message, Asked, IsOneOf, client_at}
use Rattle.repo_runs.proofs.Nourishing.{Nourished, nourished}
use Rattle.repo_runs.specs.Connected.{AreAtEnds, GoesAmid, GoesBy, GoesInParts, HallGoes, HallPartsGo, IsForNoClient, IsTaken, OwnedGuestsGo, Senders, TakesTurn, with_store}

-- ---- lists

no_nil : {A : Type 0} (ys : List A) (y : A) → [] ≡ ys ++ y ∷ [] → ⊥
no_nil [] y e = absurd (cc)
no_nil (b ∷ ys) y e = absurd (cc)

snoc : {A : Type 0} (xs ys : List A) (x y : A) → xs ++ x ∷ [] ≡ ys ++ y ∷ [] → (xs ≡ ys) × (x ≡ y)
snoc [] [] x y e = let h : x ≡ y = cc in (refl, h)
snoc {A} [] (b ∷ ys) x y e = let t : [] ≡ ys ++ y ∷ [] = cc in absurd (no_nil ys y t)
snoc {A} (a ∷ xs) [] x y e = let t : [] ≡ xs ++ x ∷ [] = cc in absurd (no_nil xs x t)
snoc (a ∷ xs) (b ∷ ys) x y e =
    let h : a ≡ b = cc in
    let t : xs ++ x ∷ [] ≡ ys ++ y ∷ [] = cc in
    let r = snoc xs ys x y t in
    ((λ i. h i ∷ r.0 i), r.1)

each_front : {A : Type 0} (P : A → Type 0) (xs : List A) (y : A) → Each P (xs ++ y ∷ []) → Each P xs × P y
each_front P [] y h = (tt, h.0)
each_front P (x ∷ xs) y h = let r = each_front P xs y h.1 in ((h.0, r.0), r.1)

-- ---- a client, by what was answered to its guest

-- what is pending on its connection is its own, or what anybody may ask
abbrev WaitsOn : Client → Option Request → Type 0
WaitsOn end next = (request : Request) → next ≡ Some request → (end.next ≡ Some request) ⊎ MayAnybodySend request

-- it went by its turns of a talk, and at most what was pending was answered beside
record Along (c : Client) (asked : List Request) (replies : List Reply) (end : Client) : Type 0 where
  talk : Talk
  goes : GoesAmid c talk end
  next : Option Request
  waits : WaitsOn end next
  left : List Request
  further : List Reply
  asked_are : asked ≡ sent_in talk ++ left
  replies_are : replies ≡ taken_in talk ++ further
  pending : AtMostPending next left further

-- nothing was answered beside its turns
along_turns : (c : Client) (asked : List Request) (replies : List Reply) (end : Client) (talk : Talk) → GoesAmid c talk end → asked ≡ sent_in talk → replies ≡ taken_in talk → Along c asked replies end
along_turns c asked replies end talk goes a r = record {
  talk = talk;
  goes = goes;
  next = None;
  waits = λ request e. absurd (none-some request e);
  left = [];
  further = [];
  asked_are = a ∙ sym (append-nil (sent_in talk));
  replies_are = r ∙ sym (append-nil (taken_in talk));
  pending = inl (refl, refl);
}

-- nothing was answered so far
began : (c end : Client) (talk : Talk) (left : List Request) → GoesAmid c talk end → [] ≡ sent_in talk ++ left → end ≡ c
began c end [] left g e = g
began c end (turn ∷ talk) left g e = absurd (omega (arith, ap length e, length-append (sent_in talk ++ turn.request ∷ []) left, length-append (sent_in talk) (turn.request ∷ [])))

-- what the last answer was: it was taken, or it is what anybody may ask, or it was lost
data Last (c : Client) (asked : List Request) (replies : List Reply) (request : Request) (reply : Reply) (end : Client) : Type 0 where
  took : (turn : Turn) → (mid : Client) → turn.request ≡ request → turn.reply ≡ reply → TakesTurn mid turn end → Along c asked replies mid → Last c asked replies request reply end
  anybodys : MayAnybodySend request → Along c asked replies end → Last c asked replies request reply end
  lost : end.next ≡ Some request → Along c asked replies end → Last c asked replies request reply end

-- a turn that was its own, or wasn't
last_turn : (c : Client) (asked : List Request) (replies : List Reply) (end mid : Client) (talk : Talk) (turn : Turn) → GoesAmid c talk mid → TakesTurn mid turn end ⊎ (MayAnybodySend turn.request × (end ≡ mid))
    → asked ≡ sent_in talk → replies ≡ taken_in talk → (q : Request) (r : Reply) → turn.request ≡ q → turn.reply ≡ r → Last c asked replies q r end
last_turn c asked replies end mid talk turn goes (inl takes) a b q r asks says = Last.took turn mid asks says takes (along_turns c asked replies mid talk goes a b)
last_turn c asked replies end mid talk turn goes (inr (may, same)) a b q r asks says =
    Last.anybodys (subst MayAnybodySend asks may) (along_turns c asked replies end talk (subst (λ x. GoesAmid c talk x) (sym same) goes) a b)

-- one that was pending
last_pending : (c : Client) (asked : List Request) (replies : List Reply) (q : Request) (r : Reply) (end : Client) (request : Request) → (end.next ≡ Some request) ⊎ MayAnybodySend request → request ≡ q
    → Along c asked replies end → Last c asked replies q r end
last_pending c asked replies q r end request (inl own) same along = Last.lost (own ∙ ap Some same) along
last_pending c asked replies q r end request (inr may) same along = Last.anybodys (subst MayAnybodySend same may) along

last_by : (c : Client) (asked : List Request) (replies : List Reply) (q : Request) (r : Reply) (end : Client) (next : Option Request) → WaitsOn end next → (talk : Talk) → GoesAmid c talk end
    → (left : List Request) (further : List Reply) → asked ++ q ∷ [] ≡ sent_in talk ++ left → replies ++ r ∷ [] ≡ taken_in talk ++ further → AtMostPending next left further → Last c asked replies q r end
last_by c asked replies q r end next w [] g left further e f (inl (l, m)) = absurd (no_nil asked q (sym (e ∙ l)))
last_by c asked replies q r end next w (turn ∷ talk) g left further e f (inl (l, m)) =
    let s = snoc asked (sent_in talk) q turn.request (e ∙ ap (λ x. (sent_in talk ++ turn.request ∷ []) ++ x) l ∙ append-nil (sent_in talk ++ turn.request ∷ [])) in
    let t = snoc replies (taken_in talk) r turn.reply (f ∙ ap (λ x. (taken_in talk ++ turn.reply ∷ []) ++ x) m ∙ append-nil (taken_in talk ++ turn.reply ∷ [])) in
    last_turn c asked replies end g.0 talk turn g.1 g.2 s.0 t.0 q r (sym s.1) (sym t.1)
last_by c asked replies q r end next w talk g left further e f (inr (request, reply, pending, answers, l, m)) =
    let s = snoc asked (sent_in talk) q request (e ∙ ap (λ x. sent_in talk ++ x) l) in
    let t = snoc replies (taken_in talk) r reply (f ∙ ap (λ x. taken_in talk ++ x) m) in
    last_pending c asked replies q r end request (w request pending) (sym s.1) (along_turns c asked replies end talk g s.0 t.0)

-- ---- what happens to one guest, and to the others

pass : (b : Bool) (s t : Stay) → t.asked ≡ s.asked → t.replies ≡ s.replies → ((cond b t s).asked ≡ s.asked) × ((cond b t s).replies ≡ s.replies)
pass true s t a r = (a, r)
pass false s t a r = (refl, refl)

own : (n : ℕ) (q : Request) (r : Reply) (log : Log) → stay n (Answered n q r ∷ log) ≡ going_on (Answered n q r) (stay n log)
own n q r log = ⊎_elim (λ h. ap (λ b. cond b (going_on (Answered n q r) (stay n log)) (stay n log)) h.0) (λ h. absurd (h.1 refl)) (eqb_tells n n)

away : (n : ℕ) (q : Request) (r : Reply) (log : Log) (g : ℕ) → n ≢ g → stay g (Answered n q r ∷ log) ≡ stay g log
away n q r log g other = ap (λ b. cond b (going_on (Answered n q r) (stay g log)) (stay g log)) (ne_eqb n g other)

decide : (n g : ℕ) → (n ≡ g) ⊎ (n ≢ g)
decide n g = ⊎_elim (λ h. inl h.1) (λ h. inr h.1) (eqb_tells n g)

-- the clients, but for one, end where they did
abbrev but : ℕ → Client → (ℕ → Client) → ℕ → Client
but n mid end g = cond (eqb n g) mid (end g)

but_here : (n : ℕ) (mid : Client) (end : ℕ → Client) → but n mid end n ≡ mid
but_here n mid end = ⊎_elim (λ h. ap (λ b. cond b mid (end n)) h.0) (λ h. absurd (h.1 refl)) (eqb_tells n n)

but_there : (n : ℕ) (mid : Client) (end : ℕ → Client) (g : ℕ) → n ≢ g → but n mid end g ≡ end g
but_there n mid end g other = ap (λ b. cond b mid (end g)) (ne_eqb n g other)

-- ---- all guests

module _ (old : Senders) (who : ℕ → Option ℕ) (apart : (i j k : ℕ) → who i ≡ Some k → who j ≡ Some k → i ≡ j)
    (first : (g k : ℕ) → who g ≡ Some k → (request : Request) → (client_at old.clients k).next ≡ Some request → IsOneOf old.sent (Asked k request)) where
  abbrev AreAlong : Log → (ℕ → Client) → Type 0
  AreAlong log end = (g k : ℕ) → who g ≡ Some k → Along (client_at old.clients k) (stay g log).asked (stay g log).replies (end g)

  abbrev AreOthers : Log → Type 0
  AreOthers log = (g : ℕ) → who g ≡ None → Each (IsForNoClient old) (stay g log).asked

  abbrev Ends : Senders → (ℕ → Client) → Type 0
  Ends new end = AreAtEnds who end new

  abbrev Rest : Senders → Type 0
  Rest new = (j : ℕ) → ((g : ℕ) → who g ≢ Some j) → client_at new.clients j ≡ client_at old.clients j

  abbrev Kept : Senders → Type 0
  Kept new = (m : Message) → IsOneOf old.sent m → IsOneOf new.sent m

  abbrev Go : Log → (ℕ → Client) → Type 0
  Go log end = (new : Senders) × HallGoes old log new × Ends new end × Rest new × Kept new

  -- what was sent before is for no client, or for one that waits for it no more
  still_sent : (mid : Senders) (q : Request) → Kept mid → IsForNoClient old q → IsForNoClient mid q
  still_sent mid q kept (inl h) = inl (h.0, kept (Asked h.0 q) h.1)
  still_sent mid q kept (inr may) = inr may

  -- whatever was answered before goes so
  abbrev Before : Log → Type 0
  Before log = (ends : ℕ → Client) → AreAlong log ends → AreOthers log → Go log ends

  -- one answer
  module _ (n : ℕ) (q : Request) (r : Reply) (log : Log) (end : ℕ → Client) where
    along_away : AreAlong (Answered n q r ∷ log) end → (g k : ℕ) → n ≢ g → who g ≡ Some k → Along (client_at old.clients k) (stay g log).asked (stay g log).replies (end g)
    along_away along g k other w = subst (λ (s : Stay). Along (client_at old.clients k) s.asked s.replies (end g)) (away n q r log g other) (along g k w)

    others_away : AreOthers (Answered n q r ∷ log) → (g : ℕ) → n ≢ g → who g ≡ None → Each (IsForNoClient old) (stay g log).asked
    others_away others g other w = subst (λ (s : Stay). Each (IsForNoClient old) s.asked) (away n q r log g other) (others g w)

    strange_asked : AreOthers (Answered n q r ∷ log) → who n ≡ None → Each (IsForNoClient old) (stay n log).asked × IsForNoClient old q
    strange_asked others w = each_front (IsForNoClient old) (stay n log).asked q (subst (λ (s : Stay). Each (IsForNoClient old) s.asked) (own n q r log) (others n w))

    -- the same client
    same_client : (k g j : ℕ) → who n ≡ Some k → n ≡ g → who g ≡ Some j → k ≡ j
    same_client k g j w e v = same_Some k j (sym w ∙ ap who e ∙ v)

    along_with : (k : ℕ) → who n ≡ Some k → (ends : ℕ → Client) → Along (client_at old.clients k) (stay n log).asked (stay n log).replies (ends n)
        → ((g j : ℕ) → n ≢ g → who g ≡ Some j → Along (client_at old.clients j) (stay g log).asked (stay g log).replies (ends g)) → AreAlong log ends
    along_with k w ends a rest g j v = ⊎_elim
        (λ e. subst (λ i. Along (client_at old.clients i) (stay g log).asked (stay g log).replies (ends g)) (same_client k g j w e v)
        (subst (λ i. Along (client_at old.clients k) (stay i log).asked (stay i log).replies (ends i)) e a))
        (λ other. rest g j other v)
        (decide n g)

    others_with : (k : ℕ) → who n ≡ Some k → AreOthers (Answered n q r ∷ log) → AreOthers log
    others_with k w others g v = ⊎_elim (λ e. absurd (none-some k (sym v ∙ ap who (sym e) ∙ w))) (λ other. others_away others g other v) (decide n g)

    along_none : who n ≡ None → AreAlong (Answered n q r ∷ log) end → AreAlong log end
    along_none w along g k v = ⊎_elim (λ e. absurd (none-some k (sym w ∙ ap who e ∙ v))) (λ other. along_away along g k other v) (decide n g)

    others_none : who n ≡ None → AreOthers (Answered n q r ∷ log) → AreOthers log
    others_none w others g v = ⊎_elim (λ e. subst (λ i. Each (IsForNoClient old) (stay i log).asked) e (strange_asked others w).0) (λ other. others_away others g other v) (decide n g)

    -- the client took the reply
    module _ (k : ℕ) (w : who n ≡ Some k) (turn : Turn) (mid : Client) (asks : turn.request ≡ q) (says : turn.reply ≡ r) (t : TakesTurn mid turn (end n)) (m : Senders)
        (ends : Ends m (but n mid end)) (rests : Rest m) (kept : Kept m) where
      mid_is : client_at m.clients k ≡ mid
      mid_is = (ends n k w).0 ∙ but_here n mid end

      waits : mid.next ≡ Some q
      waits = t.pending ∙ ap Some asks

      sent : IsOneOf m.sent (Asked k q)
      sent = (ends n k w).1 q (ap (λ (c : Client). c.next) (but_here n mid end) ∙ waits)

      fed : Nourished m k turn t.items (end n)
      fed = nourished m k turn mid (end n) mid_is t

      own_end : (client_at fed.new.clients k ≡ end n) × ((request : Request) → (end n).next ≡ Some request → IsOneOf fed.new.sent (Asked k request))
      own_end = (fed.reached.here, fed.reached.asked)

      other_end : (g j : ℕ) → n ≢ g → who g ≡ Some j → (client_at fed.new.clients j ≡ end g) × ((request : Request) → (end g).next ≡ Some request → IsOneOf fed.new.sent (Asked j request))
      other_end g j other v = (
        ⊎_elim (λ e. absurd (other (apart n g k w (v ∙ ap Some e)))) (λ same. same ∙ (ends g j v).0 ∙ but_there n mid end g other) (fed.reached.others j),
        λ request e. fed.reached.kept (Asked j request) ((ends g j v).1 request (ap (λ (c : Client). c.next) (but_there n mid end g other) ∙ e)),
      )

      ends_new : Ends fed.new end
      ends_new g j v = ⊎_elim
          (λ e. subst (λ i. (client_at fed.new.clients i ≡ end g) × ((request : Request) → (end g).next ≡ Some request → IsOneOf fed.new.sent (Asked i request))) (same_client k g j w e v)
          (subst (λ i. (client_at fed.new.clients k ≡ end i) × ((request : Request) → (end i).next ≡ Some request → IsOneOf fed.new.sent (Asked k request))) e own_end))
          (λ other. other_end g j other v)
          (decide n g)

      rests_new : Rest fed.new
      rests_new j none = ⊎_elim (λ e. absurd (none n (w ∙ ap Some (sym e)))) (λ same. same ∙ rests j none) (fed.reached.others j)

      taken : IsTaken m q r fed.new
      taken = record {
        by = k;
        sent = sent;
        waits = ap (λ (c : Client). c.next) mid_is ∙ waits;
        mid = fed.mid;
        takes = λ store. subst (λ y. Takes (with_store store m) k y (with_store store fed.mid)) says (fed.takes store);
        items = t.items;
        fed = fed.fed;
      }

      took_goes : HallGoes old log m → Go (Answered n q r ∷ log) end
      took_goes goes = (fed.new, (m, goes, inl taken), ends_new, rests_new, λ y h. fed.reached.kept y (kept y h))

  go : (log : Log) (end : ℕ → Client) → AreAlong log end → AreOthers log → Go log end
  go [] end along others = (old, refl, ends, (λ j none. refl), λ m h. h)
    where
      ends : Ends old end
      ends g k w =
          let a = along g k w in
          let b : end g ≡ client_at old.clients k = began (client_at old.clients k) (end g) a.talk a.left a.goes a.asked_are in
          (sym b, λ request e. first g k w request (ap (λ (c : Client). c.next) (sym b) ∙ e))
  go (Brought n piece ∷ log) end along others = go log end
      (λ g k w. (let p = pass (eqb n g) (stay g log) (going_on (Brought n piece) (stay g log)) refl refl in
      subst (λ x. Along (client_at old.clients k) x (stay g log).replies (end g)) p.0 (subst (λ y. Along (client_at old.clients k) (stay g (Brought n piece ∷ log)).asked y (end g)) p.1 (along g k w))))
      (λ g w. subst (λ x. Each (IsForNoClient old) x) (pass (eqb n g) (stay g log) (going_on (Brought n piece) (stay g log)) refl refl).0 (others g w))
  go (Given n piece ∷ log) end along others = go log end
      (λ g k w. (let p = pass (eqb n g) (stay g log) (going_on (Given n piece) (stay g log)) refl refl in
      subst (λ x. Along (client_at old.clients k) x (stay g log).replies (end g)) p.0 (subst (λ y. Along (client_at old.clients k) (stay g (Given n piece ∷ log)).asked y (end g)) p.1 (along g k w))))
      (λ g w. subst (λ x. Each (IsForNoClient old) x) (pass (eqb n g) (stay g log) (going_on (Given n piece) (stay g log)) refl refl).0 (others g w))
  go (Answered n q r ∷ log) end along others = by_owner (λ ends a o. go log ends a o) (who n) refl
    where
      by_last : Before log → (k : ℕ) → who n ≡ Some k → Last (client_at old.clients k) (stay n log).asked (stay n log).replies q r (end n) → Go (Answered n q r ∷ log) end
      by_last before k w (Last.lost next a) =
          let i = before end (along_with n q r log end k w end a (along_away n q r log end along)) (others_with n q r log end k w others) in
          (i.0, (i.0, i.1, inr (inl (k, (i.2 n k w).1 q next), refl)), i.2, i.3, i.4)
      by_last before k w (Last.anybodys may a) =
          let i = before end (along_with n q r log end k w end a (along_away n q r log end along)) (others_with n q r log end k w others) in
          (i.0, (i.0, i.1, inr (inr may, refl)), i.2, i.3, i.4)
      by_last before k w (Last.took turn mid asks says t a) =
          let ends : ℕ → Client = but n mid end in
          let own_along : Along (client_at old.clients k) (stay n log).asked (stay n log).replies (ends n) = subst (λ c. Along (client_at old.clients k) (stay n log).asked (stay n log).replies c) (sym (but_here n mid end)) a in
          let rest : (g j : ℕ) → n ≢ g → who g ≡ Some j → Along (client_at old.clients j) (stay g log).asked (stay g log).replies (ends g) = λ g j other v. subst (λ c. Along (client_at old.clients j) (stay g log).asked (stay g log).replies c) (sym (but_there n mid end g other)) (along_away n q r log end along g j other v) in
          let i = before ends (along_with n q r log end k w ends own_along rest) (others_with n q r log end k w others) in
          took_goes n q r log end k w turn mid asks says t i.0 i.2 i.3 i.4 i.1

      by_owner : Before log → (o : Option ℕ) → who n ≡ o → Go (Answered n q r ∷ log) end
      by_owner before None w =
          let i = before end (along_none n q r log end w along) (others_none n q r log end w others) in
          (i.0, (i.0, i.1, inr (still_sent i.0 q i.4 (strange_asked n q r log end others w).1, refl)), i.2, i.3, i.4)
      by_owner before (Some k) w =
          let a = subst (λ (s : Stay). Along (client_at old.clients k) s.asked s.replies (end n)) (own n q r log) (along n k w) in
          by_last before k w (last_by (client_at old.clients k) (stay n log).asked (stay n log).replies q r (end n) a.next a.waits a.talk a.goes a.left a.further a.asked_are a.replies_are a.pending)

pub owned_guests_go : OwnedGuestsGo
owned_guests_go old log who end owned =
    go old who owned.apart (λ g k w. (owned.clients g k w).sent) log end
    (λ g k w. (let c = owned.clients g k w in record {
      talk = c.said.talk;
      goes = c.goes;
      next = c.next;
      waits = c.waits;
      left = c.along.left;
      further = c.along.further;
      asked_are = c.along.asked;
      replies_are = c.along.replies;
      pending = c.along.pending;
    }))
    owned.others

-- ---- a hall in parts

pub hall_parts_go : HallPartsGo
hall_parts_go old mid new earlier [] first rest = subst (λ s. HallGoes old earlier s) (sym rest) first
hall_parts_go old mid new earlier (Brought n piece ∷ later) first rest = hall_parts_go old mid new earlier later first rest
hall_parts_go old mid new earlier (Answered n request reply ∷ later) first rest = (rest.0, hall_parts_go old mid rest.0 earlier later first rest.1, rest.2)
hall_parts_go old mid new earlier (Given n piece ∷ later) first rest = hall_parts_go old mid new earlier later first rest

-- ---- a client's talk in parts

stands_still : (c : Client) (opening : Talk) → Each (λ (turn : Turn). MayAnybodySend turn.request) opening → GoesAmid c opening c
stands_still c [] h = refl
stands_still c (turn ∷ opening) h = (c, stands_still c opening h.1, inr (h.0, refl))

goes_behind : (old new : Client) (opening talk : Talk) → Each (λ (turn : Turn). MayAnybodySend turn.request) opening → GoesBy old talk new → GoesAmid old (talk ++ opening) new
goes_behind old new opening [] h g = subst (λ c. GoesAmid old opening c) (sym g) (stands_still old opening h)
goes_behind old new opening (turn ∷ talk) h g = (g.0, goes_behind old g.0 opening talk h g.1, inl g.2)

parts_of : (old new : Client) (talk later : Talk) → GoesBy old (later ++ talk) new → (mid : Client) × GoesBy old talk mid × GoesBy mid later new
parts_of old new talk [] g = (new, g, refl)
parts_of old new talk (turn ∷ later) g =
    let r = parts_of old g.0 talk later g.1 in
    (r.0, r.1, (g.0, r.2, g.2))

pub goes_in_parts : GoesInParts
goes_in_parts old new opening talk later h g =
    let r = parts_of old new talk later g in
    (r.0, goes_behind old r.0 opening talk h r.1, r.2)
