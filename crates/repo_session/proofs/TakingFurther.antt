-- What a client took of some replies, and then of others.
use Rattle.std.proofs.Common.{◌≡◌, ◌+◌, ◌++◌, ◌∷◌, [], ℕ, List, Option, Some, None, length, refl, sym, ap, subst, arith, append_assoc, append-nil, length-append, ◌∙◌}
use Rattle.std.proofs.lemmas.List.{length-map}
use Rattle.repo_name.specs.declared.names.Instance.{Instance}
use Rattle.repo_wire.specs.declared.messages.Reply.{Reply}
use Rattle.repo_wire.specs.declared.messages.Request.{Request}
use Rattle.repo_session.specs.Clients.{IsReplyTo, exchange}
use Rattle.repo_session.specs.Laws.{TakingGoesOn}
use Rattle.repo_session.specs.Talks.{Turn, Talk, IsTurn, AreNumbered, Went, TookEach, ArePassed, first_carried, trace_of, sent_in, read_in}
use Rattle.repo_session.specs.Traces.{Each, Trace}
use Rattle.repo_session.proofs.Receiving.{each_both}

-- ---- the replies that were passed over before go before the first turn

-- the same turn, before which these were passed over, too
abbrev past : List Reply → Turn → Turn
past more turn = record { request = turn.request; passed = more ++ turn.passed; reply = turn.reply; emitted = turn.emitted }

abbrev behind : List Reply → Turn → Talk → Talk
behind more turn [] = past more turn ∷ []
behind more turn (older ∷ talk) = turn ∷ behind more older talk

-- the first request of some turns
abbrev opening : Turn → Talk → Request
opening turn [] = turn.request
opening turn (older ∷ talk) = opening older talk

sent_behind : (more : List Reply) (turn : Turn) (talk : Talk) → sent_in (behind more turn talk) ≡ sent_in (turn ∷ talk)
sent_behind more turn [] = refl
sent_behind more turn (older ∷ talk) = ap (λ x. x ++ turn.request ∷ []) (sent_behind more older talk)

trace_behind : (more : List Reply) (turn : Turn) (talk : Talk) → trace_of (behind more turn talk) ≡ trace_of (turn ∷ talk)
trace_behind more turn [] = refl
trace_behind more turn (older ∷ talk) = ap (λ x. exchange turn.request turn.reply turn.emitted ∷ x) (trace_behind more older talk)

read_behind : (more : List Reply) (turn : Turn) (talk : Talk) → read_in (behind more turn talk) ≡ more ++ read_in (turn ∷ talk)
read_behind more turn [] = append_assoc more turn.passed (turn.reply ∷ [])
read_behind more turn (older ∷ talk) = ap (λ x. x ++ (turn.passed ++ turn.reply ∷ [])) (read_behind more older talk) ∙ append_assoc more (read_in (older ∷ talk)) (turn.passed ++ turn.reply ∷ [])

turns_behind : (more : List Reply) (turn : Turn) (talk : Talk) → Each (λ reply. ¬ IsReplyTo (opening turn talk) reply) more → Each IsTurn (turn ∷ talk) → Each IsTurn (behind more turn talk)
turns_behind more turn [] others h = (record { fits = h.0.fits; passed = each_both (λ reply. ¬ IsReplyTo turn.request reply) more turn.passed others h.0.passed; answers = h.0.answers }, tt)
turns_behind more turn (older ∷ talk) others h = (h.0, turns_behind more older talk others h.1)

length_behind : (more : List Reply) (turn : Turn) (talk : Talk) → length (behind more turn talk) ≡ length (turn ∷ talk)
length_behind more turn [] = refl
length_behind more turn (older ∷ talk) = let h = length_behind more older talk in omega (arith, h)

numbered_behind : (instance : Instance) (before : ℕ) (more : List Reply) (turn : Turn) (talk : Talk) → AreNumbered instance before (turn ∷ talk) → AreNumbered instance before (behind more turn talk)
numbered_behind instance before more turn [] h = h
numbered_behind instance before more turn (older ∷ talk) h =
    let l = length_behind more older talk in
    (h.0, omega (arith, h.1, l), numbered_behind instance before more older talk h.2)

-- the request that goes first
opens : (sent : List Request) (request : Request) (next : Option Request) → first_carried (sent ++ request ∷ []) next ≡ first_carried sent (Some request)
opens [] request next = refl
opens (r ∷ sent) request next = refl

opens_with : (turn : Turn) (talk : Talk) (next : Option Request) → first_carried (sent_in (turn ∷ talk)) next ≡ Some (opening turn talk)
opens_with turn [] next = refl
opens_with turn (older ∷ talk) next = opens (sent_in (older ∷ talk)) turn.request next ∙ opens_with older talk (Some turn.request)

-- ---- talks, one behind the other

sent_both : (later talk : Talk) → sent_in (later ++ talk) ≡ sent_in talk ++ sent_in later
sent_both [] talk = sym (append-nil (sent_in talk))
sent_both (turn ∷ later) talk = ap (λ x. x ++ turn.request ∷ []) (sent_both later talk) ∙ append_assoc (sent_in talk) (sent_in later) (turn.request ∷ [])

read_both : (later talk : Talk) → read_in (later ++ talk) ≡ read_in talk ++ read_in later
read_both [] talk = sym (append-nil (read_in talk))
read_both (turn ∷ later) talk = ap (λ x. x ++ (turn.passed ++ turn.reply ∷ [])) (read_both later talk) ∙ append_assoc (read_in talk) (read_in later) (turn.passed ++ turn.reply ∷ [])

trace_both : (later talk : Talk) → trace_of (later ++ talk) ≡ trace_of later ++ trace_of talk
trace_both [] talk = refl
trace_both (turn ∷ later) talk = ap (λ x. exchange turn.request turn.reply turn.emitted ∷ x) (trace_both later talk)

numbered_both : (instance : Instance) (before : ℕ) (later talk : Talk) → AreNumbered instance before talk → AreNumbered instance (length talk + before) later → AreNumbered instance before (later ++ talk)
numbered_both instance before [] talk h k = h
numbered_both instance before (turn ∷ later) talk h k = (k.0, omega (arith, k.1, length-append later talk), numbered_both instance before later talk h k.2)

carried_both : (sent later : List Request) (next : Option Request) → first_carried (sent ++ later) next ≡ first_carried sent (first_carried later next)
carried_both [] later next = refl
carried_both (request ∷ sent) later next = refl

went_both : {C : Type 0} (instance : Instance) (Fits : C → Trace → Type 0) (old mid new : C) (later talk : Talk) → Went instance Fits old talk mid → Went instance Fits mid later new
    → Went instance Fits old (later ++ talk) new
went_both instance Fits old mid new later talk w v = record {
  turns = each_both IsTurn later talk v.turns w.turns;
  numbered = λ es h.
      let n = v.numbered (trace_of talk ++ es) (w.fits es h) in
      let l : length (trace_of talk ++ es) ≡ length talk + length es = omega (arith, length-append (trace_of talk) es, length-map talk (λ (t : Turn). exchange t.request t.reply t.emitted)) in
      numbered_both instance (length es) later talk (w.numbered es h) (subst (λ k. AreNumbered instance k later) l n);
  fits = λ es h. subst (λ x. Fits new x) (sym (ap (λ x. x ++ es) (trace_both later talk) ∙ append_assoc (trace_of later) (trace_of talk) es)) (v.fits (trace_of talk ++ es) (w.fits es h));
}

-- ---- both lists

module _ {C : Type 0} (instance : Instance) (Fits : C → Trace → Type 0) (next : C → Option Request) (old mid new : C) (some more : List Reply) (talk : Talk) (t : TookEach instance Fits next old some talk mid) where
  -- no turn of the second
  none_further : TookEach instance Fits next mid more [] new → TookEach instance Fits next old (some ++ more) talk new
  none_further u = record {
    went = went_both instance Fits old mid new [] talk t.went u.went;
    more = t.more ++ u.more;
    each = sym (append_assoc (read_in talk) t.more u.more) ∙ ap (λ x. x ++ u.more) t.each ∙ ap (λ x. some ++ x) u.each;
    passed = both (next new) u.first u.passed;
    first = ap (λ n. first_carried (sent_in talk) n) u.first ∙ t.first;
  }
    where
      both : (now : Option Request) → now ≡ next mid → ArePassed now u.more → ArePassed now (t.more ++ u.more)
      both None same h = tt
      both (Some request) same h = each_both (λ reply. ¬ IsReplyTo request reply) t.more u.more (subst (λ n. ArePassed n t.more) (sym same) t.passed) h

  -- the turns of both
  turns_further : (turn : Turn) (later : Talk) → TookEach instance Fits next mid more (turn ∷ later) new → TookEach instance Fits next old (some ++ more) (behind t.more turn later ++ talk) new
  turns_further turn later u =
      let begun : next mid ≡ Some (opening turn later) = sym u.first ∙ opens_with turn later (next new) in
      let went : Went instance Fits mid (behind t.more turn later) new = record {
        turns = turns_behind t.more turn later (subst (λ n. ArePassed n t.more) begun t.passed) u.went.turns;
        numbered = λ es h. numbered_behind instance (length es) t.more turn later (u.went.numbered es h);
        fits = λ es h. subst (λ x. Fits new x) (sym (ap (λ x. x ++ es) (trace_behind t.more turn later))) (u.went.fits es h);
      } in
      record {
        went = went_both instance Fits old mid new (behind t.more turn later) talk t.went went;
        more = u.more;
        each =
            ap (λ x. x ++ u.more) (read_both (behind t.more turn later) talk ∙ ap (λ x. read_in talk ++ x) (read_behind t.more turn later) ∙ sym (append_assoc (read_in talk) t.more (read_in (turn ∷ later))) ∙ ap (λ x. x ++ read_in (turn ∷ later)) t.each)
            ∙ append_assoc some (read_in (turn ∷ later)) u.more ∙ ap (λ x. some ++ x) u.each;
        passed = u.passed;
        first =
            ap (λ x. first_carried x (next new)) (sent_both (behind t.more turn later) talk ∙ ap (λ x. sent_in talk ++ x) (sent_behind t.more turn later))
            ∙ carried_both (sent_in talk) (sent_in (turn ∷ later)) (next new) ∙ ap (λ n. first_carried (sent_in talk) n) u.first ∙ t.first;
      }

pub taking_goes_on : {C : Type 0} (Fits : C → Trace → Type 0) (next : C → Option Request) → TakingGoesOn Fits next
taking_goes_on Fits next instance old mid new some more talk [] t u = (talk, refl, none_further instance Fits next old mid new some more talk t u)
taking_goes_on Fits next instance old mid new some more talk (turn ∷ later) t u = (
  behind t.more turn later ++ talk,
  trace_both (behind t.more turn later) talk ∙ ap (λ x. x ++ trace_of talk) (trace_behind t.more turn later),
  turns_further instance Fits next old mid new some more talk t turn later u,
)
