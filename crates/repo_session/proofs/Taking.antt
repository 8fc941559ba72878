-- What a client took of a list of replies.
use Rattle.std.proofs.Common.{◌≡◌, ◌⊎◌, ◌++◌, ◌∷◌, [], ℕ, Bool, true, false, List, Option, Some, None, Contains, take, drop, refl, sym, ap, subst, inl, inr, append_assoc, take-append-drop, bytes_eq, ◌∙◌}
use Rattle.std.proofs.lemmas.Bool.Decides.{eqb_tells, not_from_Decides}
use Rattle.std.proofs.lemmas.List.{append-nil}
use Rattle.std.proofs.lemmas.List.Elements.{Contains-append_left, Contains-append_right, Contains-push}
use Rattle.std.proofs.lemmas.Slice.Eq.{bytes_eq-Decides}
use Rattle.repo_name.specs.declared.names.Instance.{Instance}
use Rattle.repo_wire.specs.declared.messages.Reply.{Reply}
use Rattle.repo_wire.specs.declared.messages.Request.{Request}
use Rattle.repo_wire.specs.Messages.{requests}
use Rattle.repo_wire.specs.Stream.{FitsFrame}
use Rattle.repo_session.specs.declared.emissions.Emission.{Emission}
use Rattle.repo_session.specs.Clients.{IsReplyTo, AnswersNext, exchange}
use Rattle.repo_session.specs.Talks.{Turn, Talk, IsTurn, Went, TookEach, CameIn, ArePassed, first_carried, trace_of, sent_in, read_in, given_in}
use Rattle.repo_session.specs.Traces.{Trace, emitted_in}
use Rattle.repo_session.proofs.Connecting.{passed_more}
use Rattle.repo_session.proofs.Talking.{IsNumbered, went_on, passed_none, first_of_more}

-- ---- whether a reply is to a request

bytes_or : (xs ys : List ℕ) → (xs ≡ ys) ⊎ ¬ (xs ≡ ys)
bytes_or xs ys = by (bytes_eq xs ys) refl
  where
    by : (t : Bool) → bytes_eq xs ys ≡ t → (xs ≡ ys) ⊎ ¬ (xs ≡ ys)
    by true e = inl ((bytes_eq-Decides xs ys).0 e)
    by false e = inr (not_from_Decides (bytes_eq xs ys) (bytes_eq-Decides xs ys) e)

instance_or : (a b : Instance) → (a ≡ b) ⊎ ¬ (a ≡ b)
instance_or a b = elim (bytes_or a.0 b.0) [
  | inl same ↦ inl (λ i. record { 0 = same i })
  | inr other ↦ inr (λ h. other (ap (λ (j : Instance). j.0) h))
]

pub replied_or : (request : Request) (reply : Reply) → IsReplyTo request reply ⊎ ¬ IsReplyTo request reply
replied_or request reply = elim (instance_or reply.instance request.instance) [
  | inl same ↦ elim (eqb_tells reply.sequence request.sequence) [
    | inl number ↦ inl (same, number.1)
    | inr number ↦ inr (λ h. number.1 h.1)
  ]
  | inr other ↦ inr (λ h. other h.0)
]

-- ---- one reply more

module _ {C : Type 0} (instance : Instance) (Fits : C → Trace → Type 0) (next : C → Option Request) (old : C) where
  -- the reply to the request that is pending
  took_one : (mid new : C) (replies : List Reply) (talk : Talk) (turn : Turn) (t : TookEach instance Fits next old replies talk mid) → next mid ≡ Some turn.request → turn.passed ≡ t.more
      → IsTurn turn → ((es : Trace) → Fits mid es → IsNumbered instance es turn.request) → ((es : Trace) → Fits mid es → Fits new (exchange turn.request turn.reply turn.emitted ∷ es))
      → TookEach instance Fits next old (replies ++ turn.reply ∷ []) (turn ∷ talk) new
  took_one mid new replies talk turn t pending passed is numbered taken = record {
    went = went_on instance Fits old mid new talk turn t.went is numbered taken;
    more = [];
    each =
        append-nil (read_in (turn ∷ talk)) ∙ ap (λ x. read_in talk ++ (x ++ turn.reply ∷ [])) passed ∙ sym (append_assoc (read_in talk) t.more (turn.reply ∷ []))
        ∙ ap (λ x. x ++ turn.reply ∷ []) t.each;
    passed = passed_none (next new);
    first = first_of_more (sent_in talk) turn.request (next old) (next mid) (next new) pending t.first;
  }

  -- one that isn't to it
  passed_one : (mid new : C) (replies : List Reply) (talk : Talk) (request : Request) (reply : Reply) (t : TookEach instance Fits next old replies talk mid) → next mid ≡ Some request
      → ¬ IsReplyTo request reply → new ≡ mid → TookEach instance Fits next old (replies ++ reply ∷ []) talk new
  passed_one mid new replies talk request reply t pending other same = record {
    went = subst (λ c. Went instance Fits old talk c) (sym same) t.went;
    more = t.more ++ reply ∷ [];
    each = sym (append_assoc (read_in talk) t.more (reply ∷ [])) ∙ ap (λ x. x ++ reply ∷ []) t.each;
    passed = subst (λ n. ArePassed n (t.more ++ reply ∷ [])) (sym (ap next same ∙ pending)) (passed_more request t.more reply (subst (λ n. ArePassed n t.more) pending t.passed) other);
    first = ap (λ n. first_carried (sent_in talk) n) (ap next same) ∙ t.first;
  }

  -- whatever it is to
  pub took_on : (mid new : C) (replies : List Reply) (request : Request) (reply : Reply) (emitted : List Emission) → (talk : Talk) × TookEach instance Fits next old replies talk mid
      → next mid ≡ Some request → FitsFrame requests request → ((es : Trace) → Fits mid es → IsNumbered instance es request)
      → (IsReplyTo request reply → (es : Trace) → Fits mid es → Fits new (exchange request reply emitted ∷ es)) → (¬ AnswersNext (next mid) reply → new ≡ mid)
      → (talk : Talk) × TookEach instance Fits next old (replies ++ reply ∷ []) talk new
  took_on mid new replies request reply emitted t pending fits numbered taken other = elim (replied_or request reply) [
    | inl answers ↦
        let turn : Turn = record { request = request; passed = t.1.more; reply = reply; emitted = emitted } in
        let is : IsTurn turn = record { fits = fits; passed = subst (λ n. ArePassed n t.1.more) pending t.1.passed; answers = answers } in
        (turn ∷ t.0, took_one mid new replies t.0 turn t.1 pending refl is numbered (taken answers))
    | inr another ↦ (t.0, passed_one mid new replies t.0 request reply t.1 pending another (other (λ a. another (subst (λ n. AnswersNext n reply) pending a))))
  ]

  -- where nothing is pending no reply is to anything
  pub took_rest : (mid : C) (replies : List Reply) (count : ℕ) → (talk : Talk) × TookEach instance Fits next old (take count replies) talk mid → next mid ≡ None
      → (talk : Talk) × TookEach instance Fits next old replies talk mid
  took_rest mid replies count t none = (
    t.0,
    record {
      went = t.1.went;
      more = t.1.more ++ drop count replies;
      each = sym (append_assoc (read_in t.0) t.1.more (drop count replies)) ∙ ap (λ x. x ++ drop count replies) t.1.each ∙ take-append-drop count replies;
      passed = subst (λ n. ArePassed n (t.1.more ++ drop count replies)) (sym none) tt;
      first = t.1.first;
    },
  )

  -- a client that didn't change but for what it may stand at
  pub took_same : (mid new : C) (replies : List Reply) → (talk : Talk) × TookEach instance Fits next old replies talk mid → next new ≡ next mid → ((es : Trace) → Fits mid es → Fits new es)
      → (talk : Talk) × TookEach instance Fits next old replies talk new
  took_same mid new replies t same fits = (
    t.0,
    record {
      went = record { turns = t.1.went.turns; numbered = t.1.went.numbered; fits = λ es f. fits (trace_of t.0 ++ es) (t.1.went.fits es f) };
      more = t.1.more;
      each = t.1.each;
      passed = subst (λ n. ArePassed n t.1.more) (sym same) t.1.passed;
      first = ap (λ n. first_carried (sent_in t.0) n) same ∙ t.1.first;
    },
  )

  -- ---- what that gives

  -- from its beginning it stands at the exchanges of the turns
  pub stands_after : (new : C) (replies : List Reply) (talk : Talk) → Fits old [] → TookEach instance Fits next old replies talk new → Fits new (trace_of talk)
  stands_after new replies talk begin t = subst (λ es. Fits new es) (append-nil (trace_of talk)) (t.went.fits [] begin)

  -- what was said on them was said by those replies
  pub came_in : (new : C) (replies : List Reply) (talk : Talk) → TookEach instance Fits next old replies talk new → CameIn replies (trace_of talk)
  came_in new replies talk t = among talk (λ reply c. subst (λ x. Contains x reply) t.each (Contains-append_left (read_in talk) t.more reply c))
    where
      among : (some : Talk) → ((reply : Reply) → Contains (read_in some) reply → Contains replies reply) → CameIn replies (trace_of some)
      among [] h = tt
      among (turn ∷ some) h = (
        (turn.reply, h turn.reply (Contains-append_right (read_in some) (turn.passed ++ turn.reply ∷ []) turn.reply (Contains-push turn.passed turn.reply)), refl),
        among some (λ reply c. h reply (Contains-append_left (read_in some) (turn.passed ++ turn.reply ∷ []) reply c)),
      )

-- what was given out is told by the trace
pub given_is : (talk : Talk) → given_in talk ≡ emitted_in (trace_of talk)
given_is [] = refl
given_is (turn ∷ talk) = ap (λ x. x ++ turn.emitted) (given_is talk)
