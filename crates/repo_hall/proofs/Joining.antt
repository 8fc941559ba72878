-- Guests and the clients at the other end.
use Rattle.std.proofs.Common.{◌≡◌, ◌++◌, ◌∷◌, [], ℕ, List, Option, Some, None, refl, sym, ap, subst, inl, inr, append_assoc, ◌∙◌}
use Rattle.std.proofs.lemmas.List.{append_cancel_left}
use Rattle.repo_wire.specs.declared.messages.Reply.{Reply}
use Rattle.repo_wire.specs.declared.messages.Request.{Request}
use Rattle.repo_wire.specs.Messages.{requests, replies}
use Rattle.repo_wire.specs.Stream.{FitsFrame}
use Rattle.repo_wire.proofs.Replies.{replies_one}
use Rattle.repo_wire.proofs.Requests.{requests_one}
use Rattle.repo_store.specs.Serving.{plain, shown}
use Rattle.repo_session.specs.Clients.{IsReplyTo}
use Rattle.repo_session.specs.Joined.{AreFirst, IsSaid, IsSendable}
use Rattle.repo_session.specs.Talks.{Turn, Talk, IsTurn, Said, sent_in, taken_in, read_in}
use Rattle.repo_session.specs.Traces.{Each}
use Rattle.repo_session.proofs.Joining.{first_frames, each_all, pending_in, asked_frames, each_on, sent_fit, pending_fits}
use Rattle.repo_hall.specs.Happenings.{Stay, AreRepliesTo, IsStay}
use Rattle.repo_hall.specs.Joined.{GuestJoined, AtMostPending, TalksAlong, JoinedHallIsARun}

-- what the answers to a guest have left once they made a talk: these requests and replies
record Made (talk : Talk) (asked : List Request) (given further : List Reply) : Type 0 where
  read : read_in talk ≡ taken_in talk
  left : List Request
  asked_are : asked ≡ sent_in talk ++ left
  given_are : given ≡ taken_in talk ++ further
  pairs : AreRepliesTo left further

-- the next answer is the talk's: none was passed over
next_turn : (turn : Turn) (talk : Talk) (asked : List Request) (given further : List Reply) (tail unread : List Request) → IsTurn turn
    → sent_in talk ++ turn.request ∷ tail ≡ asked ++ unread → Made talk asked given (turn.passed ++ turn.reply ∷ further) → Made (turn ∷ talk) asked given further
next_turn turn talk asked given further tail unread is sent made =
    let same : turn.request ∷ tail ≡ made.left ++ unread = append_cancel_left (sent_in talk) (turn.request ∷ tail) (made.left ++ unread)
    (sent ∙ ap (λ s. s ++ unread) made.asked_are ∙ append_assoc (sent_in talk) made.left unread) in
    step made.left turn.passed refl refl same made.pairs is.passed where
      step : (left : List Request) (passed : List Reply) → made.left ≡ left → turn.passed ≡ passed → turn.request ∷ tail ≡ left ++ unread → AreRepliesTo left (passed ++ turn.reply ∷ further)
          → Each (λ reply. ¬ IsReplyTo turn.request reply) passed → Made (turn ∷ talk) asked given further
      step [] [] l p same pairs others = absurd pairs
      step [] (r ∷ rs) l p same pairs others = absurd pairs
      step (q ∷ qs) (r ∷ rs) l p same pairs others =
          let head : turn.request ≡ q = cc in
          let P : Request → Type 0 = λ x. IsReplyTo x r in
          absurd (others.0 (subst P (sym head) pairs.0))
      step (q ∷ qs) [] l p same pairs others =
          let head : q ≡ turn.request = cc in
          record {
            read = ap (λ x. x ++ (turn.passed ++ turn.reply ∷ [])) made.read ∙ ap (λ x. taken_in talk ++ (x ++ turn.reply ∷ [])) p;
            left = qs;
            asked_are = made.asked_are ∙ ap (λ x. sent_in talk ++ x) l ∙ ap (λ x. sent_in talk ++ x ∷ qs) head ∙ sym (append_assoc (sent_in talk) (turn.request ∷ []) qs);
            given_are = made.given_are ∙ ap (λ x. taken_in talk ++ (x ++ turn.reply ∷ further)) p ∙ sym (append_assoc (taken_in talk) (turn.reply ∷ []) further);
            pairs = pairs.1;
          }

-- answers whose requests begin as those of a talk, and whose replies begin as those that were read, made the talk
made : (talk : Talk) (asked : List Request) (given further : List Reply) (tail unread : List Request) → Each IsTurn talk
    → sent_in talk ++ tail ≡ asked ++ unread → given ≡ read_in talk ++ further → AreRepliesTo asked given → Made talk asked given further
made [] asked given further tail unread turns sent read pairs =
    let P : List Reply → Type 0 = λ x. AreRepliesTo asked x in
    record { read = refl; left = asked; asked_are = refl; given_are = read; pairs = subst P read pairs }
made (turn ∷ talk) asked given further tail unread turns sent read pairs =
    let before = made talk asked given (turn.passed ++ turn.reply ∷ further) (turn.request ∷ tail) unread turns.1
    (sym (append_assoc (sent_in talk) (turn.request ∷ []) tail) ∙ sent)
    (read ∙ append_assoc (read_in talk) (turn.passed ++ turn.reply ∷ []) further ∙ ap (λ x. read_in talk ++ x) (append_assoc turn.passed (turn.reply ∷ []) further)) pairs in
    next_turn turn talk asked given further tail unread turns.0 sent_here before where
      sent_here : sent_in talk ++ turn.request ∷ tail ≡ asked ++ unread
      sent_here = sym (append_assoc (sent_in talk) (turn.request ∷ []) tail) ∙ sent

-- what is left is at most the request that is pending
left_over : (next : Option Request) (left unread : List Request) (further : List Reply) → pending_in next ≡ left ++ unread → AreRepliesTo left further → AtMostPending next left further
left_over next [] unread [] h pairs = inl (refl, refl)
left_over next [] unread (r ∷ rs) h pairs = absurd pairs
left_over next (q ∷ qs) unread [] h pairs = absurd pairs
left_over None (q ∷ qs) unread (r ∷ rs) h pairs = absurd (cc)
left_over (Some request) (q ∷ p ∷ qs) unread (r ∷ rs) h pairs = absurd (cc)
left_over (Some request) (q ∷ []) unread (r ∷ s ∷ rs) h pairs = absurd pairs.1
left_over (Some request) (q ∷ []) unread (r ∷ []) h pairs =
    let head : q ≡ request = cc in
    let P : Request → Type 0 = λ x. IsReplyTo x r in
    inr (request, r, refl, subst P head pairs.0, ap (λ x. x ∷ []) head, refl)

-- what a client that is joined to a guest said
talks_along : (said : Said) (next : Option Request) (s : Stay) → IsStay s → IsSaid said → IsSendable next → GuestJoined said next s → TalksAlong said next s
talks_along said next s is said_is sendable joined =
    let P : List ℕ → Type 0 = λ x. AreFirst s.bytes x in
    let heard : AreFirst said.bytes (shown plain s.replies) =
    (joined.told.0 ++ is.told.0, is.told.1 ∙ ap (λ x. x ++ is.told.0) joined.told.1 ∙ append_assoc said.bytes joined.told.0 is.told.0) in
    let asked = first_frames requests requests_one s.bytes s.asked is.stream.0 (sent_in said.talk ++ pending_in next) is.stream.1
    (each_on (FitsFrame requests) (sent_in said.talk) (pending_in next) (sent_fit said.talk said_is.0) (pending_fits next sendable)) (subst P (asked_frames said.talk next) joined.asked) in
    let told = first_frames replies replies_one said.bytes (read_in said.talk ++ said.more) said_is.1.0 s.replies said_is.1.1 (each_all (FitsFrame replies) s.replies is.fits) heard in
    let m = made said.talk s.asked s.replies (said.more ++ told.0) (pending_in next) asked.0 said_is.0 asked.1
    (told.1 ∙ append_assoc (read_in said.talk) said.more told.0) is.answers in
    let rest : pending_in next ≡ m.left ++ asked.0 = append_cancel_left (sent_in said.talk) (pending_in next) (m.left ++ asked.0)
    (asked.1 ∙ ap (λ x. x ++ asked.0) m.asked_are ∙ append_assoc (sent_in said.talk) m.left asked.0) in
    record {
      read = m.read;
      left = m.left;
      further = said.more ++ told.0;
      asked = m.asked_are;
      replies = m.given_are;
      pending = left_over next m.left asked.0 (said.more ++ told.0) rest m.pairs;
    }

pub joined_hall : JoinedHallIsARun
joined_hall from to failed failing log hosted parties =
    (hosted.run, λ k. talks_along (parties k).said (parties k).next _ (hosted.stays k) (parties k).is_said (parties k).sendable (parties k).joined)
