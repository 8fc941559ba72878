-- A connection whose ends go on by what goes over it.
use Rattle.std.proofs.Common.{◌++◌, ◌∷◌, [], ℕ, List, Option, Some, None, Result, Err, refl, sym, ap, subst, lit≤, append_assoc, ◌∙◌}
use Rattle.std.proofs.lemmas.List.{append-nil}
use Rattle.std.specs.Io.KnownBytes.{Appends, Consumes}
use Rattle.std.proofs.KnownBytes.{Appends-nil, Appends-trans, Consumes-nil, Consumes-trans}
use Rattle.repo_wire.specs.declared.messages.Reply.{Reply}
use Rattle.repo_wire.specs.declared.messages.Request.{Request}
use Rattle.repo_wire.specs.Messages.{requests}
use Rattle.repo_wire.specs.Stream.{FitsFrame}
use Rattle.repo_store.specs.Channels.{Passage, heard, said, Passes, heard_in, said_in}
use Rattle.repo_store.proofs.ChannelLemmas.{heard_join, said_join}
use Rattle.repo_session.specs.declared.connections.Connection.{Connection}
use Rattle.repo_session.specs.declared.driving.DriveError.{DriveError}
use Rattle.repo_session.specs.Turns.{AsksOver}
use Rattle.repo_session.proofs.Talking.{silent, unasked, once_asked, went_nowhere, whole_part}
use Rattle.repo_dial.specs.Ends.{ConnectionEnds, Records, GoesBy}
use Rattle.repo_dial.specs.Dialing.{AsksOnce, Call, Driven, DrivenOver}

-- ---- what went over a connection

records_none : (a : Option (List Passage)) → Records a [] a
records_none None = tt
records_none (Some passages) = refl

records_both : (a b c : Option (List Passage)) (earlier later : List Passage) → Records a earlier b → Records b later c → Records a (later ++ earlier) c
records_both a b None earlier later p q = tt
records_both a None (Some z) earlier later p q = absurd q
records_both None (Some y) (Some z) earlier later p q = absurd p
records_both (Some x) (Some y) (Some z) earlier later p q = q ∙ ap (λ l. later ++ l) p ∙ sym (append_assoc later earlier x)

-- nothing
pub goes_nowhere : (a : ConnectionEnds) → GoesBy a [] a
goes_nowhere a = record { read = Consumes-nil a.ahead; sent = Appends-nil a.sent; recorded = records_none a.passages }

-- some passages, and more
pub goes_both : (a b c : ConnectionEnds) (earlier later : List Passage) → GoesBy a earlier b → GoesBy b later c → GoesBy a (later ++ earlier) c
goes_both a b c earlier later p q = record {
  read = subst (λ x. Consumes a.ahead c.ahead x) (sym (heard_join later earlier)) (Consumes-trans a.ahead b.ahead c.ahead (heard_in earlier) (heard_in later) p.read q.read);
  sent = subst (λ x. Appends a.sent c.sent x) (sym (said_join later earlier)) (Appends-trans a.sent b.sent c.sent (said_in earlier) (said_in later) p.sent q.sent);
  recorded = records_both a.passages b.passages c.passages earlier later p.recorded q.recorded;
}

module _ {E : Type 0} (Hears Says : E → List ℕ → E → Type 0) (known : E → ConnectionEnds) (hears_on : (a : E) (bytes : List ℕ) (b : E) → Hears a bytes b → GoesBy (known a) (heard bytes ∷ []) (known b))
    (says_on : (a : E) (bytes : List ℕ) (b : E) → Says a bytes b → GoesBy (known a) (said bytes ∷ []) (known b)) where
  -- all that passed
  pub goes_over : (old new : E) (passages : List Passage) → Passes Hears Says old passages new → GoesBy (known old) passages (known new)
  goes_over old new [] p = subst (λ e. GoesBy (known old) [] (known e)) (sym p) (goes_nowhere (known old))
  goes_over old new (heard bytes ∷ passages) p = goes_both (known old) (known p.0) (known new) passages (heard bytes ∷ []) (goes_over old p.0 passages p.1) (hears_on p.0 bytes new p.2)
  goes_over old new (said bytes ∷ passages) p = goes_both (known old) (known p.0) (known new) passages (said bytes ∷ []) (goes_over old p.0 passages p.1) (says_on p.0 bytes new p.2)

  -- one request was asked
  pub asked_once : (request : Request) → FitsFrame requests request → (old : E) (result : Result Reply DriveError) (connection : Connection) (new : E) → AsksOver Hears Says [] [] request old result connection new
      → AsksOnce request (known old) result (known new)
  asked_once request fits old result connection new n =
      let all = heard_in n.passages in
      let s = once_asked request fits result all n.passed connection (Some all) (Some []) (Some []) (Some (said_in n.passages)) (sym (append-nil all)) n.past n.asks in
      (n.passages, s.0, record { goes = goes_over old new n.passages n.passes; in_turn = n.in_turn; bytes = sym (s.1 ∙ append-nil s.0.bytes); gives = s.2 })

-- ---- without memory

-- nothing was asked
pub not_asked : (request : Request) (came : ConnectionEnds) → AsksOnce request came (Err DriveError.Memory) came
not_asked request came = ([], silent, record { goes = goes_nowhere came; in_turn = tt; bytes = refl; gives = unasked request (Some []) })

-- a client wasn't driven
abbrev pub no_call : ConnectionEnds → Call
no_call came = record { came = came; passages = []; said = silent; left = came; farewell = None }

pub not_driven : {C J : Type 0} (d : Driven C J) (client : C) (came : ConnectionEnds) → DrivenOver d client (no_call came) (Err DriveError.Memory) client
not_driven d client came = record {
  over = record { goes = goes_nowhere came; in_turn = tt; bytes = refl };
  drives = (went_nowhere (d.own (d.job client)) d.fits client, ([], refl), whole_part (Some []) (Some []) [] (d.next client) (Appends-nil (Some [])), refl, lit≤ tt);
  same = refl;
  leaves = refl;
  ends = tt;
}
