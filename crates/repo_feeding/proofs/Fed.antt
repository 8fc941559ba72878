-- Where a backup that feeds itself stands, one that is fed stands with some items.
use Rattle.std.proofs.Common.{arith, ◌≡◌, ◌⊎◌, ◌+◌, ◌∷◌, [], ℕ, Bool, List, length, Option, Some, None, refl, sym, ap, subst, inl, inr, lit≤, ◌∙◌}
use Rattle.std.proofs.lemmas.Option.{none-some, same_Some}
use Rattle.repo_name.specs.declared.tokens.Token.{Token}
use Rattle.repo_wire.specs.declared.messages.Ask.{Ask}
use Rattle.repo_wire.specs.declared.messages.Request.{Request}
use Rattle.repo_wire.specs.declared.messages.Say.{Say}
use Rattle.repo_session.specs.Askers.{Asker}
use Rattle.repo_session.specs.Ends.{Concludes, MayConclude, NumbersAreSpent, IsCause, MayFollow, AreHeeded, before_unlock, without_unlock}
use Rattle.repo_session.specs.Feeds.{Fed}
use Rattle.repo_session.specs.Obedience.{holds_whole}
use Rattle.repo_session.specs.Order.{Task, Holds, IsPermitted, IsUnlock, IsWork, May, Obeys, ticketed}
use Rattle.repo_session.specs.Traces.{fed_in, Each, Exchange, Trace, giving, silent}
use Rattle.repo_session.specs.Versions.{upto}
use Rattle.repo_session.specs.declared.outcomes.End.{End}
use Rattle.repo_session.specs.declared.outcomes.Outcome.{Outcome}
use Rattle.repo_backup.specs.PieceRules.{PieceAllows, PieceConcludes}
use Rattle.repo_backup.specs.PieceStates.{piece_task}
use Rattle.repo_backup.specs.Items.{NobodyGaveUp, place_of}
use Rattle.repo_feeding.specs.FedObedience.{told_first, way_first}
use Rattle.repo_feeding.specs.FedLaws.{FedClientsAreFed, IsFedClient, StandsAsFed}
use Rattle.repo_feeding.specs.FedRules.{AreWelcome, IsAsTold, IsOnTheWay, FedAllows, FedConcludes, IsFedLate, IsFedSo}
use Rattle.repo_feeding.specs.Unfed.{unfed}
use Rattle.repo_feeding.specs.Unseen.{as_silent, before_so, holds_so, locked_late, so_holds, unfed_late, unfed_length}

-- ---- what holds without what was fed holds with it

nil_so : (fs : Trace) → unfed fs ≡ [] → fs ≡ []
nil_so [] same = refl
nil_so (e ∷ fs) same = absurd (cc)

ticketed_late : (task : Task) (token : Token) (fs : Trace) → IsFedLate fs → unfed fs ≡ ticketed token → fs ≡ ticketed token
ticketed_late task token [] late same = absurd (cc)
ticketed_late task token (e ∷ []) late same =
    let first : giving e.ask e.say e.emitted ≡ silent Ask.Ticket (Say.Token token) = cc in
    let is = as_silent task e Ask.Ticket (Say.Token token) first (unfed_late task e [] late (lit≤ tt)) in
    ap (λ x. x ∷ []) is
ticketed_late task token (e ∷ f ∷ fs) late same = absurd (cc)

so_spent : (fs : Trace) → NumbersAreSpent (unfed fs) → NumbersAreSpent fs
so_spent fs h = omega (arith, h, unfed_length fs)

so_cause : (known : ℕ) (fs : Trace) (end : End) → IsCause known (unfed fs) end → IsCause known fs end
so_cause known [] end h = h
so_cause known (e ∷ fs) end (inl h) = inl h
so_cause known (e ∷ fs) end (inr (is, spent)) = inr (is, so_spent (e ∷ fs) spent)

-- a job may go on after each exchange with what was fed, where it may without it
so_each_follows : (known : ℕ) (notes : Bool) (fs : Trace) → Each (MayFollow known notes) (unfed fs) → Each (MayFollow known notes) fs
so_each_follows known notes [] h = h
so_each_follows known notes (e ∷ fs) h = (h.0, so_each_follows known notes fs h.1)

-- so it heeds all of them
so_heeded : (known : ℕ) (notes : Bool) (outcome : Option Outcome) (fs : Trace) → AreHeeded known notes outcome (unfed fs) → AreHeeded known notes outcome fs
so_heeded known notes outcome [] h = h
so_heeded known notes outcome (e ∷ fs) h = (h.0, so_each_follows known notes fs h.1)

unfed_first : (e : Exchange) (es : Trace) → unfed (e ∷ es) ≡ e ∷ es → giving e.ask e.say e.emitted ≡ e
unfed_first e es same = cc

-- ---- the end of the lock

ends_lock : (a : Ask) → (¬ IsUnlock a) ⊎ IsUnlock a
ends_lock (Ask.Unlock t) = inr tt
ends_lock Ask.Ticket = inl (λ u. u)
ends_lock (Ask.Lock row) = inl (λ u. u)
ends_lock (Ask.Refresh t time) = inl (λ u. u)
ends_lock Ask.Locks = inl (λ u. u)
ends_lock (Ask.List j after) = inl (λ u. u)
ends_lock (Ask.Get j n) = inl (λ u. u)
ends_lock (Ask.Range p offset len) = inl (λ u. u)
ends_lock (Ask.Put t j n x) = inl (λ u. u)
ends_lock (Ask.Delete t j n) = inl (λ u. u)
ends_lock (Ask.Upgrade t) = inl (λ u. u)
ends_lock Ask.Config = inl (λ u. u)

without_older : (a : Ask) (whole older : Trace) → IsUnlock a → without_unlock a whole older ≡ older
without_older (Ask.Unlock t) whole older u = refl
without_older Ask.Ticket whole older u = absurd u
without_older (Ask.Lock row) whole older u = absurd u
without_older (Ask.Refresh t time) whole older u = absurd u
without_older Ask.Locks whole older u = absurd u
without_older (Ask.List j after) whole older u = absurd u
without_older (Ask.Get j n) whole older u = absurd u
without_older (Ask.Range p offset len) whole older u = absurd u
without_older (Ask.Put t j n x) whole older u = absurd u
without_older (Ask.Delete t j n) whole older u = absurd u
without_older (Ask.Upgrade t) whole older u = absurd u
without_older Ask.Config whole older u = absurd u

pub without_none : (a : Ask) (whole older : Trace) → ¬ IsUnlock a → without_unlock a whole older ≡ whole
without_none (Ask.Unlock t) whole older none = absurd (none tt)
without_none Ask.Ticket whole older none = refl
without_none (Ask.Lock row) whole older none = refl
without_none (Ask.Refresh t time) whole older none = refl
without_none Ask.Locks whole older none = refl
without_none (Ask.List j after) whole older none = refl
without_none (Ask.Get j n) whole older none = refl
without_none (Ask.Range p offset len) whole older none = refl
without_none (Ask.Put t j n x) whole older none = refl
without_none (Ask.Delete t j n) whole older none = refl
without_none (Ask.Upgrade t) whole older none = refl
without_none Ask.Config whole older none = refl

whole_before : (task : Task) (es : Trace) (a : Ask) → May task es a → IsUnlock a → before_unlock es ≡ es
whole_before task es (Ask.Unlock t) m u = holds_whole task t es m
whole_before task es Ask.Ticket m u = absurd u
whole_before task es (Ask.Lock row) m u = absurd u
whole_before task es (Ask.Refresh t time) m u = absurd u
whole_before task es Ask.Locks m u = absurd u
whole_before task es (Ask.List j after) m u = absurd u
whole_before task es (Ask.Get j n) m u = absurd u
whole_before task es (Ask.Range p offset len) m u = absurd u
whole_before task es (Ask.Put t j n x) m u = absurd u
whole_before task es (Ask.Delete t j n) m u = absurd u
whole_before task es (Ask.Upgrade t) m u = absurd u
whole_before task es Ask.Config m u = absurd u

no_work : (a : Ask) → IsUnlock a → ¬ IsWork a
no_work (Ask.Unlock t) u work = work
no_work Ask.Ticket u work = absurd u
no_work (Ask.Lock row) u work = absurd u
no_work (Ask.Refresh t time) u work = absurd u
no_work Ask.Locks u work = absurd u
no_work (Ask.List j after) u work = absurd u
no_work (Ask.Get j n) u work = absurd u
no_work (Ask.Range p offset len) u work = absurd u
no_work (Ask.Put t j n x) u work = absurd u
no_work (Ask.Delete t j n) u work = absurd u
no_work (Ask.Upgrade t) u work = absurd u
no_work Ask.Config u work = absurd u

-- ---- some items stand so

module _ (who : Asker) (whole : Option (List Fed)) where
  -- a backup that is fed them obeys
  record Found (es : Trace) : Type 0 where
    fs : Trace
    same : unfed fs ≡ es
    welcome : AreWelcome fs
    late : IsFedLate fs
    so_far : NobodyGaveUp (fed_in fs) → IsOnTheWay whole (place_of (fed_in fs))
    told : IsAsTold whole (place_of (fed_in fs))
    obeys : Obeys (piece_task who) PieceAllows (λ before e. ⊥) fs

  -- and it may ask for this
  record AskedAt (es : Trace) (ask : Ask) : Type 0 where
    found : Found es
    may : May (piece_task who) found.fs ask
    permitted : IsPermitted PieceAllows found.fs ask

  abbrev of_so : (es fs : Trace) → IsFedSo who whole es fs → Found es
  of_so es fs so = record { fs = fs; same = so.same; welcome = so.welcome; late = so.late; so_far = so.so_far; told = so.told; obeys = so.obeys }

  -- this may be asked for, at these exchanges with items
  abbrev AskedAtFs : Trace → Ask → Type 0
  AskedAtFs fs ask = May (piece_task who) fs ask × IsPermitted PieceAllows fs ask

  by_work : (es : Trace) (ask : Ask) → FedAllows who whole es ask → AskedAt es ask
  by_work es ask (fs, so, may, allows) = record { found = of_so es fs so; may = may; permitted = λ work. allows }

  holding : (es : Trace) (token : Token) (f : Found es) → Holds (piece_task who) token es → Holds (piece_task who) token f.fs
  holding es token f h = so_holds (piece_task who) token f.fs f.late (subst (λ x. Holds (piece_task who) token x) (sym f.same) h)

  unlock_may : (es : Trace) (f : Found es) (ask : Ask) → May (piece_task who) es ask → IsUnlock ask → May (piece_task who) f.fs ask
  unlock_may es f (Ask.Unlock token) may u = holding es token f may
  unlock_may es f Ask.Ticket may u = absurd u
  unlock_may es f (Ask.Lock row) may u = absurd u
  unlock_may es f (Ask.Refresh t time) may u = absurd u
  unlock_may es f Ask.Locks may u = absurd u
  unlock_may es f (Ask.List j after) may u = absurd u
  unlock_may es f (Ask.Get j n) may u = absurd u
  unlock_may es f (Ask.Range p offset len) may u = absurd u
  unlock_may es f (Ask.Put t j n x) may u = absurd u
  unlock_may es f (Ask.Delete t j n) may u = absurd u
  unlock_may es f (Ask.Upgrade t) may u = absurd u
  unlock_may es f Ask.Config may u = absurd u

  asked : (es : Trace) (f : Found es) (ask : Ask) → May (piece_task who) es ask → IsPermitted (FedAllows who whole) es ask → AskedAt es ask
  asked es f Ask.Ticket may permitted = record { found = f; may = nil_so f.fs (f.same ∙ may); permitted = λ work. absurd work }
  asked es f (Ask.Lock row) may permitted = record { found = f; may = (may.0, ticketed_late (piece_task who) may.0 f.fs f.late (f.same ∙ may.1), may.2); permitted = λ work. absurd work }
  asked es f Ask.Config may permitted = record { found = f; may = (may.0, locked_late (piece_task who) may.0 f.fs f.late (f.same ∙ may.1)); permitted = λ work. absurd work }
  asked es f (Ask.Unlock token) may permitted = record { found = f; may = holding es token f may; permitted = λ work. absurd work }
  asked es f (Ask.Refresh t time) may permitted = absurd may
  asked es f Ask.Locks may permitted = absurd may
  asked es f (Ask.List j after) may permitted = by_work es (Ask.List j after) (permitted tt)
  asked es f (Ask.Get j n) may permitted = by_work es (Ask.Get j n) (permitted tt)
  asked es f (Ask.Range p offset len) may permitted = by_work es (Ask.Range p offset len) (permitted tt)
  asked es f (Ask.Put t j n x) may permitted = by_work es (Ask.Put t j n x) (permitted tt)
  asked es f (Ask.Delete t j n) may permitted = by_work es (Ask.Delete t j n) (permitted tt)
  asked es f (Ask.Upgrade t) may permitted = by_work es (Ask.Upgrade t) (permitted tt)

  -- one exchange more
  abbrev on_from : (e : Exchange) (es : Trace) → unfed (e ∷ es) ≡ e ∷ es → (e.emitted ≡ []) ⊎ ⊥ → AskedAt es e.ask → Found (e ∷ es)
  on_from e es same quiet a =
      let is = unfed_first e es same in
      record {
        fs = giving e.ask e.say e.emitted ∷ a.found.fs;
        same = λ i. is i ∷ a.found.same i;
        welcome = (tt, a.found.welcome);
        late = (λ some. absurd (some refl), a.found.late);
        so_far = a.found.so_far;
        told = a.found.told;
        obeys = (a.may, a.permitted, quiet, a.found.obeys);
      }

  found_at : (es : Trace) → unfed es ≡ es → Obeys (piece_task who) (FedAllows who whole) (λ before e. ⊥) es → Found es
  found_at [] same h = record { fs = []; same = refl; welcome = tt; late = tt; so_far = λ kept. way_first whole; told = told_first whole; obeys = h }
  found_at (e ∷ es) same h =
      let rest : unfed es ≡ es = cc in
      on_from e es same h.2 (asked es (found_at es rest h.3) e.ask h.0 h.1)

  -- ---- how it ended

  -- the items by which it ended so
  record EndedAt (es : Trace) (o : Outcome) : Type 0 where
    found : Found es
    concluded : Concludes (upto (piece_task who).versions) PieceConcludes found.fs o

  ended_at : (es : Trace) (o : Outcome) → Found es → Concludes (upto (piece_task who).versions) (FedConcludes who whole) es o → EndedAt es o
  ended_at es (Outcome.Ended end) f (inl cause) = record { found = f; concluded = inl (so_cause (upto (piece_task who).versions) f.fs end (subst (λ x. IsCause (upto (piece_task who).versions) x end) (sym f.same) cause)) }
  ended_at es (Outcome.Ended end) f (inr own) = record { found = of_so es own.0 own.1; concluded = inr own.2 }
  ended_at es (Outcome.Stored name blobs bytes) f own = record { found = of_so es own.0 own.1; concluded = own.2 }
  ended_at es (Outcome.Complete entries) f own = record { found = of_so es own.0 own.1; concluded = own.2 }
  ended_at es (Outcome.Listed snapshots) f own = record { found = of_so es own.0 own.1; concluded = own.2 }
  ended_at es (Outcome.Forgotten names) f own = record { found = of_so es own.0 own.1; concluded = own.2 }
  ended_at es (Outcome.Pruned packs bytes) f own = record { found = of_so es own.0 own.1; concluded = own.2 }
  ended_at es (Outcome.Clean snapshots indexes packs blobs) f own = record { found = of_so es own.0 own.1; concluded = own.2 }
  ended_at es (Outcome.Faults faults) f own = record { found = of_so es own.0 own.1; concluded = own.2 }
  ended_at es Outcome.Upgraded f own = record { found = of_so es own.0 own.1; concluded = own.2 }

  -- ---- where it stands

  abbrev Ends : Trace → Outcome → Type 0
  Ends fs o = MayConclude (upto (piece_task who).versions) (piece_task who).notes PieceConcludes (before_unlock fs) o

  stands : (next : Option Request) (outcome : Option Outcome) (es : Trace) (f : Found es) → IsFedClient who whole next outcome es → ((request : Request) → next ≡ Some request → AskedAtFs f.fs request.ask) → ((o : Outcome) → outcome ≡ Some o → Ends f.fs o)
      → StandsAsFed who whole next outcome es
  stands next outcome es f h pending concluded = record {
    fs = f.fs;
    same = f.same;
    welcome = f.welcome;
    so_far = f.so_far;
    told = f.told;
    fed = record {
      obeys = f.obeys;
      pending = λ r is. (let n = h.pending r is in let a = pending r is in record {
        instance = n.instance;
        sequence = n.sequence ∙ ap (λ l. l + 1) (ap length (sym f.same) ∙ unfed_length f.fs);
        may = a.0;
        permitted = a.1;
      });
      settled = λ none no. absurd (h.settled none no);
      concluded = concluded;
      released = λ none is token holds. so_spent f.fs (subst NumbersAreSpent (sym f.same) (h.released none is token (subst (λ x. Holds (piece_task who) token x) f.same (holds_so (piece_task who) token f.fs holds))));
      heeded = so_heeded (upto (piece_task who).versions) (piece_task who).notes outcome (before_unlock f.fs)
          (subst (λ x. AreHeeded (upto (piece_task who).versions) (piece_task who).notes outcome x) (before_so f.fs) (subst (λ x. AreHeeded (upto (piece_task who).versions) (piece_task who).notes outcome (before_unlock x)) (sym f.same) h.heeded));
      beside = h.beside;
      ending = h.ending;
    };
  }

  -- the end of the lock is pending
  unlocking : (request : Request) (outcome : Option Outcome) (es : Trace) → unfed es ≡ es → IsFedClient who whole (Some request) outcome es → IsUnlock request.ask → StandsAsFed who whole (Some request) outcome es
  unlocking request None es same h u = absurd (h.ending request refl u refl)
  unlocking request (Some o) es same h u =
      let n = h.pending request refl in
      let here : before_unlock es ≡ es = whole_before (piece_task who) es request.ask n.may u in
      let ended = ended_at es o (found_at es same h.obeys) (subst (λ x. Concludes (upto (piece_task who).versions) (FedConcludes who whole) x o) here (h.concluded o refl)) in
      let f = ended.found in
      let may = unlock_may es f request.ask n.may u in
      let before : before_unlock f.fs ≡ f.fs = whole_before (piece_task who) f.fs request.ask may u in
      stands (Some request) (Some o) es f h (λ r is. subst (λ x. AskedAtFs f.fs x.ask) (same_Some request r is) (may, λ work. absurd (no_work request.ask u work)))
      (λ x is. subst (λ y. Ends f.fs y) (same_Some o x is) (subst (λ t. Concludes (upto (piece_task who).versions) PieceConcludes t o) (sym before) ended.concluded))

  -- another request is
  waiting : (request : Request) (outcome : Option Outcome) (es : Trace) → unfed es ≡ es → IsFedClient who whole (Some request) outcome es → ¬ IsUnlock request.ask → StandsAsFed who whole (Some request) outcome es
  waiting request (Some o) es same h other = absurd (other (h.beside request refl (λ e. absurd (cc))))
  waiting request None es same h other =
      let n = h.pending request refl in
      let a = asked es (found_at es same h.obeys) request.ask n.may n.permitted in
      stands (Some request) None es a.found h (λ r is. subst (λ x. AskedAtFs a.found.fs x.ask) (same_Some request r is) (a.may, a.permitted)) (λ x is. absurd (none-some x is))

  -- the lock was ended
  unlocked_now : (e : Exchange) (o : Outcome) (es : Trace) → unfed (e ∷ es) ≡ e ∷ es → IsFedClient who whole None (Some o) (e ∷ es) → IsUnlock e.ask → StandsAsFed who whole None (Some o) (e ∷ es)
  unlocked_now e o es same h u =
      let rest : unfed es ≡ es = cc in
      let ended = ended_at es o (found_at es rest h.obeys.3) (subst (λ x. Concludes (upto (piece_task who).versions) (FedConcludes who whole) x o) (without_older e.ask (e ∷ es) es u) (h.concluded o refl)) in
      let f = ended.found in
      let may = unlock_may es f e.ask h.obeys.0 u in
      let now = on_from e es same h.obeys.2 (record { found = f; may = may; permitted = λ work. absurd (no_work e.ask u work) }) in
      stands None (Some o) (e ∷ es) now h (λ r is. absurd (none-some r is))
      (λ x is. subst (λ y. Ends now.fs y) (same_Some o x is) (subst (λ t. Concludes (upto (piece_task who).versions) PieceConcludes t o) (sym (without_older e.ask now.fs f.fs u)) ended.concluded))

  -- it wasn't
  left_now : (e : Exchange) (o : Outcome) (es : Trace) → unfed (e ∷ es) ≡ e ∷ es → IsFedClient who whole None (Some o) (e ∷ es) → ¬ IsUnlock e.ask → StandsAsFed who whole None (Some o) (e ∷ es)
  left_now e o es same h other =
      let ended = ended_at (e ∷ es) o (found_at (e ∷ es) same h.obeys) (subst (λ x. Concludes (upto (piece_task who).versions) (FedConcludes who whole) x o) (without_none e.ask (e ∷ es) es other) (h.concluded o refl)) in
      let f = ended.found in
      stands None (Some o) (e ∷ es) f h (λ r is. absurd (none-some r is))
      (λ x is. subst (λ y. Ends f.fs y) (same_Some o x is) (subst (λ t. Concludes (upto (piece_task who).versions) PieceConcludes t o) (sym (no_end e es f.fs f.same other)) ended.concluded))
    where
      no_end : (e : Exchange) (es fs : Trace) → unfed fs ≡ e ∷ es → ¬ IsUnlock e.ask → before_unlock fs ≡ fs
      no_end e es [] is none = refl
      no_end e es (x ∷ fs) is none =
          let first : giving x.ask x.say x.emitted ≡ e = cc in
          let ask : e.ask ≡ x.ask = ap (λ (y : Exchange). y.ask) (sym first) in
          without_none x.ask (x ∷ fs) fs (subst (λ a. ¬ IsUnlock a) ask none)

  by_trace : (o : Outcome) (es : Trace) → unfed es ≡ es → IsFedClient who whole None (Some o) es → StandsAsFed who whole None (Some o) es
  by_trace o [] same h =
      let ended = ended_at [] o (found_at [] same h.obeys) (h.concluded o refl) in
      let f = ended.found in
      let none : f.fs ≡ [] = nil_so f.fs f.same in
      stands None (Some o) [] f h (λ r is. absurd (none-some r is))
      (λ x is. subst (λ y. Ends f.fs y) (same_Some o x is) (subst (λ t. Concludes (upto (piece_task who).versions) PieceConcludes t o) (none ∙ sym (ap before_unlock none)) ended.concluded))
  by_trace o (e ∷ es) same h = by_end (ends_lock e.ask)
    where
      by_end : (¬ IsUnlock e.ask) ⊎ IsUnlock e.ask → StandsAsFed who whole None (Some o) (e ∷ es)
      by_end (inl other) = left_now e o es same h other
      by_end (inr u) = unlocked_now e o es same h u

  by_next : (next : Option Request) (outcome : Option Outcome) (es : Trace) → unfed es ≡ es → IsFedClient who whole next outcome es → StandsAsFed who whole next outcome es
  by_next None None es same h = absurd (h.settled refl refl)
  by_next None (Some o) es same h = by_trace o es same h
  by_next (Some request) outcome es same h = by_ask (ends_lock request.ask)
    where
      by_ask : (¬ IsUnlock request.ask) ⊎ IsUnlock request.ask → StandsAsFed who whole (Some request) outcome es
      by_ask (inl other) = waiting request outcome es same h other
      by_ask (inr u) = unlocking request outcome es same h u

pub fed_clients : FedClientsAreFed
fed_clients who whole next outcome es same h = by_next who whole next outcome es same h
