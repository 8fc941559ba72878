-- The last reading can be taken back.
use Rattle.std.proofs.Common.{arith, ◌≡◌, ◌≢◌, ◌+◌, ◌++◌, ◌∷◌, [], ℕ, List, length, Option, Some, None, refl, sym, ap, subst, ◌∙◌}
use Rattle.std.proofs.lemmas.Option.{same_Some}
use Rattle.repo_index.specs.declared.facts.Fact.{Fact}
use Rattle.repo_name.specs.declared.rows.LockRow.{LockRow}
use Rattle.repo_name.specs.declared.tokens.Token.{Token}
use Rattle.repo_wire.specs.declared.messages.Ask.{Ask}
use Rattle.repo_wire.specs.declared.messages.Request.{Request}
use Rattle.repo_wire.specs.declared.messages.Say.{Say}
use Rattle.repo_session.specs.Askers.{Asker, Holding}
use Rattle.repo_session.specs.Ends.{AreHeeded}
use Rattle.repo_session.specs.Feeds.{Fed}
use Rattle.repo_session.specs.Jobs.{Rule, task_under, known_under, MayGoOn}
use Rattle.repo_session.specs.Obedience.{holds_whole}
use Rattle.repo_session.specs.Order.{Task, opened, StaysHeld, IsWorking, IsPermitted, May}
use Rattle.repo_session.specs.Readings.{HasNotedFacts, KnowsStill}
use Rattle.repo_session.specs.Sessions.{KnowsAt, SessionAt}
use Rattle.repo_session.specs.Traces.{Exchange, Trace, feeding, silent}
use Rattle.repo_session.specs.declared.catalogs.Catalog.{Catalog}
use Rattle.repo_session.specs.declared.jobs.Step.{Step}
use Rattle.repo_session.specs.declared.lines.Line.{Line}
use Rattle.repo_session.proofs.Heeding.{heeded_before}
use Rattle.repo_session.proofs.Holding.{holds_of}
use Rattle.repo_session.proofs.Sessioning.{wants_of}
use Rattle.repo_backup.specs.PieceBackups.{PieceKnows, PieceReads, PieceRests, PieceUnreads, PieceWants}
use Rattle.repo_backup.specs.PieceRules.{piece_rule}
use Rattle.repo_backup.specs.PieceStates.{CanUnread, IsBegunAnew, IsListedOrGot, IsSameWay, WasRead}
use Rattle.repo_backup.specs.declared.piece_backing.PieceBacking.{PieceBacking}
use Rattle.repo_backup.specs.declared.piece_jobs.PieceJob.{PieceJob}
use Rattle.repo_backup.specs.declared.piece_works.PieceWork.{PieceWork}
use Rattle.repo_backup.proofs.BackupStepping.{anew_after, anew_begun, way_then}

-- whatever it does next, it may want input where that can be taken back
pub wants_more : (j : PieceJob) (who : Asker) (es : Trace) (step : Step) → PieceUnreads j es → MayGoOn piece_rule who (PieceKnows j) (PieceRests j) es step → MayGoOn piece_rule who (PieceKnows j) (PieceWants j) es step
wants_more j who es (Step.Ask ask) unreads h = h
wants_more j who es (Step.Finish outcome) unreads h = h
wants_more j who es Step.Want unreads h = (h.0, (h.1, unreads))
wants_more j who es Step.Away unreads h = h

-- or where it wants none
pub busy_more : (j : PieceJob) (who : Asker) (es : Trace) (step : Step) → step ≢ Step.Want → MayGoOn piece_rule who (PieceKnows j) (PieceRests j) es step → MayGoOn piece_rule who (PieceKnows j) (PieceWants j) es step
busy_more j who es (Step.Ask ask) busy h = h
busy_more j who es (Step.Finish outcome) busy h = h
busy_more j who es Step.Want busy h = absurd (busy refl)
busy_more j who es Step.Away busy h = h

read_way : (c : Catalog) (noted : Option (List Fact)) (w v : PieceWork) (e f : Exchange) (es : Trace) → f.ask ≡ e.ask → IsSameWay w v → CanUnread c noted w (e ∷ es) → CanUnread c noted v (f ∷ es)
read_way c None w v e f es same way h = λ reads. h (subst IsListedOrGot same reads)
read_way c (Some noted) w v e f es same way h = λ reads.
    let r : WasRead c noted w e.ask es = h (subst IsListedOrGot same reads) in
    subst (λ ask. WasRead c noted v ask es) (sym same) (record { old = r.old; facts = r.facts; begun = r.begun; way = way_then r.begun.work w v r.way way; knows = r.knows; none = r.none })

unread_still : (c : Catalog) (noted : Option (List Fact)) (w v : PieceWork) (es : Trace) → IsSameWay w v → CanUnread c noted w es → CanUnread c noted v es
unread_still c noted w v [] way h = h
unread_still c noted w v (e ∷ es) way h = read_way c noted w v e e es refl way h

unread_fed : (c : Catalog) (noted : Option (List Fact)) (w v : PieceWork) (item : Fed) (es : Trace) → IsSameWay w v → CanUnread c noted w es → CanUnread c noted v (feeding item es)
unread_fed c noted w v item [] way h = h
unread_fed c noted w v item (e ∷ es) way h = read_way c noted w v e (record { ask = e.ask; say = e.say; emitted = e.emitted; fed = item ∷ e.fed }) es refl way h

module _ (old new : PieceJob) (a d : PieceBacking) (es : Trace) (there : old.backing ≡ Some a) (now : new.backing ≡ Some d) (catalog : new.catalog ≡ old.catalog) (noted : new.noted ≡ old.noted) (way : IsSameWay a.work d.work) (h : PieceUnreads old es) where
  -- by work that goes by the same config
  pub unreads_still : PieceUnreads new es
  unreads_still b is =
      subst (λ (x : PieceBacking). CanUnread new.catalog new.noted x.work es) (same_Some d b (sym now ∙ is))
      (subst (λ c. CanUnread c new.noted d.work es) (sym catalog) (subst (λ n. CanUnread old.catalog n d.work es) (sym noted) (unread_still old.catalog old.noted a.work d.work es way (h a there))))

  -- and with an item more
  pub unreads_fed : (item : Fed) → PieceUnreads new (feeding item es)
  unreads_fed item b is =
      subst (λ (x : PieceBacking). CanUnread new.catalog new.noted x.work (feeding item es)) (same_Some d b (sym now ∙ is))
      (subst (λ c. CanUnread c new.noted d.work (feeding item es)) (sym catalog) (subst (λ n. CanUnread old.catalog n d.work (feeding item es)) (sym noted) (unread_fed old.catalog old.noted a.work d.work item es way (h a there))))

-- where no facts are kept, and the newest exchange isn't of the reading
pub unreads_none : (j : PieceJob) (e : Exchange) (es : Trace) → j.noted ≡ None → ¬ IsListedOrGot e.ask → PieceUnreads j (e ∷ es)
unreads_none j e es none other b is = subst (λ n. CanUnread j.catalog n b.work (e ∷ es)) (sym none) other

-- ---- it is taken back

module _ (j new : PieceJob) (b d : PieceBacking) (e : Exchange) (es : Trace) (is : j.backing ≡ Some b) (now : new.backing ≡ Some d) (anew : IsBegunAnew b d) (reads : IsListedOrGot e.ask) (h : CanUnread j.catalog j.noted b.work (e ∷ es)) where
  -- where these facts were noted
  pub unread_by : (noted : List Fact) → j.noted ≡ Some noted → ((old : Catalog) → HasNotedFacts old noted j.catalog → KnowsStill old new.catalog) → PieceReads new e.ask es
  unread_by noted some back =
      let r : WasRead j.catalog noted b.work e.ask es = (subst (λ n. CanUnread j.catalog n b.work (e ∷ es)) some h) reads in
      (back r.old r.facts e.ask es r.knows, (d, now, (anew_begun r.begun d es (anew_after r.begun b d r.way anew) r.none.0, r.none.1)))

  -- without facts it isn't so
  pub unread_not : j.noted ≡ None → PieceReads new e.ask es
  unread_not none = absurd ((subst (λ n. CanUnread j.catalog n b.work (e ∷ es)) none h) reads)

working_older : (task : Task) (token : Token) (e : Exchange) (es : Trace) → IsListedOrGot e.ask → IsWorking task token (e ∷ es) → IsWorking task token es
working_older task token e es reads (config, h) = from h.later h.since h.held
  where
    from : (later : Trace) → e ∷ es ≡ later ++ opened task token h.text → StaysHeld later → IsWorking task token es
    from [] since held = let is : e.ask ≡ Ask.Config = ap (λ x. x.ask) (first since) in absurd (subst IsListedOrGot is reads)
      where
        first : e ∷ es ≡ opened task token h.text → e ≡ silent Ask.Config (Say.Bytes h.text)
        first same = cc
    from (x ∷ later) since held = (config, record { later = later; text = h.text; since = rest since; reads = h.reads; known = h.known; held = record { unfenced = held.unfenced.1; unended = held.unended.1 } })
      where
        rest : e ∷ es ≡ x ∷ (later ++ opened task token h.text) → es ≡ later ++ opened task token h.text
        rest same = cc

known_at : (rule : Rule) (holding : Holding) (lock : Option LockRow) (Fresh : Type 0) (Knows : Ask → Trace → Type 0) (ask : Ask) (es : Trace) → IsListedOrGot ask → IsWorking (task_under rule holding.who) holding.token es → Knows ask es
    → KnowsAt rule holding lock Fresh Knows None ask es
known_at rule holding lock Fresh Knows (Ask.List k after) es reads working knows = (working, refl, knows)
known_at rule holding lock Fresh Knows (Ask.Get k n) es reads working knows = (working, refl, knows)
known_at rule holding lock Fresh Knows Ask.Ticket es reads working knows = absurd reads
known_at rule holding lock Fresh Knows (Ask.Lock row) es reads working knows = absurd reads
known_at rule holding lock Fresh Knows (Ask.Refresh t time) es reads working knows = absurd reads
known_at rule holding lock Fresh Knows (Ask.Unlock t) es reads working knows = absurd reads
known_at rule holding lock Fresh Knows Ask.Locks es reads working knows = absurd reads
known_at rule holding lock Fresh Knows (Ask.Range p offset len) es reads working knows = absurd reads
known_at rule holding lock Fresh Knows (Ask.Put t k n x) es reads working knows = absurd reads
known_at rule holding lock Fresh Knows (Ask.Delete t k n) es reads working knows = absurd reads
known_at rule holding lock Fresh Knows Ask.Config es reads working knows = absurd reads
known_at rule holding lock Fresh Knows (Ask.Upgrade t) es reads working knows = absurd reads

-- the session waits for the reply once more
pub session_unread : (rule : Rule) (holding : Holding) (lock : Option LockRow) (Fresh Fresh' : Type 0) (Knows Knows' : Ask → Trace → Type 0) (Wants Wants' : Trace → Type 0) (line : Line) (request : Request) (e : Exchange) (es : Trace)
    → line.next ≡ None → line.outcome ≡ None → request.instance ≡ holding.who.instance → request.sequence ≡ length es + 1 → request.ask ≡ e.ask → IsListedOrGot e.ask → (Wants (e ∷ es) → Knows' e.ask es)
    → SessionAt rule holding lock Fresh Knows Wants line (e ∷ es) → SessionAt rule holding lock Fresh' Knows' Wants' (record line { next = Some request }) es
session_unread rule holding lock Fresh Fresh' Knows Knows' Wants Wants' line request e es next none instance sequence ask reads back s =
    let task = task_under rule holding.who in
    let known = known_under rule holding.who in
    let w = wants_of rule holding lock Fresh Knows Wants line (e ∷ es) next none s in
    let working = working_older task holding.token e es reads w.working in
    let whole = holds_whole task holding.token es (holds_of task holding.token es working) in
    let all = subst (λ fs. AreHeeded known rule.notes line.outcome fs) (holds_whole task holding.token (e ∷ es) (holds_of task holding.token (e ∷ es) w.working)) s.heeded in
    let knows = known_at rule holding lock Fresh' Knows' e.ask es reads working (back w.knows) in
    record {
      instance = s.instance;
      obeys = s.obeys.3;
      heeded = heeded_before known rule.notes line.outcome es whole all.1;
      stands = record {
        next = record {
          instance = instance;
          sequence = sequence;
          may = subst (λ a. May task es a) (sym ask) s.obeys.0;
          permitted = subst (λ a. IsPermitted rule.allows es a) (sym ask) s.obeys.1;
        };
        counted = omega (arith, w.counted);
        knows = subst (λ a. KnowsAt rule holding lock Fresh' Knows' line.outcome a es) (sym ask) (subst (λ o. KnowsAt rule holding lock Fresh' Knows' o e.ask es) (sym none) knows);
      };
    }
