-- What was fed isn't seen by what is said of the exchanges: what holds of them with it holds of them without it.
use Rattle.std.specs.Prelude.{◌≡◌, ◌≢◌, ◌≤◌, ◌++◌, ◌∷◌, [], ℕ, Bool, true, List, cond, length, Option, None}
use Rattle.std.proofs.Common.{refl, sym, ap, subst, suc, inl, inr, arith, lit≤, ◌∙◌}
use Rattle.repo_name.specs.declared.kinds.Kind.{Kind}
use Rattle.repo_name.specs.declared.names.Name.{Name}
use Rattle.repo_name.specs.declared.tokens.Token.{Token}
use Rattle.repo_wire.specs.declared.messages.Ask.{Ask}
use Rattle.repo_wire.specs.declared.messages.Say.{Say}
use Rattle.repo_index.specs.declared.facts.Fact.{Fact}
use Rattle.repo_store.specs.Pages.{Has, NamesAscend}
use Rattle.repo_session.specs.Feeds.{Fed}
use Rattle.repo_session.specs.Ends.{NumbersAreSpent, IsCause, MayFollow, AreHeeded, without_unlock, before_unlock}
use Rattle.repo_session.specs.Order.{Task, locked, lock_row, opened, IsUnfenced, IsNoUnlock, StaysHeld, Holds, IsWorking, IsNextPage, MayGet, MayRange, May, last_of}
use Rattle.repo_session.specs.Traces.{Each, Exchange, Trace, Exchanged, giving, silent, names_in, page_names, is_complete, is_last_page, Rise, Lists, ReadFact}
use Rattle.repo_session.specs.declared.outcomes.End.{End}
use Rattle.repo_session.specs.declared.outcomes.Outcome.{Outcome}
use Rattle.repo_feeding.specs.FedRules.{IsFedLate}
use Rattle.repo_feeding.specs.Unfed.{unfed}

-- ---- lists

pub unfed_length : (es : Trace) → length (unfed es) ≡ length es
unfed_length [] = refl
unfed_length (e ∷ es) = ap suc (unfed_length es)

pub unfed_both : (later es : Trace) → unfed (later ++ es) ≡ unfed later ++ unfed es
unfed_both [] es = refl
unfed_both (e ∷ later) es = ap (λ fs. giving e.ask e.say e.emitted ∷ fs) (unfed_both later es)

pub exchanged_so : (es : Trace) (ask : Ask) (say : Say) → Exchanged es ask say → Exchanged (unfed es) ask say
exchanged_so [] ask say h = h
exchanged_so (e ∷ es) ask say (inl h) = inl h
exchanged_so (e ∷ es) ask say (inr h) = inr (exchanged_so es ask say h)

pub so_exchanged : (es : Trace) (ask : Ask) (say : Say) → Exchanged (unfed es) ask say → Exchanged es ask say
so_exchanged [] ask say h = h
so_exchanged (e ∷ es) ask say (inl h) = inl h
so_exchanged (e ∷ es) ask say (inr h) = inr (so_exchanged es ask say h)

pub names_so : (k : Kind) (es : Trace) → names_in k (unfed es) ≡ names_in k es
names_so k [] = refl
names_so k (e ∷ es) = ap (λ ns. ns ++ page_names k e.ask e.say) (names_so k es)

pub complete_so : (k : Kind) (es : Trace) → is_complete k (unfed es) ≡ is_complete k es
complete_so k [] = refl
complete_so k (e ∷ es) = ap (λ b. cond (is_last_page k e.ask e.say) true b) (complete_so k es)

-- ---- what was read

pub rise_so : (k : Kind) (es : Trace) → Rise k es → Rise k (unfed es)
rise_so k es h = record {
  ascend = subst (λ ns. NamesAscend None ns) (sym (names_so k es)) h.ascend;
  moves = λ after x. h.moves after (so_exchanged es (Ask.List k after) (Say.Names true []) x);
}

lists_so : (es : Trace) (k : Kind) (n : Name) → Lists es k n → Lists (unfed es) k n
lists_so es k n h = subst (λ ns. Has ns n) (sym (names_so k es)) h

pub fact_so : (es : Trace) (fact : Fact) → ReadFact es fact → ReadFact (unfed es) fact
fact_so es fact h = record { index = h.index; text = h.text; read = (exchanged_so es (Ask.Get Kind.Index h.index) (Say.Bytes h.text) h.read.0, h.read.1); says = h.says }

-- ---- the lock

unfenced_so : (later : Trace) → Each IsUnfenced later → Each IsUnfenced (unfed later)
unfenced_so [] h = h
unfenced_so (e ∷ later) h = (h.0, unfenced_so later h.1)

unended_so : (later : Trace) → Each IsNoUnlock later → Each IsNoUnlock (unfed later)
unended_so [] h = h
unended_so (e ∷ later) h = (h.0, unended_so later h.1)

held_so : (later : Trace) → StaysHeld later → StaysHeld (unfed later)
held_so later h = record { unfenced = unfenced_so later h.unfenced; unended = unended_so later h.unended }

module _ (task : Task) where
  pub holds_so : (token : Token) (es : Trace) → Holds task token es → Holds task token (unfed es)
  holds_so token es h = record { later = unfed h.later; since = ap unfed h.since ∙ unfed_both h.later (locked task token); held = held_so h.later h.held }

  working_so : (token : Token) (es : Trace) → IsWorking task token es → IsWorking task token (unfed es)
  working_so token es (config, h) =
      (config, record { later = unfed h.later; text = h.text; since = ap unfed h.since ∙ unfed_both h.later (opened task token h.text); reads = h.reads; known = h.known; held = held_so h.later h.held })

  next_page_so : (k : Kind) (after : Option Name) (es : Trace) → IsNextPage k after es → IsNextPage k after (unfed es)
  next_page_so k after es h = record { rise = rise_so k es h.rise; incomplete = complete_so k es ∙ h.incomplete; last = h.last ∙ sym (ap last_of (names_so k es)) }

  may_get_so : (k : Kind) (n : Name) (es : Trace) → MayGet task k n es → MayGet task k n (unfed es)
  may_get_so k n es (inl (rise, lists)) = inl (rise_so k es rise, lists_so es k n lists)
  may_get_so k n es (inr h) = inr h

  may_range_so : (pack : Name) (offset len : ℕ) (es : Trace) → MayRange pack offset len es → MayRange pack offset len (unfed es)
  may_range_so pack offset len es h = (h.0, fact_so es h.0 h.1, h.2, h.3, h.4)

  -- what may be asked
  pub may_so : (es : Trace) (ask : Ask) → May task es ask → May task (unfed es) ask
  may_so es Ask.Ticket h = ap unfed h
  may_so es (Ask.Lock row) h = (h.0, ap unfed h.1, h.2)
  may_so es Ask.Config h = (h.0, ap unfed h.1)
  may_so es (Ask.List k after) h = ((h.0.0, working_so h.0.0 es h.0.1), next_page_so k after es h.1)
  may_so es (Ask.Get k n) h = ((h.0.0, working_so h.0.0 es h.0.1), may_get_so k n es h.1)
  may_so es (Ask.Range pack offset len) h = ((h.0.0, working_so h.0.0 es h.0.1), may_range_so pack offset len es h.1)
  may_so es (Ask.Put token k n x) h = (working_so token es h.0, h.1, h.2)
  may_so es (Ask.Delete token k n) h = (working_so token es h.0, h.1)
  may_so es (Ask.Unlock token) h = holds_so token es h
  may_so es (Ask.Upgrade token) h = (working_so token es h.0, h.1)
  may_so es (Ask.Refresh token time) h = h
  may_so es Ask.Locks h = h

  -- ---- a lock that is held without what was fed is held with it, since nothing was fed before its grant

  pub as_silent : (e : Exchange) (ask : Ask) (say : Say) → giving e.ask e.say e.emitted ≡ silent ask say → e.fed ≡ [] → e ≡ silent ask say
  as_silent e ask say same none = (λ i. record { ask = e.ask; say = e.say; emitted = e.emitted; fed = none i }) ∙ same

  pub unfed_late : (e : Exchange) (es : Trace) → IsFedLate (e ∷ es) → length es ≤ 1 → e.fed ≡ []
  unfed_late e es late few = none e.fed late.0
    where
      none : (fed : List Fed) → (fed ≢ [] → 2 ≤ length es) → fed ≡ []
      none [] h = refl
      none (item ∷ fed) h = let two = h (λ same. absurd (cc)) in absurd (omega (arith, two, few))

  pub locked_late : (token : Token) (es : Trace) → IsFedLate es → unfed es ≡ locked task token → es ≡ locked task token
  locked_late token [] late same = absurd (cc)
  locked_late token (e ∷ []) late same = absurd (cc)
  locked_late token (e ∷ f ∷ []) late same =
      let first : giving e.ask e.say e.emitted ≡ silent (Ask.Lock (lock_row task token)) Say.Done = cc in
      let second : giving f.ask f.say f.emitted ≡ silent Ask.Ticket (Say.Token token) = cc in
      let is = as_silent e (Ask.Lock (lock_row task token)) Say.Done first (unfed_late e (f ∷ []) late (lit≤ tt)) in
      let was = as_silent f Ask.Ticket (Say.Token token) second (unfed_late f [] late.1 (lit≤ tt)) in
      cc
  locked_late token (e ∷ f ∷ g ∷ es) late same = absurd (cc)

  held_late : (token : Token) (later es : Trace) → IsFedLate es → StaysHeld later → unfed es ≡ later ++ locked task token → Holds task token es
  held_late token [] es late held same = record { later = []; since = locked_late token es late same; held = record { unfenced = tt; unended = tt } }
  held_late token (x ∷ later) [] late held same = absurd (cc)
  held_late token (x ∷ later) (e ∷ es) late held same =
      let is : x ≡ giving e.ask e.say e.emitted = cc in
      let h = held_late token later es late.1 (record { unfenced = held.unfenced.1; unended = held.unended.1 }) (cc) in
      record {
        later = e ∷ h.later;
        since = ap (λ fs. e ∷ fs) h.since;
        held = record { unfenced = (subst IsUnfenced is held.unfenced.0, h.held.unfenced); unended = (subst IsNoUnlock is held.unended.0, h.held.unended) };
      }

  pub so_holds : (token : Token) (es : Trace) → IsFedLate es → Holds task token (unfed es) → Holds task token es
  so_holds token es late h = held_late token h.later es late h.held h.since

-- ---- ends

without_so : (ask : Ask) (whole older : Trace) → without_unlock ask (unfed whole) (unfed older) ≡ unfed (without_unlock ask whole older)
without_so (Ask.Unlock token) whole older = refl
without_so Ask.Ticket whole older = refl
without_so (Ask.Lock row) whole older = refl
without_so (Ask.Refresh token time) whole older = refl
without_so Ask.Locks whole older = refl
without_so (Ask.List k after) whole older = refl
without_so (Ask.Get k n) whole older = refl
without_so (Ask.Range pack offset len) whole older = refl
without_so (Ask.Put token k n x) whole older = refl
without_so (Ask.Delete token k n) whole older = refl
without_so Ask.Config whole older = refl
without_so (Ask.Upgrade token) whole older = refl

pub before_so : (es : Trace) → before_unlock (unfed es) ≡ unfed (before_unlock es)
before_so [] = refl
before_so (e ∷ es) = without_so e.ask (e ∷ es) es

pub spent_so : (es : Trace) → NumbersAreSpent es → NumbersAreSpent (unfed es)
spent_so es h = omega (arith, h, unfed_length es)

pub cause_so : (known : ℕ) (es : Trace) (end : End) → IsCause known es end → IsCause known (unfed es) end
cause_so known [] end h = h
cause_so known (e ∷ es) end (inl h) = inl h
cause_so known (e ∷ es) end (inr (is, spent)) = inr (is, spent_so (e ∷ es) spent)

-- a job may go on after each exchange without what was fed, where it may with it
each_follows_so : (known : ℕ) (notes : Bool) (es : Trace) → Each (MayFollow known notes) es → Each (MayFollow known notes) (unfed es)
each_follows_so known notes [] h = h
each_follows_so known notes (e ∷ es) h = (h.0, each_follows_so known notes es h.1)

-- so it heeds all of them
pub heeded_so : (known : ℕ) (notes : Bool) (outcome : Option Outcome) (es : Trace) → AreHeeded known notes outcome es → AreHeeded known notes outcome (unfed es)
heeded_so known notes outcome [] h = h
heeded_so known notes outcome (e ∷ es) h = (h.0, each_follows_so known notes es h.1)
