-- What a forget knows while it reads, and while it deletes.
use Rattle.std.proofs.Common.{◌≡◌, ◌≢◌, ◌<◌, ◌+◌, ◌++◌, ◌∷◌, ◌∙◌, [], ℕ, true, List, Option, Some, None, length, map, take, slice_get, refl, sym, ap, subst, inl, inr, Contains}
use Rattle.std.specs.List.Sorted.{IsStrictlySortedBy}
use Rattle.std.specs.List.{AllByRecursion}
use Rattle.std.specs.declared.cmp.Ordering.TheVariants.{Less}
use Rattle.std.proofs.lemmas.Option.{slice_get_within, none-some}
use Rattle.repo_name.specs.Naming.{name_cmp, Before}
use Rattle.repo_name.specs.declared.kinds.Kind.{Kind}
use Rattle.repo_name.specs.declared.names.Name.{Name}
use Rattle.repo_name.specs.declared.tokens.Token.{Token}
use Rattle.repo_index.specs.Order.{names_total}
use Rattle.repo_store.specs.Pages.{Has, NamesAscend}
use Rattle.repo_wire.specs.declared.messages.Ask.{Ask}
use Rattle.repo_wire.specs.declared.messages.Say.{Say}
use Rattle.repo_session.specs.declared.jobs.Step.{Step}
use Rattle.repo_session.specs.Askers.{Asker, Holding}
use Rattle.repo_session.specs.Deletions.{DeleteDone, NoneDeleted}
use Rattle.repo_session.specs.Jobs.{HeedsReply, MayAsk, StepsOn}
use Rattle.repo_session.specs.Listings.{IsSnapshotListing, KnowsSnapshots}
use Rattle.repo_session.specs.Order.{IsWorking, ReadsKind, Task}
use Rattle.repo_session.specs.Readings.{IsAskDue, KnowsRoll}
use Rattle.repo_session.specs.declared.rolls.Roll.{Roll}
use Rattle.repo_session.specs.Traces.{Each, Exchange, Trace, silent, names_in, IsListed}
use Rattle.repo_name.proofs.Containing.{none_contained, first_contained, later_contained, contained_or, contains_got}
use Rattle.repo_session.proofs.Deleting.{DeletesNone, ListsNone, delete_lists_none, done_stays, listed_stays, listing_stays, names_stay, none_deleted_on}
use Rattle.repo_session.proofs.KindReads.{due_snapshot}
use Rattle.repo_session.specs.Rolls.{IsRolled}
use Rattle.repo_session.proofs.Receiving.{each_more, is_listed}
use Rattle.repo_prune.proofs.Ascending.{behind_first}
use Rattle.repo_prune.proofs.Repacking.{one_taken}
use Rattle.repo_prune.proofs.Those.{those_are, are_those, those_ascend}
use Rattle.repo_prune.specs.declared.choices.Choice.{Choice}
use Rattle.repo_prune.specs.declared.forgets.Forget.{Forget}
use Rattle.repo_prune.specs.Forgetting.{GoesByPolicy, IsDecided, IsChosen, AreChosen, AreChosenOf, ForgetAllows, forget_rule, forget_task}
use Rattle.repo_prune.specs.ForgetStates.{Deletes, KnowsForget, KnowsReading, ReadsOnByPolicy, TakesPageByNames}
use Rattle.repo_prune.specs.Keeping.{Row}

-- ---- reading

-- by a policy a forget may read while nothing was deleted
allows_reading : (choice : Choice) (es : Trace) (ask : Ask) → ReadsKind Kind.Snapshot es ask → GoesByPolicy choice → NoneDeleted es → ForgetAllows choice es ask
allows_reading choice es (Ask.List k after) h policy none = (h, none)
allows_reading choice es (Ask.Get k n) h policy none = (h, none, policy)
allows_reading choice es (Ask.Range pack offset len) h policy none = absurd h
allows_reading choice es (Ask.Delete t k n) h policy none = absurd h
allows_reading choice es (Ask.Upgrade t) h policy none = absurd h
allows_reading choice es (Ask.Put t k n x) h policy none = absurd h
allows_reading choice es Ask.Ticket h policy none = absurd h
allows_reading choice es (Ask.Lock row) h policy none = absurd h
allows_reading choice es (Ask.Refresh t time) h policy none = absurd h
allows_reading choice es (Ask.Unlock t) h policy none = absurd h
allows_reading choice es Ask.Locks h policy none = absurd h
allows_reading choice es Ask.Config h policy none = absurd h

-- so it may ask for what is due of the reading
pub may_read : (f : Forget) (task : Task) (es : Trace) (ask : Ask) → GoesByPolicy f.choice → NoneDeleted es → IsAskDue task (KnowsSnapshots f.snapshots) es ask → ForgetAllows f.choice es ask × KnowsForget f ask es
may_read f task es ask policy none due = (allows_reading f.choice es ask (due_snapshot task f.snapshots es ask due) policy none, inl (none, due.knows))

-- and for a page, whichever are chosen
pub may_page : (f : Forget) (es : Trace) (ask : Ask) (after : Option Name) → ask ≡ Ask.List Kind.Snapshot after → NoneDeleted es → KnowsSnapshots f.snapshots ask es → ForgetAllows f.choice es ask × KnowsForget f ask es
may_page f es ask after is none known = (subst (ForgetAllows f.choice es) (sym is) (refl, none), inl (none, known))

-- where no name is known, a page is asked for
pub asks_page : (roll : Roll) (ask : Ask) (es : Trace) → roll.kind ≡ Kind.Snapshot → roll.names.items ≡ [] → KnowsRoll roll ask es → (after : Option Name) × (ask ≡ Ask.List Kind.Snapshot after)
asks_page roll (Ask.List k after) es of_kind none h = (after, ap (λ j. Ask.List j after) (h.0 ∙ of_kind))
asks_page roll (Ask.Get k n) es of_kind none h =
    let empty : List Name = [] in
    let at : slice_get empty roll.read ≡ Some n = subst (λ names. slice_get names roll.read ≡ Some n) none h.1 in
    absurd (none-some n at)
asks_page roll (Ask.Range pack offset len) es of_kind none h = absurd h
asks_page roll (Ask.Delete t k n) es of_kind none h = absurd h
asks_page roll (Ask.Upgrade t) es of_kind none h = absurd h
asks_page roll (Ask.Put t k n x) es of_kind none h = absurd h
asks_page roll Ask.Ticket es of_kind none h = absurd h
asks_page roll (Ask.Lock row) es of_kind none h = absurd h
asks_page roll (Ask.Refresh t time) es of_kind none h = absurd h
asks_page roll (Ask.Unlock t) es of_kind none h = absurd h
asks_page roll Ask.Locks es of_kind none h = absurd h
asks_page roll Ask.Config es of_kind none h = absurd h

-- what a roll asks for deletes nothing
roll_deletes_none : (roll : Roll) (ask : Ask) (es : Trace) → KnowsRoll roll ask es → DeletesNone ask
roll_deletes_none roll (Ask.List j after) es h = λ k. refl
roll_deletes_none roll (Ask.Get j m) es h = λ k. refl
roll_deletes_none roll Ask.Ticket es h = absurd (h)
roll_deletes_none roll (Ask.Lock row) es h = absurd (h)
roll_deletes_none roll (Ask.Refresh t time) es h = absurd (h)
roll_deletes_none roll (Ask.Unlock t) es h = absurd (h)
roll_deletes_none roll Ask.Locks es h = absurd (h)
roll_deletes_none roll Ask.Config es h = absurd (h)
roll_deletes_none roll (Ask.Range pack offset len) es h = absurd (h)
roll_deletes_none roll (Ask.Put t j m x) es h = absurd (h)
roll_deletes_none roll (Ask.Delete t j m) es h = absurd (h)
roll_deletes_none roll (Ask.Upgrade t) es h = absurd (h)

pub none_read : (roll : Roll) (ask : Ask) (say : Say) (es : Trace) → KnowsRoll roll ask es → NoneDeleted es → NoneDeleted (silent ask say ∷ es)
none_read roll ask say es h none = none_deleted_on (silent ask say) es (roll_deletes_none roll ask es h) none

-- ---- choosing

pub has_contained : (names : List Name) (n : Name) → Has names n → Contains names n
has_contained [] n h = elim h [ ]
has_contained (m ∷ names) n (inl is) = subst (λ z. Contains (z ∷ names) n) is (first_contained n names)
has_contained (m ∷ names) n (inr more) = later_contained m names n (has_contained names n more)

pub contained_has : (names : List Name) (n : Name) → Contains names n → Has names n
contained_has [] n h = absurd (none_contained n h)
contained_has (m ∷ names) n h = elim (contained_or m names n h) [ inl is ↦ inl (sym is) | inr more ↦ inr (contained_has names n more) ]

all_above : (n m : Name) (names : List Name) → Before n m → AllByRecursion (λ y. name_cmp m y ≡ Less) names → AllByRecursion (λ y. name_cmp n y ≡ Less) names
all_above n m [] before h = tt
all_above n m (x ∷ names) before h = (names_total.trans n m x before h.0, all_above n m names before h.1)

-- names that ascend are sorted
pub ascending_sorted : (after : Option Name) (names : List Name) → NamesAscend after names → IsStrictlySortedBy name_cmp names
unfolding IsStrictlySortedBy
ascending_sorted after [] h = tt
ascending_sorted after (n ∷ []) h = (tt, tt)
ascending_sorted after (n ∷ m ∷ names) h = let rest = ascending_sorted (Some n) (m ∷ names) h.1 in ((h.1.0, all_above n m names h.1.0 rest.0), rest)

-- what is chosen of the names that were listed
pub listed_chosen : (choice : Choice) (rows : List Row) (listed picked : List Name) (es : Trace) → IsDecided choice es rows → IsListed Kind.Snapshot es → listed ≡ names_in Kind.Snapshot es → AreChosenOf choice rows listed picked → AreChosen choice es picked
listed_chosen choice rows listed picked es known is same h = record {
  rows = rows;
  decided = known;
  each = λ n. (
    λ has. let r = those_are (IsChosen choice rows) listed picked n h has in (subst (λ ns. Has ns n) same (contained_has listed n r.0), r.1),
    λ both. are_those (IsChosen choice rows) listed picked n h (has_contained listed n (subst (λ ns. Has ns n) (sym same) both.0)) both.1,
  );
  ascend = those_ascend (IsChosen choice rows) name_cmp listed picked h (subst (λ ns. IsStrictlySortedBy name_cmp ns) (sym same) (ascending_sorted None (names_in Kind.Snapshot es) is.rise.ascend));
}

-- what is chosen by names, where the last page came
pub page_chosen : (names : List Name) (rows : List Row) (listed : List Name) (read : ℕ) (picked : List Name) (es : Trace) → IsRolled Kind.Snapshot listed read true es → AreChosenOf (Choice.Names names) rows listed picked
    → AreChosen (Choice.Names names) es picked
page_chosen names rows listed read picked es h picks =
    let is : IsListed Kind.Snapshot es = is_listed Kind.Snapshot listed read es h in
    listed_chosen (Choice.Names names) rows listed picked es is is (sym h.paged.listed) picks

known_by_listing : (choice : Choice) (es : Trace) (rows : List Row) → IsSnapshotListing es rows → IsDecided choice es rows
known_by_listing (Choice.Names names) es rows l = l.listed
known_by_listing (Choice.Keep policy) es rows l = l
known_by_listing (Choice.KeepOf host policy) es rows l = l

-- what is chosen of the snapshots that were read
pub read_chosen : (choice : Choice) (rows : List Row) (picked : List Name) (es : Trace) → IsSnapshotListing es rows → AreChosenOf choice rows (map (λ (row : Row). row.0) rows) picked → AreChosen choice es picked
read_chosen choice rows picked es l h = listed_chosen choice rows (map (λ (row : Row). row.0) rows) picked es (known_by_listing choice es rows l) l.listed l.names h

-- ---- deleting

known_stays : (choice : Choice) (e : Exchange) (es : Trace) (rows : List Row) → ListsNone Kind.Snapshot e → IsDecided choice es rows → IsDecided choice (e ∷ es) rows
known_stays (Choice.Names names) e es rows none h = listed_stays Kind.Snapshot e es none h
known_stays (Choice.Keep policy) e es rows none h = listing_stays e es rows none h
known_stays (Choice.KeepOf host policy) e es rows none h = listing_stays e es rows none h

chosen_stays : (choice : Choice) (e : Exchange) (es : Trace) (names : List Name) → ListsNone Kind.Snapshot e → AreChosen choice es names → AreChosen choice (e ∷ es) names
chosen_stays choice e es names none h =
    let same = names_stay Kind.Snapshot e es none in
    record {
      rows = h.rows;
      decided = known_stays choice e es h.rows none h.decided;
      each = λ n. (
        λ has. let r = (h.each n).0 has in (subst (λ ns. Has ns n) (sym same) r.0, r.1),
        λ both. (h.each n).1 (subst (λ ns. Has ns n) same both.0, both.1),
      );
      ascend = h.ascend;
    }

each_end : (P : Name → Type 0) (xs : List Name) (x : Name) → Each P xs → P x → Each P (xs ++ x ∷ [])
each_end P [] x h p = (p, tt)
each_end P (y ∷ xs) x h p = (h.0, each_end P xs x h.1 p)

-- one more is deleted
pub one_deleted : (choice : Choice) (names : List Name) (i j : ℕ) (token : Token) (n : Name) (ask : Ask) (say : Say) (es : Trace) → ask ≡ Ask.Delete token Kind.Snapshot n → say ≡ Say.Done → slice_get names i ≡ Some n → (i < length names → j ≡ i + 1)
    → Deletes choice names i es → Deletes choice names j (silent ask say ∷ es)
one_deleted choice names i j token n ask say es asked said at more h =
    let e : Exchange = silent (Ask.Delete token Kind.Snapshot n) Say.Done in
    let P : Name → Type 0 = λ m. DeleteDone (e ∷ es) Kind.Snapshot m in
    let before : Each P (take i names) = each_more (λ m. DeleteDone es Kind.Snapshot m) P (take i names) (λ m d. done_stays e es Kind.Snapshot m d) h.gone in
    let now : Each P (take i names ++ n ∷ []) = each_end P (take i names) n before (token, inl (refl, refl)) in
    let d : Deletes choice names (i + 1) (e ∷ es) = record { chosen = chosen_stays choice e es names (delete_lists_none Kind.Snapshot token Kind.Snapshot n Say.Done []) h.chosen; gone = subst (Each P) (sym (one_taken names i n at)) now; deleted = ap (λ ns. ns ++ n ∷ []) h.deleted ∙ sym (one_taken names i n at) } in
    subst (λ a. Deletes choice names j (silent a say ∷ es)) (sym asked) (subst (λ z. Deletes choice names j (silent (Ask.Delete token Kind.Snapshot n) z ∷ es)) (sym said)
    (subst (λ m. Deletes choice names m (e ∷ es)) (sym (more (slice_get_within names i n at))) d))

-- the next one may be deleted
pub next_due : (f : Forget) (who : Asker) (token : Token) (n : Name) (es : Trace) → IsWorking (forget_task who) token es → slice_get f.chosen.items f.deleted ≡ Some n → Deletes f.choice f.chosen.items f.deleted es
    → MayAsk (forget_rule f.choice) who (KnowsForget f) es (Ask.Delete token Kind.Snapshot n)
next_due f who token n es w at d =
    let is = (d.chosen.each n).0 (contains_got f.chosen.items f.deleted n at) in
    record {
      work = tt;
      may = (w, refl);
      allowed = (
        refl,
        record {
          rows = d.chosen.rows;
          decided = d.chosen.decided;
          among = is.0;
          chosen = is.1;
        },
        λ m asked. behind_first f.chosen.items f.deleted n d.chosen.ascend at m (subst (λ ns. Contains ns m) d.deleted asked),
      );
      knows = inr (token, n, refl, at, d);
    }

-- ---- where no delete is pending

abbrev pub IsNoDelete : Ask → Type 0
IsNoDelete ask = (token : Token) (k : Kind) (n : Name) → ask ≢ Ask.Delete token k n

-- it reads
reading_known : (f : Forget) (ask : Ask) (es : Trace) → IsNoDelete ask → KnowsForget f ask es → KnowsReading f ask es
reading_known f ask es other (inl reads) = reads
reading_known f ask es other (inr deletes) = absurd (other deletes.0 Kind.Snapshot deletes.1 deletes.2)

reading_asked : (f : Forget) (who : Asker) (ask : Ask) (es : Trace) → IsNoDelete ask → MayAsk (forget_rule f.choice) who (KnowsForget f) es ask → MayAsk (forget_rule f.choice) who (KnowsReading f) es ask
reading_asked f who ask es other h = record { work = h.work; may = h.may; allowed = h.allowed; knows = reading_known f ask es other h.knows }

-- by names it asks for pages alone
pub steps_by_names : (old : Forget) (holding : Holding) (ask : Ask) (say : Say) (step : Step) (new : Forget) (names : List Name) → old.choice ≡ Choice.Names names → IsNoDelete ask → TakesPageByNames old holding say step new
    → StepsOn (forget_rule old.choice) holding (KnowsForget old) (KnowsForget new) (silent ask say) step
steps_by_names old holding (Ask.List k after) say step new names is other h = λ es w obeys asked. h k after names is es w obeys (reading_asked old holding.who (Ask.List k after) es other asked)
steps_by_names old holding (Ask.Get k n) say step new names is other h = λ es w obeys asked. absurd (subst GoesByPolicy is asked.allowed.2)
steps_by_names old holding (Ask.Delete t k n) say step new names is other h = absurd (other t k n refl)
steps_by_names old holding (Ask.Range pack offset len) say step new names is other h = λ es w obeys asked. absurd asked.allowed.0
steps_by_names old holding (Ask.Upgrade t) say step new names is other h = λ es w obeys asked. absurd asked.allowed.0
steps_by_names old holding (Ask.Put t k n x) say step new names is other h = λ es w obeys asked. absurd asked.allowed.0
steps_by_names old holding Ask.Ticket say step new names is other h = λ es w obeys asked. absurd asked.allowed.0
steps_by_names old holding (Ask.Lock row) say step new names is other h = λ es w obeys asked. absurd asked.allowed.0
steps_by_names old holding (Ask.Refresh t time) say step new names is other h = λ es w obeys asked. absurd asked.allowed.0
steps_by_names old holding (Ask.Unlock t) say step new names is other h = λ es w obeys asked. absurd asked.allowed.0
steps_by_names old holding Ask.Locks say step new names is other h = λ es w obeys asked. absurd asked.allowed.0
steps_by_names old holding Ask.Config say step new names is other h = λ es w obeys asked. absurd asked.allowed.0

pub heeds_by_names : (old : Forget) (holding : Holding) (ask : Ask) (say : Say) (step : Step) (names : List Name) → old.choice ≡ Choice.Names names → IsNoDelete ask
    → ((kind : Kind) (after : Option Name) → HeedsReply (forget_rule old.choice) holding (KnowsReading old) (silent (Ask.List kind after) say) step) → HeedsReply (forget_rule old.choice) holding (KnowsForget old) (silent ask say) step
heeds_by_names old holding (Ask.List k after) say step names is other h = λ es w obeys asked. h k after es w obeys (reading_asked old holding.who (Ask.List k after) es other asked)
heeds_by_names old holding (Ask.Get k n) say step names is other h = λ es w obeys asked. absurd (subst GoesByPolicy is asked.allowed.2)
heeds_by_names old holding (Ask.Delete t k n) say step names is other h = absurd (other t k n refl)
heeds_by_names old holding (Ask.Range pack offset len) say step names is other h = λ es w obeys asked. absurd asked.allowed.0
heeds_by_names old holding (Ask.Upgrade t) say step names is other h = λ es w obeys asked. absurd asked.allowed.0
heeds_by_names old holding (Ask.Put t k n x) say step names is other h = λ es w obeys asked. absurd asked.allowed.0
heeds_by_names old holding Ask.Ticket say step names is other h = λ es w obeys asked. absurd asked.allowed.0
heeds_by_names old holding (Ask.Lock row) say step names is other h = λ es w obeys asked. absurd asked.allowed.0
heeds_by_names old holding (Ask.Refresh t time) say step names is other h = λ es w obeys asked. absurd asked.allowed.0
heeds_by_names old holding (Ask.Unlock t) say step names is other h = λ es w obeys asked. absurd asked.allowed.0
heeds_by_names old holding Ask.Locks say step names is other h = λ es w obeys asked. absurd asked.allowed.0
heeds_by_names old holding Ask.Config say step names is other h = λ es w obeys asked. absurd asked.allowed.0

-- by a policy it reads
goes_by_policy : (choice : Choice) → ((names : List Name) → choice ≢ Choice.Names names) → GoesByPolicy choice
goes_by_policy (Choice.Names names) other = absurd (other names refl)
goes_by_policy (Choice.Keep policy) other = tt
goes_by_policy (Choice.KeepOf host policy) other = tt

pub steps_by_policy : (old : Forget) (holding : Holding) (ask : Ask) (say : Say) (step : Step) (new : Forget) → ((names : List Name) → old.choice ≢ Choice.Names names) → IsNoDelete ask → ReadsOnByPolicy old holding ask say step new
    → StepsOn (forget_rule old.choice) holding (KnowsForget old) (KnowsForget new) (silent ask say) step
steps_by_policy old holding ask say step new policy other h = λ es w obeys asked. h (goes_by_policy old.choice policy) es w obeys (reading_asked old holding.who ask es other asked)
