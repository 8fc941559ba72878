-- What a forget leaves that is alone with its store, and tells what it forgot.
use Rattle.std.proofs.Common.{◌≡◌, ◌⊎◌, ◌++◌, ◌∷◌, [], ℕ, true, false, List, cond, map, Some, None, refl, sym, ap, subst, inl, inr, ⊎_elim, append-nil, ◌∙◌}
use Rattle.std.proofs.lemmas.Option.{same_Some}
use Rattle.repo_name.specs.declared.kinds.Kind.{Kind}
use Rattle.repo_name.specs.declared.names.Name.{Name}
use Rattle.repo_name.specs.declared.tokens.Token.{Token}
use Rattle.repo_wire.specs.declared.messages.Ask.{Ask}
use Rattle.repo_wire.specs.declared.messages.Say.{Say}
use Rattle.repo_tree.specs.SnapshotText.{IsSnapshotText}
use Rattle.repo_tree.proofs.SnapshotLemmas.{snapshot_texts_one}
use Rattle.repo_store.specs.Pages.{Has, NamesAscend}
use Rattle.repo_store.specs.StoreMachine.{object_limit, Answers, Step}
use Rattle.repo_store.specs.Stores.{Store}
use Rattle.repo_session.specs.declared.outcomes.Outcome.{Outcome}
use Rattle.repo_session.specs.Askers.{Asker}
use Rattle.repo_session.specs.Clients.{exchange}
use Rattle.repo_session.specs.Ends.{before_unlock, without_unlock}
use Rattle.repo_session.specs.Listings.{IsReadRow}
use Rattle.repo_session.specs.Order.{IsPermitted, IsReading, Obeys}
use Rattle.repo_session.specs.Talks.{Talk, trace_of}
use Rattle.repo_session.specs.Told.{AskedToDelete}
use Rattle.repo_session.specs.Traces.{Each, Exchange, Trace, Exchanged, WasAsked, Lists, names_in, page_names, is_last_page, is_complete}
use Rattle.repo_session.proofs.Concluding.{IsUndeleted, exchanged_before, unasked}
use Rattle.repo_session.proofs.Enumerating.{given_more}
use Rattle.repo_session.proofs.Growing.{Led, led, step_moves, leaves, comes, answered, no_bytes, got_there}
use Rattle.repo_session.proofs.PageLemmas.{page_or, GivenOrLater, given_without}
use Rattle.repo_session.proofs.Telling.{seen_run}
use Rattle.repo_prune.specs.declared.choices.Choice.{Choice}
use Rattle.repo_prune.specs.Forgetting.{forget_task, ForgetAllows, ForgetGives, IsDecided, IsChosen, MayForget, IsForgotten}
use Rattle.repo_prune.specs.Keeping.{Row}
use Rattle.repo_prune.specs.Laws.{AreChosenFrom, ForgetLeavesTheOthers}
use Rattle.repo_prune.proofs.ForgetRuns.{read_first, undeleted}

-- the row's snapshot is what the store has under its name
abbrev pub IsStored : Store → Row → Type 0
IsStored store row = (x : List ℕ) × (store.objects Kind.Snapshot row.0 ≡ Some x) × IsSnapshotText x row.1

-- ---- exchanges that list nothing

-- the end of the lock gives no names
pub unlock_or : (ask : Ask) (whole older : Trace) → (without_unlock ask whole older ≡ whole) ⊎ ((token : Token) × (ask ≡ Ask.Unlock token) × (without_unlock ask whole older ≡ older))
unlock_or (Ask.Unlock token) whole older = inr (token, refl, refl)
unlock_or Ask.Ticket whole older = inl refl
unlock_or (Ask.Lock row) whole older = inl refl
unlock_or (Ask.Refresh token time) whole older = inl refl
unlock_or Ask.Locks whole older = inl refl
unlock_or (Ask.List k after) whole older = inl refl
unlock_or (Ask.Get k n) whole older = inl refl
unlock_or (Ask.Range pack offset len) whole older = inl refl
unlock_or (Ask.Put token k n x) whole older = inl refl
unlock_or (Ask.Delete token k n) whole older = inl refl
unlock_or (Ask.Upgrade token) whole older = inl refl
unlock_or Ask.Config whole older = inl refl

names_before : (k : Kind) (es : Trace) → names_in k (before_unlock es) ≡ names_in k es
names_before k [] = refl
names_before k (e ∷ es) = ⊎_elim (λ same. ap (λ fs. names_in k fs) same)
    (λ u. ap (λ fs. names_in k fs) u.2 ∙ sym (ap (λ a. names_in k es ++ page_names k a e.say) u.1 ∙ append-nil (names_in k es))) (unlock_or e.ask (e ∷ es) es)

complete_before : (k : Kind) (es : Trace) → is_complete k (before_unlock es) ≡ is_complete k es
complete_before k [] = refl
complete_before k (e ∷ es) = ⊎_elim (λ same. ap (λ fs. is_complete k fs) same)
    (λ u. ap (λ fs. is_complete k fs) u.2 ∙ sym (ap (λ a. cond (is_last_page k a e.say) true (is_complete k es)) u.1)) (unlock_or e.ask (e ∷ es) es)

was_deleted : (es : Trace) (token : Token) (n : Name) → IsUndeleted es → WasAsked es (Ask.Delete token Kind.Snapshot n) → ⊥
was_deleted [] token n none h = h
was_deleted (e ∷ es) token n none (inl now) = none.0 token Kind.Snapshot n now
was_deleted (e ∷ es) token n none (inr before) = was_deleted es token n none.1 before

-- rows that go by one store are one list, where they have the same names
rows_one : (from : Store) (rows others : List Row) → map (λ (row : Row). row.0) rows ≡ map (λ (row : Row). row.0) others → Each (IsStored from) rows → Each (IsStored from) others → rows ≡ others
rows_one from [] [] names h g = refl
rows_one from [] (r ∷ others) names h g = absurd (cc)
rows_one from (r ∷ rows) [] names h g = absurd (cc)
rows_one from ((n, s) ∷ rows) ((m, t) ∷ others) names h g =
    let one : n ≡ m = cc in
    let rest : map (λ (row : Row). row.0) rows ≡ map (λ (row : Row). row.0) others = cc in
    let text : h.0.0 ≡ g.0.0 = same_Some h.0.0 g.0.0 (sym h.0.1 ∙ ap (λ i. from.objects Kind.Snapshot i) one ∙ g.0.1) in
    let snapshot : s ≡ t = snapshot_texts_one g.0.0 s t (subst (λ x. IsSnapshotText x s) text h.0.2) g.0.2 in
    let rows' = rows_one from rows others rest h.1 g.1 in
    cc (one, snapshot, rows')

-- ---- along a run

module _ (who : Asker) (choice : Choice) (from : Store) where
  abbrev Keeps : Trace → Type 0
  Keeps es = Obeys (forget_task who) (ForgetAllows choice) (ForgetGives choice) es

  puts_nothing : (es : Trace) (token : Token) (k : Kind) (n : Name) (x : List ℕ) → IsPermitted (ForgetAllows choice) es (Ask.Put token k n x) → ⊥
  puts_nothing es token k n x h = (h tt).0

  no_put : (es : Trace) (token : Token) (k : Kind) (n : Name) (x : List ℕ) → Keeps es → WasAsked es (Ask.Put token k n x) → ⊥
  no_put es token k n x o h = unasked (forget_task who) (ForgetAllows choice) (ForgetGives choice) (Ask.Put token k n x) (λ fs may. puts_nothing fs token k n x may) es o h

  came : (es : Trace) (old : Store) (ask : Ask) (say : Say) (new : Store) (k : Kind) (n : Name) (x : List ℕ) → IsPermitted (ForgetAllows choice) es ask → Step old ask say new → new.objects k n ≡ Some x → old.objects k n ≡ Some x
  came es old ask say new k n x permitted step h = ⊎_elim (λ was. was) (λ p. absurd (puts_nothing es p.0 k n x (subst (λ a. IsPermitted (ForgetAllows choice) es a) p.1 permitted))) (comes old ask new (step_moves old ask say new step) k n x h)

  fewer : (talk : Talk) (to : Store) (k : Kind) (n : Name) (x : List ℕ) → Keeps (trace_of talk) → Led from talk to → to.objects k n ≡ Some x → from.objects k n ≡ Some x
  fewer [] to k n x o h there = ap (λ (s : Store). s.objects k n) (sym h) ∙ there
  fewer (turn ∷ talk) to k n x o h there = fewer talk h.0 k n x o.3 h.1 (came (trace_of talk) h.0 turn.request.ask turn.reply.say to k n x o.1 h.2.step there)

  left : (talk : Talk) (to : Store) (k : Kind) (n : Name) (x : List ℕ) → Led from talk to → from.objects k n ≡ Some x → (to.objects k n ≡ Some x) ⊎ AskedToDelete (trace_of talk) k n
  left [] to k n x h there = inl (ap (λ (s : Store). s.objects k n) h ∙ there)
  left (turn ∷ talk) to k n x h there = ⊎_elim
      (λ here. ⊎_elim inl (λ d. inr (d.0, inl d.1)) (leaves h.0 turn.request.ask to (step_moves h.0 turn.request.ask turn.reply.say to h.2.step) k n x here))
      (λ d. inr (d.0, inr d.1)) (left talk h.0 k n x h.1 there)

  -- while nothing is deleted, all stays
  stays : (talk : Talk) (to : Store) (k : Kind) (n : Name) (x : List ℕ) → Led from talk to → IsUndeleted (trace_of talk) → from.objects k n ≡ Some x → to.objects k n ≡ Some x
  stays [] to k n x h none there = ap (λ (s : Store). s.objects k n) h ∙ there
  stays (turn ∷ talk) to k n x h none there =
      let here = stays talk h.0 k n x h.1 none.1 there in
      ⊎_elim (λ now. now) (λ d. absurd (none.0 d.0 k n d.1)) (leaves h.0 turn.request.ask to (step_moves h.0 turn.request.ask turn.reply.say to h.2.step) k n x here)

  got : (talk : Talk) (to : Store) (k : Kind) (n : Name) (x : List ℕ) → Keeps (trace_of talk) → Led from talk to → Exchanged (trace_of talk) (Ask.Get k n) (Say.Bytes x) → from.objects k n ≡ Some x
  got [] to k n x o h g = absurd g
  got (turn ∷ talk) to k n x o h g = ⊎_elim
      (λ now.
      let a : Answers h.0 (Ask.Get k n) turn.reply.say to = subst (λ q. Answers h.0 q turn.reply.say to) now.0 (answered h.0 turn.request.ask turn.reply.say to (no_bytes turn.reply.say x now.1) h.2.step) in
      fewer talk h.0 k n x o.3 h.1 (got_there (object_limit k) (h.0.objects k n) turn.reply.say x now.1 a.0))
      (λ before. got talk h.0 k n x o.3 h.1 before) g

  -- each snapshot that was there at first is given by a page, or more pages follow
  given : (talk : Talk) (to : Store) (k : Kind) (n : Name) (x : List ℕ) → Keeps (trace_of talk) → Led from talk to → from.objects k n ≡ Some x → GivenOrLater k (trace_of talk) n
  given [] to k n x o h there = inr (refl, tt)
  given (turn ∷ talk) to k n x o h there =
      let es : Trace = trace_of talk in
      let e : Exchange = exchange turn.request turn.reply turn.emitted in
      let before = given talk h.0 k n x o.3 h.1 there in
      elim (page_or k e.ask e.say) [
        | inl page ↦
            let reads : IsReading e.ask = subst IsReading (sym page.asked) tt in
            let here = stays talk h.0 k n x h.1 (undeleted es (read_first choice es e.ask o.1 reads)) there in
            given_more (forget_task who) k es h.0 to e n x o.0 h.2.step here before
        | inr none ↦ given_without k e es n none before
      ]

  -- the exchanges before a delete listed what all of them did
  pub record DeletedBy (es : Trace) (n : Name) : Type 0 where
    pub then : Trace
    pub rule : MayForget choice then n
    pub names : names_in Kind.Snapshot then ≡ names_in Kind.Snapshot es
    pub among : (ask : Ask) (say : Say) → Exchanged then ask say → Exchanged es ask say

  deleted_by : (es : Trace) (n : Name) → Keeps es → AskedToDelete es Kind.Snapshot n → DeletedBy es n
  deleted_by [] n o h = absurd h.1
  deleted_by (e ∷ es) n o h = ⊎_elim
      (λ now.
      let rule : ForgetAllows choice es (Ask.Delete h.0 Kind.Snapshot n) = subst (λ a. IsPermitted (ForgetAllows choice) es a) now o.1 tt in
      record { then = es; rule = rule.1; names = sym (ap (λ a. names_in Kind.Snapshot es ++ page_names Kind.Snapshot a e.say) now ∙ append-nil (names_in Kind.Snapshot es)); among = λ ask say g. inr g })
      (λ before.
      let d = deleted_by es n o.3 (h.0, before) in
      let quiet : page_names Kind.Snapshot e.ask e.say ≡ [] = ⊎_elim
      (λ page. absurd (was_deleted es h.0 n (undeleted es (read_first choice es e.ask o.1 (subst IsReading (sym page.asked) tt))) before)) (λ none. none.0) (page_or Kind.Snapshot e.ask e.say) in
      record { then = d.then; rule = d.rule; names = d.names ∙ sym (ap (λ p. names_in Kind.Snapshot es ++ p) quiet ∙ append-nil (names_in Kind.Snapshot es)); among = λ ask say g. inr (d.among ask say g) }) h.1

  -- ---- the listing, and what stays

  stored : (talk : Talk) (to : Store) (rows : List Row) (es : Trace) → ((ask : Ask) (say : Say) → Exchanged es ask say → Exchanged (trace_of talk) ask say) → Keeps (trace_of talk) → Led from talk to → Each (IsReadRow es) rows → Each (IsStored from) rows
  stored talk to [] es among o h each = tt
  stored talk to (r ∷ rows) es among o h each = (
    (each.0.0, got talk to Kind.Snapshot r.0 each.0.0 o h (among (Ask.Get Kind.Snapshot r.0) (Say.Bytes each.0.0) each.0.1.0), each.0.2),
    stored talk to rows es among o h each.1,
  )

  listed : (talk : Talk) (to : Store) (n : Name) (x : List ℕ) → Keeps (trace_of talk) → Led from talk to → is_complete Kind.Snapshot (trace_of talk) ≡ true → from.objects Kind.Snapshot n ≡ Some x → Lists (trace_of talk) Kind.Snapshot n
  listed talk to n x o h complete there = ⊎_elim (λ g. g) (λ later. (let w : true ≡ false = sym complete ∙ later.0 in absurd (cc))) (given talk to Kind.Snapshot n x o h there)

known_listed : (choice : Choice) (es : Trace) (rows : List Row) → IsDecided choice es rows → is_complete Kind.Snapshot es ≡ true
known_listed (Choice.Names names) es rows h = h.complete
known_listed (Choice.Keep policy) es rows h = h.listed.complete
known_listed (Choice.KeepOf host policy) es rows h = h.listed.complete

chosen_from : (who : Asker) (choice : Choice) (from : Store) (talk : Talk) (to : Store) (rows : List Row) (es : Trace) → ((ask : Ask) (say : Say) → Exchanged es ask say → Exchanged (trace_of talk) ask say) → names_in Kind.Snapshot es ≡ names_in Kind.Snapshot (trace_of talk)
    → Obeys (forget_task who) (ForgetAllows choice) (ForgetGives choice) (trace_of talk) → Led from talk to → is_complete Kind.Snapshot (trace_of talk) ≡ true → IsDecided choice es rows → AreChosenFrom choice from rows
chosen_from who (Choice.Names names) from talk to rows es among same o h complete known = tt
chosen_from who (Choice.Keep policy) from talk to rows es among same o h complete known = record {
  each = stored who (Choice.Keep policy) from talk to rows es among o h known.each;
  all = λ n x there. subst (λ ns. Has ns n) (sym (known.names ∙ same)) (listed who (Choice.Keep policy) from talk to n x o h complete there);
  ascend = subst (λ ns. NamesAscend None ns) (sym known.names) known.listed.rise.ascend;
}
chosen_from who (Choice.KeepOf host policy) from talk to rows es among same o h complete known = record {
  each = stored who (Choice.KeepOf host policy) from talk to rows es among o h known.each;
  all = λ n x there. subst (λ ns. Has ns n) (sym (known.names ∙ same)) (listed who (Choice.KeepOf host policy) from talk to n x o h complete there);
  ascend = subst (λ ns. NamesAscend None ns) (sym known.names) known.listed.rise.ascend;
}

-- what is chosen by one reading is chosen by the other
chosen_again : (who : Asker) (choice : Choice) (from : Store) (talk : Talk) (to : Store) (rows others : List Row) (es then : Trace) (n : Name) → ((ask : Ask) (say : Say) → Exchanged es ask say → Exchanged (trace_of talk) ask say)
    → ((ask : Ask) (say : Say) → Exchanged then ask say → Exchanged (trace_of talk) ask say) → names_in Kind.Snapshot es ≡ names_in Kind.Snapshot then → Obeys (forget_task who) (ForgetAllows choice) (ForgetGives choice) (trace_of talk) → Led from talk to
    → IsDecided choice es rows → IsDecided choice then others → IsChosen choice others n → IsChosen choice rows n
chosen_again who (Choice.Names names) from talk to rows others es then n among before same o h known other chosen = chosen
chosen_again who (Choice.Keep policy) from talk to rows others es then n among before same o h known other chosen =
    let one : others ≡ rows = rows_one from others rows (other.names ∙ (sym same ∙ sym known.names)) (stored who (Choice.Keep policy) from talk to others then before o h other.each) (stored who (Choice.Keep policy) from talk to rows es among o h known.each) in
    subst (λ rs. IsChosen (Choice.Keep policy) rs n) one chosen
chosen_again who (Choice.KeepOf host policy) from talk to rows others es then n among before same o h known other chosen =
    let one : others ≡ rows = rows_one from others rows (other.names ∙ (sym same ∙ sym known.names)) (stored who (Choice.KeepOf host policy) from talk to others then before o h other.each) (stored who (Choice.KeepOf host policy) from talk to rows es among o h known.each) in
    subst (λ rs. IsChosen (Choice.KeepOf host policy) rs n) one chosen

pub forget_leaves : ForgetLeavesTheOthers
forget_leaves who choice from to failed failing talk next names ran is =
    let es : Trace = trace_of talk in
    let h = led from talk to ran.run in
    let o = is.obeys in
    let told : IsForgotten choice (before_unlock es) names = is.concluded (Outcome.Forgotten names) refl in
    let rows = told.chosen.rows in
    let known = told.chosen.decided in
    let complete : is_complete Kind.Snapshot es ≡ true = sym (complete_before Kind.Snapshot es) ∙ known_listed choice (before_unlock es) rows known in
    let among = exchanged_before es in (
      rows,
      chosen_from who choice from talk to rows (before_unlock es) among (names_before Kind.Snapshot es) o h complete known,
      λ n x. (
        λ there. (
            let first = fewer who choice from talk to Kind.Snapshot n x o h there in (
              first,
              λ chosen.
                  let lists : Lists (before_unlock es) Kind.Snapshot n = subst (λ ns. Has ns n) (sym (names_before Kind.Snapshot es)) (listed who choice from talk to n x o h complete first) in
                  let done = told.done n ((told.chosen.each n).1 (lists, chosen)) in
                  let put = (seen_run from talk to h).deleted done.0 Kind.Snapshot n x (among (Ask.Delete done.0 Kind.Snapshot n) Say.Done done.1) there in
                  no_put who choice from es put.0 Kind.Snapshot n put.1 o put.2,
            )),
        λ both. ⊎_elim (λ there. there)
            (λ d.
            let by = deleted_by who choice from es n o d in
            absurd (both.1 (chosen_again who choice from talk to rows by.rule.rows (before_unlock es) by.then n among by.among (names_before Kind.Snapshot es ∙ sym by.names) o h known by.rule.decided by.rule.chosen)))
            (left who choice from talk to Kind.Snapshot n x h both.0),
      ),
    )
