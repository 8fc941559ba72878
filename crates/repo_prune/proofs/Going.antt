-- Going down the rows of each host, from the newest on.
use Rattle.std.proofs.Common.{arith, ◌≡◌, ◌≢◌, ◌≤◌, ◌<◌, ◌+◌, ◌-◌, ◌^◌, ◌/◌, ◌++◌, ◌∷◌, ◌&&◌, ◌↔◌, [], ℕ, Bool, true, false, List, Option, Some, None, length, min, take, slice_get, suc, refl, sym, ap, subst, inl, inr, ◌⊎◌, ◌∙◌, Contains, zero, get_or, ⊎_elim, cond, map, option_map}
use Rattle.std.specs.Borrow.{Bor}
use Rattle.std.specs.List.Sorted.{IsStrictlySortedBy, IsSortedBy, IsPermutation}
use Rattle.std.specs.Cmp.{IsTotalOrder, IsStrictWeakOrder, nat_cmp_total}
use Rattle.std.specs.Cmp.Lexicographic.{slice_cmp}
use Rattle.std.specs.List.{count_by}
use Rattle.std.specs.Ordering.{nat_cmp, is_lt, is_eq, ordering_then, ordering_reverse, MatchOrdering}
use Rattle.std.specs.declared.cmp.Ordering.{Ordering}
use Rattle.std.specs.declared.cmp.Ordering.TheVariants.{Less, Equal, Greater}
use Rattle.std.specs.Cmp.{ranks, nat_cmp_is}
use Rattle.std.specs.List.{AllByRecursion}
use Rattle.std.proofs.lemmas.Cmp.{eq_by_cmp_equiv}
use Rattle.std.proofs.lemmas.Map.Lookups.{exact_bytes}
use Rattle.std.proofs.lemmas.Option.{slice_get_within, slice_get-get_or, get_or_from_slice_get, slice_get-map}
use Rattle.repo_name.specs.Naming.{name_cmp}
use Rattle.repo_name.specs.declared.names.Name.{Name}
use Rattle.std.proofs.lemmas.List.Sorted.{Contains-permutation, IsPermutation-sym, sum_by-IsPermutation}
use Rattle.std.proofs.lemmas.List.Sums.{sum_by-append, count_by_more_yes}
use Rattle.std.proofs.lemmas.List.Elements.{Contains-append_left, Contains-append_right, Contains-append_cases}
use Rattle.repo_name.proofs.Containing.{none_contained, first_contained, later_contained, contained_or}
use Rattle.repo_index.proofs.OrderLemmas.{names_exact}
use Rattle.repo_index.proofs.SameLemmas.{sorted_same}
use Rattle.repo_prune.proofs.Picks.{is_equal}
use Rattle.std.proofs.lemmas.Cmp.{on_total, then_total, nat_list_cmp_total}
use Rattle.std.proofs.lemmas.List.MinMax.{ranks_by}
use Rattle.repo_index.specs.Order.{names_total}
use Rattle.repo_prune.specs.declared.keeping.Policy.{Policy}
use Rattle.repo_prune.specs.declared.standings.Standing.{Standing}
use Rattle.repo_prune.specs.Keeping.{Row, day, IsLater, HasLater, IsLastOfDay, AreLaterDays, IsKept, AreKept}
use Rattle.repo_prune.specs.inner.Walks.{row_cmp, is_before, same_host, is_later, Descends, Counts, GoesDown, RowStandsAt, IsKeptAt}

pub rows_total : IsTotalOrder row_cmp
rows_total = then_total (on_total (λ (r : Row). r.1.host) nat_list_cmp_total) (then_total (on_total (λ (r : Row). r.1.time) nat_cmp_total) (on_total (λ (r : Row). r.0) names_total))

rows_strict : IsStrictWeakOrder is_before
rows_strict = ranks_by rows_total (λ (r : Row). r)

pub newest_strict : IsStrictWeakOrder (λ (a b : Bor Row). is_before b.now a.now)
newest_strict = record { one_way = λ x y h. rows_strict.one_way y.now x.now h; chain = λ x y z h k. rows_strict.chain z.now y.now x.now k h }

-- ---- the order of rows

same_or_not : (a b : ℕ) → (a ≡ b) ⊎ (a ≢ b)
same_or_not a b = by (nat_cmp a b) (ranks a b)
  where
    by : (o : Ordering) → MatchOrdering o (a < b) (a ≡ b) (b < a) → (a ≡ b) ⊎ (a ≢ b)
    by Less h = inr (λ e. absurd (omega (arith, h, e)))
    by Equal h = inl h
    by Greater h = inr (λ e. absurd (omega (arith, h, e)))

lt_or_le : (a b : ℕ) → (a < b) ⊎ (b ≤ a)
lt_or_le a b = by (nat_cmp a b) (ranks a b)
  where
    by : (o : Ordering) → MatchOrdering o (a < b) (a ≡ b) (b < a) → (a < b) ⊎ (b ≤ a)
    by Less h = inl h
    by Equal h = inr (omega (arith, h))
    by Greater h = inr (omega (arith, h))

at_itself : (a : Row) → is_before a a ≡ false
at_itself a = by (is_before a a) refl
  where
    by : (b : Bool) → is_before a a ≡ b → is_before a a ≡ false
    by true h = rows_strict.one_way a a h
    by false h = h

-- a row stands at or above another one of its host: its time isn't less
time_falls : (o : Ordering) (n : Ordering) (s t : ℕ) → MatchOrdering o (s < t) (s ≡ t) (t < s) → is_lt (ordering_then o n) ≡ false → t ≤ s
time_falls Less n s t h b = absurd (cc)
time_falls Equal n s t h b = omega (arith, h)
time_falls Greater n s t h b = omega (arith, h)

hosts_tie : (a b : Row) → b.1.host ≡ a.1.host → slice_cmp nat_cmp a.1.host b.1.host ≡ Equal
hosts_tie a b h = subst (λ l. slice_cmp nat_cmp a.1.host l ≡ Equal) (sym h) (is_equal (slice_cmp nat_cmp a.1.host a.1.host) ((eq_by_cmp_equiv nat_list_cmp_total).refl a.1.host))

in_host : (a b : Row) → b.1.host ≡ a.1.host → row_cmp a b ≡ ordering_then (nat_cmp a.1.time b.1.time) (name_cmp a.0 b.0)
in_host a b h = ap (λ o. ordering_then o (ordering_then (nat_cmp a.1.time b.1.time) (name_cmp a.0 b.0))) (hosts_tie a b h)

pub not_sooner : (a b : Row) → b.1.host ≡ a.1.host → is_before a b ≡ false → b.1.time ≤ a.1.time
not_sooner a b h q = time_falls (nat_cmp a.1.time b.1.time) (name_cmp a.0 b.0) a.1.time b.1.time (ranks a.1.time b.1.time) (ap is_lt (sym (in_host a b h)) ∙ q)

-- later rows, by the test
later_at : (o n : Ordering) (s t : ℕ) → MatchOrdering o (s < t) (s ≡ t) (t < s) → is_lt (ordering_then o n) ≡ true → (s < t) ⊎ ((s ≡ t) × (n ≡ Less))
later_at Less n s t h q = inl h
later_at Equal Less s t h q = inr (h, refl)
later_at Equal Equal s t h q = absurd (cc)
later_at Equal Greater s t h q = absurd (cc)
later_at Greater n s t h q = absurd (cc)

test_at : (o n : Ordering) (s t : ℕ) → MatchOrdering o (s < t) (s ≡ t) (t < s) → (s < t) ⊎ ((s ≡ t) × (n ≡ Less)) → is_lt (ordering_then o n) ≡ true
test_at Less n s t h q = refl
test_at Equal n s t h (inl less) = absurd (omega (arith, h, less))
test_at Equal n s t h (inr even) = ap is_lt even.1
test_at Greater n s t h (inl less) = absurd (omega (arith, h, less))
test_at Greater n s t h (inr even) = absurd (omega (arith, h, even.0))

pub is_later_row : (a b : Row) → b.1.host ≡ a.1.host → is_before a b ≡ true → IsLater a b
is_later_row a b h q = (h, later_at (nat_cmp a.1.time b.1.time) (name_cmp a.0 b.0) a.1.time b.1.time (ranks a.1.time b.1.time) (ap is_lt (sym (in_host a b h)) ∙ q))

pub later_before : (a b : Row) → IsLater a b → is_before a b ≡ true
later_before a b h = ap is_lt (in_host a b h.0) ∙ test_at (nat_cmp a.1.time b.1.time) (name_cmp a.0 b.0) a.1.time b.1.time (ranks a.1.time b.1.time) h.1

pub host_by_test : (a b : Row) → same_host a b ≡ true → b.1.host ≡ a.1.host
host_by_test a b h = sym (exact_bytes a.1.host b.1.host (is_equal (slice_cmp nat_cmp a.1.host b.1.host) h))

pub test_by_host : (a b : Row) → b.1.host ≡ a.1.host → same_host a b ≡ true
test_by_host a b h = ap is_eq (hosts_tie a b h)

-- ---- rows that descend
module _ (rows : List Row) (descends : Descends rows) where
  -- a row stands at or above each one after it
  down_by : (j n : ℕ) (a b : Row) → slice_get rows j ≡ Some a → slice_get rows (j + n) ≡ Some b → is_before a b ≡ false
  down_by j zero a b p q = let same : a ≡ b = (let e : slice_get rows j ≡ Some b = subst (λ i. slice_get rows i ≡ Some b) (omega arith) q in cc) in subst (λ r. is_before a r ≡ false) same (at_itself a)
  down_by j (suc n) a b p q =
      let past : slice_get rows (j + n + 1) ≡ Some b = subst (λ i. slice_get rows i ≡ Some b) (omega arith) q in
      let within = slice_get_within rows (j + n + 1) b past in
      let mid = slice_get-get_or rows (j + n) a (omega (arith, within)) in
      let c = get_or rows (j + n) a in
      rows_strict.chain a c b (down_by j n a c p mid) (descends (j + n) c b mid past)

  pub down : (j k : ℕ) (a b : Row) → j ≤ k → slice_get rows j ≡ Some a → slice_get rows k ≡ Some b → is_before a b ≡ false
  down j k a b le p q = let more : k ≡ j + (k - j) = omega (arith, le) in down_by j (k - j) a b p (subst (λ i. slice_get rows i ≡ Some b) more q)

  -- each row stands before a place, or at it or after it
  pub splits : (place : ℕ) (m : Row) → slice_get rows place ≡ Some m → (r : Row) → Contains rows r → ((j : ℕ) × (j < place) × (slice_get rows j ≡ Some r)) ⊎ (is_before m r ≡ false)
  splits place m here r has =
      let at : slice_get rows has.0 ≡ Some r = slice_get-get_or rows has.0 r has.1 ∙ ap (λ x. Some x) has.2 in
      ⊎_elim (λ (less : has.0 < place). inl (has.0, less, at)) (λ (le : place ≤ has.0). inr (down place has.0 m r le here at)) (lt_or_le has.0 place)

-- ---- counts

both_more : (b c : Bool) (n m : ℕ) → b ≡ c → n ≡ m → (0 + cond b 1 0) + n ≡ (0 + cond c 1 0) + m
both_more b c n m h k = ap (λ x. (0 + cond x 1 0) + n) h ∙ ap (λ x. (0 + cond c 1 0) + x) k

module _ {X : Type 0} where
  counted : (f : X → Bool) (x : X) (xs : List X) → count_by f (x ∷ xs) ≡ (0 + cond (f x) 1 0) + count_by f xs
  counted f x xs = sum_by-append (λ y. cond (f y) 1 0) (x ∷ []) xs

  -- none of the first elements passes
  count_none : (f : X → Bool) (xs : List X) (i : ℕ) → ((j : ℕ) (x : X) → slice_get xs j ≡ Some x → j < i → f x ≡ false) → count_by f (take i xs) ≡ 0
  count_none f [] zero h = refl
  count_none f [] (suc i) h = refl
  count_none f (x ∷ xs) zero h = refl
  count_none f (x ∷ xs) (suc i) h = counted f x (take i xs) ∙ both_more (f x) false (count_by f (take i xs)) 0 (h 0 x refl (omega arith)) (count_none f xs i (λ j y q less. h (suc j) y q (omega (arith, less))))

  -- of those from a place on none passes, and before it one test is the other
  count_split : (f g : X → Bool) (xs : List X) (i : ℕ) → ((j : ℕ) (x : X) → slice_get xs j ≡ Some x → j < i → f x ≡ g x) → ((j : ℕ) (x : X) → slice_get xs j ≡ Some x → i ≤ j → f x ≡ false)
      → count_by f xs ≡ count_by g (take i xs)
  count_split f g [] zero h k = refl
  count_split f g [] (suc i) h k = refl
  count_split f g (x ∷ xs) zero h k = counted f x xs ∙ both_more (f x) false (count_by f xs) 0 (k 0 x refl (omega arith)) (count_split f g xs zero (λ j y q less. absurd (omega (arith, less))) (λ j y q le. k (suc j) y q (omega arith)))
  count_split f g (x ∷ xs) (suc i) h k =
      counted f x xs ∙ both_more (f x) (g x) (count_by f xs) (count_by g (take i xs)) (h 0 x refl (omega arith))
      (count_split f g xs i (λ j y q less. h (suc j) y q (omega (arith, less))) (λ j y q le. k (suc j) y q (omega (arith, le)))) ∙ sym (counted g x (take i xs))

-- ---- rows of one host

later_by_test : (a b : Row) → is_later a b ≡ true → IsLater a b
later_by_test a b q = by (same_host a b) refl q
  where
    by : (s : Bool) → same_host a b ≡ s → (s && is_before a b) ≡ true → IsLater a b
    by true h k = is_later_row a b (host_by_test a b h) k
    by false h k = absurd (cc)

test_by_later : (a b : Row) → IsLater a b → is_later a b ≡ true
test_by_later a b h = ap (λ s. s && is_before a b) (test_by_host a b h.0) ∙ later_before a b h

not_later : (a b : Row) → ¬ IsLater a b → is_later a b ≡ false
not_later a b h = by (is_later a b) refl
  where
    by : (s : Bool) → is_later a b ≡ s → is_later a b ≡ false
    by true q = absurd (h (later_by_test a b q))
    by false q = q

later_false : (a b : Row) → (b.1.host ≡ a.1.host → is_before a b ≡ false) → is_later a b ≡ false
later_false a b h = by (same_host a b) refl
  where
    by : (s : Bool) → same_host a b ≡ s → (s && is_before a b) ≡ false
    by true q = h (host_by_test a b q)
    by false q = refl

other_host : (a b : Row) → b.1.host ≢ a.1.host → same_host a b ≡ false
other_host a b h = by (same_host a b) refl
  where
    by : (s : Bool) → same_host a b ≡ s → same_host a b ≡ false
    by true q = absurd (h (host_by_test a b q))
    by false q = q

and_true : (a b : Bool) → b ≡ true → (a && b) ≡ a
and_true true b h = h
and_true false b h = refl

tie_at : (o n : Ordering) (s t : ℕ) → MatchOrdering o (s < t) (s ≡ t) (t < s) → ordering_then o n ≡ Equal → (s ≡ t) × (n ≡ Equal)
tie_at Less n s t h q = absurd (cc)
tie_at Equal n s t h q = (h, q)
tie_at Greater n s t h q = absurd (cc)

days_move : (rows : List Row) (a b : Row) (days : List ℕ) → a.1.host ≡ b.1.host → day a ≡ day b → AreLaterDays rows a days → AreLaterDays rows b days
days_move rows a b days host same h = record {
  each = λ d. let e = h.each d in (
    λ has. let r = e.0 has in (r.0, r.1, r.2 ∙ host, r.3, omega (arith, r.4, same)),
    λ r. e.1 (r.0, r.1, r.2 ∙ sym host, r.3, omega (arith, r.4, same)),
  );
  ascend = h.ascend;
}

day_falls : (a b : Row) → b.1.time ≤ a.1.time → day b ≤ day a
day_falls a b h = omega (arith, h)

-- ---- where a row stands
module _ (rows : List Row) (descends : Descends rows) (place : ℕ) (m : Row) (here : slice_get rows place ≡ Some m) where
  -- one more row of its host was seen
  one_seen : (n : ℕ) → count_by (same_host m) (take place rows) ≡ n → count_by (same_host m) (take (place + 1) rows) ≡ n + 1
  one_seen n q = count_by_more_yes (same_host m) rows place m (slice_get_within rows place m here) (ap (same_host m) (get_or_from_slice_get rows place m m here) ∙ test_by_host m m refl) ∙ ap (λ x. x + 1) q

  -- later ones stand before it
  is_earlier : (r : Row) → Contains rows r → IsLater m r → (j : ℕ) × (j < place) × (slice_get rows j ≡ Some r)
  is_earlier r has later = ⊎_elim (λ (found : (j : ℕ) × (j < place) × (slice_get rows j ≡ Some r)). found) (λ (below : is_before m r ≡ false). let above = later_before m r later in absurd (cc)) (splits rows descends place m here r has)

  not_after : (j : ℕ) (r : Row) → slice_get rows j ≡ Some r → place ≤ j → is_later m r ≡ false
  not_after j r q le = later_false m r (λ host. down rows descends place j m r le here q)

  -- the newest row of its host
  module _ (none : (j : ℕ) (r : Row) → slice_get rows j ≡ Some r → j < place → r.1.host ≢ m.1.host) where
    no_earlier : (j : ℕ) (r : Row) → slice_get rows j ≡ Some r → j < place → is_later m r ≡ false
    no_earlier j r q less = later_false m r (λ host. absurd (none j r q less host))

    pub first_stands : (s : Standing) → s.row.now ≡ m → s.seen ≡ 1 → s.later ≡ 0 → s.days ≡ 0 → s.is_last ≡ true → RowStandsAt rows place m s
    unfolding IsStrictlySortedBy
    first_stands s same seen later days last = record {
      here = here;
      same = same;
      seen = let n = one_seen 0 (count_none (same_host m) rows place (λ j r q less. other_host m r (none j r q less))) in omega (arith, seen, n);
      later = let n = count_split (is_later m) (is_later m) rows place (λ j r q less. refl) not_after ∙ count_none (is_later m) rows place no_earlier in omega (arith, later, n);
      days = ([], record { each = λ d. (λ has. absurd (none_contained d has), λ r. absurd (no_day r.0 r.1 r.2 d r.3 r.4)); ascend = tt }, omega (arith, days));
      last = (λ yes r has is. let e = is_earlier r has is in absurd (none e.0 r e.2 e.1 is.0), λ yes. last);
    }
      where
        no_day : (r : Row) → Contains rows r → r.1.host ≡ m.1.host → (d : ℕ) → day r ≡ d → day m < d → ⊥
        no_day r has host d is above = ⊎_elim (λ (found : (j : ℕ) × (j < place) × (slice_get rows j ≡ Some r)). none found.0 r found.2 found.1 host)
            (λ (below : is_before m r ≡ false). let falls = day_falls m r (not_sooner m r host below) in absurd (omega (arith, falls, is, above))) (splits rows descends place m here r has)

  -- the next row of the host of the one before it
  module _ (before : ℕ) (next : place ≡ before + 1) (p : Row) (s : Standing) (stood : RowStandsAt rows before p s) (host : p.1.host ≡ m.1.host) where
    above : is_before p m ≡ false
    above = down rows descends before place p m (omega (arith, next)) stood.here here

    earlier_above : (j : ℕ) (r : Row) → slice_get rows j ≡ Some r → j < place → is_before r p ≡ false
    earlier_above j r q less = down rows descends j before r p (omega (arith, next, less)) q stood.here

    one_host : (r : Row) → same_host m r ≡ same_host p r
    one_host r = ap (λ h. is_eq (slice_cmp nat_cmp h r.1.host)) (sym host)

    seen_next : (new : ℕ) → new ≡ min (s.seen + 1) (2 ^ 64 - 1) → Counts new (count_by (same_host m) (take (place + 1) rows))
    seen_next new is =
        let tests : count_by (same_host m) (take place rows) ≡ count_by (same_host p) (take place rows) = ap (λ f. count_by f (take place rows)) (λ i r. one_host r i) in
        let n = one_seen (count_by (same_host p) (take (before + 1) rows)) (tests ∙ ap (λ k. count_by (same_host p) (take k rows)) next) in
        let old = stood.seen in
        omega (arith, is, n, old)

    p_there : Contains rows p
    p_there = (before, slice_get_within rows before p stood.here, get_or_from_slice_get rows before p p stood.here)

    -- it stands where that stands
    module _ (tie : row_cmp m p ≡ Equal) where
      keys : (m.1.time ≡ p.1.time) × (m.0 ≡ p.0)
      keys = let t = tie_at (nat_cmp m.1.time p.1.time) (name_cmp m.0 p.0) m.1.time p.1.time (ranks m.1.time p.1.time) (sym (in_host m p host) ∙ tie) in (t.0, names_exact m.0 p.0 t.1)

      tests_tie : (r : Row) → is_later m r ≡ is_later p r
      tests_tie r = ap (λ b. b && is_before m r) (one_host r) ∙ ap (λ o. same_host p r && is_lt o) (rows_total.congr m p r tie)

      same_day : day m ≡ day p
      same_day = ap (λ t. t / 86400) keys.0

      later_too : (r : Row) → IsLater m r → IsLater p r
      later_too r h = (h.0 ∙ sym host, elim h.1 [ inl less ↦ inl (let t = keys.0 in omega (arith, less, t)) | inr even ↦ inr (sym keys.0 ∙ even.0, subst (λ n. name_cmp n r.0 ≡ Less) keys.1 even.1) ])

      later_back : (r : Row) → IsLater p r → IsLater m r
      later_back r h = (h.0 ∙ host, elim h.1 [ inl less ↦ inl (let t = keys.0 in omega (arith, less, t)) | inr even ↦ inr (keys.0 ∙ even.0, subst (λ n. name_cmp n r.0 ≡ Less) (sym keys.1) even.1) ])

      pub tie_stands : (new : Standing) → new.row.now ≡ m → new.seen ≡ min (s.seen + 1) (2 ^ 64 - 1) → new.later ≡ s.later → new.days ≡ s.days → new.is_last ≡ s.is_last → RowStandsAt rows place m new
      tie_stands new same seen later days last = record {
        here = here;
        same = same;
        seen = seen_next new.seen seen;
        later = later ∙ stood.later ∙ ap (λ n. min n (2 ^ 64 - 1)) (ap (λ f. count_by f rows) (λ i r. sym (tests_tie r) i));
        days = (stood.days.0, days_move rows p m stood.days.0 host (sym same_day) stood.days.1, days ∙ stood.days.2);
        last = (
          λ yes r has is e. stood.last.0 (sym last ∙ yes) r has (later_too r is) (e ∙ same_day),
          λ all. last ∙ stood.last.1 (λ r has is e. all r has (later_back r is) (e ∙ sym same_day)),
        );
      }

    -- it stands below that
    module _ (less : is_before m p ≡ true) where
      strictly : (j : ℕ) (r : Row) → slice_get rows j ≡ Some r → j < place → is_before m r ≡ true
      strictly j r q within = by (is_before m r) refl
        where
          by : (b : Bool) → is_before m r ≡ b → is_before m r ≡ true
          by true h = h
          by false h = let not = rows_strict.chain m r p h (earlier_above j r q within) in absurd (cc)

      later_next : (new : ℕ) → new ≡ s.seen → Counts new (count_by (is_later m) rows)
      later_next new is =
          let n = count_split (is_later m) (same_host p) rows place (λ j r q within. and_true (same_host m r) (is_before m r) (strictly j r q within) ∙ one_host r) not_after in
          is ∙ stood.seen ∙ ap (λ k. min k (2 ^ 64 - 1)) (ap (λ k. count_by (same_host p) (take k rows)) (sym next) ∙ sym n)

      pub same_day_stands : (new : Standing) → new.row.now ≡ m → day m ≡ day p → new.seen ≡ min (s.seen + 1) (2 ^ 64 - 1) → new.later ≡ s.seen → new.days ≡ s.days → new.is_last ≡ false → RowStandsAt rows place m new
      same_day_stands new same one seen later days last = record {
        here = here;
        same = same;
        seen = seen_next new.seen seen;
        later = later_next new.later later;
        days = (stood.days.0, days_move rows p m stood.days.0 host (sym one) stood.days.1, days ∙ stood.days.2);
        last = (λ yes. absurd (cc), λ all. absurd (all p p_there (is_later_row m p host less) (sym one)));
      }

      pub other_day_stands : (new : Standing) → new.row.now ≡ m → day m ≢ day p → new.seen ≡ min (s.seen + 1) (2 ^ 64 - 1) → new.later ≡ s.seen → new.days ≡ min (s.days + 1) (2 ^ 64 - 1) → new.is_last ≡ true → RowStandsAt rows place m new
      unfolding IsStrictlySortedBy
      other_day_stands new same other seen later days last = record {
        here = here;
        same = same;
        seen = seen_next new.seen seen;
        later = later_next new.later later;
        days = (day p ∷ stood.days.0, one_more_day, (let old = stood.days.2 in omega (arith, days, old)));
        last = (λ yes r has is e. (let e2 = earlier_day r has is in absurd (omega (arith, e2, lower, e))), λ all. last);
      }
        where
          lower : day m < day p
          lower = ⊎_elim (λ (below : day m < day p). below) (λ (le : day p ≤ day m). let falls = day_falls p m (not_sooner p m (sym host) above) in absurd (other (omega (arith, le, falls)))) (lt_or_le (day m) (day p))

          earlier_day : (r : Row) → Contains rows r → IsLater m r → day p ≤ day r
          earlier_day r has is = let e = is_earlier r has is in day_falls r p (not_sooner r p (host ∙ sym is.0) (earlier_above e.0 r e.2 e.1))

          all_over : (ds : List ℕ) → ((d : ℕ) → Contains ds d → day p < d) → AllByRecursion (λ y. nat_cmp (day p) y ≡ Less) ds
          all_over [] h = tt
          all_over (d ∷ ds) h = (sym (nat_cmp_is (day p) d Less (h d (first_contained d ds))), all_over ds (λ x has. h x (later_contained d ds x has)))

          -- a row of a later day stands before this one
          day_of : (r : Row) → Contains rows r → r.1.host ≡ m.1.host → day m < day r → day p ≤ day r
          day_of r has h over = ⊎_elim (λ (found : (j : ℕ) × (j < place) × (slice_get rows j ≡ Some r)). day_falls r p (not_sooner r p (host ∙ sym h) (earlier_above found.0 r found.2 found.1)))
              (λ (below : is_before m r ≡ false). let falls = day_falls m r (not_sooner m r h below) in absurd (omega (arith, falls, over))) (splits rows descends place m here r has)

          one_more_day : AreLaterDays rows m (day p ∷ stood.days.0)
          one_more_day = record {
            each = λ d. (
              λ has. elim (contained_or (day p) stood.days.0 d has) [
                | inl now ↦ (p, p_there, host, now, (let l = lower in omega (arith, l, now)))
                | inr more ↦ (let r = (stood.days.1.each d).0 more in let l = lower in (r.0, r.1, r.2 ∙ host, r.3, omega (arith, l, r.4)))
              ],
              λ r. elim (lt_or_le (day p) d) [
                | inl over ↦ later_contained (day p) stood.days.0 d ((stood.days.1.each d).1 (r.0, r.1, r.2 ∙ sym host, r.3, over))
                | inr le ↦ (let of = day_of r.0 r.1 r.2 (omega (arith, r.3, r.4)) in let is : day p ≡ d = omega (arith, of, le, r.3) in subst (λ x. Contains (x ∷ stood.days.0) d) (sym is) (first_contained d stood.days.0))
              ],
            );
            ascend = (all_over stood.days.0 (λ d has. ((stood.days.1.each d).0 has).4), stood.days.1.ascend);
          }

-- the rows of a host stand together
pub apart : (rows : List Row) (descends : Descends rows) (before : ℕ) (p m : Row) → slice_get rows before ≡ Some p → slice_get rows (before + 1) ≡ Some m → p.1.host ≢ m.1.host
    → (j : ℕ) (r : Row) → slice_get rows j ≡ Some r → j < before + 1 → r.1.host ≢ m.1.host
apart rows descends before p m at here other j r q less same =
    let over = host_falls r p (down rows descends j before r p (omega (arith, less)) q at) in
    let under = host_falls p m (descends before p m at here) in
    other (between p.1.host m.1.host (subst (λ h. is_lt (slice_cmp nat_cmp h p.1.host) ≡ false) same over) under)
  where
    first_falls : (o n : Ordering) → is_lt (ordering_then o n) ≡ false → is_lt o ≡ false
    first_falls Less n h = h
    first_falls Equal n h = refl
    first_falls Greater n h = refl

    host_falls : (a b : Row) → is_before a b ≡ false → is_lt (slice_cmp nat_cmp a.1.host b.1.host) ≡ false
    host_falls a b h = first_falls (slice_cmp nat_cmp a.1.host b.1.host) (ordering_then (nat_cmp a.1.time b.1.time) (name_cmp a.0 b.0)) h

    by_both : (o n : Ordering) → o ≡ ordering_reverse n → is_lt o ≡ false → is_lt n ≡ false → o ≡ Equal
    by_both Less n r h k = absurd (cc)
    by_both Equal n r h k = refl
    by_both Greater Less r h k = absurd (cc)
    by_both Greater Equal r h k = absurd (cc)
    by_both Greater Greater r h k = absurd (cc)

    between : (a b : List ℕ) → is_lt (slice_cmp nat_cmp b a) ≡ false → is_lt (slice_cmp nat_cmp a b) ≡ false → a ≡ b
    between a b h k = exact_bytes a b (by_both (slice_cmp nat_cmp a b) (slice_cmp nat_cmp b a) (nat_list_cmp_total.antisymm a b) k h)

-- where the next row of a host stands
pub next_stands : (rows : List Row) (descends : Descends rows) (place : ℕ) (m : Row) (here : slice_get rows place ≡ Some m) (before : ℕ) (next : place ≡ before + 1) (p : Row) (s : Standing) (stood : RowStandsAt rows before p s) (host : p.1.host ≡ m.1.host)
    (new : Standing) → new.row.now ≡ m → s.row.now ≡ p → GoesDown s m new → RowStandsAt rows place m new
next_stands rows descends place m here before next p s stood host new same was goes = by (row_cmp m p) refl
  where
    not_less : (o : Ordering) → row_cmp m p ≡ o → o ≡ Less → RowStandsAt rows place m new
    not_less o q h = let less : is_before m p ≡ true = ap is_lt (q ∙ h) in
        let differs : row_cmp m s.row.now ≢ Equal = λ e. (let e2 : row_cmp m p ≡ Equal = subst (λ r. row_cmp m r ≡ Equal) was e in absurd (cc)) in
        ⊎_elim (λ (one : day m ≡ day p). let g = goes.same_day differs (one ∙ ap day (sym was)) in same_day_stands rows descends place m here before next p s stood host less new same one goes.seen g.0 g.1 g.2)
        (λ (other : day m ≢ day p). let g = goes.other_day differs (λ e. other (e ∙ ap day was)) in other_day_stands rows descends place m here before next p s stood host less new same other goes.seen g.0 g.1 g.2) (same_or_not (day m) (day p))

    by : (o : Ordering) → row_cmp m p ≡ o → RowStandsAt rows place m new
    by Less q = not_less Less q refl
    by Equal q = let g = goes.equal (subst (λ r. row_cmp m r ≡ Equal) (sym was) q) in tie_stands rows descends place m here before next p s stood host q new same goes.seen g.0 g.1 g.2
    by Greater q = let back : row_cmp p m ≡ Less = rows_total.antisymm p m ∙ ap ordering_reverse q in let not = down rows descends before place p m (omega (arith, next)) stood.here here in absurd (cc)

-- ---- whether a row is kept

days_same : (rows : List Row) (row : Row) (ds es : List ℕ) → AreLaterDays rows row ds → AreLaterDays rows row es → ds ≡ es
days_same rows row ds es h k = sorted_same nat_cmp nat_cmp_total ds es h.ascend k.ascend (λ d has. (k.each d).1 ((h.each d).0 has)) (λ d has. (h.each d).1 ((k.each d).0 has))

-- a row that isn't one of the last ones is kept by its day
pub kept_by_day : (policy : Policy) (rows : List Row) (row : Row) (place : ℕ) (s : Standing) → RowStandsAt rows place row s → policy.last ≤ s.later → s.is_last ≡ true → policy.last < 2 ^ 32 → policy.daily < 2 ^ 32
    → (s.days < policy.daily) ↔ IsKeptAt policy rows row
kept_by_day policy rows row place s h many is last daily = (
  λ few. let ds = h.days in let count = ds.2 in inr (h.last.0 is, (ds.0, ds.1, omega (arith, few, count, daily))),
  λ kept. elim kept [
    | inl few ↦ (let later = h.later in absurd (omega (arith, few, many, later, last)))
    | inr by ↦ (let ds = h.days in let few = by.1.2 in let count = ds.2 in let same = ap length (days_same rows row ds.0 by.1.0 ds.1 by.1.1) in omega (arith, few, same, count))
  ],
)

-- ---- the rows as they were handed in

has_later : (row : Row) (rows : List Row) → HasLater row rows (count_by (is_later row) rows)
has_later row [] = refl
has_later row (r ∷ rows) = by (is_later row r) refl (has_later row rows)
  where
    by : (b : Bool) → is_later row r ≡ b → HasLater row rows (count_by (is_later row) rows) → HasLater row (r ∷ rows) (count_by (is_later row) (r ∷ rows))
    by true q rest = let more = counted (is_later row) r rows ∙ ap (λ x. (0 + cond x 1 0) + count_by (is_later row) rows) q in inl (later_by_test row r q, count_by (is_later row) rows, rest, omega (arith, more))
    by false q rest = let same = counted (is_later row) r rows ∙ ap (λ x. (0 + cond x 1 0) + count_by (is_later row) rows) q in
        inr ((λ later. let is = test_by_later row r later in absurd (cc)), subst (λ n. HasLater row rows n) (let e : count_by (is_later row) rows ≡ count_by (is_later row) (r ∷ rows) = omega (arith, same) in e) rest)

only_later : (row : Row) (rows : List Row) (count : ℕ) → HasLater row rows count → count ≡ count_by (is_later row) rows
only_later row [] count h = h
only_later row (r ∷ rows) count (inl more) =
    let rest = only_later row rows more.1 more.2 in
    let here = counted (is_later row) r rows ∙ ap (λ x. (0 + cond x 1 0) + count_by (is_later row) rows) (test_by_later row r more.0) in
    omega (arith, rest, here, more.3)
only_later row (r ∷ rows) count (inr same) =
    let rest = only_later row rows count same.1 in
    let here = counted (is_later row) r rows ∙ ap (λ x. (0 + cond x 1 0) + count_by (is_later row) rows) (not_later row r same.0) in
    omega (arith, rest, here)

last_among : (rows others : List Row) (row : Row) → ((r : Row) → Contains others r → Contains rows r) → IsLastOfDay rows row → IsLastOfDay others row
last_among rows others row back h r has later = h r (back r has) later

days_among : (rows others : List Row) (row : Row) (days : List ℕ) → ((r : Row) → Contains rows r → Contains others r) → ((r : Row) → Contains others r → Contains rows r) → AreLaterDays rows row days → AreLaterDays others row days
days_among rows others row days there back h = record {
  each = λ d. let e = h.each d in (λ has. let r = e.0 has in (r.0, there r.0 r.1, r.2, r.3, r.4), λ r. e.1 (r.0, back r.0 r.1, r.2, r.3, r.4));
  ascend = h.ascend;
}

-- a row is kept among the sorted ones where it is among those handed in
pub kept_among : (policy : Policy) (sorted rows : List Row) → ((r : Row) → Contains sorted r → Contains rows r) → ((r : Row) → Contains rows r → Contains sorted r) → ((f : Row → Bool) → count_by f sorted ≡ count_by f rows) → (row : Row)
    → IsKeptAt policy sorted row ↔ IsKept policy rows row
kept_among policy sorted rows there back counts row = (
  λ kept. elim kept [
    | inl few ↦ inl (count_by (is_later row) rows, has_later row rows, (let same = counts (is_later row) in omega (arith, few, same)))
    | inr by ↦ inr (last_among sorted rows row back by.0, (by.1.0, days_among sorted rows row by.1.0 there back by.1.1, by.1.2))
  ],
  λ kept. elim kept [
    | inl few ↦ inl (let is = only_later row rows few.0 few.1 in let same = counts (is_later row) in omega (arith, is, same, few.2))
    | inr by ↦ inr (last_among rows sorted row there by.0, (by.1.0, days_among rows sorted row by.1.0 back there by.1.1, by.1.2))
  ],
)

-- what a list of references gives
some_of : {A B : Type 0} (v : A → B) (o : Option A) (b : B) → option_map v o ≡ Some b → (a : A) × (o ≡ Some a) × (v a ≡ b)
some_of v None b h = absurd (cc)
some_of v (Some a) b h = (a, refl, cc)

pub sorted_descends : (refs : List (Bor Row)) → IsSortedBy (λ (a b : Bor Row). is_before b.now a.now) refs → Descends (map (λ (r : Bor Row). r.now) refs)
sorted_descends refs sorted k a b p q =
    let x = some_of (λ (r : Bor Row). r.now) (slice_get refs k) a (sym (slice_get-map (λ (r : Bor Row). r.now) refs k) ∙ p) in
    let y = some_of (λ (r : Bor Row). r.now) (slice_get refs (k + 1)) b (sym (slice_get-map (λ (r : Bor Row). r.now) refs (k + 1)) ∙ q) in
    let is = sorted k x.0 (omega arith) (slice_get_within refs (k + 1) y.0 y.1) in
    subst (λ (r : Row). is_before r b ≡ false) (ap (λ (r : Bor Row). r.now) (get_or_from_slice_get refs k x.0 x.0 x.1) ∙ x.2)
    (subst (λ (r : Row). is_before (get_or refs k x.0).now r ≡ false) (ap (λ (r : Bor Row). r.now) (get_or_from_slice_get refs (k + 1) y.0 x.0 y.1) ∙ y.2) is)

-- ---- the names so far
abbrev pub AreNamesTo : Policy → List Row → ℕ → List Name → Type 0
AreNamesTo policy rows end names = (n : Name) → Contains names n ↔ ((place : ℕ) × (row : Row) × (place < end) × (slice_get rows place ≡ Some row) × (row.0 ≡ n) × IsKeptAt policy rows row)

pub name_kept : (policy : Policy) (rows : List Row) (i : ℕ) (row : Row) (names : List Name) → slice_get rows i ≡ Some row → IsKeptAt policy rows row → AreNamesTo policy rows i names → AreNamesTo policy rows (i + 1) (names ++ row.0 ∷ [])
name_kept policy rows i row names here kept h n = (
  λ has. elim (Contains-append_cases names (row.0 ∷ []) n has) [
    | inl before ↦ (let e = (h n).0 before in (e.0, e.1, omega (arith, e.2), e.3, e.4, e.5))
    | inr now ↦ elim (contained_or row.0 [] n now) [ inl is ↦ (i, row, omega arith, here, is, kept) | inr none ↦ absurd (none_contained n none) ]
  ],
  λ e. elim (lt_or_le e.0 i) [
    | inl before ↦ Contains-append_left names (row.0 ∷ []) n ((h n).1 (e.0, e.1, before, e.3, e.4, e.5))
    | inr now ↦ (let at : slice_get rows i ≡ Some e.1 = subst (λ k. slice_get rows k ≡ Some e.1) (omega (arith, now, e.2)) e.3 in let same : row ≡ e.1 = cc in
        Contains-append_right names (row.0 ∷ []) n (subst (λ z. Contains (z ∷ []) n) (sym (ap (λ (r : Row). r.0) same ∙ e.4)) (first_contained n [])))
  ],
)

pub name_passed : (policy : Policy) (rows : List Row) (i : ℕ) (row : Row) (names : List Name) → slice_get rows i ≡ Some row → ¬ IsKeptAt policy rows row → AreNamesTo policy rows i names → AreNamesTo policy rows (i + 1) names
name_passed policy rows i row names here passed h n = (
  λ has. let e = (h n).0 has in (e.0, e.1, omega (arith, e.2), e.3, e.4, e.5),
  λ e. elim (lt_or_le e.0 i) [
    | inl before ↦ (h n).1 (e.0, e.1, before, e.3, e.4, e.5)
    | inr now ↦ (let at : slice_get rows i ≡ Some e.1 = subst (λ k. slice_get rows k ≡ Some e.1) (omega (arith, now, e.2)) e.3 in let same : e.1 ≡ row = cc in absurd (passed (subst (λ r. IsKeptAt policy rows r) same e.5)))
  ],
)

-- ---- the names that are given

-- the names of the rows kept, once each and sorted
pub are_kept : (policy : Policy) (rows sorted : List Row) (names given : List Name) → IsPermutation rows sorted → AreNamesTo policy sorted (length sorted) names → ((n : Name) → Contains given n ↔ Contains names n) → IsStrictlySortedBy name_cmp given
    → AreKept policy rows given
are_kept policy rows sorted names given same to once ascend =
    let there : (r : Row) → Contains sorted r → Contains rows r = λ r h. Contains-permutation sorted rows r (IsPermutation-sym rows sorted same) h in
    let back : (r : Row) → Contains rows r → Contains sorted r = λ r h. Contains-permutation rows sorted r same h in
    let counts : (f : Row → Bool) → count_by f sorted ≡ count_by f rows = λ f. sum_by-IsPermutation (λ r. cond (f r) 1 0) rows sorted same in
    record {
      each = λ n. (
        λ has. let e = (to n).0 ((once n).0 has) in (e.1, there e.1 (e.0, slice_get_within sorted e.0 e.1 e.3, get_or_from_slice_get sorted e.0 e.1 e.1 e.3), e.4, (kept_among policy sorted rows there back counts e.1).0 e.5),
        λ r. let at = back r.0 r.1 in (once n).1 ((to n).1 (at.0, r.0, at.1, slice_get-get_or sorted at.0 r.0 at.1 ∙ ap (λ x. Some x) at.2, r.2, (kept_among policy sorted rows there back counts r.0).1 r.3)),
      );
      ascend = ascend;
    }
