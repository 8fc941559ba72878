-- A walk over trees, visit by visit.
use Rattle.std.proofs.Common.{arith, ◌≡◌, ◌≤◌, ◌<◌, ◌+◌, ◌++◌, ◌∷◌, [], ℕ, zero, suc, Bool, true, false, List, length, drop, get_or, slice_get, Option, Some, None, refl, sym, ap, subst, inl, inr, ⊎_elim, ◌⊎◌, ◌∙◌, append_assoc, append-nil, Contains}
use Rattle.std.proofs.lemmas.Option.{same_Some, none-some, slice_get_within, slice_get-get_or}
use Rattle.std.proofs.lemmas.List.Elements.{Contains-append_left, Contains-append_cases}
use Rattle.std.specs.Prelude.{IfSome, Result, Ok, Err, OnOk, OnErr}
use Rattle.repo_name.specs.NameMaps.{Dropped}
use Rattle.repo_name.specs.declared.kinds.BlobKind.TheVariants.{Tree}
use Rattle.repo_name.specs.declared.names.Name.{Name}
use Rattle.repo_name.proofs.Containing.{contained_or, contains_got, none_contained, stands_at}
use Rattle.repo_index.specs.IndexText.{fact_of}
use Rattle.repo_index.specs.declared.facts.Fact.{Fact}
use Rattle.repo_reach.specs.declared.roots.Root.{Root}
use Rattle.repo_tree.specs.Spelling.{greatest_depth}
use Rattle.repo_check.proofs.Finding.{place_one}
use Rattle.repo_check.proofs.Measuring.{left_at, left_none}
use Rattle.repo_check.specs.Keeping.{KeptTrees, next_of}
use Rattle.repo_check.specs.Visiting.{AddsAmong, AddsVisit, BeginsAt, GoesThrough, HasLedOn, IsBehind, IsBelow, IsLedTo, IsOneOf, IsPartIn, LeadsOn, visit_at, visit_of}
use Rattle.repo_check.specs.Walks.{IsMade, IsSettled, IsTreeDue, IsVisit, AddsUnder, Walks, Awaits, IsOver, Knowledge}
use Rattle.repo_check.specs.declared.keeping.Kept.{Kept}
use Rattle.repo_check.specs.declared.visiting.Visit.{Visit}

-- ---- maps

pub dropped_back : {X : Type 0} {old mid new : Name → Option X} {n : Name} (o : Option X) → old n ≡ None → AddsUnder old n o mid → Dropped mid n new → new ≡ old
dropped_back {X} {old} {mid} {new} {n} o none adds dropped = λ i m. at m i
  where
    here : (m : Name) → m ≡ n → new m ≡ old m
    here m same = subst (λ k. new k ≡ old k) (sym same) (dropped.gone ∙ sym none)

    before : (m : Name) (p : Option X) → AddsUnder old n p mid → (m ≡ n) ⊎ (mid m ≡ old m)
    before m (Some x) a = a.others m
    before m None a = inr (ap (λ f. f m) a)

    at : (m : Name) → new m ≡ old m
    at m = elim (dropped.others m) [ inl same ↦ here m same | inr e ↦ elim (before m o adds) [ inl same ↦ here m same | inr f ↦ e ∙ f ] ]

-- ---- what is due

no_kept : {X : Type 0} (o : Option X) (x : X) → o ≡ None → o ≡ Some x → ⊥
no_kept o x none some = absurd (cc (none, some))

pub due_not_settled : (known : Knowledge) (n : Name) (fact : Fact) → IsTreeDue known n fact → IsSettled known n → ⊥
due_not_settled known n fact due (inl read) = no_kept (known.kept n) read.0 due.unread read.1
due_not_settled known n fact due (inr (inl faulty)) = no_kept (known.faults n) faulty.0 due.faultless faulty.1
due_not_settled known n fact due (inr (inr nowhere)) = nowhere fact.place due.least.among

pub due_is : (known : Knowledge) (n : Name) (fact : Fact) (o : Option Fact) → IsTreeDue known n fact → IfSome o (IsTreeDue known n) → (o ≡ None → IsSettled known n) → o ≡ Some fact
due_is known n fact None due some none = absurd (due_not_settled known n fact due (none refl))
due_is known n fact (Some f) due some none =
    let place : f.place ≡ fact.place = place_one f.place fact.place (some.least.least fact.place due.least.among) (due.least.least f.place some.least.among) in
    ap Some (some.is ∙ ap (λ p. fact_of Tree n p) place ∙ sym due.is)

-- ---- places

below_or : (i a : ℕ) → (i < a) ⊎ (a ≤ i)
below_or i zero = inr (omega arith)
below_or zero (suc a) = inl (omega arith)
below_or (suc i) (suc a) = elim (below_or i a) [ inl less ↦ inl (omega (arith, less)) | inr more ↦ inr (omega (arith, more)) ]

pub got_front : {X : Type 0} (xs ys : List X) (i : ℕ) (x : X) → i < length xs → slice_get (xs ++ ys) i ≡ Some x → slice_get xs i ≡ Some x
got_front [] ys i x less h = absurd (omega (arith, less))
got_front (y ∷ xs) ys zero x less h = h
got_front (y ∷ xs) ys (suc i) x less h = got_front xs ys i x (omega (arith, less)) h

before_end : {X : Type 0} (xs : List X) (p i : ℕ) (x : X) → slice_get xs p ≡ None → slice_get xs i ≡ Some x → i < p
before_end xs p i x none there = elim (below_or i p) [
  | inl less ↦ less
  | inr past ↦ (let within = slice_get_within xs i x there in absurd (none-some _ (sym none ∙ slice_get-get_or xs p x (omega (arith, past, within)))))
]

-- ---- to what visits lead

part_self : (trees : KeptTrees) (follows : Bool) (t : Name) → IsPartIn trees follows t t
part_self trees true t = ([], refl)
part_self trees false t = refl

goes_push : (trees : KeptTrees) (t p n : Name) (through : List Name) → GoesThrough trees t through p → next_of (trees p) true ≡ Some n → GoesThrough trees t (through ++ n ∷ []) n
goes_push trees t p n [] goes next = (subst (λ m. next_of (trees m) true ≡ Some n) goes next, refl)
goes_push trees t p n (m ∷ through) goes next = (goes.0, goes_push trees m p n through goes.1 next)

next_alone : (o : Option Kept) (n : Name) → next_of o false ≡ Some n → ⊥
next_alone None n h = none-some n h
next_alone (Some kept) n h = none-some n h

part_push : (trees : KeptTrees) (follows : Bool) (top t n : Name) → IsPartIn trees follows top t → next_of (trees t) follows ≡ Some n → IsPartIn trees follows top n
part_push trees true top t n belongs next = (belongs.0 ++ n ∷ [], goes_push trees top t n belongs.0 belongs.1 next)
part_push trees false top t n belongs next = absurd (next_alone (trees t) n next)

led_push : (trees : KeptTrees) (roots : List Root) (follows : Bool) (depth : ℕ) (t n : Name) → IsLedTo trees roots follows depth t → next_of (trees t) follows ≡ Some n → IsLedTo trees roots follows depth n
led_push trees roots follows zero t n led next = (led.0, led.1, part_push trees follows led.0 t n led.2 next)
led_push trees roots follows (suc depth) t n led next = (led.0, led.1, led.2, led.3, part_push trees follows led.1 t n led.4 next)

-- where roots lead to a visit, they do to those to which it leads
led_on : (trees : KeptTrees) (roots : List Root) (v w : Visit) → IsVisit trees roots v → LeadsOn trees v w → IsVisit trees roots w
led_on trees roots v w h (inl (less, (n, among, is))) = subst (λ u. IsVisit trees roots u) (sym is) ((v.tree, n, h.0, among, part_self trees v.follows n), omega (arith, less))
led_on trees roots v w h (inr (n, next, is)) = subst (λ u. IsVisit trees roots u) (sym is) (led_push trees roots v.follows v.depth v.tree n h.0 next, h.1)

-- ---- steps

module _ (roots : List Root) where
  pub begins_walk : (known : Knowledge) (visits : List Visit) → BeginsAt roots visits → Walks roots (record { known = known; visits = visits; place = 0 })
  begins_walk known visits h = record {
    begun = h.all;
    led = λ v c. (let r = h.only v c in subst (λ u. IsVisit known.kept roots u) (sym r.2) ((r.0.tree, r.1, part_self known.kept r.0.follows r.0.tree), omega arith));
    made = λ i v less there. absurd (omega (arith, less));
  }

  -- one visit more was made
  pub made_more : (known : Knowledge) (visits new : List Visit) (place : ℕ) (v : Visit) → slice_get visits place ≡ Some v → IsSettled known v.tree → AddsAmong (LeadsOn known.kept v) visits new → HasLedOn known.kept new v
      → Walks roots (record { known = known; visits = visits; place = place }) → Walks roots (record { known = known; visits = new; place = place + 1 })
  made_more known visits new place v there settled adds led h =
      let more = adds.0 in
      let within = slice_get_within visits place v there in
      let stays : (w : Visit) → Contains visits w → Contains new w = λ w c. subst (λ vs. Contains vs w) (sym adds.1) (Contains-append_left visits more w c) in
      let mine : IsVisit known.kept roots v = h.led v (contains_got visits place v there) in
      record {
        begun = λ root c. stays (visit_of root) (h.begun root c);
        led = λ w c. elim (Contains-append_cases visits more w (subst (λ vs. Contains vs w) adds.1 c)) [ inl old ↦ h.led w old | inr came ↦ led_on known.kept roots v w mine (adds.2 w came) ];
        made = λ i w less at.
            let at' : slice_get visits i ≡ Some w = got_front visits more i w (omega (arith, less, within)) (ap (λ vs. slice_get vs i) (sym adds.1) ∙ at) in
            elim (below_or i place) [
              | inl before ↦ (let m = h.made i w before at' in (m.0, λ u l. stays u (m.1 u l)))
              | inr past ↦
                  let same : i ≡ place = omega (arith, past, less) in
                  let is : v ≡ w = same_Some v w (sym there ∙ ap (λ j. slice_get visits j) (sym same) ∙ at') in
                  subst (λ u. IsMade known new u) is (settled, led)
            ];
      }

  -- the tree at the place is to be asked for
  pub awaits_at : (known : Knowledge) (visits : List Visit) (place : ℕ) (v : Visit) (fact : Fact) → slice_get visits place ≡ Some v → v.tree ≡ fact.name → IsTreeDue known fact.name fact
      → Walks roots (record { known = known; visits = visits; place = place }) → Awaits roots (record { known = known; visits = visits; place = place }) fact
  awaits_at known visits place v fact there is due h = record { walks = h; visit = v; here = there; of_tree = is; due = due }

  -- no visit is left
  pub over_at : (known : Knowledge) (visits : List Visit) (place at : ℕ) → ((i : ℕ) (v : Visit) → slice_get visits i ≡ Some v → i < place) → Walks roots (record { known = known; visits = visits; place = place })
      → IsOver roots (record { known = known; visits = visits; place = at })
  over_at known visits place at past h = record {
    begun = h.begun;
    led = h.led;
    made = λ v c. (let s = stands_at visits v c in h.made s.0 v (past s.0 v s.1) s.1);
  }

  pub none_left : (visits : List Visit) (place : ℕ) → slice_get visits place ≡ None → (i : ℕ) (v : Visit) → slice_get visits i ≡ Some v → i < place
  none_left visits place none i v there = before_end visits place i v none there

-- ---- visits that come

pub added_none : (Among : Visit → Type 0) (visits : List Visit) → AddsAmong Among visits visits
added_none Among visits = ([], sym (append-nil visits), λ v c. absurd (none_contained v c))

pub added_both : (First Second Among : Visit → Type 0) (old mid new : List Visit) → ((v : Visit) → First v → Among v) → ((v : Visit) → Second v → Among v) → AddsAmong First old mid → AddsAmong Second mid new → AddsAmong Among old new
added_both First Second Among old mid new f g a b = (
  a.0 ++ b.0,
  b.1 ∙ ap (λ vs. vs ++ b.0) a.1 ∙ append_assoc old a.0 b.0,
  λ v c. elim (Contains-append_cases a.0 b.0 v c) [ inl here ↦ f v (a.2 v here) | inr there ↦ g v (b.2 v there) ],
)

pub added_as : (First Among : Visit → Type 0) (old new : List Visit) → ((v : Visit) → First v → Among v) → AddsAmong First old new → AddsAmong Among old new
added_as First Among old new f a = (a.0, a.1, λ v c. f v (a.2 v c))

pub added_stays : (Among : Visit → Type 0) (old new : List Visit) → AddsAmong Among old new → (v : Visit) → Contains old v → Contains new v
added_stays Among old new a v c = subst (λ vs. Contains vs v) (sym a.1) (Contains-append_left old a.0 v c)

-- what a call left
pub added_one : {T E : Type 0} (r : Result T E) (Among : Visit → Type 0) (old new : List Visit) (v : Visit) → Among v → OnOk r (AddsVisit old v new) → OnErr r (new ≡ old) → AddsAmong Among old new
added_one (Ok x) Among old new v among ok err = added_as (λ w. v ≡ w) Among old new (λ w same. subst Among same among) ok.0
added_one (Err e) Among old new v among ok err = subst (λ vs. AddsAmong Among old vs) (sym err) (added_none Among old)

pub has_one : {T E : Type 0} (r : Result T E) (old new : List Visit) (v : Visit) (Such : Visit → Type 0) → ((w : Visit) → Such w → v ≡ w) → OnOk r (AddsVisit old v new) → OnOk r ((w : Visit) → Such w → Contains new w)
has_one (Ok x) old new v Such one h = λ w such. subst (λ u. Contains new u) (one w such) h.1
has_one (Err e) old new v Such one h = tt

-- ---- some trees, one after another

-- those that are gone through are visited
pub record AreAdded (follows : Bool) (depth : ℕ) (trees : List Name) (first visits : List Visit) (left : List Name) : Type 0 where
  pub among : AddsAmong (IsOneOf follows depth trees) first visits
  pub all : (n : Name) → Contains trees n → Contains visits (visit_at follows depth n) ⊎ Contains left n

pub added_next : (follows : Bool) (depth : ℕ) (trees : List Name) (i : ℕ) (d : Name) → i < length trees → (first old new : List Visit) → AddsVisit old (visit_at follows depth (get_or trees i d)) new → AreAdded follows depth trees first old (drop i trees)
    → AreAdded follows depth trees first new (drop (i + 1) trees)
added_next follows depth trees i d less first old new adds before =
    let tree = get_or trees i d in
    let rest = drop (i + 1) trees in
    let v = visit_at follows depth tree in
    let split = left_at trees i d less in
    let here : Contains trees tree = contains_got trees i tree (slice_get-get_or trees i d less) in
    record {
      among = added_both (IsOneOf follows depth trees) (λ w. v ≡ w) (IsOneOf follows depth trees) first old new (λ w h. h) (λ w same. (tree, here, sym same)) before.among adds.0;
      all = λ n c. elim (before.all n c) [
        | inl there ↦ inl (added_stays (λ w. v ≡ w) old new adds.0 (visit_at follows depth n) there)
        | inr left ↦ elim (contained_or tree rest n (subst (λ ns. Contains ns n) split left)) [
          | inl same ↦ inl (subst (λ m. Contains new (visit_at follows depth m)) same adds.1)
          | inr more ↦ inr more
        ]
      ];
    }

pub added_all : (follows : Bool) (depth : ℕ) (trees : List Name) (i : ℕ) → length trees ≤ i → (first visits : List Visit) → AreAdded follows depth trees first visits (drop i trees) → (n : Name) → Contains trees n → Contains visits (visit_at follows depth n)
added_all follows depth trees i few first visits h n c = elim (h.all n c) [ inl there ↦ there | inr left ↦ absurd (none_contained n (subst (λ ns. Contains ns n) (left_none trees i few) left)) ]

-- those of some trees, by other words
pub ones_all : {T E : Type 0} (r : Result T E) (follows : Bool) (depth : ℕ) (trees : List Name) (new : List Visit) (Such : Visit → Type 0) → ((w : Visit) → Such w → IsOneOf follows depth trees w) → OnOk r ((n : Name) → Contains trees n → Contains new (visit_at follows depth n))
    → OnOk r ((w : Visit) → Such w → Contains new w)
ones_all (Ok x) follows depth trees new Such other h = λ w such. (let one = other w such in subst (λ u. Contains new u) (sym one.2) (h one.0 one.1))
ones_all (Err e) follows depth trees new Such other h = tt

-- all below and behind
pub led_all : {T E : Type 0} (r : Result T E) (trees : KeptTrees) (v : Visit) (mid new : List Visit) → ((w : Visit) → IsBelow trees v w → Contains mid w) → AddsAmong (IsBehind trees v) mid new → OnOk r ((w : Visit) → IsBehind trees v w → Contains new w) → OnOk r (HasLedOn trees new v)
led_all (Ok x) trees v mid new below adds behind = λ w leads. ⊎_elim (λ b. added_stays (IsBehind trees v) mid new adds w (below w b)) (λ b. behind w b) leads
led_all (Err e) trees v mid new below adds behind = tt

depth_is : greatest_depth ≡ 100
unfolding greatest_depth
depth_is = refl

pub above_end : (depth : ℕ) → depth < 100 → depth < greatest_depth
above_end depth h = omega (arith, h, depth_is)
