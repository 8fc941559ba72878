-- What is known of trees after one more came.
use Rattle.std.proofs.Common.{◌≡◌, ◌<◌, ◌++◌, ◌∷◌, [], ℕ, zero, suc, Bool, true, false, List, Option, Some, None, refl, sym, ap, subst, inl, inr, ◌⊎◌, ◌∙◌, Contains}
use Rattle.std.proofs.lemmas.List.Elements.{Contains-append_left, Contains-append_right, Contains-append_cases}
use Rattle.std.proofs.lemmas.Option.{none-some}
use Rattle.repo_name.specs.declared.kinds.BlobKind.TheVariants.{Tree}
use Rattle.repo_name.specs.declared.names.Name.{Name}
use Rattle.repo_wire.specs.declared.messages.Say.{Say}
use Rattle.repo_pack.specs.declared.places.Place.{Place}
use Rattle.repo_index.specs.IndexText.{fact_of}
use Rattle.repo_index.specs.Lookups.{IsLeast}
use Rattle.repo_index.specs.declared.facts.Fact.{Fact}
use Rattle.repo_reach.specs.Walks.{trees_below}
use Rattle.repo_reach.specs.declared.roots.Root.{Root}
use Rattle.repo_tree.specs.Spelling.{greatest_depth}
use Rattle.repo_session.specs.Blobs.{range_of}
use Rattle.repo_session.specs.Traces.{Exchange, Trace, silent}
use Rattle.repo_session.specs.declared.outcomes.FaultKind.{FaultKind}
use Rattle.repo_name.proofs.Containing.{contained_or, first_contained, none_contained}
use Rattle.repo_check.specs.Answers.{Answer, IsTreeAnswer}
use Rattle.repo_check.specs.Checking.{IsRanged}
use Rattle.repo_check.specs.Keeping.{links_of, next_of}
use Rattle.repo_check.specs.Visiting.{GoesThrough, IsLedTo, IsOneOf, IsPartIn, LeadsOn, visit_at}
use Rattle.repo_check.specs.Walks.{IsMade, IsSettled, IsTreeDue, IsVisit, AddsUnder, AddsNote, Walks, IsTold, IsKnownTree, AreKnownTrees, IsSomething, Knowledge, WalkView}
use Rattle.repo_check.specs.declared.keeping.Kept.{Kept}
use Rattle.repo_check.specs.declared.knowing.TreeNote.{TreeNote}
use Rattle.repo_check.specs.declared.visiting.Visit.{Visit}
use Rattle.repo_check.proofs.Walking.{due_not_settled}

-- ---- maps

others : {X : Type 0} (old new : Name → Option X) (n : Name) (o : Option X) → AddsUnder old n o new → (m : Name) → (m ≡ n) ⊎ (new m ≡ old m)
others old new n (Some x) a m = a.others m
others old new n None a m = inr (ap (λ f. f m) a)

here : {X : Type 0} (old new : Name → Option X) (n : Name) (o : Option X) → old n ≡ None → AddsUnder old n o new → new n ≡ o
here old new n (Some x) none a = a.here
here old new n None none a = ap (λ f. f n) a ∙ none

some_none : {X : Type 0} (o : Option X) (x : X) → o ≡ Some x → o ≡ None → ⊥
some_none o x some none = absurd (cc (some, none))

-- ---- what came is settled

told_settled : (known : Knowledge) (facts : List Fact) (place : Place) (a : Answer) (links : Option Kept) (fault : Option FaultKind) → IsTold facts place a links fault → known.kept a.name ≡ links → known.faults a.name ≡ fault → IsSettled known a.name
told_settled known facts place a (Some links) fault told l f = inl (links, l)
told_settled known facts place a None (Some what) told l f = inr (inl (what, f))
told_settled known facts place a None None told l f = absurd told

pub seen_settled : (known : Knowledge) (es : Trace) (a : Answer) → IsKnownTree known es a → IsSettled known a.name
seen_settled known es a s = told_settled known known.facts s.place a (known.kept a.name) (known.faults a.name) s.told refl refl

-- ---- after a note

module _ (old new : Knowledge) (fact : Fact) (note : TreeNote) (due : IsTreeDue old fact.name fact) (adds : AddsNote old fact.name note new) where
  abbrev n : Name
  n = fact.name

  -- another tree than this is as it was
  other : (m : Name) → IsSettled old m → (new.kept m ≡ old.kept m) × (new.faults m ≡ old.faults m)
  other m settled =
      let apart : m ≡ n → ⊥ = λ same. due_not_settled old n fact due (subst (λ k. IsSettled old k) same settled) in (
        elim (others old.kept new.kept n note.kept adds.kept m) [ inl same ↦ absurd (apart same) | inr is ↦ is ],
        elim (others old.faults new.faults n note.fault adds.faults m) [ inl same ↦ absurd (apart same) | inr is ↦ is ],
      )

  stays : (m : Name) → IsSettled old m → IsSettled new m
  stays m (inl read) = inl (read.0, (other m (inl read)).0 ∙ read.1)
  stays m (inr (inl faulty)) = inr (inl (faulty.0, (other m (inr (inl faulty))).1 ∙ faulty.1))
  stays m (inr (inr nowhere)) = inr (inr (λ place c. nowhere place (subst (λ fs. Contains fs (fact_of Tree m place)) adds.facts c)))

  -- it is settled itself
  pub now_settled : IsSomething note → IsSettled new n
  now_settled (inl some) = inl (some.0, here old.kept new.kept n note.kept due.unread adds.kept ∙ some.1)
  now_settled (inr some) = inr (inl (some.0, here old.faults new.faults n note.fault due.faultless adds.faults ∙ some.1))

  -- what was kept is kept
  keeps : (t : Name) (kept : Kept) → old.kept t ≡ Some kept → new.kept t ≡ Some kept
  keeps t kept is = (other t (inl (kept, is))).0 ∙ is

  below_stays : (t sub : Name) (follows : Bool) → Contains (trees_below (links_of (old.kept t) follows)) sub → Contains (trees_below (links_of (new.kept t) follows)) sub
  below_stays t sub follows c = by (old.kept t) refl c
    where
      by : (o : Option Kept) → old.kept t ≡ o → Contains (trees_below (links_of o follows)) sub → Contains (trees_below (links_of (new.kept t) follows)) sub
      by None is c = absurd (none_contained sub c)
      by (Some kept) is c = subst (λ o. Contains (trees_below (links_of o follows)) sub) (sym (keeps t kept is)) c

  next_stays : (t n : Name) (follows : Bool) → next_of (old.kept t) follows ≡ Some n → next_of (new.kept t) follows ≡ Some n
  next_stays t n follows h = by (old.kept t) refl h
    where
      by : (o : Option Kept) → old.kept t ≡ o → next_of o follows ≡ Some n → next_of (new.kept t) follows ≡ Some n
      by None is h = absurd (none-some n h)
      by (Some kept) is h = ap (λ o. next_of o follows) (keeps t kept is) ∙ h

  goes_stays : (t p : Name) (through : List Name) → GoesThrough old.kept t through p → GoesThrough new.kept t through p
  goes_stays t p [] h = h
  goes_stays t p (m ∷ through) h = (next_stays t m true h.0, goes_stays m p through h.1)

  part_stays : (follows : Bool) (top t : Name) → IsPartIn old.kept follows top t → IsPartIn new.kept follows top t
  part_stays true top t h = (h.0, goes_stays top t h.0 h.1)
  part_stays false top t h = h

  led_stays : (roots : List Root) (follows : Bool) (depth : ℕ) (t : Name) → IsLedTo old.kept roots follows depth t → IsLedTo new.kept roots follows depth t
  led_stays roots follows zero t h = (h.0, h.1, part_stays follows h.0 t h.2)
  led_stays roots follows (suc depth) t h = (h.0, h.1, led_stays roots follows depth h.0 h.2, below_stays h.0 h.1 follows h.3, part_stays follows h.1 t h.4)

  -- a visit that was made leads where it did
  leads_back : (v w : Visit) → IsSettled old v.tree → LeadsOn new.kept v w → LeadsOn old.kept v w
  leads_back v w settled h =
      let P : Option Kept → Type 0 = λ o. ((v.depth < greatest_depth) × IsOneOf v.follows (suc v.depth) (trees_below (links_of o v.follows)) w) ⊎ ((n : Name) × (next_of o v.follows ≡ Some n) × (w ≡ visit_at v.follows v.depth n)) in
      subst P (other v.tree settled).0 h

  made_stays : (visits : List Visit) (v : Visit) → IsMade old visits v → IsMade new visits v
  made_stays visits v h = (stays v.tree h.0, λ w leads. h.1 w (leads_back v w h.0 leads))

  pub noted_walks : (roots : List Root) (walk : WalkView) → walk.known ≡ old → Walks roots walk → Walks roots (record { known = new; visits = walk.visits; place = walk.place })
  noted_walks roots walk is h = record {
    begun = h.begun;
    led = λ v c. (let l = subst (λ (k : Knowledge). IsVisit k.kept roots v) is (h.led v c) in (led_stays roots v.follows v.depth v.tree l.0, l.1));
    made = λ i v less there. made_stays walk.visits v (subst (λ k. IsMade k walk.visits v) is (h.made i v less there));
  }

  -- ---- what came

  ranged_grows : (e : Exchange) (es : Trace) (place : Place) (bytes : Option (List ℕ)) → IsRanged es place bytes → IsRanged (e ∷ es) place bytes
  ranged_grows e es place (Some x) h = inr h
  ranged_grows e es place None (inl h) = inl (inr h)
  ranged_grows e es place None (inr h) = inr (inr h)

  seen_stays : (e : Exchange) (es : Trace) (a : Answer) → IsKnownTree old es a → IsKnownTree new (e ∷ es) a
  seen_stays e es a s =
      let is = other a.name (seen_settled old es a s) in
      record {
        place = s.place;
        least = subst (λ fs. IsLeast fs Tree a.name s.place) (sym adds.facts) s.least;
        ranged = ranged_grows e es s.place a.bytes s.ranged;
        told = subst (λ fs. IsTold fs s.place a (new.kept a.name) (new.faults a.name)) (sym adds.facts)
            (subst (λ l. IsTold old.facts s.place a l (new.faults a.name)) (sym is.0) (subst (λ f. IsTold old.facts s.place a (old.kept a.name) f) (sym is.1) s.told));
      }

  apart_from : (es : Trace) (a : Answer) → IsKnownTree old es a → a.name ≡ n → ⊥
  apart_from es a s same = due_not_settled old n fact due (subst (λ m. IsSettled old m) same (seen_settled old es a s))

  module _ (es : Trace) (say : Say) (a : Answer) (answer : IsTreeAnswer n say a) (named : a.name ≡ n) (ranged : IsRanged (silent (range_of fact) say ∷ es) fact.place a.bytes) (told : IsTold old.facts fact.place a note.kept note.fault) where
    abbrev e : Exchange
    e = silent (range_of fact) say

    now_least : IsLeast new.facts Tree a.name fact.place
    now_least = subst (λ m. IsLeast new.facts Tree m fact.place) (sym named) (subst (λ fs. IsLeast fs Tree n fact.place) (sym adds.facts) due.least)

    now_seen : IsKnownTree new (e ∷ es) a
    now_seen =
        let l : new.kept a.name ≡ note.kept = ap new.kept named ∙ here old.kept new.kept n note.kept due.unread adds.kept in
        let f : new.faults a.name ≡ note.fault = ap new.faults named ∙ here old.faults new.faults n note.fault due.faultless adds.faults in
        record {
          place = fact.place;
          least = now_least;
          ranged = ranged;
          told = subst (λ fs. IsTold fs fact.place a (new.kept a.name) (new.faults a.name)) (sym adds.facts)
              (subst (λ x. IsTold old.facts fact.place a x (new.faults a.name)) (sym l) (subst (λ x. IsTold old.facts fact.place a note.kept x) (sym f) told));
        }

    among : (answers : List Answer) → Contains (answers ++ a ∷ []) a
    among answers = Contains-append_right answers (a ∷ []) a (first_contained a [])

    pub seen_more : (answers : List Answer) → AreKnownTrees old answers es → AreKnownTrees new (answers ++ a ∷ []) (e ∷ es)
    seen_more answers h = record {
      each = λ b c. elim (Contains-append_cases answers (a ∷ []) b c) [
        | inl there ↦ seen_stays e es b (h.each b there)
        | inr now ↦ subst (λ x. IsKnownTree new (e ∷ es) x) (only b now) now_seen
      ];
      once = λ b d cb cd same. elim (Contains-append_cases answers (a ∷ []) b cb) [
        | inl there ↦ elim (Contains-append_cases answers (a ∷ []) d cd) [
          | inl also ↦ h.once b d there also same
          | inr now ↦ absurd (apart_from es b (h.each b there) (same ∙ ap (λ (x : Answer). x.name) (sym (only d now)) ∙ named))
        ]
        | inr now ↦ elim (Contains-append_cases answers (a ∷ []) d cd) [
          | inl there ↦ absurd (apart_from es d (h.each d there) (sym same ∙ ap (λ (x : Answer). x.name) (sym (only b now)) ∙ named))
          | inr also ↦ sym (only b now) ∙ only d also
        ]
      ];
      only = λ place said heard. elim heard [
        | inl this ↦ (
            let p = this.0 in
            let pack : fact.place.pack ≡ place.pack = cc p in
            let offset : fact.place.offset ≡ place.offset = cc p in
            let len : fact.place.length ≡ place.length = cc p in
            let same : fact.place ≡ place = λ i. record { pack = pack i; offset = offset i; length = len i } in
            (a, among answers, subst (λ q. IsLeast new.facts Tree a.name q) same now_least, subst (λ s. IsTreeAnswer a.name s a) this.1 (subst (λ m. IsTreeAnswer m say a) (sym named) answer))
            )
        | inr before ↦ (
            let there = h.only place said before in
            (there.0, Contains-append_left answers (a ∷ []) there.0 there.1, subst (λ fs. IsLeast fs Tree there.0.name place) (sym adds.facts) there.2, there.3)
            )
      ];
      kept = λ m links is. elim (others old.kept new.kept n note.kept adds.kept m) [
        | inl same ↦ (a, among answers, named ∙ sym same)
        | inr stayed ↦ (let there = h.kept m links (sym stayed ∙ is) in (there.0, Contains-append_left answers (a ∷ []) there.0 there.1, there.2))
      ];
      faults = λ m what is. elim (others old.faults new.faults n note.fault adds.faults m) [
        | inl same ↦ (a, among answers, named ∙ sym same)
        | inr stayed ↦ (let there = h.faults m what (sym stayed ∙ is) in (there.0, Contains-append_left answers (a ∷ []) there.0 there.1, there.2))
      ];
    }
      where
        only : (b : Answer) → Contains (a ∷ []) b → a ≡ b
        only b c = elim (contained_or a [] b c) [ inl same ↦ same | inr none ↦ absurd (none_contained b none) ]
