-- What is told of indexes, by themselves and by the packs.
use Rattle.std.proofs.Common.{◌≡◌, ◌≢◌, ◌⊎◌, ◌∷◌, [], ℕ, zero, suc, Bool, true, false, cond, List, length, map, slice_get, Option, Some, None, refl, sym, ap, subst, inl, inr, ◌∙◌, Contains}
use Rattle.std.proofs.lemmas.List.{take_all}
use Rattle.std.proofs.lemmas.Option.{same_Some}
use Rattle.std.specs.Prelude.{option_and_then}
use Rattle.std.specs.Ordering.{is_eq}
use Rattle.repo_name.specs.Naming.{name_cmp}
use Rattle.repo_name.specs.declared.kinds.Kind.{Kind}
use Rattle.repo_name.specs.declared.kinds.Thing.{Thing}
use Rattle.repo_name.specs.declared.names.Name.{Name}
use Rattle.repo_name.proofs.Containing.{contains_got, stands_at}
use Rattle.repo_name.proofs.NameMaps.{same_name}
use Rattle.repo_index.specs.declared.facts.Fact.{Fact}
use Rattle.repo_index.specs.declared.facts.PackFacts.{PackFacts}
use Rattle.repo_store.specs.Pages.{NamesAscend}
use Rattle.repo_session.specs.Traces.{Trace}
use Rattle.repo_session.specs.declared.outcomes.FaultKind.{FaultKind}
use Rattle.repo_check.specs.Answers.{Answer, Gathered}
use Rattle.repo_check.specs.Arrivals.{IsFaulty, IsIndexOf, IsPackOf}
use Rattle.repo_check.specs.Checking.{IsFound}
use Rattle.repo_check.specs.Findings.{ObjectIs}
use Rattle.repo_check.specs.Fitting.{AreKnown, IsKnownAs, facts_at, facts_by}
use Rattle.repo_check.specs.Gathering.{fault_noted, well_noted}
use Rattle.repo_check.specs.Rounds.{IsNoteOf, Match}
use Rattle.repo_check.specs.Surveys.{IsSurveyed, RoundsView, answers_in}
use Rattle.repo_check.specs.Verdicts.{IndexesAreTold, IsFoundOfIndex, PlacesAreTold}
use Rattle.repo_check.specs.Walks.{WalkView}
use Rattle.repo_check.specs.declared.rounds.Note.{Note}
use Rattle.repo_check.proofs.Finding.{got_once}
use Rattle.repo_check.proofs.Fittings.{fits_as_found}
use Rattle.repo_check.proofs.Gathered.{came_as, faulty_not}
use Rattle.repo_check.proofs.Matching.{facing, opposite}
use Rattle.repo_check.proofs.ObjectFaults.{among, faulty_is, found_at}
use Rattle.repo_check.proofs.PackFinds.{known_there}
use Rattle.repo_check.proofs.Reached.{surveyed_is_received}
use Rattle.repo_check.proofs.Tellings.{told_are_found}

-- ---- what is known of packs

-- a note with these facts stands where the pack's name does
abbrev NotedAt : List Name → List (Note (List Fact)) → Name → List Fact → Type 0
NotedAt names notes pack facts = (i : ℕ) × (slice_get names i ≡ Some pack) × (slice_get notes i ≡ Some (Note.Well facts))

well_at : (note : Note (List Fact)) (facts : List Fact) → well_noted note ≡ Some facts → note ≡ Note.Well facts
well_at (Note.Well x) facts same = ap Note.Well (same_Some x facts same)
well_at (Note.Fault what) facts same = absurd (cc same)

first_or_later : (n : Name) (names : List Name) (note : Note (List Fact)) (notes : List (Note (List Fact))) (pack : Name) (facts : List Fact) → (facts_at names notes pack ≡ Some facts → NotedAt names notes pack facts) → (b : Bool) → is_eq (name_cmp n pack) ≡ b
    → cond b (well_noted note) (facts_at names notes pack) ≡ Some facts → NotedAt (n ∷ names) (note ∷ notes) pack facts
first_or_later n names note notes pack facts later true same known = (0, ap Some (same_name n pack same), ap Some (well_at note facts known))
first_or_later n names note notes pack facts later false other known = (let rest = later known in (suc rest.0, rest.1, rest.2))

-- facts that are known are those of a note of the pack
noted_at : (names : List Name) (notes : List (Note (List Fact))) (pack : Name) (facts : List Fact) → facts_at names notes pack ≡ Some facts → NotedAt names notes pack facts
noted_at [] notes pack facts is = absurd (cc is)
noted_at (n ∷ names) [] pack facts is = absurd (cc is)
noted_at (n ∷ names) (note ∷ notes) pack facts is = first_or_later n names note notes pack facts (noted_at names notes pack facts) (is_eq (name_cmp n pack)) refl is

-- ---- what is found by itself, and else by the packs

abbrev of_both : Option FaultKind → Option FaultKind → Option FaultKind
of_both (Some what) place = Some what
of_both None place = place

abbrev pub both : List (Note (List PackFacts)) → List (Option FaultKind) → List (Option FaultKind)
both [] places = []
both (note ∷ notes) [] = []
both (note ∷ notes) (place ∷ places) = of_both (fault_noted note) place ∷ both notes places

module _ (rounds : RoundsView) (walk : WalkView) (es : Trace) (s : IsSurveyed rounds walk es) where
  abbrev A : Gathered
  A = answers_in s

  abbrev packs : List Answer
  packs = s.notes.packs.answers

  pack_names : map (λ (a : Answer). a.name) packs ≡ rounds.packs.names
  pack_names = s.notes.packs.named ∙ take_all (length rounds.packs.notes) rounds.packs.names s.objects.packs.all

  -- an answer stands at the place of its name
  name_at : (xs : List Answer) (i : ℕ) (a : Answer) → slice_get xs i ≡ Some a → slice_get (map (λ (b : Answer). b.name) xs) i ≡ Some a.name
  name_at [] i a is = absurd (cc is)
  name_at (x ∷ xs) zero a is = ap (λ (b : Answer). Some b.name) (same_Some x a is)
  name_at (x ∷ xs) (suc i) a is = name_at xs i a is

  known_some : (pack : Name) (facts : List Fact) → facts_by rounds.packs pack ≡ Some facts → IsKnownAs A pack (Some facts)
  known_some pack facts is =
      let at = noted_at rounds.packs.names rounds.packs.notes pack facts is in
      let f = facing (IsNoteOf Kind.Pack IsPackOf) packs rounds.packs.notes at.0 (Note.Well facts) s.notes.packs.noted at.2 in
      let of : IsPackOf f.other facts = f.belongs in
      let same : f.other.name ≡ pack = same_Some f.other.name pack (sym (name_at packs at.0 f.other f.there) ∙ ap (λ (ns : List Name). slice_get ns at.0) pack_names ∙ at.1) in
      let came = came_as packs f.other of.0 (contains_got packs at.0 f.other f.there) of.2 in
      subst (λ (n : Name). IsKnownAs A n (Some facts)) same (of.0, of.1, came, of.3, of.4)

  ascend : NamesAscend None rounds.packs.names
  ascend = subst (λ (ns : List Name). NamesAscend None ns) s.objects.packs.paged.listed s.objects.packs.paged.rise.ascend

  known_none : (pack : Name) → facts_by rounds.packs pack ≡ None → IsKnownAs A pack None
  known_none pack none x items came true_pack =
      let a : Answer = record { name = pack; bytes = Some x } in
      let at = stands_at packs a came.among in
      let o = opposite (IsNoteOf Kind.Pack IsPackOf) packs rounds.packs.notes at.0 a s.notes.packs.noted at.1 in
      let named : slice_get rounds.packs.names at.0 ≡ Some pack = ap (λ (ns : List Name). slice_get ns at.0) (sym pack_names) ∙ name_at packs at.0 a at.1 in
      let known : well_noted o.other ≡ None = ap (λ (n : Option (Note (List Fact))). option_and_then well_noted n) (sym o.there) ∙ sym (known_there None rounds.packs.names rounds.packs.notes ascend at.0 pack named) ∙ none in
      ill o.other known o.belongs
    where
      ill : (note : Note (List Fact)) → well_noted note ≡ None → IsNoteOf Kind.Pack IsPackOf (record { name = pack; bytes = Some x }) note → ⊥
      ill (Note.Well facts) is noted = absurd (cc is)
      ill (Note.Fault what) is noted = faulty_not A Kind.Pack (record { name = pack; bytes = Some x }) x what (refl, came.named) (items, true_pack) noted

  are_known : AreKnown A (facts_by rounds.packs)
  are_known pack = by (facts_by rounds.packs pack) refl
    where
      by : (o : Option (List Fact)) → facts_by rounds.packs pack ≡ o → IsKnownAs A pack o
      by (Some facts) is = known_some pack facts is
      by None is = known_none pack is

  once : (a b : Answer) → Contains packs a → Contains packs b → a.name ≡ b.name → a ≡ b
  once = got_once es Kind.Pack packs ((surveyed_is_received rounds walk es s).objects Kind.Pack)

  -- ---- what is found of an index

  abbrev Placed : Note (List PackFacts) → Option FaultKind → Type 0
  Placed note place = IsFoundOfIndex (facts_by rounds.packs) note place

  index_is : (a : Answer) (note : Note (List PackFacts)) (place : Option FaultKind) → IsNoteOf Kind.Index IsIndexOf a note → Placed note place → ObjectIs A Kind.Index a (of_both (fault_noted note) place)
  index_is a (Note.Well text) None noted placed = (noted.0, noted.1.0, noted.1.1, (fits_as_found A (facts_by rounds.packs) noted.0 text are_known once noted.2).0 placed)
  index_is a (Note.Well text) (Some what) noted placed =
      let is : ObjectIs A Kind.Index a (Some FaultKind.Place) = (noted.0, noted.1.0, noted.1.1, (fits_as_found A (facts_by rounds.packs) noted.0 text are_known once noted.2).1 placed.1) in
      subst (λ (w : FaultKind). ObjectIs A Kind.Index a (Some w)) (sym placed.0) is
  index_is a (Note.Fault what) None noted placed = faulty_is A Kind.Index a what noted
  index_is a (Note.Fault what) (Some other) noted placed = absurd placed

  pub each_index : (xs : List Answer) (notes : List (Note (List PackFacts))) (places : List (Option FaultKind)) → Match (IsNoteOf Kind.Index IsIndexOf) xs notes → Match Placed notes places → Match (λ (a : Answer). ObjectIs A Kind.Index a) xs (both notes places)
  each_index [] [] places noted placed = tt
  each_index [] (note ∷ notes) places noted placed = absurd noted
  each_index (a ∷ xs) [] places noted placed = absurd noted
  each_index (a ∷ xs) (note ∷ notes) [] noted placed = absurd placed
  each_index (a ∷ xs) (note ∷ notes) (place ∷ places) noted placed = (index_is a note place noted.0 placed.0, each_index xs notes places noted.1 placed.1)

  -- ---- what stands at a place

  own_at : (notes : List (Note (List PackFacts))) (places : List (Option FaultKind)) (i : ℕ) (what : FaultKind) → Match Placed notes places → slice_get (map fault_noted notes) i ≡ Some (Some what) → slice_get (both notes places) i ≡ Some (Some what)
  own_at [] places i what placed is = absurd (cc is)
  own_at (note ∷ notes) [] i what placed is = absurd placed
  own_at (Note.Well text ∷ notes) (place ∷ places) zero what placed is = absurd (cc is)
  own_at (Note.Fault fault ∷ notes) (place ∷ places) zero what placed is = is
  own_at (note ∷ notes) (place ∷ places) (suc i) what placed is = own_at notes places i what placed.1 is

  place_at : (notes : List (Note (List PackFacts))) (places : List (Option FaultKind)) (i : ℕ) (what : FaultKind) → Match Placed notes places → slice_get places i ≡ Some (Some what) → (what ≡ FaultKind.Place) × (slice_get (both notes places) i ≡ Some (Some what))
  place_at [] [] i what placed is = absurd (cc is)
  place_at [] (place ∷ places) i what placed is = absurd placed
  place_at (note ∷ notes) [] i what placed is = absurd placed
  place_at (Note.Well text ∷ notes) (None ∷ places) zero what placed is = absurd (cc is)
  place_at (Note.Well text ∷ notes) (Some found ∷ places) zero what placed is = (let same : found ≡ what = cc is in (sym same ∙ placed.0.0, is))
  place_at (Note.Fault fault ∷ notes) (None ∷ places) zero what placed is = absurd (cc is)
  place_at (Note.Fault fault ∷ notes) (Some found ∷ places) zero what placed is = absurd placed.0
  place_at (note ∷ notes) (place ∷ places) (suc i) what placed is = place_at notes places i what placed.1 is

  one_at : (notes : List (Note (List PackFacts))) (places : List (Option FaultKind)) (i : ℕ) (what : FaultKind) → slice_get (both notes places) i ≡ Some (Some what)
      → (slice_get (map fault_noted notes) i ≡ Some (Some what)) ⊎ (slice_get places i ≡ Some (Some what))
  one_at [] places i what is = absurd (cc is)
  one_at (note ∷ notes) [] i what is = absurd (cc is)
  one_at (Note.Well text ∷ notes) (place ∷ places) zero what is = inr is
  one_at (Note.Fault fault ∷ notes) (place ∷ places) zero what is = inl is
  one_at (note ∷ notes) (place ∷ places) (suc i) what is = one_at notes places i what is

  faulty_own : (k : Kind) (a : Answer) (what : FaultKind) → IsFaulty k a what → what ≢ FaultKind.Place
  faulty_own k a FaultKind.Place h = absurd h
  faulty_own k a FaultKind.Missing h = λ is. absurd (cc is)
  faulty_own k a FaultKind.Name h = λ is. absurd (cc is)
  faulty_own k a FaultKind.Unreadable h = λ is. absurd (cc is)
  faulty_own k a FaultKind.Unindexed h = λ is. absurd (cc is)

  own_not_place : (xs : List Answer) (notes : List (Note (List PackFacts))) (i : ℕ) (what : FaultKind) → Match (IsNoteOf Kind.Index IsIndexOf) xs notes → slice_get (map fault_noted notes) i ≡ Some (Some what) → what ≢ FaultKind.Place
  own_not_place xs [] i what noted is = absurd (cc is)
  own_not_place [] (note ∷ notes) i what noted is = absurd noted
  own_not_place (a ∷ xs) (Note.Well text ∷ notes) zero what noted is = absurd (cc is)
  own_not_place (a ∷ xs) (Note.Fault fault ∷ notes) zero what noted is = (let same : fault ≡ what = cc is in subst (λ (w : FaultKind). w ≢ FaultKind.Place) same (faulty_own Kind.Index a fault noted.0))
  own_not_place (a ∷ xs) (note ∷ notes) (suc i) what noted is = own_not_place xs notes i what noted.1 is

  -- ---- the faults

  abbrev indexes : List Answer
  indexes = s.notes.indexes.answers

  index_names : map (λ (a : Answer). a.name) indexes ≡ rounds.indexes.names
  index_names = s.notes.indexes.named ∙ take_all (length rounds.indexes.notes) rounds.indexes.names s.objects.indexes.all

  module _ (places : List (Option FaultKind)) (placed : Match Placed rounds.indexes.notes places) where
    abbrev found : List (Option FaultKind)
    found = both rounds.indexes.notes places

    are : Match (λ (a : Answer). ObjectIs A Kind.Index a) indexes found
    are = each_index indexes rounds.indexes.notes places s.notes.indexes.noted placed

    found_is : (n : Name) (what : FaultKind) (i : ℕ) → slice_get rounds.indexes.names i ≡ Some n → slice_get found i ≡ Some (Some what) → IsFound A Thing.Index n (Some what)
    found_is n what i named is = found_at A Kind.Index indexes found n what i are (ap (λ (ns : List Name). slice_get ns i) index_names ∙ named) is

    is_found : (n : Name) (what : FaultKind) → IsFound A Thing.Index n (Some what) → (i : ℕ) × (slice_get rounds.indexes.names i ≡ Some n) × (slice_get found i ≡ Some (Some what))
    is_found n what o = (let at = among A Kind.Index indexes found o.0 what are o.1 o.3 in (at.0, ap (λ (ns : List Name). slice_get ns at.0) (sym index_names) ∙ at.1 ∙ ap Some o.2, at.2))

pub indexes_are_told : IndexesAreTold
indexes_are_told rounds walk es s places fault placed =
    let A = answers_in s in
    let notes = rounds.indexes.notes in
    let tell = told_are_found Thing.Index rounds.indexes.names (map fault_noted notes) fault in (
      λ c. (let t = tell.0 c in (
        t.0,
        own_not_place rounds walk es s s.notes.indexes.answers notes t.1.0 fault.what s.notes.indexes.noted t.1.2,
        subst (λ thing. IsFound A thing fault.name (Some fault.what)) (sym t.0) (found_is rounds walk es s places placed fault.name fault.what t.1.0 t.1.1 (own_at rounds walk es s notes places t.1.0 fault.what placed t.1.2)),
      )),
      λ f. (let at = is_found rounds walk es s places placed fault.name fault.what (subst (λ thing. IsFound A thing fault.name (Some fault.what)) f.0 f.2) in
          tell.1 (
            f.0,
            (
              at.0,
              at.1,
              elim (one_at rounds walk es s notes places at.0 fault.what at.2) [
                | inl own ↦ own
                | inr other ↦ absurd (f.1 (place_at rounds walk es s notes places at.0 fault.what placed other).0)
              ],
            ),
          )),
    )

pub places_are_told : PlacesAreTold
places_are_told rounds walk es s places fault placed =
    let A = answers_in s in
    let notes = rounds.indexes.notes in
    let tell = told_are_found Thing.Index rounds.indexes.names places fault in (
      λ c. (let t = tell.0 c in
          let at = place_at rounds walk es s notes places t.1.0 fault.what placed t.1.2 in
          (t.0, at.0, subst (λ thing. IsFound A thing fault.name (Some fault.what)) (sym t.0) (found_is rounds walk es s places placed fault.name fault.what t.1.0 t.1.1 at.1))),
      λ f. (let at = is_found rounds walk es s places placed fault.name fault.what (subst (λ thing. IsFound A thing fault.name (Some fault.what)) f.0 f.2) in
          tell.1 (
            f.0,
            (
              at.0,
              at.1,
              elim (one_at rounds walk es s notes places at.0 fault.what at.2) [
                | inl own ↦ absurd (own_not_place rounds walk es s s.notes.indexes.answers notes at.0 fault.what s.notes.indexes.noted own f.1)
                | inr other ↦ other
              ],
            ),
          )),
    )
