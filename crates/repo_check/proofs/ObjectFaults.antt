-- What is told of objects by their notes.
use Rattle.std.proofs.Common.{◌≡◌, ◌∷◌, [], ℕ, zero, suc, List, length, map, slice_get, Option, Some, None, sym, ap, subst, inl, inr, ◌↔◌, ◌∙◌, Contains}
use Rattle.std.proofs.lemmas.List.{take_all}
use Rattle.std.proofs.lemmas.Option.{same_Some}
use Rattle.repo_name.specs.declared.kinds.Kind.{Kind}
use Rattle.repo_name.specs.declared.kinds.Thing.{Thing}
use Rattle.repo_name.specs.declared.names.Name.{Name}
use Rattle.repo_index.specs.declared.facts.Fact.{Fact}
use Rattle.repo_session.specs.Traces.{Trace}
use Rattle.repo_session.specs.declared.outcomes.FaultKind.{FaultKind}
use Rattle.repo_name.proofs.Containing.{contained_or, first_contained, later_contained, none_contained}
use Rattle.repo_reach.specs.declared.roots.Root.{Root}
use Rattle.repo_check.specs.Answers.{Answer, Gathered}
use Rattle.repo_check.specs.Arrivals.{IsFaulty, IsPackOf, IsRootOf}
use Rattle.repo_check.specs.Checking.{IsFound}
use Rattle.repo_check.specs.Findings.{ObjectIs}
use Rattle.repo_check.specs.Gathering.{fault_noted}
use Rattle.repo_check.specs.Rounds.{AreNoted, IsNoteOf, IsWholeRound, Match, RoundView}
use Rattle.repo_check.specs.Surveys.{PacksAreTold, SnapshotsAreTold, answers_in}
use Rattle.repo_check.specs.Telling.{IsFoundAmong}
use Rattle.repo_check.specs.declared.rounds.Note.{Note}
use Rattle.repo_check.proofs.Finding.{object_once}
use Rattle.repo_check.proofs.Tellings.{told_are_found}

-- an answer that is at fault by itself is so whatever else came
pub faulty_is : (answers : Gathered) (k : Kind) (a : Answer) (what : FaultKind) → IsFaulty k a what → ObjectIs answers k a (Some what)
faulty_is answers k a FaultKind.Missing h = h answers
faulty_is answers k a FaultKind.Name h = h answers
faulty_is answers k a FaultKind.Unreadable h = h answers
faulty_is answers k a FaultKind.Place h = absurd h
faulty_is answers k a FaultKind.Unindexed h = h answers

module _ (answers : Gathered) (k : Kind) where
  -- what is found among answers, where something is found of each
  pub found_at : (xs : List Answer) (found : List (Option FaultKind)) (n : Name) (what : FaultKind) (i : ℕ) → Match (λ (a : Answer). ObjectIs answers k a) xs found → slice_get (map (λ (a : Answer). a.name) xs) i ≡ Some n → slice_get found i ≡ Some (Some what)
      → (a : Answer) × Contains xs a × (a.name ≡ n) × ObjectIs answers k a (Some what)
  found_at [] found n what i m named is = absurd (cc named)
  found_at (a ∷ xs) [] n what i m named is = absurd m
  found_at (a ∷ xs) (f ∷ found) n what zero m named is = (a, first_contained a xs, same_Some a.name n named, subst (λ g. ObjectIs answers k a g) (same_Some f (Some what) is) m.0)
  found_at (a ∷ xs) (f ∷ found) n what (suc i) m named is = (let rest = found_at xs found n what i m.1 named is in (rest.0, later_contained a xs rest.0 rest.1, rest.2, rest.3))

  pub among : (xs : List Answer) (found : List (Option FaultKind)) (a : Answer) (what : FaultKind) → Match (λ (b : Answer). ObjectIs answers k b) xs found → Contains xs a → ObjectIs answers k a (Some what)
      → (i : ℕ) × (slice_get (map (λ (b : Answer). b.name) xs) i ≡ Some a.name) × (slice_get found i ≡ Some (Some what))
  among [] found a what m c is = absurd (none_contained a c)
  among (b ∷ xs) [] a what m c is = absurd m
  among (b ∷ xs) (f ∷ found) a what m c is = elim (contained_or b xs a c) [
    | inl same ↦ (0, ap (λ (x : Answer). Some x.name) same, ap Some (object_once answers k b f (Some what) m.0 (subst (λ (x : Answer). ObjectIs answers k x (Some what)) (sym same) is)))
    | inr more ↦ (let rest = among xs found a what m.1 more is in (suc rest.0, rest.1, rest.2))
  ]

  module _ {T : Type 0} (Gives : Answer → T → Type 0) (well : (a : Answer) (x : T) → Gives a x → ObjectIs answers k a None) where
    noted_is : (a : Answer) (note : Note T) → IsNoteOf k Gives a note → ObjectIs answers k a (fault_noted note)
    noted_is a (Note.Well x) h = well a x h
    noted_is a (Note.Fault what) h = faulty_is answers k a what h

    pub each_is : (xs : List Answer) (notes : List (Note T)) → Match (IsNoteOf k Gives) xs notes → Match (λ (a : Answer). ObjectIs answers k a) xs (map fault_noted notes)
    each_is [] [] m = tt
    each_is (a ∷ xs) (note ∷ notes) m = (noted_is a note m.0, each_is xs notes m.1)
    each_is [] (note ∷ notes) m = absurd m
    each_is (a ∷ xs) [] m = absurd m

    -- what is found by the notes of a round that is over
    pub found_by : (round : RoundView T) (es : Trace) → IsWholeRound k round es → (h : AreNoted k Gives round.names round.notes es) → (n : Name) (what : FaultKind)
        → IsFoundAmong round.names (map fault_noted round.notes) n what ↔ ((a : Answer) × Contains h.answers a × (a.name ≡ n) × ObjectIs answers k a (Some what))
    found_by round es whole h n what =
        let names : map (λ (a : Answer). a.name) h.answers ≡ round.names = h.named ∙ take_all (length round.notes) round.names whole.all in
        let is = each_is h.answers round.notes h.noted in (
          λ f. found_at h.answers (map fault_noted round.notes) n what f.0 is (ap (λ ns. slice_get ns f.0) names ∙ f.1) f.2,
          λ o. (let at = among h.answers (map fault_noted round.notes) o.0 what is o.1 o.3 in (at.0, ap (λ ns. slice_get ns at.0) (sym names) ∙ at.1 ∙ ap Some o.2, at.2)),
        )

pub root_well : (answers : Gathered) (a : Answer) (root : Root) → IsRootOf a root → ObjectIs answers Kind.Snapshot a None
root_well answers a root h = (h.0, h.2.0, h.2.1, (h.1, h.3))

pub pack_well : (answers : Gathered) (a : Answer) (facts : List Fact) → IsPackOf a facts → ObjectIs answers Kind.Pack a None
pack_well answers a facts h = (h.0, h.2.0, h.2.1, (h.1, h.3))

pub snapshots_are_told : SnapshotsAreTold
snapshots_are_told rounds walk es s fault =
    let A = answers_in s in
    let tell = told_are_found Thing.Snapshot rounds.snapshots.names (map fault_noted rounds.snapshots.notes) fault in
    let by = found_by A Kind.Snapshot IsRootOf (root_well A) rounds.snapshots es s.objects.snapshots s.notes.snapshots fault.name fault.what in (
      λ c. (let t = tell.0 c in (t.0, subst (λ thing. IsFound A thing fault.name (Some fault.what)) (sym t.0) (by.0 t.1))),
      λ f. tell.1 (f.0, by.1 (subst (λ thing. IsFound A thing fault.name (Some fault.what)) f.0 f.1)),
    )

pub packs_are_told : PacksAreTold
packs_are_told rounds walk es s fault =
    let A = answers_in s in
    let tell = told_are_found Thing.Pack rounds.packs.names (map fault_noted rounds.packs.notes) fault in
    let by = found_by A Kind.Pack IsPackOf (pack_well A) rounds.packs es s.objects.packs s.notes.packs fault.name fault.what in (
      λ c. (let t = tell.0 c in (t.0, subst (λ thing. IsFound A thing fault.name (Some fault.what)) (sym t.0) (by.0 t.1))),
      λ f. tell.1 (f.0, by.1 (subst (λ thing. IsFound A thing fault.name (Some fault.what)) f.0 f.1)),
    )
