-- What is told of the blobs that are reached.
use Rattle.std.proofs.Common.{◌≡◌, ℕ, List, slice_get, Option, Some, sym, ap, subst, ◌↔◌, ◌∙◌, Contains}
use Rattle.std.proofs.lemmas.Option.{same_Some}
use Rattle.std.specs.BTreeSet.{contains}
use Rattle.repo_name.specs.Naming.{name_cmp}
use Rattle.repo_name.specs.declared.kinds.BlobKind.{BlobKind}
use Rattle.repo_name.specs.declared.kinds.BlobKind.TheVariants.{Content, Tree}
use Rattle.repo_name.specs.declared.kinds.Thing.{Thing}
use Rattle.repo_name.specs.declared.names.Name.{Name}
use Rattle.repo_name.proofs.Containing.{contains_got, stands_at}
use Rattle.repo_session.specs.Traces.{Trace}
use Rattle.repo_session.specs.declared.outcomes.CheckFault.{CheckFault}
use Rattle.repo_session.specs.declared.outcomes.FaultKind.{FaultKind}
use Rattle.repo_check.specs.Answers.{Gathered, IsReachedBlob}
use Rattle.repo_check.specs.Checking.{OfBlob}
use Rattle.repo_check.specs.Findings.{BlobIs}
use Rattle.repo_check.specs.Rounds.{Match}
use Rattle.repo_check.specs.Surveys.{IsSurveyed, RoundsView, answers_in}
use Rattle.repo_check.specs.Telling.{told}
use Rattle.repo_check.specs.Verdicts.{AreBlobsTold, AreReached, IsTreeFound, ReachedView}
use Rattle.repo_check.specs.Walks.{ContentFault, WalkView}
use Rattle.repo_check.proofs.Finding.{blob_once}
use Rattle.repo_check.proofs.Matching.{facing, opposite}
use Rattle.repo_check.proofs.Reached.{surveyed_is_received}
use Rattle.repo_check.proofs.Stands.{content_reached, trees_reached}
use Rattle.repo_check.proofs.Tellings.{told_are_found}
use Rattle.repo_check.proofs.TreeFaults.{content_is_told, trees_are_told}

-- blobs of a kind, and what is found of each
pub record Finds (answers : Gathered) (k : BlobKind) (names : List Name) (found : List (Option FaultKind)) : Type 1 where
  pub R : Name → Option FaultKind → Type 0
  pub match : Match R names found
  pub reached : (n : Name) → Contains names n ↔ IsReachedBlob answers k n
  pub says : (n : Name) (f : Option FaultKind) → IsReachedBlob answers k n → R n f → BlobIs answers k n f

module _ (answers : Gathered) (k : BlobKind) (names : List Name) (found : List (Option FaultKind)) (h : Finds answers k names found) where
  -- something is found of each that is reached
  pub blob_found : (n : Name) → IsReachedBlob answers k n → (i : ℕ) × (f : Option FaultKind) × (slice_get names i ≡ Some n) × (slice_get found i ≡ Some f) × BlobIs answers k n f
  blob_found n reached =
      let at = stands_at names n ((h.reached n).1 reached) in
      let o = opposite h.R names found at.0 n h.match at.1 in
      (at.0, o.other, at.1, o.there, h.says n o.other reached o.belongs)

  -- what is told is just what is found
  pub blobs_told : (single : (f g : Option FaultKind) (n : Name) → BlobIs answers k n f → BlobIs answers k n g → f ≡ g) (thing : Thing) (fault : CheckFault)
      → Contains (told thing names found) fault ↔ ((fault.thing ≡ thing) × OfBlob answers k fault.name (Some fault.what))
  blobs_told single thing fault =
      let tell = told_are_found thing names found fault in (
        λ c. (let t = tell.0 c in
            let f = facing h.R names found t.1.0 (Some fault.what) h.match t.1.2 in
            let same : f.other ≡ fault.name = same_Some f.other fault.name (sym f.there ∙ t.1.1) in
            let reached = (h.reached fault.name).0 (contains_got names t.1.0 fault.name t.1.1) in
            (t.0, (reached, h.says fault.name (Some fault.what) reached (subst (λ n. h.R n (Some fault.what)) same f.belongs)))),
        λ is. (let b = blob_found fault.name is.1.0 in
            tell.1 (is.0, (b.0, b.2, b.3 ∙ ap Some (single b.1 (Some fault.what) fault.name b.4 is.1.1)))),
      )

module _ (rounds : RoundsView) (walk : WalkView) (es : Trace) (s : IsSurveyed rounds walk es) (reached : ReachedView) (are : AreReached walk reached) where
  abbrev A : Gathered
  A = answers_in s

  pub once_found : (k : BlobKind) (f g : Option FaultKind) (n : Name) → BlobIs A k n f → BlobIs A k n g → f ≡ g
  once_found k f g n = blob_once A ((surveyed_is_received rounds walk es s).trees.so_far.once) k n f g

  pub content_finds : (found : List (Option FaultKind)) → Match (ContentFault walk.known.facts) reached.content found → Finds A Content reached.content found
  content_finds found m = record {
    R = ContentFault walk.known.facts;
    match = m;
    reached = content_reached rounds walk es s reached are;
    says = λ n f r is. content_is_told rounds walk es s n f is;
  }

  pub tree_finds : (old : List CheckFault) (new : List CheckFault) (t : AreBlobsTold walk reached old new) → Finds A Tree reached.trees t.trees
  tree_finds old new t = record {
    R = IsTreeFound walk.known t.broken;
    match = t.trees_are;
    reached = trees_reached rounds walk es s reached are;
    says = λ n f r is. subst (λ g. BlobIs A Tree n g) (sym is) (trees_are_told rounds walk es s n (contains name_cmp t.broken n) r (t.broken_are n));
  }
