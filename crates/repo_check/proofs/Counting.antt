-- What a clean check counts is what the store has.
use Rattle.std.proofs.Common.{◌≡◌, ◌↔◌, ℕ, List, map, length, Some, None, refl, sym, subst, Contains}
use Rattle.std.proofs.lemmas.List.{length-map}
use Rattle.std.specs.List.Sorted.{IsStrictlySortedBy}
use Rattle.repo_name.specs.Naming.{name_cmp}
use Rattle.repo_name.specs.declared.kinds.BlobKind.{BlobKind}
use Rattle.repo_name.specs.declared.kinds.BlobKind.TheVariants.{Tree}
use Rattle.repo_name.specs.declared.kinds.Kind.{Kind}
use Rattle.repo_name.specs.declared.names.Name.{Name}
use Rattle.repo_name.proofs.Containing.{map_contains, contains_map}
use Rattle.repo_tree.specs.Laws.{Agree}
use Rattle.repo_tree.specs.Parts.{Blobs}
use Rattle.repo_tree.specs.Spelling.{Reach, HasPair, greatest_depth}
use Rattle.repo_tree.proofs.SpellingLemmas.{reach_within}
use Rattle.repo_store.specs.Stores.{Store, Objects}
use Rattle.repo_session.specs.declared.outcomes.Outcome.{Outcome}
use Rattle.repo_session.specs.Askers.{Asker}
use Rattle.repo_session.specs.Order.{Obeys}
use Rattle.repo_session.specs.Soundness.{IsHeld}
use Rattle.repo_session.specs.Talks.{Talk, trace_of}
use Rattle.repo_session.specs.Traces.{names_in}
use Rattle.repo_session.proofs.Growing.{Led, led}
use Rattle.repo_check.specs.Answers.{Answer, Gathered, TreesOf, GivesRoot, IsReachedBlob}
use Rattle.repo_check.specs.Checking.{check_task, CheckAllows, CheckGives, AreWell, IsClean, IsCount}
use Rattle.repo_check.specs.Laws.{AreObjects, HasNoClash, IsReachedIn, CleanCountsReached}
use Rattle.repo_check.specs.LoneLaws.{AreStoredApart, AreNamesOf, ArePairsOf, AreCountsOf, CleanTellsCounts}
use Rattle.repo_check.proofs.LoneChecks.{are, given, no_clash, clean_before}
use Rattle.repo_check.proofs.Sounding.{there, came, held_apart, grows, tree_well}
use Rattle.repo_check.proofs.Stands.{ascends_sorted}

-- ---- what is reached in the trees that came, and in the blobs held

module _ (answers : Gathered) (objects : Objects) (well : AreWell answers) (arrived : AreObjects answers objects) (apart : HasNoClash answers) where
  abbrev H : Blobs
  H = IsHeld objects

  abbrev T : Blobs
  T = TreesOf answers

  agree : Agree T H
  agree k x y h g same = held_apart answers objects well arrived apart k x y (grows answers objects well arrived apart k x h) g same

  agree_back : Agree H T
  agree_back k x y h g same = held_apart answers objects well arrived apart k x y h (grows answers objects well arrived apart k y g) same

  module _ (version : ℕ) (root : Name) (rooted : GivesRoot answers version root) where
    -- each tree that is reached came
    tree_came : (n : Name) → Reach version T root Tree n → HasPair T Tree n
    tree_came n r = let w = tree_well answers objects well arrived apart n (version, root, rooted, r) in record { bytes = w.tree.text; among = w.tree.among; named = w.tree.named }

    came_of_held : (k : BlobKind) (n : Name) → Reach version H root k n → Reach version T root k n
    came_of_held k n r = reach_within version T H agree greatest_depth root k n tree_came r

    held_of_came : (k : BlobKind) (n : Name) → Reach version T root k n → Reach version H root k n
    held_of_came k n r = reach_within version H T agree_back greatest_depth root k n tree_held r
      where
        tree_held : (m : Name) → Reach version H root Tree m → HasPair H Tree m
        tree_held m q = let p = tree_came m (came_of_held Tree m q) in record { bytes = p.bytes; among = grows answers objects well arrived apart Tree p.bytes p.among; named = p.named }

  reached_in : (k : BlobKind) (n : Name) → IsReachedBlob answers k n ↔ IsReachedIn objects k n
  reached_in k n = (
    λ r.
        let g = r.2 in
        let own : Reach g.snapshot.version H r.1 k n = subst (λ v. Reach v H r.1 k n) (sym g.version_is) (held_of_came r.0 r.1 g k n r.3) in
        record {
          name = g.name;
          text = g.text;
          snapshot = g.snapshot;
          there = there answers objects well arrived apart Kind.Snapshot g.name g.text g.came;
          reads = g.reads;
          reaches = subst (λ t. Reach g.snapshot.version H t k n) (sym g.root_is) own;
        },
    λ h.
        let rooted : GivesRoot answers h.snapshot.version h.snapshot.tree = record {
          name = h.name;
          text = h.text;
          snapshot = h.snapshot;
          came = came answers objects well arrived apart Kind.Snapshot h.name h.text h.there;
          reads = h.reads;
          version_is = refl;
          root_is = refl;
        } in
        (h.snapshot.version, h.snapshot.tree, rooted, came_of_held h.snapshot.version h.snapshot.tree rooted k n h.reaches),
  )

pub clean_counts_reached : CleanCountsReached
clean_counts_reached es snapshots indexes packs blobs objects clean arrived apart = reached_in clean.answers objects clean.well arrived apart

-- ---- a check alone with its store

module _ (who : Asker) (from : Store) (apart : AreStoredApart from) (snapshots indexes packs blobs : ℕ)
    (talk : Talk) (to : Store) (o : Obeys (check_task who) CheckAllows CheckGives (trace_of talk)) (h : Led from talk to) (clean : IsClean (trace_of talk) snapshots indexes packs blobs) where
  arrived : AreObjects clean.answers from.objects
  arrived = are who from talk to o h clean.answers clean.received

  abbrev names_of : Kind → List Name
  names_of k = map (λ (a : Answer). a.name) (clean.answers.objects k)

  are_names : (k : Kind) → AreNamesOf from.objects k (names_of k)
  are_names k = record {
    each = λ n. (
      λ c.
          let found = map_contains (λ (a : Answer). a.name) (clean.answers.objects k) n c in
          let some = given who from talk to o h clean.answers clean.received k found.0 found.1 in
          let same : found.0 ≡ record { name = n; bytes = Some some.0 } = λ i. record { name = found.2 i; bytes = some.1 i } in
          (some.0, (arrived k n some.0).1 (subst (λ (a : Answer). Contains (clean.answers.objects k) a) same found.1)),
      λ there. contains_map (λ (a : Answer). a.name) (clean.answers.objects k) (record { name = n; bytes = Some there.0 }) ((arrived k n there.0).0 there.1),
    );
    ascend = let got = clean.received.objects k in subst (λ ns. IsStrictlySortedBy name_cmp ns) (sym got.names) (ascends_sorted None (names_in k (trace_of talk)) got.listed.rise.ascend);
  }

  counted : (k : Kind) (told : ℕ) → IsCount told (length (clean.answers.objects k)) → (names : List Name) × AreNamesOf from.objects k names × IsCount told (length names)
  counted k told is = (names_of k, are_names k, subst (λ l. IsCount told l) (sym (length-map (clean.answers.objects k) (λ (a : Answer). a.name))) is)

  are_pairs : ArePairsOf from.objects clean.counts.pairs
  are_pairs = record {
    each = λ pair.
        let listed = clean.counts.pairs_are.each pair in
        let held = reached_in clean.answers from.objects clean.well arrived (no_clash who from talk to o h snapshots indexes packs blobs clean apart) pair.kind pair.name in
        (λ c. held.0 (listed.0 c), λ r. listed.1 (held.1 r));
    ascend = clean.counts.pairs_are.ascend;
  }

  own_counts : AreCountsOf from.objects snapshots indexes packs blobs
  own_counts = record {
    snapshots_are = counted Kind.Snapshot snapshots clean.counts.snapshots_are;
    indexes_are = counted Kind.Index indexes clean.counts.indexes_are;
    packs_are = counted Kind.Pack packs clean.counts.packs_are;
    blobs_are = (clean.counts.pairs, are_pairs, clean.counts.blobs_are);
  }

pub clean_tells_counts : CleanTellsCounts
clean_tells_counts who from to failed failing talk next snapshots indexes packs blobs apart ran is =
    clean_before who from (AreCountsOf from.objects snapshots indexes packs blobs) snapshots indexes packs blobs (own_counts who from apart snapshots indexes packs blobs)
    talk to is.obeys (led from talk to ran.run) (is.concluded (Outcome.Clean snapshots indexes packs blobs) refl).0
