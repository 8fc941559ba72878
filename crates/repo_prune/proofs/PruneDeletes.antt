-- What is known while a prune deletes.
use Rattle.std.proofs.Common.{arith, Bool, Vec, Global, ◌≡◌, ◌<◌, ◌≤◌, ◌+◌, ◌⊎◌, ◌↔◌, ◌++◌, ◌∷◌, [], ℕ, true, false, IsTrue, List, Some, None, length, map, take, slice_get, refl, sym, ap, subst, inl, inr, ◌∙◌, Contains, append-nil}
use Rattle.std.specs.Cmp.{eq_by_cmp_equiv}
use Rattle.std.specs.List.Sorted.{IsStrictlySortedBy}
use Rattle.std.specs.Ordering.{is_eq}
use Rattle.std.proofs.lemmas.List.{take_all}
use Rattle.repo_name.proofs.Containing.{contained_or, contains_map, first_contained, later_contained, map_contains, none_contained, contains_got}
use Rattle.repo_index.specs.declared.facts.Fact.{Fact}
use Rattle.repo_index.specs.Order.{names_total}
use Rattle.repo_name.proofs.NameMaps.{same_name}
use Rattle.std.proofs.lemmas.Option.{slice_get_within}
use Rattle.repo_name.specs.Naming.{name_cmp}
use Rattle.repo_name.specs.declared.kinds.Kind.{Kind}
use Rattle.repo_name.specs.declared.names.Name.{Name}
use Rattle.repo_name.specs.declared.tokens.Token.{Token}
use Rattle.repo_index.specs.declared.facts.PackFacts.{PackFacts}
use Rattle.repo_store.specs.Pages.{Has, NamesAscend}
use Rattle.repo_wire.specs.declared.messages.Ask.{Ask}
use Rattle.repo_wire.specs.declared.messages.Say.{Say}
use Rattle.repo_session.specs.declared.jobs.Step.{Step}
use Rattle.repo_session.specs.Askers.{Asker}
use Rattle.repo_session.specs.Blobs.{HasCome}
use Rattle.repo_session.specs.Deletions.{DeleteDone, names_deleted}
use Rattle.repo_session.specs.Jobs.{MayAsk}
use Rattle.repo_session.specs.Order.{IsWorking}
use Rattle.repo_session.specs.Told.{AskedToPut}
use Rattle.repo_session.specs.Traces.{Each, Exchange, Object, Trace, Lists, silent, objects_put, names_in}
use Rattle.repo_session.proofs.Deleting.{done_stays, listed_stays, listing_stays, names_stay}
use Rattle.repo_session.proofs.Descending.{received_grows}
use Rattle.repo_session.proofs.Spoken.{was_asked}
use Rattle.repo_session.proofs.Receiving.{each_both, each_more}
use Rattle.repo_writing.proofs.PutLemmas.{each_contained, asked_put, objects_put_other, put_done_later}
use Rattle.repo_writing.proofs.Writings.{lists_stay, all_done, counted, each_alone}
use Rattle.repo_writing.specs.Putting.{AreCounted, AreDone}
use Rattle.repo_writing.specs.Writing.{Put, IsPut, AreListed, ListsPack}
use Rattle.repo_writing.specs.declared.counts.Counts.{Counts}
use Rattle.repo_prune.specs.inner.Deleting.{BeginsDeleting, DeletesNext, IsGone}
use Rattle.repo_prune.specs.PruneStates.{Known, ArePacked, HasListed, IsClearing, KnowsDeleting, KnowsStage, MayClear, IsNextStep}
use Rattle.repo_prune.specs.Pruning.{prune_rule, prune_task, AreCovered, AreReplaced, IsPruned, IsSettled, IsWanted}
use Rattle.repo_prune.specs.declared.deleting.Deleting.{Deleting}
use Rattle.repo_prune.specs.declared.prunes.Stage.{Stage}
use Rattle.repo_prune.specs.declared.relisting.Relisting.{Relisting}
use Rattle.repo_prune.proofs.Asides.{aside_lists, indexed_same, packs_listed_same, packs_whole}
use Rattle.repo_prune.proofs.Repacking.{one_taken}
use Rattle.repo_prune.proofs.Those.{those_are, are_those, those_ascend}
use Rattle.repo_prune.proofs.Ascending.{behind_first}
use Rattle.repo_prune.proofs.Choosing.{ascending_sorted, has_contained, contained_has}

-- ---- what stays over a delete

unfoldable pub covered_later : (e : Exchange) (es : Trace) (rows : List Rattle.repo_prune.specs.Keeping.Row) (packs : List PackFacts) → AreCovered es rows packs → AreCovered (e ∷ es) rows packs
covered_later e es rows packs h = record {
  texts = h.texts;
  trees = record { received = λ x among. received_grows e es _ x (h.trees.received x among); one = h.trees.one };
  walked = h.walked;
  given = h.given;
  just = h.just;
  once = h.once;
}

-- a list with elements has one
pub first_of : {A : Type 0} (xs : List A) → 1 ≤ length xs → (x : A) × Contains xs x
first_of [] some = absurd (omega arith)
first_of (x ∷ xs) some = (x, first_contained x xs)

module _ (token : Token) (kind : Kind) (name : Name) (say : Say) (es : Trace) where
  e : Exchange
  e = silent (Ask.Delete token kind name) say

  objects_same : (k : Kind) → objects_put k (e ∷ es) ≡ objects_put k es
  unfolding e
  objects_same k = objects_put_other k (silent (Ask.Delete token kind name) say) es refl

  asked_before : (k : Kind) (n : Name) → AskedToPut (e ∷ es) k n → AskedToPut es k n
  unfolding e
  asked_before k n (t, x, inl now) = absurd (cc)
  asked_before k n (t, x, inr was) = (t, x, was)

  asked_later : (k : Kind) (n : Name) → AskedToPut es k n → AskedToPut (e ∷ es) k n
  unfolding e
  asked_later k n h = (h.0, h.1, inr h.2)

  lists_before : (k : Kind) (n : Name) → Lists (e ∷ es) k n → Lists es k n
  unfolding e
  lists_before k n h = subst (λ ns. Has ns n) (names_stay k (silent (Ask.Delete token kind name) say) es (aside_lists k (silent (Ask.Delete token kind name) say) tt)) h

  lists_later : (k : Kind) (n : Name) → Lists es k n → Lists (e ∷ es) k n
  unfolding e
  lists_later k n h = subst (λ ns. Has ns n) (sym (names_stay k (silent (Ask.Delete token kind name) say) es (aside_lists k (silent (Ask.Delete token kind name) say) tt))) h

  pub settled_later : (packs : List PackFacts) → IsSettled es packs → IsSettled (silent (Ask.Delete token kind name) say ∷ es) packs
  unfolding e objects_same
  settled_later packs h =
      let d : Exchange = silent (Ask.Delete token kind name) say in
      record {
        rows = h.rows;
        snapshots = listing_stays d es h.rows (aside_lists Kind.Snapshot d tt) h.snapshots;
        indexes = indexed_same d es tt h.indexes;
        there = packs_listed_same d es tt h.there;
        done = λ k object among. put_done_later d es k object.name object.bytes (h.done k object (subst (λ os. Contains os object) (objects_same k) among));
        listed = lists_stay packs [] d es refl h.listed;
        full = h.full;
        stand = λ object among. h.stand object (subst (λ os. Contains os object) (objects_same Kind.Pack) among);
        covered = covered_later d es h.rows packs h.covered;
      }

  counted_later : (blobs bytes : ℕ) → AreCounted es blobs bytes → AreCounted (silent (Ask.Delete token kind name) say ∷ es) blobs bytes
  unfolding e objects_same
  counted_later blobs bytes h = record { packs = h.packs; are = h.are ∙ sym (objects_same Kind.Pack); each = h.each; blobs_are = h.blobs_are; bytes_are = h.bytes_are }

  pub may_later : (packs : List PackFacts) (d : Deleting) → MayClear packs d es → MayClear packs d (silent (Ask.Delete token kind name) say ∷ es)
  unfolding e asked_before asked_later lists_before lists_later counted_later
  may_later packs d h =
      let x : Exchange = silent (Ask.Delete token kind name) say in
      record {
        settled = settled_later packs h.settled;
        all = listed_stays Kind.Pack x es (aside_lists Kind.Pack x tt) h.all;
        indexes_old = λ n among. let o = h.indexes_old n among in (lists_later Kind.Index n o.0, λ asked. o.1 (asked_before Kind.Index n asked));
        indexes_all = λ n lists. elim (h.indexes_all n (lists_before Kind.Index n lists)) [ inl put ↦ inl (asked_later Kind.Index n put) | inr old ↦ inr old ];
        packs_old = λ n among.
            let o = h.packs_old n among in
            record { among = lists_later Kind.Pack n o.among; unput = λ asked. o.unput (asked_before Kind.Pack n asked); unlisted = o.unlisted };
        packs_all = λ n lists. h.packs_all n (lists_before Kind.Pack n lists);
        indexes_ascend = h.indexes_ascend;
        packs_ascend = h.packs_ascend;
        blobs = h.blobs;
        counted = counted_later h.blobs d.bytes h.counted;
      }

-- ---- at the begin

-- each pack that was put is listed
pub puts_listed : (k : Known) (packs : List PackFacts) (counts : Counts) (es : Trace) → ArePacked k packs counts es → (object : Object) → Contains (objects_put Kind.Pack es) object → ListsPack packs object.name
puts_listed k packs counts es p object among =
    let found = map_contains (λ (q : Put). q.pack) p.puts object (subst (λ os. Contains os object) (sym p.put.packs) among) in
    let q : Put = found.0 in
    let is : IsPut q = each_contained IsPut p.puts q (each_alone p.puts p.put.each) found.1 in
    (q.listed, p.stand q found.1, is.same ∙ ap (λ (o : Object). o.name) found.2)

-- a name stands among some, or doesn't
among_step : (m : Name) (names : List Name) (n : Name) (b : Bool) → is_eq (name_cmp m n) ≡ b → Contains names n ⊎ (¬ Contains names n) → Contains (m ∷ names) n ⊎ (¬ Contains (m ∷ names) n)
among_step m names n true q rest = inl (subst (λ z. Contains (m ∷ names) z) (same_name m n q) (first_contained m names))
among_step m names n false q (inl more) = inl (later_contained m names n more)
among_step m names n false q (inr none) = inr (λ h. elim (contained_or m names n h) [
  | inl same ↦
      let itself : is_eq (name_cmp m m) ≡ true = (eq_by_cmp_equiv names_total).refl m in
      let other : is_eq (name_cmp m m) ≡ false = subst (λ z. is_eq (name_cmp m z) ≡ false) (sym same) q in
      absurd (cc)
  | inr more ↦ none more
])

pub among_or : (names : List Name) (n : Name) → Contains names n ⊎ (¬ Contains names n)
among_or [] n = inr (λ h. none_contained n h)
among_or (m ∷ names) n = among_step m names n (is_eq (name_cmp m n)) refl (among_or names n)

-- a name isn't among them
abbrev pub IsUnlike : List Name → Name → Type 0
IsUnlike names n = IsTrue false ↔ Contains names n

pub not_among : (names : List Name) (n : Name) → IsUnlike names n → ¬ Contains names n
not_among names n h has = let never = h.1 has in absurd (cc)

pub is_not_among : (names : List Name) (n : Name) → ¬ Contains names n → IsUnlike names n
is_not_among names n none = (λ never. absurd (cc), λ has. absurd (none has))

module _ (k : Known) (r : Relisting) (d : Deleting) (es : Trace) (h : HasListed k r es) (b : BeginsDeleting r k.indexes k.packs d) where
  whole : AreListed r.packs.items [] es
  whole = subst (λ ls. AreListed ls [] es) (take_all r.listed r.packs.items h.all) h.may.lists

  put_named : (n : Name) → AskedToPut es Kind.Index n → Contains r.indexes.items n
  put_named n asked = subst (λ ns. Contains ns n) (sym h.may.named) (contains_map (λ (o : Object). o.name) (objects_put Kind.Index es) (record { name = n; bytes = asked.1 }) (asked_put es asked.0 Kind.Index n asked.1 asked.2))

  all_done_now : AreDone es
  unfolding whole
  all_done_now = all_done r.counts h.may.packed.puts r.packs.items [] es h.may.packed.put whole h.may.packed.unstored

  named_put : (n : Name) → Contains r.indexes.items n → AskedToPut es Kind.Index n
  named_put n among =
      let found = map_contains (λ (o : Object). o.name) (objects_put Kind.Index es) n (subst (λ ns. Contains ns n) h.may.named among) in
      let done = all_done_now Kind.Index found.0 found.1 in
      let asked : AskedToPut es Kind.Index found.0.name = (done.0, found.0.bytes, was_asked es (Ask.Put done.0 Kind.Index found.0.name found.0.bytes) Say.Done done.1) in
      subst (AskedToPut es Kind.Index) found.2 asked

  lists_index : (n : Name) → Contains k.indexes n → Lists es Kind.Index n
  lists_index n among = contained_has (names_in Kind.Index es) n (subst (λ ns. Contains ns n) (sym h.may.packed.read.all.listed) among)

  index_listed : (n : Name) → Lists es Kind.Index n → Contains k.indexes n
  index_listed n lists = subst (λ ns. Contains ns n) h.may.packed.read.all.listed (has_contained (names_in Kind.Index es) n lists)

  lists_pack : (n : Name) → Contains k.packs n → Lists es Kind.Pack n
  lists_pack n among = contained_has (names_in Kind.Pack es) n (subst (λ ns. Contains ns n) (sym h.may.packed.read.all.packs.listed) among)

  pack_listed : (n : Name) → Lists es Kind.Pack n → Contains k.packs n
  pack_listed n lists = subst (λ ns. Contains ns n) h.may.packed.read.all.packs.listed (has_contained (names_in Kind.Pack es) n lists)

  pack_names : List Name
  pack_names = map (λ (listed : PackFacts). listed.pack) r.packs.items

  some_fact : (listed : PackFacts) → Contains r.packs.items listed → (fact : Fact) × Contains listed.facts fact
  some_fact listed among = first_of listed.facts (h.may.packed.listable listed among).some

  unput_pack : (n : Name) → ¬ ListsPack r.packs.items n → ¬ AskedToPut es Kind.Pack n
  unput_pack n none asked = none (puts_listed k r.packs.items r.counts es h.may.packed (record { name = n; bytes = asked.1 }) (asked_put es asked.0 Kind.Pack n asked.1 asked.2))

  pub may_clear : MayClear r.packs.items d es
  unfolding whole pack_names
  may_clear =
      let p = h.may.packed in
      let counted = counted r.counts p.puts es p.put in
      record {
        settled = record {
          rows = k.rows;
          snapshots = p.read.all.snapshots;
          indexes = p.read.all.indexes;
          there = p.read.there;
          done = all_done_now;
          listed = whole;
          full = some_fact;
          stand = puts_listed k r.packs.items r.counts es p;
          covered = p.covered;
        };
        all = packs_whole k es p.read;
        indexes_old = λ n among. let is = those_are (IsUnlike r.indexes.items) k.indexes d.indexes.items n b.indexes_are among in (lists_index n is.0, λ asked. not_among r.indexes.items n is.1 (put_named n asked));
        indexes_all = λ n lists. elim (among_or r.indexes.items n) [
          | inl put ↦ inl (named_put n put)
          | inr none ↦ inr (are_those (IsUnlike r.indexes.items) k.indexes d.indexes.items n b.indexes_are (index_listed n lists) (is_not_among r.indexes.items n none))
        ];
        packs_old = λ n among.
            let is = those_are (IsUnlike pack_names) k.packs d.packs.items n b.packs_are among in
            let none : ¬ ListsPack r.packs.items n = λ l. not_among pack_names n is.1 (subst (λ m. Contains pack_names m) l.2 (contains_map (λ (listed : PackFacts). listed.pack) r.packs.items l.0 l.1)) in
            record { among = lists_pack n is.0; unput = unput_pack n none; unlisted = none };
        packs_all = λ n lists. elim (among_or pack_names n) [
          | inl listed ↦ let found = map_contains (λ (q : PackFacts). q.pack) r.packs.items n listed in inl (found.0, found.1, found.2)
          | inr none ↦ inr (are_those (IsUnlike pack_names) k.packs d.packs.items n b.packs_are (pack_listed n lists) (is_not_among pack_names n none))
        ];
        indexes_ascend = those_ascend (IsUnlike r.indexes.items) name_cmp k.indexes d.indexes.items b.indexes_are (ascending_sorted None k.indexes (subst (NamesAscend None) p.read.all.listed p.read.all.indexes.listed.rise.ascend));
        packs_ascend = those_ascend (IsUnlike pack_names) name_cmp k.packs d.packs.items b.packs_are (ascending_sorted None k.packs (subst (NamesAscend None) p.read.all.packs.listed p.read.all.packs.rise.ascend));
        blobs = r.counts.blobs;
        counted = subst (λ m. AreCounted es r.counts.blobs m) (sym b.bytes) counted;
      }

  pub clearing_begins : IsClearing d es
  clearing_begins = record {
    packs = r.packs.items;
    may = may_clear;
    indexes_gone = subst (λ i. Each (λ n. DeleteDone es Kind.Index n) (take i d.indexes.items)) (sym b.none_gone.0) tt;
    packs_gone = subst (λ i. Each (λ n. DeleteDone es Kind.Pack n) (take i d.packs.items)) (sym b.none_gone.1) tt;
    indexes_deleted = h.may.packed.none Kind.Index ∙ ap (λ i. take i d.indexes.items) (sym b.none_gone.0);
    deleted = h.may.packed.none Kind.Pack ∙ ap (λ i. take i d.packs.items) (sym b.none_gone.1);
  }

-- ---- what comes next

module _ (k : Known) (d : Deleting) (who : Asker) (token : Token) (es : Trace) (w : IsWorking (prune_task who) token es) (c : IsClearing d es) where
  each_gone : (P : Name → Type 0) (names : List Name) (i : ℕ) → length names ≤ i → Each P (take i names) → (n : Name) → Contains names n → P n
  each_gone P names i long each n among = each_contained P names n (subst (Each P) (take_all i names long) each) among

  replaced : length d.indexes.items ≤ d.indexes_gone → AreReplaced es
  replaced all n lists = elim (c.may.indexes_all n lists) [
    | inl put ↦ inl put
    | inr old ↦ inr (each_gone (λ m. DeleteDone es Kind.Index m) d.indexes.items d.indexes_gone all c.indexes_gone n old)
  ]

  index_next : (n : Name) → slice_get d.indexes.items d.indexes_gone ≡ Some n → HasCome IsWanted es → MayAsk prune_rule who (KnowsStage k (Stage.Deleting d)) es (Ask.Delete token Kind.Index n)
  index_next n at come =
      let old = c.may.indexes_old n (contains_got d.indexes.items d.indexes_gone n at) in
      record {
        work = tt;
        may = (w, refl);
        allowed = (inl come, record { packs = c.packs; settled = c.may.settled; among = old.0; unput = old.1; behind = λ m asked. behind_first d.indexes.items d.indexes_gone n c.may.indexes_ascend at m (subst (λ ns. Contains ns m) c.indexes_deleted asked) });
        knows = (at, c);
      }

  pack_next : length d.indexes.items ≤ d.indexes_gone → (n : Name) → slice_get d.packs.items d.packs_gone ≡ Some n → HasCome IsWanted es → MayAsk prune_rule who (KnowsStage k (Stage.Deleting d)) es (Ask.Delete token Kind.Pack n)
  pack_next all n at come =
      let old = c.may.packs_old n (contains_got d.packs.items d.packs_gone n at) in
      record {
        work = tt;
        may = (w, refl);
        allowed = (inl come, record { packs = c.packs; settled = c.may.settled; replaced = replaced all; all = c.may.all; among = old.among; unput = old.unput; unlisted = old.unlisted; behind = λ m asked. behind_first d.packs.items d.packs_gone n c.may.packs_ascend at m (subst (λ ns. Contains ns m) c.deleted asked) });
        knows = (all, at, c);
      }

  ends : length d.indexes.items ≤ d.indexes_gone → length d.packs.items ≤ d.packs_gone → IsPruned es (length d.packs.items) d.bytes
  ends all gone =
      let names : names_deleted Kind.Pack es ≡ d.packs.items = c.deleted ∙ take_all d.packs_gone d.packs.items gone in
      let long : length (names_deleted Kind.Pack es) ≡ length d.packs.items = ap length names in
      let small = d.packs.small in
      record {
        packs = c.packs;
        settled = c.may.settled;
        replaced = replaced all;
        all = c.may.all;
        gone = λ n lists. elim (c.may.packs_all n lists) [
          | inl listed ↦ inl listed
          | inr old ↦ inr (each_gone (λ m. DeleteDone es Kind.Pack m) d.packs.items d.packs_gone gone c.packs_gone n old)
        ];
        deleted_are = omega (arith, long, small);
        blobs = c.may.blobs;
        counted = c.may.counted;
      }

  pub clears : (step : Step) → DeletesNext d token step → IsNextStep k who (Stage.Deleting d) step es
  clears step (inl (n, at, is)) = subst (λ s. IsNextStep k who (Stage.Deleting d) s es) (sym is) (index_next n at)
  clears step (inr (all, inl (n, at, is))) = subst (λ s. IsNextStep k who (Stage.Deleting d) s es) (sym is) (pack_next all n at)
  clears step (inr (all, inr (gone, is))) = subst (λ s. IsNextStep k who (Stage.Deleting d) s es) (sym is) (λ come. (come, ends all gone))

-- ---- a delete is done

gone_taken : (kind : Kind) (names : List Name) (i j : ℕ) (token : Token) (n : Name) (es : Trace) → slice_get names i ≡ Some n → (i < length names → j ≡ i + 1) → Each (λ m. DeleteDone es kind m) (take i names)
    → Each (λ m. DeleteDone (silent (Ask.Delete token kind n) Say.Done ∷ es) kind m) (take j names)
gone_taken kind names i j token n es at next h =
    let e : Exchange = silent (Ask.Delete token kind n) Say.Done in
    let P : Name → Type 0 = λ m. DeleteDone (e ∷ es) kind m in
    let before : Each P (take i names) = each_more (λ m. DeleteDone es kind m) P (take i names) (λ m d. done_stays e es kind m d) h in
    let now : Each P (take i names ++ n ∷ []) = each_both P (take i names) (n ∷ []) before ((token, inl (refl, refl)), tt) in
    subst (λ x. Each P (take x names)) (sym (next (slice_get_within names i n at))) (subst (Each P) (sym (one_taken names i n at)) now)

gone_same : (kind : Kind) (names : List Name) (e : Exchange) (es : Trace) → Each (λ m. DeleteDone es kind m) names → Each (λ m. DeleteDone (e ∷ es) kind m) names
gone_same kind names e es h = each_more (λ m. DeleteDone es kind m) (λ m. DeleteDone (e ∷ es) kind m) names (λ m d. done_stays e es kind m d) h

may_as : (packs : List PackFacts) (d f : Deleting) (es : Trace) → f.indexes ≡ d.indexes → f.packs ≡ d.packs → f.bytes ≡ d.bytes → MayClear packs d es → MayClear packs f es
may_as packs d f es i p b h = record {
  settled = h.settled;
  all = h.all;
  indexes_old = λ n among. h.indexes_old n (subst (λ (v : Vec Name Global). Contains v.items n) i among);
  indexes_all = λ n lists. elim (h.indexes_all n lists) [ inl put ↦ inl put | inr old ↦ inr (subst (λ (v : Vec Name Global). Contains v.items n) (sym i) old) ];
  packs_old = λ n among. h.packs_old n (subst (λ (v : Vec Name Global). Contains v.items n) p among);
  packs_all = λ n lists. elim (h.packs_all n lists) [ inl listed ↦ inl listed | inr old ↦ inr (subst (λ (v : Vec Name Global). Contains v.items n) (sym p) old) ];
  indexes_ascend = subst (λ (v : Vec Name Global). IsStrictlySortedBy name_cmp v.items) (sym i) h.indexes_ascend;
  packs_ascend = subst (λ (v : Vec Name Global). IsStrictlySortedBy name_cmp v.items) (sym p) h.packs_ascend;
  blobs = h.blobs;
  counted = subst (λ m. AreCounted es h.blobs m) (sym b) h.counted;
}

pub index_gone : (d f : Deleting) (token : Token) (n : Name) (es : Trace) → slice_get d.indexes.items d.indexes_gone ≡ Some n → IsClearing d es → IsGone d Kind.Index f → IsClearing f (silent (Ask.Delete token Kind.Index n) Say.Done ∷ es)
index_gone d f token n es at c g =
    let e : Exchange = silent (Ask.Delete token Kind.Index n) Say.Done in
    let I : Vec Name Global → ℕ → Type 0 = λ v i. Each (λ m. DeleteDone (e ∷ es) Kind.Index m) (take i v.items) in
    let P : Vec Name Global → ℕ → Type 0 = λ v i. Each (λ m. DeleteDone (e ∷ es) Kind.Pack m) (take i v.items) in
    record {
      packs = c.packs;
      may = may_as c.packs d f (e ∷ es) g.0 g.1 g.4 (may_later token Kind.Index n Say.Done es c.packs d c.may);
      indexes_gone = subst (λ v. I v f.indexes_gone) (sym g.0) (gone_taken Kind.Index d.indexes.items d.indexes_gone f.indexes_gone token n es at g.2 c.indexes_gone);
      packs_gone = subst (λ v. P v f.packs_gone) (sym g.1) (subst (λ i. P d.packs i) (sym g.3) (gone_same Kind.Pack (take d.packs_gone d.packs.items) e es c.packs_gone));
      indexes_deleted = ap (λ ns. ns ++ n ∷ []) c.indexes_deleted ∙ sym (one_taken d.indexes.items d.indexes_gone n at) ∙ ap (λ i. take i d.indexes.items) (sym (g.2 (slice_get_within d.indexes.items d.indexes_gone n at))) ∙ ap (λ (v : Vec Name Global). take f.indexes_gone v.items) (sym g.0);
      deleted = append-nil (names_deleted Kind.Pack es) ∙ c.deleted ∙ ap (λ i. take i d.packs.items) (sym g.3) ∙ ap (λ (v : Vec Name Global). take f.packs_gone v.items) (sym g.1);
    }

pub pack_gone : (d f : Deleting) (token : Token) (n : Name) (es : Trace) → slice_get d.packs.items d.packs_gone ≡ Some n → IsClearing d es → IsGone d Kind.Pack f → IsClearing f (silent (Ask.Delete token Kind.Pack n) Say.Done ∷ es)
pack_gone d f token n es at c g =
    let e : Exchange = silent (Ask.Delete token Kind.Pack n) Say.Done in
    let I : Vec Name Global → ℕ → Type 0 = λ v i. Each (λ m. DeleteDone (e ∷ es) Kind.Index m) (take i v.items) in
    let P : Vec Name Global → ℕ → Type 0 = λ v i. Each (λ m. DeleteDone (e ∷ es) Kind.Pack m) (take i v.items) in
    let next = g.3 (slice_get_within d.packs.items d.packs_gone n at) in
    record {
      packs = c.packs;
      may = may_as c.packs d f (e ∷ es) g.0 g.1 g.4 (may_later token Kind.Pack n Say.Done es c.packs d c.may);
      indexes_gone = subst (λ v. I v f.indexes_gone) (sym g.0) (subst (λ i. I d.indexes i) (sym g.2) (gone_same Kind.Index (take d.indexes_gone d.indexes.items) e es c.indexes_gone));
      packs_gone = subst (λ v. P v f.packs_gone) (sym g.1) (gone_taken Kind.Pack d.packs.items d.packs_gone f.packs_gone token n es at g.3 c.packs_gone);
      indexes_deleted = append-nil (names_deleted Kind.Index es) ∙ c.indexes_deleted ∙ ap (λ i. take i d.indexes.items) (sym g.2) ∙ ap (λ (v : Vec Name Global). take f.indexes_gone v.items) (sym g.0);
      deleted = ap (λ ns. ns ++ n ∷ []) c.deleted ∙ sym (one_taken d.packs.items d.packs_gone n at) ∙ ap (λ i. take i d.packs.items) (sym next) ∙ ap (λ (v : Vec Name Global). take f.packs_gone v.items) (sym g.1);
    }

pub one_gone : (kind : Kind) (d f : Deleting) (token : Token) (n : Name) (es : Trace) → KnowsDeleting d (Ask.Delete token kind n) es → IsGone d kind f → IsClearing f (silent (Ask.Delete token kind n) Say.Done ∷ es)
one_gone Kind.Index d f token n es h g = index_gone d f token n es h.0 h.1 g
one_gone Kind.Pack d f token n es h g = pack_gone d f token n es h.1 h.2 g
one_gone Kind.Snapshot d f token n es h g = absurd h
