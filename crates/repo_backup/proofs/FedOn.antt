-- What is known of a trace is known of it with one item more.
use Rattle.std.proofs.Common.{◌≡◌, ◌≢◌, ◌∷◌, ◌++◌, [], ℕ, true, false, None, List, length, refl, sym, ap, subst, ◌∙◌}
use Rattle.repo_index.specs.declared.facts.Fact.{Fact}
use Rattle.repo_index.specs.declared.facts.PackFacts.{PackFacts}
use Rattle.repo_name.specs.declared.kinds.Kind.{Kind}
use Rattle.repo_name.specs.declared.names.Name.{Name}
use Rattle.repo_name.specs.declared.tokens.Token.{Token}
use Rattle.repo_store.specs.Pages.{Has, NamesAscend}
use Rattle.repo_session.specs.Catalogs.{AreIndexed}
use Rattle.repo_session.specs.Feeds.{Fed}
use Rattle.repo_session.specs.Order.{Task, opened, IsUnfenced, IsNoUnlock, IsWorking, Obeys}
use Rattle.repo_session.specs.Traces.{Each, Trace, Exchanged, fed_in, with_fed, feeding, is_complete, names_in, objects_put, IsRead, ReadFact}
use Rattle.repo_wire.specs.declared.messages.Ask.{Ask}
use Rattle.repo_wire.specs.declared.messages.Say.{Say}
use Rattle.repo_writing.specs.Putting.{PutDone}
use Rattle.repo_writing.specs.Writing.{Put, Listing, IsDone}
use Rattle.repo_writing.specs.declared.counts.Counts.{Counts}
use Rattle.repo_backup.specs.Backing.{HasWritten}

pub fed_length : (item : Fed) (es : Trace) → length (feeding item es) ≡ length es
fed_length item [] = refl
fed_length item (e ∷ es) = refl

pub fed_items : (item : Fed) (es : Trace) → es ≢ [] → fed_in (feeding item es) ≡ item ∷ fed_in es
fed_items item [] some = absurd (some refl)
fed_items item (e ∷ es) some = refl

pub fed_exchanged : (item : Fed) (es : Trace) (ask : Ask) (say : Say) → Exchanged es ask say → Exchanged (feeding item es) ask say
fed_exchanged item [] ask say h = h
fed_exchanged item (e ∷ es) ask say h = h

pub exchanged_fed : (item : Fed) (es : Trace) (ask : Ask) (say : Say) → Exchanged (feeding item es) ask say → Exchanged es ask say
exchanged_fed item [] ask say h = h
exchanged_fed item (e ∷ es) ask say h = h

fed_complete : (item : Fed) (k : Kind) (es : Trace) → is_complete k (feeding item es) ≡ is_complete k es
fed_complete item k [] = refl
fed_complete item k (e ∷ es) = refl

fed_names : (item : Fed) (k : Kind) (es : Trace) → names_in k (feeding item es) ≡ names_in k es
fed_names item k [] = refl
fed_names item k (e ∷ es) = refl

pub fed_put : (item : Fed) (k : Kind) (es : Trace) → objects_put k (feeding item es) ≡ objects_put k es
fed_put item k [] = refl
fed_put item k (e ∷ es) = refl

pub fed_obeys : (task : Task) (Allows : Trace → Ask → Type 0) (item : Fed) (es : Trace) → Obeys task Allows (λ fs e. ⊥) es → Obeys task Allows (λ fs e. ⊥) (feeding item es)
fed_obeys task Allows item [] h = h
fed_obeys task Allows item (e ∷ es) h = (h.0, h.1, h.2, h.3)

-- ---- the lock

module _ (task : Task) (token : Token) (item : Fed) where
  later_fed : (es later : Trace) (text : List ℕ) → es ≡ later ++ opened task token text → is_complete Kind.Index es ≡ true → Each IsUnfenced later → Each IsNoUnlock later
      → (more : Trace) × (feeding item es ≡ more ++ opened task token text) × Each IsUnfenced more × Each IsNoUnlock more
  later_fed es [] text since complete unfenced unended = let none : is_complete Kind.Index es ≡ false = ap (is_complete Kind.Index) since in absurd (cc)
  later_fed es (f ∷ later) text since complete unfenced unended = (with_fed item f ∷ later, ap (feeding item) since, (unfenced.0, unfenced.1), (unended.0, unended.1))

  pub fed_working : (es : Trace) → is_complete Kind.Index es ≡ true → IsWorking task token es → IsWorking task token (feeding item es)
  fed_working es complete w =
      let h = w.1 in
      let k = later_fed es h.later h.text h.since complete h.held.unfenced h.held.unended in
      (w.0, record { later = k.0; text = h.text; since = k.1; reads = h.reads; known = h.known; held = record { unfenced = k.2; unended = k.3 } })

-- ---- what was read and put

module _ (item : Fed) (es : Trace) where
  fed_read : (k : Kind) (n : Name) (x : List ℕ) → IsRead es k n x → IsRead (feeding item es) k n x
  fed_read k n x h = (fed_exchanged item es (Ask.Get k n) (Say.Bytes x) h.0, h.1)

  read_fed : (k : Kind) (n : Name) (x : List ℕ) → IsRead (feeding item es) k n x → IsRead es k n x
  read_fed k n x h = (exchanged_fed item es (Ask.Get k n) (Say.Bytes x) h.0, h.1)

  pub fed_fact : (fact : Fact) → ReadFact es fact → ReadFact (feeding item es) fact
  fed_fact fact h = record { index = h.index; text = h.text; read = fed_read Kind.Index h.index h.text h.read; says = h.says }

  pub fact_fed : (fact : Fact) → ReadFact (feeding item es) fact → ReadFact es fact
  fact_fed fact h = record { index = h.index; text = h.text; read = read_fed Kind.Index h.index h.text h.read; says = h.says }

  pub fed_indexed : AreIndexed es → AreIndexed (feeding item es)
  fed_indexed h = record {
    listed = record {
      complete = fed_complete item Kind.Index es ∙ h.listed.complete;
      rise = record { ascend = subst (λ ns. NamesAscend None ns) (sym (fed_names item Kind.Index es)) h.listed.rise.ascend; moves = λ after x. h.listed.rise.moves after (exchanged_fed item es (Ask.List Kind.Index after) (Say.Names true []) x) };
    };
    each = λ n l. (let k = h.each n (subst (λ ns. Has ns n) (fed_names item Kind.Index es) l) in (k.0, k.1, fed_read Kind.Index n k.0 k.2, k.3));
  }

  fed_done : (k : Kind) (n : Name) (x : List ℕ) → PutDone es k n x → PutDone (feeding item es) k n x
  fed_done k n x h = (h.0, fed_exchanged item es (Ask.Put h.0 k n x) Say.Done h.1)

  each_done : (puts : List Put) → Each (λ (p : Put). PutDone es Kind.Pack p.pack.name p.pack.bytes) puts → Each (λ (p : Put). PutDone (feeding item es) Kind.Pack p.pack.name p.pack.bytes) puts
  each_done [] h = tt
  each_done (p ∷ puts) h = (fed_done Kind.Pack p.pack.name p.pack.bytes h.0, each_done puts h.1)

  each_listed : (ls : List Listing) → Each (IsDone es) ls → Each (IsDone (feeding item es)) ls
  each_listed [] h = tt
  each_listed (l ∷ ls) h = (record { reads = h.0.reads; put = fed_done Kind.Index l.index.name l.index.bytes h.0.put }, each_listed ls h.1)

  -- what was written
  pub fed_written : (known : List Fact) (waiting : List PackFacts) (counts : Counts) (puts next : List Put) → HasWritten known waiting counts puts next es → HasWritten known waiting counts puts next (feeding item es)
  fed_written known waiting counts puts next h = record {
    indexed = fed_indexed h.indexed;
    gives = λ fact. ((λ c. fed_fact fact ((h.gives fact).0 c)), (λ r. (h.gives fact).1 (fact_fed fact r)));
    put = record { packs = h.put.packs ∙ sym (fed_put item Kind.Pack es); done = each_done puts h.put.done; each = h.put.each; counted = h.put.counted };
    lists = record { listings = h.lists.listings; indexes = h.lists.indexes ∙ sym (fed_put item Kind.Index es); read_back = each_listed h.lists.listings h.lists.read_back; lists = h.lists.lists };
    none = fed_put item Kind.Snapshot es ∙ h.none;
  }
