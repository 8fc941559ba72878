-- What a backup of entries may put, and how it may end, from what it knows of its trace.
use Rattle.std.proofs.Common.{◌≡◌, ◌<◌, ◌++◌, [], ℕ, true, List, length, None, refl, sym, ap, subst, inl, inr, ◌⊎◌, ◌∙◌, Contains}
use Rattle.std.proofs.lemmas.List.Elements.{Contains-append_left}
use Rattle.repo_index.specs.IndexText.{facts_in}
use Rattle.repo_index.specs.declared.facts.Fact.{Fact}
use Rattle.repo_name.specs.Limits.{facts_limit}
use Rattle.repo_pack.specs.PackLayout.{Item, IsTruePack}
use Rattle.repo_session.specs.Feeds.{Fed}
use Rattle.repo_session.specs.Traces.{Each, Trace}
use Rattle.repo_tree.specs.declared.configs.Config.{Config}
use Rattle.repo_tree.specs.declared.entries.Entry.{Entry}
use Rattle.repo_writing.proofs.BlobLemmas.{has_either}
use Rattle.repo_writing.proofs.PutLemmas.{each_contained}
use Rattle.repo_writing.proofs.Writings.{one_packed}
use Rattle.repo_writing.specs.Writing.{Put, items_of}
use Rattle.repo_writing.specs.Filling.{IsPromptPack, IsFullPack}
use Rattle.repo_backup.specs.Folders.{Folder, IsFolderOf, blobs_of}
use Rattle.repo_backup.specs.Items.{Feeding, place_of, spelled_by, AreTaken}
use Rattle.repo_backup.specs.Packings.{IsCovered}
use Rattle.repo_backup.specs.PieceRules.{IsStandingOf}
use Rattle.repo_backup.specs.PieceStates.{StandsAt}
use Rattle.repo_backup.specs.Plans.{fed_on, LeadThrough}
use Rattle.repo_backup.specs.Rules.{IsMade, IsInOrder, AreLast, PackRule}
use Rattle.repo_backup.specs.Standings.{Standing, LeadTo, made_at}
use Rattle.repo_backup.specs.declared.piece_backing.PieceBacking.{PieceBacking}
use Rattle.repo_backup.proofs.Closing.{some_here}
use Rattle.repo_backup.proofs.Dues.{index_undue}
use Rattle.repo_backup.proofs.Leading.{made_later, over_last}
use Rattle.repo_backup.proofs.Orders.{order_later, sealed_order}
use Rattle.repo_backup.proofs.PieceRuling.{made_whole, sealed_made, sealed_once, sealed_unread, sealed_unput, over_is, whole_covered}
use Rattle.repo_backup.proofs.StepFeeding.{fed_after}
use Rattle.repo_backup.proofs.Written.{known_given}

-- by the same config it is made of the same entries
pub made_so : {es : Trace} {folder : Folder} {spelled entries : List Entry} → spelled ≡ entries → (m : IsMade spelled es folder) → (k : IsMade entries es folder) × (k.config ≡ m.config)
made_so {folder = folder} same m = (record { text = m.text; config = m.config; read = m.read; reads = m.reads; known = m.known; cut = subst (λ en. IsFolderOf m.config.params en folder) same m.cut }, refl)

-- what was made of some first items is made of the entries
pub made_through : (entries : List Entry) (left : List Fed) (items : Feeding) (es : Trace) (config : Config) (st : Standing) → LeadThrough entries left items → IsStandingOf items es config st
    → (folder : Folder) × (m : IsMade entries es folder) × (m.config ≡ config) × (later : List Item) × (blobs_of config.version folder ≡ made_at config.version st ++ later)
made_through entries left items es config st leads at =
    let all = fed_on left items in
    let f = fed_after left items in
    let k = made_later config.params at.has.reads.allowed.0 config.version f.0 items st (subst AreTaken f.1 leads.taken) at.lead in
    let m = made_whole all es config k.0 (record { has = at.has; lead = subst (λ l. LeadTo config.params l k.0) (sym f.1) k.1 }) leads.taken leads.ends in
    let t = made_so leads.spells m.0 in
    (k.0.done, t.0, t.1 ∙ m.1, k.2, sym m.2 ∙ k.3)

-- what begins some blobs is among them
pub among_blobs : (made later whole : List Item) → whole ≡ made ++ later → (x : Item) → Contains made x → Contains whole x
among_blobs made later whole is x among = subst (λ l. Contains l x) (sym is) (Contains-append_left made later x among)

-- items that ended spell them
pub ended_spell : (entries : List Entry) (left : List Fed) (items : Feeding) → LeadThrough entries left items → (place_of items).over ≡ true → spelled_by items ≡ entries
ended_spell entries left items leads over =
    let f = fed_after left items in
    let none = over_last f.0 items (subst AreTaken f.1 leads.taken) over in
    let all : fed_on left items ≡ items = f.1 ∙ ap (λ m. m ++ items) none in
    ap spelled_by (sym all) ∙ leads.spells

module _ (entries : List Entry) (left : List Fed) (facts : List Fact) (b : PieceBacking) (puts : List Put) (sealed : List Item) (items : Feeding) (es : Trace) (leads : LeadThrough entries left items) (h : StandsAt facts b puts [] sealed items es) where
  -- then nothing more waits
  pub are_last : b.work.parts ≡ None → (place_of items).over ≡ true → AreLast entries es sealed
  are_last unlaid over =
      let V = h.config.version in
      let m = made_whole items es h.config h.st h.at h.taken over in
      let t = made_so (ended_spell entries left items leads over) m.0 in
      let some = some_here b.work.walk.root (over_is facts b puts sealed items es h unlaid ∙ over) in
      let covered : Each (λ item. IsCovered facts (items_of puts ++ sealed) item) (blobs_of V h.st.done) = subst (λ l. Each (λ item. IsCovered facts (items_of puts ++ sealed) item) l) m.2 (whole_covered facts b puts sealed items es h unlaid some) in
      record {
        folder = h.st.done;
        cut = t.0;
        all = λ item among. elim (each_contained (λ i. IsCovered facts (items_of puts ++ sealed) i) (blobs_of V h.st.done) item covered (subst (λ (c : Config). Contains (blobs_of c.version h.st.done) item) (t.1 ∙ m.1) among)) [
          | inl fact ↦ inl (known_given facts es item.kind item.name h.written.gives fact)
          | inr has ↦ elim (has_either (items_of puts) sealed item.kind item.name has) [
            | inl sent ↦ inr (inl (one_packed b.counts puts es h.written.put item.kind item.name sent))
            | inr here ↦ inr (inr here)
          ]
        ];
      }

  -- the sealed pack may be put
  pub backup_pack : b.listed ≡ None → length (facts_in b.waiting) < facts_limit → (x : List ℕ) → IsTruePack x sealed → IsPromptPack es sealed → IsFullPack es sealed ⊎ (((place_of items).over ≡ true) × (b.work.parts ≡ None)) → PackRule entries es x
  backup_pack unlisted few x pack prompt full =
      let t = made_through entries left items es h.config h.st leads h.at in
      record {
        indexes = h.written.indexed;
        first = h.written.none;
        unlisted = index_undue facts b puts es h.written unlisted few;
        items = sealed;
        pack = pack;
        folder = t.0;
        cut = t.1;
        made = λ item among. subst (λ (c : Config). Contains (blobs_of c.version t.0) item) (sym t.2) (among_blobs (made_at h.config.version h.st) t.3 (blobs_of h.config.version t.0) t.4 item (sealed_made facts b puts sealed items es h item among));
        order = subst (λ (c : Config). IsInOrder es (blobs_of c.version t.0) sealed) (sym t.2) (order_later es (made_at h.config.version h.st) t.3 (blobs_of h.config.version t.0) sealed t.4 (sealed_order facts b puts sealed items es h));
        once = sealed_once facts b puts sealed items es h;
        unread = sealed_unread facts b puts sealed items es h;
        unput = sealed_unput facts b puts sealed items es h;
        prompt = prompt;
        full = elim full [ inl due ↦ inl due | inr over ↦ inr (are_last over.1 over.0) ];
      }
