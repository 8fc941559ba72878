-- A work that is fed still stands after the end of a file or of a directory.
use Rattle.std.proofs.Common.{arith, ◌≡◌, ◌≢◌, ◌≤◌, ◌++◌, ◌∷◌, [], ℕ, true, false, List, length, map, Option, Some, None, is_some, refl, sym, ap, subst, inl, inr, ◌⊎◌, ◌∙◌, append_assoc, append-nil, length-append, Contains}
use Rattle.std.proofs.lemmas.List.{map-append, same_from_push}
use Rattle.std.proofs.lemmas.List.Elements.{Contains-append_cases, Contains-append_left, Contains-append_right}
use Rattle.repo_chunk.proofs.CutLaws.{uncut_is_short}
use Rattle.repo_chunk.specs.Chunkers.{Holds, params_of}
use Rattle.repo_chunk.specs.Cuts.{HasNoCut}
use Rattle.repo_chunk.specs.Parameters.{AreLawful}
use Rattle.repo_index.specs.declared.facts.Fact.{Fact}
use Rattle.repo_name.specs.Naming as naming
use Rattle.repo_name.specs.declared.kinds.BlobKind.TheVariants.{Content}
use Rattle.repo_name.specs.declared.names.Name.{Name}
use Rattle.repo_pack.specs.PackLayout.{Item, item_of}
use Rattle.repo_name.specs.Limits.{blob_limit}
use Rattle.repo_session.specs.Feeds.{fed_close}
use Rattle.repo_session.specs.Traces.{Each}
use Rattle.repo_tree.specs.PartWriting.{root_text}
use Rattle.repo_tree.specs.declared.nodes.Node.{Node}
use Rattle.repo_tree.specs.declared.nodes.NodeKind.TheVariants.{File, Dir}
use Rattle.repo_backup.specs.Folders.{Folder, nothing, file_then, dir_then, joined, nodes_of}
use Rattle.repo_backup.specs.Items.{after, MayTake}
use Rattle.repo_backup.specs.Packings.{IsPacking, all_items}
use Rattle.repo_backup.specs.Waiting.{PacksAll}
use Rattle.repo_backup.specs.Pieces.{IsCoveredSoFar, ArePackedSoFar, waiting_in, IsFileAt, AreOuterAt, AreTextsAround, IsRootAt, IsAt, PieceStands, Goes, Stays}
use Rattle.repo_backup.specs.Plans.{AreTreeTextsBelow}
use Rattle.repo_backup.specs.Standings.{both, Around, FileCut, Standing, path_of, file_at, place_at, IsCutSoFar, chunk_items, last_chunk, made_at}
use Rattle.repo_backup.specs.declared.pieces.PieceFile.{PieceFile}
use Rattle.repo_backup.specs.declared.packing.Sealing.{Sealing}
use Rattle.repo_backup.specs.declared.piece_works.PieceWork.{PieceWork}
use Rattle.repo_backup.specs.declared.pieces.Outer.{Outer}
use Rattle.repo_backup.proofs.Leading.{next_close}
use Rattle.repo_backup.proofs.Lengthening.{joined_both, last_joined}
use Rattle.repo_backup.proofs.NamePlaces.{none_open, some_open, outer_count}
use Rattle.repo_backup.proofs.Piecing.{opened, make_at, stands_many, waiting_made}

pub nodes_both : (version : ℕ) (a b : Folder) → nodes_of version (both a b) ≡ nodes_of version a ++ nodes_of version b
nodes_both version nothing b = refl
nodes_both version (file_then name chunks rest) b = ap (λ l. record { name = name; what = File (length (joined chunks)) (map naming.name chunks) } ∷ l) (nodes_both version rest b)
nodes_both version (dir_then name inside rest) b = ap (λ l. record { name = name; what = Dir (naming.name (root_text version (nodes_of version inside))) } ∷ l) (nodes_both version rest b)

pub texts_both : (version : ℕ) (a b : Folder) → AreTreeTextsBelow version a → AreTreeTextsBelow version b → AreTreeTextsBelow version (both a b)
texts_both version nothing b h k = k
texts_both version (file_then name chunks rest) b h k = texts_both version rest b h k
texts_both version (dir_then name inside rest) b h k = (h.0, h.1, texts_both version rest b h.2 k)

some_there : (f : FileCut) → file_at (Some f) ≢ None
some_there f e = absurd (cc)

pub top_path : (version : ℕ) (above : List Around) → AreOuterAt version [] above → path_of above ≡ []
top_path version [] h = refl
top_path version (a ∷ above) h = absurd (omega (arith, ap length h.2, length-append h.0 (h.1 ∷ [])))

-- ---- a file

module _ (w v : PieceWork) (f : PieceFile) (node : Node) (names : List Name) (known : List Fact) (is : w.walk.file ≡ Some f) (params : v.walk.params ≡ w.walk.params) (version : v.walk.version ≡ w.walk.version) (unlaid : v.parts ≡ None) (above : v.walk.above.items ≡ w.walk.above.items)
    (none : v.walk.file ≡ None) (root : v.walk.root ≡ w.walk.root) (nodes : v.walk.nodes.items ≡ w.walk.nodes.items ++ node ∷ []) (node_is : node ≡ record { name = f.name; what = File f.size names })
    (names_are : names ≡ f.content.items ++ map naming.name (f.ended ++ last_chunk f.rest.items)) (lawful : AreLawful w.walk.params) (unended : w.walk.root ≡ None) where
  abbrev pub V : ℕ
  V = w.walk.version

  -- where the walk stands then
  pub record Closed (st : Standing) (sent : List Item) : Type 0 where
    pub c : FileCut
    pub at_rest : f.rest.items ≡ c.rest
    pub named : List (List ℕ)
    pub chunks : c.chunks ≡ named ++ f.ended
    pub was : PieceStands w known (record { done = st.done; above = st.above; file = Some c; over = st.over }) sent []
    pub may : MayTake (place_at st) fed_close
    pub now : Standing
    pub place : place_at now ≡ after (place_at st) fed_close
    pub cut : IsCutSoFar w.walk.params now
    pub made : made_at w.walk.version now ≡ made_at w.walk.version (record { done = st.done; above = st.above; file = Some c; over = st.over }) ++ chunk_items (last_chunk c.rest)
    pub at : IsAt v.walk now
    pub texts : AreTreeTextsBelow w.walk.version now.done × AreTextsAround w.walk.version now.above

  pub closed_at : (st : Standing) (sent : List Item) → PieceStands w known st sent [] → Closed st sent
  unfolding next_close
  closed_at st sent h =
      let o = opened w.walk.params f st.file (subst (λ x. IsFileAt w.walk.params x st.file) is h.at.file) in
      let c = o.0 in
      let p = o.2 in
      let was : PieceStands w known (record { done = st.done; above = st.above; file = Some c; over = st.over }) sent [] = subst (λ x. PieceStands w known (record { done = st.done; above = st.above; file = x; over = st.over }) sent []) o.1 h in
      let n = next_close w.walk.params lawful V st.done st.above (Some c) st.over was.cut (sym h.at.over ∙ ap is_some unended) (inl (some_there c)) in
      let chunks = c.chunks ++ last_chunk c.rest in
      let mine : Folder = file_then c.name chunks nothing in
      let bytes : joined chunks ≡ joined c.chunks ++ c.rest = joined_both c.chunks (last_chunk c.rest) ∙ ap (λ l. joined c.chunks ++ l) (last_joined c.rest) in
      let size : f.size ≡ length (joined chunks) = p.size ∙ ap length (sym bytes) in
      let all : names ≡ map naming.name chunks = names_are ∙ (λ i. p.content i ++ map naming.name (f.ended ++ last_chunk (p.rest i))) ∙ sym (map-append naming.name p.named (f.ended ++ last_chunk c.rest))
      ∙ ap (map naming.name) (sym (append_assoc p.named f.ended (last_chunk c.rest)) ∙ ap (λ l. l ++ last_chunk c.rest) (sym p.chunks)) in
      let is_node : node ≡ record { name = c.name; what = File (length (joined chunks)) (map naming.name chunks) } = node_is ∙ (λ i. record { name = p.name i; what = File (size i) (all i) }) in
      record {
        c = c;
        at_rest = p.rest;
        named = p.named;
        chunks = p.chunks;
        was = was;
        may = inl (subst (λ x. file_at x ≢ None) (sym o.1) (some_there c));
        now = n.now;
        place = n.place ∙ ap (λ x. after (place_at (record { done = st.done; above = st.above; file = x; over = st.over })) fed_close) (sym o.1);
        cut = n.cut;
        made = n.made;
        at = make_at v.walk V n.now version (subst (λ l. AreOuterAt V l st.above) (sym above) h.at.outers) (nodes ∙ (λ i. h.at.nodes i ++ is_node i ∷ []) ∙ sym (nodes_both V st.done mine))
            (subst (λ x. IsFileAt v.walk.params x None) (sym none) tt) (ap is_some root ∙ h.at.over) (subst (λ r. IsRootAt V r n.now.done) (sym (root ∙ unended)) tt);
        texts = (texts_both V st.done mine h.texts.0 tt, h.texts.1);
      }

  -- those that waited are named, and what was left is the last chunk
  pub file_closed : PacksAll known Sealing.Due (chunk_items (f.ended ++ last_chunk f.rest.items)) w.packing v.packing → Goes known Sealing.Due fed_close w v
  file_closed packs st sent h =
      let k = closed_at st sent h in
      let old : Standing = record { done = st.done; above = st.above; file = Some k.c; over = st.over } in
      let was = made_at V old in
      let ended = chunk_items f.ended in
      let last = chunk_items (last_chunk f.rest.items) in
      let items = chunk_items (f.ended ++ last_chunk f.rest.items) in
      let both_are : items ≡ ended ++ last = map-append (λ b. item_of Content b) f.ended (last_chunk f.rest.items) in
      let made : made_at V k.now ≡ was ++ last = k.made ∙ ap (λ b. was ++ chunk_items (last_chunk b)) (sym k.at_rest) in
      let kept : (x : Item) → Contains was x → Contains (made_at V k.now) x = λ x before. subst (λ l. Contains l x) (sym made) (Contains-append_left was last x before) in
      let among : (x : Item) → Contains items x → Contains (made_at V k.now) x = λ x in_items. elim (Contains-append_cases ended last x (subst (λ l. Contains l x) both_are in_items)) [
        | inl waited ↦ kept x (waiting_made V st.done st.above st.over k.c k.named f.ended k.chunks x waited)
        | inr left ↦ subst (λ l. Contains l x) (sym made) (Contains-append_right was last x left)
      ] in
      let split : (x : Item) → Contains (made_at V k.now) x → Contains was x ⊎ Contains items x = λ x in_made. elim (Contains-append_cases was last x (subst (λ l. Contains l x) made in_made)) [
        | inl before ↦ inl before
        | inr left ↦ inr (subst (λ l. Contains l x) (sym both_are) (Contains-append_right ended last x left))
      ] in
      let waits : (x : Item) → Contains (waiting_in w.walk.file) x → Contains items x = λ x waiting. subst (λ l. Contains l x) (sym both_are) (Contains-append_left ended last x (subst (λ y. Contains (waiting_in y) x) is waiting)) in
      let front : (first : List Item) → was ≡ first ++ waiting_in w.walk.file → made_at V k.now ≡ (first ++ items) ++ waiting_in v.walk.file = λ first e.
      made ∙ ap (λ l. l ++ last) (e ∙ ap (λ o. first ++ waiting_in o) is) ∙ append_assoc first ended last ∙ ap (λ l. first ++ l) (sym both_are) ∙ sym (append-nil (first ++ items)) ∙ ap (λ o. (first ++ items) ++ waiting_in o) (sym none) in
      let m = stands_many w v known old k.now sent items Sealing.Due packs version kept among split waits front k.at (subst (λ q. IsCutSoFar q k.now) (sym params) k.cut) k.texts k.was in
      (k.may, k.now, m.0, k.place, inl (unlaid, m.1), inl m.2)

-- ---- a chunk that isn't ended is short

-- what a file's chunker holds has no cut
pub uncut_of : (f : PieceFile) → HasNoCut f.params f.rest.items
unfolding Holds params_of
uncut_of f = subst (λ q. HasNoCut q f.rest.items) f.by (f.held.0)

pub held_short : (f : PieceFile) → length f.rest.items ≤ blob_limit
held_short f = omega (arith, uncut_is_short f.params f.rest.items f.lawful (uncut_of f), f.lawful.greatest)

-- ---- nothing changed but how much room there is

pub outer_again : (version : ℕ) (before : List Outer) (outer again : Outer) (above : List Around) → again.name ≡ outer.name → again.nodes.items ≡ outer.nodes.items → AreOuterAt version (before ++ outer ∷ []) above → AreOuterAt version (before ++ again ∷ []) above
outer_again version before outer again [] name nodes h = absurd (omega (arith, ap length h, length-append before (outer ∷ [])))
outer_again version before outer again (a ∷ above) name nodes h =
    let same = same_from_push before h.0 outer h.1 h.2 in
    (before, again, refl, name ∙ ap (λ (x : Outer). x.name) same.1 ∙ h.3, nodes ∙ ap (λ (x : Outer). x.nodes.items) same.1 ∙ h.4, subst (λ l. AreOuterAt version l above) (sym same.0) h.5)

pub room_stays : (w v : PieceWork) (known : List Fact) → v.walk.params ≡ w.walk.params → v.walk.version ≡ w.walk.version → ((n : ℕ) (above : List Around) → AreOuterAt n w.walk.above.items above → AreOuterAt n v.walk.above.items above)
    → v.walk.nodes.items ≡ w.walk.nodes.items → v.walk.file ≡ w.walk.file → v.walk.root ≡ w.walk.root → ((sent : List Item) → IsPacking w.packing known sent [] → IsPacking v.packing known sent []) → v.packing.packer.writer.items ≡ w.packing.packer.writer.items → Stays known w v
room_stays w v known params version outers nodes file root packs written st sent h =
    let V = w.walk.version in
    let all : all_items sent [] v.packing ≡ all_items sent [] w.packing = ap (λ l. (sent ++ []) ++ l) written in
    let same_file = subst (λ q. IsFileAt q v.walk.file st.file) (sym params) (subst (λ x. IsFileAt w.walk.params x st.file) (sym file) h.at.file) in
    record {
      packing = packs sent h.packing;
      of_made = λ item among. subst (λ n. Contains (made_at n st) item) (sym version) (h.of_made item (subst (λ l. Contains l item) all among));
      at = make_at v.walk V st version (outers V st.above h.at.outers) (nodes ∙ h.at.nodes) same_file (ap is_some root ∙ h.at.over) (subst (λ x. IsRootAt V x st.done) (sym root) h.at.root);
      cut = subst (λ q. IsCutSoFar q st) (sym params) h.cut;
      texts = subst (λ n. AreTreeTextsBelow n st.done × AreTextsAround n st.above) (sym version) h.texts;
      order = subst (λ n. ArePackedSoFar known (made_at n st) v.walk.file (all_items sent [] v.packing)) (sym version)
          (subst (λ x. ArePackedSoFar known (made_at V st) x (all_items sent [] v.packing)) (sym file) (subst (λ l. ArePackedSoFar known (made_at V st) w.walk.file l) (sym all) h.order));
      covered = subst (λ n. Each (λ item. IsCoveredSoFar known (all_items sent [] v.packing) v.walk.file item) (made_at n st)) (sym version)
          (subst (λ x. Each (λ item. IsCoveredSoFar known (all_items sent [] v.packing) x item) (made_at V st)) (sym file) (subst (λ l. Each (λ item. IsCoveredSoFar known l w.walk.file item) (made_at V st)) (sym all) h.covered));
    }

-- ---- what is open

pub no_length : {A : Type 0} (xs : List A) → length xs ≡ 0 → xs ≡ []
no_length [] e = refl
no_length (x ∷ xs) e = absurd (omega (arith, e))

pub none_there : {A : Type 0} (o : Option A) → is_some o ≡ false → o ≡ None
none_there None e = refl
none_there (Some x) e = absurd (cc)

pub some_here : {A : Type 0} (o : Option A) → is_some o ≡ true → o ≢ None
some_here None e = absurd (cc)
some_here (Some x) e = λ none. absurd (cc)

-- where neither a file nor a directory is open, the place is the root
pub at_top : (w : PieceWork) (known : List Fact) (st : Standing) (sent : List Item) → w.walk.file ≡ None → w.walk.above.items ≡ [] → PieceStands w known st sent [] → (file_at st.file ≡ None) × (path_of st.above ≡ [])
at_top w known st sent none top h = (none_open w.walk.params w.walk.file st.file h.at.file none, top_path w.walk.version st.above (subst (λ l. AreOuterAt w.walk.version l st.above) top h.at.outers))

-- where something is, it may be closed
pub may_close : (w : PieceWork) (known : List Fact) (st : Standing) (sent : List Item) → (w.walk.file ≢ None) ⊎ (1 ≤ length w.walk.above.items) → PieceStands w known st sent [] → MayTake (place_at st) fed_close
may_close w known st sent (inl some) h = inl (λ none. some (some_open w.walk.params w.walk.file st.file h.at.file none))
may_close w known st sent (inr deep) h = inr (λ top. absurd (omega (arith, deep, ap length top, outer_count w.walk.version w.walk.above.items st.above h.at.outers)))

-- and the items don't end
pub no_end : (w : PieceWork) (known : List Fact) (st : Standing) (sent : List Item) → (w.walk.file ≢ None) ⊎ (1 ≤ length w.walk.above.items) → PieceStands w known st sent [] → (file_at st.file ≡ None) × (path_of st.above ≡ []) → ⊥
no_end w known st sent (inl some) h top = some (some_open w.walk.params w.walk.file st.file h.at.file top.0)
no_end w known st sent (inr deep) h top = absurd (omega (arith, deep, ap length top.1, outer_count w.walk.version w.walk.above.items st.above h.at.outers))

-- a list whose length is that of none has no front
pub no_front : {A : Type 0} (xs ys : List A) → xs ++ ys ≡ [] → xs ≡ []
no_front [] ys e = refl
no_front (x ∷ xs) ys e = absurd (cc)
