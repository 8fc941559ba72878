-- A work that is fed still stands after bytes.
use Rattle.std.proofs.Common.{arith, ◌≡◌, ◌≤◌, ◌<◌, ◌+◌, ◌++◌, ◌∷◌, [], ℕ, Bool, false, List, length, map, take, drop, cond, Option, Some, None, is_some, refl, sym, ap, subst, inl, inr, ◌⊎◌, ◌∙◌, append_assoc, append-nil, length-append, take-append-drop, length-take-le, take-take, Contains}
use Rattle.std.proofs.lemmas.List.{map-append, drop-take}
use Rattle.std.proofs.lemmas.List.Elements.{Contains-push_cases, Contains-append_left, Contains-append_right, Contains-push}
use Rattle.std.proofs.Math.ListN.{drop_of_length-le}
use Rattle.repo_name.specs.Limits.{file_end}
use Rattle.repo_name.specs.Naming as naming
use Rattle.repo_name.specs.declared.kinds.BlobKind.TheVariants.{Content}
use Rattle.repo_chunk.specs.Cuts.{IsCut, HasNoCut, AreFirstCuts}
use Rattle.repo_chunk.specs.Parameters.{Parameters, AreLawful}
use Rattle.repo_chunk.proofs.CutLaws.{cuts_lie_in_front}
use Rattle.repo_chunk.proofs.FirstCuts.{first_cuts_grow, first_cuts_gain}
use Rattle.repo_index.specs.declared.facts.Fact.{Fact}
use Rattle.repo_pack.specs.PackLayout.{Item, item_of}
use Rattle.repo_pack.specs.PackWriting.{IsOpen}
use Rattle.repo_pack.specs.declared.writers.Sealed.{Sealed}
use Rattle.repo_session.specs.Feeds.{fed_bytes}
use Rattle.repo_session.specs.Traces.{Each}
use Rattle.repo_writing.specs.Sealing.{IsSealed}
use Rattle.repo_backup.specs.Folders.{Folder, joined, nodes_of, trees_of, IsCutBy}
use Rattle.repo_backup.specs.Items.{FileSoFar, Place, after, with_more, MayGrow}
use Rattle.repo_backup.specs.Packings.{IsPacking, IsCovered, AllGain, IsSealedBy, all_items}
use Rattle.repo_backup.specs.Waiting.{AllGainMore, PacksAll, TakesMore}
use Rattle.repo_backup.specs.Pieces.{HasRoom, IsCoveredSoFar, ArePackedSoFar, waiting_in, IsPieceAt, IsFileAt, AreOuterAt, AreTextsAround, IsRootAt, IsAt, PieceStands, WorkStands, IsSealedAs, Goes, Stays}
use Rattle.repo_backup.specs.Plans.{AreTreeTextsBelow}
use Rattle.repo_backup.specs.Standings.{Around, FileCut, Standing, path_of, entries_at, file_at, place_at, IsCutOpen, AreCutAround, IsCutSoFar, chunk_items, made_below, chunks_made, made_at}
use Rattle.repo_backup.specs.declared.packing.Packing.{Packing}
use Rattle.repo_backup.specs.declared.packing.Sealing.{Sealing}
use Rattle.repo_backup.specs.declared.pieces.PieceFile.{PieceFile}
use Rattle.repo_backup.specs.declared.pieces.PieceWalk.{PieceWalk}
use Rattle.repo_backup.specs.declared.piece_works.PieceWork.{PieceWork}
use Rattle.repo_name.proofs.Containing.{none_contained}
use Rattle.repo_writing.proofs.BlobLemmas.{has_before, has_after, has_one}
use Rattle.repo_writing.proofs.PutLemmas.{each_contained}
use Rattle.repo_backup.proofs.Leading.{made_open}
use Rattle.repo_backup.proofs.Lengthening.{joined_both, none_cut}
use Rattle.repo_backup.proofs.NamePlaces.{some_open}
use Rattle.repo_backup.proofs.PackingLemmas.{each_one_more}
use Rattle.repo_backup.proofs.Waits.{takes_open, gains_then}

-- all but the open file is the same
pub record SameWay (w v : PieceWork) : Type 0 where
  pub params : v.walk.params ≡ w.walk.params
  pub version : v.walk.version ≡ w.walk.version
  pub above : v.walk.above.items ≡ w.walk.above.items
  pub nodes : v.walk.nodes.items ≡ w.walk.nodes.items
  pub root : v.walk.root ≡ w.walk.root

-- the open file of a walk, in chunks
pub opened : (params : Parameters) (f : PieceFile) (o : Option FileCut) → IsFileAt params (Some f) o → (c : FileCut) × (o ≡ Some c) × IsPieceAt params f c
opened params f None h = absurd h
opened params f (Some c) h = (c, refl, h)

covered_more : (known : List Fact) (all : List Item) (item x : Item) → IsCovered known all x → IsCovered known (all ++ item ∷ []) x
covered_more known all item x (inl fact) = inl fact
covered_more known all item x (inr has) = inr (has_before all (item ∷ []) x.kind x.name has)

each_map : (P Q : Item → Type 0) (items : List Item) → ((item : Item) → P item → Q item) → Each P items → Each Q items
each_map P Q [] f h = tt
each_map P Q (item ∷ items) f h = (f item h.0, each_map P Q items f h.1)

-- all were made
pub all_of_made : (known : List Fact) (was now : List Item) (item : Item) (made : List Item) (x : Item) → AllGain known was now item → ((y : Item) → Contains was y → Contains made y) → Contains made item → Contains now x → Contains made x
all_of_made known was now item made x (inl same) h this c = h x (subst (λ l. Contains l x) same.0 c)
all_of_made known was now item made x (inr more) h this c = elim (Contains-push_cases was item x (subst (λ l. Contains l x) more c)) [ inl before ↦ h x before | inr last ↦ subst (λ y. Contains made y) last this ]

-- what was covered is covered
all_cover : (known : List Fact) (was now : List Item) (item : Item) (made : List Item) → AllGain known was now item → Each (λ x. IsCovered known was x) made → Each (λ x. IsCovered known now x) made
all_cover known was now item made (inl same) h = subst (λ l. Each (λ x. IsCovered known l x) made) (sym same.0) h
all_cover known was now item made (inr more) h = subst (λ l. Each (λ x. IsCovered known l x) made) (sym more)
    (each_map (λ x. IsCovered known was x) (λ x. IsCovered known (was ++ item ∷ []) x) made (λ x k. covered_more known was item x k) h)

-- and so is the new one
item_covered : (known : List Fact) (was now : List Item) (item : Item) → AllGain known was now item → IsCovered known now item
item_covered known was now item (inl same) = subst (λ l. IsCovered known l item) (sym same.0) same.1
item_covered known was now item (inr more) = subst (λ l. IsCovered known l item) (sym more) (inr (has_after was (item ∷ []) item.kind item.name (has_one item item.kind item.name refl refl)))

-- and all with it
pub more_covered : (known : List Fact) (was now : List Item) (item : Item) (made : List Item) → AllGain known was now item → Each (λ x. IsCovered known was x) made → Each (λ x. IsCovered known now x) (made ++ item ∷ [])
more_covered known was now item made gain h = each_one_more (λ x. IsCovered known now x) made item (all_cover known was now item made gain h) (item_covered known was now item gain)

-- ---- many blobs

-- all were made
pub many_made : (known : List Fact) (was now items : List Item) (made : List Item) (x : Item) → AllGainMore known was items now → ((y : Item) → Contains was y → Contains made y) → ((y : Item) → Contains items y → Contains made y) → Contains now x → Contains made x
many_made known was now [] made x same h these c = h x (subst (λ l. Contains l x) same c)
many_made known was now (item ∷ items) made x gains h these c =
    many_made known gains.0 now items made x gains.2 (λ y among. all_of_made known was gains.0 item made y gains.1 h (these item (Contains-append_left (item ∷ []) items item (Contains-push [] item))) among) (λ y among. these y (Contains-append_right (item ∷ []) items y among)) c

-- what was covered is covered
one_cover : (known : List Fact) (was now : List Item) (item x : Item) → AllGain known was now item → IsCovered known was x → IsCovered known now x
one_cover known was now item x (inl same) h = subst (λ l. IsCovered known l x) (sym same.0) h
one_cover known was now item x (inr more) h = subst (λ l. IsCovered known l x) (sym more) (covered_more known was item x h)

pub many_cover : (known : List Fact) (was now items : List Item) (x : Item) → AllGainMore known was items now → IsCovered known was x → IsCovered known now x
many_cover known was now [] x same h = subst (λ l. IsCovered known l x) (sym same) h
many_cover known was now (item ∷ items) x gains h = many_cover known gains.0 now items x gains.2 (one_cover known was gains.0 item x gains.1 h)

-- and so are the new ones
pub many_covered : (known : List Fact) (was now items : List Item) → AllGainMore known was items now → Each (λ x. IsCovered known now x) items
many_covered known was now [] same = tt
many_covered known was now (item ∷ items) gains = (many_cover known gains.0 now items item gains.2 (item_covered known was gains.0 item gains.1), many_covered known gains.0 now items gains.2)

-- ---- chunks that wait

-- where all of some hold
pub each_from : (P : Item → Type 0) (items : List Item) → ((item : Item) → Contains items item → P item) → Each P items
each_from P [] h = tt
each_from P (item ∷ items) h = (h item (Contains-append_left (item ∷ []) items item (Contains-push [] item)), each_from P items (λ x among. h x (Contains-append_right (item ∷ []) items x among)))

pub waits_on : (known : List Fact) (all : List Item) (old new : Option PieceFile) (made : List Item) → ((x : Item) → Contains (waiting_in old) x → Contains (waiting_in new) x) → Each (λ x. IsCoveredSoFar known all old x) made → Each (λ x. IsCoveredSoFar known all new x) made
waits_on known all old new made on h = each_map (λ x. IsCoveredSoFar known all old x) (λ x. IsCoveredSoFar known all new x) made (λ x k. elim k [ inl covered ↦ inl covered | inr waits ↦ inr (on x waits) ]) h

-- those that wait were made
pub waiting_made : (version : ℕ) (done : Folder) (above : List Around) (over : Bool) (c : FileCut) (named ended : List (List ℕ)) → c.chunks ≡ named ++ ended → (x : Item) → Contains (chunk_items ended) x
    → Contains (made_at version (record { done = done; above = above; file = Some c; over = over })) x
waiting_made version done above over c named ended chunks x among =
    let all : chunk_items c.chunks ≡ chunk_items named ++ chunk_items ended = ap chunk_items chunks ∙ map-append (λ b. item_of Content b) named ended in
    let in_file : Contains (chunk_items c.chunks) x = subst (λ l. Contains l x) (sym all) (Contains-append_right (chunk_items named) (chunk_items ended) x among) in
    let below = made_below version done above in
    Contains-append_left (below ++ chunk_items c.chunks) (cond over (trees_of version done) []) x (Contains-append_right below (chunk_items c.chunks) x in_file)

-- where no file is open, none waits
pub none_waits : (file : Option PieceFile) (x : Item) → file ≡ None → Contains (waiting_in file) x → ⊥
none_waits file x none among = none_contained x (subst (λ o. Contains (waiting_in o) x) none among)

pub covered_whole : (known : List Fact) (all : List Item) (file : Option PieceFile) (made : List Item) → file ≡ None → Each (λ x. IsCoveredSoFar known all file x) made → Each (λ x. IsCovered known all x) made
covered_whole known all file made none h = each_map (λ x. IsCoveredSoFar known all file x) (λ x. IsCovered known all x) made (λ x k. elim k [ inl covered ↦ covered | inr waits ↦ absurd (none_waits file x none waits) ]) h

pub covered_so_far : (known : List Fact) (all : List Item) (file : Option PieceFile) (made : List Item) → Each (λ x. IsCovered known all x) made → Each (λ x. IsCoveredSoFar known all file x) made
covered_so_far known all file made h = each_map (λ x. IsCovered known all x) (λ x. IsCoveredSoFar known all file x) made (λ x k. inl k) h

-- where none waits, all was packed
pub none_waiting : (params : Parameters) (file : Option PieceFile) → IsFileAt params file None → waiting_in file ≡ []
none_waiting params None h = refl
none_waiting params (Some f) h = absurd h

pub packed_whole : (known : List Fact) (made : List Item) (file : Option PieceFile) (items : List Item) → waiting_in file ≡ [] → AllGainMore known [] made items → ArePackedSoFar known made file items
packed_whole known made file items none gains = (made, sym (append-nil made) ∙ ap (λ l. made ++ l) (sym none), gains)

-- ---- whatever was fed

-- a walk stands somewhere, by the version that it has
pub make_at : (w : PieceWalk) (n : ℕ) (st : Standing) → w.version ≡ n → AreOuterAt n w.above.items st.above → w.nodes.items ≡ nodes_of n st.done → IsFileAt w.params w.file st.file → is_some w.root ≡ st.over → IsRootAt n w.root st.done → IsAt w st
make_at w n st e outers nodes file over root = record {
  outers = subst (λ m. AreOuterAt m w.above.items st.above) (sym e) outers;
  nodes = nodes ∙ ap (λ m. nodes_of m st.done) (sym e);
  file = file;
  over = over;
  root = subst (λ m. IsRootAt m w.root st.done) (sym e) root;
}

-- no part of a directory is left to be made
pub plain : (w : PieceWork) (known : List Fact) (st : Standing) (sent sealed : List Item) → w.parts ≡ None → WorkStands w known st sent sealed → PieceStands w known st sent sealed
plain w known st sent sealed none (inl h) = h.1
plain w known st sent sealed none (inr h) = let no : None ≡ Some h.parts = sym none ∙ h.parts_are in absurd (cc)

-- the packs, however it stands
pub packing_in : (w : PieceWork) (known : List Fact) (st : Standing) (sent sealed : List Item) → WorkStands w known st sent sealed → IsPacking w.packing known sent sealed
packing_in w known st sent sealed (inl h) = h.1.packing
packing_in w known st sent sealed (inr h) = h.packing

pub made_in : (w : PieceWork) (known : List Fact) (st : Standing) (sent sealed : List Item) → WorkStands w known st sent sealed → (item : Item) → Contains (all_items sent sealed w.packing) item → Contains (made_at w.walk.version st) item
made_in w known st sent sealed (inl h) item among = h.1.of_made item among
made_in w known st sent sealed (inr h) item among = h.of_made item among

pub cut_in : (w : PieceWork) (known : List Fact) (st : Standing) (sent sealed : List Item) → WorkStands w known st sent sealed → IsCutSoFar w.walk.params st
cut_in w known st sent sealed (inl h) = h.1.cut
cut_in w known st sent sealed (inr h) = h.cut

-- no blob was made
pub stands_on : (w v : PieceWork) (known : List Fact) (st now : Standing) (sent sealed : List Item) → v.packing ≡ w.packing → v.walk.version ≡ w.walk.version → made_at w.walk.version now ≡ made_at w.walk.version st → IsAt v.walk now → IsCutSoFar v.walk.params now
    → AreTreeTextsBelow w.walk.version now.done × AreTextsAround w.walk.version now.above → waiting_in v.walk.file ≡ waiting_in w.walk.file → PieceStands w known st sent sealed → PieceStands v known now sent sealed
stands_on w v known st now sent sealed packed version made at cut texts waits h = record {
  packing = subst (λ q. IsPacking q known sent sealed) (sym packed) h.packing;
  of_made = λ item among. subst (λ n. Contains (made_at n now) item) (sym version) (subst (λ l. Contains l item) (sym made) (h.of_made item (subst (λ q. Contains (all_items sent sealed q) item) packed among)));
  at = at;
  cut = cut;
  texts = subst (λ n. AreTreeTextsBelow n now.done × AreTextsAround n now.above) (sym version) texts;
  order = (
    h.order.0,
    ap (λ n. made_at n now) version ∙ made ∙ h.order.1 ∙ ap (λ l. h.order.0 ++ l) (sym waits),
    subst (λ q. AllGainMore known [] h.order.0 (all_items sent sealed q)) (sym packed) h.order.2,
  );
  covered = subst (λ n. Each (λ item. IsCoveredSoFar known (all_items sent sealed v.packing) v.walk.file item) (made_at n now)) (sym version)
      (subst (λ q. Each (λ item. IsCoveredSoFar known (all_items sent sealed q) v.walk.file item) (made_at w.walk.version now)) (sym packed) (subst (λ l. Each (λ item. IsCoveredSoFar known (all_items sent sealed w.packing) v.walk.file item) l) (sym made)
      (waits_on known (all_items sent sealed w.packing) w.walk.file v.walk.file (made_at w.walk.version st) (λ x among. subst (λ l. Contains l x) (sym waits) among) h.covered)));
}

-- a chunk more waits
pub stands_wait : (w v : PieceWork) (known : List Fact) (st now : Standing) (sent sealed : List Item) (item : Item) → v.packing ≡ w.packing → v.walk.version ≡ w.walk.version → made_at w.walk.version now ≡ made_at w.walk.version st ++ item ∷ []
    → waiting_in v.walk.file ≡ waiting_in w.walk.file ++ item ∷ [] → IsAt v.walk now → IsCutSoFar v.walk.params now → AreTreeTextsBelow w.walk.version now.done × AreTextsAround w.walk.version now.above → PieceStands w known st sent sealed
    → PieceStands v known now sent sealed
stands_wait w v known st now sent sealed item packed version made waits at cut texts h =
    let before = made_at w.walk.version st in
    let all = all_items sent sealed w.packing in
    let waiting = waiting_in w.walk.file in
    let more : (x : Item) → Contains waiting x → Contains (waiting_in v.walk.file) x = λ x among. subst (λ l. Contains l x) (sym waits) (Contains-append_left waiting (item ∷ []) x among) in
    let last : Contains (waiting_in v.walk.file) item = subst (λ l. Contains l item) (sym waits) (Contains-push waiting item) in
    let covered = each_one_more (λ x. IsCoveredSoFar known all v.walk.file x) before item (waits_on known all w.walk.file v.walk.file before more h.covered) (inr last) in
    record {
      packing = subst (λ q. IsPacking q known sent sealed) (sym packed) h.packing;
      of_made = λ x among. subst (λ n. Contains (made_at n now) x) (sym version) (subst (λ l. Contains l x) (sym made) (Contains-append_left before (item ∷ []) x (h.of_made x (subst (λ q. Contains (all_items sent sealed q) x) packed among))));
      at = at;
      cut = cut;
      texts = subst (λ n. AreTreeTextsBelow n now.done × AreTextsAround n now.above) (sym version) texts;
      order = (
        h.order.0,
        ap (λ n. made_at n now) version ∙ made ∙ ap (λ l. l ++ item ∷ []) h.order.1 ∙ append_assoc h.order.0 waiting (item ∷ []) ∙ ap (λ l. h.order.0 ++ l) (sym waits),
        subst (λ q. AllGainMore known [] h.order.0 (all_items sent sealed q)) (sym packed) h.order.2,
      );
      covered = subst (λ n. Each (λ x. IsCoveredSoFar known (all_items sent sealed v.packing) v.walk.file x) (made_at n now)) (sym version)
          (subst (λ q. Each (λ x. IsCoveredSoFar known (all_items sent sealed q) v.walk.file x) (made_at w.walk.version now)) (sym packed) (subst (λ l. Each (λ x. IsCoveredSoFar known all v.walk.file x) l) (sym made) covered));
    }

-- all these blobs were made, and packed, those that waited among them; a pack may be sealed
pub stands_many : (w v : PieceWork) (known : List Fact) (st now : Standing) (sent items : List Item) (sealing : Sealing) → PacksAll known sealing items w.packing v.packing → v.walk.version ≡ w.walk.version
    → ((x : Item) → Contains (made_at w.walk.version st) x → Contains (made_at w.walk.version now) x) → ((x : Item) → Contains items x → Contains (made_at w.walk.version now) x)
    → ((x : Item) → Contains (made_at w.walk.version now) x → Contains (made_at w.walk.version st) x ⊎ Contains items x) → ((x : Item) → Contains (waiting_in w.walk.file) x → Contains items x)
    → ((first : List Item) → made_at w.walk.version st ≡ first ++ waiting_in w.walk.file → made_at w.walk.version now ≡ (first ++ items) ++ waiting_in v.walk.file)
    → IsAt v.walk now → IsCutSoFar v.walk.params now → AreTreeTextsBelow w.walk.version now.done × AreTextsAround w.walk.version now.above → PieceStands w known st sent []
    → (sealed : List Item) × PieceStands v known now sent sealed × IsSealedBy sealing w.packing.packer.writer.target sealed
stands_many w v known st now sent items sealing packs version kept made split waits front at cut texts h =
    let k = packs sent h.packing in
    let was = all_items sent [] w.packing in
    let all = all_items sent k.0 v.packing in
    let was_made = made_at w.walk.version st in
    let now_made = made_at w.walk.version now in
    let named : (x : Item) → Contains items x → IsCovered known all x = λ x among. each_contained (λ y. IsCovered known all y) items x (many_covered known was all items k.2) among in
    let old : (x : Item) → Contains was_made x → IsCovered known all x = λ x among. elim (each_contained (λ y. IsCoveredSoFar known was w.walk.file y) was_made x h.covered among) [
      | inl covered ↦ many_cover known was all items x k.2 covered
      | inr waiting ↦ named x (waits x waiting)
    ] in
    let covers : (x : Item) → Contains now_made x → IsCoveredSoFar known all v.walk.file x = λ x among. inl (elim (split x among) [ inl before ↦ old x before | inr new ↦ named x new ]) in (
      k.0,
      record {
        packing = k.1;
        of_made = λ x among. subst (λ n. Contains (made_at n now) x) (sym version) (many_made known was all items now_made x k.2 (λ y c. kept y (h.of_made y c)) made among);
        at = at;
        cut = cut;
        texts = subst (λ n. AreTreeTextsBelow n now.done × AreTextsAround n now.above) (sym version) texts;
        order = (h.order.0 ++ items, ap (λ n. made_at n now) version ∙ front h.order.0 h.order.1, gains_then known [] was all h.order.0 items h.order.2 k.2);
        covered = subst (λ n. Each (λ x. IsCoveredSoFar known all v.walk.file x) (made_at n now)) (sym version) (each_from (λ x. IsCoveredSoFar known all v.walk.file x) now_made covers);
      },
      k.3,
    )

-- ---- room for more

pub room_open : (file : Option PieceFile) (p : Packing) → HasRoom file p → IsOpen p.packer.writer
room_open None p h = h
room_open (Some f) p h = takes_open p.packer.writer f.ended h

pub room_none : (file : Option PieceFile) (p : Packing) → file ≡ None → IsOpen p.packer.writer → HasRoom file p
room_none file p none h = subst (λ o. HasRoom o p) (sym none) h

pub room_waiting : (file : Option PieceFile) (p : Packing) → waiting_in file ≡ [] → IsOpen p.packer.writer → HasRoom file p
room_waiting None p none h = h
room_waiting (Some f) p none h = subst (λ (l : List Item). IsOpen (record { items = l; target = p.packer.writer.target })) (sym (ap (λ l. p.packer.writer.items ++ l) none ∙ append-nil p.packer.writer.items)) h

pub room_as : (file now : Option PieceFile) (p q : Packing) → now ≡ file → q.packer.writer ≡ p.packer.writer → HasRoom file p → HasRoom now q
room_as None now p q same writer h = subst (λ o. HasRoom o q) (sym same) (subst IsOpen (sym writer) h)
room_as (Some f) now p q same writer h = subst (λ o. HasRoom o q) (sym same) (subst (λ w. TakesMore w f.ended) (sym writer) h)

pub room_same : (f g : PieceFile) (p q : Packing) → g.ended ≡ f.ended → q.packer.writer ≡ p.packer.writer → TakesMore p.packer.writer f.ended → TakesMore q.packer.writer g.ended
room_same f g p q ended writer h = subst (λ w. TakesMore w g.ended) (sym writer) (subst (λ l. TakesMore p.packer.writer l) (sym ended) h)

-- where the standing has no open file, the work has none
pub shut_in : (w : PieceWork) (known : List Fact) (st : Standing) (sent sealed : List Item) → WorkStands w known st sent sealed → st.file ≡ None → w.walk.file ≡ None
shut_in w known st sent sealed (inl h) none = some_open w.walk.params w.walk.file st.file h.1.at.file (ap file_at none)
shut_in w known st sent sealed (inr h) none = some_open w.walk.params w.walk.file None h.at.file refl

-- ---- bytes

-- the file may have more bytes
pub may_grow : (params : Parameters) (f : PieceFile) (c : FileCut) (o : Option FileCut) (piece : List ℕ) → o ≡ Some c → IsPieceAt params f c → f.size + length piece < file_end → MayGrow (file_at o) piece
may_grow params f c o piece is p small = subst (λ x. MayGrow (file_at x) piece) (sym is) (omega (arith, p.size, small))

module _ (w v : PieceWork) (f g : PieceFile) (known : List Fact) (is : w.walk.file ≡ Some f) (same : SameWay w v) (now_is : v.walk.file ≡ Some g) (unlaid : v.parts ≡ None) where
  abbrev pub V : ℕ
  V = w.walk.version

  -- the walk stands with another file
  at_file : (st : Standing) (c : FileCut) → IsAt w.walk st → IsPieceAt v.walk.params g c → IsAt v.walk (record { done = st.done; above = st.above; file = Some c; over = st.over })
  at_file st c at piece = make_at v.walk V (record { done = st.done; above = st.above; file = Some c; over = st.over }) same.version (subst (λ l. AreOuterAt V l st.above) (sym same.above) at.outers) (same.nodes ∙ at.nodes)
      (subst (λ o. IsFileAt v.walk.params o (Some c)) (sym now_is) piece) (ap is_some same.root ∙ at.over) (subst (λ r. IsRootAt V r st.done) (sym same.root) at.root)

  -- the same chunks wait
  same_waiting : g.ended ≡ f.ended → waiting_in v.walk.file ≡ waiting_in w.walk.file
  same_waiting ended = ap waiting_in now_is ∙ ap chunk_items ended ∙ ap waiting_in (sym is)

  -- the piece was taken, and the chunk goes on
  pub more_taken : (piece : List ℕ) → f.size + length piece < file_end → v.packing ≡ w.packing → g.name ≡ f.name → g.size ≡ f.size + length piece → g.content.items ≡ f.content.items → g.rest.items ≡ f.rest.items ++ piece
      → g.params ≡ f.params → g.ended ≡ f.ended → HasNoCut f.params g.rest.items → Goes known Sealing.Due (fed_bytes piece) w v
  more_taken piece small packed named size content rest by ended uncut st sent h =
      let o = opened w.walk.params f st.file (subst (λ x. IsFileAt w.walk.params x st.file) is h.at.file) in
      let c = o.0 in
      let p = o.2 in
      let all : joined c.chunks ++ (c.rest ++ piece) ≡ (joined c.chunks ++ c.rest) ++ piece = sym (append_assoc (joined c.chunks) c.rest piece) in
      let file : FileCut = record { name = c.name; chunks = c.chunks; rest = c.rest ++ piece } in
      let now : Standing = record { done = st.done; above = st.above; file = Some file; over = st.over } in
      let cut : IsCutOpen w.walk.params (Some c) = subst (λ x. IsCutOpen w.walk.params x) o.1 h.cut.file in
      let grown : AreFirstCuts w.walk.params (joined c.chunks ++ (c.rest ++ piece)) (map length c.chunks) (c.rest ++ piece) =
      subst (λ b. AreFirstCuts w.walk.params b (map length c.chunks) (c.rest ++ piece)) (sym all) (first_cuts_grow w.walk.params (joined c.chunks ++ c.rest) (map length c.chunks) c.rest piece cut.0) in
      let left : g.rest.items ≡ c.rest ++ piece = rest ∙ ap (λ b. b ++ piece) p.rest in
      let none : HasNoCut w.walk.params (c.rest ++ piece) = subst (λ q. HasNoCut q (c.rest ++ piece)) p.by (subst (λ b. HasNoCut f.params b) left uncut) in
      let made : made_at V now ≡ made_at V st = ap (λ x. (made_below V st.done st.above ++ chunks_made x) ++ cond st.over (trees_of V st.done) []) (sym o.1) in
      let at : IsAt v.walk now = at_file st file h.at (record {
        name = named ∙ p.name;
        size = omega (arith, size, p.size, ap length all, length-append (joined c.chunks ++ c.rest) piece);
        named = p.named;
        chunks = p.chunks ∙ ap (λ l. p.named ++ l) (sym ended);
        content = content ∙ p.content;
        rest = left;
        by = by ∙ p.by ∙ sym same.params;
      }) in
      let cut_now : IsCutSoFar v.walk.params now = record { done = subst (λ q. IsCutBy q st.done) (sym same.params) h.cut.done; above = subst (λ q. AreCutAround q st.above) (sym same.params) h.cut.above; file = subst (λ q. IsCutOpen q (Some file)) (sym same.params) (grown, none) } in (
        may_grow w.walk.params f c st.file piece o.1 p small,
        now,
        [],
        (λ i. record { entries = entries_at st.done st.above; path = path_of st.above; file = Some (record { name = c.name; bytes = all i }); over = st.over })
            ∙ ap (λ x. after (place_at (record { done = st.done; above = st.above; file = x; over = st.over })) (fed_bytes piece)) (sym o.1),
        inl (unlaid, stands_on w v known st now sent [] packed same.version made at cut_now h.texts (same_waiting ended) h),
        inl (inl refl),
      )

  -- nothing was taken
  pub nothing_taken : g.name ≡ f.name → g.size ≡ f.size → g.content.items ≡ f.content.items → g.rest.items ≡ f.rest.items → g.params ≡ f.params → g.ended ≡ f.ended
      → ((sent : List Item) → IsPacking w.packing known sent [] → IsPacking v.packing known sent []) → v.packing.packer.writer.items ≡ w.packing.packer.writer.items → Stays known w v
  nothing_taken named size content rest by ended packs written st sent h =
      let o = opened w.walk.params f st.file (subst (λ x. IsFileAt w.walk.params x st.file) is h.at.file) in
      let c = o.0 in
      let p = o.2 in
      let all : all_items sent [] v.packing ≡ all_items sent [] w.packing = ap (λ l. (sent ++ []) ++ l) written in
      let at : IsAt v.walk (record { done = st.done; above = st.above; file = Some c; over = st.over }) =
      at_file st c h.at (record { name = named ∙ p.name; size = size ∙ p.size; named = p.named; chunks = p.chunks ∙ ap (λ l. p.named ++ l) (sym ended); content = content ∙ p.content; rest = rest ∙ p.rest; by = by ∙ p.by ∙ sym same.params }) in
      record {
        packing = packs sent h.packing;
        of_made = λ item among. subst (λ n. Contains (made_at n st) item) (sym same.version) (h.of_made item (subst (λ l. Contains l item) all among));
        at = subst (λ x. IsAt v.walk (record { done = st.done; above = st.above; file = x; over = st.over })) (sym o.1) at;
        cut = record { done = subst (λ q. IsCutBy q st.done) (sym same.params) h.cut.done; above = subst (λ q. AreCutAround q st.above) (sym same.params) h.cut.above; file = subst (λ q. IsCutOpen q st.file) (sym same.params) h.cut.file };
        texts = subst (λ n. AreTreeTextsBelow n st.done × AreTextsAround n st.above) (sym same.version) h.texts;
        order = (
          h.order.0,
          ap (λ n. made_at n st) same.version ∙ h.order.1 ∙ ap (λ l. h.order.0 ++ l) (sym (same_waiting ended)),
          subst (λ l. AllGainMore known [] h.order.0 l) (sym all) h.order.2,
        );
        covered = subst (λ n. Each (λ item. IsCoveredSoFar known (all_items sent [] v.packing) v.walk.file item) (made_at n st)) (sym same.version) (subst (λ l. Each (λ item. IsCoveredSoFar known l v.walk.file item) (made_at w.walk.version st)) (sym all)
            (waits_on known (all_items sent [] w.packing) w.walk.file v.walk.file (made_at w.walk.version st) (λ x among. subst (λ l. Contains l x) (sym (same_waiting ended)) among) h.covered));
      }

  -- a chunk ended, and waits
  pub chunk_waits : (piece : List ℕ) (n : ℕ) → f.size + length piece < file_end → w.walk.root ≡ None → 1 ≤ n → n ≤ length piece
      → g.name ≡ f.name → g.size ≡ f.size + n → g.content.items ≡ f.content.items → g.ended ≡ f.ended ++ (f.rest.items ++ take n piece) ∷ [] → g.rest.items ≡ [] → g.params ≡ f.params
      → IsCut f.params (f.rest.items ++ piece) (length f.rest.items + n)
      → v.packing ≡ w.packing → Goes known Sealing.Due (fed_bytes (take n piece)) w v
  chunk_waits piece n small unended some within named size content ended rest by ends packed st sent h =
      let o = opened w.walk.params f st.file (subst (λ x. IsFileAt w.walk.params x st.file) is h.at.file) in
      let c = o.0 in
      let p = o.2 in
      let lawful = subst AreLawful p.by f.lawful in
      let part = take n piece in
      let chunk = c.rest ++ part in
      let still : st.over ≡ false = sym h.at.over ∙ ap is_some unended in
      let size_of : length part ≡ n = length-take-le n piece within in
      let m = length c.rest + n in
      let long : length chunk ≡ m = omega (arith, length-append c.rest part, size_of) in
      let whole : chunk ++ drop n piece ≡ c.rest ++ piece = append_assoc c.rest part (drop n piece) ∙ ap (λ b. c.rest ++ b) (take-append-drop n piece) in
      let cut_all : IsCut w.walk.params (c.rest ++ piece) m = subst (λ q. IsCut q (c.rest ++ piece) m) p.by (subst (λ (b : List ℕ). IsCut f.params (b ++ piece) (length b + n)) p.rest ends) in
      let cut_here : IsCut w.walk.params chunk m = cuts_lie_in_front w.walk.params chunk (drop n piece) m (subst (λ b. IsCut w.walk.params b m) (sym whole) cut_all) (omega (arith, long)) in
      let was : IsCutOpen w.walk.params (Some c) = subst (λ x. IsCutOpen w.walk.params x) o.1 h.cut.file in
      let grown = first_cuts_grow w.walk.params (joined c.chunks ++ c.rest) (map length c.chunks) c.rest part was.0 in
      let none : drop m chunk ≡ [] = drop_of_length-le chunk (omega (arith, long)) in
      let gained : AreFirstCuts w.walk.params ((joined c.chunks ++ c.rest) ++ part) (map length c.chunks ++ m ∷ []) [] =
      subst (λ b. AreFirstCuts w.walk.params ((joined c.chunks ++ c.rest) ++ part) (map length c.chunks ++ m ∷ []) b) none (first_cuts_gain w.walk.params ((joined c.chunks ++ c.rest) ++ part) (map length c.chunks) chunk m grown cut_here) in
      let chunks = c.chunks ++ chunk ∷ [] in
      let bytes : joined chunks ++ [] ≡ (joined c.chunks ++ c.rest) ++ part =
      append-nil (joined chunks) ∙ joined_both c.chunks (chunk ∷ []) ∙ ap (λ b. joined c.chunks ++ b) (append-nil chunk) ∙ sym (append_assoc (joined c.chunks) c.rest part) in
      let lengths : map length chunks ≡ map length c.chunks ++ m ∷ [] = map-append length c.chunks (chunk ∷ []) ∙ ap (λ k. map length c.chunks ++ k ∷ []) long in
      let cuts : AreFirstCuts w.walk.params (joined chunks ++ []) (map length chunks) [] =
      subst (λ b. AreFirstCuts w.walk.params b (map length chunks) []) (sym bytes) (subst (λ l. AreFirstCuts w.walk.params ((joined c.chunks ++ c.rest) ++ part) l []) (sym lengths) gained) in
      let file : FileCut = record { name = c.name; chunks = chunks; rest = [] } in
      let now : Standing = record { done = st.done; above = st.above; file = Some file; over = st.over } in
      let item : Item = item_of Content chunk in
      let before = made_below V st.done st.above in
      let made : made_at V now ≡ made_at V st ++ item ∷ [] =
      made_open V now still ∙ ap (λ l. before ++ l) (map-append (λ b. item_of Content b) c.chunks (chunk ∷ [])) ∙ sym (append_assoc before (chunk_items c.chunks) (item ∷ []))
      ∙ ap (λ l. l ++ item ∷ []) (ap (λ x. before ++ chunks_made x) (sym o.1) ∙ sym (made_open V st still)) in
      let here : f.rest.items ++ part ≡ chunk = ap (λ b. b ++ part) p.rest in
      let waits : waiting_in v.walk.file ≡ waiting_in w.walk.file ++ item ∷ [] =
      ap waiting_in now_is ∙ ap chunk_items ended ∙ map-append (λ b. item_of Content b) f.ended ((f.rest.items ++ part) ∷ []) ∙ (λ i. waiting_in (sym is i) ++ item_of Content (here i) ∷ []) in
      let at : IsAt v.walk now = at_file st file h.at (record {
        name = named ∙ p.name;
        size = omega (arith, size, p.size, ap length bytes, length-append (joined c.chunks ++ c.rest) part, size_of);
        named = p.named;
        chunks = (λ i. p.chunks i ++ sym here i ∷ []) ∙ append_assoc p.named f.ended ((f.rest.items ++ part) ∷ []) ∙ ap (λ l. p.named ++ l) (sym ended);
        content = content ∙ p.content;
        rest = rest;
        by = by ∙ p.by ∙ sym same.params;
      }) in
      let cut_now : IsCutSoFar v.walk.params now =
      record { done = subst (λ q. IsCutBy q st.done) (sym same.params) h.cut.done; above = subst (λ q. AreCutAround q st.above) (sym same.params) h.cut.above; file = subst (λ q. IsCutOpen q (Some file)) (sym same.params) (cuts, none_cut w.walk.params lawful) } in
      let k = stands_wait w v known st now sent [] item packed same.version made waits at cut_now h.texts h in
      let few : f.size + length part < file_end = omega (arith, small, size_of, within) in (
        may_grow w.walk.params f c st.file part o.1 p few,
        now,
        [],
        (λ i. record { entries = entries_at st.done st.above; path = path_of st.above; file = Some (record { name = c.name; bytes = bytes i }); over = st.over })
            ∙ ap (λ x. after (place_at (record { done = st.done; above = st.above; file = x; over = st.over })) (fed_bytes part)) (sym o.1),
        inl (unlaid, k),
        inl (inl refl),
      )

  -- those that wait are named, and made blobs; a pack may be sealed
  pub all_named : g.name ≡ f.name → g.size ≡ f.size → g.rest.items ≡ f.rest.items → g.params ≡ f.params → g.ended ≡ [] → g.content.items ≡ f.content.items ++ map naming.name f.ended → PacksAll known Sealing.Due (chunk_items f.ended) w.packing v.packing
      → (st : Standing) (sent : List Item) → PieceStands w known st sent [] → (sealed : List Item) × PieceStands v known st sent sealed × IsSealedBy Sealing.Due w.packing.packer.writer.target sealed
  all_named named size rest by ended content packs st sent h =
      let o = opened w.walk.params f st.file (subst (λ x. IsFileAt w.walk.params x st.file) is h.at.file) in
      let c = o.0 in
      let p = o.2 in
      let items = chunk_items f.ended in
      let chunks : c.chunks ≡ (p.named ++ f.ended) ++ g.ended = p.chunks ∙ sym (append-nil (p.named ++ f.ended)) ∙ ap (λ l. (p.named ++ f.ended) ++ l) (sym ended) in
      let at_now : IsAt v.walk st = subst (λ x. IsAt v.walk (record { done = st.done; above = st.above; file = x; over = st.over })) (sym o.1) (at_file st c h.at (record {
        name = named ∙ p.name;
        size = size ∙ p.size;
        named = p.named ++ f.ended;
        chunks = chunks;
        content = content ∙ ap (λ l. l ++ map naming.name f.ended) p.content ∙ sym (map-append naming.name p.named f.ended);
        rest = rest ∙ p.rest;
        by = by ∙ p.by ∙ sym same.params;
      })) in
      let cut : IsCutSoFar v.walk.params st = subst (λ q. IsCutSoFar q st) (sym same.params) h.cut in
      let among : (x : Item) → Contains items x → Contains (made_at V st) x = λ x in_items. subst (λ y. Contains (made_at V (record { done = st.done; above = st.above; file = y; over = st.over })) x) (sym o.1) (waiting_made V st.done st.above st.over c p.named f.ended p.chunks x in_items) in
      let waits : (x : Item) → Contains (waiting_in w.walk.file) x → Contains items x = λ x waiting. subst (λ y. Contains (waiting_in y) x) is waiting in
      let front : (first : List Item) → made_at V st ≡ first ++ waiting_in w.walk.file → made_at V st ≡ (first ++ items) ++ waiting_in v.walk.file = λ first e.
      e ∙ ap (λ x. first ++ waiting_in x) is ∙ sym (append-nil (first ++ items)) ∙ ap (λ l. (first ++ items) ++ l) (sym (ap waiting_in now_is ∙ ap chunk_items ended)) in
      stands_many w v known st st sent items Sealing.Due packs same.version (λ x made. made) among (λ x made. inl made) waits front at_now cut h.texts h

-- where no pack is sealed, no items are
pub none_sealed : (sealed : Option Sealed) (items : List Item) → sealed ≡ None → IsSealed sealed items → items ≡ []
none_sealed None items e h = h
none_sealed (Some sealed) items e h = absurd (cc)

grown_twice : (file : Option FileSoFar) (a b : List ℕ) → MayGrow file a → MayGrow (with_more a file) b → MayGrow file (a ++ b)
grown_twice None a b h k = absurd h
grown_twice (Some f) a b h k = omega (arith, k, length-append f.bytes a, length-append a b)

-- some bytes, and then some more
pub bytes_on : (known : List Fact) (a b : List ℕ) (w u v : PieceWork) → u.parts ≡ None → u.packing.packer.sealed ≡ None → u.packing.packer.writer.target ≡ w.packing.packer.writer.target
    → Goes known Sealing.Due (fed_bytes a) w u → Goes known Sealing.Due (fed_bytes b) u v → Goes known Sealing.Due (fed_bytes (a ++ b)) w v
bytes_on known a b w u v unlaid unsealed aim first next st sent h =
    let k = first st sent h in
    let mid = plain u known k.1 sent k.2 unlaid k.4 in
    let none : k.2 ≡ [] = none_sealed u.packing.packer.sealed k.2 unsealed mid.packing.sealed_is in
    let n = next k.1 sent (subst (λ l. PieceStands u known k.1 sent l) none mid) in (
      grown_twice (file_at st.file) a b k.0 (subst (λ (p : Place). MayGrow p.file b) k.3 n.0),
      n.1,
      n.2,
      n.3 ∙ ap (λ p. after p (fed_bytes b)) k.3 ∙ together (file_at st.file),
      n.4,
      subst (λ t. IsSealedAs Sealing.Due t n.2 v) aim n.5,
    )
  where
    together : (file : Option FileSoFar) → ◌≡◌ {A = Place} (record { entries = entries_at st.done st.above; path = path_of st.above; file = with_more b (with_more a file); over = st.over }) (record { entries = entries_at st.done st.above; path = path_of st.above; file = with_more (a ++ b) file; over = st.over })
    together None = refl
    together (Some f) = λ i. record { entries = entries_at st.done st.above; path = path_of st.above; file = Some (record { name = f.name; bytes = append_assoc f.bytes a b i }); over = st.over }

-- some bytes, and then those that wait are named
pub bytes_named : (known : List Fact) (bytes : List ℕ) (w u v : PieceWork) → u.parts ≡ None → v.parts ≡ None → u.packing.packer.sealed ≡ None → u.packing.packer.writer.target ≡ w.packing.packer.writer.target → Goes known Sealing.Due (fed_bytes bytes) w u
    → ((st : Standing) (sent : List Item) → PieceStands u known st sent [] → (sealed : List Item) × PieceStands v known st sent sealed × IsSealedBy Sealing.Due u.packing.packer.writer.target sealed) → Goes known Sealing.Due (fed_bytes bytes) w v
bytes_named known bytes w u v unlaid laid unsealed aim goes named st sent h =
    let k = goes st sent h in
    let mid = plain u known k.1 sent k.2 unlaid k.4 in
    let none : k.2 ≡ [] = none_sealed u.packing.packer.sealed k.2 unsealed mid.packing.sealed_is in
    let n = named k.1 sent (subst (λ l. PieceStands u known k.1 sent l) none mid) in
    (k.0, k.1, n.0, k.3, inl (laid, n.1), subst (λ t. IsSealedAs Sealing.Due t n.0 v) aim (inl n.2))

-- no bytes
pub no_bytes : (known : List Fact) (w : PieceWork) (f : PieceFile) → w.parts ≡ None → w.walk.file ≡ Some f → f.size + 0 < file_end → Goes known Sealing.Due (fed_bytes []) w w
no_bytes known w f unlaid is small st sent h =
    let o = opened w.walk.params f st.file (subst (λ x. IsFileAt w.walk.params x st.file) is h.at.file) in (
      may_grow w.walk.params f o.0 st.file [] o.1 o.2 small,
      st,
      [],
      none (file_at st.file),
      inl (unlaid, h),
      inl (inl refl),
    )
  where
    none : (file : Option FileSoFar) → ◌≡◌ {A = Place} (record { entries = entries_at st.done st.above; path = path_of st.above; file = file; over = st.over }) (record { entries = entries_at st.done st.above; path = path_of st.above; file = with_more [] file; over = st.over })
    none None = refl
    none (Some f) = λ i. record { entries = entries_at st.done st.above; path = path_of st.above; file = Some (record { name = f.name; bytes = sym (append-nil f.bytes) i }); over = st.over }

-- a front, and the front of what is behind it
pub take_both : (n m : ℕ) (xs : List ℕ) → take (n + m) xs ≡ take n xs ++ take m (drop n xs)
take_both n m xs = sym (take-append-drop n (take (n + m) xs)) ∙ (λ i. take-take n (n + m) xs (omega arith) i ++ drop-take n m xs i)
