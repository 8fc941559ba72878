-- In which order packs have their blobs.
use Rattle.std.proofs.Common.{◌≡◌, ◌↔◌, ◌++◌, ◌∷◌, [], List, refl, sym, ap, subst, inl, inr, ◌∙◌, append_assoc, append-nil, Contains}
use Rattle.std.proofs.lemmas.List.{map-append}
use Rattle.std.proofs.lemmas.List.Elements.{Contains-append_left, Contains-push}
use Rattle.repo_index.specs.declared.facts.Fact.{Fact}
use Rattle.repo_name.specs.declared.kinds.BlobKind.TheVariants.{Tree}
use Rattle.repo_pack.specs.PackLayout.{Item, item_of}
use Rattle.repo_session.specs.Traces.{Each, Trace, ReadFact}
use Rattle.repo_tree.specs.PartWriting.{part_texts}
use Rattle.repo_name.proofs.Containing.{first_contained}
use Rattle.repo_writing.proofs.BlobLemmas.{once_apart}
use Rattle.repo_writing.proofs.PutLemmas.{each_contained}
use Rattle.repo_writing.proofs.Writings.{put_blobs}
use Rattle.repo_writing.specs.Blobs.{AreOnce, HasFact}
use Rattle.repo_writing.specs.Writing.{Put, items_of}
use Rattle.repo_backup.specs.Folders.{nodes_of, tree_items, trees_of}
use Rattle.repo_backup.specs.Items.{Feeding}
use Rattle.repo_backup.specs.Packings.{AllGain, all_items}
use Rattle.repo_backup.specs.PartsMade.{open_dir}
use Rattle.repo_backup.specs.PieceStates.{StandsAt}
use Rattle.repo_backup.specs.Pieces.{waiting_in, WorkStands}
use Rattle.repo_backup.specs.Rules.{AddsBlob, AddsBlobs, IsInOrder}
use Rattle.repo_backup.specs.Standings.{Standing, made_at}
use Rattle.repo_backup.specs.Waiting.{AllGainMore}
use Rattle.repo_backup.specs.declared.piece_backing.PieceBacking.{PieceBacking}
use Rattle.repo_backup.specs.declared.piece_works.PieceWork.{PieceWork}
use Rattle.repo_backup.proofs.PartLaying.{made_shut}
use Rattle.repo_backup.proofs.PartLists.{made_first, texts_by}
use Rattle.repo_backup.proofs.Piecing.{packing_in}
use Rattle.repo_backup.proofs.Written.{given_known, known_given}

-- ---- blobs that were packed, one after another

-- those before stand at the front
gains_front : (known : List Fact) (old items new : List Item) → AllGainMore known old items new → (more : List Item) × (new ≡ old ++ more)
gains_front known old [] new same = ([], same ∙ sym (append-nil old))
gains_front known old (item ∷ items) new h =
    let k = gains_front known h.0 items new h.2 in
    elim h.1 [
      | inl same ↦ (k.0, k.1 ∙ ap (λ l. l ++ k.0) same.0)
      | inr more ↦ (item ∷ k.0, k.1 ∙ ap (λ l. l ++ k.0) more ∙ append_assoc old (item ∷ []) k.0)
    ]

module _ (known : List Fact) (es : Trace) (gives : (fact : Fact) → Contains known fact ↔ ReadFact es fact) (all : List Item) (once : AreOnce all) (unknown : Each (λ item. ¬ HasFact known item.kind item.name) all) where
  -- so each is left out, or is a new one
  adds_one : (old mid : List Item) (item : Item) (more : List Item) → all ≡ mid ++ more → AllGain known old mid item → AddsBlob es old item mid
  adds_one old mid item more is (inl same) = inl (same.0, elim same.1 [ inl fact ↦ inl (known_given known es item.kind item.name gives fact) | inr has ↦ inr has ])
  adds_one old mid item more is (inr gained) =
      let whole : all ≡ old ++ item ∷ more = is ∙ ap (λ l. l ++ more) gained ∙ append_assoc old (item ∷ []) more in
      let among : Contains all item = subst (λ l. Contains l item) (sym (is ∙ ap (λ l. l ++ more) gained)) (Contains-append_left (old ++ item ∷ []) more item (Contains-push old item)) in
      inr (
        gained,
        (λ given. each_contained (λ i. ¬ HasFact known i.kind i.name) all item unknown among (given_known known es item.kind item.name gives given)),
        (λ has. once_apart old (item ∷ more) item.kind item.name (subst AreOnce whole once) has (item, first_contained item more, refl, refl)),
      )

  adds_all : (old items : List Item) → AllGainMore known old items all → AddsBlobs es old items all
  adds_all old [] same = same
  adds_all old (item ∷ items) h =
      let k = gains_front known h.0 items all h.2 in
      (h.0, adds_one old h.0 item k.0 k.1 h.1, adds_all h.0 items h.2)

-- ---- the blobs of a work

-- of the blobs made some first ones were packed
order_of : (w : PieceWork) (known : List Fact) (st : Standing) (sent sealed : List Item) → WorkStands w known st sent sealed
    → (first : List Item) × (later : List Item) × (made_at w.walk.version st ≡ first ++ later) × AllGainMore known [] first (all_items sent sealed w.packing)
order_of w known st sent sealed (inl h) = (h.1.order.0, waiting_in w.walk.file, h.1.order.1, h.1.order.2)
order_of w known st sent sealed (inr h) =
    let V = w.walk.version in
    let before = made_at V (open_dir h.done h.above) in
    let k = made_first h.left h.made in
    let trees : trees_of V h.done ≡ tree_items (part_texts h.made) ++ tree_items k.0 =
    ap tree_items (texts_by V (nodes_of V h.done) ∙ ap part_texts (sym h.all) ∙ k.1) ∙ map-append (λ text. item_of Tree text) (part_texts h.made) k.0 in
    let all : made_at V st ≡ (before ++ tree_items (part_texts h.made)) ++ tree_items k.0 =
    ap (made_at V) h.closed ∙ made_shut V h.done h.above ∙ ap (λ l. before ++ l) trees ∙ sym (append_assoc before (tree_items (part_texts h.made)) (tree_items k.0)) in
    (before ++ tree_items (part_texts h.made), tree_items k.0, all, h.order)

-- ---- what may be put

-- the sealed pack goes on in their order
pub sealed_order : (facts : List Fact) (b : PieceBacking) (puts : List Put) (sealed : List Item) (items : Feeding) (es : Trace) (h : StandsAt facts b puts [] sealed items es) → IsInOrder es (made_at h.config.version h.st) sealed
sealed_order facts b puts sealed items es h =
    let w = b.work in
    let stands : WorkStands w facts h.st (items_of puts) sealed = subst (λ l. WorkStands w facts h.st l sealed) (ap items_of (append-nil puts)) h.stands in
    let packing = packing_in w facts h.st (items_of puts) sealed stands in
    let k = order_of w facts h.st (items_of puts) sealed stands in
    record {
      before = items_of puts;
      put = put_blobs b.counts puts es h.written.put;
      first = k.0;
      later = k.1;
      begins = subst (λ n. made_at n h.st ≡ k.0 ++ k.1) h.goes_by.version k.2;
      more = w.packing.packer.writer.items;
      adds = adds_all facts es h.written.gives (all_items (items_of puts) sealed w.packing) packing.once packing.unknown [] k.0 k.3;
    }

-- also where more was made behind them
pub order_later : (es : Trace) (made later whole items : List Item) → whole ≡ made ++ later → IsInOrder es made items → IsInOrder es whole items
order_later es made later whole items is h = record {
  before = h.before;
  put = h.put;
  first = h.first;
  later = h.later ++ later;
  begins = is ∙ ap (λ l. l ++ later) h.begins ∙ append_assoc h.first h.later later;
  more = h.more;
  adds = h.adds;
}
