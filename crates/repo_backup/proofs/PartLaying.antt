-- A work goes on with the parts of a directory that was closed.
use Rattle.std.proofs.Common.{arith, ◌≡◌, ◌≢◌, ◌≤◌, ◌<◌, ◌-◌, ◌++◌, ◌∷◌, [], ℕ, true, false, List, length, map, take, drop, Option, Some, None, is_some, refl, sym, ap, subst, inl, inr, ◌⊎◌, ◌∙◌, append_assoc, append-nil, length-append, Contains}
use Rattle.std.proofs.lemmas.List.Elements.{Contains-append_left, Contains-append_right}
use Rattle.std.proofs.lemmas.List.{same_from_push}
use Rattle.std.proofs.lemmas.Option.{same_Some}
use Rattle.repo_chunk.specs.Parameters.{Parameters, AreLawful}
use Rattle.repo_index.specs.declared.facts.Fact.{Fact}
use Rattle.repo_name.specs.Limits.{blob_limit}
use Rattle.repo_name.specs.Naming as naming
use Rattle.repo_name.specs.declared.kinds.BlobKind.TheVariants.{Tree}
use Rattle.repo_name.specs.declared.names.Name.{Name}
use Rattle.repo_pack.specs.PackLayout.{Item, item_of}
use Rattle.repo_session.specs.Traces.{Each}
use Rattle.repo_tree.specs.Parts.{IsPartText}
use Rattle.repo_tree.specs.PartWriting.{ArePartTexts, HasTexts, first_text, part_text, part_texts, root_text}
use Rattle.repo_tree.specs.declared.nodes.Node.{Node}
use Rattle.repo_tree.specs.declared.nodes.NodeKind.TheVariants.{Dir}
use Rattle.repo_backup.specs.Folders.{Folder, nothing, dir_then, blobs_below, nodes_of, tree_items, trees_of}
use Rattle.repo_backup.specs.Items.{after, MayTake}
use Rattle.repo_backup.specs.Packings.{IsPacking, IsCovered, IsSealedBy, PacksOn, AimsOn, all_items}
use Rattle.repo_pack.specs.PackWriting.{IsOpen}
use Rattle.repo_backup.specs.PartsMade.{parts_by, nodes_in, next_of, left_count, open_dir, closed_dir}
use Rattle.repo_backup.specs.Pieces.{AreOuterAt, AreTextsAround, IsFileAt, IsRootAt, IsAt, waiting_in, PieceStands, PieceLays, WorkStands, IsReady, TakesItem, LeavesPacked, Reopens, reopened, LaysOn, LaysStill, IsStill, LeavesLater, EndsSteady, sealing_in, closing_in}
use Rattle.repo_backup.specs.Plans.{AreTreeTextsBelow}
use Rattle.repo_backup.specs.Standings.{Around, Standing, both, path_of, place_at, IsCutSoFar, made_below, made_at}
use Rattle.repo_backup.specs.Waiting.{AllGainMore}
use Rattle.repo_backup.specs.declared.packing.Packing.{Packing}
use Rattle.repo_backup.specs.declared.packing.Sealing.{Sealing}
use Rattle.repo_backup.specs.declared.parts.PartsLeft.{PartsLeft}
use Rattle.repo_backup.specs.declared.piece_works.PieceWork.{PieceWork}
use Rattle.repo_backup.specs.declared.piece_works.Took.{Took}
use Rattle.repo_backup.specs.declared.pieces.Outer.{Outer}
use Rattle.repo_backup.proofs.Closing.{nodes_both, texts_both, no_front, room_stays}
use Rattle.repo_backup.proofs.Leading.{made_open, next_close, next_end}
use Rattle.repo_backup.proofs.Lengthening.{made_more, no_file}
use Rattle.repo_backup.proofs.NamePlaces.{none_open}
use Rattle.repo_backup.proofs.PartLists.{Lasts, Ranges, last_part, ranges, parts_whole, parts_some, texts_by, root_by, has_by, first_one, texts_more, items_more, item_among}
use Rattle.repo_backup.proofs.Piecing.{all_of_made, covered_so_far, covered_whole, more_covered, make_at, none_sealed, none_waiting, packed_whole}
use Rattle.repo_backup.proofs.Waits.{gain_one_more}
use Rattle.repo_session.specs.Feeds.{Fed, fed_close, fed_end}

-- ---- a directory that is closed

some_path : (above : List Around) (a : Around) → path_of (a ∷ above) ≢ []
some_path above a e = absurd (omega (arith, ap length e, length-append (path_of above) (a.name ∷ [])))

-- what is made then
pub made_shut : (version : ℕ) (done : Folder) (above : List Around) → made_at version (closed_dir done above) ≡ made_at version (open_dir done above) ++ trees_of version done
made_shut version done [] = ap (λ l. l ++ trees_of version done) (sym (append-nil (blobs_below version done ++ [])))
made_shut version done (a ∷ above) =
    let mine : Folder = dir_then a.name done nothing in
    let before = made_below version a.done above in
    let below = blobs_below version done in
    let trees = trees_of version done in
    made_open version (closed_dir done (a ∷ above)) refl ∙ append-nil (made_below version (both a.done mine) above) ∙ made_more version above a.done mine ∙ ap (λ l. before ++ l) (append-nil (below ++ trees))
    ∙ sym (append_assoc before below trees) ∙ ap (λ l. l ++ trees) (sym (append-nil (before ++ below)) ∙ sym (made_open version (open_dir done (a ∷ above)) refl))

-- the item that closes a directory in these
abbrev pub closing_at : List Around → Fed
closing_at [] = fed_end
closing_at (a ∷ above) = fed_close

-- where it leads
pub record Shut (params : Parameters) (done : Folder) (above : List Around) : Type 0 where
  pub place : place_at (closed_dir done above) ≡ after (place_at (open_dir done above)) (closing_at above)
  pub cut : IsCutSoFar params (closed_dir done above)
  pub may : MayTake (place_at (open_dir done above)) (closing_at above)

pub shut_at : (params : Parameters) → AreLawful params → (done : Folder) (above : List Around) → IsCutSoFar params (open_dir done above) → Shut params done above
unfolding next_close next_end
shut_at params lawful done [] cut =
    let n = next_end params lawful 1 (open_dir done []) cut refl in
    record { place = n.place; cut = n.cut; may = (refl, refl) }
shut_at params lawful done (a ∷ above) cut =
    let n = next_close params lawful 1 done (a ∷ above) None false cut refl (inr (some_path above a)) in
    record { place = n.place; cut = n.cut; may = inr (some_path above a) }

-- ---- one part more

module _ (w : PieceWork) (known : List Fact) (st : Standing) (sent : List Item) (h : PieceLays w known st sent []) (p : PartsLeft) (is : w.parts ≡ Some p) (sizes : List ℕ) (size : ℕ) (popped : p.sizes.items ≡ sizes ++ size ∷ []) where
  abbrev pub V : ℕ
  V = w.walk.version

  pub all_nodes : w.walk.nodes.items ≡ nodes_in (h.left ++ h.made)
  all_nodes = h.at.nodes ∙ sym (parts_whole V (nodes_of V h.done)) ∙ ap nodes_in (sym h.all)

  pub same : h.parts ≡ p
  same = same_Some h.parts p (sym h.parts_are ∙ is)

  abbrev pub last : Lasts h.left sizes size
  last = last_part h.left sizes size (sym h.is_left.sizes ∙ ap (λ (q : PartsLeft). q.sizes.items) same ∙ popped)

  pub counted : p.count ≡ length (nodes_in h.left)
  counted = ap (λ (q : PartsLeft). q.count) (sym same) ∙ h.is_left.count

  abbrev pub where_is : Ranges p w.walk.nodes.items last.before h.made last.part size
  where_is = ranges p w.walk.nodes.items h.left h.made sizes size last counted all_nodes

  pub next_is : p.next ≡ next_of h.made
  next_is = ap (λ (q : PartsLeft). q.next) (sym same) ∙ h.is_left.next

  abbrev pub now_made : List (List Node)
  now_made = last.part ∷ h.made

  pub all_now : last.before ++ now_made ≡ parts_by V (nodes_of V h.done)
  all_now = sym (append_assoc last.before (last.part ∷ []) h.made) ∙ ap (λ l. l ++ h.made) (sym last.split) ∙ h.all

  -- its text
  pub text_is : part_text last.part p.next ≡ first_text now_made
  text_is = ap (part_text last.part) next_is ∙ sym (first_one last.part h.made)

  pub made_all : made_at V st ≡ made_at V (open_dir h.done h.above) ++ tree_items (part_texts (last.before ++ now_made))
  made_all = ap (made_at V) h.closed ∙ made_shut V h.done h.above ∙ ap (λ l. made_at V (open_dir h.done h.above) ++ tree_items l) (texts_by V (nodes_of V h.done) ∙ ap part_texts (sym all_now))

  -- is one of those made there
  pub among_all : Contains (made_at V st) (item_of Tree (part_text last.part p.next))
  among_all =
      let item = item_of Tree (first_text now_made) in
      subst (λ t. Contains (made_at V st) (item_of Tree t)) (sym text_is)
      (subst (λ l. Contains l item) (sym made_all) (Contains-append_right (made_at V (open_dir h.done h.above)) (tree_items (part_texts (last.before ++ now_made))) item (item_among last.before last.part h.made)))

  pub texts_now : IsPartText (part_text last.part p.next) last.part p.next → ArePartTexts now_made
  texts_now t = texts_more last.part h.made (subst (λ n. IsPartText (part_text last.part n) last.part n) next_is t) h.is_left.texts

  -- what is known of the packs once it is packed
  pub record Packs (sealing : Sealing) (q : Packing) : Type 0 where
    pub sealed : List Item
    pub packing : IsPacking q known sent sealed
    pub of_made : (item : Item) → Contains (all_items sent sealed q) item → Contains (made_at V st) item
    pub order : AllGainMore known [] (made_at V (open_dir h.done h.above) ++ tree_items (part_texts now_made)) (all_items sent sealed q)
    pub covered : Each (λ item. IsCovered known (all_items sent sealed q) item) (made_at V (open_dir h.done h.above) ++ tree_items (part_texts now_made))
    pub by : IsSealedBy sealing w.packing.packer.writer.target sealed

  pub packs_more : (sealing : Sealing) (q : Packing) → PacksOn known sealing (item_of Tree (part_text last.part p.next)) w.packing q → Packs sealing q
  packs_more sealing q packs =
      let item = item_of Tree (part_text last.part p.next) in
      let k = packs sent h.packing in
      let was = all_items sent [] w.packing in
      let all = all_items sent k.0 q in
      let open_made = made_at V (open_dir h.done h.above) in
      let before = open_made ++ tree_items (part_texts h.made) in
      let more : before ++ item ∷ [] ≡ open_made ++ tree_items (part_texts now_made) =
      ap (λ t. before ++ item_of Tree t ∷ []) text_is ∙ append_assoc open_made (tree_items (part_texts h.made)) (item_of Tree (first_text now_made) ∷ []) ∙ ap (λ l. open_made ++ l) (sym (items_more last.part h.made)) in
      record {
        sealed = k.0;
        packing = k.1;
        of_made = λ x among. all_of_made known was all item (made_at V st) x k.2 h.of_made among_all among;
        order = subst (λ l. AllGainMore known [] l all) more (gain_one_more known [] was all before item h.order k.2);
        covered = subst (λ l. Each (λ x. IsCovered known all x) l) more (more_covered known was all item before k.2 h.covered);
        by = k.3;
      }

-- a later part was made
pub laid_later : (w v : PieceWork) (known : List Fact) (st : Standing) (sent : List Item) (h : PieceLays w known st sent []) (p q : PartsLeft) (is : w.parts ≡ Some p) (size : ℕ) (popped : p.sizes.items ≡ q.sizes.items ++ size ∷ []) (nodes : List Node) (name : Name)
    → 1 ≤ length q.sizes.items → q.count ≡ p.count - size → (q.count ≤ p.count → p.count ≤ length w.walk.nodes.items → nodes ≡ drop q.count (take p.count w.walk.nodes.items)) → q.next ≡ Some name → name ≡ naming.name (part_text nodes p.next)
    → IsPartText (part_text nodes p.next) nodes p.next → v.walk ≡ w.walk → v.parts ≡ Some q → PacksOn known Sealing.Due (item_of Tree (part_text nodes p.next)) w.packing v.packing
    → (sealed : List Item) × PieceLays v known st sent sealed × IsSealedBy Sealing.Due w.packing.packer.writer.target sealed
laid_later w v known st sent h p q is size popped nodes name some count range next called text walk now packs =
    let sizes = q.sizes.items in
    let l = last w known st sent h p is sizes size popped in
    let r = where_is w known st sent h p is sizes size popped in
    let part_is : nodes ≡ l.part = range (omega (arith, count)) r.within ∙ ap (λ n. drop n (take p.count w.walk.nodes.items)) count ∙ r.range in
    let texts = subst (λ ns. IsPartText (part_text ns p.next) ns p.next) part_is text in
    let m = packs_more w known st sent h p is sizes size popped Sealing.Due v.packing (subst (λ ns. PacksOn known Sealing.Due (item_of Tree (part_text ns p.next)) w.packing v.packing) part_is packs) in
    let made = now_made w known st sent h p is sizes size popped in
    let named : name ≡ naming.name (first_text made) = called ∙ ap (λ ns. naming.name (part_text ns p.next)) part_is ∙ ap naming.name (text_is w known st sent h p is sizes size popped) in (
      m.sealed,
      record {
        parts = q;
        parts_are = now;
        done = h.done;
        above = h.above;
        closed = h.closed;
        left = l.before;
        made = made;
        all = subst (λ x. l.before ++ made ≡ parts_by x.version (nodes_of x.version h.done)) (sym walk) (all_now w known st sent h p is sizes size popped);
        some = λ none. absurd (omega (arith, some, ap length l.sizes_are, ap (λ ls. length (map length ls)) none));
        is_left = record { sizes = sym l.sizes_are; count = count ∙ r.count; next = next ∙ ap Some named; texts = texts_now w known st sent h p is sizes size popped texts };
        packing = m.packing;
        of_made = λ item among. subst (λ x. Contains (made_at x.version st) item) (sym walk) (m.of_made item among);
        at = subst (λ x. IsAt x (open_dir h.done h.above)) (sym walk) h.at;
        cut = subst (λ x. IsCutSoFar x.params st) (sym walk) h.cut;
        texts = subst (λ x. AreTreeTextsBelow x.version h.done × AreTextsAround x.version h.above) (sym walk) h.texts;
        order = subst (λ x. AllGainMore known [] (made_at x.version (open_dir h.done h.above) ++ tree_items (part_texts made)) (all_items sent m.sealed v.packing)) (sym walk) m.order;
        covered = subst (λ x. Each (λ item. IsCovered known (all_items sent m.sealed v.packing) item) (made_at x.version (open_dir h.done h.above) ++ tree_items (part_texts made))) (sym walk) m.covered;
      },
      m.by,
    )

-- the packs stand as they stood, and the same parts are left
pub lays_still : (w v : PieceWork) (known : List Fact) (p q : PartsLeft) → w.parts ≡ Some p → v.parts ≡ Some q → q.sizes.items ≡ p.sizes.items → q.count ≡ p.count → q.next ≡ p.next → v.walk.params ≡ w.walk.params → v.walk.version ≡ w.walk.version
    → ((n : ℕ) (above : List Around) → AreOuterAt n w.walk.above.items above → AreOuterAt n v.walk.above.items above) → v.walk.nodes.items ≡ w.walk.nodes.items → v.walk.file ≡ w.walk.file → v.walk.root ≡ w.walk.root
    → ((sent : List Item) → IsPacking w.packing known sent [] → IsPacking v.packing known sent []) → v.packing.packer.writer.items ≡ w.packing.packer.writer.items → LaysStill known w v
lays_still w v known p q is now sizes count next params version outers nodes file root packs written st sent h =
    let N = w.walk.version in
    let same : h.parts ≡ p = same_Some h.parts p (sym h.parts_are ∙ is) in
    let all : all_items sent [] v.packing ≡ all_items sent [] w.packing = ap (λ l. (sent ++ []) ++ l) written in
    let there = open_dir h.done h.above in
    let same_file = subst (λ x. IsFileAt x v.walk.file None) (sym params) (subst (λ x. IsFileAt w.walk.params x None) (sym file) h.at.file) in
    record {
      parts = q;
      parts_are = now;
      done = h.done;
      above = h.above;
      closed = h.closed;
      left = h.left;
      made = h.made;
      all = subst (λ n. h.left ++ h.made ≡ parts_by n (nodes_of n h.done)) (sym version) h.all;
      some = h.some;
      is_left = record { sizes = sizes ∙ ap (λ (x : PartsLeft). x.sizes.items) (sym same) ∙ h.is_left.sizes; count = count ∙ ap (λ (x : PartsLeft). x.count) (sym same) ∙ h.is_left.count; next = next ∙ ap (λ (x : PartsLeft). x.next) (sym same) ∙ h.is_left.next; texts = h.is_left.texts };
      packing = packs sent h.packing;
      of_made = λ item among. subst (λ n. Contains (made_at n st) item) (sym version) (h.of_made item (subst (λ l. Contains l item) all among));
      at = make_at v.walk N there version (outers N h.above h.at.outers) (nodes ∙ h.at.nodes) same_file (ap is_some root ∙ h.at.over) (subst (λ x. IsRootAt N x h.done) (sym root) h.at.root);
      cut = subst (λ x. IsCutSoFar x st) (sym params) h.cut;
      texts = subst (λ n. AreTreeTextsBelow n h.done × AreTextsAround n h.above) (sym version) h.texts;
      order = subst (λ n. AllGainMore known [] (made_at n there ++ tree_items (part_texts h.made)) (all_items sent [] v.packing)) (sym version)
          (subst (λ l. AllGainMore known [] (made_at N there ++ tree_items (part_texts h.made)) l) (sym all) h.order);
      covered = subst (λ n. Each (λ item. IsCovered known (all_items sent [] v.packing) item) (made_at n there ++ tree_items (part_texts h.made))) (sym version)
          (subst (λ l. Each (λ item. IsCovered known l item) (made_at N there ++ tree_items (part_texts h.made))) (sym all) h.covered);
    }

-- the text of a part is too large
pub large_later : (w : PieceWork) (known : List Fact) (st : Standing) (sent : List Item) (h : PieceLays w known st sent []) (p : PartsLeft) (is : w.parts ≡ Some p) (sizes : List ℕ) (size : ℕ) (popped : p.sizes.items ≡ sizes ++ size ∷ []) (nodes : List Node) (from : ℕ)
    → from ≡ p.count - size → (from ≤ p.count → p.count ≤ length w.walk.nodes.items → nodes ≡ drop from (take p.count w.walk.nodes.items)) → blob_limit < length (part_text nodes p.next)
    → (text : List ℕ) × Contains (made_at w.walk.version st) (item_of Tree text) × (blob_limit < length text)
large_later w known st sent h p is sizes size popped nodes from count range large =
    let l = last w known st sent h p is sizes size popped in
    let r = where_is w known st sent h p is sizes size popped in
    let part_is : nodes ≡ l.part = range (omega (arith, count)) r.within ∙ ap (λ n. drop n (take p.count w.walk.nodes.items)) count ∙ r.range in
    (part_text l.part p.next, among_all w known st sent h p is sizes size popped, subst (λ ns. blob_limit < length (part_text ns p.next)) part_is large)

-- ---- the first part

no_lengths : (parts : List (List Node)) → map length parts ≡ [] → parts ≡ []
no_lengths [] e = refl
no_lengths (part ∷ parts) e = absurd (cc)

no_above : (version : ℕ) (above : List Around) → AreOuterAt version [] above → above ≡ []
no_above version [] h = refl
no_above version (a ∷ above) h = absurd (omega (arith, ap length h.2, length-append h.0 (h.1 ∷ [])))

-- the directory around the one that is closed
around : (version : ℕ) (left : List Outer) (outer : Outer) (outers : List Outer) (above : List Around) → outers ≡ left ++ outer ∷ [] → AreOuterAt version outers above
    → (a : Around) × (rest : List Around) × (above ≡ a ∷ rest) × (outer.name ≡ a.name) × (outer.nodes.items ≡ nodes_of version a.done) × AreOuterAt version left rest
around version left outer outers [] e h = absurd (omega (arith, ap length (sym h ∙ e), length-append left (outer ∷ [])))
around version left outer outers (a ∷ rest) e h =
    let same = same_from_push left h.0 outer h.1 (sym e ∙ h.2) in
    (a, rest, refl, ap (λ (x : Outer). x.name) same.1 ∙ h.3, ap (λ (x : Outer). x.nodes.items) same.1 ∙ h.4, subst (λ l. AreOuterAt version l rest) (sym same.0) h.5)

module _ (w : PieceWork) (known : List Fact) (st : Standing) (sent : List Item) (h : PieceLays w known st sent []) (p : PartsLeft) (is : w.parts ≡ Some p) (size : ℕ) (only : p.sizes.items ≡ size ∷ []) (nodes : List Node)
    (range : 0 ≤ p.count → p.count ≤ length w.walk.nodes.items → nodes ≡ drop 0 (take p.count w.walk.nodes.items)) where
  abbrev pub N : ℕ
  N = w.walk.version

  abbrev pub l : Lasts h.left [] size
  l = last w known st sent h p is [] size only

  abbrev pub r : Ranges p w.walk.nodes.items l.before h.made l.part size
  r = where_is w known st sent h p is [] size only

  none_before : l.before ≡ []
  none_before = no_lengths l.before l.sizes_are

  start : p.count - size ≡ 0
  start = r.count ∙ ap (λ b. length (nodes_in b)) none_before

  pub part_first : nodes ≡ l.part
  part_first = range (omega arith) r.within ∙ ap (λ n. drop n (take p.count w.walk.nodes.items)) (sym start) ∙ r.range

  abbrev pub parts_now : List (List Node)
  parts_now = now_made w known st sent h p is [] size only

  pub all_parts : parts_now ≡ parts_by N (nodes_of N h.done)
  all_parts = ap (λ b. b ++ parts_now) (sym none_before) ∙ all_now w known st sent h p is [] size only

  pub made_there : made_at N st ≡ made_at N (open_dir h.done h.above) ++ tree_items (part_texts parts_now)
  made_there = made_all w known st sent h p is [] size only ∙ ap (λ b. made_at N (open_dir h.done h.above) ++ tree_items (part_texts (b ++ parts_now))) none_before

  pub large_first : blob_limit < length (part_text nodes p.next) → (text : List ℕ) × Contains (made_at N st) (item_of Tree text) × (blob_limit < length text)
  large_first large = (part_text l.part p.next, among_all w known st sent h p is [] size only, subst (λ ns. blob_limit < length (part_text ns p.next)) part_first large)

  module _ (name : Name) (text : IsPartText (part_text nodes p.next) nodes p.next) (called : name ≡ naming.name (part_text nodes p.next)) where
    pub has_texts : HasTexts N (nodes_of N h.done)
    has_texts = has_by N (nodes_of N h.done) (subst ArePartTexts all_parts (texts_now w known st sent h p is [] size only (subst (λ ns. IsPartText (part_text ns p.next) ns p.next) part_first text)))

    pub named : name ≡ naming.name (root_text N (nodes_of N h.done))
    named = called ∙ ap (λ ns. naming.name (part_text ns p.next)) part_first ∙ ap naming.name (text_is w known st sent h p is [] size only ∙ ap first_text all_parts ∙ sym (root_by N (nodes_of N h.done)))

    -- the root's
    pub laid_root : (v : PieceWork) → w.walk.above.items ≡ [] → v.walk ≡ record w.walk { root = Some name } → PacksOn known Sealing.Last (item_of Tree (part_text nodes p.next)) w.packing v.packing
        → (sealed : List Item) × PieceStands v known st sent sealed × IsSealedBy Sealing.Last w.packing.packer.writer.target sealed
    laid_root v top walk packs =
        let m = packs_more w known st sent h p is [] size only Sealing.Last v.packing (subst (λ ns. PacksOn known Sealing.Last (item_of Tree (part_text ns p.next)) w.packing v.packing) part_first packs) in
        let none : h.above ≡ [] = no_above N h.above (subst (λ os. AreOuterAt N os h.above) top h.at.outers) in
        let there : st ≡ closed_dir h.done [] = h.closed ∙ ap (closed_dir h.done) none in
        let version : v.walk.version ≡ N = ap (λ x. x.version) walk in
        let order = subst (λ n. AllGainMore known [] (made_at n st) (all_items sent m.sealed v.packing)) (sym version) (subst (λ ls. AllGainMore known [] ls (all_items sent m.sealed v.packing)) (sym made_there) m.order) in
        let covered = subst (λ ls. Each (λ item. IsCovered known (all_items sent m.sealed v.packing) item) ls) (sym made_there) m.covered in (
          m.sealed,
          record {
            packing = m.packing;
            of_made = λ item among. subst (λ n. Contains (made_at n st) item) (sym version) (m.of_made item among);
            at = subst (λ s. IsAt v.walk s) (sym there) (make_at v.walk N (closed_dir h.done []) version (ap (λ x. x.above.items) walk ∙ top) (ap (λ x. x.nodes.items) walk ∙ h.at.nodes)
                (subst (λ x. IsFileAt x.params x.file None) (sym walk) h.at.file) (ap (λ x. is_some x.root) walk) (subst (λ x. IsRootAt N x.root h.done) (sym walk) (named, has_texts)));
            cut = subst (λ x. IsCutSoFar x.params st) (sym walk) h.cut;
            texts = subst (λ (n : ℕ). AreTreeTextsBelow n st.done × AreTextsAround n st.above) (sym version) (subst (λ (s : Standing). AreTreeTextsBelow N s.done × AreTextsAround N s.above) (sym there) (h.texts.0, tt));
            order = packed_whole known (made_at v.walk.version st) v.walk.file (all_items sent m.sealed v.packing) (none_waiting v.walk.params v.walk.file (subst (λ x. IsFileAt x.params x.file None) (sym walk) h.at.file)) order;
            covered = covered_so_far known (all_items sent m.sealed v.packing) v.walk.file (made_at v.walk.version st) (subst (λ n. Each (λ item. IsCovered known (all_items sent m.sealed v.packing) item) (made_at n st)) (sym version) covered);
          },
          m.by,
        )

    -- another one's
    pub laid_dir : (v : PieceWork) (outer : Outer) → v.walk.params ≡ w.walk.params → v.walk.version ≡ w.walk.version → w.walk.above.items ≡ v.walk.above.items ++ outer ∷ [] → v.walk.file ≡ w.walk.file → v.walk.root ≡ w.walk.root
        → v.walk.nodes.items ≡ outer.nodes.items ++ record { name = outer.name; what = Dir name } ∷ [] → PacksOn known Sealing.Due (item_of Tree (part_text nodes p.next)) w.packing v.packing
        → (sealed : List Item) × PieceStands v known st sent sealed × IsSealedBy Sealing.Due w.packing.packer.writer.target sealed
    laid_dir v outer params version above file root made packs =
        let m = packs_more w known st sent h p is [] size only Sealing.Due v.packing (subst (λ ns. PacksOn known Sealing.Due (item_of Tree (part_text ns p.next)) w.packing v.packing) part_first packs) in
        let o = around N v.walk.above.items outer w.walk.above.items h.above above h.at.outers in
        let a = o.0 in
        let rest = o.1 in
        let mine : Folder = dir_then a.name h.done nothing in
        let there : st ≡ closed_dir h.done (a ∷ rest) = h.closed ∙ ap (closed_dir h.done) o.2 in
        let around_texts = subst (λ ab. AreTextsAround N ab) o.2 h.texts.1 in
        let node : record { name = outer.name; what = Dir name } ≡ record { name = a.name; what = Dir (naming.name (root_text N (nodes_of N h.done))) } = λ i. record { name = o.3 i; what = Dir (named i) } in
        let nodes_are : v.walk.nodes.items ≡ nodes_of N (both a.done mine) = made ∙ (λ i. o.4 i ++ node i ∷ []) ∙ sym (nodes_both N a.done mine) in
        let file_is : IsFileAt v.walk.params v.walk.file None = subst (λ q. IsFileAt q v.walk.file None) (sym params) (subst (λ f. IsFileAt w.walk.params f None) (sym file) h.at.file) in
        let unended : v.walk.root ≡ None = root ∙ none_root w.walk.root h.at.over in
        let order = subst (λ n. AllGainMore known [] (made_at n st) (all_items sent m.sealed v.packing)) (sym version) (subst (λ ls. AllGainMore known [] ls (all_items sent m.sealed v.packing)) (sym made_there) m.order) in
        let covered = subst (λ ls. Each (λ item. IsCovered known (all_items sent m.sealed v.packing) item) ls) (sym made_there) m.covered in (
          m.sealed,
          record {
            packing = m.packing;
            of_made = λ item among. subst (λ n. Contains (made_at n st) item) (sym version) (m.of_made item among);
            at = subst (λ s. IsAt v.walk s) (sym there) (make_at v.walk N (closed_dir h.done (a ∷ rest)) version o.5 nodes_are file_is (ap is_some unended) (subst (λ x. IsRootAt N x (both a.done mine)) (sym unended) tt));
            cut = subst (λ q. IsCutSoFar q st) (sym params) h.cut;
            texts = subst (λ (n : ℕ). AreTreeTextsBelow n st.done × AreTextsAround n st.above) (sym version) (subst (λ (s : Standing). AreTreeTextsBelow N s.done × AreTextsAround N s.above) (sym there)
                (texts_both N a.done mine around_texts.0 (has_texts, h.texts.0, tt), around_texts.1));
            order = packed_whole known (made_at v.walk.version st) v.walk.file (all_items sent m.sealed v.packing) (none_waiting v.walk.params v.walk.file (file_is)) order;
            covered = covered_so_far known (all_items sent m.sealed v.packing) v.walk.file (made_at v.walk.version st) (subst (λ n. Each (λ item. IsCovered known (all_items sent m.sealed v.packing) item) (made_at n st)) (sym version) covered);
          },
          m.by,
        )
      where
        none_root : (o : Option Name) → is_some o ≡ false → o ≡ None
        none_root None e = refl
        none_root (Some x) e = absurd (cc)

-- where the root is closed, all ended
pub root_over : (w : PieceWork) (known : List Fact) (st : Standing) (sent : List Item) → PieceLays w known st sent [] → w.walk.above.items ≡ [] → st.over ≡ true
root_over w known st sent h top = ap (λ (s : Standing). s.over) (h.closed ∙ ap (closed_dir h.done) (no_above w.walk.version h.above (subst (λ os. AreOuterAt w.walk.version os h.above) top h.at.outers)))

-- ---- one part after another

pub still_then : (known : List Fact) (a b c : Packing) → IsStill known a b → IsStill known b c → IsStill known a c
still_then known a b c h k =
    let first = h.grows.0 in
    let next = k.grows.0 in
    record {
      packs = λ sent p. k.packs sent (h.packs sent p);
      grows = ((first.0 ++ next.0, next.1 ∙ ap (λ l. l ++ next.0) first.1 ∙ append_assoc a.packer.writer.items first.0 next.0), k.grows.1 ∙ h.grows.1);
      unsealed = k.unsealed;
      opened = k.opened;
    }

pub still_same : (known : List Fact) (a : Packing) → a.packer.sealed ≡ None → IsOpen a.packer.writer → IsStill known a a
still_same known a none opened = record { packs = λ sent h. h; grows = (([], sym (append-nil a.packer.writer.items)), refl); unsealed = none; opened = opened }

pub aims_then : (a b c : Packing) → AimsOn a b → AimsOn b c → AimsOn a c
aims_then a b c h k = (k.0 ∙ h.0, λ e. k.1 (h.1 e))

-- a later part was made, and no pack is sealed
pub later_still : (known : List Fact) (a b : PieceWork) (n : ℕ) → 2 ≤ left_count a.parts → LaysOn known a (Took.All n None) b → LeavesLater known a (Took.All n None) b → LaysStill known a b
later_still known a b n many lays left st sent h = by (lays.1 st sent h)
  where
    by : (sealed : List Item) × WorkStands b known st sent sealed × (IsSealedBy Sealing.Due a.packing.packer.writer.target sealed ⊎ ((st.over ≡ true) × (b.parts ≡ None) × IsSealedBy Sealing.Last a.packing.packer.writer.target sealed)) → PieceLays b known st sent []
    by (sealed, inl plain, s) = absurd (omega (arith, many, left.0, ap left_count plain.0))
    by (sealed, inr lay, s) = subst (λ l. PieceLays b known st sent l) (none_sealed b.packing.packer.sealed sealed left.1.unsealed lay.packing.sealed_is) lay

-- so far, and on
pub lays_then : (known : List Fact) (a b c : PieceWork) (took : Took) → LaysStill known a b → b.packing.packer.writer.target ≡ a.packing.packer.writer.target → b.walk ≡ a.walk → LaysOn known b took c → LaysOn known a took c
lays_then known a b c (Took.All n listed) still target walk lays = (
  lays.0,
  λ st sent h.
      let k = lays.1 st sent (still st sent h) in
      (k.0, k.1, elim k.2 [ inl due ↦ inl (subst (λ t. IsSealedBy Sealing.Due t k.0) target due) | inr over ↦ inr (over.0, over.1, subst (λ t. IsSealedBy Sealing.Last t k.0) target over.2) ]),
)
lays_then known a b c Took.TooLarge still target walk lays = λ st sent h.
    let k = lays st sent (still st sent h) in
    (k.0, subst (λ x. Contains (made_at x.version st) (item_of Tree k.0)) walk k.1, k.2)

-- ---- a directory is closed

-- the items are those of the places
closing_same : (version : ℕ) (outers : List Outer) (above : List Around) → AreOuterAt version outers above → closing_in outers ≡ closing_at above
closing_same version [] [] h = refl
closing_same version [] (a ∷ above) h = absurd (omega (arith, ap length h.2, length-append h.0 (h.1 ∷ [])))
closing_same version (o ∷ outers) [] h = absurd (cc)
closing_same version (o ∷ outers) (a ∷ above) h = refl

last_there : (version : ℕ) (outers : List Outer) (done : Folder) (above : List Around) → AreOuterAt version outers above → (closed_dir done above).over ≡ true → sealing_in outers ≡ Sealing.Last
last_there version [] done above h e = refl
last_there version (o ∷ outers) done [] h e = absurd (cc)
last_there version (o ∷ outers) done (a ∷ above) h e = absurd (cc)

module _ (w : PieceWork) (known : List Fact) (p : PartsLeft) (ready : IsReady w) (file : w.walk.file ≡ None) (lawful : AreLawful w.walk.params) (sizes : p.sizes.items ≡ map length (parts_by w.walk.version w.walk.nodes.items))
    (count : p.count ≡ length w.walk.nodes.items) (next : p.next ≡ None) where
  abbrev pub begun : PieceWork
  begun = record w { parts = Some p }

  -- where it is closed, and that its parts are made then
  pub record Begins (st : Standing) (sent : List Item) : Type 0 where
    pub place : place_at (closed_dir st.done st.above) ≡ after (place_at st) (closing_in w.walk.above.items)
    pub cut : IsCutSoFar w.walk.params (closed_dir st.done st.above)
    pub may : MayTake (place_at st) (closing_in w.walk.above.items)
    pub lays : PieceLays begun known (closed_dir st.done st.above) sent []

  pub begins : (st : Standing) (sent : List Item) → PieceStands w known st sent [] → Begins st sent
  begins st sent h =
      let N = w.walk.version in
      let there = open_dir st.done st.above in
      let none : st.file ≡ None = no_file st.file (none_open w.walk.params w.walk.file st.file h.at.file file) in
      let still : st.over ≡ false = sym h.at.over ∙ ap is_some ready.unended in
      let is : st ≡ there = λ i. record { done = st.done; above = st.above; file = none i; over = still i } in
      let was : PieceStands w known there sent [] = subst (λ s. PieceStands w known s sent []) is h in
      let s = shut_at w.walk.params lawful st.done st.above was.cut in
      let same = closing_same N w.walk.above.items st.above h.at.outers in
      let parts = parts_by N (nodes_of N st.done) in
      let whole = parts_whole N (nodes_of N st.done) in
      let open_made = made_at N there in
      record {
        place = s.place ∙ (λ i. after (place_at (sym is i)) (sym same i));
        cut = s.cut;
        may = subst (λ f. MayTake (place_at st) f) (sym same) (subst (λ x. MayTake (place_at x) (closing_at st.above)) (sym is) s.may);
        lays = record {
          parts = p;
          parts_are = refl;
          done = st.done;
          above = st.above;
          closed = refl;
          left = parts;
          made = [];
          all = append-nil parts;
          some = parts_some N (nodes_of N st.done);
          is_left = record {
            sizes = sizes ∙ ap (λ ns. map length (parts_by N ns)) h.at.nodes;
            count = count ∙ ap length (h.at.nodes ∙ sym whole);
            next = next;
            texts = tt;
          };
          packing = h.packing;
          of_made = λ item among. subst (λ l. Contains l item) (sym (made_shut N st.done st.above)) (Contains-append_left open_made (trees_of N st.done) item (was.of_made item among));
          at = was.at;
          cut = s.cut;
          texts = h.texts;
          order = subst (λ l. AllGainMore known [] l (all_items sent [] w.packing)) (sym (was.order.1 ∙ ap (λ f. was.order.0 ++ waiting_in f) file ∙ append-nil was.order.0) ∙ sym (append-nil open_made)) was.order.2;
          covered = subst (λ l. Each (λ item. IsCovered known (all_items sent [] w.packing) item) l) (sym (append-nil open_made)) (covered_whole known (all_items sent [] w.packing) w.walk.file open_made file was.covered);
        };
      }

  -- what became of the item
  pub closes : (took : Took) (new : PieceWork) → LaysOn known begun took new → TakesItem known (sealing_in w.walk.above.items) (closing_in w.walk.above.items) w took new
  closes (Took.All n listed) new lays = (
    lays.0,
    λ st sent h.
        let b = begins st sent h in
        let k = lays.1 (closed_dir st.done st.above) sent b.lays in
        (b.may, closed_dir st.done st.above, k.0, b.place, k.1, elim k.2 [ inl due ↦ inl due | inr over ↦ inr (last_there w.walk.version w.walk.above.items st.done st.above h.at.outers over.0, over.1, over.2) ]),
  )
  closes Took.TooLarge new lays = λ st sent h.
      let b = begins st sent h in
      let k = lays (closed_dir st.done st.above) sent b.lays in
      (b.may, closed_dir st.done st.above, k.0, b.place, b.cut, k.1, k.2)

-- at the end of all, where no pack was sealed, it can be taken back
pub ends_back : (w u new : PieceWork) (known : List Fact) (took : Took) → u.walk ≡ w.walk → u.packing ≡ w.packing → IsReady w → LeavesPacked Sealing.Last took new → EndsSteady known [] u took new → Reopens known w took new
ends_back w u new known (Took.All n (Some listed)) walk packing ready left steady = tt
ends_back w u new known Took.TooLarge walk packing ready left steady = tt
ends_back w u new known (Took.All n None) walk packing ready left steady =
    let grows = steady.packing.grows.0 in
    let items : new.packing.packer.writer.items ≡ w.packing.packer.writer.items ++ grows.0 = grows.1 ∙ ap (λ q. q.packer.writer.items ++ grows.0) packing in
    let before : w.packing.packer.writer.items ≡ [] = no_front w.packing.packer.writer.items grows.0 (sym items ∙ left.1.1) in
    room_stays w (reopened new) known (steady.params ∙ ap (λ x. x.params) walk) (steady.version ∙ ap (λ x. x.version) walk) (λ n above h. steady.outers n above (subst (λ x. AreOuterAt n x.above.items above) (sym walk) h)) (steady.nodes ∙ ap (λ x. x.nodes.items) walk)
    (steady.file ∙ ap (λ x. x.file) walk) (sym ready.unended) (λ sent h. steady.packing.packs sent (subst (λ q. IsPacking q known sent []) (sym packing) h)) (left.1.1 ∙ sym before)
