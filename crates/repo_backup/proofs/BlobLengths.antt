-- No blob that was made is too large for one.
use Rattle.std.proofs.Common.{arith, ◌≡◌, ◌≤◌, ◌++◌, ◌∷◌, [], ℕ, zero, suc, Bool, cond, List, length, map, drop, Option, Some, None, is_some, sym, subst, inl, inr, Contains}
use Rattle.std.proofs.lemmas.List.{map-append}
use Rattle.std.proofs.lemmas.List.Elements.{Contains-append_cases}
use Rattle.repo_chunk.specs.Cuts.{AreCuts, AreFirstCuts}
use Rattle.repo_chunk.specs.Parameters.{Parameters, AreLawful}
use Rattle.repo_chunk.proofs.CutLaws.{uncut_is_short}
use Rattle.repo_name.proofs.Containing.{none_contained, contained_or}
use Rattle.repo_name.specs.Limits.{blob_limit}
use Rattle.repo_name.specs.declared.kinds.BlobKind.TheVariants.{Content, Tree}
use Rattle.repo_name.specs.declared.names.Name.{Name}
use Rattle.repo_index.specs.declared.facts.Fact.{Fact}
use Rattle.repo_pack.specs.PackLayout.{Item, item_of}
use Rattle.repo_tree.specs.PartWriting.{HasTexts, ArePartTexts, first_text, part_texts, parts_of}
use Rattle.repo_tree.specs.declared.nodes.Node.{Node}
use Rattle.repo_backup.specs.Folders.{Folder, joined, nothing, file_then, dir_then, nodes_of, tree_items, trees_of, blobs_below, IsCutBy}
use Rattle.repo_backup.specs.Pieces.{AreTextsAround, IsRootAt, PieceStands}
use Rattle.repo_backup.specs.Plans.{AreTreeTextsBelow}
use Rattle.repo_backup.specs.Standings.{Around, FileCut, Standing, AreCutAround, IsCutOpen, chunk_items, chunks_made, made_below, made_at}
use Rattle.repo_backup.specs.declared.piece_works.PieceWork.{PieceWork}

-- none of these blobs is too large for one
abbrev pub AreShort : List Item → Type 0
AreShort items = (item : Item) → Contains items item → length item.bytes ≤ blob_limit

-- no blob is
none_short : AreShort []
none_short item among = absurd (none_contained item among)

-- one blob more
short_then : (first : Item) (items : List Item) → length first.bytes ≤ blob_limit → AreShort items → AreShort (first ∷ items)
short_then first items short more item among = elim (contained_or first items item among) [
  | inl same ↦ subst (λ (i : Item). length i.bytes ≤ blob_limit) same short
  | inr later ↦ more item later
]

-- some blobs, and then others
short_both : (items others : List Item) → AreShort items → AreShort others → AreShort (items ++ others)
short_both items others short more item among = elim (Contains-append_cases items others item among) [
  | inl before ↦ short item before
  | inr behind ↦ more item behind
]

-- ---- chunks

module _ (params : Parameters) (lawful : AreLawful params) where
  -- a chunk that is cut is no longer than the greatest one
  chunk_short : (chunk : List ℕ) → length chunk ≤ params.max → length (item_of Content chunk).bytes ≤ blob_limit
  chunk_short chunk short = omega (arith, short, lawful.greatest)

  -- those of a file that ended
  cuts_short : (bytes : List ℕ) (chunks : List (List ℕ)) → AreCuts params bytes (map length chunks) → AreShort (chunk_items chunks)
  cuts_short bytes [] cuts = none_short
  cuts_short bytes (chunk ∷ chunks) (inl (cut, rest)) = short_then (item_of Content chunk) (chunk_items chunks) (chunk_short chunk cut.ends.greatest) (cuts_short (drop (length chunk) bytes) chunks rest)
  cuts_short bytes (chunk ∷ []) (inr last) =
      let short = uncut_is_short params bytes lawful last.0 in
      let long : length chunk ≡ length bytes = last.2 in
      short_then (item_of Content chunk) [] (chunk_short chunk (omega (arith, short, long))) none_short
  cuts_short bytes (chunk ∷ second ∷ chunks) (inr last) = let never : ⊥ = cc (last.3) in absurd never

  -- the first ones of an open file
  first_cuts_short : (bytes rest : List ℕ) (chunks : List (List ℕ)) → AreFirstCuts params bytes (map length chunks) rest → AreShort (chunk_items chunks)
  first_cuts_short bytes rest [] cuts = none_short
  first_cuts_short bytes rest (chunk ∷ chunks) cuts =
      short_then (item_of Content chunk) (chunk_items chunks) (chunk_short chunk cut_short) (first_cuts_short (drop (length chunk) bytes) rest chunks cuts.1)
    where
      cut_short : length chunk ≤ params.max
      cut_short = cuts.0.ends.greatest

  -- those of the open file, if one is open
  open_short : (file : Option FileCut) → IsCutOpen params file → AreShort (chunks_made file)
  open_short None cut = none_short
  open_short (Some f) cut = first_cuts_short (joined f.chunks ++ f.rest) f.rest f.chunks cut.0

-- ---- trees

-- those of parts
parts_short : (parts : List (List Node)) → ArePartTexts parts → AreShort (tree_items (part_texts parts))
parts_short [] texts = none_short
parts_short (part ∷ []) texts = short_then (item_of Tree (first_text (part ∷ []))) [] texts.json.short none_short
parts_short (part ∷ second ∷ more) texts =
    let text = first_text (part ∷ second ∷ more) in
    let later = part_texts (second ∷ more) in
    let both : tree_items (later ++ text ∷ []) ≡ tree_items later ++ item_of Tree text ∷ [] = map-append (λ t. item_of Tree t) later (text ∷ []) in
    subst AreShort (sym both) (short_both (tree_items later) (item_of Tree text ∷ []) (parts_short (second ∷ more) texts.1) (short_then (item_of Tree text) [] texts.0.json.short none_short))

-- those of a directory that has texts
trees_short : (version : ℕ) (folder : Folder) → HasTexts version (nodes_of version folder) → AreShort (trees_of version folder)
trees_short zero folder texts = short_then _ [] texts.json.short none_short
trees_short (suc zero) folder texts = short_then _ [] texts.json.short none_short
trees_short (suc (suc zero)) folder texts = parts_short (parts_of (nodes_of 2 folder)) texts
trees_short (suc (suc (suc version))) folder texts = short_then _ [] texts.json.short none_short

-- ---- all that was made

module _ (version : ℕ) (params : Parameters) (lawful : AreLawful params) where
  -- the blobs of what a directory holds
  below_short : (folder : Folder) → IsCutBy params folder → AreTreeTextsBelow version folder → AreShort (blobs_below version folder)
  below_short nothing cut texts = none_short
  below_short (file_then name chunks rest) cut texts = short_both (chunk_items chunks) (blobs_below version rest) (cuts_short params lawful (joined chunks) chunks cut.0) (below_short rest cut.1 texts)
  below_short (dir_then name inside rest) cut texts =
      short_both (blobs_below version inside ++ trees_of version inside) (blobs_below version rest)
      (short_both (blobs_below version inside) (trees_of version inside) (below_short inside cut.0 texts.1) (trees_short version inside texts.0)) (below_short rest cut.1 texts.2)

  -- those of the open directory, and of the ones around it
  around_short : (done : Folder) (above : List Around) → IsCutBy params done → AreCutAround params above → AreTreeTextsBelow version done → AreTextsAround version above → AreShort (made_below version done above)
  around_short done [] cut cuts texts more = below_short done cut texts
  around_short done (a ∷ above) cut cuts texts more =
      short_both (made_below version a.done above) (blobs_below version done) (around_short a.done above cuts.0 cuts.1 more.0 more.1) (below_short done cut texts)

  -- those of the root, once all ended
  root_short : (done : Folder) (root : Option Name) (over : Bool) → is_some root ≡ over → IsRootAt version root done → AreShort (cond over (trees_of version done) [])
  root_short done None over is at = subst (λ o. AreShort (cond o (trees_of version done) [])) is none_short
  root_short done (Some root) over is at = subst (λ o. AreShort (cond o (trees_of version done) [])) is (trees_short version done at.1)

-- where the work stands, by parameters that a repository may have, no blob that was made is too large for one
pub made_short : (w : PieceWork) (known : List Fact) (st : Standing) (sent sealed : List Item) → AreLawful w.walk.params → PieceStands w known st sent sealed → AreShort (made_at w.walk.version st)
made_short w known st sent sealed lawful h =
    let version = w.walk.version in
    let below = made_below version st.done st.above in
    let chunks = chunks_made st.file in
    short_both (below ++ chunks) (cond st.over (trees_of version st.done) [])
    (short_both below chunks (around_short version w.walk.params lawful st.done st.above h.cut.done h.cut.above h.texts.0 h.texts.1) (open_short w.walk.params lawful st.file h.cut.file))
    (root_short version w.walk.params lawful st.done w.walk.root st.over h.at.over h.at.root)
