-- Where a walk that is fed items stands.
use Rattle.std.specs.Prelude.{◌≡◌, ◌≢◌, ◌<◌, ◌≤◌, ◌+◌, ◌⊎◌, ◌++◌, ◌∷◌, [], ⊤, ℕ, false, List, length, map, take, Option, Some, None, is_some, true, Contains}
use Rattle.repo_name.specs.Limits.{blob_limit}
use Rattle.repo_name.specs.Naming as naming
use Rattle.repo_name.specs.declared.kinds.BlobKind.TheVariants.{Tree}
use Rattle.repo_name.specs.declared.names.Name.{Name}
use Rattle.repo_chunk.specs.Cuts.{IsCut}
use Rattle.repo_chunk.specs.Parameters.{Parameters}
use Rattle.repo_index.specs.declared.facts.Fact.{Fact}
use Rattle.repo_index.specs.declared.facts.PackFacts.{PackFacts}
use Rattle.repo_pack.specs.PackLayout.{item_of}
use Rattle.repo_pack.specs.PackLayout as layout
use Rattle.repo_pack.specs.PackWriting.{IsOpen}
use Rattle.repo_session.specs.Feeds.{Fed, fed_bytes, fed_close, fed_end}
use Rattle.repo_session.specs.Traces.{Each}
use Rattle.repo_tree.specs.PartWriting.{HasTexts, part_text, part_texts, root_text}
use Rattle.repo_tree.specs.Parts.{IsPartText}
use Rattle.repo_tree.specs.declared.nodes.Node.{Node}
use Rattle.repo_backup.specs.Folders.{Folder, nothing, joined, nodes_of, tree_items}
use Rattle.repo_backup.specs.Items.{after, MayTake, ItemFault, IsCountOf, fed_part, size_of}
use Rattle.repo_backup.specs.Packings.{IsPacking, IsCovered, IsSealedBy, IsListed, IsLeftOpen, GrowsBy, PacksOn, all_items}
use Rattle.repo_backup.specs.PartsMade.{parts_by, IsLeft, left_count, open_dir, closed_dir}
use Rattle.repo_backup.specs.Plans.{AreTreeTextsBelow}
use Rattle.repo_backup.specs.Standings.{Around, FileCut, Standing, place_at, IsCutSoFar, chunk_items, made_at}
use Rattle.repo_backup.specs.Waiting.{TakesMore, AllGainMore, PacksAll}
use Rattle.repo_backup.specs.declared.packing.Packing.{Packing}
use Rattle.repo_backup.specs.declared.packing.Sealing.{Sealing}
use Rattle.repo_backup.specs.declared.items.FeedError.{FeedError}
use Rattle.repo_backup.specs.declared.items.Item.{Item}
use Rattle.repo_backup.specs.declared.pieces.PieceFile.{PieceFile}
use Rattle.repo_backup.specs.declared.pieces.Scanned.{Scanned}
use Rattle.repo_backup.specs.declared.pieces.PieceWalk.{PieceWalk}
use Rattle.repo_backup.specs.declared.piece_works.PieceWork.{PieceWork}
use Rattle.repo_backup.specs.declared.piece_works.Took.{Took}
use Rattle.repo_backup.specs.declared.pieces.Outer.{Outer}
use Rattle.repo_backup.specs.declared.parts.PartsLeft.{PartsLeft}
use Rattle.repo_backup.specs.declared.packing.Packed.{Packed}

-- ---- where the walk stands

-- the open file: its name and size, its chunks, of which some have names and those behind them wait, the bytes behind them, and the parameters of its chunks
pub record IsPieceAt (params : Parameters) (f : PieceFile) (o : FileCut) : Type 0 where
  pub name : f.name ≡ o.name
  pub size : f.size ≡ length (joined o.chunks ++ o.rest)
  pub named : List (List ℕ)
  pub chunks : o.chunks ≡ named ++ f.ended
  pub content : f.content.items ≡ map naming.name named
  pub rest : f.rest.items ≡ o.rest
  pub by : f.params ≡ params

abbrev pub IsFileAt : Parameters → Option PieceFile → Option FileCut → Type 0
IsFileAt params None None = ⊤
IsFileAt params None (Some o) = ⊥
IsFileAt params (Some f) None = ⊥
IsFileAt params (Some f) (Some o) = IsPieceAt params f o

-- by the version of the config, the directories around the open one, the nearest last: the nodes made, and the name of the one entered
abbrev pub AreOuterAt : ℕ → List Outer → List Around → Type 0
AreOuterAt version outers [] = outers ≡ []
AreOuterAt version outers (a ∷ above) = (before : List Outer) × (outer : Outer) × (outers ≡ before ++ outer ∷ []) × (outer.name ≡ a.name) × (outer.nodes.items ≡ nodes_of version a.done) × AreOuterAt version before above

-- the root's tree, once all ended
abbrev pub IsRootAt : ℕ → Option Name → Folder → Type 0
IsRootAt version None done = ⊤
IsRootAt version (Some root) done = (root ≡ naming.name (root_text version (nodes_of version done))) × HasTexts version (nodes_of version done)

-- the walk stands here
pub record IsAt (w : PieceWalk) (st : Standing) : Type 0 where
  pub outers : AreOuterAt w.version w.above.items st.above
  pub nodes : w.nodes.items ≡ nodes_of w.version st.done
  pub file : IsFileAt w.params w.file st.file
  pub over : is_some w.root ≡ st.over
  pub root : IsRootAt w.version w.root st.done

-- ---- what a piece came to

-- the piece was taken, and the chunk goes on; or the chunk ended after so many of its bytes, which are the chunk's end
abbrev pub ScansOn : List ℕ → PieceFile → Scanned → PieceFile → Type 0
ScansOn piece old Scanned.More new = (new.rest.items ≡ old.rest.items ++ piece) × (new.size ≡ old.size + length piece)
ScansOn piece old (Scanned.Chunk n chunk) new = (1 ≤ n) × (n ≤ length piece) × (chunk.items ≡ old.rest.items ++ take n piece) × IsCut old.params (old.rest.items ++ piece) (length old.rest.items + n)
    × (new.rest.items ≡ []) × (new.size ≡ old.size + n)

-- these bytes, or those that the file has behind its chunks
abbrev pub first_rest : Option (List ℕ) → PieceFile → List ℕ
first_rest None f = f.rest.items
first_rest (Some rest) f = rest

-- these chunks, or those of the file that wait to be named
abbrev pub first_ended : Option (List (List ℕ)) → PieceFile → List (List ℕ)
first_ended None f = f.ended
first_ended (Some ended) f = ended

-- a chunk ended where the file's bytes end, and none waits for a name
abbrev pub HasNoRest : Option PieceFile → Type 0
HasNoRest None = ⊥
HasNoRest (Some f) = (f.rest.items ≡ []) × (f.ended ≡ [])

-- the chunks of the open file that ended and wait to be named, as blobs
abbrev pub waiting_in : Option PieceFile → List layout.Item
waiting_in None = []
waiting_in (Some f) = chunk_items f.ended

-- with those that wait the open pack still takes more
abbrev pub HasRoom : Option PieceFile → Packing → Type 0
HasRoom None p = IsOpen p.packer.writer
HasRoom (Some f) p = TakesMore p.packer.writer f.ended

-- ---- the work

-- the directories that were closed have texts
abbrev pub AreTextsAround : ℕ → List Around → Type 0
AreTextsAround version [] = ⊤
AreTextsAround version (a ∷ above) = AreTreeTextsBelow version a.done × AreTextsAround version above

-- a blob is known, or one of these; or it is a chunk that waits to be named
abbrev pub IsCoveredSoFar : List Fact → List layout.Item → Option PieceFile → layout.Item → Type 0
IsCoveredSoFar known items file item = IsCovered known items item ⊎ Contains (waiting_in file) item

-- of the blobs made all but the chunks that wait were packed, one after another
abbrev pub ArePackedSoFar : List Fact → List layout.Item → Option PieceFile → List layout.Item → Type 0
ArePackedSoFar known made file items = (first : List layout.Item) × (made ≡ first ++ waiting_in file) × AllGainMore known [] first items

-- the work stands here: the packs as they are known; all their blobs were made, and are in them in that order; and each blob made so far is known or in them, but for the chunks that wait
pub record PieceStands (w : PieceWork) (known : List Fact) (st : Standing) (sent sealed : List layout.Item) : Type 0 where
  pub packing : IsPacking w.packing known sent sealed
  pub of_made : (item : layout.Item) → Contains (all_items sent sealed w.packing) item → Contains (made_at w.walk.version st) item
  pub at : IsAt w.walk st
  pub cut : IsCutSoFar w.walk.params st
  pub texts : AreTreeTextsBelow w.walk.version st.done × AreTextsAround w.walk.version st.above
  pub order : ArePackedSoFar known (made_at w.walk.version st) w.walk.file (all_items sent sealed w.packing)
  pub covered : Each (λ item. IsCoveredSoFar known (all_items sent sealed w.packing) w.walk.file item) (made_at w.walk.version st)

-- the work makes the parts of the directory that was closed here, some of which are left: the packs as they are known; all their blobs were made, and are in them in that order; and each blob made
-- before, and of the parts made so far, is known or in them
pub record PieceLays (w : PieceWork) (known : List Fact) (st : Standing) (sent sealed : List layout.Item) : Type 0 where
  pub parts : PartsLeft
  pub parts_are : w.parts ≡ Some parts
  pub done : Folder
  pub above : List Around
  pub closed : st ≡ closed_dir done above
  pub left : List (List Node)
  pub made : List (List Node)
  pub all : left ++ made ≡ parts_by w.walk.version (nodes_of w.walk.version done)
  pub some : left ≢ []
  pub is_left : IsLeft parts left made
  pub packing : IsPacking w.packing known sent sealed
  pub of_made : (item : layout.Item) → Contains (all_items sent sealed w.packing) item → Contains (made_at w.walk.version st) item
  pub at : IsAt w.walk (open_dir done above)
  pub cut : IsCutSoFar w.walk.params st
  pub texts : AreTreeTextsBelow w.walk.version done × AreTextsAround w.walk.version above
  pub order : AllGainMore known [] (made_at w.walk.version (open_dir done above) ++ tree_items (part_texts made)) (all_items sent sealed w.packing)
  pub covered : Each (λ item. IsCovered known (all_items sent sealed w.packing) item) (made_at w.walk.version (open_dir done above) ++ tree_items (part_texts made))

-- it stands there, and no part of a directory is left to be made; or it makes the parts of the directory that was closed there
abbrev pub WorkStands : PieceWork → List Fact → Standing → List layout.Item → List layout.Item → Type 0
WorkStands w known st sent sealed = ((w.parts ≡ None) × PieceStands w known st sent sealed) ⊎ PieceLays w known st sent sealed

-- nothing was fed
abbrev pub at_beginning : Standing
at_beginning = record { done = nothing; above = []; file = None; over = false }

-- it may be fed: no pack is sealed, the open one takes more, also with the chunks that wait, no part of a directory is left to be made, and not all ended
pub record IsReady (w : PieceWork) : Type 0 where
  pub unsealed : w.packing.packer.sealed ≡ None
  pub unlaid : w.parts ≡ None
  pub opened : HasRoom w.walk.file w.packing
  pub unended : w.walk.root ≡ None

-- no pack was sealed, or it was just due; or no more blob comes, no part of a directory is left to be made, and it was open before its last blob
abbrev pub IsSealedAs : Sealing → ℕ → List layout.Item → PieceWork → Type 0
IsSealedAs sealing target sealed new = IsSealedBy Sealing.Due target sealed ⊎ ((sealing ≡ Sealing.Last) × (new.parts ≡ None) × IsSealedBy Sealing.Last target sealed)

-- wherever it stood, the item may be taken, and it stands one item further; a pack may be sealed, and then some parts of a directory may be left to be made
abbrev pub Goes : List Fact → Sealing → Fed → PieceWork → PieceWork → Type 0
Goes known sealing item old new = (st : Standing) (sent : List layout.Item) → PieceStands old known st sent []
    → MayTake (place_at st) item × (now : Standing) × (sealed : List layout.Item) × (place_at now ≡ after (place_at st) item) × WorkStands new known now sent sealed
    × IsSealedAs sealing old.packing.packer.writer.target sealed new

-- wherever it stood, the item may be taken, and of it a tree is made whose text is too large
abbrev pub EndsTooLarge : List Fact → Fed → PieceWork → Type 0
EndsTooLarge known item old = (st : Standing) (sent : List layout.Item) → PieceStands old known st sent []
    → MayTake (place_at st) item × (now : Standing) × (text : List ℕ) × (place_at now ≡ after (place_at st) item) × IsCutSoFar old.walk.params now
    × Contains (made_at old.walk.version now) (item_of Tree text) × (blob_limit < length text)

-- wherever it stood, this is the item's first fault
abbrev pub Refuses : List Fact → Fed → PieceWork → FeedError → Type 0
Refuses known item old e = (st : Standing) (sent : List layout.Item) → PieceStands old known st sent [] → ItemFault (place_at st) item e

-- the file is as it was
abbrev pub IsSameFile : PieceFile → PieceFile → Type 0
IsSameFile f g = (g.name ≡ f.name) × (g.size ≡ f.size) × (g.content.items ≡ f.content.items) × (g.rest.items ≡ f.rest.items) × (g.params ≡ f.params) × (g.ended ≡ f.ended)

-- a work with this open file and these packs
abbrev pub with_file : PieceWork → PieceFile → Packing → PieceWork
with_file w f p = record w { walk = record w.walk { file = Some f }; packing = p }

-- these chunks, which waited, were named and made blobs; a pack may be sealed
pub record NamesAll (known : List Fact) (chunks : List (List ℕ)) (f : PieceFile) (p : Packing) (listed : Option PackFacts) (g : PieceFile) (q : Packing) : Type 0 where
  pub ended : g.ended ≡ []
  pub content : g.content.items ≡ f.content.items ++ map naming.name chunks
  pub lists : IsListed listed q
  pub grows : listed ≡ None → GrowsBy p q
  pub packs : PacksAll known Sealing.Due (chunk_items chunks) p q

-- a chunk that ended waits behind the others; or it and the others were named
abbrev pub EndsChunk : List Fact → List ℕ → PieceFile → Packing → Option (List (List ℕ)) → Option PackFacts → PieceFile → Packing → Type 0
EndsChunk known chunk f p None listed g q = (listed ≡ None) × (g.ended ≡ f.ended ++ chunk ∷ []) × (g.content.items ≡ f.content.items) × (q ≡ p)
EndsChunk known chunk f p (Some named) listed g q = (named ≡ f.ended ++ chunk ∷ []) × NamesAll known named f p listed g q

-- what was taken of a piece: all of it, and the chunk goes on; or so many of its bytes, at which this chunk ended
abbrev pub Bites : List Fact → List ℕ → PieceFile → Packing → ℕ → Option (List ℕ) → Option (List (List ℕ)) → Option PackFacts → PieceFile → Packing → Type 0
Bites known piece f p n None named listed g q = (n ≡ length piece) × (named ≡ None) × (listed ≡ None) × (g.rest.items ≡ f.rest.items ++ piece) × (g.content.items ≡ f.content.items) × (g.ended ≡ f.ended) × (q ≡ p)
Bites known piece f p n (Some chunk) named listed g q = (chunk ≡ f.rest.items ++ take n piece) × IsCut f.params (f.rest.items ++ piece) (length f.rest.items + n) × (g.rest.items ≡ []) × EndsChunk known chunk f p named listed g q

-- what became of a piece: so many of its bytes were taken, at least one, where there are some; fewer than all only where a pack was sealed, and then a chunk ended there
abbrev pub TakesBytes : List Fact → List ℕ → PieceWork → Took → PieceWork → Type 0
TakesBytes known piece old (Took.All n listed) new = (n ≤ length piece) × (1 ≤ length piece → 1 ≤ n) × (listed ≡ None → n ≡ length piece) × (listed ≢ None → HasNoRest new.walk.file)
    × Goes known Sealing.Due (fed_bytes (take n piece)) old new
TakesBytes known piece old Took.TooLarge new = ⊥

-- what became of another item
abbrev pub TakesItem : List Fact → Sealing → Fed → PieceWork → Took → PieceWork → Type 0
TakesItem known sealing item old (Took.All n listed) new = (n ≡ 0) × Goes known sealing item old new
TakesItem known sealing item old Took.TooLarge new = EndsTooLarge known item old

-- how the packs stand then; where none was sealed, no part of a directory is left to be made
abbrev pub LeavesPacked : Sealing → Took → PieceWork → Type 0
LeavesPacked sealing (Took.All n listed) new = IsListed listed new.packing × IsLeftOpen sealing listed new.packing × (listed ≡ None → new.parts ≡ None)
LeavesPacked sealing Took.TooLarge new = ⊤

-- and then there is room for more
abbrev pub LeavesRoom : Took → PieceWork → Type 0
LeavesRoom (Took.All n listed) new = HasRoom new.walk.file new.packing
LeavesRoom Took.TooLarge new = ⊤

-- wherever it stood, it stands
abbrev pub Stays : List Fact → PieceWork → PieceWork → Type 0
Stays known old new = (st : Standing) (sent : List layout.Item) → PieceStands old known st sent [] → PieceStands new known st sent []

-- a work whose end is taken back
abbrev pub reopened : PieceWork → PieceWork
reopened w = record w { walk = record w.walk { root = None } }

-- where no pack was sealed at the end, the end can be taken back
abbrev pub Reopens : List Fact → PieceWork → Took → PieceWork → Type 0
Reopens known old (Took.All n None) new = Stays known old (reopened new)
Reopens known old (Took.All n (Some listed)) new = ⊤
Reopens known old Took.TooLarge new = ⊤

-- ---- the parts of a directory

-- how the last part that is left is sealed in: as no more blob comes, where it is the first one of the root
abbrev pub sealing_in : List Outer → Sealing
sealing_in [] = Sealing.Last
sealing_in (outer ∷ outers) = Sealing.Due

-- the item by which the open directory is closed: the end of all, where it is the root
abbrev pub closing_in : List Outer → Fed
closing_in [] = fed_end
closing_in (outer ∷ outers) = fed_close

-- a part of these nodes, which goes on so, was made a blob and packed; or its text is too large
abbrev pub PacksPart : List Fact → Sealing → List Node → Option Name → Packing → Option Packed → Packing → Type 0
PacksPart known sealing nodes next old None new = blob_limit < length (part_text nodes next)
PacksPart known sealing nodes next old (Some packed) new = IsPartText (part_text nodes next) nodes next × (packed.name ≡ naming.name (part_text nodes next)) × PacksOn known sealing (item_of Tree (part_text nodes next)) old new

-- how the packs stand then
abbrev pub LeavesPart : Sealing → Packing → Option Packed → Packing → Type 0
LeavesPart sealing old None new = ⊤
LeavesPart sealing old (Some packed) new = IsListed packed.listed new × IsLeftOpen sealing packed.listed new × (packed.listed ≡ None → GrowsBy old new) × (packed.listed ≢ None → new.packer.writer.items ≡ [])

-- where the work makes parts, it makes some more; a pack may be sealed, which is just due, or was open before its last blob, as all ended and no part is left
abbrev pub LaysOn : List Fact → PieceWork → Took → PieceWork → Type 0
LaysOn known old (Took.All n listed) new = (n ≡ 0) × ((st : Standing) (sent : List layout.Item) → PieceLays old known st sent []
    → (sealed : List layout.Item) × WorkStands new known st sent sealed × (IsSealedBy Sealing.Due old.packing.packer.writer.target sealed ⊎ ((st.over ≡ true) × (new.parts ≡ None) × IsSealedBy Sealing.Last old.packing.packer.writer.target sealed)))
LaysOn known old Took.TooLarge new = (st : Standing) (sent : List layout.Item) → PieceLays old known st sent []
    → (text : List ℕ) × Contains (made_at old.walk.version st) (item_of Tree text) × (blob_limit < length text)

-- where it made parts, it still does
abbrev pub LaysStill : List Fact → PieceWork → PieceWork → Type 0
LaysStill known old new = (st : Standing) (sent : List layout.Item) → PieceLays old known st sent [] → PieceLays new known st sent []

-- no pack was sealed, and the open one takes more, and may have more
pub record IsStill (known : List Fact) (old new : Packing) : Type 0 where
  pub packs : (sent : List layout.Item) → IsPacking old known sent [] → IsPacking new known sent []
  pub grows : GrowsBy old new
  pub unsealed : new.packer.sealed ≡ None
  pub opened : IsOpen new.packer.writer

-- so it is, and the walk is as it was, but for how much room there is, and for the root's tree
pub record IsSteady (known : List Fact) (old new : PieceWork) : Type 0 where
  pub params : new.walk.params ≡ old.walk.params
  pub version : new.walk.version ≡ old.walk.version
  pub outers : (version : ℕ) (above : List Around) → AreOuterAt version old.walk.above.items above → AreOuterAt version new.walk.above.items above
  pub nodes : new.walk.nodes.items ≡ old.walk.nodes.items
  pub file : new.walk.file ≡ old.walk.file
  pub packing : IsStill known old.packing new.packing

-- where a later part was made, one is less left; or a pack was sealed, and the open one is empty
abbrev pub LeavesLater : List Fact → PieceWork → Took → PieceWork → Type 0
LeavesLater known old (Took.All n None) new = (left_count new.parts + 1 ≡ left_count old.parts) × IsStill known old.packing new.packing
LeavesLater known old (Took.All n (Some listed)) new = IsListed (Some listed) new.packing × IsOpen new.packing.packer.writer × (new.packing.packer.writer.items ≡ [])
LeavesLater known old Took.TooLarge new = ⊤

-- so it stands where the root was closed, and no pack was sealed
abbrev pub EndsSteady : List Fact → List Outer → PieceWork → Took → PieceWork → Type 0
EndsSteady known [] old (Took.All n None) new = IsSteady known old new
EndsSteady known outers old took new = ⊤

-- ---- any item

-- at the end of all no more blob comes
abbrev pub sealing_at : Item → Sealing
sealing_at Item.End = Sealing.Last
sealing_at item = Sealing.Due

-- what became of an item: of a piece so many bytes were taken, fewer than all only where a pack was sealed
abbrev pub WorkTakes : List Fact → Item → PieceWork → Took → PieceWork → Type 0
WorkTakes known item old (Took.All n listed) new = IsCountOf n item × (n < size_of item → listed ≢ None) × Goes known (sealing_at item) (fed_part n item) old new
WorkTakes known item old Took.TooLarge new = (size_of item ≡ 0) × EndsTooLarge known (fed_part 0 item) old

-- where it is the end of all, and no pack was sealed, it can be taken back
abbrev pub ReopensAt : List Fact → Item → PieceWork → Took → PieceWork → Type 0
ReopensAt known Item.End old took new = Reopens known old took new
ReopensAt known item old took new = ⊤
