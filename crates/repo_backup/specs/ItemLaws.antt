-- What holds of the items that a backup is fed.
use Rattle.std.specs.Prelude.{◌≡◌, ◌≢◌, ◌++◌, ◌∷◌, [], ℕ, true, List, Contains, codes}
use Rattle.repo_chunk.specs.Parameters.{Parameters, AreLawful}
use Rattle.repo_pack.specs.PackLayout.{Item}
use Rattle.repo_tree.specs.Spelling.{file_entry}
use Rattle.repo_tree.specs.declared.entries.Entry.{Entry}
use Rattle.repo_backup.specs.Folders.{Folder, nothing, file_then, dir_then, joined, entries_of, blobs_of, IsFolderOf}
use Rattle.repo_backup.specs.Handed.{AreHanded}
use Rattle.repo_session.specs.Feeds.{fed_abandon, Fed, fed_dir, fed_file, fed_bytes, fed_close, fed_end}
use Rattle.repo_backup.specs.Items.{Feeding, MayTake, AreTaken, ItemFault, Place, place_of, spelled_by}
use Rattle.repo_backup.specs.Standings.{Standing, LeadTo, made_at}
use Rattle.repo_backup.specs.declared.items.FeedError.{FeedError}
use Rattle.repo_backup.specs.declared.items.FeedError.TheVariants as fault

-- ---- a whole folder as items

-- some pieces of a file
abbrev pub fed_pieces : List (List ℕ) → Feeding → Feeding
fed_pieces [] items = items
fed_pieces (piece ∷ pieces) items = fed_pieces pieces (fed_bytes piece ∷ items)

-- behind old items these feed what a directory holds, each file cut into any pieces
abbrev pub FeedFolder : Folder → Feeding → Feeding → Type 0
FeedFolder nothing old new = new ≡ old
FeedFolder (file_then name chunks rest) old new = (pieces : List (List ℕ)) × (joined pieces ≡ joined chunks) × FeedFolder rest (fed_close ∷ fed_pieces pieces (fed_file name ∷ old)) new
FeedFolder (dir_then name inside rest) old new = (mid : Feeding) × FeedFolder inside (fed_dir name ∷ old) mid × FeedFolder rest (fed_close ∷ mid) new

-- ---- the laws

-- what items spell that may be taken may be handed in
abbrev pub SpelledAreHanded : Type 0
SpelledAreHanded = (items : Feeding) → AreTaken items → AreHanded (spelled_by items)

-- entries that may be handed in are spelled by the items that feed their folder, however its files are cut into pieces, and each of these items may be taken
abbrev pub WholeIsSpelled : Type 0
WholeIsSpelled = (entries : List Entry) (folder : Folder) (items : Feeding) → AreHanded entries → entries_of [] folder ≡ entries → FeedFolder folder [] items
    → AreTaken (fed_end ∷ items) × (spelled_by (fed_end ∷ items) ≡ entries)

-- items that may be taken lead somewhere
abbrev pub ItemsLead : Type 0
ItemsLead = (params : Parameters) (items : Feeding) → AreLawful params → AreTaken items → (st : Standing) × LeadTo params items st

-- what was made of some items was made of any more, too
abbrev pub MadeGrows : Type 0
MadeGrows = (params : Parameters) (version : ℕ) (more items : Feeding) (st : Standing) → AreLawful params → AreTaken (more ++ items) → LeadTo params items st
    → (now : Standing) × LeadTo params (more ++ items) now × ((blob : Item) → Contains (made_at version st) blob → Contains (made_at version now) blob)

-- behind the end no item may be taken
abbrev pub EndIsLast : Type 0
EndIsLast = (more items : Feeding) → AreTaken (more ++ items) → (place_of items).over ≡ true → more ≡ []

-- where somebody gave up no item may be taken
abbrev pub GivingUpIsLast : Type 0
GivingUpIsLast = (more items : Feeding) → AreTaken (more ++ fed_abandon ∷ items) → more ≡ []

-- at the end it is what is made of the entries
abbrev pub MadeOfAll : Type 0
MadeOfAll = (params : Parameters) (version : ℕ) (items : Feeding) (st : Standing) → AreTaken (fed_end ∷ items) → LeadTo params (fed_end ∷ items) st
    → IsFolderOf params (spelled_by (fed_end ∷ items)) st.done × (made_at version st ≡ blobs_of version st.done)

-- an item that has a fault may not be taken
abbrev pub FaultsForbid : Type 0
FaultsForbid = (p : Place) (item : Fed) (e : FeedError) → e ≢ fault.Memory → ItemFault p item e → ¬ MayTake p item

-- ---- an example

-- a file `x` of the bytes `a` and `bc`, which is closed
abbrev pub fed_x : Feeding
fed_x = fed_close ∷ fed_bytes (codes "bc") ∷ fed_bytes (codes "a") ∷ fed_file (codes "x") ∷ []

-- it may be taken, and spells that file; then neither a file `a` may begin, nor another `x`; but the items may end
pub record ExampleIsSpelled : Type 0 where
  pub taken : AreTaken (fed_end ∷ fed_x)
  pub spelled : spelled_by (fed_end ∷ fed_x) ≡ file_entry ((codes "x") ∷ []) (codes "abc") ∷ []
  pub below : ItemFault (place_of fed_x) (fed_file (codes "a")) fault.Order
  pub again : ItemFault (place_of fed_x) (fed_file (codes "x")) fault.Order
  pub unclosed : ItemFault (place_of (fed_file (codes "x") ∷ [])) fed_end fault.Order
