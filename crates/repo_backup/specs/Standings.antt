-- What is made of the items so far.
use Rattle.std.specs.Prelude.{◌≡◌, ◌++◌, ◌∷◌, [], ⊤, Bool, ℕ, List, length, map, cond, Option, Some, None}
use Rattle.repo_name.specs.declared.kinds.BlobKind.TheVariants.{Content}
use Rattle.repo_chunk.specs.Parameters.{Parameters}
use Rattle.repo_chunk.specs.Cuts.{AreFirstCuts, HasNoCut}
use Rattle.repo_pack.specs.PackLayout.{Item, item_of}
use Rattle.repo_tree.specs.Spelling.{dir_entry}
use Rattle.repo_tree.specs.declared.entries.Entry.{Entry}
use Rattle.repo_backup.specs.Folders.{Folder, nothing, file_then, dir_then, joined, entries_of, trees_of, blobs_below, IsCutBy}
use Rattle.repo_backup.specs.Items.{Feeding, FileSoFar, Place, place_of}

-- one folder behind another
abbrev pub both : Folder → Folder → Folder
both nothing more = more
both (file_then name chunks rest) more = file_then name chunks (both rest more)
both (dir_then name inside rest) more = dir_then name inside (both rest more)

-- a directory that was entered: its name, and what the directory around it has so far
pub record Around : Type 0 where
  pub name : List ℕ
  pub done : Folder

-- a file that is open: its name, its chunks so far, and the bytes behind them
pub record FileCut : Type 0 where
  pub name : List ℕ
  pub chunks : List (List ℕ)
  pub rest : List ℕ

-- where items lead, in chunks: what the open directory has so far, the directories that were entered and not left, the nearest first; the open file;
-- and whether the items ended
pub record Standing : Type 0 where
  pub done : Folder
  pub above : List Around
  pub file : Option FileCut
  pub over : Bool

-- ---- the place

abbrev pub path_of : List Around → List (List ℕ)
path_of [] = []
path_of (a ∷ above) = path_of above ++ a.name ∷ []

abbrev pub entries_at : Folder → List Around → List Entry
entries_at done [] = entries_of [] done
entries_at done (a ∷ above) = (entries_at a.done above ++ dir_entry (path_of above ++ a.name ∷ []) ∷ []) ++ entries_of (path_of above ++ a.name ∷ []) done

abbrev pub file_at : Option FileCut → Option FileSoFar
file_at None = None
file_at (Some f) = Some (record { name = f.name; bytes = joined f.chunks ++ f.rest })

abbrev pub place_at : Standing → Place
place_at st = record { entries = entries_at st.done st.above; path = path_of st.above; file = file_at st.file; over = st.over }

-- ---- the chunk rule

abbrev pub AreCutAround : Parameters → List Around → Type 0
AreCutAround params [] = ⊤
AreCutAround params (a ∷ above) = IsCutBy params a.done × AreCutAround params above

-- the chunks are those that the rule has ended
abbrev pub IsCutOpen : Parameters → Option FileCut → Type 0
IsCutOpen params None = ⊤
IsCutOpen params (Some f) = AreFirstCuts params (joined f.chunks ++ f.rest) (map length f.chunks) f.rest × HasNoCut params f.rest

pub record IsCutSoFar (params : Parameters) (st : Standing) : Type 0 where
  pub done : IsCutBy params st.done
  pub above : AreCutAround params st.above
  pub file : IsCutOpen params st.file

-- the items lead here, cut by these parameters
pub record LeadTo (params : Parameters) (items : Feeding) (st : Standing) : Type 0 where
  pub place : place_at st ≡ place_of items
  pub cut : IsCutSoFar params st

-- what is left of a file is its last chunk, if it isn't empty
abbrev pub last_chunk : List ℕ → List (List ℕ)
last_chunk [] = []
last_chunk (b ∷ bytes) = (b ∷ bytes) ∷ []

-- ---- what is made

-- some chunks as blobs
abbrev pub chunk_items : List (List ℕ) → List Item
chunk_items chunks = map (λ chunk. item_of Content chunk) chunks

-- by the version of a config, what was made in the open directory, and in those around it before
abbrev pub made_below : ℕ → Folder → List Around → List Item
made_below version done [] = blobs_below version done
made_below version done (a ∷ above) = made_below version a.done above ++ blobs_below version done

abbrev pub chunks_made : Option FileCut → List Item
chunks_made None = []
chunks_made (Some f) = chunk_items f.chunks

-- the blobs made so far: the chunks that the rule has ended, the last chunk of each closed file, the trees of closed directories, and at the end the root's
abbrev pub made_at : ℕ → Standing → List Item
made_at version st = (made_below version st.done st.above ++ chunks_made st.file) ++ cond st.over (trees_of version st.done) []
