-- What is in the room into which a source reads.
use Rattle.std.specs.Prelude.{◌≡◌, ◌≢◌, ◌≤◌, ◌<◌, ◌+◌, ◌*◌, [], ⊤, ℕ, List, length, Option, Some, None}
use Rattle.repo_session.specs.Feeds.{fed_dir, fed_file, fed_bytes, fed_close, fed_end}
use Rattle.repo_backup.specs.Items.{fed_of, size_of}
use Rattle.repo_backup.specs.declared.items.Item.{Item}
use Rattle.repo_feeding.specs.Sources.{Told, Comes, count_in}
use Rattle.repo_feeding.specs.declared.sources.Found.{Found}

-- what was found, of this name, comes from the source: some bytes are in the room then, and else it is empty
abbrev pub Fills : List ℕ → Option Told → List ℕ → Option Told → Found → Type 0
Fills name old rest new (Found.Bytes count) = (rest ≢ []) × Comes old (Some (fed_bytes rest)) new
Fills name old rest new Found.Dir = (rest ≡ []) × Comes old (Some (fed_dir name)) new
Fills name old rest new Found.File = (rest ≡ []) × Comes old (Some (fed_file name)) new
Fills name old rest new Found.Close = (rest ≡ []) × Comes old (Some fed_close) new
Fills name old rest new Found.End = (rest ≡ []) × Comes old (Some fed_end) new

-- this item was found, of this name, and bytes were where there is none
abbrev pub IsItemOf : List ℕ → Found → Option Item → Type 0
IsItemOf name (Found.Bytes count) item = item ≡ None
IsItemOf name found None = ⊥
IsItemOf name Found.Dir (Some item) = (size_of item ≡ 0) × (fed_of item ≡ fed_dir name)
IsItemOf name Found.File (Some item) = (size_of item ≡ 0) × (fed_of item ≡ fed_file name)
IsItemOf name Found.Close (Some item) = (size_of item ≡ 0) × (fed_of item ≡ fed_close)
IsItemOf name Found.End (Some item) = (size_of item ≡ 0) × (fed_of item ≡ fed_end)

-- if it is known what is to come, less of it is left, bytes that wait counted in: an item or a byte at least. What is to come counts twice, so that bytes that come, and wait then, make it less
abbrev pub Lessens : Option Told → List ℕ → Option Told → List ℕ → Type 0
Lessens None waits new rest = new ≡ None
Lessens (Some old) waits new rest = (now : Told) × (new ≡ Some now) × (now.whole ≡ old.whole) × (2 * count_in now.coming + length rest < 2 * count_in old.coming + length waits)

-- and it is by so much less, at least, than the source was made to give
abbrev pub IsLessBy : ℕ → Option Told → List ℕ → Type 0
IsLessBy n None rest = ⊤
IsLessBy n (Some told) rest = n + (2 * count_in told.coming + length rest) ≤ 2 * count_in told.whole
