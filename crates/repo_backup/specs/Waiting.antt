-- Chunks that ended and wait to be named, and what becomes of them.
use Rattle.std.specs.Prelude.{◌≡◌, ◌≤◌, ◌⊎◌, ◌++◌, ◌∷◌, [], ℕ, List, length}
use Rattle.repo_index.specs.declared.facts.Fact.{Fact}
use Rattle.repo_name.specs.declared.names.Name.{Name}
use Rattle.repo_pack.specs.PackLayout.{Item}
use Rattle.repo_pack.specs.PackWriting.{IsOpen}
use Rattle.repo_pack.specs.PackWriting as writing
use Rattle.repo_backup.specs.Packings.{IsPacking, AllGain, IsSealedBy, all_items}
use Rattle.repo_backup.specs.Standings.{chunk_items}
use Rattle.repo_backup.specs.declared.packing.Packing.{Packing}
use Rattle.repo_backup.specs.declared.packing.Sealing.{Sealing}

-- a digest as a name
abbrev pub name_in : List ℕ → Name
name_in digest = record { 0 = digest }

-- with all these chunks as blobs at its end, the open pack still takes more
abbrev pub TakesMore : writing.Packing → List (List ℕ) → Type 0
TakesMore writer chunks = IsOpen (record { items = writer.items ++ chunk_items chunks; target = writer.target })

-- with all of them but the last one it does
abbrev pub TakesAllButOne : writing.Packing → List (List ℕ) → Type 0
TakesAllButOne writer chunks = (front : List (List ℕ)) × (last : List (List ℕ)) × (chunks ≡ front ++ last) × (length last ≤ 1) × TakesMore writer front

-- some items have this one at their end besides, or are the same
abbrev pub GainsOne : Item → List Item → List Item → Type 0
GainsOne item old new = (new ≡ old) ⊎ (new ≡ old ++ item ∷ [])

-- of these blobs, one after another, each was added behind all others, or was covered
abbrev pub AllGainMore : List Fact → List Item → List Item → List Item → Type 0
AllGainMore known old [] new = new ≡ old
AllGainMore known old (item ∷ items) new = (mid : List Item) × AllGain known old mid item × AllGainMore known mid items new

-- blobs go into the open pack, those that are known or were packed apart
abbrev pub PacksBlobs : List Fact → List Item → Packing → Packing → Type 0
PacksBlobs known items old new = (sent sealed : List Item) → IsPacking old known sent sealed
    → IsPacking new known sent sealed × AllGainMore known (all_items sent sealed old) items (all_items sent sealed new)

-- so they do; then that pack is sealed, where it is to be
abbrev pub PacksAll : List Fact → Sealing → List Item → Packing → Packing → Type 0
PacksAll known sealing items old new = (sent : List Item) → IsPacking old known sent []
    → (sealed : List Item) × IsPacking new known sent sealed × AllGainMore known (all_items sent [] old) items (all_items sent sealed new) × IsSealedBy sealing old.packer.writer.target sealed
