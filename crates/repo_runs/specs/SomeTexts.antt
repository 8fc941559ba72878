-- Some texts as they are written, and what the runs come to with them: nothing clashes in their last worlds. So the premise of the laws of all runs can be met
-- where a snapshot is stored, and where after that it is restored, or the store is pruned, or it is forgotten and the store pruned.
use Rattle.std.specs.Prelude.{◌∷◌, [], ℕ, List, replicate}
use Rattle.repo_name.specs.Naming as naming
use Rattle.repo_pack.specs.PackLayout.{pack_bytes}
use Rattle.repo_index.specs.declared.facts.PackFacts.{PackFacts}
use Rattle.repo_index.specs.Exactness.{fact_at}
use Rattle.repo_index.specs.IndexWriting.{index_text}
use Rattle.repo_tree.specs.declared.configs.Config.{Config}
use Rattle.repo_tree.specs.ConfigText.{config_text}
use Rattle.repo_tree.specs.SnapshotText.{snapshot_text}
use Rattle.repo_world.specs.Safe.{HasNoClash}
use Rattle.repo_runs.specs.Backed.{empty_tree, snapshot_of, AreTexts, AreApart, IsBackedUp, IsGivenBack, IsTidied, IsForgottenInRun}

-- the host of the clients, and the moment
abbrev pub host : List ℕ
host = 97 ∷ []

abbrev pub time : ℕ
time = 5

-- a config, and its text
abbrev pub read : Config
read = record { version = 1; id = record { 0 = replicate 16 0 }; params = record { min = 524288; max = 8388608; bits = 20 }; target = 16777216 }

abbrev pub config : List ℕ
config = config_text read

-- the pack of the empty tree
abbrev pub pack : List ℕ
pack = pack_bytes (empty_tree ∷ [])

-- the index of that pack
abbrev pub listed : PackFacts
listed = record { pack = naming.name pack; facts = fact_at (naming.name pack) (empty_tree ∷ []) 0 empty_tree ∷ [] }

abbrev pub index : List ℕ
index = index_text (listed ∷ [])

-- the snapshot
abbrev pub snapshot : List ℕ
snapshot = snapshot_text (snapshot_of host time)

-- they are texts as they are written, no two of them have one name, and the index alone says a fact
abbrev pub TextsAreApart : Type 0
TextsAreApart = AreTexts host time config pack index snapshot × AreApart config pack index snapshot

-- with them there is a run in which a backup is stored, and there are runs in which after that a restore is complete, a prune is done, or a forget and then a
-- prune are; and nothing clashes in the last world of each
abbrev pub NothingClashesInRuns : Type 0
NothingClashesInRuns = ((b : IsBackedUp config pack index snapshot) × HasNoClash b.last) × ((r : IsGivenBack config pack index snapshot) × HasNoClash r.last)
    × ((p : IsTidied config pack index snapshot) × HasNoClash p.last) × ((f : IsForgottenInRun (naming.name snapshot ∷ []) config pack index snapshot) × HasNoClash f.last)
