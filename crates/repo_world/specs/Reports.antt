-- What a report of a world says.
use Rattle.std.specs.Prelude.{◌≡◌, ◌++◌, ◌∷◌, ◌+◌, [], ℕ, Bool, List, length, codes, decimal, Option, Some}
use Rattle.std.specs.BTreeMap.{IsOrdered, btree_map_len}
use Rattle.repo_name.specs.Naming.{name_cmp}
use Rattle.repo_name.specs.declared.kinds.Kind.{Kind}
use Rattle.repo_name.specs.declared.names.Name.{Name}
use Rattle.repo_store.specs.Kept.{AreThere, NameSet, is_in}
use Rattle.repo_store.specs.Stores.{Store}
use Rattle.repo_session.specs.Results.{result_text}
use Rattle.repo_session.specs.declared.outcomes.Outcome.{Outcome}
use Rattle.repo_world.specs.Clients.{Client}
use Rattle.repo_world.specs.World.{World}
use Rattle.repo_world.specs.declared.jobs.Job.{Job}
use Rattle.repo_world.specs.declared.reports.Role.{Role}

-- what a client with a job is
abbrev pub role_of : Job → Role
role_of (Job.Backup entries) = Role.Backup
role_of Job.Pieces = Role.Backup
role_of (Job.Restore snapshot) = Role.Restore
role_of Job.List = Role.List
role_of (Job.Forget choice) = Role.Forget
role_of Job.Prune = Role.Prune
role_of Job.Check = Role.Check
role_of Job.Upgrade = Role.Upgrade

-- what it is called
abbrev pub role_word : Role → List ℕ
role_word Role.Backup = codes "backup"
role_word Role.Restore = codes "restore"
role_word Role.List = codes "list"
role_word Role.Forget = codes "forget"
role_word Role.Prune = codes "prune"
role_word Role.Check = codes "check"
role_word Role.Upgrade = codes "upgrade"

-- the line of a client: its number, what it is, and how its job ended
abbrev pub client_line : ℕ → Role → Option Outcome → Bool → List ℕ
client_line number role outcome crashed = codes "client " ++ (decimal number ++ (codes " " ++ (role_word role ++ (codes " " ++ (result_text outcome crashed ++ codes "\n")))))

-- the line of a client under its number
abbrev pub line_of : ℕ → Client → List ℕ
line_of number c = client_line number (role_of c.job) c.outcome c.crashed

-- the lines of some clients, the first of which has this number
abbrev pub client_lines : ℕ → List Client → List ℕ
client_lines number [] = []
client_lines number (c ∷ clients) = line_of number c ++ client_lines (number + 1) clients

-- so many objects of a kind are there: their names are just those of a set, which has each once
pub record HasObjects (there : Name → Option (List ℕ)) (count : ℕ) : Type 0 where
  pub names : NameSet
  pub ordered : IsOrdered name_cmp names
  pub just : AreThere (Some (is_in names)) there
  pub counted : count ≡ btree_map_len names

-- the line of a store: how many packs, indexes and snapshots there are, and how many locks are live
pub record IsStoreLine (store : Store) (line : List ℕ) : Type 0 where
  pub packs : ℕ
  pub indexes : ℕ
  pub snapshots : ℕ
  pub of_packs : HasObjects (store.objects Kind.Pack) packs
  pub of_indexes : HasObjects (store.objects Kind.Index) indexes
  pub of_snapshots : HasObjects (store.objects Kind.Snapshot) snapshots
  pub is : line ≡ codes "store packs " ++ (decimal packs ++ (codes " indexes " ++ (decimal indexes ++ (codes " snapshots " ++ (decimal snapshots ++ (codes " live " ++ (decimal (length store.tokens.live) ++ codes "\n")))))))

-- the report: a line for each client, in order, and then one of the store
abbrev pub IsReport : World → List ℕ → Type 0
IsReport w text = (line : List ℕ) × IsStoreLine w.store line × (text ≡ client_lines 0 w.clients ++ line)
