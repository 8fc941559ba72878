-- An item that has a fault may not be taken.
use Rattle.std.proofs.Common.{arith, ◌≢◌, ℕ, List, Option, Some, None, refl, ⊎_elim}
use Rattle.repo_session.specs.Feeds.{fed_dir, fed_file, fed_bytes, fed_close, fed_end, fed_abandon}
use Rattle.repo_backup.specs.Items.{FileSoFar, Place, NameFault, BytesFault, MayOpen, MayGrow}
use Rattle.repo_backup.specs.ItemLaws.{FaultsForbid}
use Rattle.repo_backup.specs.declared.items.FeedError.{FeedError}
use Rattle.repo_backup.specs.declared.items.FeedError.TheVariants as fault

name_forbids : (p : Place) (name : List ℕ) (e : FeedError) → e ≢ fault.Memory → NameFault p name e → MayOpen p name → ⊥
name_forbids p name fault.NotWanted other h may = h
name_forbids p name fault.BadPath other h may = h may.0
name_forbids p name fault.Order other h may = h.1 may.1
name_forbids p name fault.TooDeep other h may = omega (arith, h.2, may.2)
name_forbids p name fault.TooLarge other h may = h
name_forbids p name fault.Memory other h may = other refl

bytes_forbid : (file : Option FileSoFar) (more : List ℕ) (e : FeedError) → e ≢ fault.Memory → BytesFault file more e → MayGrow file more → ⊥
bytes_forbid None more e other h may = may
bytes_forbid (Some f) more fault.NotWanted other h may = h
bytes_forbid (Some f) more fault.BadPath other h may = h
bytes_forbid (Some f) more fault.Order other h may = h
bytes_forbid (Some f) more fault.TooDeep other h may = h
bytes_forbid (Some f) more fault.TooLarge other h may = h may
bytes_forbid (Some f) more fault.Memory other h may = other refl

pub faults_forbid : FaultsForbid
faults_forbid p (fed_dir name) e other h may = name_forbids p name e other h may
faults_forbid p (fed_file name) e other h may = name_forbids p name e other h may
faults_forbid p (fed_bytes bytes) e other h may = bytes_forbid p.file bytes e other h may
faults_forbid p fed_close fault.Order other h may = ⊎_elim (λ some. some h.0) (λ some. some h.1) may
faults_forbid p fed_close fault.NotWanted other h may = h
faults_forbid p fed_close fault.BadPath other h may = h
faults_forbid p fed_close fault.TooDeep other h may = h
faults_forbid p fed_close fault.TooLarge other h may = h
faults_forbid p fed_close fault.Memory other h may = other refl
faults_forbid p fed_end fault.Order other h may = h may
faults_forbid p fed_end fault.NotWanted other h may = h
faults_forbid p fed_end fault.BadPath other h may = h
faults_forbid p fed_end fault.TooDeep other h may = h
faults_forbid p fed_end fault.TooLarge other h may = h
faults_forbid p fed_end fault.Memory other h may = other refl
faults_forbid p fed_abandon fault.NotWanted other h may = h
faults_forbid p fed_abandon fault.BadPath other h may = h
faults_forbid p fed_abandon fault.Order other h may = h
faults_forbid p fed_abandon fault.TooDeep other h may = h
faults_forbid p fed_abandon fault.TooLarge other h may = h
faults_forbid p fed_abandon fault.Memory other h may = other refl
