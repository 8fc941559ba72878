-- What a reply tells of one object.
use Rattle.std.proofs.Common.{arith, ◌≡◌, ◌≢◌, ◌≤◌, ◌+◌, ◌++◌, ℕ, List, Some, None, length, refl, sym, ap, subst, ◌∙◌, length-append, ⊎_elim}
use Rattle.std.proofs.lemmas.List.Elements.{recursion_from_All}
use Rattle.std.specs.Int.{w32, to_le_bytes}
use Rattle.std.specs.Prelude.{IfOk, Result, Ok, Err}
use Rattle.repo_name.specs.Naming as naming
use Rattle.repo_name.specs.declared.kinds.Kind.{Kind}
use Rattle.repo_name.specs.declared.names.Name.{Name}
use Rattle.repo_tree.specs.SnapshotText.{SnapshotFault}
use Rattle.repo_tree.specs.declared.faults.TextError.{TextError}
use Rattle.repo_session.proofs.Heeding.{snapshot_version}
use Rattle.repo_session.specs.Versions.{upto}
use Rattle.repo_session.specs.declared.versions.Versions.{Versions}
use Rattle.repo_session.proofs.Faulting.{known_exist, snapshot_fault}
use Rattle.repo_session.specs.Ends.{IsOfOtherVersion, TellsFault}
use Rattle.repo_wire.specs.declared.messages.Ask.{Ask}
use Rattle.repo_wire.specs.declared.messages.Code.{Code}
use Rattle.repo_wire.specs.declared.messages.Say.{Say}
use Rattle.repo_pack.specs.PackLayout.{Item, IsPack, IsItem, blobs_of, header_of}
use Rattle.repo_pack.proofs.Entries.{length-header_of}
use Rattle.repo_session.specs.declared.outcomes.FaultKind.{FaultKind}
use Rattle.repo_check.specs.Answers.{Answer, IsAnswer}
use Rattle.repo_check.specs.Arrivals.{IsFaulty, LooksAtSnapshot, MisreadAs}
use Rattle.repo_check.specs.declared.objects.SnapshotLook.{SnapshotLook}
use Rattle.repo_check.specs.Findings.{IsIllegible}

-- the answer of a reply that brings these bytes
abbrev pub with_bytes : Name → List ℕ → Answer
with_bytes n x = record { name = n; bytes = Some x }

pub is_answer : (n : Name) (x : List ℕ) (say : Say) → say ≡ Say.Bytes x → IsAnswer n say (with_bytes n x)
is_answer n x say h = subst (λ s. IsAnswer n s (with_bytes n x)) (sym h) (refl, refl)

-- an answer that is at fault
abbrev pub FaultyOf : Kind → Name → Say → FaultKind → Type 0
FaultyOf k n say what = (a : Answer) × IsAnswer n say a × IsFaulty k a what

pub misnamed : (k : Kind) (n : Name) (say : Say) → (x : List ℕ) × (say ≡ Say.Bytes x) × (naming.name x ≢ n) → FaultyOf k n say FaultKind.Name
misnamed k n say h = (with_bytes n h.0, is_answer n h.0 say h.1, λ answers. (h.0, refl, h.2))

pub absent : (k : Kind) (n : Name) (say : Say) → say ≡ Say.Refused Code.Missing → FaultyOf k n say FaultKind.Missing
absent k n say h =
    let a : Answer = record { name = n; bytes = None } in
    (a, subst (λ s. IsAnswer n s a) (sym h) (refl, refl), λ answers. refl)

pub misread : (k : Kind) (n : Name) (x : List ℕ) (say : Say) → say ≡ Say.Bytes x → naming.name x ≡ n → IsIllegible k x → FaultyOf k n say FaultKind.Unreadable
misread k n x say h named none = (with_bytes n x, is_answer n x say h, λ answers. (x, refl, named, none))

-- ---- packs

-- a pack is little longer than its blobs
pub pack_length : (bytes : List ℕ) (items : List Item) → IsPack bytes items → length bytes ≤ length (blobs_of items) + 151_556
pack_length bytes items h =
    let tail = to_le_bytes w32 (length (header_of items)) in
    let whole = ap length h.layout ∙ length-append (blobs_of items ++ header_of items) tail in
    let front = length-append (blobs_of items) (header_of items) in
    let header = length-header_of items (recursion_from_All IsItem items h.each) in
    let few = h.count.1 in
    let four : length tail ≡ 4 = refl in
    omega (arith, whole, front, header, few, four)

-- ---- what can't be read

pub snapshot_misread : (versions : Versions) (n : Name) (x : List ℕ) (say : Say) (error : TextError) (look : SnapshotLook) → say ≡ Say.Bytes x → naming.name x ≡ n → SnapshotFault (upto versions) x error → MisreadAs error look → LooksAtSnapshot versions n say look
snapshot_misread versions n x say error (SnapshotLook.Root root) h named fault is = absurd is
snapshot_misread versions n x say error (SnapshotLook.Fault what) h named fault is =
    let f = subst (λ w. FaultyOf Kind.Snapshot n say w) (sym is.0) (misread Kind.Snapshot n x say h named (error, snapshot_fault (upto versions) (known_exist versions) x error is.2 fault, is.2, is.1)) in
    let O : Say → Type 0 = λ s. IsOfOtherVersion (upto versions) (Ask.Get Kind.Snapshot n) s in
    (f.0, f.1, f.2, λ other. let o = subst O h other in ⊎_elim is.2 is.1 (snapshot_version (upto versions) x error fault o.1))
snapshot_misread versions n x say error SnapshotLook.Version h named fault is =
    subst (λ s. IsOfOtherVersion (upto versions) (Ask.Get Kind.Snapshot n) s) (sym h) (named, subst (λ e. SnapshotFault (upto versions) x e) is fault)
snapshot_misread versions n x say error SnapshotLook.Unwelcome h named fault is = absurd is

-- bytes of another name, and none, are of no other version
pub misnamed_snapshot : (versions : Versions) (n : Name) (say : Say) → (x : List ℕ) × (say ≡ Say.Bytes x) × (naming.name x ≢ n) → LooksAtSnapshot versions n say (SnapshotLook.Fault FaultKind.Name)
misnamed_snapshot versions n say h =
    let f = misnamed Kind.Snapshot n say h in
    let O : Say → Type 0 = λ s. IsOfOtherVersion (upto versions) (Ask.Get Kind.Snapshot n) s in
    (f.0, f.1, f.2, λ other. h.2 (subst O h.1 other).0)

pub absent_snapshot : (versions : Versions) (n : Name) (say : Say) → say ≡ Say.Refused Code.Missing → LooksAtSnapshot versions n say (SnapshotLook.Fault FaultKind.Missing)
absent_snapshot versions n say h =
    let f = absent Kind.Snapshot n say h in
    let O : Say → Type 0 = λ s. IsOfOtherVersion (upto versions) (Ask.Get Kind.Snapshot n) s in
    (f.0, f.1, f.2, λ other. subst O h other)

-- what holds of a result holds of it in other words
pub ok_then : {T E : Type 0} (P Q : T → Type 0) (r : Result T E) → ((x : T) → P x → Q x) → IfOk r P → IfOk r Q
ok_then P Q (Ok x) f h = f x h
ok_then P Q (Err e) f h = h

-- a reply tells no fault but by these refusals
pub object_untold : (k : Kind) (n : Name) (say : Say) → say ≢ Say.Refused Code.Missing → TellsFault (Ask.Get k n) say → ⊥
object_untold k n (Say.Refused Code.Malformed) missing tells = tells
object_untold k n (Say.Refused Code.Dead) missing tells = tells
object_untold k n (Say.Refused Code.Busy) missing tells = tells
object_untold k n (Say.Refused Code.NotExclusive) missing tells = tells
object_untold k n (Say.Refused Code.Missing) missing tells = missing refl
object_untold k n (Say.Refused Code.NameMismatch) missing tells = tells
object_untold k n (Say.Refused Code.TooLarge) missing tells = tells
object_untold k n (Say.Refused Code.Range) missing tells = tells
object_untold k n (Say.Refused Code.OtherKind) missing tells = tells
object_untold k n (Say.Refused Code.Fault) missing tells = tells
object_untold k n (Say.Refused Code.NoMemory) missing tells = tells
object_untold k n (Say.Refused Code.Full) missing tells = tells
object_untold k n (Say.Refused Code.Exhausted) missing tells = tells
object_untold k n (Say.Refused Code.AppendOnly) missing tells = tells
object_untold k n (Say.Token token) missing tells = tells
object_untold k n Say.Done missing tells = tells
object_untold k n (Say.Names more names) missing tells = tells
object_untold k n (Say.Bytes x) missing tells = tells
object_untold k n (Say.LockList rows) missing tells = tells

pub part_untold : (pack : Name) (offset len : ℕ) (say : Say) → say ≢ Say.Refused Code.Missing → say ≢ Say.Refused Code.Range → TellsFault (Ask.Range pack offset len) say → ⊥
part_untold pack offset len (Say.Refused Code.Malformed) missing range tells = tells
part_untold pack offset len (Say.Refused Code.Dead) missing range tells = tells
part_untold pack offset len (Say.Refused Code.Busy) missing range tells = tells
part_untold pack offset len (Say.Refused Code.NotExclusive) missing range tells = tells
part_untold pack offset len (Say.Refused Code.Missing) missing range tells = missing refl
part_untold pack offset len (Say.Refused Code.NameMismatch) missing range tells = tells
part_untold pack offset len (Say.Refused Code.TooLarge) missing range tells = tells
part_untold pack offset len (Say.Refused Code.Range) missing range tells = range refl
part_untold pack offset len (Say.Refused Code.OtherKind) missing range tells = tells
part_untold pack offset len (Say.Refused Code.Fault) missing range tells = tells
part_untold pack offset len (Say.Refused Code.NoMemory) missing range tells = tells
part_untold pack offset len (Say.Refused Code.Full) missing range tells = tells
part_untold pack offset len (Say.Refused Code.Exhausted) missing range tells = tells
part_untold pack offset len (Say.Refused Code.AppendOnly) missing range tells = tells
part_untold pack offset len (Say.Token token) missing range tells = tells
part_untold pack offset len Say.Done missing range tells = tells
part_untold pack offset len (Say.Names more names) missing range tells = tells
part_untold pack offset len (Say.Bytes x) missing range tells = tells
part_untold pack offset len (Say.LockList rows) missing range tells = tells
