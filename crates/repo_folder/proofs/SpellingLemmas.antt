use Rattle.std.proofs.Common.{◌≡◌, ◌⊎◌, inl, inr, ◌<◌, ◌≤◌, ℕ, zero, suc, true, List, [], ◌∷◌, length, Option, Some, None, is_some, Result, Ok, Err, IfOk, OnOk, OnErr, IsErrOf, refl, sym, ap, subst, arith, ◌∙◌, ◌==◌, nat_lt}
use Rattle.std.proofs.lemmas.Bool.{cases_Bool, eqb-true, eq-eqb, ltb-true, lt-ltb, true≢false}
use Rattle.std.proofs.lemmas.Option.{none-some}
use Rattle.std.specs.Cmp.{first_so, second_so}
use Rattle.std.specs.Cmp.Derive.{both_true}
use Rattle.hex.specs.Hex.{IsBytes, decode_sized}
use Rattle.hex.proofs.HexLemmas.{decode_sized-encode_lower}
use Rattle.repo_name.specs.declared.kinds.Kind.{Kind}
use Rattle.repo_name.specs.declared.names.Name.{Name}
use Rattle.repo_name.specs.Naming.{hex_of, IsName}
use Rattle.repo_locks.specs.TokenMachine.{Tokens, start}
use Rattle.repo_locks.specs.Lawful.{IsLedger}
use Rattle.repo_locks.specs.LedgerBytes.{ledger_bytes}
use Rattle.repo_locks.proofs.LawfulSteps.{start_lawful}
use Rattle.repo_store.specs.Laws.{Reads, Writes, HasCause}
use Rattle.repo_store.specs.Stores.{Store, empty, Added, PutsObject, RemovesObject, SavesTokens, SavesConfig}
use Rattle.repo_store.specs.declared.shelves.ShelfError.{ShelfError}
use Rattle.repo_store.proofs.MapLemmas.{same_store}
use Rattle.repo_disk.specs.Disks as disks
use Rattle.repo_disk.specs.Disks.{State}
use Rattle.repo_disk.specs.declared.disks.DiskError.{DiskError}
use Rattle.repo_disk.specs.declared.rooms.Room.{Room}
use Rattle.repo_folder.specs.Folders.{IsKept, Stays, Comes, Puts, Keeps, Shows}
use Rattle.repo_folder.specs.Ledgers.{first_of, tokens_in}
use Rattle.repo_folder.specs.Spelling.{are_bytes, is_name, room_of, object_in, spelled, config_name, ledger_name, Stands, HasLedger, IsBegun, shelf_error, told}
use Rattle.repo_folder.proofs.LedgerLemmas.{ledger_one}

-- ---- names

bytes_tell : (bs : List ℕ) → are_bytes bs ≡ true → IsBytes bs
bytes_tell [] h = λ i. omega arith
bytes_tell (b ∷ bs) h = elim (cases_Bool (nat_lt b 256)) [
  | inl e ↦ tells (ltb-true b 256 e) (bytes_tell bs (rw e at h))
  | inr e ↦ absurd (true≢false (sym (rw e at h)))
] where
  tells : b < 256 → IsBytes bs → IsBytes (b ∷ bs)
  tells small more zero = small
  tells small more (suc i) = more i

bytes_told : (bs : List ℕ) → IsBytes bs → are_bytes bs ≡ true
bytes_told [] h = refl
bytes_told (b ∷ bs) h = let e : nat_lt b 256 ≡ true = lt-ltb b 256 (h zero) in rw e (bytes_told bs (λ i. h (suc i)))

pub name_tells : (n : Name) → is_name n ≡ true → IsName n
name_tells n h = (eqb-true (length n.0) 32 (first_so (length n.0 == 32) (are_bytes n.0) h), bytes_tell n.0 (second_so (length n.0 == 32) (are_bytes n.0) h))

pub name_told : (n : Name) → IsName n → is_name n ≡ true
name_told n is = both_true (eq-eqb (length n.0) 32 is.0) (bytes_told n.0 is.1)

pub hex_one : (a b : Name) → IsName a → IsName b → hex_of a ≡ hex_of b → a ≡ b
hex_one a b ia ib h =
    let e : Ok a.0 ≡ Ok b.0 = sym (decode_sized-encode_lower a.0 32 ia.0 ia.1) ∙ ap (λ t. decode_sized t 32) h ∙ decode_sized-encode_lower b.0 32 ib.0 ib.1 in
    let f : a.0 ≡ b.0 = cc in
    λ i. record { 0 = f i }

pub first_small : (bs : List ℕ) → IsBytes bs → first_of bs < 256
first_small [] h = omega arith
first_small (b ∷ bs) h = h zero

-- an object's folder is one of which something is kept
pub room_kept : (k : Kind) (n : Name) → IsName n → IsKept (room_of k n)
room_kept Kind.Pack n is = first_small n.0 is.1
room_kept Kind.Index n is = tt
room_kept Kind.Snapshot n is = tt

kind_one : (k l : Kind) (a b : Name) → room_of k a ≡ room_of l b → k ≡ l
kind_one Kind.Pack Kind.Pack a b h = refl
kind_one Kind.Index Kind.Index a b h = refl
kind_one Kind.Snapshot Kind.Snapshot a b h = refl
kind_one Kind.Pack Kind.Index a b h = absurd (let e : Room.Packs (first_of a.0) ≡ Room.Indexes = h in cc)
kind_one Kind.Pack Kind.Snapshot a b h = absurd (let e : Room.Packs (first_of a.0) ≡ Room.Snapshots = h in cc)
kind_one Kind.Index Kind.Pack a b h = absurd (let e : Room.Indexes ≡ Room.Packs (first_of b.0) = h in cc)
kind_one Kind.Index Kind.Snapshot a b h = absurd (let e : Room.Indexes ≡ Room.Snapshots = h in cc)
kind_one Kind.Snapshot Kind.Pack a b h = absurd (let e : Room.Snapshots ≡ Room.Packs (first_of b.0) = h in cc)
kind_one Kind.Snapshot Kind.Index a b h = absurd (let e : Room.Snapshots ≡ Room.Indexes = h in cc)

not_top : (k : Kind) (n : Name) → room_of k n ≡ Room.Top → ⊥
not_top Kind.Pack n h = let e : Room.Packs (first_of n.0) ≡ Room.Top = h in cc
not_top Kind.Index n h = let e : Room.Indexes ≡ Room.Top = h in cc
not_top Kind.Snapshot n h = let e : Room.Snapshots ≡ Room.Top = h in cc

config_no_ledger : config_name ≡ ledger_name → ⊥
config_no_ledger h = apart 99 108 (ap first_of h) (omega arith) (omega arith)
  where
    apart : (a b : ℕ) → a ≡ b → a ≡ 99 → b ≡ 108 → ⊥
    apart a b e f g = omega arith

-- what a name of a program has
pub object_of : (files : Room → List ℕ → Option (List ℕ)) (k : Kind) (n : Name) → IsName n → object_in files k n ≡ files (room_of k n) (hex_of n)
object_of files k n is = rw (name_told n is) refl

-- the ledger that stands in its file is the one that is spelled
pub stands_spelled : (files : Room → List ℕ → Option (List ℕ)) (l : Tokens) → Stands files l → tokens_in (files Room.Top ledger_name) ≡ l
stands_spelled files l stands = ap tokens_in stands.1 ∙ ledger_one l stands.0

-- ---- stores

module _ (s t : State) where
  object_stays : Stays s t → (k : Kind) (n : Name) → object_in t.fate k n ≡ object_in s.fate k n
  object_stays h k n = elim (cases_Bool (is_name n)) [
    | inl e ↦ rw e (h (room_of k n) (hex_of n) (room_kept k n (name_tells n e)))
    | inr e ↦ rw e refl
  ]

  -- where what is kept comes to the same, the store is the same
  pub store_stays : Stays s t → spelled t.fate ≡ spelled s.fate
  store_stays h = same_store _ _ (h Room.Top config_name tt) (λ k i n. object_stays h k n i) (ap tokens_in (h Room.Top ledger_name tt)) refl

  pub ledger_stays : Stays s t → HasLedger s.fate → HasLedger t.fate
  ledger_stays h had = (had.0, (had.1.0, h Room.Top ledger_name tt ∙ had.1.1))

  -- an object of a name that isn't given anything
  module _ (kind : Kind) (name : Name) (is : IsName name) (to : Option (List ℕ)) (c : Comes (room_of kind name) (hex_of name) to s t) where
    object_apart : (k : Kind) (n : Name) → ((k ≡ kind) × (n ≡ name)) ⊎ (object_in t.fate k n ≡ object_in s.fate k n)
    object_apart k n = elim (cases_Bool (is_name n)) [
      | inl e ↦ (
          let isn = name_tells n e in
          elim (c.others (room_of k n) (hex_of n) (room_kept k n isn)) [
            | inl p ↦ inl (kind_one k kind n name p.0, hex_one n name isn is p.1)
            | inr same ↦ inr (rw e same)
          ])
      | inr e ↦ inr (rw e refl)
    ]

    object_here : object_in t.fate kind name ≡ to
    object_here = object_of t.fate kind name is ∙ c.here

    top_apart : (n : List ℕ) → t.fate Room.Top n ≡ s.fate Room.Top n
    top_apart n = elim (c.others Room.Top n tt) [ inl p ↦ absurd (not_top kind name (sym p.0)) | inr e ↦ e ]

    pub ledger_apart : HasLedger s.fate → HasLedger t.fate
    ledger_apart had = (had.0, (had.1.0, top_apart ledger_name ∙ had.1.1))

  pub removes : (kind : Kind) (name : Name) → IsName name → Comes (room_of kind name) (hex_of name) None s t → RemovesObject kind name (spelled s.fate) (spelled t.fate)
  removes kind name is c = (
    record {
      kept = λ k n x e. elim (object_apart kind name is None c k n) [ inl p ↦ inr p | inr same ↦ inl (same ∙ e) ];
      only = λ k n x e. elim (object_apart kind name is None c k n) [
        | inl p ↦ absurd (none-some x (sym (object_here kind name is None c) ∙ (λ i. object_in t.fate (sym p.0 i) (sym p.1 i)) ∙ e))
        | inr same ↦ sym same ∙ e
      ];
      gone = object_here kind name is None c;
    },
    top_apart kind name is None c config_name,
    ap tokens_in (top_apart kind name is None c ledger_name),
    refl,
  )

  added : (kind : Kind) (name : Name) (bytes : List ℕ) → IsName name → s.fate (room_of kind name) (hex_of name) ≡ None → Comes (room_of kind name) (hex_of name) (Some bytes) s t
      → Added (object_in s.fate) kind name bytes (object_in t.fate)
  added kind name bytes is none c = record {
    kept = λ k n x e. elim (object_apart kind name is (Some bytes) c k n) [
      | inl p ↦ absurd (none-some x (sym none ∙ sym (object_of s.fate kind name is) ∙ (λ i. object_in s.fate (sym p.0 i) (sym p.1 i)) ∙ e))
      | inr same ↦ same ∙ e
    ];
    only = λ k n x e. elim (object_apart kind name is (Some bytes) c k n) [
      | inl p ↦ inr (p.0, p.1, some_one (sym e ∙ (λ i. object_in t.fate (p.0 i) (p.1 i)) ∙ object_here kind name is (Some bytes) c))
      | inr same ↦ inl (sym same ∙ e)
    ];
    here = (bytes, object_here kind name is (Some bytes) c);
  }
    where
      some_one : {x y : List ℕ} → Some x ≡ Some y → x ≡ y
      some_one h = cc

  pub puts : (kind : Kind) (name : Name) (bytes : List ℕ) → IsName name → Puts (room_of kind name) (hex_of name) bytes s t → PutsObject kind name bytes (spelled s.fate) (spelled t.fate)
  puts kind name bytes is (inr p) = (
    added kind name bytes is p.0 p.1,
    top_apart kind name is (Some bytes) p.1 config_name,
    ap tokens_in (top_apart kind name is (Some bytes) p.1 ledger_name),
    refl,
  )
  puts kind name bytes is (inl p) =
      let had : object_in s.fate kind name ≡ Some p.0 = object_of s.fate kind name is ∙ p.1 in
      let stays = object_stays p.2 in (
        record {
          kept = λ k n x e. stays k n ∙ e;
          only = λ k n x e. inl (sym (stays k n) ∙ e);
          here = (p.0, stays kind name ∙ had);
        },
        p.2 Room.Top config_name tt,
        ap tokens_in (p.2 Room.Top ledger_name tt),
        refl,
      )

  pub ledger_put : (kind : Kind) (name : Name) (bytes : List ℕ) → IsName name → Puts (room_of kind name) (hex_of name) bytes s t → HasLedger s.fate → HasLedger t.fate
  ledger_put kind name bytes is (inl p) = ledger_stays p.2
  ledger_put kind name bytes is (inr p) = ledger_apart kind name is (Some bytes) p.1

  -- objects stay where a file of the store's own folder is given something
  module _ (file : List ℕ) (to : Option (List ℕ)) (c : Comes Room.Top file to s t) where
    objects_apart : (k : Kind) → object_in t.fate k ≡ object_in s.fate k
    objects_apart k i n = each n i where
      each : (n : Name) → object_in t.fate k n ≡ object_in s.fate k n
      each n = elim (cases_Bool (is_name n)) [
        | inl e ↦ elim (c.others (room_of k n) (hex_of n) (room_kept k n (name_tells n e))) [ inl p ↦ absurd (not_top k n p.0) | inr same ↦ rw e same ]
        | inr e ↦ rw e refl
      ]

  pub saves_config : (bytes : List ℕ) → Comes Room.Top config_name (Some bytes) s t → SavesConfig bytes (spelled s.fate) (spelled t.fate)
  saves_config bytes c = (c.here, (λ i k. objects_apart config_name (Some bytes) c k i), ap tokens_in same, refl)
    where
      same : t.fate Room.Top ledger_name ≡ s.fate Room.Top ledger_name
      same = elim (c.others Room.Top ledger_name tt) [ inl p ↦ absurd (config_no_ledger (sym p.1)) | inr e ↦ e ]

  pub ledger_config : (bytes : List ℕ) → Comes Room.Top config_name (Some bytes) s t → HasLedger s.fate → HasLedger t.fate
  ledger_config bytes c had = elim (c.others Room.Top ledger_name tt) [ inl p ↦ absurd (config_no_ledger (sym p.1)) | inr e ↦ (had.0, (had.1.0, e ∙ had.1.1)) ]

  pub saves_tokens : (l : Tokens) → IsLedger l → Comes Room.Top ledger_name (Some (ledger_bytes l)) s t → SavesTokens l (spelled s.fate) (spelled t.fate)
  saves_tokens l is c = (same, (λ i k. objects_apart ledger_name (Some (ledger_bytes l)) c k i), ap tokens_in c.here ∙ ledger_one l is, refl)
    where
      same : t.fate Room.Top config_name ≡ s.fate Room.Top config_name
      same = elim (c.others Room.Top config_name tt) [ inl p ↦ absurd (config_no_ledger p.1) | inr e ↦ e ]

  pub ledger_saved : (l : Tokens) → IsLedger l → Comes Room.Top ledger_name (Some (ledger_bytes l)) s t → HasLedger t.fate
  ledger_saved l is c = (l, (is, c.here))

  -- ---- calls

  shown : {T : Type 0} (P Q : T → Type 0) → ((x : T) → P x → Q x) → (result : Result T DiskError) → Shows P s result t → Reads Q (spelled s.fate) (told result) (spelled t.fate)
  shown P Q f (Ok x) h = (f x h.0, store_stays h.1)
  shown P Q f (Err DiskError.Failed) h = store_stays h
  shown P Q f (Err DiskError.Memory) h = store_stays h

  pub shown_stays : {T : Type 0} (P : T → Type 0) (result : Result T DiskError) → Shows P s result t → Stays s t
  shown_stays P (Ok x) h = h.1
  shown_stays P (Err e) h = h

  kept : (W : State → State → Type 0) (V : Store → Store → Type 0) → (W s t → V (spelled s.fate) (spelled t.fate)) → (result : Result (Unit {0}) DiskError)
      → Keeps W s result t → Writes V (spelled s.fate) (told result) (spelled t.fate)
  kept W V f (Ok done) h = f h
  kept W V f (Err DiskError.Failed) h = elim h [ inl h' ↦ inl (store_stays h') | inr w ↦ inr (f w) ]
  kept W V f (Err DiskError.Memory) h = store_stays h

  pub kept_ledger : (W : State → State → Type 0) → (W s t → HasLedger s.fate → HasLedger t.fate) → (result : Result (Unit {0}) DiskError)
      → Keeps W s result t → HasLedger s.fate → HasLedger t.fate
  kept_ledger W f (Ok done) h had = f h had
  kept_ledger W f (Err DiskError.Failed) h had = elim h [ inl h' ↦ ledger_stays h' had | inr w ↦ f w had ]
  kept_ledger W f (Err DiskError.Memory) h had = ledger_stays h had

  pub shown_told : {T : Type 0} (P Q : T → Type 0) → ((x : T) → P x → Q x) → (result : Result T DiskError) (tells : Result T ShelfError) → tells ≡ told result
      → Shows P s result t → Reads Q (spelled s.fate) tells (spelled t.fate)
  shown_told P Q f result tells e h = subst (λ r. Reads Q (spelled s.fate) r (spelled t.fate)) (sym e) (shown P Q f result h)

  pub kept_told : (W : State → State → Type 0) (V : Store → Store → Type 0) → (W s t → V (spelled s.fate) (spelled t.fate)) → (result : Result (Unit {0}) DiskError)
      (tells : Result (Unit {0}) ShelfError) → tells ≡ told result → Keeps W s result t → Writes V (spelled s.fate) tells (spelled t.fate)
  kept_told W V f result tells e h = subst (λ r. Writes V (spelled s.fate) r (spelled t.fate)) (sym e) (kept W V f result h)

  pub ledger_read : (tells : Result Tokens ShelfError) (had : HasLedger s.fate) → IfOk tells (λ l. l ≡ had.0) → Stays s t
      → Reads (λ l. l ≡ tokens_in (s.fate Room.Top ledger_name)) (spelled s.fate) tells (spelled t.fate)
  ledger_read (Ok l) had is stays = (is ∙ sym (stands_spelled s.fate had.0 had.1), store_stays stays)
  ledger_read (Err ShelfError.Fault) had is stays = store_stays stays
  ledger_read (Err ShelfError.Memory) had is stays = store_stays stays

-- what isn't told as a fault has no cause
pub no_cause : {T : Type 0} (old new : ℕ) (tells : Result T ShelfError) → old ≤ new → (IsErrOf tells ShelfError.Fault → ⊥) → HasCause old tells new
no_cause old new (Ok x) more sound = more
no_cause old new (Err ShelfError.Fault) more sound = absurd (sound refl)
no_cause old new (Err ShelfError.Memory) more sound = more

-- what is told as right was right
pub told_ok : {T : Type 0} (result : Result T DiskError) (x : T) → told result ≡ Ok x → result ≡ Ok x
told_ok {T} (Ok y) x h = ap (λ r. Ok (value r)) h
  where
    value : Result T ShelfError → T
    value (Ok z) = z
    value (Err e) = y
told_ok (Err e) x h = absurd (let k : Err (shelf_error e) ≡ Ok x = h in cc)

-- what a writing call made, as a shelf tells it: it is made; on an error it may be made
pub made_told : (W : State → State → Type 0) (s t : State) (result : Result (Unit {0}) DiskError) (tells : Result (Unit {0}) ShelfError) → tells ≡ told result → Keeps W s result t
    → OnOk tells (W s t) × OnErr tells (Stays s t ⊎ W s t)
made_told W s t result tells e k = subst (λ r. OnOk r (W s t) × OnErr r (Stays s t ⊎ W s t)) (sym e) (made result k)
  where
    made : (r : Result (Unit {0}) DiskError) → Keeps W s r t → OnOk (told r) (W s t) × OnErr (told r) (Stays s t ⊎ W s t)
    made (Ok done) is = (is, tt)
    made (Err DiskError.Failed) is = (tt, is)
    made (Err DiskError.Memory) is = (tt, inl is)

caused : {T : Type 0} (old new : ℕ) (result : Result T DiskError) → disks.HasCause old result new → HasCause old (told result) new
caused old new (Ok x) h = h
caused old new (Err DiskError.Failed) h = h
caused old new (Err DiskError.Memory) h = h

pub caused_told : {T : Type 0} (old new : ℕ) (result : Result T DiskError) (tells : Result T ShelfError) → tells ≡ told result → disks.HasCause old result new → HasCause old tells new
caused_told old new result tells e h = subst (λ r. HasCause old r new) (sym e) (caused old new result h)

-- ---- a fresh store

-- files of which there is a fresh ledger, and no more, spell an empty store
begun_spells : (files : Room → List ℕ → Option (List ℕ)) → files Room.Top config_name ≡ None → ((k : Kind) (n : Name) → object_in files k n ≡ None)
    → files Room.Top ledger_name ≡ Some (ledger_bytes start) → HasLedger files × (spelled files ≡ empty)
begun_spells files config objects fresh = ((start, (start_lawful, fresh)), same_store _ _ config (λ k i n. objects k n i) (ap tokens_in fresh ∙ ledger_one start start_lawful) refl)

module _ (s u t : State) (begun : IsBegun s.fate) (stays : Stays s u) where
  config_stays : u.fate Room.Top config_name ≡ None
  config_stays = stays Room.Top config_name tt ∙ begun.config

  objects_stay : (k : Kind) (n : Name) → object_in u.fate k n ≡ None
  objects_stay k n = object_stays s u stays k n ∙ begun.objects k n

  -- where the ledger is there
  pub begun_there : is_some (s.fate Room.Top ledger_name) ≡ true → HasLedger u.fate × (spelled u.fate ≡ empty)
  begun_there there = begun_spells u.fate config_stays objects_stay (stays Room.Top ledger_name tt ∙ elim begun.ledger [
    | inl none ↦ absurd (true≢false (sym there ∙ ap is_some none))
    | inr fresh ↦ fresh
  ])

  -- where it is kept
  pub begun_kept : (result : Result (Unit {0}) DiskError) (tells : Result (Unit {0}) ShelfError) → tells ≡ told result → Keeps (Comes Room.Top ledger_name (Some (ledger_bytes start))) u result t
      → OnOk tells (HasLedger t.fate × (spelled t.fate ≡ empty))
  begun_kept (Ok done) tells e c =
      let P : Result (Unit {0}) ShelfError → Type 0 = λ r. OnOk r (HasLedger t.fate × (spelled t.fate ≡ empty)) in
      let config : t.fate Room.Top config_name ≡ None = elim (c.others Room.Top config_name tt) [ inl p ↦ absurd (config_no_ledger p.1) | inr same ↦ same ∙ config_stays ] in
      let objects : (k : Kind) (n : Name) → object_in t.fate k n ≡ None = λ k n. ap (λ object. object n) (objects_apart u t ledger_name (Some (ledger_bytes start)) c k) ∙ objects_stay k n in
      subst P (sym e) (begun_spells t.fate config objects c.here)
  begun_kept (Err error) tells e k =
      let P : Result (Unit {0}) ShelfError → Type 0 = λ r. OnOk r (HasLedger t.fate × (spelled t.fate ≡ empty)) in
      subst P (sym e) tt
