-- The config that was read, and packs that are open.
use Rattle.std.proofs.Common.{arith, ◌≡◌, ◌≤◌, ◌+◌, ◌++◌, ◌∷◌, [], ℕ, List, length, refl, ap, inl, inr, ◌∙◌, length-append}
use Rattle.std.proofs.lemmas.List.Concat.{flat_map-append}
use Rattle.repo_pack.specs.PackLayout.{Item, blobs_of}
use Rattle.repo_pack.specs.PackWriting.{Packing, IsDue, IsOpen}
use Rattle.repo_session.specs.Traces.{Exchange, Trace}
use Rattle.repo_session.specs.Versions.{upto}
use Rattle.repo_session.specs.declared.versions.Versions.{Versions}
use Rattle.repo_tree.specs.declared.configs.Config.{Config}
use Rattle.repo_writing.specs.Filling.{HasConfig, WasOpen}

-- a pack that is open isn't due
pub open_undue : (p : Packing) → IsOpen p → IsDue p → ⊥
open_undue p room (inl long) = (let short = room.0 in omega (arith, long, short))
open_undue p room (inr many) = (let few = room.1 in omega (arith, many, few))

-- some blobs have a last one
last_of : (first : Item) (items : List Item) → (before : List Item) × (last : Item) × (first ∷ items ≡ before ++ last ∷ [])
last_of first [] = ([], first, refl)
last_of first (next ∷ items) =
    let k = last_of next items in
    (first ∷ k.0, k.1, ap (λ (l : List Item). first ∷ l) k.2)

-- a pack that is open was so before its last blob
pub open_before : (target : ℕ) (items : List Item) → IsOpen (record { items = items; target = target }) → 1 ≤ length items → WasOpen target items
open_before target [] room some = absurd (omega (arith, some))
open_before target (first ∷ items) room some =
    let k = last_of first items in
    let short = room.0 in
    let few = room.1 in
    let bytes : length (blobs_of (first ∷ items)) ≡ length (blobs_of k.0) + length (blobs_of (k.1 ∷ [])) =
    ap (λ l. length (blobs_of l)) k.2 ∙ ap length (flat_map-append (λ (i : Item). i.bytes) k.0 (k.1 ∷ [])) ∙ length-append (blobs_of k.0) (blobs_of (k.1 ∷ [])) in
    let count = ap length k.2 ∙ length-append k.0 (k.1 ∷ []) in
    (k.0, k.1, k.2, (omega (arith, short, bytes), omega (arith, few, count)))

-- what somebody knows, a job knows that knows both
pub most_known : (version : ℕ) (versions : Versions) → version ≤ upto versions → version ≤ upto Versions.Both
most_known version Versions.One h = omega (arith, h)
most_known version Versions.Both h = h

-- it stays read
pub config_later : (e : Exchange) (es : Trace) (config : Config) → HasConfig es config → HasConfig (e ∷ es) config
config_later e es config h = record { text = h.text; read = inr h.read; reads = h.reads; known = h.known }
