-- What only grows.
use Rattle.std.proofs.Common.{◌≡◌, ◌⊎◌, ◌++◌, ◌∷◌, [], ℕ, List, Some, refl, sym, ap, subst, inl, inr, ⊎_elim}
use Rattle.repo_name.specs.declared.kinds.Kind.{Kind}
use Rattle.repo_name.specs.declared.names.Name.{Name}
use Rattle.repo_wire.specs.declared.messages.Ask.{Ask}
use Rattle.repo_wire.specs.declared.messages.Say.{Say}
use Rattle.repo_pack.specs.PackLayout.{item_of}
use Rattle.repo_session.specs.Traces.{Trace, Exchanged, fed_in}
use Rattle.repo_tree.specs.declared.entries.Entry.{Entry}
use Rattle.repo_backup.specs.Items.{AreTaken, spelled_by}
use Rattle.repo_backup.specs.Laws.{IsMadeOf}
use Rattle.repo_world.specs.Bag.{AskedAt, AskedIn, with_next, HasPut, HasDeleted, HasUpgraded}
use Rattle.repo_world.specs.Clients.{MadeOf, Client, handed_by}
use Rattle.repo_world.specs.Duties.{IsAllHanded}
use Rattle.repo_world.specs.Safe.{IsPutBy, IsAsked, IsSpoken, by_put, by_reply, IsKnown, known_spoken, known_part, known_made, HasNoClash}
use Rattle.repo_world.specs.World.{World, client, Message, IsOneOf, Asked, Said}
use Rattle.repo_world.proofs.PieceMaking.{made_same, over_same}
use Rattle.repo_world.proofs.Sending.{FedSince, Within}
use Rattle.repo_world.specs.declared.jobs.Job.{Job}

-- a client that has gone on
pub record Grows (c d : Client) : Type 0 where
  pub trace : Within c.trace d.trace
  pub asked : (q : ℕ) (a : Ask) → AskedAt c q a → AskedAt d q a
  pub made : (x : List ℕ) → MadeOf c.job c.trace x → MadeOf d.job d.trace x

-- a world that has gone on
pub record Later (w v : World) : Type 0 where
  pub grows : (k : ℕ) → Grows (client w k) (client v k)
  pub messages : (m : Message) → IsOneOf w.messages m → IsOneOf v.messages m

-- what was made of entries is made of them as the trace grows
made_of : (entries : List Entry) (es fs : Trace) → Within es fs → (x : List ℕ) → IsMadeOf entries es x → IsMadeOf entries fs x
made_of entries es fs within x m =
    let c = m.cut in
    record { folder = m.folder; kind = m.kind; cut = record { text = c.text; config = c.config; read = within Ask.Config (Say.Bytes c.text) c.read; reads = c.reads; known = c.known; cut = c.cut }; among = m.among }

-- so is what was made of what was handed, where nothing was fed between
pub made_more : (b : Job) (es fs : Trace) → Within es fs → fed_in fs ≡ fed_in es → (x : List ℕ) → MadeOf b es x → MadeOf b fs x
made_more (Job.Backup entries) es fs within same x m = made_of entries es fs within x m
made_more Job.Pieces es fs within same x m = (m.0, made_same es fs within same (item_of m.0 x) m.1)
made_more _ es fs within same x m = m

-- and of what was handed whole
pub made_still : (b : Job) (older es : Trace) → Within older es → FedSince older es → AreTaken (fed_in es) → IsAllHanded b older → (x : List ℕ) → MadeOf b older x → MadeOf b es x
made_still (Job.Backup entries) older es within since taken all x m = made_of entries older es within x m
made_still Job.Pieces older es within since taken all x m = made_more Job.Pieces older es within (over_same older es since taken all) x m
made_still _ older es within since taken all x m = m

-- nothing more is handed then
pub handed_still : (b : Job) (older es : Trace) → FedSince older es → AreTaken (fed_in es) → IsAllHanded b older → handed_by b es ≡ handed_by b older
handed_still Job.Pieces older es since taken all = ap (λ items. Some (spelled_by items)) (over_same older es since taken all)
handed_still _ older es since taken all = refl

-- a client of the same job that took more
pub grows_with : (c d : Client) → d.job ≡ c.job → Within c.trace d.trace → fed_in d.trace ≡ fed_in c.trace → ((q : ℕ) (a : Ask) → AskedAt c q a → AskedAt d q a) → Grows c d
grows_with c d j t f a = record { trace = t; asked = a; made = λ x m. subst (λ (b : Job). MadeOf b d.trace x) (sym j) (made_more c.job c.trace d.trace t f x m) }

pub grows_same : (c d : Client) → d.job ≡ c.job → d.trace ≡ c.trace → d.next ≡ c.next → Grows c d
grows_same c d j t n = grows_with c d j (λ a s h. subst (λ es. Exchanged es a s) (sym t) h) (ap fed_in t) (λ q a h. subst (λ es. AskedIn (with_next d.next es) q a) (sym t) (subst (λ b. AskedIn (with_next b c.trace) q a) (sym n) h))

pub later_put : (w v : World) → Later w v → (k : Kind) (n : Name) (x : List ℕ) → IsPutBy w k n x → IsPutBy v k n x
later_put w v l k n x h = record { by = h.by; request = h.request; token = h.token; message = l.messages (Asked h.by h.request) h.message; asks = h.asks }

pub later_asked : (w v : World) → Later w v → (s : Name) → IsAsked w s → IsAsked v s
later_asked w v l s h = record { by = h.by; request = h.request; token = h.token; message = l.messages (Asked h.by h.request) h.message; asks = h.asks }

pub later_has_put : (w v : World) → Later w v → (k : ℕ) (j : Kind) (n : Name) → HasPut w k j n → HasPut v k j n
later_has_put w v l k j n h = (h.0, h.1, h.2, (l.grows k).asked h.0 (Ask.Put h.1 j n h.2) h.3)

pub later_has_upgraded : (w v : World) → Later w v → (k : ℕ) → HasUpgraded w k → HasUpgraded v k
later_has_upgraded w v l k h = (h.0, h.1, (l.grows k).asked h.0 (Ask.Upgrade h.1) h.2)

pub later_has_deleted : (w v : World) → Later w v → (k : ℕ) (j : Kind) (n : Name) → HasDeleted w k j n → HasDeleted v k j n
later_has_deleted w v l k j n h = (h.0, h.1, (l.grows k).asked h.0 (Ask.Delete h.1 j n) h.2)

later_spoken : (w v : World) → Later w v → (x : List ℕ) → IsSpoken w x → IsSpoken v x
later_spoken w v l x (by_put k n h) = by_put k n (later_put w v l k n x h)
later_spoken w v l x (by_reply k r h e) = by_reply k r (l.messages (Said k r) h) e

later_known : (w v : World) → Later w v → (x : List ℕ) → IsKnown w x → IsKnown v x
later_known w v l x (known_spoken h) = known_spoken (later_spoken w v l x h)
later_known w v l x (known_part h) = known_part (record {
  index = h.index;
  fact = h.fact;
  pack = h.pack;
  listed = later_spoken w v l h.index h.listed;
  says = h.says;
  there = later_spoken w v l h.pack h.there;
  named = h.named;
  stands = h.stands;
})
later_known w v l x (known_made k made) = known_made k ((l.grows k).made x made)

-- no clash after an event implies none before it
pub no_clash_before : (w v : World) → Later w v → HasNoClash v → HasNoClash w
no_clash_before w v l h x y a b e = h x y (later_known w v l x a) (later_known w v l y b) e

pub has_left : {A : Type 0} (xs ys : List A) (x : A) → IsOneOf xs x → IsOneOf (xs ++ ys) x
has_left [] ys x h = absurd h
has_left (y ∷ xs) ys x (inl h) = inl h
has_left (y ∷ xs) ys x (inr h) = inr (has_left xs ys x h)

pub has_right : {A : Type 0} (xs ys : List A) (x : A) → IsOneOf ys x → IsOneOf (xs ++ ys) x
has_right [] ys x h = h
has_right (y ∷ xs) ys x h = inr (has_right xs ys x h)

pub has_split : {A : Type 0} (xs ys : List A) (x : A) → IsOneOf (xs ++ ys) x → IsOneOf xs x ⊎ IsOneOf ys x
has_split [] ys x h = inr h
has_split (y ∷ xs) ys x (inl h) = inl (inl h)
has_split (y ∷ xs) ys x (inr h) = ⊎_elim (λ g. inl (inr g)) inr (has_split xs ys x h)
