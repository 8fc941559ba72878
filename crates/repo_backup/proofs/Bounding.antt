-- A backup puts no snapshot of a version that who makes it doesn't know: it works by one config, which is of a version known.
use Rattle.std.proofs.Common.{arith, ◌≡◌, ◌≤◌, ◌++◌, ◌∷◌, [], ℕ, List, length, Option, Some, None, ap, subst, inl, inr, length-append}
use Rattle.std.specs.Bool.{⊤}
use Rattle.repo_name.specs.declared.kinds.Kind.{Kind}
use Rattle.repo_name.specs.declared.names.Name.{Name}
use Rattle.repo_name.specs.declared.tokens.Token.{Token}
use Rattle.repo_session.specs.Clients.{IsObedientWith}
use Rattle.repo_session.specs.Order.{Task, opened, May, IsWorking, IsPermitted, Obeys}
use Rattle.repo_session.specs.Traces.{Exchange, Exchanged, Trace}
use Rattle.repo_session.specs.Versions.{upto}
use Rattle.repo_session.specs.declared.outcomes.Outcome.{Outcome}
use Rattle.repo_tree.proofs.ConfigLemmas.{config_texts_one}
use Rattle.repo_tree.specs.ConfigText.{IsConfigText}
use Rattle.repo_tree.specs.SnapshotText.{IsSnapshotText}
use Rattle.repo_tree.specs.declared.configs.Config.{Config}
use Rattle.repo_tree.specs.declared.snapshots.Snapshot.{Snapshot}
use Rattle.repo_wire.specs.declared.messages.Ask.{Ask}
use Rattle.repo_wire.specs.declared.messages.Request.{Request}
use Rattle.repo_wire.specs.declared.messages.Say.{Say}

-- a snapshot that is put is of a version up to this one
abbrev pub PutsUpto : ℕ → Ask → Type 0
PutsUpto known (Ask.Put token Kind.Snapshot n x) = (s : Snapshot) → IsSnapshotText x s → s.version ≤ known
PutsUpto known ask = ⊤

-- what is allowed, and puts no snapshot of another version
abbrev pub AllowsUpto : ℕ → (Trace → Ask → Type 0) → Trace → Ask → Type 0
AllowsUpto known Allows es ask = Allows es ask × PutsUpto known ask

-- a text is a snapshot's of the version of a config that was read
pub record IsByConfig (es : Trace) (x : List ℕ) : Type 0 where
  pub text : List ℕ
  pub config : Config
  pub read : Exchanged es Ask.Config (Say.Bytes text)
  pub reads : IsConfigText text config
  pub version : (s : Snapshot) → IsSnapshotText x s → s.version ≡ config.version

abbrev pub PutsByConfig : (Trace → Ask → Type 0) → Type 0
PutsByConfig Allows = (es : Trace) (token : Token) (n : Name) (x : List ℕ) → Allows es (Ask.Put token Kind.Snapshot n x) → IsByConfig es x

module _ (task : Task) (Allows : Trace → Ask → Type 0) (Gives : Trace → Exchange → Type 0) (by_config : PutsByConfig Allows) where
  -- the config is read once
  config_once : (token : Token) (read text : List ℕ) (later : Trace) → Obeys task Allows Gives (later ++ opened task token read) → Exchanged (later ++ opened task token read) Ask.Config (Say.Bytes text) → read ≡ text
  config_once token read text [] o (inl h) = let same : Say.Bytes read ≡ Say.Bytes text = h.1 in cc
  config_once token read text [] o (inr (inl h)) = let no = h.0 in absurd (cc)
  config_once token read text [] o (inr (inr (inl h))) = let no = h.0 in absurd (cc)
  config_once token read text [] o (inr (inr (inr h))) = absurd h
  config_once token read text (e ∷ later) o (inl h) =
      let first = subst (λ a. May task (later ++ opened task token read) a) h.0 o.0 in
      absurd (omega (arith, ap length first.1, length-append later (opened task token read)))
  config_once token read text (e ∷ later) o (inr h) = config_once token read text later o.3 h

  snapshot_upto : (es : Trace) (token : Token) (n : Name) (x : List ℕ) → Obeys task Allows Gives es → IsWorking task token es → Allows es (Ask.Put token Kind.Snapshot n x) → (s : Snapshot) → IsSnapshotText x s → s.version ≤ upto task.versions
  snapshot_upto es token n x o working allowed s reads =
      let c = by_config es token n x allowed in
      let w = working.1 in
      let same = config_once token w.text c.text w.later (subst (λ fs. Obeys task Allows Gives fs) w.since o) (subst (λ fs. Exchanged fs Ask.Config (Say.Bytes c.text)) w.since c.read) in
      let one : working.0 ≡ c.config = config_texts_one c.text working.0 c.config (subst (λ t. IsConfigText t working.0) same w.reads) c.reads in
      let known = w.known in
      omega (arith, known, ap (λ (k : Config). k.version) one, c.version s reads)

  put_upto : (es : Trace) (ask : Ask) → Obeys task Allows Gives es → May task es ask → IsPermitted Allows es ask → PutsUpto (upto task.versions) ask
  put_upto es (Ask.Put token Kind.Snapshot n x) o may permitted = snapshot_upto es token n x o may.0 (permitted tt)
  put_upto es (Ask.Put token Kind.Pack n x) o may permitted = tt
  put_upto es (Ask.Put token Kind.Index n x) o may permitted = tt
  put_upto es (Ask.List k after) o may permitted = tt
  put_upto es (Ask.Get k n) o may permitted = tt
  put_upto es (Ask.Range pack offset len) o may permitted = tt
  put_upto es Ask.Ticket o may permitted = tt
  put_upto es (Ask.Lock row) o may permitted = tt
  put_upto es (Ask.Refresh token time) o may permitted = tt
  put_upto es (Ask.Unlock token) o may permitted = tt
  put_upto es Ask.Locks o may permitted = tt
  put_upto es (Ask.Delete token k n) o may permitted = tt
  put_upto es (Ask.Upgrade token) o may permitted = tt
  put_upto es Ask.Config o may permitted = tt

  obeys_upto : (es : Trace) → Obeys task Allows Gives es → Obeys task (AllowsUpto (upto task.versions) Allows) Gives es
  obeys_upto [] o = tt
  obeys_upto (e ∷ es) o = (o.0, (λ work. (o.1 work, put_upto es e.ask o.3 o.0 o.1)), o.2, obeys_upto es o.3)

  -- so a client does where nothing is pending
  pub bounded : (Own : Trace → Outcome → Type 0) (Wanting : Trace → Type 0) (outcome : Option Outcome) (es : Trace) → IsObedientWith task Allows Gives Own Wanting None outcome es
      → IsObedientWith task (AllowsUpto (upto task.versions) Allows) Gives Own Wanting None outcome es
  bounded Own Wanting outcome es h = record {
    obeys = obeys_upto es h.obeys;
    pending = λ request q. absurd (none_pending request q);
    settled = h.settled;
    concluded = h.concluded;
    released = h.released;
    heeded = h.heeded;
    beside = h.beside;
    ending = h.ending;
  }
    where
      none_pending : (request : Request) → None ≡ Some request → ⊥
      none_pending request q = absurd (cc)
