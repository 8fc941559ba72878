-- In which stage of a prune a put or a delete is pending, and which replies to them aren't wanted.
use Rattle.std.proofs.Common.{◌≡◌, ◌≢◌, ℕ, List, Option, refl}
use Rattle.repo_pack.specs.declared.places.Place.{Place}
use Rattle.repo_name.specs.declared.kinds.Kind.{Kind}
use Rattle.repo_name.specs.declared.names.Name.{Name}
use Rattle.repo_name.specs.declared.tokens.Token.{Token}
use Rattle.repo_wire.specs.declared.messages.Ask.{Ask}
use Rattle.repo_wire.specs.declared.messages.Say.{Say}
use Rattle.repo_session.specs.Ends.{IsUnwelcome}
use Rattle.repo_session.specs.Traces.{Trace}
use Rattle.repo_prune.specs.PruneStates.{Known, KnowsStage}
use Rattle.repo_prune.specs.declared.deleting.Deleting.{Deleting}
use Rattle.repo_prune.specs.declared.moving.Moving.{Moving}
use Rattle.repo_prune.specs.declared.prunes.Stage.{Stage}
use Rattle.repo_prune.specs.declared.relisting.Relisting.{Relisting}

pub delete_pending : (k : Known) (stage : Stage) (token : Token) (kind : Kind) (n : Name) (es : Trace) → KnowsStage k stage (Ask.Delete token kind n) es → (d : Deleting) × (stage ≡ Stage.Deleting d)
delete_pending k Stage.Listing token kind n es h = absurd h
delete_pending k (Stage.Walking trees fact) token kind n es h = let asks = h.asks in absurd (cc)
delete_pending k (Stage.Moving m place) token kind n es h = absurd h
delete_pending k (Stage.Relisting r) token kind n es h = absurd h
delete_pending k (Stage.Deleting d) token kind n es h = (d, refl)

pub pack_pending : (k : Known) (stage : Stage) (token : Token) (n : Name) (x : List ℕ) (es : Trace) → KnowsStage k stage (Ask.Put token Kind.Pack n x) es → (m : Moving) × (place : Option Place) × (stage ≡ Stage.Moving m place)
pack_pending k Stage.Listing token n x es h = absurd h
pack_pending k (Stage.Walking trees fact) token n x es h = let asks = h.asks in absurd (cc)
pack_pending k (Stage.Moving m place) token n x es h = (m, place, refl)
pack_pending k (Stage.Relisting r) token n x es h = absurd h
pack_pending k (Stage.Deleting d) token n x es h = absurd h

pub index_pending : (k : Known) (stage : Stage) (token : Token) (n : Name) (x : List ℕ) (es : Trace) → KnowsStage k stage (Ask.Put token Kind.Index n x) es → (r : Relisting) × (stage ≡ Stage.Relisting r)
index_pending k Stage.Listing token n x es h = absurd h
index_pending k (Stage.Walking trees fact) token n x es h = let asks = h.asks in absurd (cc)
index_pending k (Stage.Moving m place) token n x es h = absurd h
index_pending k (Stage.Relisting r) token n x es h = (r, refl)
index_pending k (Stage.Deleting d) token n x es h = absurd h

pub delete_unwelcome : (token : Token) (kind : Kind) (n : Name) (say : Say) → say ≢ Say.Done → IsUnwelcome (Ask.Delete token kind n) say
delete_unwelcome token kind n (Say.Token t) other = λ suits. suits
delete_unwelcome token kind n Say.Done other = absurd (other refl)
delete_unwelcome token kind n (Say.Names more names) other = λ suits. suits
delete_unwelcome token kind n (Say.Bytes y) other = λ suits. suits
delete_unwelcome token kind n (Say.LockList rows) other = λ suits. suits
delete_unwelcome token kind n (Say.Refused code) other = tt
