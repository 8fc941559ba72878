-- What is known of an item that was given to a client.
use Rattle.std.proofs.Common.{arith, ◌≡◌, ◌≢◌, ◌⊎◌, inl, inr, ⊎_elim, ℕ, Bor, List, length, take, take_all, Option, Some, None, refl, ap}
use Rattle.repo_wire.specs.declared.messages.Request.{Request}
use Rattle.repo_session.specs.declared.outcomes.Outcome.{Outcome}
use Rattle.repo_session.specs.Feeds.{fed_bytes}
use Rattle.repo_session.specs.Traces.{fed_in}
use Rattle.repo_backup.specs.Items.{ItemFault, fed_of, fed_part, place_of, size_of}
use Rattle.repo_backup.specs.declared.items.FeedError.{FeedError}
use Rattle.repo_backup.specs.declared.items.Item.{Item}
use Rattle.repo_backup.specs.declared.piece_backups.PieceBackup.{PieceBackup}
use Rattle.repo_world.specs.AnyClients.{given_to}
use Rattle.repo_world.specs.Clients.{Client, IsWaiting}
use Rattle.repo_world.specs.Events.{RefusesItem}
use Rattle.repo_world.specs.Seats.{part_of}
use Rattle.repo_world.specs.declared.any_clients.AnyClient.{AnyClient}
use Rattle.repo_world.specs.declared.jobs.Job.{Job}

-- a client with such a job is a backup that is fed
pub fed_is : (c : AnyClient) → (given_to c).handed ≡ Job.Pieces → (b : PieceBackup) × (c ≡ AnyClient.Pieces b)
fed_is (AnyClient.Pieces b) e = (b, refl)
fed_is (AnyClient.Backup b) e = absurd (cc)
fed_is (AnyClient.Restore b) e = absurd (cc)
fed_is (AnyClient.List b) e = absurd (cc)
fed_is (AnyClient.Forget b) e = absurd (cc)
fed_is (AnyClient.Prune b) e = absurd (cc)
fed_is (AnyClient.Check b) e = absurd (cc)
fed_is (AnyClient.Upgrade b) e = absurd (cc)

-- a part of the whole is that part
pub part_is : (n : ℕ) (item : Item) → part_of n (fed_of item) ≡ fed_part n item
part_is n (Item.Dir name) = refl
part_is n (Item.File name) = refl
part_is n (Item.Bytes piece) = ap (λ bytes. fed_bytes (take n bytes)) (take_all (length piece.now) piece.now (omega arith))
part_is n Item.Close = refl
part_is n Item.End = refl
part_is n Item.Abandon = refl

-- what is no piece has no bytes
pub size_none : (item : Item) → ((piece : Bor (List ℕ)) → item ≡ Item.Bytes piece → ⊥) → size_of item ≡ 0
size_none (Item.Dir name) other = refl
size_none (Item.File name) other = refl
size_none (Item.Bytes piece) other = absurd (other piece refl)
size_none Item.Close other = refl
size_none Item.End other = refl
size_none Item.Abandon other = refl

-- it waits, or it doesn't
waits_or : (next : Option Request) (outcome : Option Outcome) → ((next ≡ None) × (outcome ≡ None)) ⊎ ((next ≡ None) × (outcome ≡ None) → ⊥)
waits_or None None = inl (refl, refl)
waits_or None (Some o) = inr (λ h. (let e : Some o ≡ None = h.1 in absurd (cc)))
waits_or (Some r) o = inr (λ h. (let e : Some r ≡ None = h.0 in absurd (cc)))

pub refuses : (c : Client) (item : Item) (e : FeedError) → e ≢ FeedError.Memory → (¬ IsWaiting c → e ≡ FeedError.NotWanted) → (IsWaiting c → ItemFault (place_of (fed_in c.trace)) (fed_of item) e) → RefusesItem c item e
refuses c item e other unwanted fault = (other, ⊎_elim (λ waits. inr (waits, fault waits)) (λ busy. inl (busy, unwanted busy)) (waits_or c.next c.outcome))
