-- A client that takes an item keeps the bag in order.
use Rattle.std.proofs.Common.{◌≡◌, inl, inr, ⊎_elim, ℕ, ◌∷◌, [], List, sym, subst, slice_set}
use Rattle.repo_wire.specs.declared.messages.Ask.{Ask}
use Rattle.repo_pack.specs.PackLayout.{item_of}
use Rattle.repo_session.specs.Feeds.{Fed}
use Rattle.repo_session.specs.Traces.{Trace, Exchanged, fed_in, feeding}
use Rattle.repo_backup.specs.Items.{AreTaken}
use Rattle.repo_backup.proofs.FedOn.{exchanged_fed, fed_exchanged}
use Rattle.repo_world.specs.Bag.{AskedIn, AskedAt, with_next, HasBag}
use Rattle.repo_world.specs.Clients.{Client, MadeOf}
use Rattle.repo_world.specs.Events.{Feeds}
use Rattle.repo_world.specs.World.{World, client, sends}
use Rattle.repo_world.specs.declared.jobs.Job.{Job}
use Rattle.repo_world.proofs.ClientLists.{changed_set}
use Rattle.repo_world.proofs.GoingOn.{GoesOn, keeps_client, old_told}
use Rattle.repo_world.proofs.Later.{Grows}
use Rattle.repo_world.proofs.PieceMaking.{made_fed}
use Rattle.repo_world.proofs.Sending.{trace_asked}
use Rattle.repo_world.proofs.Taking.{sends_joined, sends_lawful, sends_no_reply, split_next, within_as}

-- ---- nothing was asked or said by it

asked_fed : (item : Fed) (es : Trace) (q : ℕ) (a : Ask) → AskedIn (feeding item es) q a → AskedIn es q a
asked_fed item [] q a h = h
asked_fed item (e ∷ es) q a h = h

fed_asked : (item : Fed) (es : Trace) (q : ℕ) (a : Ask) → AskedIn es q a → AskedIn (feeding item es) q a
fed_asked item [] q a h = h
fed_asked item (e ∷ es) q a h = h

fed_taken : (item : Fed) (es : Trace) → AreTaken (item ∷ fed_in es) → AreTaken (fed_in (feeding item es))
fed_taken item [] taken = tt
fed_taken item (e ∷ es) taken = taken

-- ---- an item is taken

made_more : (item : Fed) (b : Job) (es : Trace) → b ≡ Job.Pieces → AreTaken (item ∷ fed_in es) → (x : List ℕ) → MadeOf b es x → MadeOf b (feeding item es) x
made_more item b es is taken x m =
    let made = subst (λ (j : Job). MadeOf j es x) is m in
    subst (λ (j : Job). MadeOf j (feeding item es) x) (sym is) (made.0, made_fed item es taken (item_of made.0 x) made.1)

module _ (w : World) (k : ℕ) (item : Fed) (v : World) (f : Feeds w k item v) where
  abbrev old : Client
  old = client w k

  here : (q : ℕ) (a : Ask) → AskedAt old q a → AskedAt f.new q a
  here q a h = trace_asked f.new.next f.new.trace q a (subst (λ es. AskedIn es q a) (sym f.trace) (fed_asked item old.trace q a (subst (λ n. AskedIn (with_next n old.trace) q a) f.waits.0 h)))

  pub feeds_grows : Grows (client w k) f.new
  feeds_grows = record {
    trace = λ a s h. subst (λ es. Exchanged es a s) (sym f.trace) (fed_exchanged item old.trace a s h);
    asked = here;
    made = λ x m. subst (λ es. MadeOf f.new.job es x) (sym f.trace) (subst (λ (b : Job). MadeOf b (feeding item old.trace) x) (sym f.job) (made_more item old.job old.trace f.fed.1 f.may x m));
  }

  module _ (bag : HasBag w) where
    feeds_on : GoesOn w (slice_set w.clients k f.new) k f.new (sends k f.new.next)
    feeds_on =
        let within = within_as old f.new f.who (bag.within k f.fed.0) in
        record {
          changed = changed_set w.clients k f.new f.fed.0;
          grows = feeds_grows;
          behaves = inr f.dutiful;
          within = λ u. within;
          taken = subst (λ es. AreTaken (fed_in es)) (sym f.trace) (fed_taken item old.trace f.may);
          told = λ a s h. old_told w bag k a s (exchanged_fed item old.trace a s (subst (λ es. Exchanged es a s) f.trace h));
          asked = λ q a h. ⊎_elim (λ g. inl (trace_asked old.next old.trace q a (asked_fed item old.trace q a (subst (λ es. AskedIn es q a) f.trace g)))) inr (split_next k f.new.next f.new.trace q a h);
          joined = sends_joined k f.new f.dutiful within;
          no_reply = λ j r h. sends_no_reply k f.new.next j r h;
          lawful = sends_lawful k f.new f.dutiful within;
        }

    pub feeds_keeps : HasBag v
    feeds_keeps = subst (λ (u : World). HasBag u) (sym f.is) (keeps_client w bag (slice_set w.clients k f.new) k f.new (sends k f.new.next) feeds_on)
