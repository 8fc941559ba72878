-- What a client reported it goes on to report; and what follows from that over every run.
use Rattle.std.specs.Prelude.{⊤}
use Rattle.std.proofs.Common.{◌≡◌, inl, inr, ℕ, ◌++◌, ◌∷◌, [], List, length, sym, ◌∙◌, ap, subst, Option, Some, None, slice_get, slice_set}
use Rattle.std.proofs.lemmas.Option.{none-some}
use Rattle.repo_wire.specs.declared.messages.Ask.{Ask}
use Rattle.repo_wire.specs.declared.messages.Say.{Say}
use Rattle.repo_store.specs.Failing.{Plainly, Failing}
use Rattle.repo_store.specs.Stores.{Store}
use Rattle.repo_session.specs.declared.outcomes.Outcome.{Outcome}
use Rattle.repo_world.specs.Bag.{HasBag}
use Rattle.repo_world.specs.Clients.{Client}
use Rattle.repo_session.specs.Feeds.{Fed}
use Rattle.repo_backup.specs.Items.{fed_of, fed_part}
use Rattle.repo_backup.specs.declared.items.Item.{Item}
use Rattle.repo_world.specs.Events.{Delivers, Feeds, Gives, Happens, Run}
use Rattle.repo_world.specs.Laws.{Behaves, AllBehave}
use Rattle.repo_world.specs.Safe.{HasNoClash}
use Rattle.repo_world.specs.World.{World, Message, client, Asked, Said, sends, started, first_of, crashed_one, beginning}
use Rattle.repo_world.specs.declared.events.Event.{Event}
use Rattle.repo_world.specs.declared.events.Applied.{Applied}
use Rattle.repo_world.proofs.ClientLists.{Changed, each, changed_set, changed_end, absent_end}
use Rattle.repo_world.proofs.Failing.{failing_step}
use Rattle.repo_world.proofs.Happening.{begins}
use Rattle.repo_world.proofs.Running.{run_calm, run_keeps}
use Rattle.repo_world.proofs.Safety.{bag_safe}
use Rattle.repo_world.proofs.Taking.{crashed_behaves, started_dutiful}
use Rattle.repo_runs.specs.BagLaws.{EverySnapshotIsVersioned, EachUpgradeHolds}
use Rattle.repo_runs.specs.Laws.{EachEventKeepsReports, EachReportHolds, FailingIsAStep}
use Rattle.repo_runs.proofs.Requests.{upgraded_of_version}

pub failing_is_step : FailingIsAStep
failing_is_step fail old ask say new h = failing_step ⊤ fail old ask say new h

-- ---- reports

-- what became of one client
abbrev Goes : World → ℕ → Client → Type 0
Goes w k c = Behaves c × ((o : Outcome) → (client w k).outcome ≡ Some o → c.outcome ≡ Some o)

abbrev Went : World → World → Type 0
Went w v = (k : ℕ) → Goes w k (client v k)

same_went : (w : World) → AllBehave w → Went w w
same_went w b k = (b k, λ o e. e)

stays_went : (w v : World) → AllBehave w → v ≡ w → Went w v
stays_went w v b e = subst (Went w) (sym e) (same_went w b)

one_went : (w : World) (clients : List Client) (messages : List Message) (k : ℕ) (c : Client) → AllBehave w → Changed w.clients clients k c → Goes w k c → Went w (record { store = w.store; clients = clients; messages = messages })
one_went w clients messages k c b ch g = each (Goes w) w.clients clients k c ch (same_went w b) g

module _ (w : World) (b : AllBehave w) where
  delivered : (How : Store → Ask → Say → Store → Type 0) (o : Option Message) (r : Applied) (v : World) → Delivers How w o r v → Went w v
  delivered How None r v h = stays_went w v b h.1
  delivered How (Some (Asked k request)) r v (a, h) = subst (Went w) (sym h.is) (λ j. (b j, λ o e. e))
  delivered How (Some (Said k reply)) r v (inl (a, t)) = subst (Went w) (sym t.is) (one_went w (slice_set w.clients k t.new) (w.messages ++ sends k t.new.next) k t.new b (changed_set w.clients k t.new t.running) (inr t.dutiful, t.stays))
  delivered How (Some (Said k reply)) r v (inr (inl h)) = stays_went w v b h.3
  delivered How (Some (Said k reply)) r v (inr (inr h)) = stays_went w v b h.2

  fed : (k : ℕ) (item : Fed) (v : World) → Feeds w k item v → Went w v
  fed k item v f = subst (Went w) (sym f.is)
      (one_went w (slice_set w.clients k f.new) (w.messages ++ sends k f.new.next) k f.new b (changed_set w.clients k f.new f.fed.0) (inr f.dutiful, λ o e. absurd (none-some o (sym f.waits.1 ∙ e))))

  gave : (k : ℕ) (item : Item) (r : Applied) (v : World) → Gives w k item r v → Went w v
  gave k item r v (inl h) = fed k (fed_of item) v h.1
  gave k item r v (inr (inl h)) = fed k (fed_part h.0 item) v h.2.part
  gave k item r v (inr (inr (inl h))) = stays_went w v b h.2.is
  gave k item r v (inr (inr (inr h))) = stays_went w v b h.2

  happened : (e : Event) (r : Applied) (v : World) → Happens ⊤ w e r v → Went w v
  happened (Event.Start job host time old) r v (inl (a, s)) = subst (Went w) (sym s.is)
      (one_went w (w.clients ++ started (length w.clients) job host time old ∷ []) (w.messages ++ Asked (length w.clients) (first_of (length w.clients)) ∷ []) (length w.clients) (started (length w.clients) job host time old) b
      (changed_end w.clients (started (length w.clients) job host time old))
      (inr (started_dutiful (length w.clients) job host time old), λ o e. absurd (none-some o (sym (ap (λ (c : Client). c.outcome) (absent_end w.clients)) ∙ e))))
  happened (Event.Start job host time old) r v (inr h) = stays_went w v b h.3
  happened (Event.Deliver i) r v h = delivered (Plainly ⊤) (slice_get w.messages i) r v h
  happened (Event.Fault i f) r v h = delivered (Failing ⊤ f) (slice_get w.messages i) r v h
  happened (Event.Ask request) r v (inl (d, a)) = subst (Went w) (sym a.is) (λ j. (b j, λ o e. e))
  happened (Event.Ask request) r v (inr h) = stays_went w v b h.2
  happened (Event.Feed k item) r v h = gave k item r v h
  happened (Event.Crash k) r v (inl (a, c)) = subst (Went w) (sym c.is)
      (one_went w (slice_set w.clients k (crashed_one (client w k))) w.messages k (crashed_one (client w k)) b (changed_set w.clients k (crashed_one (client w k)) c.running) (crashed_behaves (client w k) c.running (b k), λ o e. e))
  happened (Event.Crash k) r v (inr h) = stays_went w v b h.2
  happened Event.Restart r v h = stays_went w v b h.1

pub keeps_reports : EachEventKeepsReports
keeps_reports w v e r h b = let g = happened w b e r v h in ((λ k. (g k).0), (λ k. (g k).1))

run_behaves : (w : World) (es : List Event) (v : World) → Run w es v → AllBehave w → AllBehave v
run_behaves w [] v h b = subst (λ (u : World). AllBehave u) (sym h) b
run_behaves w (e ∷ es) v h b = run_behaves h.0 es v h.2 (keeps_reports w h.0 e h.1.0 h.1.1 b).0

run_reports : (w : World) (es : List Event) (v : World) → Run w es v → AllBehave w → (k : ℕ) (o : Outcome) → (client w k).outcome ≡ Some o → (client v k).outcome ≡ Some o
run_reports w [] v h b k o e = ap (λ (x : World). (client x k).outcome) h ∙ e
run_reports w (a ∷ es) v h b k o e = let g = keeps_reports w h.0 a h.1.0 h.1.1 b in run_reports h.0 es v h.2 g.0 k o (g.1 k o e)

pub each_report_holds : EachReportHolds
each_report_holds store empty events more w last run rest clash k s blobs bytes e =
    let calm : HasNoClash w = run_calm w more last rest clash in
    let bag : HasBag w = run_keeps (beginning store) events w (begins store empty) run calm in
    let after : HasBag last = run_keeps w more last bag rest clash in
    let still : (client last k).outcome ≡ Some (Outcome.Stored s blobs bytes) = run_reports w more last rest bag.behave k (Outcome.Stored s blobs bytes) e in
    (bag_safe last after clash).stored k s blobs bytes still

-- ---- versions

pub every_snapshot_versioned : EverySnapshotIsVersioned
every_snapshot_versioned store empty events more w last run rest clash n x there =
    (run_keeps (beginning store) events w (begins store empty) run (run_calm w more last rest clash)).versions n x there

pub each_upgrade_holds : EachUpgradeHolds
each_upgrade_holds store empty events more w last run rest clash k e =
    let calm : HasNoClash w = run_calm w more last rest clash in
    let bag : HasBag w = run_keeps (beginning store) events w (begins store empty) run calm in
    upgraded_of_version last k (run_keeps w more last bag rest clash) (run_reports w more last rest bag.behave k Outcome.Upgraded e)
