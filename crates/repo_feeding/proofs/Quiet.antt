-- Behind which exchanges a backup that is fed wants no input.
use Rattle.std.proofs.Common.{arith, ◌≡◌, ◌≢◌, ◌≤◌, ◌∷◌, [], ℕ, true, cond, length, None, refl, sym, ap, subst, inl, inr, ◌∙◌}
use Rattle.repo_name.specs.declared.kinds.Kind.{Kind}
use Rattle.repo_wire.specs.declared.messages.Ask.{Ask}
use Rattle.repo_wire.specs.declared.messages.Say.{Say}
use Rattle.repo_session.specs.Ends.{AreHeeded, IsUnwelcome, before_unlock}
use Rattle.repo_session.specs.Order.{IsUnlock, IsWork, May, locked}
use Rattle.repo_session.specs.Sessions.{IsPut, ended_in, who_in}
use Rattle.repo_session.specs.Traces.{Exchange, Trace, is_complete, is_last_page}
use Rattle.repo_session.specs.Versions.{upto}
use Rattle.repo_session.proofs.Sessioning.{put_unwelcome}
use Rattle.repo_backup.specs.PieceBackups.{FitsPieces, IsHungry}
use Rattle.repo_backup.specs.PieceObedience.{pieces_obey}
use Rattle.repo_backup.specs.PieceRules.{PieceAllows}
use Rattle.repo_backup.specs.PieceStates.{IsListedOrGot, piece_task}
use Rattle.repo_backup.specs.declared.piece_backups.PieceBackup.{PieceBackup}
use Rattle.repo_feeding.proofs.Fed.{without_none}
use Rattle.repo_feeding.proofs.Feeding.{hungry_long, hungry_open, hungry_wants}

module _ (b : PieceBackup) (e : Exchange) (fs : Trace) (fits : FitsPieces b (e ∷ fs)) (hungry : IsHungry b) where
  -- it goes on behind no reply that isn't welcome
  unwelcome_over : IsUnwelcome e.ask e.say → ⊥
  unwelcome_over unwelcome =
      let task = piece_task (who_in b.session) in
      let whole = without_none e.ask (e ∷ fs) fs (hungry_open b (e ∷ fs) hungry fits) in
      let heeded : AreHeeded (upto task.versions) task.notes (ended_in b.session) (e ∷ fs) = subst (λ es. AreHeeded (upto task.versions) task.notes (ended_in b.session) es) whole (pieces_obey b (e ∷ fs) fits).heeded in
      let by = heeded.0 (inr (inl unwelcome)) in
      let none = hungry.1 in
      let some = by.1 in
      absurd (cc)

  -- it wants input behind the reading, and behind a put that is done, and nowhere else
  quiet_at : (ask : Ask) → e.ask ≡ ask → (IsListedOrGot ask → IsUnwelcome ask e.say) → (IsPut ask → e.say ≢ Say.Done) → ⊥
  quiet_at Ask.Ticket is reads puts =
      let none = subst (λ a. May (piece_task (who_in b.session)) fs a) is (pieces_obey b (e ∷ fs) fits).obeys.0 in
      let long = hungry_long b (e ∷ fs) hungry fits in
      absurd (omega (arith, long, ap length none))
  quiet_at (Ask.Lock row) is reads puts =
      let may = subst (λ a. May (piece_task (who_in b.session)) fs a) is (pieces_obey b (e ∷ fs) fits).obeys.0 in
      let long = hungry_long b (e ∷ fs) hungry fits in
      absurd (omega (arith, long, ap length may.1))
  quiet_at Ask.Config is reads puts =
      let may = subst (λ a. May (piece_task (who_in b.session)) fs a) is (pieces_obey b (e ∷ fs) fits).obeys.0 in
      let complete = (hungry_wants b (e ∷ fs) hungry fits).indexes.listed.complete in
      let here = subst (λ a. cond (is_last_page Kind.Index a e.say) true (is_complete Kind.Index fs) ≡ true) is complete in
      let there = subst (λ es. is_complete Kind.Index es ≡ true) may.1 here in
      absurd (cc)
  quiet_at (Ask.Refresh token time) is reads puts = absurd (subst (λ a. May (piece_task (who_in b.session)) fs a) is (pieces_obey b (e ∷ fs) fits).obeys.0)
  quiet_at Ask.Locks is reads puts = absurd (subst (λ a. May (piece_task (who_in b.session)) fs a) is (pieces_obey b (e ∷ fs) fits).obeys.0)
  quiet_at (Ask.List k after) is reads puts = unwelcome_over (subst (λ a. IsUnwelcome a e.say) (sym is) (reads tt))
  quiet_at (Ask.Get k n) is reads puts = unwelcome_over (subst (λ a. IsUnwelcome a e.say) (sym is) (reads tt))
  quiet_at (Ask.Range pack offset len) is reads puts = absurd (subst (λ a. IsWork a → PieceAllows fs a) is (pieces_obey b (e ∷ fs) fits).obeys.1 tt).0
  quiet_at (Ask.Put token k n x) is reads puts = unwelcome_over (subst (λ a. IsUnwelcome a e.say) (sym is) (put_unwelcome token k n x e.say (puts (token, k, n, x, refl))))
  quiet_at (Ask.Delete token k n) is reads puts = absurd (subst (λ a. IsWork a → PieceAllows fs a) is (pieces_obey b (e ∷ fs) fits).obeys.1 tt)
  quiet_at (Ask.Upgrade token) is reads puts = absurd (subst (λ a. IsWork a → PieceAllows fs a) is (pieces_obey b (e ∷ fs) fits).obeys.1 tt)
  quiet_at (Ask.Unlock token) is reads puts = absurd (subst (λ a. ¬ IsUnlock a) is (hungry_open b (e ∷ fs) hungry fits) tt)

-- behind another reply than one of the reading, or to a put that is done, it wants no input
pub quiet_behind : (b : PieceBackup) (e : Exchange) (fs : Trace) → FitsPieces b (e ∷ fs) → (IsListedOrGot e.ask → IsUnwelcome e.ask e.say) → (IsPut e.ask → e.say ≢ Say.Done) → ¬ IsHungry b
quiet_behind b e fs fits reads puts hungry = quiet_at b e fs fits hungry e.ask refl reads puts
