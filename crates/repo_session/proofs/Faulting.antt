-- A fault of a text for who knows fewer versions is one for who knows more, but for the version itself.
use Rattle.std.proofs.Common.{◌≢◌, ◌≤◌, ℕ, List, inl, inr, ⊎_elim, refl, arith}
use Rattle.repo_tree.specs.SnapshotText.{SnapshotFault}
use Rattle.repo_tree.specs.Versions.{greatest_version, IsKnownTo}
use Rattle.repo_tree.specs.declared.faults.TextError.{TextError}
use Rattle.repo_session.specs.Versions.{upto}
use Rattle.repo_session.specs.declared.versions.Versions.{Versions}

-- no more versions are known than there are
pub known_exist : (versions : Versions) → upto versions ≤ greatest_version
known_exist Versions.One = omega arith
known_exist Versions.Both = omega arith

module _ (known : ℕ) (few : known ≤ greatest_version) where
  known_still : (v : ℕ) → IsKnownTo known v → IsKnownTo greatest_version v
  known_still v h = (h.0, omega (arith, few, h.1))

  pub snapshot_fault : (x : List ℕ) (fault : TextError) → fault ≢ TextError.Version → SnapshotFault known x fault → SnapshotFault greatest_version x fault
  snapshot_fault x TextError.TooLarge other h = h
  snapshot_fault x TextError.Json other h = h
  snapshot_fault x TextError.Shape other h = (h.0, h.1, ⊎_elim inl (λ m. inr (m.0, m.1, known_still m.0 m.2, m.3)) h.2)
  snapshot_fault x TextError.Version other h = absurd (other refl)
  snapshot_fault x TextError.Params other h = h
  snapshot_fault x TextError.Memory other h = h
