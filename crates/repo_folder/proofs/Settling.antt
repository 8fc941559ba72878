use Rattle.std.proofs.Common.{◌≡◌, ◌⊎◌, inl, inr, ℕ, Bool, true, false, List, Option, Some, None, option_map, Result, Ok, Err, refl, sym, ap, subst, ◌∙◌}
use Rattle.repo_disk.specs.Disks.{State, seen, Leaves, ChangesDrafts, Gives, Places, Makes, Takes, Syncs, IsSynced}
use Rattle.repo_disk.specs.declared.disks.DiskError.{DiskError}
use Rattle.repo_disk.specs.declared.files.File.{File}
use Rattle.repo_disk.specs.declared.rooms.Room.{Room}
use Rattle.repo_folder.specs.Folders.{IsKept, IsHonest, IsMade, noted}
use Rattle.repo_folder.specs.declared.folders.Standing.{Standing}

-- a name whose file lasts comes to what is seen of it
leaves_seen : (now : Option File) (left : Option (List ℕ)) → ((file : File) → now ≡ Some file → file.lasts ≡ true) → Leaves now left → left ≡ option_map (λ (file : File). file.bytes) now
leaves_seen None left lasts none = none
leaves_seen (Some file) left lasts some = some.1 ∙ ap Some (some.2 (lasts file refl))

-- a folder in which at most one name may be undone
pub record IsAlmostSettled (room : Room) (name : List ℕ) (s : State) : Type 0 where
  pub files : (r : Room) (n : List ℕ) (file : File) → IsKept r → s.now r n ≡ Some file → file.lasts ≡ true
  pub lasting : (r : Room) → IsKept r → s.lasting r ≡ true
  pub others : (r : Room) (n : List ℕ) → IsKept r → ((r ≡ room) × (n ≡ name)) ⊎ (s.fate r n ≡ seen s r n)

kept_is_no_draft : (r : Room) → IsKept r → r ≡ Room.Temporary → ⊥
kept_is_no_draft r is e = subst IsKept e is

no_change : (s t : State) → t ≡ s → ChangesDrafts s t
no_change s t same = subst (ChangesDrafts s) (sym same) record { now = λ r n. inr refl; fate = λ r n. inr refl; lasting = refl }

-- among the files that are being written something changes behind a change
module _ (s t u : State) (then : ChangesDrafts t u) where
  drafts_then : ChangesDrafts s t → ChangesDrafts s u
  drafts_then d = record {
    now = λ r n. elim (then.now r n) [ inl x ↦ inl x | inr e ↦ elim (d.now r n) [ inl x ↦ inl x | inr k ↦ inr (e ∙ k) ] ];
    fate = λ r n. elim (then.fate r n) [ inl x ↦ inl x | inr e ↦ elim (d.fate r n) [ inl x ↦ inl x | inr k ↦ inr (e ∙ k) ] ];
    lasting = then.lasting ∙ d.lasting;
  }

  gives_then : (room : Room) (name : List ℕ) (given : Option File) → IsKept room → Gives room name given s t → Gives room name given s u
  gives_then room name given kept d = record {
    here = elim (then.now room name) [ inl x ↦ absurd (kept_is_no_draft room kept x) | inr e ↦ e ∙ d.here ];
    comes = elim (then.fate room name) [
      | inl x ↦ inl x
      | inr e ↦ elim d.comes [ inl x ↦ inl x | inr k ↦ inr (elim k [ inl same ↦ inl (e ∙ same) | inr left ↦ inr (subst (Leaves given) (sym e) left) ]) ]
    ];
    now = λ r n. elim (then.now r n) [ inl x ↦ inl x | inr e ↦ elim (d.now r n) [ inl x ↦ inl x | inr k ↦ inr (elim k [ inl p ↦ inl p | inr same ↦ inr (e ∙ same) ]) ] ];
    fate = λ r n. elim (then.fate r n) [ inl x ↦ inl x | inr e ↦ elim (d.fate r n) [ inl x ↦ inl x | inr k ↦ inr (elim k [ inl p ↦ inl p | inr same ↦ inr (e ∙ same) ]) ] ];
    lasting = then.lasting ∙ d.lasting;
  }

  -- a rename that was made or not
  pub placed_then : (draft : List ℕ) (room : Room) (name : List ℕ) → IsKept room → (made : Result (Unit {0}) DiskError) → Makes (Places draft room name) s made t → Makes (Places draft room name) s made u
  placed_then draft room name kept (Ok done) w = (w.0, w.1, gives_then room name (Some w.0) kept w.2)
  placed_then draft room name kept (Err DiskError.Failed) w = elim w [ inl d ↦ inl (drafts_then d) | inr p ↦ inr (p.0, p.1, gives_then room name (Some p.0) kept p.2) ]
  placed_then draft room name kept (Err DiskError.Memory) w = drafts_then w

-- what is settled is so, whatever is noted of it
pub honest_settled : (F : Type 0) (noted : Standing) (s : State) → IsHonest F Standing.Settled s → IsHonest F noted s
honest_settled F noted s h = record { faithful = h.faithful; top = h.top; files = h.files; settled = λ _. h.settled refl }

module _ (G : Type 0) (room : Room) (name : List ℕ) (t u : State) (keeps : G) (kept : IsKept room) (almost : IsAlmostSettled room name t) where
  settled_in : IsSynced room t u → (r : Room) (n : List ℕ) → IsKept r → t.fate r n ≡ seen t r n
  settled_in synced r n is = elim (almost.others r n is) [
    | inl p ↦ leaves_seen (t.now r n) (t.fate r n) (λ file e. almost.files r n file is e) (subst (λ q. Leaves (t.now q n) (t.fate q n)) (sym p.0) (synced.decided (almost.lasting room kept) n))
    | inr e ↦ e
  ]

  after_sync : (result : Result (Unit {0}) DiskError) → Syncs room t result u → IsHonest G (noted result) u
  after_sync (Ok done) synced = record {
    faithful = keeps;
    top = synced.stays Room.Top (almost.lasting Room.Top tt);
    files = λ r n file is e. almost.files r n file is (sym (ap (λ now. now r n) synced.now) ∙ e);
    settled = λ noted r is. (
      synced.stays r (almost.lasting r is),
      λ n. ap (λ fate. fate r n) synced.fate ∙ settled_in synced r n is ∙ ap (λ now. option_map (λ (file : File). file.bytes) (now r n)) (sym synced.now),
    );
  }
  after_sync (Err DiskError.Failed) same = subst (IsHonest G Standing.Unsettled) (sym same) record {
    faithful = keeps;
    top = almost.lasting Room.Top tt;
    files = almost.files;
    settled = λ noted. absurd (let e : Standing.Unsettled ≡ Standing.Settled = noted in cc);
  }
  after_sync (Err DiskError.Memory) none = absurd none

module _ (F G : Type 0) (room : Room) (name : List ℕ) (s t u : State) (h : IsHonest F Standing.Settled s) (keeps : G) (kept : IsKept room) where
  drafts_almost : ChangesDrafts s t → IsAlmostSettled room name t
  drafts_almost d = record {
    files = λ r n file is e. elim (d.now r n) [ inl x ↦ absurd (kept_is_no_draft r is x) | inr same ↦ h.files r n file is (sym same ∙ e) ];
    lasting = λ r is. ap (λ l. l r) d.lasting ∙ (h.settled refl r is).0;
    others = λ r n is. elim (d.now r n) [
      | inl x ↦ absurd (kept_is_no_draft r is x)
      | inr now ↦ elim (d.fate r n) [
        | inl x ↦ absurd (kept_is_no_draft r is x)
        | inr fate ↦ inr (fate ∙ (h.settled refl r is).1 n ∙ ap (option_map (λ (file : File). file.bytes)) (sym now))
      ]
    ];
  }

  gives_almost : (given : Option File) → ((file : File) → given ≡ Some file → file.lasts ≡ true) → Gives room name given s t → IsAlmostSettled room name t
  gives_almost given lasts d = record {
    files = λ r n file is e. elim (d.now r n) [
      | inl x ↦ absurd (kept_is_no_draft r is x)
      | inr k ↦ elim k [
        | inl p ↦ lasts file (sym d.here ∙ sym (ap (λ q. t.now q name) p.0) ∙ sym (ap (λ m. t.now r m) p.1) ∙ e)
        | inr same ↦ h.files r n file is (sym same ∙ e)
      ]
    ];
    lasting = λ r is. ap (λ l. l r) d.lasting ∙ (h.settled refl r is).0;
    others = λ r n is. elim (d.now r n) [
      | inl x ↦ absurd (kept_is_no_draft r is x)
      | inr k ↦ elim k [
        | inl p ↦ inl p
        | inr now ↦ elim (d.fate r n) [
          | inl x ↦ absurd (kept_is_no_draft r is x)
          | inr l ↦ elim l [
            | inl p ↦ inl p
            | inr fate ↦ inr (fate ∙ (h.settled refl r is).1 n ∙ ap (option_map (λ (file : File). file.bytes)) (sym now))
          ]
        ]
      ]
    ];
  }

  -- a change that was made or not, and the sync of its folder that was made or not
  honest_after : (W : State → State → Type 0) → (W s t → IsAlmostSettled room name t) → (made synced : Result (Unit {0}) DiskError) → Makes W s made t → Syncs room t synced u → IsHonest G (noted synced) u
  honest_after W almost (Ok done) synced w k = after_sync G room name t u keeps kept (almost w) synced k
  honest_after W almost (Err DiskError.Failed) synced w k = elim w [
    | inl d ↦ after_sync G room name t u keeps kept (drafts_almost d) synced k
    | inr w' ↦ after_sync G room name t u keeps kept (almost w') synced k
  ]
  honest_after W almost (Err DiskError.Memory) synced w k = after_sync G room name t u keeps kept (drafts_almost w) synced k

  taken_almost : Gives room name None s t → IsAlmostSettled room name t
  taken_almost d = gives_almost None (λ file e. absurd (let k : None ≡ Some file = e in cc)) d

  placed_almost : (draft bytes : List ℕ) → s.now Room.Temporary draft ≡ Some (record { bytes = bytes; lasts = true }) → Places draft room name s t → IsAlmostSettled room name t
  placed_almost draft bytes was p = gives_almost (Some p.0) (λ file e. lasts_of (sym e ∙ sym p.1 ∙ was)) p.2
    where
      lasts_of : {file : File} → Some file ≡ Some (record { bytes = bytes; lasts = true }) → file.lasts ≡ true
      lasts_of {file} e = ap (λ o. lasts_in o) e where
        lasts_in : Option File → Bool
        lasts_in None = true
        lasts_in (Some f) = f.lasts

  pub honest_taken : (taken : Result Bool DiskError) (synced : Result (Unit {0}) DiskError) → Takes room name s taken t → Syncs room t synced u → IsHonest G (noted synced) u
  honest_taken (Ok true) synced w k = after_sync G room name t u keeps kept (taken_almost w.1) synced k
  honest_taken (Ok false) synced w k = after_sync G room name t u keeps kept (drafts_almost (no_change s t w.1)) synced k
  honest_taken (Err DiskError.Failed) synced w k = elim w [
    | inl d ↦ after_sync G room name t u keeps kept (drafts_almost d) synced k
    | inr g ↦ after_sync G room name t u keeps kept (taken_almost g) synced k
  ]
  honest_taken (Err DiskError.Memory) synced w k = after_sync G room name t u keeps kept (drafts_almost w) synced k

  pub honest_placed : (draft bytes : List ℕ) → s.now Room.Temporary draft ≡ Some (record { bytes = bytes; lasts = true }) → (made synced : Result (Unit {0}) DiskError)
      → Makes (Places draft room name) s made t → Syncs room t synced u → IsHonest G (noted synced) u
  honest_placed draft bytes was made synced w k = honest_after (Places draft room name) (placed_almost draft bytes was) made synced w k

-- where folders were made nothing else is known than before
pub honest_made : (F G : Type 0) (s t : State) → IsHonest F Standing.Unsettled s → G → IsMade s t → IsHonest G Standing.Unsettled t
honest_made F G s t h keeps made = record {
  faithful = keeps;
  top = made.top h.top;
  files = λ r n file is e. h.files r n file is (sym (ap (λ now. now r n) made.now) ∙ e);
  settled = λ noted. absurd (let e : Standing.Unsettled ≡ Standing.Settled = noted in cc);
}
