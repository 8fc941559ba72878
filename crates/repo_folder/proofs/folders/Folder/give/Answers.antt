use Rattle.std.proofs.Common.{rules, ◌≡◌, ◌∙◌, inl, inr, true, sym}
use Rattle.std.proofs.lemmas.Bool.{true≢false}
use Rattle.repo_folder.proofs.Settling.{honest_placed}
use Rattle.repo_folder.proofs.folders.Folder.give.Goals as goal

pub returns-in_err-placed-clause-honest : goal.returns-in_err-placed-clause-honest
returns-in_err-placed-clause-honest g c bytes was h =
    let placed = c.place-placed.ensures in
    let synced = c.sync-synced.ensures in
    let faithful = g.D.Disk.faithful in
    let state = g.D.Disk.state in
    let keeps = placed.faithful h.faithful in
    rw (c.note.ensures.standing, c.note.ensures.disk) (honest_placed (faithful c.args.self.now.disk) (faithful c.sync-synced.new.self) c.args.room c.args.name.now (state c.args.self.now.disk) (state c.place-placed.new.self.disk)
    (state c.sync-synced.new.self) h (synced.faithful keeps) c.requires.kept c.args.draft.now bytes was c.place-placed.result c.sync-synced.result (placed.law h.faithful) (synced.law keeps))

pub returns-clause-failed : goal.returns-clause-failed
returns-clause-failed g c =
    let made : c.is_ok.result ≡ true = search rules in (
      λ h. elim (c.note.ensures.failed.0 h) [ inl was ↦ inl (sym c.place-placed.ensures.failed ∙ was) | inr new ↦ elim new [ inl none ↦ absurd (true≢false (sym made ∙ none)) | inr err ↦ inr err ] ],
      λ h. c.note.ensures.failed.1 (elim h [ inl was ↦ inl (c.place-placed.ensures.failed ∙ was) | inr err ↦ inr (inr err) ]),
    )
