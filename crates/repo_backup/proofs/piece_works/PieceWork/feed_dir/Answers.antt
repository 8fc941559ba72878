use Rattle.std.proofs.Common.{◌≡◌, ◌∷◌, [], ℕ, List, false, is_some, refl, sym, ap, subst, inl, ◌∙◌, append-nil}
use Rattle.repo_backup.specs.Folders.{nothing}
use Rattle.repo_backup.specs.Pieces.{IsAt, waiting_in}
use Rattle.repo_backup.specs.Standings.{IsCutSoFar, made_at}
use Rattle.repo_backup.specs.declared.piece_works.PieceWork.{PieceWork}
use Rattle.repo_backup.proofs.Leading.{next_dir}
use Rattle.repo_backup.proofs.PackingLemmas.{on_any}
use Rattle.repo_backup.proofs.PieceTaking.{memory_told}
use Rattle.repo_backup.proofs.Piecing.{stands_on}
use Rattle.repo_session.specs.Feeds.{fed_dir}
use Rattle.repo_backup.proofs.piece_works.PieceWork.feed_dir.Goals as goal

pub returns-clause-ok : goal.returns-clause-ok
unfolding next_dir
returns-clause-ok c = λ known. (
  refl,
  λ st sent h.
      let w = c.args.self.now in
      let v : PieceWork = record w { walk = c.begin_dir.new.self } in
      let still : st.over ≡ false = sym h.at.over ∙ ap is_some c.requires.unended in
      let n = next_dir w.walk.params c.min.ensures.lawful w.walk.version st c.args.name.now h.cut still in
      let at : IsAt v.walk n.now = subst (λ (x : List ℕ). IsAt v.walk (record { done = nothing; above = record { name = x; done = st.done } ∷ st.above; file = st.file; over = st.over })) c.in_ok-name.ensures.ok (c.in_ok-begin_dir.ensures.ok st h.at) in (
        c.in_ok-name.ensures.may st h.at,
        n.now,
        [],
        n.place,
        inl (c.requires.unlaid, stands_on w v known st n.now sent [] refl c.begin_dir.ensures.version (n.made ∙ append-nil (made_at w.walk.version st)) at (subst (λ q. IsCutSoFar q n.now) (sym c.begin_dir.ensures.params) n.cut) (tt, (h.texts.0, h.texts.1)) (ap waiting_in (c.begin_dir.ensures.file ∙ sym c.in_ok-name.ensures.unopened)) h),
        inl (inl refl),
      ),
)

pub returns-in_err-begin_dir-clause-refused : goal.returns-in_err-begin_dir-clause-refused
returns-in_err-begin_dir-clause-refused c = memory_told c.from_residual-in_err-begin_dir.result c.args.self.now (fed_dir c.args.name.now) c.from_residual-in_err-begin_dir.ensures.1 (λ known st sent h. c.in_ok-name.ensures.may st h.at)

pub returns-in_err-begin_dir-clause-stays : goal.returns-in_err-begin_dir-clause-stays
returns-in_err-begin_dir-clause-stays c = on_any _ c.from_residual-in_err-begin_dir.result (λ known st sent h.
    let w = c.args.self.now in
    let v : PieceWork = record w { walk = c.begin_dir.new.self } in
    stands_on w v known st st sent [] refl c.begin_dir.ensures.version refl (c.in_err-begin_dir.ensures.err st h.at) (subst (λ q. IsCutSoFar q st) (sym c.begin_dir.ensures.params) h.cut) h.texts (ap waiting_in (c.begin_dir.ensures.file ∙ sym c.in_ok-name.ensures.unopened)) h)
