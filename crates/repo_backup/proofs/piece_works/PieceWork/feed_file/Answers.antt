use Rattle.std.proofs.Common.{◌≡◌, [], ℕ, List, false, Some, None, is_some, refl, sym, ap, subst, inl, ◌∙◌, append-nil}
use Rattle.repo_backup.specs.Pieces.{IsAt, waiting_in}
use Rattle.repo_backup.specs.Standings.{IsCutSoFar, made_at}
use Rattle.repo_backup.specs.declared.piece_works.PieceWork.{PieceWork}
use Rattle.repo_backup.proofs.Leading.{next_file}
use Rattle.repo_backup.proofs.Lengthening.{no_file}
use Rattle.repo_backup.proofs.Piecing.{room_open, room_waiting, stands_on}
use Rattle.repo_backup.proofs.piece_works.PieceWork.feed_file.Goals as goal

pub returns-clause-ok : goal.returns-clause-ok
unfolding next_file
returns-clause-ok c = λ known. (
  refl,
  λ st sent h.
      let w = c.args.self.now in
      let v : PieceWork = record w { walk = c.begin_file.new.self } in
      let still : st.over ≡ false = sym h.at.over ∙ ap is_some c.requires.unended in
      let may = c.in_ok-name.ensures.may st h.at in
      let none : st.file ≡ None = no_file st.file may.1.0 in
      let n = next_file w.walk.params c.min.ensures.lawful w.walk.version st c.args.name.now h.cut still none in
      let at : IsAt v.walk n.now = subst (λ (x : List ℕ). IsAt v.walk (record { done = st.done; above = st.above; file = Some (record { name = x; chunks = []; rest = [] }); over = st.over })) c.in_ok-name.ensures.ok (c.begin_file.ensures.walk st h.at) in (
        may,
        n.now,
        [],
        n.place,
        inl (c.requires.unlaid, stands_on w v known st n.now sent [] refl c.begin_file.ensures.version (n.made ∙ append-nil (made_at w.walk.version st)) at (subst (λ q. IsCutSoFar q n.now) (sym c.begin_file.ensures.params) n.cut) h.texts (c.begin_file.ensures.waiting ∙ ap waiting_in (sym c.in_ok-name.ensures.unopened)) h),
        inl (inl refl),
      ),
)

pub returns-clause-roomy : goal.returns-clause-roomy
returns-clause-roomy c =
    let w = c.args.self.now in
    room_waiting c.begin_file.new.self.file w.packing c.begin_file.ensures.waiting (room_open w.walk.file w.packing c.requires.opened)
