-- Whether a name may begin where a walk stands.
use Rattle.std.proofs.Common.{arith, ◌≡◌, ◌≢◌, ◌<◌, ◌≤◌, ◌+◌, ◌++◌, ◌∷◌, [], ℕ, List, length, Option, Some, None, refl, sym, ap, subst, length-append}
use Rattle.repo_chunk.specs.Parameters.{Parameters}
use Rattle.repo_tree.specs.Spelling.{greatest_depth}
use Rattle.repo_tree.specs.TreeText.{Follows}
use Rattle.repo_backup.specs.Items.{MayBegin}
use Rattle.repo_backup.specs.Pieces.{IsFileAt, AreOuterAt, IsAt}
use Rattle.repo_backup.specs.Standings.{Around, FileCut, Standing, path_of, file_at, place_at}
use Rattle.repo_backup.specs.declared.pieces.PieceFile.{PieceFile}
use Rattle.repo_backup.specs.declared.pieces.PieceWalk.{PieceWalk}
use Rattle.repo_backup.specs.declared.pieces.Outer.{Outer}
use Rattle.repo_backup.proofs.NameOrder.{follows_after}

pub none_open : (params : Parameters) (f : Option PieceFile) (o : Option FileCut) → IsFileAt params f o → f ≡ None → file_at o ≡ None
none_open params f None h e = refl
none_open params None (Some c) h e = absurd h
none_open params (Some f) (Some c) h e = absurd (cc)

pub some_open : (params : Parameters) (f : Option PieceFile) (o : Option FileCut) → IsFileAt params f o → file_at o ≡ None → f ≡ None
some_open params None o h e = refl
some_open params (Some f) None h e = absurd h
some_open params (Some f) (Some c) h e = absurd (cc)

pub outer_count : (version : ℕ) (outers : List Outer) (above : List Around) → AreOuterAt version outers above → length outers ≡ length (path_of above)
outer_count version outers [] h = ap length h
outer_count version outers (a ∷ above) h =
    omega (arith, ap length h.2, length-append h.0 (h.1 ∷ []), outer_count version h.0 above h.5, length-append (path_of above) (a.name ∷ []))

pub depth_of : (w : PieceWalk) (st : Standing) (name : List ℕ) → IsAt w st → length (path_of st.above ++ name ∷ []) ≡ length w.above.items + 1
depth_of w st name at = omega (arith, outer_count w.version w.above.items st.above at.outers, length-append (path_of st.above) (name ∷ []))

pub may_begin : (w : PieceWalk) (st : Standing) (name : List ℕ) → IsAt w st → w.file ≡ None → Follows w.nodes.items name → MayBegin (place_at st) name
may_begin w st name at none follows = (none_open w.params w.file st.file at.file none, (follows_after w.version st.done st.above name).1 (subst (λ ns. Follows ns name) at.nodes follows))

pub no_begin : (w : PieceWalk) (st : Standing) (name : List ℕ) → IsAt w st → (Follows w.nodes.items name → ⊥) → MayBegin (place_at st) name → ⊥
no_begin w st name at never may = never (subst (λ ns. Follows ns name) (sym at.nodes) ((follows_after w.version st.done st.above name).0 may.1))

pub no_open : (w : PieceWalk) (st : Standing) (name : List ℕ) → IsAt w st → w.file ≢ None → MayBegin (place_at st) name → ⊥
no_open w st name at some may = some (some_open w.params w.file st.file at.file may.0)

pub too_deep : (n : ℕ) (m : ℕ) → m ≡ n + 1 → 100 ≤ n → greatest_depth < m
unfolding greatest_depth
too_deep n m e h = omega (arith, e, h)

pub not_deep : (n : ℕ) (m : ℕ) → m ≡ n + 1 → n < 100 → m ≤ greatest_depth
unfolding greatest_depth
not_deep n m e h = omega (arith, e, h)
