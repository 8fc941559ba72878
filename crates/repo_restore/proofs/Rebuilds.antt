-- The entries of what was given out, and of more behind it.
use Rattle.std.proofs.Common.{arith, ◌≡◌, ◌+◌, ◌++◌, ◌∷◌, [], ◌<◌, ℕ, suc, List, length, take, get_or, refl, sym, ap, append_assoc, ◌∙◌}
use Rattle.std.proofs.lemmas.List.{append-nil}
use Rattle.std.proofs.Math.Seq.{take-suc}
use Rattle.repo_name.specs.Naming as naming
use Rattle.repo_name.specs.declared.kinds.BlobKind.{BlobKind}
use Rattle.repo_name.specs.declared.names.Name.{Name}
use Rattle.repo_tree.specs.declared.entries.Entry.{Entry}
use Rattle.repo_tree.specs.Parts.{Blobs}
use Rattle.repo_tree.specs.Spelling.{dir_entry, file_entry}
use Rattle.repo_session.specs.declared.emissions.Emission.{Emission}
use Rattle.repo_session.specs.Rebuilding.{pieces, rebuilt}
use Rattle.repo_restore.specs.Positions.{ArePiecesOf}
use Rattle.repo_restore.specs.Walks.{ArePieces, IsWriting}

pieces_before : (xs ys : List Emission) → pieces ys ≡ [] → pieces (xs ++ ys) ≡ pieces xs
pieces_before [] ys p = p
pieces_before (Emission.Dir path ∷ xs) ys p = refl
pieces_before (Emission.File path ∷ xs) ys p = refl
pieces_before (Emission.Piece bytes ∷ xs) ys p = ap (λ r. bytes ++ r) (pieces_before xs ys p)
pieces_before (Emission.Close ∷ xs) ys p = refl

-- what begins with no piece is rebuilt by itself
pub rebuilt_both : (xs ys : List Emission) → pieces ys ≡ [] → rebuilt (xs ++ ys) ≡ rebuilt xs ++ rebuilt ys
rebuilt_both [] ys p = refl
rebuilt_both (Emission.Dir path ∷ xs) ys p = ap (λ r. dir_entry path ∷ r) (rebuilt_both xs ys p)
rebuilt_both (Emission.File path ∷ xs) ys p =
    ap (λ b. file_entry path b ∷ rebuilt (xs ++ ys)) (pieces_before xs ys p) ∙ ap (λ r. file_entry path (pieces xs) ∷ r) (rebuilt_both xs ys p)
rebuilt_both (Emission.Piece bytes ∷ xs) ys p = rebuilt_both xs ys p
rebuilt_both (Emission.Close ∷ xs) ys p = rebuilt_both xs ys p

-- there are as many entries
pub rebuilt_length : (xs ys : List Emission) → length (rebuilt (xs ++ ys)) ≡ length (rebuilt xs) + length (rebuilt ys)
rebuilt_length [] ys = omega arith
rebuilt_length (Emission.Dir path ∷ xs) ys = let h = rebuilt_length xs ys in omega (arith, h)
rebuilt_length (Emission.File path ∷ xs) ys = let h = rebuilt_length xs ys in omega (arith, h)
rebuilt_length (Emission.Piece bytes ∷ xs) ys = rebuilt_length xs ys
rebuilt_length (Emission.Close ∷ xs) ys = rebuilt_length xs ys

-- pieces that were closed
pub pieces_are : (ps after : List Emission) (bytes : List ℕ) → ArePieces ps bytes → pieces (ps ++ Emission.Close ∷ after) ≡ bytes
pieces_are [] after bytes h = sym h
pieces_are (Emission.Piece first ∷ ps) after bytes h = ap (λ r. first ++ r) (pieces_are ps after h.0 h.1) ∙ sym h.2
pieces_are (Emission.Dir path ∷ ps) after bytes h = absurd h
pieces_are (Emission.File path ∷ ps) after bytes h = absurd h
pieces_are (Emission.Close ∷ ps) after bytes h = absurd h

pub pieces_alone : (ps after : List Emission) (bytes : List ℕ) → ArePieces ps bytes → rebuilt (ps ++ Emission.Close ∷ after) ≡ rebuilt after
pieces_alone [] after bytes h = refl
pieces_alone (Emission.Piece first ∷ ps) after bytes h = pieces_alone ps after h.0 h.1
pieces_alone (Emission.Dir path ∷ ps) after bytes h = absurd h
pieces_alone (Emission.File path ∷ ps) after bytes h = absurd h
pieces_alone (Emission.Close ∷ ps) after bytes h = absurd h

pieces_more : (ps : List Emission) (bytes more : List ℕ) → ArePieces ps bytes → ArePieces (ps ++ Emission.Piece more ∷ []) (bytes ++ more)
pieces_more [] bytes more h = ([], refl, ap (λ b. b ++ more) h ∙ sym (append-nil more))
pieces_more (Emission.Piece first ∷ ps) bytes more h = (h.0 ++ more, pieces_more ps h.0 more h.1, ap (λ b. b ++ more) h.2 ∙ append_assoc first h.0 more)
pieces_more (Emission.Dir path ∷ ps) bytes more h = absurd h
pieces_more (Emission.File path ∷ ps) bytes more h = absurd h
pieces_more (Emission.Close ∷ ps) bytes more h = absurd h

-- a piece of one blob more
pub pieces_push : (B : Blobs) (names : List Name) (name : Name) (emitted : List Emission) (bytes : List ℕ) → ArePiecesOf B names emitted → B BlobKind.Content bytes → naming.name bytes ≡ name
    → ArePiecesOf B (names ++ name ∷ []) (emitted ++ Emission.Piece bytes ∷ [])
pieces_push B [] name emitted bytes h among named = (bytes, [], among, named, ap (λ e. e ++ Emission.Piece bytes ∷ []) h, refl)
pieces_push B (n ∷ names) name emitted bytes h among named =
    (h.0, h.1 ++ Emission.Piece bytes ∷ [], h.2, h.3, ap (λ e. e ++ Emission.Piece bytes ∷ []) h.4, pieces_push B names name h.1 bytes h.5 among named)

-- a file begins
pub writing_new : (emitted : List Emission) (before : List Entry) (path : List (List ℕ)) → rebuilt emitted ≡ before → IsWriting (emitted ++ Emission.File path ∷ []) before path []
writing_new emitted before path p = record { first = emitted; last = []; split = refl; entries = p; written = refl }

pub new_last : (emitted : List Emission) (before : List Entry) (path : List (List ℕ)) (p : rebuilt emitted ≡ before) → (writing_new emitted before path p).last ≡ []
unfolding writing_new
new_last emitted before path p = refl

-- and goes on
pub writing_more : (emitted : List Emission) (before : List Entry) (path : List (List ℕ)) (bytes more : List ℕ) → IsWriting emitted before path bytes → IsWriting (emitted ++ Emission.Piece more ∷ []) before path (bytes ++ more)
writing_more emitted before path bytes more h = record {
  first = h.first;
  last = h.last ++ Emission.Piece more ∷ [];
  split = ap (λ e. e ++ Emission.Piece more ∷ []) h.split ∙ append_assoc h.first (Emission.File path ∷ h.last) (Emission.Piece more ∷ []);
  entries = h.entries;
  written = pieces_more h.last bytes more h.written;
}

pub more_last : (emitted : List Emission) (before : List Entry) (path : List (List ℕ)) (bytes more : List ℕ) (h : IsWriting emitted before path bytes) → (writing_more emitted before path bytes more h).last ≡ h.last ++ Emission.Piece more ∷ []
unfolding writing_more
more_last emitted before path bytes more h = refl

-- and ends
pub writing_done : (emitted : List Emission) (before : List Entry) (path : List (List ℕ)) (bytes : List ℕ) → IsWriting emitted before path bytes → rebuilt (emitted ++ Emission.Close ∷ []) ≡ before ++ file_entry path bytes ∷ []
writing_done emitted before path bytes h =
    let last : List Emission = h.last ++ Emission.Close ∷ [] in
    ap (λ e. rebuilt (e ++ Emission.Close ∷ [])) h.split
    ∙ ap (λ (e : List Emission). rebuilt e) (append_assoc h.first (Emission.File path ∷ h.last) (Emission.Close ∷ []))
    ∙ rebuilt_both h.first (Emission.File path ∷ last) refl
    ∙ ap (λ es. es ++ file_entry path (pieces last) ∷ rebuilt last) h.entries
    ∙ ap (λ b. before ++ file_entry path b ∷ rebuilt last) (pieces_are h.last [] bytes h.written)
    ∙ ap (λ es. before ++ file_entry path bytes ∷ es) (pieces_alone h.last [] bytes h.written)

-- while it is open
pieces_open : (ps : List Emission) (bytes : List ℕ) → ArePieces ps bytes → pieces ps ≡ bytes
pieces_open [] bytes h = sym h
pieces_open (Emission.Piece first ∷ ps) bytes h = ap (λ r. first ++ r) (pieces_open ps h.0 h.1) ∙ sym h.2
pieces_open (Emission.Dir path ∷ ps) bytes h = absurd h
pieces_open (Emission.File path ∷ ps) bytes h = absurd h
pieces_open (Emission.Close ∷ ps) bytes h = absurd h

open_alone : (ps : List Emission) (bytes : List ℕ) → ArePieces ps bytes → rebuilt ps ≡ []
open_alone [] bytes h = refl
open_alone (Emission.Piece first ∷ ps) bytes h = open_alone ps h.0 h.1
open_alone (Emission.Dir path ∷ ps) bytes h = absurd h
open_alone (Emission.File path ∷ ps) bytes h = absurd h
open_alone (Emission.Close ∷ ps) bytes h = absurd h

pub writing_open : (emitted : List Emission) (before : List Entry) (path : List (List ℕ)) (bytes : List ℕ) → IsWriting emitted before path bytes → rebuilt emitted ≡ before ++ file_entry path bytes ∷ []
writing_open emitted before path bytes h =
    ap (λ (e : List Emission). rebuilt e) h.split
    ∙ rebuilt_both h.first (Emission.File path ∷ h.last) refl
    ∙ ap (λ es. es ++ file_entry path (pieces h.last) ∷ rebuilt h.last) h.entries
    ∙ ap (λ b. before ++ file_entry path b ∷ rebuilt h.last) (pieces_open h.last bytes h.written)
    ∙ ap (λ es. before ++ file_entry path bytes ∷ es) (open_alone h.last bytes h.written)

-- one more emission is counted
pub count_more : (emitted : List Emission) (i : ℕ) (x : Emission) → i < length emitted → x ≡ get_or emitted i x → length (rebuilt (take (i + 1) emitted)) ≡ length (rebuilt (take i emitted)) + length (rebuilt (x ∷ []))
count_more emitted i x w is =
    let s : i + 1 ≡ suc i = omega arith in
    ap (λ j. length (rebuilt (take j emitted))) s ∙ ap (λ es. length (rebuilt es)) (take-suc emitted i x w) ∙ ap (λ y. length (rebuilt (take i emitted ++ y ∷ []))) (sym is) ∙ rebuilt_length (take i emitted) (x ∷ [])
