-- Chunks that ended and wait in one buffer.
use Rattle.std.proofs.Common.{arith, ◌≡◌, ◌≤◌, ◌-◌, ◌++◌, ◌∷◌, [], ℕ, suc, List, length, take, drop, refl, sym, ap, subst, ◌∙◌, append_assoc, length-append, take-append-drop, length-take-le, length-drop}
use Rattle.std.proofs.lemmas.List.{take-append-le, drop-append-le}
use Rattle.std.proofs.Math.Seq.{take-append_seam, drop-append_seam, take-length}
use Rattle.repo_name.specs.Limits.{blob_limit}
use Rattle.repo_sha.specs.Pieces.{pieces}
use Rattle.repo_backup.specs.inner.Ends.{AreEnded}

no_bytes : (bytes : List ℕ) → length bytes ≡ 0 → bytes ≡ []
no_bytes [] e = refl
no_bytes (b ∷ bytes) e = absurd (omega (arith, e))

-- one piece more
pub pieces_push : (bytes ns chunk : List ℕ) → AreEnded bytes ns → pieces (bytes ++ chunk) (ns ++ length chunk ∷ []) ≡ pieces bytes ns ++ chunk ∷ []
pieces_push bytes [] chunk h = ap (λ b. take (length chunk) (b ++ chunk) ∷ []) h ∙ ap (λ b. b ∷ []) (take-length chunk)
pieces_push bytes (n ∷ ns) chunk h =
    let first : take n (bytes ++ chunk) ≡ take n bytes = take-append-le n bytes chunk h.2 in
    let behind : drop n (bytes ++ chunk) ≡ drop n bytes ++ chunk = drop-append-le n bytes chunk h.2 in
    let more = pieces_push (drop n bytes) ns chunk h.3 in
    λ i. first i ∷ (ap (λ b. pieces b (ns ++ length chunk ∷ [])) behind ∙ more) i

pub ended_push : (bytes ns chunk : List ℕ) → AreEnded bytes ns → 1 ≤ length chunk → length chunk ≤ blob_limit → AreEnded (bytes ++ chunk) (ns ++ length chunk ∷ [])
ended_push bytes [] chunk h some small =
    let is : bytes ++ chunk ≡ chunk = ap (λ b. b ++ chunk) h in
    (some, small, omega (arith, ap length is), no_bytes (drop (length chunk) (bytes ++ chunk)) (omega (arith, length-drop (length chunk) (bytes ++ chunk), ap length is)))
ended_push bytes (n ∷ ns) chunk h some small =
    let behind : drop n (bytes ++ chunk) ≡ drop n bytes ++ chunk = drop-append-le n bytes chunk h.2 in
    let long : n ≤ length bytes = h.2 in
    (h.0, h.1, omega (arith, long, length-append bytes chunk), subst (λ b. AreEnded b (ns ++ length chunk ∷ [])) (sym behind) (ended_push (drop n bytes) ns chunk h.3 some small))

-- the last piece, and those before it
pub ended_parts : (bytes ns : List ℕ) (n : ℕ) → AreEnded bytes (ns ++ n ∷ []) → (front : List ℕ) × (chunk : List ℕ) × (bytes ≡ front ++ chunk) × (length chunk ≡ n) × AreEnded front ns
ended_parts bytes [] n h =
    let long : n ≤ length bytes = h.2 in
    ([], bytes, refl, omega (arith, long, length-drop n bytes, ap length h.3), refl)
ended_parts bytes (m ∷ ns) n h =
    let k = ended_parts (drop m bytes) ns n h.3 in
    let long : m ≤ length bytes = h.2 in
    let first = take m bytes in
    let size : length first ≡ m = length-take-le m bytes long in
    let front = first ++ k.0 in
    let is : bytes ≡ front ++ k.1 = sym (take-append-drop m bytes) ∙ ap (λ b. first ++ b) k.2 ∙ sym (append_assoc first k.0 k.1) in
    let behind : drop m front ≡ k.0 = ap (λ j. drop j front) (sym size) ∙ drop-append_seam first k.0 in
    (front, k.1, is, k.3, (h.0, h.1, omega (arith, size, length-append first k.0), subst (λ b. AreEnded b ns) (sym behind) k.4))

-- the last piece is taken out
module _ (bytes ns : List ℕ) (n : ℕ) (h : AreEnded bytes (ns ++ n ∷ [])) where
  front_is : take (length bytes - n) bytes ≡ (ended_parts bytes ns n h).0
  front_is =
      let k = ended_parts bytes ns n h in
      let size : length bytes - n ≡ length k.0 = omega (arith, ap length k.2, length-append k.0 k.1, k.3) in
      (λ i. take (size i) (k.2 i)) ∙ take-append_seam k.0 k.1

  pub ended_pop : AreEnded (take (length bytes - n) bytes) ns
  ended_pop = subst (λ b. AreEnded b ns) (sym front_is) (ended_parts bytes ns n h).4

  pub pieces_pop : (chunk : List ℕ) × (pieces bytes (ns ++ n ∷ []) ≡ pieces (take (length bytes - n) bytes) ns ++ chunk ∷ [])
  pieces_pop =
      let k = ended_parts bytes ns n h in
      (k.1, (λ i. pieces (k.2 i) (ns ++ sym k.3 i ∷ [])) ∙ pieces_push k.0 ns k.1 k.4 ∙ ap (λ b. pieces b ns ++ k.1 ∷ []) (sym front_is))

-- as many pieces as lengths
pub pieces_count : (bytes ns : List ℕ) → length (pieces bytes ns) ≡ length ns
pieces_count bytes [] = refl
pieces_count bytes (n ∷ ns) = ap suc (pieces_count (drop n bytes) ns)

-- all but the last of some
pub but_last : {A : Type 0} (xs : List A) (x : A) → take (length (xs ++ x ∷ []) - 1) (xs ++ x ∷ []) ≡ xs
but_last xs x =
    let size : length (xs ++ x ∷ []) - 1 ≡ length xs = omega (arith, length-append xs (x ∷ [])) in
    ap (λ k. take k (xs ++ x ∷ [])) size ∙ take-append_seam xs (x ∷ [])
