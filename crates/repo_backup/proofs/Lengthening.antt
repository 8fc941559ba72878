-- One folder behind another, and chunks of bytes that go on.
use Rattle.std.proofs.Common.{arith, ◌≡◌, ◌-◌, ◌+◌, ◌++◌, ◌∷◌, [], ℕ, suc, List, length, map, take, drop, Option, Some, None, refl, sym, ap, subst, inl, inr, ◌∙◌, append_assoc, append-nil, length-append, take-append-drop, length-take-le}
use Rattle.std.proofs.Math.Seq.{take-append_seam}
use Rattle.std.proofs.lemmas.List.{map-append}
use Rattle.repo_chunk.specs.Parameters.{Parameters, AreLawful}
use Rattle.repo_chunk.specs.Cuts.{HasNoCut, AreCuts, AreFirstCuts, unfinished}
use Rattle.repo_chunk.proofs.CutLaws.{cuts_exist}
use Rattle.repo_chunk.proofs.FirstCuts.{first_cuts_grow, first_cuts_end}
use Rattle.repo_tree.specs.Spelling.{dir_entry, file_entry}
use Rattle.repo_backup.specs.Folders.{Folder, nothing, file_then, dir_then, joined, entries_of, blobs_below, blobs_of, IsCutBy}
use Rattle.repo_backup.specs.Items.{outer_of}
use Rattle.repo_backup.specs.Standings.{both, Around, FileCut, path_of, entries_at, file_at, chunk_items, last_chunk, made_below}

-- ---- one folder behind another

pub entries_both : (path : List (List ℕ)) (a b : Folder) → entries_of path (both a b) ≡ entries_of path a ++ entries_of path b
entries_both path nothing b = refl
entries_both path (file_then name chunks rest) b = ap (λ l. file_entry (path ++ name ∷ []) (joined chunks) ∷ l) (entries_both path rest b)
entries_both path (dir_then name inside rest) b =
    let mine = dir_entry (path ++ name ∷ []) ∷ entries_of (path ++ name ∷ []) inside in
    ap (λ l. mine ++ l) (entries_both path rest b) ∙ sym (append_assoc mine (entries_of path rest) (entries_of path b))

pub blobs_both : (version : ℕ) (a b : Folder) → blobs_below version (both a b) ≡ blobs_below version a ++ blobs_below version b
blobs_both version nothing b = refl
blobs_both version (file_then name chunks rest) b =
    let mine = chunk_items chunks in
    ap (λ l. mine ++ l) (blobs_both version rest b) ∙ sym (append_assoc mine (blobs_below version rest) (blobs_below version b))
blobs_both version (dir_then name inside rest) b =
    ap (λ l. blobs_of version inside ++ l) (blobs_both version rest b) ∙ sym (append_assoc (blobs_of version inside) (blobs_below version rest) (blobs_below version b))

pub cut_both : (params : Parameters) (a b : Folder) → IsCutBy params a → IsCutBy params b → IsCutBy params (both a b)
cut_both params nothing b h k = k
cut_both params (file_then name chunks rest) b h k = (h.0, cut_both params rest b h.1 k)
cut_both params (dir_then name inside rest) b h k = (h.0, cut_both params rest b h.1 k)

-- ---- more in the open directory

pub entries_more : (above : List Around) (done more : Folder) → entries_at (both done more) above ≡ entries_at done above ++ entries_of (path_of above) more
entries_more [] done more = entries_both [] done more
entries_more (a ∷ above) done more =
    let path = path_of above ++ a.name ∷ [] in
    let front = entries_at a.done above ++ dir_entry path ∷ [] in
    ap (λ l. front ++ l) (entries_both path done more) ∙ sym (append_assoc front (entries_of path done) (entries_of path more))

pub made_more : (version : ℕ) (above : List Around) (done more : Folder) → made_below version (both done more) above ≡ made_below version done above ++ blobs_below version more
made_more version [] done more = blobs_both version done more
made_more version (a ∷ above) done more =
    let before = made_below version a.done above in
    ap (λ l. before ++ l) (blobs_both version done more) ∙ sym (append_assoc before (blobs_below version done) (blobs_below version more))

pub outer_path : (p : List (List ℕ)) (n : List ℕ) → outer_of (p ++ n ∷ []) ≡ p
outer_path p n =
    let k : length (p ++ n ∷ []) - 1 ≡ length p = omega (arith, length-append p (n ∷ [])) in
    ap (λ m. take m (p ++ n ∷ [])) k ∙ take-append_seam p (n ∷ [])

pub no_file : (o : Option FileCut) → file_at o ≡ None → o ≡ None
no_file None e = refl
no_file (Some f) e = absurd (cc)

pub no_path : (above : List Around) → path_of above ≡ [] → above ≡ []
no_path [] e = refl
no_path (a ∷ above) e = absurd (omega (arith, ap length e, length-append (path_of above) (a.name ∷ [])))

-- ---- chunks

pub joined_both : (made more : List (List ℕ)) → joined (made ++ more) ≡ joined made ++ joined more
joined_both [] more = refl
joined_both (chunk ∷ made) more = ap (λ l. chunk ++ l) (joined_both made more) ∙ sym (append_assoc chunk (joined made) (joined more))

-- pieces of some bytes, by their lengths
abbrev pub pieces : List ℕ → List ℕ → List (List ℕ)
pieces [] bytes = []
pieces (n ∷ ns) bytes = take n bytes ∷ pieces ns (drop n bytes)

-- the chunks that the rule has ended in some bytes, and what is left of these
pub record Split (params : Parameters) (bytes : List ℕ) : Type 0 where
  pub lengths : List ℕ
  pub rest : List ℕ
  pub cuts : AreFirstCuts params bytes lengths rest
  pub uncut : HasNoCut params rest

pub none_cut : (params : Parameters) → AreLawful params → HasNoCut params []
none_cut params lawful n ends = absurd (omega (arith, ends.present, ends.least, lawful.least))

split_by : (params : Parameters) → AreLawful params → (bytes lengths : List ℕ) → AreCuts params bytes lengths → Split params bytes
split_by params lawful bytes [] none = record { lengths = []; rest = bytes; cuts = refl; uncut = subst (λ b. HasNoCut params b) (sym none) (none_cut params lawful) }
split_by params lawful bytes (n ∷ ns) (inl (cut, more)) =
    let s = split_by params lawful (drop n bytes) ns more in
    record { lengths = n ∷ s.lengths; rest = s.rest; cuts = (cut, s.cuts); uncut = s.uncut }
split_by params lawful bytes (n ∷ ns) (inr last) = record { lengths = []; rest = bytes; cuts = refl; uncut = last.0 }

pub split_of : (params : Parameters) → AreLawful params → (bytes : List ℕ) → Split params bytes
split_of params lawful bytes = let c = cuts_exist params bytes lawful in split_by params lawful bytes c.0 c.1

pub chain : (params : Parameters) (bytes lengths rest more left : List ℕ) → AreFirstCuts params bytes lengths rest → AreFirstCuts params rest more left → AreFirstCuts params bytes (lengths ++ more) left
chain params bytes [] rest more left is next = subst (λ b. AreFirstCuts params b more left) is next
chain params bytes (n ∷ ns) rest more left is next = (is.0, chain params (drop n bytes) ns rest more left is.1 next)

pub first_joined : (params : Parameters) (bytes lengths rest : List ℕ) → AreFirstCuts params bytes lengths rest → joined (pieces lengths bytes) ++ rest ≡ bytes
first_joined params bytes [] rest is = is
first_joined params bytes (n ∷ ns) rest is =
    append_assoc (take n bytes) (joined (pieces ns (drop n bytes))) rest
    ∙ ap (λ l. take n bytes ++ l) (first_joined params (drop n bytes) ns rest is.1) ∙ take-append-drop n bytes

pub first_lengths : (params : Parameters) (bytes lengths rest : List ℕ) → AreFirstCuts params bytes lengths rest → map length (pieces lengths bytes) ≡ lengths
first_lengths params bytes [] rest is = refl
first_lengths params bytes (n ∷ ns) rest is =
    let first = length-take-le n bytes is.0.ends.present in
    let more = first_lengths params (drop n bytes) ns rest is.1 in
    λ i. first i ∷ more i

pub last_joined : (rest : List ℕ) → joined (last_chunk rest) ≡ rest
last_joined [] = refl
last_joined (b ∷ bytes) = append-nil (b ∷ bytes)

pub last_length : (rest : List ℕ) → map length (last_chunk rest) ≡ unfinished (length rest)
last_length [] = refl
last_length (b ∷ bytes) = refl

-- a file with more bytes
pub record Grown (params : Parameters) (f : FileCut) (more : List ℕ) : Type 0 where
  pub chunks : List (List ℕ)
  pub rest : List ℕ
  pub bytes : joined (f.chunks ++ chunks) ++ rest ≡ (joined f.chunks ++ f.rest) ++ more
  pub cuts : AreFirstCuts params (joined (f.chunks ++ chunks) ++ rest) (map length (f.chunks ++ chunks)) rest
  pub uncut : HasNoCut params rest

pub grown_by : (params : Parameters) (f : FileCut) (more : List ℕ) → AreFirstCuts params (joined f.chunks ++ f.rest) (map length f.chunks) f.rest → Split params (f.rest ++ more) → Grown params f more
grown_by params f more cuts s =
    let new = pieces s.lengths (f.rest ++ more) in
    let parts : joined new ++ s.rest ≡ f.rest ++ more = first_joined params (f.rest ++ more) s.lengths s.rest s.cuts in
    let whole : joined (f.chunks ++ new) ++ s.rest ≡ (joined f.chunks ++ f.rest) ++ more =
    ap (λ l. l ++ s.rest) (joined_both f.chunks new) ∙ append_assoc (joined f.chunks) (joined new) s.rest ∙ ap (λ l. joined f.chunks ++ l) parts ∙ sym (append_assoc (joined f.chunks) f.rest more) in
    let lengths : map length (f.chunks ++ new) ≡ map length f.chunks ++ s.lengths =
    map-append length f.chunks new ∙ ap (λ l. map length f.chunks ++ l) (first_lengths params (f.rest ++ more) s.lengths s.rest s.cuts) in
    let all = chain params ((joined f.chunks ++ f.rest) ++ more) (map length f.chunks) (f.rest ++ more) s.lengths s.rest (first_cuts_grow params (joined f.chunks ++ f.rest) (map length f.chunks) f.rest more cuts) s.cuts in
    record {
      chunks = new;
      rest = s.rest;
      bytes = whole;
      cuts = subst (λ b. AreFirstCuts params b (map length (f.chunks ++ new)) s.rest) (sym whole) (subst (λ l. AreFirstCuts params ((joined f.chunks ++ f.rest) ++ more) l s.rest) (sym lengths) all);
      uncut = s.uncut;
    }

-- a file that is closed
pub closed_cuts : (params : Parameters) (f : FileCut) → AreFirstCuts params (joined f.chunks ++ f.rest) (map length f.chunks) f.rest → HasNoCut params f.rest
    → AreCuts params (joined (f.chunks ++ last_chunk f.rest)) (map length (f.chunks ++ last_chunk f.rest))
closed_cuts params f cuts uncut =
    let bytes : joined (f.chunks ++ last_chunk f.rest) ≡ joined f.chunks ++ f.rest = joined_both f.chunks (last_chunk f.rest) ∙ ap (λ l. joined f.chunks ++ l) (last_joined f.rest) in
    let lengths : map length (f.chunks ++ last_chunk f.rest) ≡ map length f.chunks ++ unfinished (length f.rest) =
    map-append length f.chunks (last_chunk f.rest) ∙ ap (λ l. map length f.chunks ++ l) (last_length f.rest) in
    subst (λ b. AreCuts params b (map length (f.chunks ++ last_chunk f.rest))) (sym bytes) (subst (λ l. AreCuts params (joined f.chunks ++ f.rest) l) (sym lengths)
    (first_cuts_end params (joined f.chunks ++ f.rest) (map length f.chunks) f.rest cuts uncut))

-- the front of two lists that ends in the second
pub take_past : (xs ys : List ℕ) (n : ℕ) → take (length xs + n) (xs ++ ys) ≡ xs ++ take n ys
take_past [] ys n = let k : 0 + n ≡ n = omega arith in ap (λ m. take m ys) k
take_past (x ∷ xs) ys n =
    let k : length (x ∷ xs) + n ≡ suc (length xs + n) = omega arith in
    ap (λ m. take m (x ∷ xs ++ ys)) k ∙ ap (λ l. x ∷ l) (take_past xs ys n)
