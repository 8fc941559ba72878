-- A file that is taken piece by piece.
use Rattle.std.proofs.Common.{Vec, Global, true, false, is_some, arith, ◌≡◌, ◌≢◌, ◌≤◌, ◌<◌, ◌+◌, ◌++◌, ◌∷◌, [], ℕ, List, length, map, take, drop, Option, Some, None, refl, sym, ap, subst, inl, ◌∙◌, append_assoc, append-nil, length-take, length-drop, take_all}
use Rattle.std.specs.Prelude.{option_map}
use Rattle.std.specs.Option.{option_or}
use Rattle.std.proofs.lemmas.List.{take-append-le}
use Rattle.repo_chunk.specs.Cuts.{HasNoCut}
use Rattle.repo_index.specs.declared.facts.Fact.{Fact}
use Rattle.repo_index.specs.declared.facts.PackFacts.{PackFacts}
use Rattle.repo_name.specs.Limits.{file_end}
use Rattle.repo_name.specs.declared.names.Name.{Name}
use Rattle.repo_name.specs.Naming as naming
use Rattle.repo_session.specs.Feeds.{fed_bytes}
use Rattle.repo_pack.specs.PackLayout.{Item}
use Rattle.repo_backup.specs.Packings.{IsPacking, GrowsBy, IsListed}
use Rattle.repo_backup.specs.Standings.{chunk_items}
use Rattle.repo_backup.specs.Waiting.{PacksAll, TakesMore}
use Rattle.repo_backup.specs.Pieces.{Bites, EndsChunk, first_ended, first_rest, with_file, Goes}
use Rattle.repo_backup.specs.declared.packing.Packing.{Packing}
use Rattle.repo_backup.specs.declared.packing.Sealing.{Sealing}
use Rattle.repo_backup.specs.declared.pieces.PieceFile.{PieceFile}
use Rattle.repo_backup.specs.declared.piece_works.PieceWork.{PieceWork}
use Rattle.repo_backup.proofs.Closing.{uncut_of}
use Rattle.repo_backup.proofs.Piecing.{none_sealed, more_taken, chunk_waits, all_named, nothing_taken, bytes_on, bytes_named, no_bytes, take_both}
use Rattle.repo_backup.proofs.Waits.{grows_on, grows_none}

-- a front stays the front of more
pub front_stays : {A : Type 0} (m : ℕ) (xs ys r : List A) → take m xs ≡ r → length r ≡ m → take m (xs ++ ys) ≡ r
front_stays m xs ys r front size =
    let long : m ≤ length xs = omega (arith, ap length front, size, length-take m xs) in
    take-append-le m xs ys long ∙ front

module _ (known : List Fact) (piece : List ℕ) (f g : PieceFile) (p q : Packing) (n : ℕ) (listed : Option PackFacts) where
  -- the work goes on over what was taken
  pub bites_go : (w : PieceWork) (chunk : Option (List ℕ)) (named : Option (List (List ℕ))) → w.walk.root ≡ None → w.parts ≡ None → p.packer.sealed ≡ None → f.size + length piece < file_end → 1 ≤ n → n ≤ length piece → g.name ≡ f.name → g.size ≡ f.size + n → g.params ≡ f.params
      → Bites known piece f p n chunk named listed g q → Goes known Sealing.Due (fed_bytes (take n piece)) (with_file w f p) (with_file w g q)
  bites_go w None named unended unlaid unsealed small some within name size by b =
      let whole : take n piece ≡ piece = ap (λ k. take k piece) b.0 ∙ take_all (length piece) piece (omega arith) in
      let uncut : HasNoCut f.params g.rest.items = subst (λ x. HasNoCut x g.rest.items) by (uncut_of g) in
      subst (λ (x : List ℕ). Goes known Sealing.Due (fed_bytes x) (with_file w f p) (with_file w g q)) (sym whole)
      (more_taken (with_file w f p) (with_file w g q) f g known refl (record { params = refl; version = refl; above = refl; nodes = refl; root = refl }) refl unlaid piece small b.6 name (size ∙ ap (λ k. f.size + k) b.0) b.4 b.3 by b.5 uncut)
  bites_go w (Some chunk) None unended unlaid unsealed small some within name size by b =
      let e = b.3 in
      chunk_waits (with_file w f p) (with_file w g q) f g known refl (record { params = refl; version = refl; above = refl; nodes = refl; root = refl }) refl unlaid piece n small unended some within name size e.2
      (e.1 ∙ ap (λ x. f.ended ++ x ∷ []) b.0) b.2 by b.1 e.3
  bites_go w (Some chunk) (Some named) unended unlaid unsealed small some within name size by b =
      let e = b.3.1 in
      let h : PieceFile = record g { content = f.content; ended = f.ended ++ chunk ∷ [] } in
      let waits = chunk_waits (with_file w f p) (with_file w h p) f h known refl (record { params = refl; version = refl; above = refl; nodes = refl; root = refl }) refl unlaid piece n small unended some within name size refl
      (ap (λ x. f.ended ++ x ∷ []) b.0) b.2 by b.1 refl in
      let content : g.content.items ≡ f.content.items ++ map naming.name (f.ended ++ chunk ∷ []) = e.content ∙ ap (λ l. f.content.items ++ map naming.name l) b.3.0 in
      let packs : PacksAll known Sealing.Due (chunk_items (f.ended ++ chunk ∷ [])) p q = subst (λ l. PacksAll known Sealing.Due (chunk_items l) p q) b.3.0 e.packs in
      bytes_named known (take n piece) (with_file w f p) (with_file w h p) (with_file w g q) unlaid unlaid unsealed refl waits
      (all_named (with_file w h p) (with_file w g q) h g known refl (record { params = refl; version = refl; above = refl; nodes = refl; root = refl }) refl unlaid refl refl refl refl e.ended content packs)

  -- what the file had behind its chunks is still the front of what was kept
  pub keeps_first : (first chunk : Option (List ℕ)) (named : Option (List (List ℕ))) (m : ℕ) (r : List ℕ) → length r ≡ m → take m (first_rest first f) ≡ r → Bites known piece f p n chunk named listed g q → take m (first_rest (option_or first chunk) g) ≡ r
  keeps_first None None named m r size front b = ap (take m) b.3 ∙ front_stays m f.rest.items piece r front size
  keeps_first None (Some chunk) named m r size front b = ap (take m) b.0 ∙ front_stays m f.rest.items (take n piece) r front size
  keeps_first (Some x) chunk named m r size front b = front

  -- and so are the chunks that waited
  pub keeps_ended : (first named : Option (List (List ℕ))) (chunk : Option (List ℕ)) (m : ℕ) (r : List (List ℕ)) → length r ≡ m → take m (first_ended first f) ≡ r → Bites known piece f p n chunk named listed g q → take m (first_ended (option_or first named) g) ≡ r
  keeps_ended (Some x) named chunk m r size front b = front
  keeps_ended None named None m r size front b = subst (λ o. take m (first_ended o g) ≡ r) (sym b.1) (ap (take m) b.5 ∙ front)
  keeps_ended None None (Some chunk) m r size front b = ap (take m) b.3.1 ∙ front_stays m f.ended (chunk ∷ []) r front size
  keeps_ended None (Some named) (Some chunk) m r size front b = ap (take m) b.3.0 ∙ front_stays m f.ended (chunk ∷ []) r front size

  -- and its chunks that had names are the first ones
  pub keeps_chunks : (chunk : Option (List ℕ)) (named : Option (List (List ℕ))) (old : List Name) → (more : List Name) × (f.content.items ≡ old ++ more) → Bites known piece f p n chunk named listed g q → (more : List Name) × (g.content.items ≡ old ++ more)
  keeps_chunks None named old h b = (h.0, b.4 ∙ h.1)
  keeps_chunks (Some chunk) None old h b = (h.0, b.3.2 ∙ h.1)
  keeps_chunks (Some chunk) (Some named) old h b = (h.0 ++ map naming.name named, b.3.1.content ∙ ap (λ l. l ++ map naming.name named) h.1 ∙ append_assoc old h.0 (map naming.name named))

  -- where no pack is sealed, the open one has more
  pub keeps_open : (chunk : Option (List ℕ)) (named : Option (List (List ℕ))) (old : Packing) → listed ≡ None → GrowsBy old p → Bites known piece f p n chunk named listed g q → GrowsBy old q
  keeps_open None named old none h b = subst (λ x. GrowsBy old x) (sym b.6) h
  keeps_open (Some chunk) None old none h b = subst (λ x. GrowsBy old x) (sym b.3.3) h
  keeps_open (Some chunk) (Some named) old none h b = grows_on old p q h (b.3.1.grows none)

  -- and they are as it is known
  pub keeps_packing : (chunk : Option (List ℕ)) (named : Option (List (List ℕ))) (old : Packing) → q.packer.sealed ≡ None → ((sent : List Item) → IsPacking old known sent [] → IsPacking p known sent []) → Bites known piece f p n chunk named listed g q
      → (sent : List Item) → IsPacking old known sent [] → IsPacking q known sent []
  keeps_packing None named old unsealed h b sent packing = subst (λ x. IsPacking x known sent []) (sym b.6) (h sent packing)
  keeps_packing (Some chunk) None old unsealed h b sent packing = subst (λ x. IsPacking x known sent []) (sym b.3.3) (h sent packing)
  keeps_packing (Some chunk) (Some named) old unsealed h b sent packing =
      let k = b.3.1.packs sent (h sent packing) in
      subst (λ l. IsPacking q known sent l) (none_sealed q.packer.sealed k.0 unsealed k.1.sealed_is) k.1

  -- how it is listed
  pub bites_listed : (chunk : Option (List ℕ)) (named : Option (List (List ℕ))) → p.packer.sealed ≡ None → Bites known piece f p n chunk named listed g q → IsListed listed q
  bites_listed None named unsealed b = subst (λ l. IsListed l q) (sym b.2) (ap (λ (x : Packing). x.packer.sealed) b.6 ∙ unsealed)
  bites_listed (Some chunk) None unsealed b = subst (λ l. IsListed l q) (sym b.3.0) (ap (λ (x : Packing). x.packer.sealed) b.3.3 ∙ unsealed)
  bites_listed (Some chunk) (Some named) unsealed b = b.3.1.lists

  -- where a pack is sealed, a chunk ended there, and none waits
  pub bites_whole : (chunk : Option (List ℕ)) (named : Option (List (List ℕ))) → listed ≢ None → Bites known piece f p n chunk named listed g q → (g.rest.items ≡ []) × (g.ended ≡ [])
  bites_whole None named some b = absurd (some b.2)
  bites_whole (Some chunk) None some b = absurd (some b.3.0)
  bites_whole (Some chunk) (Some named) some b = (b.2, b.3.1.ended)

-- after what was taken before, so is what was taken now
pub bites_on : (known : List Fact) (piece rest : List ℕ) (taken n : ℕ) (f0 f g : PieceFile) (p0 p q : Packing) (chunk : Option (List ℕ)) (named : Option (List (List ℕ))) (listed : Option PackFacts) → rest ≡ drop taken piece → taken ≤ length piece → f.size ≡ f0.size + taken
    → f0.size + length piece < file_end → p.packer.sealed ≡ None → GrowsBy p0 p → 1 ≤ n → n ≤ length rest → g.name ≡ f.name → g.size ≡ f.size + n → g.params ≡ f.params → Bites known rest f p n chunk named listed g q
    → ((w : PieceWork) → w.walk.root ≡ None → w.parts ≡ None → Goes known Sealing.Due (fed_bytes (take taken piece)) (with_file w f0 p0) (with_file w f p))
    → (w : PieceWork) → w.walk.root ≡ None → w.parts ≡ None → Goes known Sealing.Due (fed_bytes (take (taken + n) piece)) (with_file w f0 p0) (with_file w g q)
bites_on known piece rest taken n f0 f g p0 p q chunk named listed is within size small unsealed grows some few name sized by b before w unended unlaid =
    let long : length rest + taken ≡ length piece = omega (arith, ap length is, length-drop taken piece, within) in
    let room : f.size + length rest < file_end = omega (arith, long, size, small) in
    let now = bites_go known rest f g p q n listed w chunk named unended unlaid unsealed room some few name sized by b in
    subst (λ (x : List ℕ). Goes known Sealing.Due (fed_bytes x) (with_file w f0 p0) (with_file w g q)) (sym (take_both taken n piece))
    (bytes_on known (take taken piece) (take n (drop taken piece)) (with_file w f0 p0) (with_file w f p) (with_file w g q) unlaid unsealed grows.1 (before w unended unlaid)
    (subst (λ (x : List ℕ). Goes known Sealing.Due (fed_bytes (take n x)) (with_file w f p) (with_file w g q)) is now))

-- the bytes so far were taken, and all can be undone
pub record TakesSome (known : List Fact) (piece : List ℕ) (taken : ℕ) (first : Option (List ℕ)) (named : Option (List (List ℕ))) (f0 f : PieceFile) (p0 p : Packing) : Type 0 where
  pub within : taken ≤ length piece
  pub name : f.name ≡ f0.name
  pub params : f.params ≡ f0.params
  pub size : f.size ≡ f0.size + taken
  pub goes : (w : PieceWork) → w.walk.root ≡ None → w.parts ≡ None → Goes known Sealing.Due (fed_bytes (take taken piece)) (with_file w f0 p0) (with_file w f p)
  pub room : TakesMore p.packer.writer f.ended
  pub unsealed : p.packer.sealed ≡ None
  pub grows : GrowsBy p0 p
  pub packs : (sent : List Item) → IsPacking p0 known sent [] → IsPacking p known sent []
  pub target : p.packer.target ≡ p0.packer.target
  pub rest : take (length f0.rest.items) (first_rest first f) ≡ f0.rest.items
  pub ended : take (length f0.ended) (first_ended named f) ≡ f0.ended
  pub chunks : (more : List Name) × (f.content.items ≡ f0.content.items ++ more)

-- before a chunk ended nothing of this changed
pub ends_from : (known : List Fact) (chunk : List ℕ) (f h g : PieceFile) (p q : Packing) (named : Option (List (List ℕ))) (listed : Option PackFacts) → h.ended ≡ f.ended → h.content.items ≡ f.content.items → EndsChunk known chunk h p named listed g q → EndsChunk known chunk f p named listed g q
ends_from known chunk f h g p q None listed ended content e = (e.0, e.1 ∙ ap (λ l. l ++ chunk ∷ []) ended, e.2 ∙ content, e.3)
ends_from known chunk f h g p q (Some named) listed ended content e = (
  e.0 ∙ ap (λ l. l ++ chunk ∷ []) ended,
  record { ended = e.1.ended; content = e.1.content ∙ ap (λ l. l ++ map naming.name named) content; lists = e.1.lists; grows = e.1.grows; packs = e.1.packs },
)

-- what was taken, where the file is the same but for what it doesn't show
pub bites_as : (known : List Fact) (piece : List ℕ) (f g h : PieceFile) (p q : Packing) (n : ℕ) (chunk : Option (List ℕ)) (named : Option (List (List ℕ))) (listed : Option PackFacts) → h.rest.items ≡ g.rest.items → h.content.items ≡ g.content.items → h.ended ≡ g.ended
    → Bites known piece f p n chunk named listed g q → Bites known piece f p n chunk named listed h q
bites_as known piece f g h p q n None named listed rest content ended b = (b.0, b.1, b.2, rest ∙ b.3, content ∙ b.4, ended ∙ b.5, b.6)
bites_as known piece f g h p q n (Some chunk) None listed rest content ended b = (b.0, b.1, rest ∙ b.2, (b.3.0, ended ∙ b.3.1, content ∙ b.3.2, b.3.3))
bites_as known piece f g h p q n (Some chunk) (Some named) listed rest content ended b =
    let e = b.3.1 in
    (b.0, b.1, rest ∙ b.2, (b.3.0, record { ended = ended ∙ e.ended; content = content ∙ e.content; lists = e.lists; grows = e.grows; packs = e.packs }))

-- and what was taken so far
pub takes_as : (known : List Fact) (bytes : List ℕ) (w : PieceWork) (f0 f h : PieceFile) (p0 p : Packing) → w.parts ≡ None → p.packer.sealed ≡ None → p.packer.writer.target ≡ p0.packer.writer.target → h.name ≡ f.name → h.size ≡ f.size → h.content.items ≡ f.content.items → h.rest.items ≡ f.rest.items
    → h.params ≡ f.params → h.ended ≡ f.ended → Goes known Sealing.Due (fed_bytes bytes) (with_file w f0 p0) (with_file w f p) → Goes known Sealing.Due (fed_bytes bytes) (with_file w f0 p0) (with_file w h p)
takes_as known bytes w f0 f h p0 p unlaid unsealed aim name size content rest params ended goes =
    let stays = nothing_taken (with_file w f p) (with_file w h p) f h known refl (record { params = refl; version = refl; above = refl; nodes = refl; root = refl }) refl unlaid name size content rest params ended (λ sent packing. packing) refl in
    bytes_named known bytes (with_file w f0 p0) (with_file w f p) (with_file w h p) unlaid unlaid unsealed aim goes (λ st sent stands. ([], stays st sent stands, inl refl))

-- none so far
pub takes_none : (known : List Fact) (piece : List ℕ) (f : PieceFile) (p : Packing) → f.size + length piece < file_end → TakesMore p.packer.writer f.ended → p.packer.sealed ≡ None → TakesSome known piece 0 None None f f p p
takes_none known piece f p small room unsealed = record {
  within = omega arith;
  name = refl;
  params = refl;
  size = omega arith;
  goes = λ w unended unlaid. no_bytes known (with_file w f p) f unlaid refl (omega (arith, small));
  room = room;
  unsealed = unsealed;
  grows = grows_none p;
  packs = λ sent h. h;
  target = refl;
  rest = take_all (length f.rest.items) f.rest.items (omega arith);
  ended = take_all (length f.ended) f.ended (omega arith);
  chunks = ([], sym (append-nil f.content.items));
}

-- and some more, and no pack was sealed
pub takes_on : (known : List Fact) (piece rest : List ℕ) (taken n : ℕ) (first chunk : Option (List ℕ)) (named chunks : Option (List (List ℕ))) (listed : Option PackFacts) (f0 f g : PieceFile) (p0 p q : Packing) → TakesSome known piece taken first named f0 f p0 p
    → rest ≡ drop taken piece → f0.size + length piece < file_end → 1 ≤ n → n ≤ length rest → g.name ≡ f.name → g.size ≡ f.size + n → g.params ≡ f.params → listed ≡ None → TakesMore q.packer.writer g.ended → q.packer.target ≡ p.packer.target
    → Bites known rest f p n chunk chunks listed g q → TakesSome known piece (taken + n) (option_or first chunk) (option_or named chunks) f0 g p0 q
takes_on known piece rest taken n first chunk named chunks listed f0 f g p0 p q inv is small some few name size params none room target b =
    let before : taken ≤ length piece = inv.within in
    let long : length rest + taken ≡ length piece = omega (arith, ap length is, length-drop taken piece, before) in
    let unsealed : q.packer.sealed ≡ None = subst (λ l. IsListed l q) none (bites_listed known rest f g p q n listed chunk chunks inv.unsealed b) in
    let so_far : f.size ≡ f0.size + taken = inv.size in
    record {
      within = omega (arith, long, few);
      name = name ∙ inv.name;
      params = params ∙ inv.params;
      size = omega (arith, size, so_far);
      goes = bites_on known piece rest taken n f0 f g p0 p q chunk chunks listed is inv.within inv.size small inv.unsealed inv.grows some few name size params b inv.goes;
      room = room;
      unsealed = unsealed;
      grows = keeps_open known rest f g p q n listed chunk chunks p0 none inv.grows b;
      packs = keeps_packing known rest f g p q n listed chunk chunks p0 unsealed inv.packs b;
      target = target ∙ inv.target;
      rest = keeps_first known rest f g p q n listed first chunk chunks (length f0.rest.items) f0.rest.items refl inv.rest b;
      ended = keeps_ended known rest f g p q n listed named chunks chunk (length f0.ended) f0.ended refl inv.ended b;
      chunks = keeps_chunks known rest f g p q n listed chunk chunks f0.content.items inv.chunks b;
    }

-- ---- what is kept to go back

-- the bytes of a chunk, if there is one
abbrev pub chunk_bytes : Option (Vec ℕ Global) → Option (List ℕ)
chunk_bytes o = option_map (λ (v : Vec ℕ Global). v.items) o

pub kept_or : (first now : Option (Vec ℕ Global)) → option_or (chunk_bytes first) (chunk_bytes now) ≡ chunk_bytes (option_or first now)
kept_or None now = refl
kept_or (Some v) now = refl

pub not_listed : (o : Option PackFacts) → false ≡ is_some o → o ≡ None
not_listed None e = refl
not_listed (Some x) e = absurd (cc)

pub is_listed : (o : Option PackFacts) → true ≡ is_some o → o ≢ None
is_listed None e = absurd (cc)
is_listed (Some x) e = λ none. absurd (cc)

pub first_same : (first : Option (List ℕ)) (f g : PieceFile) → g.rest.items ≡ f.rest.items → first_rest first g ≡ first_rest first f
first_same None f g e = e
first_same (Some x) f g e = refl

pub ended_same : (first : Option (List (List ℕ))) (f g : PieceFile) → g.ended ≡ f.ended → first_ended first g ≡ first_ended first f
ended_same None f g e = e
ended_same (Some x) f g e = refl
