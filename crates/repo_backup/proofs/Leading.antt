-- Where items lead, one after another.
use Rattle.std.proofs.Common.{◌≡◌, ◌≢◌, ◌⊎◌, ◌++◌, ◌∷◌, [], ℕ, Bool, true, false, List, cond, Option, Some, None, refl, sym, ap, subst, inl, inr, ◌∙◌, append_assoc, append-nil, Contains}
use Rattle.std.proofs.lemmas.List.{map-append}
use Rattle.std.proofs.lemmas.List.Elements.{Contains-append_left}
use Rattle.repo_name.specs.declared.kinds.BlobKind.TheVariants.{Content}
use Rattle.repo_chunk.specs.Parameters.{Parameters, AreLawful}
use Rattle.repo_pack.specs.PackLayout.{Item, item_of}
use Rattle.repo_tree.specs.Spelling.{dir_entry, file_entry}
use Rattle.repo_backup.specs.Folders.{Folder, nothing, file_then, dir_then, joined, entries_of, trees_of, blobs_below}
use Rattle.repo_session.specs.Feeds.{Fed, fed_dir, fed_file, fed_bytes, fed_close, fed_end, fed_abandon}
use Rattle.repo_backup.specs.Items.{Feeding, Place, after, place_of, MayTake, MayGrow, NobodyGaveUp, AreTaken}
use Rattle.repo_backup.specs.ItemLaws.{EndIsLast, GivingUpIsLast, ItemsLead, MadeGrows, MadeOfAll}
use Rattle.repo_backup.specs.Standings.{last_chunk, both, Around, FileCut, Standing, path_of, entries_at, file_at, place_at, IsCutSoFar, LeadTo, chunk_items, made_below, chunks_made, made_at}
use Rattle.repo_backup.proofs.Lengthening.{cut_both, entries_more, made_more, outer_path, no_file, no_path, joined_both, none_cut, split_of, last_joined, grown_by, closed_cuts}

-- a standing that comes next: it has this place, and more is made
pub record Next (params : Parameters) (version : ℕ) (st : Standing) (p : Place) : Type 0 where
  pub now : Standing
  pub place : place_at now ≡ p
  pub cut : IsCutSoFar params now
  pub more : List Item
  pub made : made_at version now ≡ made_at version st ++ more

-- what is made before the end
pub made_open : (version : ℕ) (st : Standing) → st.over ≡ false → made_at version st ≡ made_below version st.done st.above ++ chunks_made st.file
made_open version st open_still = ap (λ b. (made_below version st.done st.above ++ chunks_made st.file) ++ cond b (trees_of version st.done) []) open_still ∙ append-nil (made_below version st.done st.above ++ chunks_made st.file)

module _ (params : Parameters) (lawful : AreLawful params) (version : ℕ) where
  unfoldable pub next_dir : (st : Standing) (name : List ℕ) → IsCutSoFar params st → st.over ≡ false → Next params version st (after (place_at st) (fed_dir name))
  next_dir st name cut open_still =
      let now : Standing = record { done = nothing; above = record { name = name; done = st.done } ∷ st.above; file = st.file; over = st.over } in
      let path = path_of st.above ++ name ∷ [] in
      let same = append-nil (entries_at st.done st.above ++ dir_entry path ∷ []) in
      record {
        now = now;
        place = λ i. record { entries = same i; path = path; file = file_at st.file; over = st.over };
        cut = record { done = tt; above = (cut.done, cut.above); file = cut.file };
        more = [];
        made = made_open version now open_still ∙ ap (λ l. l ++ chunks_made st.file) (append-nil (made_below version st.done st.above)) ∙ sym (made_open version st open_still) ∙ sym (append-nil (made_at version st));
      }

  unfoldable pub next_file : (st : Standing) (name : List ℕ) → IsCutSoFar params st → st.over ≡ false → st.file ≡ None → Next params version st (after (place_at st) (fed_file name))
  next_file st name cut open_still none =
      let now : Standing = record { done = st.done; above = st.above; file = Some (record { name = name; chunks = []; rest = [] }); over = st.over } in
      record {
        now = now;
        place = refl;
        cut = record { done = cut.done; above = cut.above; file = (refl, none_cut params lawful) };
        more = [];
        made = made_open version now open_still ∙ ap (λ o. made_below version st.done st.above ++ chunks_made o) (sym none) ∙ sym (made_open version st open_still) ∙ sym (append-nil (made_at version st));
      }

  next_bytes : (done : Folder) (above : List Around) (file : Option FileCut) (over : Bool) (bytes : List ℕ) → IsCutSoFar params (record { done = done; above = above; file = file; over = over }) → over ≡ false → MayGrow (file_at file) bytes
      → Next params version (record { done = done; above = above; file = file; over = over }) (after (place_at (record { done = done; above = above; file = file; over = over })) (fed_bytes bytes))
  next_bytes done above None over bytes cut open_still may = absurd may
  next_bytes done above (Some f) over bytes cut open_still may =
      let st : Standing = record { done = done; above = above; file = Some f; over = over } in
      let g = grown_by params f bytes cut.file.0 (split_of params lawful (f.rest ++ bytes)) in
      let file : FileCut = record { name = f.name; chunks = f.chunks ++ g.chunks; rest = g.rest } in
      let now : Standing = record { done = done; above = above; file = Some file; over = over } in
      let before = made_below version done above in
      record {
        now = now;
        place = λ i. record { entries = entries_at done above; path = path_of above; file = Some (record { name = f.name; bytes = g.bytes i }); over = over };
        cut = record { done = cut.done; above = cut.above; file = (g.cuts, g.uncut) };
        more = chunk_items g.chunks;
        made = made_open version now open_still ∙ ap (λ l. before ++ l) (map-append (λ chunk. item_of Content chunk) f.chunks g.chunks) ∙ sym (append_assoc before (chunk_items f.chunks) (chunk_items g.chunks))
            ∙ ap (λ l. l ++ chunk_items g.chunks) (sym (made_open version st open_still));
      }

  unfoldable pub next_close : (done : Folder) (above : List Around) (file : Option FileCut) (over : Bool) → IsCutSoFar params (record { done = done; above = above; file = file; over = over }) → over ≡ false
      → (file_at file ≢ None) ⊎ (path_of above ≢ [])
      → Next params version (record { done = done; above = above; file = file; over = over }) (after (place_at (record { done = done; above = above; file = file; over = over })) fed_close)
  next_close done above (Some f) over cut open_still may =
      let st : Standing = record { done = done; above = above; file = Some f; over = over } in
      let chunks = f.chunks ++ last_chunk f.rest in
      let mine : Folder = file_then f.name chunks nothing in
      let now : Standing = record { done = both done mine; above = above; file = None; over = over } in
      let path = path_of above ++ f.name ∷ [] in
      let bytes : joined chunks ≡ joined f.chunks ++ f.rest = joined_both f.chunks (last_chunk f.rest) ∙ ap (λ l. joined f.chunks ++ l) (last_joined f.rest) in
      let entries : entries_at (both done mine) above ≡ entries_at done above ++ file_entry path (joined f.chunks ++ f.rest) ∷ [] =
      entries_more above done mine ∙ ap (λ b. entries_at done above ++ file_entry path b ∷ []) bytes in
      let before = made_below version done above in
      record {
        now = now;
        place = λ i. record { entries = entries i; path = path_of above; file = None; over = over };
        cut = record { done = cut_both params done mine cut.done (closed_cuts params f cut.file.0 cut.file.1, tt); above = cut.above; file = tt };
        more = chunk_items (last_chunk f.rest);
        made = made_open version now open_still ∙ append-nil (made_below version (both done mine) above) ∙ made_more version above done mine ∙ ap (λ l. before ++ l) (append-nil (chunk_items chunks))
            ∙ ap (λ l. before ++ l) (map-append (λ chunk. item_of Content chunk) f.chunks (last_chunk f.rest)) ∙ sym (append_assoc before (chunk_items f.chunks) (chunk_items (last_chunk f.rest)))
            ∙ ap (λ l. l ++ chunk_items (last_chunk f.rest)) (sym (made_open version st open_still));
      }
  next_close done [] None over cut open_still (inl some) = absurd (some refl)
  next_close done [] None over cut open_still (inr some) = absurd (some refl)
  next_close done (a ∷ above) None over cut open_still may =
      let st : Standing = record { done = done; above = a ∷ above; file = None; over = over } in
      let mine : Folder = dir_then a.name done nothing in
      let now : Standing = record { done = both a.done mine; above = above; file = None; over = over } in
      let path = path_of above ++ a.name ∷ [] in
      let inside = entries_of path done in
      let outer = entries_at a.done above in
      let entries : entries_at (both a.done mine) above ≡ (outer ++ dir_entry path ∷ []) ++ inside =
      entries_more above a.done mine ∙ ap (λ l. outer ++ dir_entry path ∷ l) (append-nil inside) ∙ sym (append_assoc outer (dir_entry path ∷ []) inside) in
      let up = sym (outer_path (path_of above) a.name) in
      let before = made_below version a.done above in
      let below = blobs_below version done in
      record {
        now = now;
        place = λ i. record { entries = entries i; path = up i; file = None; over = over };
        cut = record { done = cut_both params a.done mine cut.above.0 (cut.done, tt); above = cut.above.1; file = tt };
        more = trees_of version done;
        made = made_open version now open_still ∙ append-nil (made_below version (both a.done mine) above) ∙ made_more version above a.done mine ∙ ap (λ l. before ++ l) (append-nil (below ++ trees_of version done))
            ∙ sym (append_assoc before below (trees_of version done)) ∙ ap (λ l. l ++ trees_of version done) (sym (append-nil (before ++ below)) ∙ sym (made_open version st open_still));
      }

  unfoldable pub next_end : (st : Standing) → IsCutSoFar params st → st.over ≡ false → Next params version st (after (place_at st) fed_end)
  next_end st cut open_still =
      let now : Standing = record { done = st.done; above = st.above; file = st.file; over = true } in
      record {
        now = now;
        place = refl;
        cut = record { done = cut.done; above = cut.above; file = cut.file };
        more = trees_of version st.done;
        made = ap (λ l. l ++ trees_of version st.done) (sym (made_open version st open_still));
      }

  pub next : (item : Fed) (st : Standing) → IsCutSoFar params st → st.over ≡ false → MayTake (place_at st) item → Next params version st (after (place_at st) item)
  next (fed_dir name) st cut open_still may = next_dir st name cut open_still
  next (fed_file name) st cut open_still may = next_file st name cut open_still (no_file st.file may.1.0)
  next (fed_bytes bytes) st cut open_still may = next_bytes st.done st.above st.file st.over bytes cut open_still may
  next fed_close st cut open_still may = next_close st.done st.above st.file st.over cut open_still may
  next fed_end st cut open_still may = next_end st cut open_still
  next fed_abandon st cut open_still may = record { now = st; place = refl; cut = cut; more = []; made = sym (append-nil (made_at version st)) }

  -- one item more leads on
  pub leads_on : (item : Fed) (items : Feeding) (st : Standing) → AreTaken (item ∷ items) → LeadTo params items st → Next params version st (place_of (item ∷ items))
  leads_on item items st taken lead =
      let open_still : st.over ≡ false = ap (λ (p : Place). p.over) lead.place ∙ taken.0 in
      let n = next item st lead.cut open_still (subst (λ p. MayTake p item) (sym lead.place) taken.2) in
      record { now = n.now; place = n.place ∙ ap (λ p. after p item) lead.place; cut = n.cut; more = n.more; made = n.made }

  lead_somewhere : (items : Feeding) → AreTaken items → (st : Standing) × LeadTo params items st
  lead_somewhere [] taken = (record { done = nothing; above = []; file = None; over = false }, record { place = refl; cut = record { done = tt; above = tt; file = tt } })
  lead_somewhere (item ∷ items) taken =
      let k = lead_somewhere items taken.3 in
      let n = leads_on item items k.0 taken k.1 in
      (n.now, record { place = n.place; cut = n.cut })

-- however many more
module _ (params : Parameters) (lawful : AreLawful params) (version : ℕ) where
  pub made_later : (more items : Feeding) (st : Standing) → AreTaken (more ++ items) → LeadTo params items st
      → (now : Standing) × LeadTo params (more ++ items) now × (later : List Item) × (made_at version now ≡ made_at version st ++ later)
  made_later [] items st taken lead = (st, lead, [], sym (append-nil (made_at version st)))
  made_later (item ∷ more) items st taken lead =
      let k = made_later more items st taken.3 lead in
      let n = leads_on params lawful version item (more ++ items) k.0 taken k.1 in
      (n.now, record { place = n.place; cut = n.cut }, k.2 ++ n.more, n.made ∙ ap (λ l. l ++ n.more) k.3 ∙ append_assoc (made_at version st) k.2 n.more)

-- nothing may be taken behind the end
over_apart : (b : Bool) → b ≡ false → b ≡ true → ⊥
over_apart b f t = absurd (cc)

pub over_last : (more items : Feeding) → AreTaken (more ++ items) → (place_of items).over ≡ true → more ≡ []
over_last [] items taken over = refl
over_last (item ∷ more) items taken over =
    let none = over_last more items taken.3 over in
    absurd (over_apart (place_of (more ++ items)).over taken.0 (ap (λ (m : Feeding). (place_of (m ++ items)).over) none ∙ over))

-- nothing may be taken where somebody gave up
pub giving_up_is_last : GivingUpIsLast
giving_up_is_last [] items taken = refl
giving_up_is_last (item ∷ more) items taken =
    let none = giving_up_is_last more items taken.3 in
    absurd (subst (λ m. NobodyGaveUp (m ++ fed_abandon ∷ items)) none taken.1)

pub items_lead : ItemsLead
items_lead params items lawful taken = lead_somewhere params lawful 1 items taken

pub made_grows : MadeGrows
made_grows params version more items st lawful taken lead =
    let k = made_later params lawful version more items st taken lead in
    (k.0, k.1, λ blob c. subst (λ l. Contains l blob) (sym k.3) (Contains-append_left (made_at version st) k.2 blob c))

pub end_is_last : EndIsLast
end_is_last more items taken over = over_last more items taken over

pub made_of_all : MadeOfAll
made_of_all params version items st taken lead =
    let p = lead.place in
    let none : st.file ≡ None = no_file st.file (ap (λ (q : Place). q.file) p ∙ taken.2.0) in
    let root : st.above ≡ [] = no_path st.above (ap (λ (q : Place). q.path) p ∙ taken.2.1) in
    let over : st.over ≡ true = ap (λ (q : Place). q.over) p in
    let entries : entries_of [] st.done ≡ (place_of (fed_end ∷ items)).entries = ap (λ l. entries_at st.done l) (sym root) ∙ ap (λ (q : Place). q.entries) p in (
      record { holds = entries; cut = lead.cut.done },
      (λ i. (made_below version st.done (root i) ++ chunks_made (none i)) ++ cond (over i) (trees_of version st.done) []) ∙ ap (λ l. l ++ trees_of version st.done) (append-nil (blobs_below version st.done)),
    )
