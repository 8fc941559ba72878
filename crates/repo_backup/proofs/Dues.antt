-- Where no pack is due, and no index.
use Rattle.std.proofs.Common.{◌≡◌, ◌<◌, ◌++◌, [], ℕ, Bool, List, length, Option, Some, None, refl, sym, ap, subst, inl, inr, ◌∙◌, append-nil, Contains}
use Rattle.std.proofs.lemmas.List.Elements.{Contains-append_right, Contains-append_cases}
use Rattle.repo_chunk.specs.Parameters.{Parameters, AreLawful}
use Rattle.repo_index.specs.IndexText.{facts_in}
use Rattle.repo_index.specs.declared.facts.Fact.{Fact}
use Rattle.repo_name.proofs.Containing.{none_contained}
use Rattle.repo_name.specs.Limits.{facts_limit}
use Rattle.repo_pack.specs.PackLayout.{Item}
use Rattle.repo_pack.specs.PackWriting.{IsOpen}
use Rattle.repo_session.specs.Traces.{Trace}
use Rattle.repo_writing.proofs.BlobLemmas.{has_before, has_either}
use Rattle.repo_writing.proofs.PutLemmas.{each_contained}
use Rattle.repo_writing.proofs.Writings.{one_packed}
use Rattle.repo_writing.specs.Blobs.{HasItem}
use Rattle.repo_writing.specs.Writing.{Put, items_of, FewAreUnlisted}
use Rattle.repo_backup.specs.Backing.{HasWritten}
use Rattle.repo_backup.specs.Folders.{Folder}
use Rattle.repo_backup.specs.Packings.{all_items}
use Rattle.repo_backup.specs.PieceRules.{NoPackIsDue}
use Rattle.repo_backup.specs.PieceStates.{listed_of, waits, PieceAt}
use Rattle.repo_backup.specs.Pieces.{IsFileAt, HasRoom, waiting_in, IsCoveredSoFar}
use Rattle.repo_backup.specs.Standings.{Around, FileCut, made_at}
use Rattle.repo_backup.specs.declared.packing.Packing.{Packing}
use Rattle.repo_backup.specs.declared.piece_backing.PieceBacking.{PieceBacking}
use Rattle.repo_backup.specs.declared.pieces.PieceFile.{PieceFile}
use Rattle.repo_backup.proofs.BlobLengths.{made_short}
use Rattle.repo_backup.proofs.Piecing.{plain, waiting_made}
use Rattle.repo_backup.proofs.Written.{known_given, none_due}

-- ---- an index

-- where no pack is being put, those wait that no index lists
pub none_being_put : (b : PieceBacking) → b.listed ≡ None → waits b ≡ b.waiting
none_being_put b none = ap (λ o. b.waiting ++ listed_of o) none ∙ append-nil b.waiting

-- and where they are few, no index is due
pub index_undue : (facts : List Fact) (b : PieceBacking) (puts : List Put) (es : Trace) → HasWritten facts (waits b) b.counts puts [] es → b.listed ≡ None → length (facts_in b.waiting) < facts_limit → FewAreUnlisted es
index_undue facts b puts es written none few = none_due facts (waits b) b.counts puts es written (subst (λ ws. length (facts_in ws) < facts_limit) (sym (none_being_put b none)) few)

-- ---- a pack

-- the open pack takes more, with the chunks that wait
room_for : (file : Option PieceFile) (p : Packing) → HasRoom file p → IsOpen (record { items = p.packer.writer.items ++ waiting_in file; target = p.packer.writer.target })
room_for None p h = subst (λ (l : List Item). IsOpen (record { items = l; target = p.packer.writer.target })) (sym (append-nil p.packer.writer.items)) h
room_for (Some f) p h = h

-- these were made
waits_made : (params : Parameters) (version : ℕ) (done : Folder) (above : List Around) (over : Bool) (file : Option PieceFile) (o : Option FileCut) → IsFileAt params file o → (x : Item) → Contains (waiting_in file) x
    → Contains (made_at version (record { done = done; above = above; file = o; over = over })) x
waits_made params version done above over None o at x among = absurd (none_contained x among)
waits_made params version done above over (Some f) None at x among = absurd at
waits_made params version done above over (Some f) (Some c) at x among = waiting_made version done above over c at.named f.ended at.chunks x among

-- where no part of a directory is left to be made, and no pack is sealed or being put, none is due
pub pack_undue : (facts : List Fact) (b : PieceBacking) (puts : List Put) (es : Trace) → PieceAt facts b puts [] [] es → b.work.parts ≡ None → NoPackIsDue es
pack_undue facts b puts es h unlaid =
    let w = b.work in
    let st = h.st in
    let sent = items_of (puts ++ []) in
    let written = w.packing.packer.writer.items in
    let waiting = waiting_in w.walk.file in
    let stands = plain w facts st sent [] unlaid h.stands in
    let sent_is : sent ++ [] ≡ items_of puts = append-nil sent ∙ ap items_of (append-nil puts) in
    let made : (item : Item) → Contains (written ++ waiting) item → Contains (made_at w.walk.version st) item = λ item among. elim (Contains-append_cases written waiting item among) [
      | inl here ↦ stands.of_made item (Contains-append_right (sent ++ []) written item here)
      | inr waits ↦ waits_made w.walk.params w.walk.version st.done st.above st.over w.walk.file st.file stands.at.file item waits
    ] in
    let lawful : AreLawful w.walk.params = subst AreLawful (sym h.goes_by.params) h.at.has.reads.allowed.0 in
    record {
      config = h.config;
      st = st;
      at = h.at;
      items = written ++ waiting;
      made = λ item among. subst (λ n. Contains (made_at n st) item) h.goes_by.version (made item among);
      all = λ item among. elim (each_contained (λ i. IsCoveredSoFar facts (all_items sent [] w.packing) w.walk.file i) (made_at w.walk.version st) item stands.covered (subst (λ n. Contains (made_at n st) item) (sym h.goes_by.version) among)) [
        | inl (inl fact) ↦ inl (known_given facts es item.kind item.name h.written.gives fact)
        | inl (inr has) ↦ inr (elim (has_either (sent ++ []) written item.kind item.name has) [
          | inl before ↦ inl (one_packed b.counts puts es h.written.put item.kind item.name (subst (λ l. HasItem l item.kind item.name) sent_is before))
          | inr here ↦ inr (has_before written waiting item.kind item.name here)
        ])
        | inr waits ↦ inr (inr (item, Contains-append_right written waiting item waits, refl, refl))
      ];
      fits = λ item among. made_short w facts st sent [] lawful stands item (made item among);
      room = subst (λ t. IsOpen (record { items = written ++ waiting; target = t })) h.goes_by.aims (room_for w.walk.file w.packing h.opened);
    }
