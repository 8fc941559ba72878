-- What is known once some parts of a directory were made.
use Rattle.std.proofs.Common.{arith, ◌≡◌, ◌≢◌, ◌≤◌, ◌<◌, ◌++◌, ◌∷◌, [], ℕ, true, false, List, length, Option, Some, None, refl, sym, ap, subst, inl, inr, ◌⊎◌, ◌∙◌, Contains}
use Rattle.std.proofs.lemmas.List.{length-map}
use Rattle.repo_index.specs.declared.facts.Fact.{Fact}
use Rattle.repo_index.specs.declared.facts.PackFacts.{PackFacts}
use Rattle.repo_name.specs.declared.kinds.BlobKind.TheVariants.{Tree}
use Rattle.repo_name.specs.declared.names.Name.{Name}
use Rattle.repo_pack.specs.PackLayout.{Item, item_of}
use Rattle.repo_pack.specs.PackWriting.{IsOpen}
use Rattle.repo_session.specs.Traces.{Trace, fed_in}
use Rattle.repo_tree.specs.declared.configs.Config.{Config}
use Rattle.repo_writing.specs.Writing.{Put, items_of}
use Rattle.repo_writing.specs.Filling.{IsPromptPack, IsFullPack}
use Rattle.repo_backup.specs.Folders.{Folder}
use Rattle.repo_backup.specs.Items.{Feeding, Place, place_of}
use Rattle.repo_backup.specs.Packings.{AimsOn, IsSealedBy}
use Rattle.repo_backup.specs.PartsMade.{left_count, closed_dir}
use Rattle.repo_backup.specs.PieceBackups.{PieceKnows, PieceRests, PieceSends, PieceLaysOn}
use Rattle.repo_backup.specs.PieceRules.{piece_rule}
use Rattle.repo_backup.specs.PieceStates.{piece_task, GoesBy, StandsAt, PutsPack, PutsIndex, KnowsPieces, IsPieceIdle, PieceWent, LaidAt, LaysSo}
use Rattle.repo_index.specs.IndexText.{facts_in}
use Rattle.repo_name.specs.Limits.{facts_limit}
use Rattle.repo_name.specs.declared.kinds.Kind.{Kind}
use Rattle.repo_name.specs.declared.tokens.Token.{Token}
use Rattle.repo_session.specs.Askers.{Holding}
use Rattle.repo_session.specs.Jobs.{MayGoOn}
use Rattle.repo_session.specs.Order.{IsWorking}
use Rattle.repo_session.specs.declared.catalogs.Catalog.{Catalog}
use Rattle.repo_session.specs.declared.jobs.Step.{Step}
use Rattle.repo_wire.specs.declared.messages.Ask.{Ask}
use Rattle.repo_backup.specs.declared.piece_jobs.PieceJob.{PieceJob}
use Rattle.std.proofs.lemmas.Option.{same_Some}
use Rattle.repo_backup.specs.Pieces.{AreOuterAt, PieceLays, WorkStands, IsSteady, LaysOn, LaysStill, LeavesPacked, sealing_in}
use Rattle.repo_backup.specs.Standings.{Around, Standing, made_at}
use Rattle.repo_backup.specs.declared.packing.Sealing.{Sealing}
use Rattle.repo_backup.specs.declared.piece_backing.PieceBacking.{PieceBacking}
use Rattle.repo_backup.specs.declared.piece_works.PieceWork.{PieceWork}
use Rattle.repo_backup.specs.declared.piece_works.Took.{Took}
use Rattle.repo_backup.specs.declared.pieces.Outer.{Outer}
use Rattle.repo_backup.specs.declared.walks.Went.{Went}
use Rattle.repo_backup.proofs.Closing.{none_there}
use Rattle.repo_backup.proofs.PieceFeeding.{full_by, prompt_by, left_open, left_empty, open_root}
use Rattle.repo_backup.proofs.Piecing.{none_sealed, packing_in, room_none, room_open, shut_in}

-- where parts are left, it makes them
laying : (w : PieceWork) (known : List Fact) (st : Standing) (sent sealed : List Item) → 1 ≤ left_count w.parts → WorkStands w known st sent sealed → PieceLays w known st sent sealed
laying w known st sent sealed some (inl h) = absurd (omega (arith, some, ap left_count h.0))
laying w known st sent sealed some (inr h) = h

-- some are, where any are
some_length : {A : Type 0} (xs : List A) → xs ≢ [] → 1 ≤ length xs
some_length [] some = absurd (some refl)
some_length (x ∷ xs) some = omega arith

pub some_left : (w : PieceWork) (known : List Fact) (st : Standing) (sent sealed : List Item) → w.parts ≢ None → WorkStands w known st sent sealed → 1 ≤ left_count w.parts
some_left w known st sent sealed laid (inl h) = absurd (laid h.0)
some_left w known st sent sealed laid (inr h) = omega (arith, ap left_count h.parts_are, ap length h.is_left.sizes, length-map h.left length, some_length h.left h.some)

-- a directory that isn't the root doesn't end the items
-- no file is open there
shut_there : (done : Folder) (above : List Around) → (closed_dir done above).file ≡ None
shut_there done [] = refl
shut_there done (a ∷ above) = refl

dir_open : (version : ℕ) (o : Outer) (outers : List Outer) (done : Folder) (above : List Around) → AreOuterAt version (o ∷ outers) above → (closed_dir done above).over ≡ false
dir_open version o outers done [] h = absurd (cc)
dir_open version o outers done (a ∷ above) h = refl

module _ (facts : List Fact) (old new : PieceWork) (params : new.walk.params ≡ old.walk.params) (version : new.walk.version ≡ old.walk.version) (aims : AimsOn old.packing new.packing) (some : 1 ≤ left_count old.parts) where
  by_config : (config : Config) (b : PieceBacking) → b.work ≡ old → GoesBy config b.work → GoesBy config new
  by_config config b work h =
      let g = subst (λ w. GoesBy config w) work h in
      record { params = params ∙ g.params; version = version ∙ g.version; aim = ap (λ t. t.bytes) aims.0 ∙ g.aim; aims = aims.1 (g.aims ∙ sym g.aim) ∙ ap (λ t. t.bytes) aims.0 ∙ g.aim }

  module _ (n : ℕ) (listed : Option PackFacts) (lays : LaysOn facts old (Took.All n listed) new) (left : LeavesPacked (sealing_in old.walk.above.items) (Took.All n listed) new) where
    module _ (b : PieceBacking) (puts next : List Put) (items : Feeding) (es : Trace) (work : b.work ≡ old) (h : StandsAt facts b puts next [] items es) where
      pub lay : PieceLays old facts h.st (items_of (puts ++ next)) []
      lay = laying old facts h.st (items_of (puts ++ next)) [] some (subst (λ w. WorkStands w facts h.st (items_of (puts ++ next)) []) work h.stands)

      abbrev pub laid_step : (sealed : List Item) × WorkStands new facts h.st (items_of (puts ++ next)) sealed × (IsSealedBy Sealing.Due old.packing.packer.writer.target sealed ⊎ ((h.st.over ≡ true) × (new.parts ≡ None) × IsSealedBy Sealing.Last old.packing.packer.writer.target sealed))
      laid_step = lays.1 h.st (items_of (puts ++ next)) lay

      empty_at_end : new.walk.root ≢ None → new.packing.packer.writer.items ≡ []
      empty_at_end ended = by old.walk.above.items refl
        where
          by : (outers : List Outer) → old.walk.above.items ≡ outers → new.packing.packer.writer.items ≡ []
          by [] is = left_empty listed new.packing (subst (λ os. LeavesPacked (sealing_in os) (Took.All n listed) new) is left).1
          by (o ∷ outers) is =
              let still : h.st.over ≡ false = ap (λ (s : Standing). s.over) lay.closed ∙ dir_open old.walk.version o outers lay.done lay.above (subst (λ os. AreOuterAt old.walk.version os lay.above) is lay.at.outers) in
              absurd (ended (open_root new facts h.st (items_of (puts ++ next)) laid_step.0 laid_step.1 still))

      pub stands_now : StandsAt facts (record b { work = new }) puts next laid_step.0 items es
      stands_now = record {
        config = h.config;
        st = h.st;
        at = h.at;
        taken = h.taken;
        kept = h.kept;
        goes_by = by_config h.config b work h.goes_by;
        stands = laid_step.1;
        opened = room_none new.walk.file new.packing (shut_in new facts h.st (items_of (puts ++ next)) laid_step.0 laid_step.1 (ap (λ (s : Standing). s.file) lay.closed ∙ shut_there lay.done lay.above)) (left_open (sealing_in old.walk.above.items) listed new.packing left.1);
        ended = empty_at_end;
        written = h.written;
      }

  pub lays_on : (n : ℕ) → LaysOn facts old (Took.All n None) new → LeavesPacked (sealing_in old.walk.above.items) (Took.All n None) new → LaysSo facts old Went.On new
  unfolding stands_now
  lays_on n lays left b puts next items es work h unsealed =
      let k = laid_step n None lays left b puts next items es work h in
      let none = none_sealed new.packing.packer.sealed k.0 left.0 (packing_in new facts h.st (items_of (puts ++ next)) k.0 k.1).sealed_is in
      (subst (λ l. StandsAt facts (record b { work = new }) puts next l items es) none (stands_now n None lays left b puts next items es work h), left.0)

  pub lays_pack : (n : ℕ) (listed : PackFacts) → LaysOn facts old (Took.All n (Some listed)) new → LeavesPacked (sealing_in old.walk.above.items) (Took.All n (Some listed)) new → LaysSo facts old (Went.Pack listed) new
  lays_pack n listed lays left b puts next items es work h unsealed =
      let k = laid_step n (Some listed) lays left b puts next items es work h in
      let many = (left.0 k.0 (packing_in new facts h.st (items_of (puts ++ next)) k.0 k.1).sealed_is).1.holds.holds.pack.count.0 in
      let aim : old.packing.packer.writer.target ≡ h.config.target = ap (λ w. w.packing.packer.writer.target) (sym work) ∙ h.goes_by.aims in
      let prompt : IsPromptPack es k.0 = elim k.2 [
        | inl due ↦ prompt_by Sealing.Due h.config es k.0 h.at.has (subst (λ (t : ℕ). IsSealedBy Sealing.Due t k.0) aim due) many
        | inr over ↦ prompt_by Sealing.Last h.config es k.0 h.at.has (subst (λ (t : ℕ). IsSealedBy Sealing.Last t k.0) aim over.2) many
      ] in
      let full : IsFullPack es k.0 ⊎ (((place_of items).over ≡ true) × (new.parts ≡ None)) = elim k.2 [
        | inl due ↦ inl (full_by h.config es k.0 h.at.has (subst (λ (t : ℕ). IsSealedBy Sealing.Due t k.0) aim due) many)
        | inr over ↦ inr (ap (λ (p : Place). p.over) (sym h.at.lead.place) ∙ over.0, over.1)
      ] in
      (k.0, stands_now n (Some listed) lays left b puts next items es work h, left.0, prompt, full)

  pub lays_large : LaysOn facts old Took.TooLarge new → LaysSo facts old Went.TooLarge new
  lays_large lays b puts next items es work h unsealed =
      let lay = laying old facts h.st (items_of (puts ++ next)) [] some (subst (λ w. WorkStands w facts h.st (items_of (puts ++ next)) []) work h.stands) in
      let k = lays h.st (items_of (puts ++ next)) lay in
      let is : old.walk.version ≡ h.config.version = ap (λ w. w.walk.version) (sym work) ∙ h.goes_by.version in
      record { config = h.config; st = h.st; at = h.at; taken = h.taken; version_is = version ∙ is; text = k.0; made = subst (λ n. Contains (made_at n h.st) (item_of Tree k.0)) is k.1; large = k.2 }

  -- there was no memory, and some may be made
  pub lays_less : LaysStill facts old new → IsSteady facts old new → new.walk.root ≡ old.walk.root → LaysSo facts old Went.On new
  lays_less still steady root b puts next items es work h unsealed =
      let lay = laying old facts h.st (items_of (puts ++ next)) [] some (subst (λ w. WorkStands w facts h.st (items_of (puts ++ next)) []) work h.stands) in (
        record {
          config = h.config;
          st = h.st;
          at = h.at;
          taken = h.taken;
          kept = h.kept;
          goes_by = by_config h.config b work h.goes_by;
          stands = inr (still h.st (items_of (puts ++ next)) lay);
          opened = room_none new.walk.file new.packing (shut_in new facts h.st (items_of (puts ++ next)) [] (inr (still h.st (items_of (puts ++ next)) lay)) (ap (λ (s : Standing). s.file) lay.closed ∙ shut_there lay.done lay.above)) steady.packing.opened;
          ended = λ some. absurd (some (root ∙ none_there old.walk.root lay.at.over));
          written = h.written;
        },
        steady.packing.unsealed,
      )

-- no part is left
pub lays_none : (facts : List Fact) (w : PieceWork) → LaysSo facts w Went.On w
lays_none facts w b puts next items es work h unsealed = (subst (λ x. StandsAt facts (record b { work = x }) puts next [] items es) work h, unsealed)

-- where parts are left, and no pack is sealed, they can be made
pub lays_ready : (facts : List Fact) (w v : PieceWork) → w.parts ≢ None → ((w.packing.packer.sealed ≡ None) × IsOpen w.packing.packer.writer × (1 ≤ left_count w.parts) → ⊥) → LaysSo facts w Went.Nothing v
lays_ready facts w v laid never b puts next items es work h unsealed =
    never (unsealed, subst (λ x. IsOpen x.packing.packer.writer) work (room_open b.work.walk.file b.work.packing h.opened), some_left w facts h.st (items_of (puts ++ next)) [] laid (subst (λ x. WorkStands x facts h.st (items_of (puts ++ next)) []) work h.stands))

-- ---- the job of a backup that is fed

pub laid_so : (went : Went) (old new : PieceJob) (a c : PieceBacking) → old.backing ≡ Some a → new.backing ≡ Some c → c ≡ record a { work = c.work } → LaysSo old.catalog.lookup a.work went c.work → PieceLaysOn went old new
laid_so went old new a c there now same lays b is =
    let one : a ≡ b = same_Some a b (sym there ∙ is) in
    (c, now, subst (λ x. c ≡ record x { work = c.work }) one same, subst (λ (x : PieceBacking). LaysSo old.catalog.lookup x.work went c.work) one lays)

-- where the parts were made so, it went so
pub went_at : (facts : List Fact) (went : Went) (b : PieceBacking) (work : PieceWork) (es : Trace) (h : IsPieceIdle facts b es) → LaidAt facts went (record b { work = work }) h.puts [] (fed_in es) es → (went ≡ Went.On → work.parts ≡ None)
    → length (facts_in b.waiting) < facts_limit → PieceWent facts went (record b { work = work }) es
went_at facts Went.On b work es h k laid room = record { idle = record { puts = h.puts; at = k.0; unsealed = k.1; listed = h.listed; few = h.few }; unlaid = laid refl }
went_at facts (Went.Pack listed) b work es h k laid room = record { puts = h.puts; sealed = k.0; at = k.1; none = h.listed; lists = k.2; prompt = k.3; full = k.4; room = room }
went_at facts Went.TooLarge b work es h k laid room = k
went_at facts Went.Nothing b work es h k laid room = k

-- what is due next is sent
pub laid_sends : (old mid new : PieceJob) (holding : Holding) (went : Went) (step : Step) → mid.catalog ≡ old.catalog → PieceLaysOn went old mid → ((b : PieceBacking) → mid.backing ≡ Some b → went ≡ Went.On → b.work.parts ≡ None)
    → PieceSends (λ facts b es. PieceWent facts went b es) mid holding step new → (b : PieceBacking) (es : Trace) → IsWorking (piece_task holding.who) holding.token es → old.backing ≡ Some b → IsPieceIdle old.catalog.lookup b es
    → length (facts_in b.waiting) < facts_limit → MayGoOn piece_rule holding.who (PieceKnows new) (PieceRests new) es step
laid_sends old mid new holding went step catalog lays laid sends b es working is h room =
    let k = lays b is in
    let c : PieceBacking = record b { work = k.0.work } in
    let there = went_at old.catalog.lookup went b k.0.work es h (k.3 b h.puts [] (fed_in es) es refl h.at h.unsealed) (laid k.0 k.1) room in
    let facts : mid.catalog.lookup ≡ old.catalog.lookup = ap (λ (x : Catalog). x.lookup) catalog in
    sends k.0 es working k.1 (subst (λ fs. PieceWent fs went k.0 es) (sym facts) (subst (λ d. PieceWent old.catalog.lookup went d es) (sym k.2) there))

-- ---- where there was no memory for what comes next

-- the put of a pack is known still
pub pack_kept : (old new : PieceJob) (b : PieceBacking) → old.backing ≡ Some b → new.catalog ≡ old.catalog → PieceLaysOn Went.On old new → (token : Token) (n : Name) (x : List ℕ) (es : Trace) → PutsPack old.catalog.lookup b n x (fed_in es) es
    → PieceKnows new (Ask.Put token Kind.Pack n x) es
pack_kept old new b is catalog lays token n x es h =
    let k = lays b is in
    let u = k.3 b h.puts (h.put ∷ []) (fed_in es) es refl h.at h.unsealed in
    let now : PutsPack old.catalog.lookup (record b { work = k.0.work }) n x (fed_in es) es = record { puts = h.puts; put = h.put; at = u.0; unsealed = u.1; pack_is = h.pack_is; few = h.few } in
    let C : Catalog → Type 0 = λ c. KnowsPieces c new.backing (Ask.Put token Kind.Pack n x) es in
    subst C (sym catalog) (inr (k.0, k.1, subst (λ d. PutsPack old.catalog.lookup d n x (fed_in es) es) (sym k.2) now))

-- that of an index, whose packs wait again
pub index_kept : (old new : PieceJob) (a e : PieceBacking) (w : PieceWork) → new.catalog ≡ old.catalog → new.backing ≡ Some e → e ≡ record a { work = w } → LaysSo old.catalog.lookup a.work Went.On w
    → (token : Token) (n : Name) (x : List ℕ) (es : Trace) → PutsIndex old.catalog.lookup a x (fed_in es) es → PieceKnows new (Ask.Put token Kind.Index n x) es
index_kept old new a e w catalog there so lays token n x es h =
    let u = lays a h.puts [] (fed_in es) es refl h.at h.unsealed in
    let now : PutsIndex old.catalog.lookup (record a { work = w }) x (fed_in es) es = record { puts = h.puts; at = u.0; unsealed = u.1; listed = h.listed; reads = h.reads } in
    let C : Catalog → Type 0 = λ c. KnowsPieces c new.backing (Ask.Put token Kind.Index n x) es in
    subst C (sym catalog) (inr (e, there, subst (λ d. PutsIndex old.catalog.lookup d x (fed_in es) es) (sym so) now))
