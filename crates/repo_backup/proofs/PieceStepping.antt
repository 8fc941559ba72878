-- What is known from one request of a backup that is fed to the next.
use Rattle.std.proofs.Common.{arith, ◌≡◌, ◌≢◌, ◌<◌, ◌≤◌, ◌+◌, ◌↔◌, ◌++◌, ◌∷◌, [], ℕ, zero, suc, true, List, length, map, Option, Some, None, is_some, refl, sym, ap, subst, inl, inr, ◌⊎◌, ◌∙◌, append-nil, Contains}
use Rattle.repo_index.specs.IndexText.{IsIndexText, facts_in}
use Rattle.repo_index.specs.declared.facts.Fact.{Fact}
use Rattle.repo_index.specs.declared.facts.PackFacts.{PackFacts}
use Rattle.repo_name.specs.Limits.{facts_limit, index_limit, pack_limit}
use Rattle.repo_name.specs.Naming as naming
use Rattle.repo_name.specs.declared.kinds.Kind.{Kind}
use Rattle.repo_name.specs.declared.names.Name.{Name}
use Rattle.repo_name.specs.declared.tokens.Token.{Token}
use Rattle.repo_pack.specs.PackLayout.{Item}
use Rattle.repo_pack.specs.declared.writers.Sealed.{Sealed}
use Rattle.repo_session.specs.Askers.{Asker, Holding}
use Rattle.repo_session.specs.Jobs.{Rule, MayStep, MayTurn, MayGoOn}
use Rattle.repo_session.specs.Catalogs.{AreIndexed}
use Rattle.repo_session.specs.Order.{ReadsKind, IsWorking}
use Rattle.repo_session.specs.Readings.{KnowsIndexes}
use Rattle.repo_session.specs.Traces.{Each, Exchange, Trace, fed_in, ReadFact, silent}
use Rattle.repo_session.specs.declared.catalogs.Catalog.{Catalog}
use Rattle.repo_session.specs.declared.jobs.Step.{Step}
use Rattle.repo_wire.specs.declared.messages.Ask.{Ask}
use Rattle.repo_wire.specs.declared.messages.Say.{Say}
use Rattle.repo_writing.specs.Filling.{HasConfig, IsFullIndex}
use Rattle.repo_writing.specs.Putting.{PutsIndexOf}
use Rattle.repo_writing.specs.Sealing.{IsSealedOf, IsListedAs}
use Rattle.repo_writing.specs.Writing.{Put, items_of, AreCounts, FewWait, ListsEachPack}
use Rattle.repo_writing.proofs.Writings.{listing_of, items_push, put_of, is_put, puts_lawful, waits_lawful, waits_few, all_done}
use Rattle.repo_backup.specs.Backing.{HasWritten}
use Rattle.repo_backup.specs.Items.{Feeding}
use Rattle.repo_backup.specs.Packings.{IsCovered, all_items}
use Rattle.repo_backup.specs.PieceRules.{PieceAreLast, PiecePackRule, PieceAllows, PieceConcludes, PieceTooLarge, AreOver, WantsInput, piece_rule}
use Rattle.repo_backup.specs.PieceStates.{piece_task, listed_of, waits, GoesBy, StandsAt, HasBegun, NothingFed, KnowsPiecePut, PieceWaits, PutsPack, PutsIndex, KnowsPieces, WantsPieces, IsDueAt, IsIdleAt, IsPieceDone, IsPieceIdle, IsPieceLarge, PutsSnapshotOf, large_end}
use Rattle.repo_backup.specs.Pieces.{HasRoom, IsCoveredSoFar, ArePackedSoFar, IsAt, AreTextsAround, WorkStands, at_beginning}
use Rattle.repo_backup.specs.Folders.{nodes_of, tree_items}
use Rattle.repo_backup.specs.PartsMade.{parts_by, open_dir}
use Rattle.repo_backup.specs.Plans.{AreTreeTextsBelow}
use Rattle.repo_tree.specs.PartWriting.{part_texts}
use Rattle.repo_tree.specs.declared.configs.Config.{Config}
use Rattle.repo_session.specs.declared.outcomes.End.{End}
use Rattle.repo_session.specs.declared.outcomes.Outcome.{Outcome}
use Rattle.repo_backup.specs.Rules.{IndexRule}
use Rattle.repo_backup.specs.Standings.{Standing, IsCutSoFar, made_at}
use Rattle.repo_backup.specs.Waiting.{AllGainMore}
use Rattle.repo_backup.specs.declared.piece_backing.PieceBacking.{PieceBacking}
use Rattle.repo_backup.specs.declared.piece_works.PieceWork.{PieceWork}
use Rattle.repo_writing.proofs.Filling.{config_later}
use Rattle.repo_writing.proofs.PutLemmas.{objects_put_other}
use Rattle.repo_backup.proofs.Dues.{none_being_put, index_undue, pack_undue}
use Rattle.repo_backup.proofs.PackingLemmas.{all_out, packing_out}
use Rattle.repo_backup.proofs.Piecing.{packing_in, room_as}
use Rattle.repo_backup.proofs.PieceRuling.{over_is, piece_last, piece_snapshot, sent_is, sent_once}
use Rattle.repo_backup.proofs.Replying.{reading_puts}
use Rattle.repo_backup.proofs.Staging.{facts_push}
use Rattle.repo_backup.proofs.Written.{begin_written, pack_next, pack_written, index_may, index_written}

-- ---- the sealed pack is taken out

-- the work stands without it
pub stands_out : (w v : PieceWork) (known : List Fact) (st : Standing) (sent items : List Item) → v.walk ≡ w.walk → v.parts ≡ w.parts → v.packing.packer.writer ≡ w.packing.packer.writer → v.packing.added ≡ w.packing.added → v.packing.packer.sealed ≡ None
    → WorkStands w known st sent items → WorkStands v known st (sent ++ items) []
stands_out w v known st sent items walk parts writer added none (inl h) =
    let all = all_out w.packing v.packing writer added none sent items in
    inl (
      parts ∙ h.0,
      record {
        packing = packing_out w.packing v.packing writer added none sent items known h.1.packing;
        of_made = λ item among. subst (λ x. Contains (made_at x.version st) item) (sym walk) (h.1.of_made item (subst (λ is. Contains is item) all among));
        at = subst (λ x. IsAt x st) (sym walk) h.1.at;
        cut = subst (λ x. IsCutSoFar x.params st) (sym walk) h.1.cut;
        texts = subst (λ x. AreTreeTextsBelow x.version st.done × AreTextsAround x.version st.above) (sym walk) h.1.texts;
        order = subst (λ x. ArePackedSoFar known (made_at x.version st) x.file (all_items (sent ++ items) [] v.packing)) (sym walk) (subst (λ is. ArePackedSoFar known (made_at w.walk.version st) w.walk.file is) (sym all) h.1.order);
        covered = subst (λ x. Each (λ item. IsCoveredSoFar known (all_items (sent ++ items) [] v.packing) x.file item) (made_at x.version st)) (sym walk) (subst (λ is. Each (λ item. IsCoveredSoFar known is w.walk.file item) (made_at w.walk.version st)) (sym all) h.1.covered);
      },
    )
stands_out w v known st sent items walk parts writer added none (inr h) =
    let all = all_out w.packing v.packing writer added none sent items in
    let there = open_dir h.done h.above in
    inr (record {
      parts = h.parts;
      parts_are = parts ∙ h.parts_are;
      done = h.done;
      above = h.above;
      closed = h.closed;
      left = h.left;
      made = h.made;
      all = subst (λ x. h.left ++ h.made ≡ parts_by x.version (nodes_of x.version h.done)) (sym walk) h.all;
      some = h.some;
      is_left = h.is_left;
      packing = packing_out w.packing v.packing writer added none sent items known h.packing;
      of_made = λ item among. subst (λ x. Contains (made_at x.version st) item) (sym walk) (h.of_made item (subst (λ is. Contains is item) all among));
      at = subst (λ x. IsAt x there) (sym walk) h.at;
      cut = subst (λ x. IsCutSoFar x.params st) (sym walk) h.cut;
      texts = subst (λ x. AreTreeTextsBelow x.version h.done × AreTextsAround x.version h.above) (sym walk) h.texts;
      order = subst (λ x. AllGainMore known [] (made_at x.version there ++ tree_items (part_texts h.made)) (all_items (sent ++ items) [] v.packing)) (sym walk)
          (subst (λ is. AllGainMore known [] (made_at w.walk.version there ++ tree_items (part_texts h.made)) is) (sym all) h.order);
      covered = subst (λ x. Each (λ item. IsCovered known (all_items (sent ++ items) [] v.packing) item) (made_at x.version there ++ tree_items (part_texts h.made))) (sym walk)
          (subst (λ is. Each (λ item. IsCovered known is item) (made_at w.walk.version there ++ tree_items (part_texts h.made))) (sym all) h.covered);
    })

module _ (facts : List Fact) (b c : PieceBacking) (listed : PackFacts) (items : Feeding) (es : Trace) (h : IsDueAt facts b listed items es) (walk : c.work.walk ≡ b.work.walk) (parts : c.work.parts ≡ b.work.parts) (writer : c.work.packing.packer.writer ≡ b.work.packing.packer.writer)
    (added : c.work.packing.added ≡ b.work.packing.added) (target : c.work.packing.packer.target ≡ b.work.packing.packer.target) (none : c.work.packing.packer.sealed ≡ None) (is : c.listed ≡ Some listed) (waiting : c.waiting ≡ b.waiting)
    (counted : (sealed : Sealed) → b.work.packing.packer.sealed ≡ Some sealed → (before items : List Item) → IsSealedOf sealed items → AreCounts b.counts before → AreCounts c.counts (before ++ items)) where
  -- the pack, and how it is listed
  pub pack_of : (sealed : Sealed) × IsListedAs b.work.packing.packer.sealed h.sealed sealed listed
  pack_of = h.lists h.sealed (packing_in b.work facts h.at.st (items_of (h.puts ++ [])) h.sealed h.at.stands).sealed_is

  -- it is being put
  pub pack_goes_out : PutsPack facts c pack_of.0.name pack_of.0.bytes items es
  pack_goes_out =
      let s = pack_of.0 in
      let l = pack_of.1 in
      let puts = h.puts in
      let p : Put = put_of s h.sealed listed in
      let all : waits c ≡ waits b ++ listed ∷ [] = (λ i. waiting i ++ listed_of (is i)) ∙ ap (λ ws. ws ++ listed ∷ []) (sym (append-nil b.waiting) ∙ ap (λ o. b.waiting ++ listed_of o) (sym h.none)) in
      let written = pack_next facts (waits b) b.counts puts c.counts p es h.at.written (is_put b.work.packing.packer.sealed h.sealed s listed l) (counted s l.is (items_of puts) h.sealed l.holds) in
      let stands : WorkStands c.work facts h.at.st (items_of puts ++ h.sealed) [] =
      stands_out b.work c.work facts h.at.st (items_of puts) h.sealed walk parts writer added none (subst (λ x. WorkStands b.work facts h.at.st x h.sealed) (sent_is facts b puts h.sealed items es h.at) h.at.stands) in
      let count : length listed.facts ≡ length h.sealed = l.exact.count in
      let few = l.holds.holds.pack.count.1 in
      let long : length (facts_in (waits c)) ≡ length (facts_in b.waiting) + length listed.facts =
      ap (λ ws. length (facts_in ws)) ((λ i. waiting i ++ listed_of (is i))) ∙ facts_push b.waiting listed in
      record {
        puts = puts;
        put = p;
        at = record {
          config = h.at.config;
          st = h.at.st;
          at = h.at.at;
          taken = h.at.taken;
          kept = h.at.kept;
          goes_by = record { params = ap (λ x. x.params) walk ∙ h.at.goes_by.params; version = ap (λ x. x.version) walk ∙ h.at.goes_by.version; aim = ap (λ t. t.bytes) target ∙ h.at.goes_by.aim; aims = ap (λ x. x.target) writer ∙ h.at.goes_by.aims };
          stands = subst (λ x. WorkStands c.work facts h.at.st x []) (sym (items_push puts p)) stands;
          opened = room_as b.work.walk.file c.work.walk.file b.work.packing c.work.packing (ap (λ x. x.file) walk) writer h.at.opened;
          ended = λ some. ap (λ x. x.items) writer ∙ h.at.ended (λ e. some (ap (λ x. x.root) walk ∙ e));
          written = subst (λ ws. HasWritten facts ws c.counts puts (p ∷ []) es) (sym all) written;
        };
        unsealed = none;
        pack_is = refl;
        few = (let room = h.room in omega (arith, count, few, long, room));
      }

-- ---- an exchange later

-- where the work stands after a put
pub at_later : (facts : List Fact) (b c : PieceBacking) (puts next puts' : List Put) (ask : Ask) (say : Say) (items : Feeding) (es : Trace) → c.work ≡ b.work → items_of (puts' ++ []) ≡ items_of (puts ++ next) → StandsAt facts b puts next [] items es
    → HasWritten facts (waits c) c.counts puts' [] (silent ask say ∷ es) → StandsAt facts c puts' [] [] items (silent ask say ∷ es)
at_later facts b c puts next puts' ask say items es work sent h written = record {
  config = h.config;
  st = h.st;
  at = record { has = config_later (silent ask say) es h.config h.at.has; lead = h.at.lead };
  taken = h.taken;
  kept = h.kept;
  goes_by = subst (λ w. GoesBy h.config w) (sym work) h.goes_by;
  stands = subst (λ w. WorkStands w facts h.st (items_of (puts' ++ [])) []) (sym work) (subst (λ l. WorkStands b.work facts h.st l []) (sym sent) h.stands);
  opened = subst (λ w. HasRoom w.walk.file w.packing) (sym work) h.opened;
  ended = λ some. (let same = ap (λ w. w.packing.packer.writer.items) work in same ∙ h.ended (λ e. some (ap (λ w. w.walk.root) work ∙ e)));
  written = written;
}

-- the put of a pack is done, and it is listed behind those that wait
pub pack_is_put : (facts : List Fact) (b c : PieceBacking) (token : Token) (n : Name) (x : List ℕ) (items : Feeding) (es : Trace) → PutsPack facts b n x items es → c.work ≡ b.work → c.counts ≡ b.counts → c.waiting ≡ waits b → c.listed ≡ None
    → IsIdleAt facts c items (silent (Ask.Put token Kind.Pack n x) Say.Done ∷ es)
pack_is_put facts b c token n x items es h work counts waiting none =
    let ask = Ask.Put token Kind.Pack n x in
    let named : Ask.Put token Kind.Pack n x ≡ Ask.Put token Kind.Pack h.put.pack.name h.put.pack.bytes = ap (λ o. Ask.Put token Kind.Pack o.name o.bytes) (sym h.pack_is) in
    let all : waits c ≡ waits b = (λ i. waiting i ++ listed_of (none i)) ∙ append-nil (waits b) in
    let written = pack_written facts (waits b) b.counts h.puts h.put token (silent ask Say.Done) es h.at.written named refl in
    record {
      puts = h.puts ++ h.put ∷ [];
      at = at_later facts b c h.puts (h.put ∷ []) (h.puts ++ h.put ∷ []) ask Say.Done items es work (ap items_of (append-nil (h.puts ++ h.put ∷ []))) h.at
          (subst (λ ws. HasWritten facts ws c.counts (h.puts ++ h.put ∷ []) [] (silent ask Say.Done ∷ es)) (sym all) (subst (λ k. HasWritten facts (waits b) k (h.puts ++ h.put ∷ []) [] (silent ask Say.Done ∷ es)) (sym counts) written));
      unsealed = ap (λ w. w.packing.packer.sealed) work ∙ h.unsealed;
      listed = none;
      few = subst FewWait (sym waiting) h.few;
    }

-- the put of an index is done, and nothing waits
pub index_is_put : (facts : List Fact) (b c : PieceBacking) (token : Token) (n : Name) (x : List ℕ) (items : Feeding) (es : Trace) → PutsIndex facts b x items es → c.work ≡ b.work → c.counts ≡ b.counts → c.waiting ≡ [] → c.listed ≡ b.listed
    → IsIdleAt facts c items (silent (Ask.Put token Kind.Index n x) Say.Done ∷ es)
index_is_put facts b c token n x items es h work counts waiting same =
    let ask = Ask.Put token Kind.Index n x in
    let none : c.listed ≡ None = same ∙ h.listed in
    let before : waits b ≡ b.waiting = ap (λ o. b.waiting ++ listed_of o) h.listed ∙ append-nil b.waiting in
    let now : waits c ≡ [] = λ i. waiting i ++ listed_of (none i) in
    let written = index_written facts b.waiting b.counts h.puts token n x (silent ask Say.Done) es (subst (λ ws. HasWritten facts ws b.counts h.puts [] es) before h.at.written) h.reads refl refl in
    record {
      puts = h.puts;
      at = at_later facts b c h.puts [] h.puts ask Say.Done items es work refl h.at
          (subst (λ ws. HasWritten facts ws c.counts h.puts [] (silent ask Say.Done ∷ es)) (sym now) (subst (λ k. HasWritten facts [] k h.puts [] (silent ask Say.Done ∷ es)) (sym counts) written));
      unsealed = ap (λ w. w.packing.packer.sealed) work ∙ h.unsealed;
      listed = none;
      few = (let n : length (facts_in c.waiting) ≡ 0 = ap (λ ws. length (facts_in ws)) waiting in omega (arith, n));
    }

-- ---- what comes next

-- an index of what waits may be put, with it each pack is listed, and it is known then
pub index_out : (facts : List Fact) (b : PieceBacking) (token : Token) (step : Step) (items : Feeding) (es : Trace) (h : IsIdleAt facts b items es) → b.waiting ≢ [] → PutsIndexOf token b.waiting step
    → (x : List ℕ) × IsIndexText x b.waiting × (length x ≤ index_limit) × (rule : IndexRule es x) × ListsEachPack rule.lists.packs es × PutsIndex facts b x items es × (step ≡ Step.Ask (Ask.Put token Kind.Index (naming.name x) x))
index_out facts b token step items es h some puts =
    let written : HasWritten facts b.waiting b.counts h.puts [] es = subst (λ ws. HasWritten facts ws b.counts h.puts [] es) (none_being_put b h.listed) h.at.written in
    let all = map listing_of (h.puts ++ []) in
    let lawful = puts_lawful b.counts h.puts [] es written.put in
    let few = waits_few all b.waiting es written.lists lawful h.few in
    let k = puts (waits_lawful all b.waiting es written.lists lawful) few in
    let may = index_may facts b.waiting b.counts h.puts es k.0 written (sent_once facts b h.puts [] items es h.at) k.1 k.4 few some in
    (k.0, k.1, k.2, may.0, may.1, record { puts = h.puts; at = h.at; unsealed = h.unsealed; listed = h.listed; reads = k.1 }, k.3)

-- the job goes on after the exchange as after its trace
pub turns_on : (rule : Rule) (who : Asker) (Knows : Ask → Trace → Type 0) (Wants : Trace → Type 0) (e : Exchange) (es : Trace) (step : Step) → e.emitted ≡ [] → MayGoOn rule who Knows Wants (e ∷ es) step → MayTurn rule who Knows Wants es e step
turns_on rule who Knows Wants e es (Step.Ask ask) none h = (inl none, h)
turns_on rule who Knows Wants e es (Step.Finish outcome) none h = (inl none, h)
turns_on rule who Knows Wants e es Step.Want none h = (inl none, h.0, h.1)
turns_on rule who Knows Wants e es Step.Away none h = absurd h

-- a step of a job that never wants input is one of a job that may
pub wants_none : (rule : Rule) (who : Asker) (Knows : Ask → Trace → Type 0) (Wants : Trace → Type 0) (e : Exchange) (es : Trace) (step : Step) → MayStep rule who Knows es e step → MayTurn rule who Knows Wants es e step
wants_none rule who Knows Wants e es (Step.Ask ask) h = h
wants_none rule who Knows Wants e es (Step.Finish outcome) h = h
wants_none rule who Knows Wants e es Step.Want h = absurd h.2
wants_none rule who Knows Wants e es Step.Away h = h

-- what may be done where input is wanted
pub input_wanted : (c : Catalog) (backing : Option PieceBacking) (b : PieceBacking) (es : Trace) → backing ≡ Some b → PieceWaits c.lookup b es → WantsInput es × WantsPieces c backing es
input_wanted c backing b es is h = (
  record {
    indexes = h.at.written.indexed;
    taken = h.at.taken;
    goes_on = sym (over_is c.lookup b h.puts [] (fed_in es) es h.at h.ready.unlaid) ∙ ap is_some h.ready.unended;
    kept = h.at.kept;
    done = all_done b.counts h.puts (map listing_of (h.puts ++ [])) (waits b) es h.at.written.put h.at.written.lists h.at.written.none;
    unpacked = pack_undue c.lookup b h.puts es h.at h.ready.unlaid;
    unlisted = index_undue c.lookup b h.puts es h.at.written h.listed h.room;
  },
  (b, is, h),
)

module _ (c : Catalog) (backing : Option PieceBacking) (b : PieceBacking) (is : backing ≡ Some b) (holding : Holding) (es : Trace) (working : IsWorking (piece_task holding.who) holding.token es) where
  -- a pack is put
  pub pack_step : (n : Name) (x : List ℕ) → naming.name x ≡ n → length x ≤ pack_limit → PiecePackRule es x → PutsPack c.lookup b n x (fed_in es) es
      → MayGoOn piece_rule holding.who (KnowsPieces c backing) (WantsPieces c backing) es (Step.Ask (Ask.Put holding.token Kind.Pack n x))
  pack_step n x named small rule puts = record { work = tt; may = (working, named, small); allowed = rule; knows = inr (b, is, puts) }

  -- an index is put
  pub index_step : IsPieceIdle c.lookup b es → (token : Token) (step : Step) → token ≡ holding.token → b.waiting ≢ [] → (facts_limit ≤ length (facts_in b.waiting)) ⊎ (AreOver es × (b.work.parts ≡ None)) → PutsIndexOf token b.waiting step
      → MayGoOn piece_rule holding.who (KnowsPieces c backing) (WantsPieces c backing) es step
  index_step h token step own some why puts =
      let k = index_out c.lookup b token step (fed_in es) es h some puts in
      let x = k.0 in
      let S : Step → Type 0 = λ s. MayGoOn piece_rule holding.who (KnowsPieces c backing) (WantsPieces c backing) es s in
      let T : Token → Type 0 = λ t. S (Step.Ask (Ask.Put t Kind.Index (naming.name x) x)) in
      let full : IsFullIndex x ⊎ PieceAreLast es [] = elim why [ inl many ↦ inl (b.waiting, k.1, many) | inr ended ↦ inr (piece_last c.lookup b h.puts [] es h.at ended.1 ended.0) ] in
      let may : T holding.token = record {
        work = tt;
        may = (working, refl, k.2);
        allowed = (k.3, h.at.kept, k.4, full);
        knows = inr (b, is, k.5);
      } in
      subst S (sym k.6) (subst T (sym own) may)

  module _ (h : IsPieceDone c.lookup b es) where
    wait_for : waits b ≡ b.waiting
    wait_for = none_being_put b h.idle.listed

    written_so : HasWritten c.lookup b.waiting b.counts h.idle.puts [] es
    written_so = subst (λ ws. HasWritten c.lookup ws b.counts h.idle.puts [] es) wait_for h.idle.at.written

    pub over_by : b.work.walk.root ≢ None → AreOver es
    over_by some = sym (over_is c.lookup b h.idle.puts [] (fed_in es) es h.idle.at h.unlaid) ∙ some_is b.work.walk.root some
      where
        some_is : (o : Option Name) → o ≢ None → is_some o ≡ true
        some_is None e = absurd (e refl)
        some_is (Some n) e = refl

    -- input is wanted
    pub input_step : b.work.walk.root ≡ None → length (facts_in b.waiting) < facts_limit → MayGoOn piece_rule holding.who (KnowsPieces c backing) (WantsPieces c backing) es Step.Want
    input_step unended room =
        let i = h.idle in
        input_wanted c backing b es is (record { puts = i.puts; at = i.at; ready = record { unsealed = i.unsealed; unlaid = h.unlaid; opened = i.at.opened; unended = unended }; listed = i.listed; room = room })

    -- the snapshot is put
    pub snapshot_step : (root : Name) (step : Step) → b.work.walk.root ≡ Some root → b.waiting ≡ [] → PutsSnapshotOf holding root b.work.walk.version step → MayGoOn piece_rule holding.who (KnowsPieces c backing) (WantsPieces c backing) es step
    snapshot_step root step root_is none p =
        let nothing_waits : waits b ≡ [] = wait_for ∙ none in
        let S : Step → Type 0 = λ s. MayGoOn piece_rule holding.who (KnowsPieces c backing) (WantsPieces c backing) es s in
        let may : S (Step.Ask (Ask.Put holding.token Kind.Snapshot (naming.name p.text) p.text)) = record {
          work = tt;
          may = (working, refl, p.reads.json.short);
          allowed = piece_snapshot c.lookup b h.idle.puts es h.idle.at h.unlaid root holding step p root_is nothing_waits working;
          knows = inr (b, is, record { puts = h.idle.puts; written = subst (λ ws. HasWritten c.lookup ws b.counts h.idle.puts [] es) none written_so });
        } in
        subst S (sym p.puts) may

-- the version that was read is 1 or 2
version_two : (version : ℕ) → 1 ≤ version → version ≤ 2 → (version ≡ 1) ⊎ (version ≡ 2)
version_two zero h g = absurd (omega (arith, h))
version_two (suc zero) h g = inl refl
version_two (suc (suc zero)) h g = inr refl
version_two (suc (suc (suc v))) h g = absurd (omega (arith, g))

-- where the text of a tree is too large, it ends so
pub large_ends : (Conclude : Outcome → Type 0) (config : Config) (es : Trace) (version : ℕ) → HasConfig es config → version ≡ config.version → (config.version ≡ 1 → Conclude (Outcome.Ended End.DirectoryTooLarge)) → (config.version ≡ 2 → Conclude (Outcome.Ended End.FileTooLarge))
    → Conclude (Outcome.Ended (large_end version))
large_ends Conclude config es version has is one two =
    elim (version_two config.version has.reads.known.0 has.known) [
      | inl first ↦ subst (λ v. Conclude (Outcome.Ended (large_end v))) (sym (is ∙ first)) (one first)
      | inr second ↦ subst (λ v. Conclude (Outcome.Ended (large_end v))) (sym (is ∙ second)) (two second)
    ]

pub piece_large : (facts : List Fact) (b : PieceBacking) (es : Trace) → IsPieceLarge facts b es → PieceConcludes es (Outcome.Ended (large_end b.work.walk.version))
piece_large facts b es h = large_ends (PieceConcludes es) h.config es b.work.walk.version h.at.has h.version_is (λ v. too_large v) (λ v. too_large v)
  where
    too_large : {version : ℕ} → h.config.version ≡ version → PieceTooLarge version es
    too_large v = record { taken = h.taken; config = h.config; st = h.st; at = h.at; of_version = v; text = h.text; made = h.made; large = h.large }

-- ---- while the indexes are read

-- what reads may be asked for
pub may_read_pieces : (es : Trace) (ask : Ask) → ReadsKind Kind.Index es ask → fed_in es ≡ [] → PieceAllows es ask
may_read_pieces es (Ask.List k after) r none = (r, none)
may_read_pieces es (Ask.Get k n) r none = (r, none)
may_read_pieces es (Ask.Range pack offset len) r none = (r, none)
may_read_pieces es Ask.Ticket r none = (r, none)
may_read_pieces es (Ask.Lock row) r none = (r, none)
may_read_pieces es (Ask.Refresh token time) r none = (r, none)
may_read_pieces es (Ask.Unlock token) r none = (r, none)
may_read_pieces es Ask.Locks r none = (r, none)
may_read_pieces es (Ask.Put token k n x) r none = absurd r
may_read_pieces es (Ask.Delete token k n) r none = absurd r
may_read_pieces es (Ask.Upgrade token) r none = absurd r
may_read_pieces es Ask.Config r none = (r, none)

-- still nothing was fed or put
pub begun_still : (c : Catalog) (b : PieceBacking) (ask : Ask) (say : Say) (es : Trace) → KnowsIndexes c ask es → HasBegun b es → HasBegun b (silent ask say ∷ es)
begun_still c b ask say es known h = record {
  config = h.config;
  has = config_later (silent ask say) es h.config h.has;
  none_put = λ k. objects_put_other k (silent ask say) es (reading_puts c ask es known k) ∙ h.none_put k;
  goes_by = h.goes_by;
  stands = h.stands;
  ready = h.ready;
  waiting = h.waiting;
  listed = h.listed;
  counted = h.counted;
}

pub nothing_still : (c : Catalog) (b : PieceBacking) (ask : Ask) (say : Say) (es : Trace) → KnowsIndexes c ask es → NothingFed b es → NothingFed b (silent ask say ∷ es)
nothing_still c b ask say es known h = (begun_still c b ask say es known h.0, h.1)

-- where every index was read, it stands before the first item
pub stands_first : (facts : List Fact) (b : PieceBacking) (es : Trace) → HasBegun b es → AreIndexed es → ((fact : Fact) → Contains facts fact ↔ ReadFact es fact) → StandsAt facts b [] [] [] [] es
stands_first facts b es h indexed gives =
    let none : waits b ≡ [] = λ i. h.waiting i ++ listed_of (h.listed i) in
    record {
      config = h.config;
      st = at_beginning;
      at = record { has = h.has; lead = record { place = refl; cut = record { done = tt; above = tt; file = tt } } };
      taken = tt;
      kept = tt;
      goes_by = h.goes_by;
      stands = inl (h.ready.unlaid, h.stands facts);
      opened = h.ready.opened;
      ended = λ some. absurd (some h.ready.unended);
      written = subst (λ ws. HasWritten facts ws b.counts [] [] es) (sym none) (begin_written facts b.counts es indexed gives h.none_put h.counted);
    }

pub none_waits : (waiting : List PackFacts) → waiting ≡ [] → length (facts_in waiting) < facts_limit
none_waits waiting none = let n : length (facts_in waiting) ≡ 0 = ap (λ ws. length (facts_in ws)) none in omega (arith, n)

-- and input is wanted
pub input_first : (facts : List Fact) (b : PieceBacking) (es : Trace) → NothingFed b es → AreIndexed es → ((fact : Fact) → Contains facts fact ↔ ReadFact es fact) → PieceWaits facts b es
input_first facts b es h indexed gives = record {
  puts = [];
  at = subst (λ l. StandsAt facts b [] [] [] l es) (sym h.1) (stands_first facts b es h.0 indexed gives);
  ready = h.0.ready;
  listed = h.0.listed;
  room = none_waits b.waiting h.0.waiting;
}

-- ---- puts

-- what is known of a put
pub piece_known : (c : Catalog) (backing : Option PieceBacking) (token : Token) (k : Kind) (n : Name) (x : List ℕ) (es : Trace) → KnowsPieces c backing (Ask.Put token k n x) es → KnowsPiecePut c.lookup backing (Ask.Put token k n x) es
piece_known c backing token k n x es (inl reading) = absurd reading.0
piece_known c backing token k n x es (inr put) = put

-- the pack that is being put is listed, and what was known is known
pub pack_noted : (facts : List Fact) (b c : PieceBacking) (n : Name) (x : List ℕ) (items : Feeding) (es : Trace) → c.work ≡ b.work → c.counts ≡ b.counts → waits c ≡ waits b → PutsPack facts b n x items es → PutsPack facts c n x items es
pack_noted facts b c n x items es work counts all h = record {
  puts = h.puts;
  put = h.put;
  at = record {
    config = h.at.config;
    st = h.at.st;
    at = h.at.at;
    taken = h.at.taken;
    kept = h.at.kept;
    goes_by = subst (λ w. GoesBy h.at.config w) (sym work) h.at.goes_by;
    stands = subst (λ w. WorkStands w facts h.at.st (items_of (h.puts ++ h.put ∷ [])) []) (sym work) h.at.stands;
    opened = subst (λ w. HasRoom w.walk.file w.packing) (sym work) h.at.opened;
    ended = λ some. (let same = ap (λ w. w.packing.packer.writer.items) work in same ∙ h.at.ended (λ e. some (ap (λ w. w.walk.root) work ∙ e)));
    written = subst (λ ws. HasWritten facts ws c.counts h.puts (h.put ∷ []) es) (sym all) (subst (λ k. HasWritten facts (waits b) k h.puts (h.put ∷ []) es) (sym counts) h.at.written);
  };
  unsealed = ap (λ w. w.packing.packer.sealed) work ∙ h.unsealed;
  pack_is = h.pack_is;
  few = subst FewWait (sym all) h.few;
}

pub not_some : {A : Type 0} (o : Option A) → ((x : A) → o ≡ Some x → ⊥) → o ≡ None
not_some None h = refl
not_some (Some x) h = absurd (h x refl)

pub asks_it : (ask : Ask) (step : Step) → step ≡ Step.Ask ask → step ≢ Step.Want
asks_it ask step is wants = let no : Step.Ask ask ≡ Step.Want = sym is ∙ wants in absurd (cc)
