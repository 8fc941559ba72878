use Rattle.std.proofs.Common.{◌≡◌, ◌∷◌, ◌++◌, [], List, None, refl, sym, ap, subst}
use Rattle.std.proofs.lemmas.Result.{IfOk-weaker, on_err_weaker}
use Rattle.repo_name.specs.declared.kinds.Kind.{Kind}
use Rattle.repo_wire.specs.declared.messages.Ask.{Ask}
use Rattle.repo_wire.specs.declared.messages.Say.{Say}
use Rattle.repo_session.specs.Traces.{Exchange, silent}
use Rattle.repo_writing.specs.Writing.{Put, items_of}
use Rattle.repo_prune.specs.PruneStates.{KnowsPrune, KnowsStage, known_in}
use Rattle.repo_prune.specs.declared.prunes.Prune.{Prune}
use Rattle.repo_prune.specs.declared.prunes.Stage.{Stage}
use Rattle.repo_prune.proofs.TreeReading.{on_any}
use Rattle.repo_prune.proofs.Pending.{pack_pending}
use Rattle.repo_prune.proofs.PruneListing.{may_step}
use Rattle.repo_prune.proofs.PruneMoves.{repacks_as, repacks_put, received_as, received_on, all_moved, goes_on}
use Rattle.repo_prune.proofs.prunes.Prune.pack_done.Goals as goal

pub returns-in-Done-clause-steps : goal.returns-in-Done-clause-steps
returns-in-Done-clause-steps c = IfOk-weaker c.finish_moves.result _ _ (λ step goes own name x who es w obeys asked.
    let old = c.args.self.now in
    let k = known_in old in
    let e : Exchange = silent (Ask.Put own Kind.Pack name x) Say.Done in
    let m = c.in-Moving.moving in
    let known = subst (λ s. KnowsStage k s (Ask.Put own Kind.Pack name x) es) c.in-Moving.is asked.knows in
    let ask : e.ask ≡ Ask.Put own Kind.Pack known.put.pack.name known.put.pack.bytes = ap (λ o. Ask.Put own Kind.Pack o.name o.bytes) (sym known.pack_is) in
    let puts : List Put = known.puts ++ known.put ∷ [] in
    let repacking = repacks_put k m known.puts known.put own e es ask refl known.repacking in
    let on = c.in_ok-moved.ensures.on (items_of puts) known.sealed known.moving in
    let done = rw c.in-Done.is at on in
    let gone = goes c.next.new.self _ refl who (e ∷ es) w (all_moved k m c.next.new.self puts (e ∷ es) repacking c.next.ensures.moves c.next.ensures.target who c.args.token w done) in
    may_step c.finish_moves.new.self who e es step refl (λ part. absurd part) gone.0) c.finish_moves.ensures.steps

-- where memory was wanting, the pack is being put as before
pub returns-in_err-moved-clause-knows : goal.returns-in_err-moved-clause-knows
returns-in_err-moved-clause-knows c = on_any c.from_residual.result (λ own name x es asked.
    let k = known_in c.args.self.now in
    let known = subst (λ s. KnowsStage k s (Ask.Put own Kind.Pack name x) es) c.in-Moving.is asked in
    let stays = c.in_err-moved.ensures.err (items_of (known.puts ++ known.put ∷ [])) known.sealed known.moving in
    record {
      puts = known.puts;
      put = known.put;
      sealed = stays.sealed;
      repacking = repacks_as k c.in-Moving.moving c.next.new.self known.puts (known.put ∷ []) es c.next.ensures.moves c.next.ensures.target stays.listed stays.moving.counted known.repacking;
      pack_is = known.pack_is;
      moving = stays.moving;
      received = received_as c.in-Moving.moving c.next.new.self c.in-Moving.moving.added c.next.new.self.added es c.next.ensures.moves c.next.ensures.added known.received;
    })

pub returns-in-Done-clause-knows : goal.returns-in-Done-clause-knows
returns-in-Done-clause-knows c = on_err_weaker c.finish_moves.result
    (λ same own name x es asked.
    let k = known_in c.args.self.now in
    let known = subst (λ s. KnowsStage k s (Ask.Put own Kind.Pack name x) es) c.in-Moving.is asked in
    let puts : List Put = known.puts ++ known.put ∷ [] in
    let on = c.in_ok-moved.ensures.on (items_of puts) known.sealed known.moving in
    let done = rw c.in-Done.is at on in
    subst (λ (j : Prune). KnowsPrune j (Ask.Put own Kind.Pack name x) es) (sym same) (record {
      puts = known.puts;
      put = known.put;
      sealed = [];
      repacking = repacks_as k c.in-Moving.moving c.next.new.self known.puts (known.put ∷ []) es c.next.ensures.moves c.next.ensures.target done.3 done.0.counted known.repacking;
      pack_is = known.pack_is;
      moving = done.0;
      received = received_as c.in-Moving.moving c.next.new.self c.in-Moving.moving.added c.next.new.self.added es c.next.ensures.moves c.next.ensures.added known.received;
    }))
    c.finish_moves.ensures.err

pub returns-in_default-2 : goal.returns-in_default-2
returns-in_default-2 c = record {
  steps = λ own name x who es w obeys asked.
      let old = c.args.self.now in
      let k = known_in old in
      let e : Exchange = silent (Ask.Put own Kind.Pack name x) Say.Done in
      let m = c.in-Moving.moving in
      let known = subst (λ s. KnowsStage k s (Ask.Put own Kind.Pack name x) es) c.in-Moving.is asked.knows in
      let ask : e.ask ≡ Ask.Put own Kind.Pack known.put.pack.name known.put.pack.bytes = ap (λ o. Ask.Put own Kind.Pack o.name o.bytes) (sym known.pack_is) in
      let puts : List Put = known.puts ++ known.put ∷ [] in
      let repacking = repacks_put k m known.puts known.put own e es ask refl known.repacking in
      let on = c.in_ok-moved.ensures.on (items_of puts) known.sealed known.moving in
      let new : Prune = record { snapshots = old.snapshots; catalog = old.catalog; packs = old.packs; stage = Stage.Moving c.next.new.self None; target = old.target; alloc = old.alloc } in
      let got = received_on m c.next.new.self m.added c.next.new.self.added e es c.next.ensures.moves c.next.ensures.added refl known.received in
      may_step new who e es c.move_on.result refl (λ part. absurd part) (goes_on k m c.next.new.self puts (e ∷ es) repacking c.next.ensures.moves c.next.ensures.target who c.args.token w got c.in_ok-moved.moved c.move_on.result c.in_default-2.not-Done on c.move_on.ensures.on);
  short = c.move_on.ensures.short;
  knows = tt;
}

pub returns-in_default : goal.returns-in_default
returns-in_default c = record {
  steps = λ own name x who es w obeys asked. (let m = pack_pending (known_in c.args.self.now) c.args.self.now.stage own name x es asked.knows in absurd (c.in_default.not-Moving m.0 m.1 m.2));
  short = tt;
  knows = tt;
}
