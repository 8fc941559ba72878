use Rattle.std.proofs.Common.{◌≡◌, [], refl, sym, ap, subst, inl, ◌∙◌}
use Rattle.repo_session.specs.Order.{opened, IsWorking}
use Rattle.repo_session.specs.Traces.{Trace}
use Rattle.repo_session.proofs.Cataloguing.{catalog_fresh}
use Rattle.repo_session.proofs.KindReads.{due_index}
use Rattle.repo_backup.specs.BackupStates.{backup_task}
use Rattle.repo_backup.specs.Backups.{handed_to}
use Rattle.repo_backup.specs.PieceStates.{HasBegun}
use Rattle.repo_backup.specs.Pieces.{PieceStands, IsReady, at_beginning}
use Rattle.repo_writing.proofs.Filling.{most_known}
use Rattle.repo_backup.proofs.BackupStepping.{may_read}
use Rattle.repo_backup.proofs.backups.BackupJob.opened.Goals as goal

pub returns-clause-begins : goal.returns-clause-begins
returns-clause-begins c = λ text fresh reads known.
    let old = c.args.self.now in
    let holding = c.args._holder.now in
    let config = c.args.config.now in
    let task = backup_task holding.who in
    let l = old.catalog in
    let es : Trace = opened task holding.token text in
    let b = c.new.result in
    let work = c.new.ensures.work in
    let aim : c.of_config-target.result.bytes ≡ config.target = c.of_config-target.ensures reads.allowed.1 in
    let begun : HasBegun b es = record {
      config = config;
      has = record { text = text; read = inl (refl, refl); reads = reads; known = most_known config.version holding.who.versions known };
      none_put = λ k. refl;
      goes_by = record {
        params = ap (λ w. w.walk.params) work ∙ c.new-work.ensures.params;
        version = ap (λ w. w.walk.version) work ∙ c.new-work.ensures.version;
        aim = ap (λ w. w.packing.packer.target.bytes) work ∙ ap (λ t. t.bytes) c.new-work.ensures.aims.1 ∙ aim;
        aims = ap (λ w. w.packing.packer.writer.target) work ∙ c.new-work.ensures.aims.0 ∙ aim;
      };
      stands = λ facts. subst (λ w. PieceStands w facts at_beginning [] []) (sym work) (c.new-work.ensures.stands facts);
      ready = subst (λ w. IsReady w) (sym work) c.new-work.ensures.ready;
      waiting = c.new.ensures.waiting;
      listed = c.new.ensures.listed;
      counted = c.new.ensures.counts;
    } in
    let catalog = catalog_fresh task holding.token text l.roll.kind l.roll.names.items l.roll.read l.lookup es fresh.of_indexes fresh.no_names fresh.none_read fresh.no_facts refl in
    let working : IsWorking task holding.token es = (config, record { later = []; text = text; since = refl; reads = reads; known = known; held = record { unfenced = tt; unended = tt } }) in
    let due = c.page_ask.ensures.due task holding.token es working fresh.none_read catalog in
    record { work = due.work; may = due.may; allowed = may_read (handed_to old) es c.page_ask.result (due_index task l es c.page_ask.result due); knows = inl (record { knows = due.knows; begun = (b, refl, begun); leads = fresh.leads; begins = fresh.begins }) }
