use Rattle.std.proofs.Common.{sym, ap, subst, ◌∙◌}
use Rattle.repo_session.specs.Feeds.{fed_dir, fed_file, fed_close, fed_end}
use Rattle.repo_backup.specs.Items.{fed_of, fed_part, size_of}
use Rattle.repo_backup.specs.Pieces.{Refuses, sealing_at}
use Rattle.repo_backup.specs.declared.packing.Sealing.{Sealing}
use Rattle.repo_backup.proofs.PackingLemmas.{on_err}
use Rattle.repo_backup.proofs.PieceTaking.{item_taken, piece_taken, if_err, whole_piece}
use Rattle.repo_backup.proofs.Staging.{if_ok}
use Rattle.repo_backup.proofs.piece_works.PieceWork.feed.Goals as goal

pub returns-in-Dir-clause-ok : goal.returns-in-Dir-clause-ok
returns-in-Dir-clause-ok c =
    let is = c.in-Dir.is in
    if_ok _ _ c.feed_dir.result (λ took h. item_taken c.args.lookup.now c.args.item Sealing.Due (fed_dir c.in-Dir.name.now) c.args.self.now took c.feed_dir.new.self (λ n. ap (fed_part n) is) (ap size_of is) (ap sealing_at is) (h c.args.lookup.now)) c.feed_dir.ensures.ok

pub returns-in-Dir-clause-stays : goal.returns-in-Dir-clause-stays
returns-in-Dir-clause-stays c = on_err c.feed_dir.result _ _ (λ h. h c.args.lookup.now) c.feed_dir.ensures.stays

pub returns-in-File-clause-ok : goal.returns-in-File-clause-ok
returns-in-File-clause-ok c =
    let is = c.in-File.is in
    if_ok _ _ c.feed_file.result (λ took h. item_taken c.args.lookup.now c.args.item Sealing.Due (fed_file c.in-File.name.now) c.args.self.now took c.feed_file.new.self (λ n. ap (fed_part n) is) (ap size_of is) (ap sealing_at is) (h c.args.lookup.now)) c.feed_file.ensures.ok

pub returns-in-File-clause-stays : goal.returns-in-File-clause-stays
returns-in-File-clause-stays c = on_err c.feed_file.result _ _ (λ h. h c.args.lookup.now) c.feed_file.ensures.stays

pub returns-in-Dir-clause-refused : goal.returns-in-Dir-clause-refused
returns-in-Dir-clause-refused c =
    let known = c.args.lookup.now in
    let w = c.args.self.now in
    if_err _ _ c.feed_dir.result (λ e h. subst (λ f. Refuses known f w e) (sym (ap fed_of c.in-Dir.is)) (h known)) c.feed_dir.ensures.refused

pub returns-in-File-clause-refused : goal.returns-in-File-clause-refused
returns-in-File-clause-refused c =
    let known = c.args.lookup.now in
    let w = c.args.self.now in
    if_err _ _ c.feed_file.result (λ e h. subst (λ f. Refuses known f w e) (sym (ap fed_of c.in-File.is)) (h known)) c.feed_file.ensures.refused

pub returns-in-Bytes-clause-refused : goal.returns-in-Bytes-clause-refused
returns-in-Bytes-clause-refused c =
    let known = c.args.lookup.now in
    let w = c.args.self.now in
    if_err _ _ c.feed_bytes.result (λ e h. subst (λ f. Refuses known f w e) (sym (ap fed_of c.in-Bytes.is ∙ whole_piece c.in-Bytes.piece.now)) (h known)) c.feed_bytes.ensures.refused

pub returns-in-Close-clause-refused : goal.returns-in-Close-clause-refused
returns-in-Close-clause-refused c =
    let known = c.args.lookup.now in
    let w = c.args.self.now in
    if_err _ _ c.feed_close.result (λ e h. subst (λ f. Refuses known f w e) (sym (ap fed_of c.in-Close.is)) (h known)) c.feed_close.ensures.refused

pub returns-in-End-clause-refused : goal.returns-in-End-clause-refused
returns-in-End-clause-refused c =
    let known = c.args.lookup.now in
    let w = c.args.self.now in
    if_err _ _ c.feed_end.result (λ e h. subst (λ f. Refuses known f w e) (sym (ap fed_of c.in-End.is)) (h known)) c.feed_end.ensures.refused

pub returns-in-Bytes-clause-ok : goal.returns-in-Bytes-clause-ok
returns-in-Bytes-clause-ok c =
    let is = c.in-Bytes.is in
    if_ok _ _ c.feed_bytes.result (λ took h. piece_taken c.args.lookup.now c.args.item c.in-Bytes.piece.now c.args.self.now took c.feed_bytes.new.self (λ n. ap (fed_part n) is) (ap size_of is) (ap sealing_at is) h) c.feed_bytes.ensures.ok

pub returns-in-Close-clause-ok : goal.returns-in-Close-clause-ok
returns-in-Close-clause-ok c =
    let is = c.in-Close.is in
    if_ok _ _ c.feed_close.result (λ took h. item_taken c.args.lookup.now c.args.item Sealing.Due fed_close c.args.self.now took c.feed_close.new.self (λ n. ap (fed_part n) is) (ap size_of is) (ap sealing_at is) h) c.feed_close.ensures.ok

pub returns-in-End-clause-ok : goal.returns-in-End-clause-ok
returns-in-End-clause-ok c =
    let is = c.in-End.is in
    if_ok _ _ c.feed_end.result (λ took h. item_taken c.args.lookup.now c.args.item Sealing.Last fed_end c.args.self.now took c.feed_end.new.self (λ n. ap (fed_part n) is) (ap size_of is) (ap sealing_at is) h) c.feed_end.ensures.ok
