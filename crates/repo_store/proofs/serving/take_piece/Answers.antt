use Rattle.std.proofs.Common.{rules, ◌≡◌, ◌<◌, ◌++◌, ◌∷◌, [], Some, refl, sym, subst, ap, arith, take, length, length-append, length-take, ◌∙◌}
use Rattle.std.proofs.lemmas.List.{append-nil}
use Rattle.std.proofs.lemmas.Result.{err_from_is_err_and}
use Rattle.repo_store.specs.Channels.{heard, heard_in, said_in}
use Rattle.repo_store.specs.Services.{with_bytes}
use Rattle.repo_store.specs.Serving.{seen, plain}
use Rattle.repo_store.proofs.ChannelLemmas.{passes_join, served_so, heard_after, said_after, turn_after}
use Rattle.repo_store.proofs.ServiceLemmas.{all_served, whole_served, fed_has, ends_served}
use Rattle.repo_store.proofs.serving.take_piece.Goals as goal

pub returns-in-Ok-eq0-clause-next : goal.returns-in-Ok-eq0-clause-next
returns-in-Ok-eq0-clause-next g c honest from failures earlier past all rests =
    let e = c.in-Ok-eq0.ensures in
    let none : c.in-Ok-eq0.field-0 ≡ 0 = search (arith) in
    let room : 0 < length c.hear.new.piece = search (rules, arith) in
    record {
      passages = heard [] ∷ [];
      passes = (c.args.channel.now, refl, subst (λ n. g.C.Channel.hears c.args.channel.now (take n c.hear.new.piece) c.hear.new.self) none e.heard);
      in_turn = λ h. (h, served_so from failures earlier c.args.service.now past _ _ all rests);
      goes = (all ∙ sym (append-nil (heard_in earlier)), e.over none room, rests);
    }

pub returns-in-Err-clause-next : goal.returns-in-Err-clause-next
returns-in-Err-clause-next g c honest from failures earlier past all rests = record {
  passages = heard [] ∷ [];
  passes = (c.args.channel.now, refl, c.in-Err.ensures.err);
  in_turn = λ h. (h, served_so from failures earlier c.args.service.now past _ _ all rests);
  goes = (
    0 ∷ [],
    (λ none. absurd (cc)),
    (
      past,
      c.args.service.now.reader.unread,
      ap (λ x. x ++ 0 ∷ []) (append-nil (heard_in earlier) ∙ sym all),
      all_served plain (seen from failures (Some [])) c.args.service.now past _ rests,
    ),
  );
}

pub returns-in_err-feed-in-Ok-clause-next : goal.returns-in_err-feed-in-Ok-clause-next
returns-in_err-feed-in-Ok-clause-next g c honest from failures earlier past all rests =
    let p = err_from_is_err_and c.from_residual.result c.from_residual.ensures.1 in
    let piece = take c.in-Ok.count c.hear.new.piece in
    rw (p.1, p.2) (record {
      passages = heard piece ∷ [];
      passes = (c.args.channel.now, refl, c.in-Ok.ensures.heard);
      in_turn = λ h. (h, served_so from failures earlier c.args.service.now past _ _ all rests);
      goes = (
        0 ∷ [],
        (λ none. absurd (cc)),
        (past, piece, ap (λ x. (x ++ piece) ++ 0 ∷ []) (sym all), whole_served plain (seen from failures (Some [])) c.args.service.now past _ rests.has),
      );
    })

pub returns-in_err-answer_over-in-Ok-clause-next : goal.returns-in_err-answer_over-in-Ok-clause-next
returns-in_err-answer_over-in-Ok-clause-next g c honest from failures earlier past all rests =
    let p = err_from_is_err_and c.from_residual-in_err-answer_over-in-Ok.result c.from_residual-in_err-answer_over-in-Ok.ensures.1 in
    let piece = take c.in-Ok.count c.hear.new.piece in
    let has = fed_has plain (seen from failures (Some [])) c.args.service.now c.feed.new.self past _ piece rests.has c.in_ok-feed-in-Ok.ensures.ok c.feed.ensures.answered in
    let over = c.in_err-answer_over-in-Ok.ensures.all honest in
    let later = over.passages in
    let ends = over.does (said_in earlier) (seen from failures (Some [])) (with_bytes past piece) has in
    let heard_all = heard_after later earlier piece over.alone in
    rw (p.1, p.2) (record {
      passages = later ++ heard piece ∷ [];
      passes = passes_join g.C.Channel.hears g.C.Channel.says c.args.channel.now c.hear.new.self c.answer_over.new.channel later (heard piece ∷ []) (c.args.channel.now, refl, c.in-Ok.ensures.heard) over.passes;
      in_turn = turn_after from later earlier piece over.alone (served_so from failures earlier c.args.service.now past _ _ all rests);
      goes = (
        0 ∷ [],
        (λ none. absurd (cc)),
        rw (said_after later earlier piece) (ends_served c.in_err-answer_over-in-Ok.field-0.0 (Some (heard_in ((later ++ heard piece ∷ []) ++ earlier) ++ 0 ∷ [])) (Some (0 ∷ [])) (seen from failures (Some [])) (past.bytes ++ piece) _
            (ap (λ x. x ++ 0 ∷ []) (heard_all ∙ ap (λ x. x ++ piece) (sym all))) ends),
      );
    })

pub returns-in_ok-answer_over-in-Ok-clause-next : goal.returns-in_ok-answer_over-in-Ok-clause-next
returns-in_ok-answer_over-in-Ok-clause-next g c honest from failures earlier past all rests =
    let piece = take c.in-Ok.count c.hear.new.piece in
    let has = fed_has plain (seen from failures (Some [])) c.args.service.now c.feed.new.self past _ piece rests.has c.in_ok-feed-in-Ok.ensures.ok c.feed.ensures.answered in
    let over = c.in_ok-answer_over-in-Ok.ensures.all honest in
    let later = over.passages in
    let a = over.does (said_in earlier) (seen from failures (Some [])) (with_bytes past piece) has in
    let some : 0 < c.in-Ok.count = search (arith) in
    let more : length a.0.bytes ≡ length (past.bytes ++ piece) = ap length a.1 in
    record {
      passages = later ++ heard piece ∷ [];
      passes = passes_join g.C.Channel.hears g.C.Channel.says c.args.channel.now c.hear.new.self c.answer_over.new.channel later (heard piece ∷ []) (c.args.channel.now, refl, c.in-Ok.ensures.heard) over.passes;
      in_turn = turn_after from later earlier piece over.alone (served_so from failures earlier c.args.service.now past _ _ all rests);
      goes = (
        a.0,
        a.1 ∙ ap (λ x. x ++ piece) all ∙ sym (heard_after later earlier piece over.alone),
        omega (arith, more, some, length-append past.bytes piece, length-take c.in-Ok.count c.hear.new.piece, c.in-Ok.ensures.count),
        rw (said_after later earlier piece) a.2,
      );
    }
