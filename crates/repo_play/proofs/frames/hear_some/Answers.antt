use Rattle.std.proofs.Common.{◌≡◌, ◌∙◌, ◌≤◌, ◌<◌, length, take, ap, subst, arith, rules}
use Rattle.std.specs.Cmp.{nat_eq_equiv}
use Rattle.std.specs.Cmp.Lexicographic.{lists_equiv, same_text}
use Rattle.std.specs.Io.KnownBytes.{Consumes}
use Rattle.std.proofs.lemmas.List.{length-take-le}
use Rattle.repo_play.proofs.frames.hear_some.Goals as goal

pub returns-then-eq-clause-heard : goal.returns-then-eq-clause-heard
returns-then-eq-clause-heard g c =
    let n = c.in-Ok.count in
    let left = g.R.Read.remaining in
    let ends = c.hear-heard.new.self in
    let same = same_text (take n c.hear-heard.new.piece) (take n c.args.coming.now) c.if-eq.ensures in
    let some : 0 < n = search rules in
    let long : length c.hear-heard.new.piece ≡ length c.args.coming.now = c.hear-heard.auto.piece ∙ length-take-le (length c.args.coming.now) c.args.piece.now c.requires.room in
    let within = c.in-Ok.ensures.count in
    let most : n ≤ length c.args.coming.now = omega (arith, long, within) in
    let named = c.in-Ok.ensures.heard.0 in
    let read : Consumes (left c.args.reader.now) (left ends.reader.now) (take n c.args.coming.now) = subst (Consumes (left c.args.reader.now) (left ends.reader.now)) same c.in-Ok.ensures.heard.2 in
    (some, most, search rules)

pub returns-else-eq-clause-malformed : goal.returns-else-eq-clause-malformed
returns-else-eq-clause-malformed g c = λ e.
    let n = c.in-Ok.count in
    let heard = c.hear-heard.new.piece in
    let coming = c.args.coming.now in
    let long : length heard ≡ length coming = c.hear-heard.auto.piece ∙ length-take-le (length coming) c.args.piece.now c.requires.room in
    let within = c.in-Ok.ensures.count in
    let size = length-take-le n heard within in
    let named = c.in-Ok.ensures.heard.0 in
    let read = c.in-Ok.ensures.heard.2 in
    record {
      came = take n heard;
      few = omega (arith, long, within, size);
      read = search rules;
      other = λ same. cc (c.if-eq.ensures, same ∙ ap (λ k. take k coming) size, (lists_equiv nat_eq_equiv).refl (take n coming));
    }
