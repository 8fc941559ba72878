use Rattle.std.proofs.Common.{rules, ◌≡◌, ◌∙◌, ◌<◌, ◌+◌, ◌++◌, length, map, slice_index_or, string_bytes, take, sym, ap, subst}
use Rattle.repo_world.specs.Flows.{Flow, clients_in}
use Rattle.repo_world.specs.Reports.{client_lines, line_of}
use Rattle.repo_world.specs.Seats.{Seated}
use Rattle.repo_world.proofs.Reporting.{lines_next}
use Rattle.repo_world.proofs.traffic.Traffic.client_lines.Goals as goal

pub loop-number-preserved : goal.loop-number-preserved
loop-number-preserved c =
    let seats = c.self.inside.seats.items in
    let n = c.loop-number.number in
    let s = c.seat-item.result in
    let less : n < length seats = search rules in
    let same : s ≡ slice_index_or seats n s = search rules in
    let text : string_bytes c.push_str.new.self ≡ string_bytes c.loop-number.text ++ line_of n s.client =
    c.in_ok-push_str.ensures.bytes ∙ ap (λ l. string_bytes c.loop-number.text ++ l) (c.as_str.ensures.value ∙ c.in_ok-line.ensures) in
    let before : string_bytes c.loop-number.text ≡ client_lines 0 (take n (map (λ (x : Seated). x.client) seats)) =
    subst (λ (f : Flow). string_bytes c.loop-number.text ≡ client_lines 0 (take n (clients_in f))) (sym c.self.view_is) c.loop-number.invariant in
    subst (λ (f : Flow). string_bytes c.push_str.new.self ≡ client_lines 0 (take (n + 1) (clients_in f))) c.self.view_is
    (text ∙ ap (λ l. l ++ line_of n s.client) before ∙ ap (λ (x : Seated). client_lines 0 (take n (map (λ (y : Seated). y.client) seats)) ++ line_of n x.client) same ∙ sym (lines_next seats n s less))
