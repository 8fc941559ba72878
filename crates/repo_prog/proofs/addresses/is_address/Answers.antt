use Rattle.std.proofs.Common.{Some, None, not, ap, sym, subst, ◌∙◌}
use Rattle.std.proofs.lemmas.Bool.{true≢false}
use Rattle.repo_prog.proofs.AddressLemmas.{LacksColon, split_parts, address_parts, has_colon, has_host, reads_port}
use Rattle.repo_prog.proofs.addresses.is_address.Goals as goal

pub returns-then-not-is_empty : goal.returns-then-not-is_empty
returns-then-not-is_empty c =
    let parts = split_parts c.args.text.now (Some (c.in-Some.host, c.in-Some.port)) c.in-Some.ensures.cases in
    let reads = reads_port c.in-Some.port.now c.parse.result c.parse.ensures.value.0 c.is_ok.result c.is_ok.ensures.value in (
      λ ok. (c.in-Some.host.now, c.in-Some.port.now, parts.0, (has_host c.in-Some.host.now c.is_empty.result c.is_empty.ensures).0 c.if-not-is_empty.true, reads.0 ok),
      λ is. reads.1 (address_parts c.args.text.now c.in-Some.host.now c.in-Some.port.now parts.0 parts.1 is).1,
    )

pub returns-else-not-is_empty : goal.returns-else-not-is_empty
returns-else-not-is_empty c =
    let parts = split_parts c.args.text.now (Some (c.in-Some.host, c.in-Some.port)) c.in-Some.ensures.cases in
    let there = has_host c.in-Some.host.now c.is_empty.result c.is_empty.ensures in (
      λ t. absurd (true≢false (sym t ∙ ap not c.if-not-is_empty.false)),
      λ is. absurd (true≢false (sym c.if-not-is_empty.false ∙ there.1 (address_parts c.args.text.now c.in-Some.host.now c.in-Some.port.now parts.0 parts.1 is).0)),
    )

pub returns-in-None : goal.returns-in-None
returns-in-None c = (
  λ t. absurd (true≢false (sym t)),
  λ is. absurd (has_colon is.0 is.1 (subst LacksColon is.2 (split_parts c.args.text.now None c.in-None.ensures.cases))),
)
