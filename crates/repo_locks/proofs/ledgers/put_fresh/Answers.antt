use Rattle.std.proofs.Common.{arith, rules, ap, ◌∙◌, ◌≡◌, ◌<◌, ◌++◌, ◌∷◌, [], drop, length, length-append}
use Rattle.repo_locks.proofs.TokenMaps.{last_key, least_popped, full_then, free_then}
use Rattle.repo_locks.proofs.ledgers.put_fresh.Goals as goal

pub returns-then-is_full-clause-ok : goal.returns-then-is_full-clause-ok
returns-then-is_full-clause-ok c =
    let old = c.args.fresh.now.keys in
    let put : c.insert.new.self.keys ≡ old ++ c.args.token ∷ [] = c.in_ok-insert.ensures.keys ∙ last_key 0 old c.args.token c.requires in
    let some : 0 < length c.insert.new.self.keys = rw (put, length-append) (omega arith) in
    let popped = least_popped c.pop_first.result c.insert.new.self.keys c.pop_first.new.self.keys c.pop_first.ensures.variant.1 c.pop_first.ensures.removal some in
    let full : length old ≡ 1024 = search rules in
    full_then old c.pop_first.new.self.keys c.args.token full (popped ∙ ap (λ ts. drop 1 ts) put)

pub returns-else-is_full-clause-ok : goal.returns-else-is_full-clause-ok
returns-else-is_full-clause-ok c =
    let old = c.args.fresh.now.keys in
    let free : length old ≡ 1024 → ⊥ = search rules in
    free_then old c.insert.new.self.keys c.args.token free (c.in_ok-insert.ensures.keys ∙ last_key 0 old c.args.token c.requires)
