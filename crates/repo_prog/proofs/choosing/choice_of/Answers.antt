use Rattle.repo_prog.proofs.WordLemmas.{chosen_by}
use Rattle.repo_prog.proofs.choosing.choice_of.Goals as goal

pub returns-clause-chooses : goal.returns-clause-chooses
returns-clause-chooses c = chosen_by c.args.words.now c.in_ok-host.host c.in_ok-policy.policy c.in_ok-names.names.items c.choice_by.result c.in_ok-policy.ensures c.in_ok-host.ensures.host c.in_ok-names.ensures
    c.choice_by.ensures.refused c.choice_by.ensures.names c.choice_by.ensures.policy
