use Rattle.std.proofs.Common.{inl, inr}
use Rattle.repo_name.specs.NameMaps.{found}
use Rattle.repo_check.specs.Visiting.{IsBehind, IsBelow, LeadsOn}
use Rattle.repo_check.proofs.Walking.{added_as, added_both, led_all}
use Rattle.repo_check.proofs.walks.add_led.Goals as goal

pub returns-in_err-add_below-clause-among : goal.returns-in_err-add_below-clause-among
returns-in_err-add_below-clause-among c =
    let trees = found c.args.known.now.kept in
    added_as (IsBelow trees c.args.visit) (LeadsOn trees c.args.visit) c.args.visits.now c.add_below.new.visits (λ w b. inl b) c.add_below.ensures.among

pub returns-clause-among : goal.returns-clause-among
returns-clause-among c =
    let trees = found c.args.known.now.kept in
    added_both (IsBelow trees c.args.visit) (IsBehind trees c.args.visit) (LeadsOn trees c.args.visit) c.args.visits.now c.add_below.new.visits c.add_behind.new.visits (λ w b. inl b) (λ w b. inr b) c.add_below.ensures.among c.add_behind.ensures.among

pub returns-clause-all : goal.returns-clause-all
returns-clause-all c = led_all c.add_behind.result (found c.args.known.now.kept) c.args.visit c.add_below.new.visits c.add_behind.new.visits c.in_ok-add_below.ensures.all c.add_behind.ensures.among c.add_behind.ensures.all
