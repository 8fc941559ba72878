use Rattle.std.proofs.Common.{rules}
use Rattle.repo_wire.proofs.Fitting.{reply_fits}
use Rattle.repo_store.proofs.Appending.{steps_only_append}
use Rattle.repo_store.proofs.answers.answer.Goals as goal

pub returns-clause-fits : goal.returns-clause-fits
returns-clause-fits g c = reply_fits c.reply_to.result c.reply_to.ensures.within (search rules)

pub returns-clause-kept : goal.returns-clause-kept
returns-clause-kept g c h =
    steps_only_append (g.S.Shelf.store c.args.shelf.now) (g.S.Shelf.store c.say_to-say.new.shelf) c.args.request.now.ask c.say_to-say.result (c.say_to-say.ensures.step h)
