use Rattle.repo_dial.proofs.RecordLemmas.{recorded_ask}
use Rattle.repo_dial.proofs.recording.Recorder.ask.Goals as goal

pub returns-clause-first : goal.returns-clause-first
returns-clause-first c passages all = recorded_ask c.args.request.now c.ask_once.result c.args.self.now.left.now c.ask_once.new.channel.left.now c.args.self.now.tape c.ask_once.new.channel.tape passages c.requires.new all c.ask_once.ensures
