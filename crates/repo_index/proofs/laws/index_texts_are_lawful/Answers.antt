use Rattle.repo_index.proofs.OneLemmas.{index_texts_lawful}
use Rattle.repo_index.proofs.laws.index_texts_are_lawful.Goals as goal

pub returns : goal.returns
returns c = index_texts_lawful
