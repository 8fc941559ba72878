use Rattle.std.proofs.Common.{◌≡◌, ◌≤◌, ◌+◌, ◌*◌, ◌∙◌, ℕ, List, length, Some, ap, subst, sym}
use Rattle.serde_json.specs.Data.{depth}
use Rattle.serde_json.specs.View.{view}
use Rattle.repo_name.specs.Limits.{index_limit}
use Rattle.repo_index.specs.IndexText.{facts_in}
use Rattle.repo_index.specs.IndexWriting.{index_data, ArePacks}
use Rattle.repo_index.specs.declared.facts.PackFacts.{PackFacts}
use Rattle.repo_index.proofs.WritingLemmas.{index_depth, index_reads, text_is}
use Rattle.repo_index.proofs.LengthLemmas.{index_length, few_short}
use Rattle.repo_index.proofs.index_text.IndexText.write.Goals as goal

pub returns-clause-text : goal.returns-clause-text
returns-clause-text c =
    text_is (view c.in_ok-value.value) c.in_ok-to_vec.field-0.items c.packs.result.now c.args.self.now c.packs.ensures c.in_ok-value.ensures.value
    c.in_ok-to_vec.ensures.text

pub returns-clause-reads : goal.returns-clause-reads
returns-clause-reads c lawful =
    let value : view c.in_ok-value.value ≡ index_data c.args.self.now = c.in_ok-value.ensures.value ∙ ap index_data c.packs.ensures in
    let shallow : depth (view c.in_ok-value.value) ≤ 127 = rw value (index_depth c.args.self.now) in
    let made = subst (λ (ps : List PackFacts). ArePacks ps) c.packs.ensures c.in_ok-value.ensures.made in
    index_reads c.args.self.now c.in_ok-to_vec.field-0.items made lawful c.in_ok-to_vec.ensures.utf8 (c.in_ok-to_vec.ensures.reads_back shallow ∙ ap Some value)

pub returns-clause-adds : goal.returns-clause-adds
returns-clause-adds c =
    let text = text_is (view c.in_ok-value.value) c.in_ok-to_vec.field-0.items c.packs.result.now c.args.self.now c.packs.ensures c.in_ok-value.ensures.value
    c.in_ok-to_vec.ensures.text in
    let made = subst (λ (ps : List PackFacts). ArePacks ps) c.packs.ensures c.in_ok-value.ensures.made in
    subst (λ (t : List ℕ). length t ≤ 28 + 128 * (length (facts_in c.args.self.now) + length c.args.self.now)) (sym text) (index_length c.args.self.now made)

pub returns-clause-short : goal.returns-clause-short
returns-clause-short c few =
    let text = text_is (view c.in_ok-value.value) c.in_ok-to_vec.field-0.items c.packs.result.now c.args.self.now c.packs.ensures c.in_ok-value.ensures.value
    c.in_ok-to_vec.ensures.text in
    let made = subst (λ (ps : List PackFacts). ArePacks ps) c.packs.ensures c.in_ok-value.ensures.made in
    subst (λ (t : List ℕ). length t ≤ index_limit) (sym text) (few_short c.args.self.now made few)
