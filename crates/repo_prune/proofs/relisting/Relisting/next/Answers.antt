use Rattle.std.proofs.Common.{arith, rules, Vec, Global, ◌≡◌, ◌+◌, ◌≤◌, List, length, take, drop, sym, ap, subst, inl, inr, ◌∙◌}
use Rattle.std.proofs.lemmas.List.{length-drop}
use Rattle.repo_name.specs.Limits.{facts_limit}
use Rattle.repo_index.specs.IndexText.{IsIndexText, facts_in}
use Rattle.repo_index.specs.IndexWriting.{AreLawful, AreFew, index_text}
use Rattle.repo_index.specs.declared.facts.PackFacts.{PackFacts}
use Rattle.repo_prune.specs.Pruning.{AreCutInTime}
use Rattle.repo_prune.specs.Relisting.{AreListable}
use Rattle.repo_prune.proofs.Relistings.{in_first, in_rest, take_behind, cut_in_time, some_taken, some_listable, listable_small, listable_lawful, listable_few}
use Rattle.repo_prune.proofs.relisting.Relisting.next.Goals as goal

pub returns-clause-on : goal.returns-clause-on
returns-clause-on c = λ listable.
    let r = c.args.self.now in
    let rest : List PackFacts = c.split_at.result.1.now in
    let rest_is : rest ≡ drop r.listed r.packs.items = search rules in
    let count = c.cut-count.result in
    let waiting : List PackFacts = take count rest in
    let in_packs : AreListable (drop r.listed r.packs.items) = some_listable r.packs.items (drop r.listed r.packs.items) (in_rest r.packs.items r.listed) listable in
    let behind : AreListable rest = subst AreListable (sym rest_is) in_packs in
    let next : AreListable waiting = some_listable rest waiting (in_first rest count) behind in
    let few = c.cut-count.ensures.few (listable_small rest behind) in
    let text_is : c.in_ok-text.text ≡ waiting = search rules in
    let are_few : AreFew waiting = listable_few waiting next few in
    let put = c.in_ok-step.ensures.puts (subst AreLawful (sym text_is) (listable_lawful waiting next)) (subst AreFew (sym text_is) are_few) in
    let noted = c.in_ok-note.ensures.ok _ _ _ _ put.3 in
    let more = c.saturating_add-self.ensures in
    let within : count ≤ length rest = c.cut-count.ensures.cut.within in
    let long : length rest ≡ length (drop r.listed r.packs.items) = ap length rest_is in
    let left = length-drop r.listed r.packs.items in
    let small = r.packs.small in
    let below = c.if-self-packs.false in
    let same : c.note.new.self.listed ≡ r.listed = c.note.ensures.listed in
    let packs_same : c.note.new.self.packs.items ≡ r.packs.items = ap (λ (v : Vec PackFacts Global). v.items) c.note.ensures.packs in
    let moved : c.saturating_add-self.result ≡ r.listed + count = omega (arith, more, within, long, left, small, same) in
    record {
      waiting = take count (drop r.listed r.packs.items);
      text = put.0;
      reads = subst (λ ps. IsIndexText put.0 ps) (text_is ∙ ap (take count) rest_is) put.1;
      written = subst (λ ps. put.0 ≡ index_text ps) (text_is ∙ ap (take count) rest_is) put.4;
      some = some_taken (drop r.listed r.packs.items) count (λ none. c.cut-count.ensures.cut.some (λ empty. none (sym rest_is ∙ empty))) (omega (arith, left, below));
      few = subst (λ ps. AreFew (take count ps)) rest_is are_few;
      short = put.2;
      behind = ap (take c.saturating_add-self.result) packs_same ∙ take_behind r.packs.items r.listed count c.saturating_add-self.result moved;
      cut = subst (λ ps. AreCutInTime (take count ps)) rest_is (cut_in_time rest count c.cut-count.ensures.cut.before);
      full = elim c.cut-count.ensures.cut.full [
        | inl all ↦ inr (omega (arith, all, long, left, moved, below, ap length packs_same))
        | inr many ↦ inl (subst (λ (ps : List PackFacts). facts_limit ≤ length (facts_in (take count ps))) rest_is many)
      ];
      puts = put.3;
      named = noted;
      packs = packs_same;
      counts = c.note.ensures.counts;
    }
