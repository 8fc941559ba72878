use Rattle.std.proofs.Common.{rules, ◌≡◌, ◌++◌, [], map, Option, Some, refl, subst, ◌∙◌}
use Rattle.repo_index.specs.Exactness.{fact_in}
use Rattle.repo_pack.specs.declared.writers.Sealed.{Sealed}
use Rattle.repo_writing.specs.Sealing.{IsSealed}
use Rattle.repo_writing.proofs.Listings.{listed_so}
use Rattle.repo_backup.proofs.packing.Packing.seal_listed.Goals as goal

pub returns-clause-listed : goal.returns-clause-listed
returns-clause-listed c = λ items is.
    let s = c.in-Some.sealed in
    let there : c.seal.new.self.packer.sealed ≡ Some s = search rules in
    let none : c.in_ok-facts.facts.items ≡ [] = search rules in
    let facts : c.of.result ≡ map fact_in s.blobs.items = c.of.ensures ∙ c.add_facts.ensures ∙ (λ i. none i ++ map fact_in (c.deref.ensures.value i)) in
    let I : Option Sealed → Type 0 = λ o. IsSealed o items in
    (s, listed_so c.seal.new.self.packer.sealed items s (record { pack = s.name; facts = c.of.result }) there (subst I there is) refl facts)
