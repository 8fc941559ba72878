use Rattle.std.proofs.Common.{Option, refl, subst}
use Rattle.repo_pack.specs.declared.writers.Sealed.{Sealed}
use Rattle.repo_writing.specs.Sealing.{IsSealed}
use Rattle.repo_writing.proofs.Listings.{listed_so}
use Rattle.repo_writing.proofs.packers.Packer.facts.Goals as goal

pub returns-in_ok-of_sealed-in-Some-clause-listed : goal.returns-in_ok-of_sealed-in-Some-clause-listed
returns-in_ok-of_sealed-in-Some-clause-listed c = λ items some h.
    let S : Option Sealed → Type 0 = λ o. IsSealed o items in
    let listed = c.in_ok-of_sealed-in-Some.field-0 in (
      c.in-Some.sealed,
      listed,
      refl,
      listed_so c.args.self.now.sealed items c.in-Some.sealed listed c.in-Some.is (subst S c.in-Some.is h) c.in_ok-of_sealed-in-Some.ensures.pack c.in_ok-of_sealed-in-Some.ensures.facts,
    )
