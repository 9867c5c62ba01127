-- The shared reads of a formula are those of its expression.
use Rattle.std.proofs.Common.{◌≡◌, ◌+◌, refl, arith}
use Rattle.pram_names.specs.declared.body.Expression as body
use Rattle.pram_names.specs.declared.body.Expression.{Expression, Element', Prefix', Chain', Row_of-Link, end_of-Link, more_of-Link}
use Rattle.pram_check.specs.Bounded as bounded
use Rattle.plain_form.specs.Formulas.{Formula, Between, formula_of, chained, reads}

mutual
  pub reads_of : (e : Expression) → reads (formula_of e) ≡ bounded.reads e
  reads_of (body.Number n) = refl
  reads_of (body.Uniform x) = refl
  reads_of body.Index = refl
  reads_of (body.Local x) = refl
  reads_of (body.Cell a) = refl
  reads_of (Element' a b e) = let h : reads (formula_of e) ≡ bounded.reads e = reads_of e in omega (arith, h)
  reads_of (Prefix' o b e) = reads_of e
  reads_of (Chain' b e q links) =
      let h : reads (formula_of e) ≡ bounded.reads e = reads_of e in
      let k : reads (chained (formula_of e) links) ≡ reads (formula_of e) + bounded.link_reads links =
      reads_of_chain (formula_of e) links in
      omega (arith, h, k)

  reads_of_chain : (f : Formula) {n : _} (links : Row_of-Link n) → reads (chained f links) ≡ reads f + bounded.link_reads links
  reads_of_chain f end_of-Link = omega arith
  reads_of_chain f (more_of-Link o e links) =
      let h : reads (formula_of e) ≡ bounded.reads e = reads_of e in
      let k : reads (chained (Between o f (formula_of e)) links) ≡ reads f + reads (formula_of e) + bounded.link_reads links =
      reads_of_chain (Between o f (formula_of e)) links in
      omega (arith, h, k)
