use Rattle.std.proofs.Common.{List, inl, inr, subst}
use Rattle.pram_model.specs.Layout.{SharedEntry}
use Rattle.diagnoses.proofs.Remarked.{if_ok}
use Rattle.command_pairs.specs.Pairs.{IsCompared, IsUncommonIn}
use Rattle.command_requests.proofs.Sizes.{hands_on}
use Rattle.command_pairs.proofs.pairing.compare_pair.Goals as goal

pub returns-in_err-compared-clause-refused : goal.returns-in_err-compared-clause-refused
returns-in_err-compared-clause-refused g c =
    let words = c.args.words.now in
    let p = c.args.first.now in
    let q = c.args.second.now in
    let h = c.in_err-compared.field-0.0 in
    hands_on _ h _ c.from_residual.ensures.1 (elim c.in_err-compared.ensures.refused [
      | inl u ↦ inl (subst (λ (l : List SharedEntry). IsUncommonIn words p.layout l h.stop h.about) c.layout-2.ensures
          (subst (λ (l : List SharedEntry). IsUncommonIn words l c.layout-2.result.now h.stop h.about) c.layout.ensures u))
      | inr n ↦ inr (inl n)
    ])

pub returns-clause-found : goal.returns-clause-found
returns-clause-found g c =
    let words = c.args.words.now in
    let p = c.args.first.now in
    let q = c.args.second.now in
    let text = c.args.text.now in
    let compared = c.in_ok-compared.compared in
    let is = subst (λ (l : List SharedEntry). IsCompared words p.layout l text compared) c.layout-2.ensures
    (subst (λ (l : List SharedEntry). IsCompared words l c.layout-2.result.now text compared) c.layout.ensures
    c.in_ok-compared.ensures.compared) in
    if_ok c.compare_on.result _ _ (λ r found. (compared, is, found)) c.compare_on.ensures.found
