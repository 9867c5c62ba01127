-- The text of terms from one on.
use Rattle.std.proofs.Common.{◌≡◌, ◌∙◌, ℕ, ℤ, ◌+◌, ◌<◌, ◌≤◌, Bool, List, [], ◌++◌, drop, get_or, ap, sym}
use Rattle.std.proofs.lemmas.List.{at_drop_all, drop_more}
use Rattle.text_out.specs.Out.{OutState}
use Rattle.text_out.proofs.Writing.{with_bytes-nothing}
use Rattle.text_out.proofs.Progress.{Progress, goes_on}
use Rattle.sweeps.specs.declared.formula.Formula.{Formula}
use Rattle.sweeps.specs.declared.term.Term.{Term}
use Rattle.sweeps.specs.declared.term.Term.TheVariants.{Constant}
use Rattle.sweeps.specs.Formulas.{coefficient}
use Rattle.sweeps.specs.GrowthText.{is_still_first, rest_text, term_text, terms_text, written}

-- the term at i with its coefficient, and those behind it
pub terms_at : (n : List ℕ) (f : Formula) (first next : Bool) (i : ℕ) (z : ℤ) (t : Term) → i < 6 → t ≡ get_or written i Constant →
    z ≡ coefficient f t → next ≡ is_still_first first z →
    terms_text n f first (drop i written) ≡ term_text n first z t ++ terms_text n f next (drop (i + 1) written)
terms_at n f first next i z t within at number still =
    ap (terms_text n f first) (drop_more written i Constant within)
    ∙ ap (λ u. term_text n first (coefficient f u) u ++ terms_text n f (is_still_first first (coefficient f u)) (drop (i + 1) written))
    (sym at)
    ∙ ap (λ v. term_text n first v t ++ terms_text n f (is_still_first first v) (drop (i + 1) written)) (sym number)
    ∙ ap (λ b. term_text n first z t ++ terms_text n f b (drop (i + 1) written)) (sym still)

-- behind the last term
pub behind_terms : (old now : OutState) (all n : List ℕ) (f : Formula) (first : Bool) (i : ℕ) → 6 ≤ i →
    Progress old now all (terms_text n f first (drop i written)) → Progress old now all (rest_text first)
behind_terms old now all n f first i over p =
    goes_on _ _ _ _ _ [] (rest_text first) p (at_drop_all (terms_text n f first) written i over) (with_bytes-nothing now)
