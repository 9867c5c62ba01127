-- Numbers in C, and the rows of declarations.
use Rattle.std.proofs.Common.{◌≡◌, ℕ, zero, suc, List, [], ◌∷◌, ◌++◌, sym, ap, ◌∙◌, subst, true, arith, rules}
use Rattle.std.specs.Prelude.{ℤ, pos, negsuc, ◌+ℤ◌, ◌-ℤ◌, Option, Some, None, IfSome}
use Rattle.std.proofs.lemmas.Grind.{common_steps}
use Rattle.std.specs.Fmt.{signed_decimal}
use Rattle.std.proofs.Math.Facts.{to_z-of_z}
use Rattle.pram_model.specs.Layout.{SharedEntry}
use Rattle.text_out.specs.Printing.{Printing, Prints}
use Rattle.text_out.proofs.Printed.{printed_as}
use Rattle.mpi_export.specs.Program.{c_number, declared, entry_row}
use lib.Signed.{lt_z}
use mir.Syntax.{w64}
use mir.Val.{SFits, of_z, to_z}

-- what is computed of a number below 0
complement_of : (z : ℤ) → SFits w64 z → SFits w64 (z +ℤ pos 1) → SFits w64 (pos 0 -ℤ (z +ℤ pos 1)) →
    to_z w64 (of_z w64 (pos 0 -ℤ to_z w64 (of_z w64 (to_z w64 (of_z w64 z) +ℤ pos 1)))) ≡ pos 0 -ℤ (z +ℤ pos 1)
complement_of z fits more less =
    ap (λ x. to_z w64 (of_z w64 (pos 0 -ℤ to_z w64 (of_z w64 (x +ℤ pos 1))))) (to_z-of_z fits)
    ∙ ap (λ x. to_z w64 (of_z w64 (pos 0 -ℤ x))) (to_z-of_z more)
    ∙ to_z-of_z less

-- a number below 0 by its complement, as it is computed
pub complemented : (z : ℤ) → SFits w64 z → lt_z (to_z w64 (of_z w64 z)) (pos 0) ≡ true →
    c_number z ≡ 126 ∷ [] ++ signed_decimal (to_z w64 (of_z w64 (pos 0 -ℤ to_z w64 (of_z w64 (to_z w64 (of_z w64 z) +ℤ pos 1)))))
complemented (pos n) fits below =
    let h = subst (λ x. lt_z x (pos 0) ≡ true) (to_z-of_z fits) below in
    absurd (grind (arith, h))
complemented (negsuc zero) fits below = ap (λ x. 126 ∷ signed_decimal x)
    (sym (complement_of (negsuc zero) fits (search rules) (search rules)))
complemented (negsuc (suc n)) fits below =
    let less : pos (suc n) ≡ pos 0 -ℤ (negsuc (suc n) +ℤ pos 1) = grind (arith, common_steps) in
    ap (λ x. 126 ∷ signed_decimal x) (less ∙ sym (complement_of (negsuc (suc n)) fits (grind (arith, fits)) (grind (arith, fits))))

-- the row of the declaration that has this name and these bounds
pub row_of : (s u : Printing) (o : Option SharedEntry) (name : List ℕ) (given bounds : Option (ℤ × ℤ)) → given ≡ bounds →
    IfSome o (λ e. name ≡ e.name) → IfSome o (λ e. given ≡ e.bounds) → Prints s u (declared name bounds) →
    IfSome o (λ e. Prints s u (entry_row e))
row_of s u None name given bounds same is has prints = tt
row_of s u (Some e) name given bounds same is has prints =
    printed_as (ap (λ n. declared n e.bounds) (sym is) ∙ ap (declared name) (sym has ∙ same)) prints
