-- What the check of a certificate has seen.
use Rattle.std.proofs.Common.{◌≡◌, ℕ, ◌+◌, ◌<◌, ◌≤◌, List, length, get_or, Some, sym, ap, ◌∙◌, subst, arith, ⊎_elim, ◌⊎◌}
use Rattle.std.specs.Prelude.{slice_get}
use Rattle.std.proofs.lemmas.Bool.{cases_lt}
use Rattle.std.proofs.lemmas.Option.{slice_get-get_or, slice_get_within}
use Rattle.superstep_instructions.specs.declared.instr.Instr.{Instr}
use Rattle.superstep_instructions.specs.declared.instr.Instr.TheVariants.{Mark}
use Rattle.superstep_instructions.specs.Code.{SuperstepCode}
use Rattle.pram_model.proofs.Truths.{unsome}
use Rattle.tidying.specs.Certificates.{Certificate, IsKept, IsLeftOut, IsLike, IsCertified, AreRight, AreRefined, opening_rows}

-- an item that was looked up
pub found : {A : Type 0} (xs ys : List A) (k : ℕ) (x : A) → xs ≡ ys → (k < length xs) × ((d : A) → x ≡ get_or xs k d) →
    slice_get ys k ≡ Some x
found xs ys k x e w = ap (λ zs. slice_get zs k) (sym e) ∙ slice_get-get_or xs k x w.0 ∙ ap (λ z. Some z) (sym (w.1 x))

abbrev IsRight : Certificate → SuperstepCode → ℕ → Instr → Type 0
IsRight c short k i = IsKept c short k i ⊎ IsLeftOut c k i

-- one place more
pub one_right : (c : Certificate) (long short : SuperstepCode) (n : ℕ) (xs : List Instr) → xs ≡ long.instructions → n < length xs →
    AreRight c long short n → IsRight c short n (get_or xs n (Mark 0)) → AreRight c long short (n + 1)
one_right c long short n xs e w before now k i l is = ⊎_elim
    (λ low. before k i low is)
    (λ up.
    let same : k ≡ n = omega (arith, up, l) in
    let there : Some (get_or xs n (Mark 0)) ≡ Some i =
    sym (slice_get-get_or xs n (Mark 0) w) ∙ ap (λ ys. slice_get ys n) e ∙ ap (slice_get long.instructions) (sym same) ∙ is in
    subst (λ j. IsRight c short j i) (sym same) (subst (λ x. IsRight c short n x) (unsome (get_or xs n (Mark 0)) i there) now))
    (cases_lt k n)

-- all places
pub all_right : (c : Certificate) (long short : SuperstepCode) (n : ℕ) (xs : List Instr) → xs ≡ long.instructions → length xs ≤ n →
    IsLike long short → c.moved 0 ≡ 0 → AreRefined (c.at 0) (opening_rows c) → AreRight c long short n → IsCertified c long short
all_right c long short n xs e w like start opening right = record {
  header = like;
  start = start;
  opening = opening;
  each = λ k i is.
      let l : k < length long.instructions = slice_get_within long.instructions k i is in
      let m = ap length e in
      right k i (omega (arith, l, m, w)) is;
}
