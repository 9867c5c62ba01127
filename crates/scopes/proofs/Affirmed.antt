-- What affirms, and which run fails.
use Rattle.std.proofs.Common.{◌≡◌, ◌≢◌, ◌↔◌, ℕ, zero, suc, ◌-◌, Bool, true, false, not, None, Some, ℤ, pos, negsuc, List, [], ◌∷◌, ◌++◌}
use Rattle.std.proofs.Common.{length, refl, ap, subst, sym, ◌∙◌, arith}
use Rattle.std.proofs.lemmas.Bool.{not-true}
use Rattle.std.specs.Prelude.{slice_get}
use Rattle.pram_check.specs.Checked.{Checked}
use Rattle.pram_meaning.specs.Outcome.{IsOutcome}
use Rattle.pram_meaning.proofs.OneOutcome.{outcome_is_computed}
use Rattle.pram_values.specs.Truth.{is_nonzero}
use Rattle.write_rules.specs.Verdict.{Verdict, Ended, Faulted, GoesOn}
use Rattle.scopes.specs.Handed.{handed_on}
use Rattle.scopes.specs.Runs.{verdict_on}
use Rattle.scopes.specs.Specified.{affirms, ends_nonzero, fails, is_failing, is_yes}
use Rattle.scopes.specs.Told.{HasFailed, IsAffirmed}

-- ---- the last number

pub by_last : (xs : List ℤ) (v : ℤ) → slice_get xs (length xs - 1) ≡ Some v → ends_nonzero xs ≡ is_nonzero v
by_last [] v at = absurd (let P : None ≡ Some v → ⊥ = λ h. cc in P at)
by_last (x ∷ []) v at =
    let first : length (x ∷ []) - 1 ≡ 0 = omega arith in
    let same : Some x ≡ Some v = ap (slice_get (x ∷ [])) (sym first) ∙ at in
    let is : x ≡ v = cc same in
    ap is_nonzero is
by_last (x ∷ (y ∷ ys)) v at =
    let last : suc (length (y ∷ ys) - 1) ≡ length (x ∷ (y ∷ ys)) - 1 = omega arith in
    by_last (y ∷ ys) v (ap (slice_get (x ∷ (y ∷ ys))) last ∙ at)

by_push : (xs : List ℤ) (v : ℤ) → ends_nonzero (xs ++ v ∷ []) ≡ is_nonzero v
by_push [] v = refl
by_push (x ∷ []) v = refl
by_push (x ∷ (y ∷ ys)) v = by_push (y ∷ ys) v

-- numbers whose last is one
record Ends (xs : List ℤ) : Type 0 where
  front : List ℤ
  last : ℤ
  all : xs ≡ front ++ last ∷ []
  nonzero : last ≢ pos 0

nonzero_from : (v : ℤ) → is_nonzero v ≡ true → v ≢ pos 0
nonzero_from v h = λ e. let P : false ≡ true → ⊥ = λ k. cc in P (ap is_nonzero (sym e) ∙ h)

nonzero_is : (v : ℤ) → v ≢ pos 0 → is_nonzero v ≡ true
nonzero_is (pos zero) h = absurd (h refl)
nonzero_is (pos (suc k)) h = refl
nonzero_is (negsuc k) h = refl

split : (xs : List ℤ) → ends_nonzero xs ≡ true → Ends xs
split [] h = absurd (let P : false ≡ true → ⊥ = λ k. cc in P h)
split (x ∷ []) h = record { front = []; last = x; all = refl; nonzero = nonzero_from x h }
split (x ∷ (y ∷ ys)) h =
    let e = split (y ∷ ys) h in
    record { front = x ∷ e.front; last = e.last; all = ap (λ (zs : List ℤ). x ∷ zs) e.all; nonzero = e.nonzero }

-- ---- what affirms

affirmed_by : (q : Checked) (n : ℕ) (input : List ℤ) (v : Verdict) → verdict_on q n input ≡ v → is_yes v ≡ true → IsAffirmed q n input
affirmed_by q n input (Ended output memory) e h =
    let s = split output h in
    record {
      printed = s.front;
      last = s.last;
      memory = memory;
      ends = subst (λ (o : List ℤ). IsOutcome q input n (Ended o memory)) s.all
          ((outcome_is_computed q input n (Ended output memory)).1 (sym e));
      nonzero = s.nonzero;
    }
affirmed_by q n input (Faulted fault output) e h = absurd (let P : false ≡ true → ⊥ = λ k. cc in P h)
affirmed_by q n input (GoesOn output) e h = absurd (let P : false ≡ true → ⊥ = λ k. cc in P h)

affirms_by : (q : Checked) (n : ℕ) (input : List ℤ) → IsAffirmed q n input → affirms q n input ≡ true
affirms_by q n input a =
    ap is_yes (sym ((outcome_is_computed q input n (Ended (a.printed ++ a.last ∷ []) a.memory)).0 a.ends))
    ∙ by_push a.printed a.last ∙ nonzero_is a.last a.nonzero

pub affirmed : (q : Checked) (n : ℕ) (input : List ℤ) → (affirms q n input ≡ true) ↔ IsAffirmed q n input
affirmed q n input = (λ h. affirmed_by q n input (verdict_on q n input) refl h, λ a. affirms_by q n input a)

-- ---- which run fails

other_of : (b : Bool) → (b ≡ true → ⊥) → b ≡ false
other_of true h = absurd (h refl)
other_of false h = refl

failed_by : (p q : Checked) (n : ℕ) (input : List ℤ) (v : Verdict) → verdict_on p n input ≡ v → is_failing (Some q) p n input v ≡ true →
    HasFailed p q n input
failed_by p q n input (Ended output left) e h =
    let handed = handed_on p q input left in
    let refused : affirms q n handed ≡ false = not-true (affirms q n handed) h in
    record {
      output = output;
      left = left;
      ends = (outcome_is_computed p input n (Ended output left)).1 (sym e);
      refused = λ a. let P : true ≡ false → ⊥ = λ k. cc in P (sym (affirms_by q n handed a) ∙ refused);
    }
failed_by p q n input (Faulted fault output) e h = absurd (let P : false ≡ true → ⊥ = λ k. cc in P h)
failed_by p q n input (GoesOn output) e h = absurd (let P : false ≡ true → ⊥ = λ k. cc in P h)

fails_by : (p q : Checked) (n : ℕ) (input : List ℤ) → HasFailed p q n input → fails (Some q) p n input ≡ true
fails_by p q n input f =
    let handed = handed_on p q input f.left in
    ap (is_failing (Some q) p n input) (sym ((outcome_is_computed p input n (Ended f.output f.left)).0 f.ends))
    ∙ ap not (other_of (affirms q n handed) (λ h. f.refused (affirmed_by q n handed (verdict_on q n handed) refl h)))

pub has_failed : (p q : Checked) (n : ℕ) (input : List ℤ) → (fails (Some q) p n input ≡ true) ↔ HasFailed p q n input
has_failed p q n input = (λ h. failed_by p q n input (verdict_on p n input) refl h, λ f. fails_by p q n input f)
