-- The notes of all positions are the notes of the steps.
use Rattle.std.proofs.Common.{◌≡◌, ℕ, ◌+◌, List, [], ◌∷◌, ◌++◌, length, length-append, refl, sym, ap, ◌∙◌, arith}
use Rattle.superstep_machine.proofs.KeyOrder.{none_least, keys_are_monoid}
use Rattle.pram_values.specs.declared.place.Place.{Place}
use Rattle.superstep_machine.specs.Keys.{least}
use Rattle.superstep_machine.specs.Results.{kind_of}
use Rattle.pram_meaning.specs.Operation.{operate}
use Rattle.pram_meaning.specs.Store.{View}
use Rattle.statement_evaluation.specs.Whole.{Step, testing, value}
use Rattle.statement_evaluation.specs.Noted.{Heading, note_key, notes_behind}
use Rattle.plain_form.specs.Formulas.{Formula, Zero, Number, Variable, Index, Local, Read, Before, Between, Pair, positions}
use Rattle.compiled_formulas.specs.Terms.{term, steps_in}
use Rattle.compiled_formulas.proofs.Levels.{all_of}
use Rattle.compiled_formulas.proofs.RegionValues.{own_key_at}
use Rattle.statement_evaluation.proofs.Tasks.{one_more}

pub length_steps : (s : View) (f : Formula) → length (steps_in s f) ≡ positions f
length_steps s Zero = refl
length_steps s (Number z) = refl
length_steps s (Variable x) = refl
length_steps s Index = refl
length_steps s (Local x) = refl
length_steps s (Read a f) = one_more (steps_in s f) _ (positions f) (length_steps s f)
length_steps s (Before o f) = one_more (steps_in s f) _ (positions f) (length_steps s f)
length_steps s (Between o f g) =
    let x : Step = testing (kind_of (operate o (value s (term f)) (value s (term g)))) in
    let a = length-append (steps_in s f) (steps_in s g ++ x ∷ []) in
    let b = one_more (steps_in s g) x (positions g) (length_steps s g) in
    let c = length_steps s f in omega (arith, a, b, c)
length_steps s (Pair f g) =
    let a = length-append (steps_in s f) (steps_in s g) in
    let b = length_steps s f in
    let c = length_steps s g in omega (arith, a, b, c)

module _ (h : Heading) (at : Place) where
  notes_join : (xs ys : List Step) (q : ℕ) →
      notes_behind h q at (xs ++ ys) ≡ least (notes_behind h q at xs) (notes_behind h (q + length xs) at ys)
  notes_join [] ys q = ap (λ k. notes_behind h k at ys) (let e : q ≡ q + 0 = omega arith in e)
  notes_join (x ∷ xs) ys q =
      ap (least (note_key h (q + 1) at x.note)) (notes_join xs ys (q + 1))
      ∙ sym (keys_are_monoid.associative (note_key h (q + 1) at x.note) (notes_behind h (q + 1) at xs)
      (notes_behind h (q + 1 + length xs) at ys))
      ∙ ap (λ k. least (notes_behind h q at (x ∷ xs)) (notes_behind h k at ys))
      (let e : q + 1 + length xs ≡ q + length (x ∷ xs) = omega arith in e)

  behind : (xs ys : List Step) (q n : ℕ) → length xs ≡ n →
      notes_behind h q at (xs ++ ys) ≡ least (notes_behind h q at xs) (notes_behind h (q + n) at ys)
  behind xs ys q n e = notes_join xs ys q ∙ ap (λ k. least (notes_behind h q at xs) (notes_behind h (q + k) at ys)) e

  pub with_last : (xs : List Step) (x : Step) (q n : ℕ) → length xs ≡ n →
      notes_behind h q at (xs ++ x ∷ []) ≡ least (notes_behind h q at xs) (note_key h (q + n + 1) at x.note)
  with_last xs x q n e =
      behind xs (x ∷ []) q n e ∙ ap (least (notes_behind h q at xs)) (none_least (note_key h (q + n + 1) at x.note))

  pub all_notes : (s : View) (f : Formula) (q : ℕ) → all_of (own_key_at h at s) f q ≡ notes_behind h q at (steps_in s f)
  all_notes s Zero q = refl
  all_notes s (Number z) q = refl
  all_notes s (Variable x) q = refl
  all_notes s Index q = refl
  all_notes s (Local x) q = refl
  all_notes s (Read a f) q =
      ap (λ k. least k (own_key_at h at s (q + positions f + 1) (Read a f))) (all_notes s f q)
      ∙ sym (with_last (steps_in s f) _ q (positions f) (length_steps s f))
  all_notes s (Before o f) q =
      ap (λ k. least k (own_key_at h at s (q + positions f + 1) (Before o f))) (all_notes s f q)
      ∙ sym (with_last (steps_in s f) _ q (positions f) (length_steps s f))
  all_notes s (Between o f g) q =
      let p = q + positions f in
      let k = own_key_at h at s (q + positions f + positions g + 1) (Between o f g) in
      (λ i. least (all_notes s f q i) (least (all_notes s g p i) k))
      ∙ ap (least (notes_behind h q at (steps_in s f))) (sym (with_last (steps_in s g) _ p (positions g) (length_steps s g)))
      ∙ sym (behind (steps_in s f) _ q (positions f) (length_steps s f))
  all_notes s (Pair f g) q =
      (λ i. least (all_notes s f q i) (all_notes s g (q + positions f) i))
      ∙ sym (behind (steps_in s f) (steps_in s g) q (positions f) (length_steps s f))
