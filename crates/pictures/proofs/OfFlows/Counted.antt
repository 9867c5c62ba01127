-- How many cells are read along the trails of attempts.
use Rattle.std.proofs.Common.{◌≡◌, ℕ, ◌+◌, [], ◌∷◌, ◌++◌, length, length-append, Bool, true, false, Ok, Err, Option, Some, None, ℤ, pos}
use Rattle.std.proofs.Common.{refl, ap, arith}
use Rattle.pram_model.specs.Layout.{cell_of}
use Rattle.pram_values.specs.Value.{Value}
use Rattle.pram_names.specs.declared.body.Expression.{Expression, Number, Uniform, Index, Local, Cell, Element', Prefix', Chain'}
use Rattle.pram_names.specs.declared.body.Expression.{Row_of-Link, end_of-Link, more_of-Link}
use Rattle.pram_names.specs.declared.body.Target.TheVariants as target
use Rattle.pram_names.specs.declared.body.StepTarget.TheVariants as step
use Rattle.pram_meaning.specs.Operation.{operate, operate_before}
use Rattle.pram_meaning.specs.Store.{View}
use Rattle.pram_meaning.specs.Attempt.{Attempt, Effect, Gives, Fails, Trail, and_then, attempt, attempt_links, attempt_value, operation}
use Rattle.pram_meaning.specs.Attempt.{read}
use Rattle.pram_meaning.specs.Attempt.{unwritten, write}
use Rattle.pictures.specs.Flows.Subscripts.{asides, row_asides}
use Rattle.pictures.specs.Flows.Told.{EachOfAssignments, EachOfBounds, EachOfExpressions, EachOfSteps, reads_in}

-- ---- trails

passed : (t : Trail) → reads_in (t ++ None ∷ []) ≡ reads_in t
passed [] = refl
passed (None ∷ t) = passed t
passed (Some c ∷ t) = ap (λ n. 1 + n) (passed t)

one_more : (c : ℕ) (t : Trail) → reads_in (t ++ Some c ∷ []) ≡ reads_in t + 1
one_more c [] = refl
one_more c (None ∷ t) = one_more c t
one_more c (Some d ∷ t) = let h = one_more c t in omega (arith, h)

-- ---- attempts

module _ {A : Type 0} where
  abbrev trail : Attempt A → Trail
  trail (Gives t a) = t
  trail (Fails t k) = t

  at_its_end : (t u : Trail) (a b : A) → Gives t a ≡ Gives u b → reads_in t ≡ reads_in u
  at_its_end t u a b h = ap (λ x. reads_in (trail x)) h

by_both : {A B C : Type 0} (a : Attempt A) (f : Trail → A → Attempt B) (u : Trail) (v : B) → and_then a f ≡ Gives u v →
    ((t : Trail) (x : A) → a ≡ Gives t x → f t x ≡ Gives u v → C) → C
by_both (Gives t x) f u v h k = k t x refl h
by_both (Fails t x) f u v h k = cc

of_read : (s : View) (o : Option ℕ) (t u : Trail) (v : ℤ) → read s o t ≡ Gives u v → reads_in u ≡ reads_in t + 1
of_read s (Some c) t u v h = let e = at_its_end _ _ _ _ h in let m = one_more c t in omega (arith, e, m)
of_read s None t u v h = cc

of_operation : (x : Value) (t u : Trail) (v : ℤ) → operation x t ≡ Gives u v → reads_in u ≡ reads_in t
of_operation (Ok w) t u v h = let e = at_its_end _ _ _ _ h in let m = passed t in omega (arith, e, m)
of_operation (Err k) t u v h = cc

of_write : (o : Option ℕ) (t u : Trail) (z : ℤ) (v : Effect) → write o t z ≡ Gives u v → reads_in u ≡ reads_in t
of_write (Some c) t u z v h = let e = at_its_end _ _ _ _ h in let m = passed t in omega (arith, e, m)
of_write None t u z v h = cc

-- ---- expressions

mutual
  counted : (s : View) (inside : Bool) (e : Expression) (t u : Trail) (v : ℤ) → attempt s e t ≡ Gives u v →
      reads_in u ≡ reads_in t + length (asides inside e)
  counted s inside (Number n) t u v h = let e = at_its_end _ _ _ _ h in omega (arith, e)
  counted s inside (Uniform x) t u v h = let e = at_its_end _ _ _ _ h in omega (arith, e)
  counted s inside Index t u v h = let e = at_its_end _ _ _ _ h in omega (arith, e)
  counted s inside (Local x) t u v h = let e = at_its_end _ _ _ _ h in omega (arith, e)
  counted s inside (Cell a) t u v h = of_read s (cell_of s.layout a (pos 0)) t u v h
  counted s inside (Element' a b e) t u v h =
      by_both (attempt s e t) (λ t z. read s (cell_of s.layout a z) t) u v h (λ m z first second.
      let p = counted s true e t m z first in
      let q = of_read s (cell_of s.layout a z) m u v second in
      let l = length-append (asides true e) (inside ∷ []) in
      omega (arith, p, q, l))
  counted s inside (Prefix' o b e) t u v h =
      by_both (attempt s e t) (λ t v. operation (operate_before o v) t) u v h (λ m z first second.
      let p = counted s inside e t m z first in
      let q = of_operation (operate_before o z) m u v second in
      omega (arith, p, q))
  counted s inside (Chain' b e q links) t u v h =
      by_both (attempt s e t) (attempt_links s links) u v h (λ m z first second.
      let p = counted s inside e t m z first in
      let r = counted_row s inside links m u z v second in
      let l = length-append (asides inside e) (row_asides inside links) in
      omega (arith, p, r, l))

  counted_row : (s : View) (inside : Bool) {n : _} (links : Row_of-Link n) (t u : Trail) (z v : ℤ) → attempt_links s links t z ≡ Gives u v →
      reads_in u ≡ reads_in t + length (row_asides inside links)
  counted_row s inside end_of-Link t u z v h = let e = at_its_end _ _ _ _ h in omega (arith, e)
  counted_row s inside (more_of-Link o e links) t u z v h =
      by_both (attempt s e t) (λ t w. and_then (operation (operate o z w) t) (attempt_links s links)) u v h (λ m w first others.
      by_both (operation (operate o z w) m) (attempt_links s links) u v others (λ k x second third.
      let p = counted s inside e t m w first in
      let q = of_operation (operate o z w) m k x second in
      let r = counted_row s inside links k u x v third in
      let l = length-append (asides inside e) (row_asides inside links) in
      omega (arith, p, q, r, l)))

pub each_of_expressions : EachOfExpressions
each_of_expressions = counted

-- ---- statements

pub each_of_bounds : EachOfBounds
each_of_bounds s e f u v h =
    by_both (attempt s e []) (λ t a. and_then (attempt s f t) (λ t b. Gives t (a, b))) u v h (λ m a first others.
    by_both (attempt s f m) (λ t b. Gives t (a, b)) u v others (λ k b second third.
    let p = counted s false e [] m a first in
    let q = counted s false f m k b second in
    let r = at_its_end _ _ _ _ third in
    let l = length-append (asides false e) (asides false f) in
    omega (arith, p, q, r, l)))

of_value : (s : View) (e : Expression) (u : Trail) (v : Effect) → attempt_value s e ≡ Gives u v → reads_in u ≡ length (asides false e)
of_value s e u v h = by_both (attempt s e []) unwritten u v h (λ m z first second.
    let p = counted s false e [] m z first in
    let q = at_its_end _ _ _ _ second in
    omega (arith, p, q))

of_cell : (s : View) (c : Option ℕ) (e : Expression) (u : Trail) (v : Effect) → and_then (attempt s e []) (write c) ≡ Gives u v →
    reads_in u ≡ length (asides false e)
of_cell s c e u v h = by_both (attempt s e []) (write c) u v h (λ m z first second.
    let p = counted s false e [] m z first in
    let q = of_write c m u z v second in
    omega (arith, p, q))

of_element : (s : View) (a : ℕ) (f e : Expression) (u : Trail) (v : Effect) →
    and_then (attempt s f []) (λ t z. and_then (attempt s e t) (write (cell_of s.layout a z))) ≡ Gives u v →
    reads_in u ≡ length (asides true f ++ asides false e)
of_element s a f e u v h =
    by_both (attempt s f []) (λ t z. and_then (attempt s e t) (write (cell_of s.layout a z))) u v h (λ m z first others.
    by_both (attempt s e m) (write (cell_of s.layout a z)) u v others (λ k w second third.
    let p = counted s true f [] m z first in
    let q = counted s false e m k w second in
    let r = of_write (cell_of s.layout a z) k u w v third in
    let l = length-append (asides true f) (asides false e) in
    omega (arith, p, q, r, l)))

pub each_of_assignments : EachOfAssignments
each_of_assignments s (target.Uniform x) e u v h = of_value s e u v h
each_of_assignments s (target.Cell a) e u v h = of_cell s (cell_of s.layout a (pos 0)) e u v h
each_of_assignments s (target.Element a f) e u v h = of_element s a f e u v h

pub each_of_steps : EachOfSteps
each_of_steps s (step.Local x) e u v h = of_value s e u v h
each_of_steps s (step.Cell a) e u v h = of_cell s (cell_of s.layout a (pos 0)) e u v h
each_of_steps s (step.Element a f) e u v h = of_element s a f e u v h
