-- An attempt is the whole evaluation up to the first thing noted.
use Rattle.std.proofs.Common.{◌≡◌, ℕ, List, [], ◌∷◌, ◌++◌, Option, Some, None, Result, Ok, Err, Bool, true, false, ℤ, pos, refl, sym, ap}
use Rattle.std.proofs.Common.{◌∙◌, append-nil, arith}
use Rattle.std.specs.Prelude.{nat_lt, nat_le, if◌then◌else◌}
use Rattle.std.proofs.lemmas.Bool.Decides.{nat_tests}
use Rattle.pram_model.specs.Layout.{cell_of, width}
use Rattle.pram_values.specs.declared.kind.Kind.{Kind}
use Rattle.pram_values.specs.declared.kind.Kind.TheVariants.{TooWide}
use Rattle.pram_values.specs.Value.{Value}
use Rattle.pram_tokens.specs.declared.token.Binary.{Binary}
use Rattle.pram_names.specs.declared.body.Expression as body
use Rattle.pram_names.specs.declared.body.Expression.{Expression, Element', Prefix', Chain', Row_of-Link, end_of-Link, more_of-Link}
use Rattle.pram_names.specs.declared.body.Target.TheVariants as target
use Rattle.pram_names.specs.declared.body.StepTarget.TheVariants as inner
use Rattle.superstep_machine.specs.Results.{or_zero, kind_of, missing, range_width, or_empty}
use Rattle.pram_meaning.specs.Operation.{operate, operate_before}
use Rattle.pram_meaning.specs.Store.{View}
use Rattle.pram_meaning.specs.Attempt.{Attempt, Gives, Fails, Trail, Effect, next, and_then, operation, read, write, unwritten, ranged}
use Rattle.pram_meaning.specs.Attempt.{attempt, attempt_links}
use Rattle.pram_meaning.specs.Together.{parts}
use Rattle.statement_evaluation.specs.Attempts.{TestPartsAreCut, AssignmentPartsAreCut}
use Rattle.statement_evaluation.specs.Terms.{Term, Between, term_of, chained}
use Rattle.statement_evaluation.specs.Whole.{Step, testing, reading, fetched, value, steps, unless_noted, upto}
use Rattle.statement_evaluation.specs.Attempts.{ExpressionsAreWhole, ValuesAreWhole, AssignmentsAreWhole, InnerAssignmentsAreWhole}
use Rattle.statement_evaluation.specs.Attempts.{BoundsAreWhole}
use Rattle.statement_evaluation.specs.Attempts.{RangesAreWhole}

-- one behind the other: the second is asked for where the first gives its value
pub upto_then : {A B : Type 0} (t : Trail) (ss us : List Step) (x : A) (y : B) (f : Trail → A → Attempt B) →
    ((t : Trail) → f t x ≡ upto t us y) →
    and_then (upto t ss x) f ≡ upto t (ss ++ us) y
upto_then t [] us x y f h = h t
upto_then t (s ∷ ss) us x y f h = go s.note (upto_then (t ++ s.cell ∷ []) ss us x y f h)
  where
    go : (n : Option Kind) → and_then (upto (t ++ s.cell ∷ []) ss x) f ≡ upto (t ++ s.cell ∷ []) (ss ++ us) y →
        and_then (unless_noted n t (upto (t ++ s.cell ∷ []) ss x)) f ≡ unless_noted n t (upto (t ++ s.cell ∷ []) (ss ++ us) y)
    go None e = e
    go (Some k) e = refl

then_then : {A B C : Type 0} (a : Attempt A) (f : Trail → A → Attempt B) (g : Trail → B → Attempt C) →
    and_then (and_then a f) g ≡ and_then a (λ t x. and_then (f t x) g)
then_then (Gives t x) f g = refl
then_then (Fails t k) f g = refl

and_same : {A B : Type 0} (a : Attempt A) {f g : Trail → A → Attempt B} → ((t : Trail) (x : A) → f t x ≡ g t x) →
    and_then a f ≡ and_then a g
and_same (Gives t x) h = h t x
and_same (Fails t k) h = refl

-- ---- one position

operation_is : (r : Value) (t : Trail) → operation r t ≡ upto t (testing (kind_of r) ∷ []) (or_zero r)
operation_is (Ok v) t = refl
operation_is (Err k) t = refl

read_is : (s : View) (c : Option ℕ) (t : Trail) → read s c t ≡ upto t (reading c ∷ []) (fetched s c)
read_is s None t = refl
read_is s (Some c) t = refl

write_is : (c : Option ℕ) (t : Trail) (v : ℤ) → write c t v ≡ upto t (testing (missing c) ∷ []) (record { value = v; cell = c })
write_is None t v = refl
write_is (Some c) t v = refl

ranged_is : (procs : ℕ) (a b : ℤ) (t : Trail) → ranged procs a (width a b) t
    ≡ upto t (testing (kind_of (range_width procs a b)) ∷ []) (a, or_empty (range_width procs a b))
ranged_is procs a b t = go (nat_lt procs (width a b)) (nat_le (width a b) procs) refl refl
  where
    width_if : Bool → Result ℕ Kind
    width_if y = if y then Ok (width a b) else Err TooWide

    go : (x y : Bool) → nat_lt procs (width a b) ≡ x → nat_le (width a b) procs ≡ y →
        ◌≡◌ {A = Attempt (ℤ × ℕ)} (if◌then◌else◌ {A = Attempt (ℤ × ℕ)} x (Fails (next t) TooWide) (Gives (next t) (a, width a b)))
        (upto t (testing (kind_of (width_if y)) ∷ []) (a, or_empty (width_if y)))
    go true true e f = absurd (grind (arith, nat_tests, e, f))
    go true false e f = refl
    go false true e f = refl
    go false false e f = absurd (grind (arith, nat_tests, e, f))

-- ---- expressions

-- the next operand, and its operation
abbrev linked : View → Binary → Expression → Trail → ℤ → Attempt ℤ
linked s o e t v = and_then (attempt s e t) (λ t w. operation (operate o v w) t)

mutual
  pub whole_expression : (s : View) (e : Expression) (t : Trail) → attempt s e t ≡ upto t (steps s (term_of e)) (value s (term_of e))
  whole_expression s (body.Number n) t = refl
  whole_expression s (body.Uniform x) t = refl
  whole_expression s body.Index t = refl
  whole_expression s (body.Local x) t = refl
  whole_expression s (body.Cell a) t = read_is s (cell_of s.layout a (pos 0)) t
  whole_expression s (Element' a b e) t =
      let z = value s (term_of e) in
      let c = cell_of s.layout a z in
      ap (λ x. and_then x (λ t z. read s (cell_of s.layout a z) t)) (whole_expression s e t)
      ∙ upto_then t (steps s (term_of e)) (reading c ∷ []) z (fetched s c) (λ t z. read s (cell_of s.layout a z) t) (read_is s c)
  whole_expression s (Prefix' o b e) t =
      let v = value s (term_of e) in
      let r = operate_before o v in
      ap (λ x. and_then x (λ t v. operation (operate_before o v) t)) (whole_expression s e t)
      ∙ upto_then t (steps s (term_of e)) (testing (kind_of r) ∷ []) v (or_zero r) (λ t v. operation (operate_before o v) t)
      (operation_is r)
  whole_expression s (Chain' b e q links) t =
      ap (λ x. and_then x (attempt_links s links)) (whole_expression s e t) ∙ whole_links s links (term_of e) t

  -- a term, and the operands behind it
  whole_links : (s : View) {n : _} (links : Row_of-Link n) (u : Term) (t : Trail) →
      and_then (upto t (steps s u) (value s u)) (attempt_links s links) ≡ upto t (steps s (chained u links)) (value s (chained u links))
  whole_links s end_of-Link u t =
      upto_then t (steps s u) [] (value s u) (value s u) (λ t v. Gives t v) (λ t. refl)
      ∙ ap (λ ss. upto t ss (value s u)) (append-nil (steps s u))
  whole_links s (more_of-Link o e links) u t =
      let v = value s u in
      let w = value s (term_of e) in
      let r = operate o v w in
      let one : (t : Trail) → linked s o e t v ≡ upto t (steps s (term_of e) ++ testing (kind_of r) ∷ []) (or_zero r) = λ t.
      ap (λ x. and_then x (λ t w. operation (operate o v w) t)) (whole_expression s e t)
      ∙ upto_then t (steps s (term_of e)) (testing (kind_of r) ∷ []) w (or_zero r) (λ t w. operation (operate o v w) t) (operation_is r) in
      and_same (upto t (steps s u) v) (λ t v. sym (then_then (attempt s e t) (λ t w. operation (operate o v w) t) (attempt_links s links)))
      ∙ sym (then_then (upto t (steps s u) v) (linked s o e) (attempt_links s links))
      ∙ ap (λ x. and_then x (attempt_links s links)) (upto_then t (steps s u) (steps s (term_of e) ++ testing (kind_of r) ∷ []) v
      (or_zero r) (linked s o e) one)
      ∙ whole_links s links (Between o u (term_of e)) t

-- ---- statements

-- an expression, then what follows it
behind : {B : Type 0} (s : View) (e : Expression) (t : Trail) (us : List Step) (y : B) (f : Trail → ℤ → Attempt B) →
    ((t : Trail) → f t (value s (term_of e)) ≡ upto t us y) → and_then (attempt s e t) f ≡ upto t (steps s (term_of e) ++ us) y
behind s e t us y f h = ap (λ x. and_then x f) (whole_expression s e t) ∙ upto_then t (steps s (term_of e)) us (value s (term_of e)) y f h

value_of : (s : View) (e : Expression) → and_then (attempt s e []) unwritten
    ≡ upto [] (steps s (term_of e)) (record { value = value s (term_of e); cell = None })
value_of s e =
    let g : Effect = record { value = value s (term_of e); cell = None } in
    behind s e [] [] g unwritten (λ t. refl) ∙ ap (λ ss. upto [] ss g) (append-nil (steps s (term_of e)))

cell_written : (s : View) (a : ℕ) (e : Expression) → and_then (attempt s e []) (write (cell_of s.layout a (pos 0)))
    ≡ upto [] (steps s (term_of e) ++ testing (missing (cell_of s.layout a (pos 0))) ∷ [])
    (record { value = value s (term_of e); cell = cell_of s.layout a (pos 0) })
cell_written s a e =
    let c = cell_of s.layout a (pos 0) in
    let v = value s (term_of e) in
    behind s e [] (testing (missing c) ∷ []) (record { value = v; cell = c }) (write c) (λ t. write_is c t v)

element_written : (s : View) (a : ℕ) (f e : Expression) →
    and_then (attempt s f []) (λ t z. and_then (attempt s e t) (write (cell_of s.layout a z)))
    ≡ upto [] (steps s (term_of f) ++ (steps s (term_of e) ++ testing (missing (cell_of s.layout a (value s (term_of f)))) ∷ []))
    (record { value = value s (term_of e); cell = cell_of s.layout a (value s (term_of f)) })
element_written s a f e =
    let c = cell_of s.layout a (value s (term_of f)) in
    let v = value s (term_of e) in
    let g : Effect = record { value = v; cell = c } in
    behind s f [] (steps s (term_of e) ++ testing (missing c) ∷ []) g (λ t z. and_then (attempt s e t) (write (cell_of s.layout a z)))
    (λ t. behind s e t (testing (missing c) ∷ []) g (write c) (λ t. write_is c t v))

pub whole_expressions : ExpressionsAreWhole
whole_expressions s e t = whole_expression s e t

pub whole_values : ValuesAreWhole
whole_values s e = value_of s e

pub whole_assignments : AssignmentsAreWhole
whole_assignments s (target.Uniform x) e = value_of s e
whole_assignments s (target.Cell a) e = cell_written s a e
whole_assignments s (target.Element a f) e = element_written s a f e

pub whole_inner_assignments : InnerAssignmentsAreWhole
whole_inner_assignments s (inner.Local x) e = value_of s e
whole_inner_assignments s (inner.Cell a) e = cell_written s a e
whole_inner_assignments s (inner.Element a f) e = element_written s a f e

pub whole_bounds_of : BoundsAreWhole
whole_bounds_of s e f =
    let a = value s (term_of e) in
    let b = value s (term_of f) in
    behind s e [] (steps s (term_of f)) (a, b) (λ t a. and_then (attempt s f t) (λ t b. Gives t (a, b)))
    (λ t. behind s f t [] (a, b) (λ t b. Gives t (a, b)) (λ t. refl) ∙ ap (λ ss. upto t ss (a, b)) (append-nil (steps s (term_of f))))

pub whole_ranges : RangesAreWhole
whole_ranges procs s e f =
    let a = value s (term_of e) in
    let b = value s (term_of f) in
    let k = range_width procs a b in
    behind s e [] (steps s (term_of f) ++ testing (kind_of k) ∷ []) (a, or_empty k)
    (λ t a. and_then (attempt s f t) (λ t b. ranged procs a (width a b) t))
    (λ t. behind s f t (testing (kind_of k) ∷ []) (a, or_empty k) (λ t b. ranged procs a (width a b) t) (ranged_is procs a b))

-- ---- on a set of processors

pub test_parts : TestPartsAreCut
test_parts p m e vs = ap (λ a. parts p m a vs) (λ i s. whole_values s e i)

pub assignment_parts : AssignmentPartsAreCut
assignment_parts p m x e vs = ap (λ a. parts p m a vs) (λ i s. whole_inner_assignments s x e i)
