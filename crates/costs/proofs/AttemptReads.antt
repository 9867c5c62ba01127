-- The shared reads and the write of an attempt that gives something are those of its expressions and its target.
use Rattle.std.proofs.Common.{◌≡◌, ℕ, ◌+◌, ℤ, pos, [], ◌∷◌, ◌++◌, Bool, true, false, Option, Some, None, Ok, Err, refl, subst}
use Rattle.std.proofs.Common.{arith}
use Rattle.std.specs.Prelude.{if◌then◌else◌, nat_lt}
use Rattle.pram_model.specs.Layout.{cell_of, width}
use Rattle.pram_values.specs.declared.kind.Kind.TheVariants.{TooWide}
use Rattle.pram_values.specs.Value.{Value}
use Rattle.pram_check.specs.Bounded.{reads, link_reads}
use Rattle.pram_names.specs.declared.body.Expression.{Expression, Number, Uniform, Index, Local, Cell, Element', Prefix', Chain'}
use Rattle.pram_names.specs.declared.body.Expression.{Row_of-Link, end_of-Link, more_of-Link}
use Rattle.pram_names.specs.declared.body.Target.{Target}
use Rattle.pram_names.specs.declared.body.Target.TheVariants as target
use Rattle.pram_names.specs.declared.body.StepTarget.{StepTarget}
use Rattle.pram_names.specs.declared.body.StepTarget.TheVariants as inner
use Rattle.pram_meaning.specs.Attempt.{Attempt, Gives, Fails, Trail, Effect, next, and_then, operation, read, attempt, attempt_links}
use Rattle.pram_meaning.specs.Attempt.{unwritten}
use Rattle.pram_meaning.specs.Attempt.{write, attempt_value, attempt_assign, attempt_step, attempt_bounds, attempt_range, ranged}
use Rattle.pram_meaning.specs.Operation.{operate, operate_before}
use Rattle.pram_meaning.specs.Store.{View}
use Rattle.plain_form.proofs.KeptReads.{reads_of}
use Rattle.exchange_bound.specs.Bound.{one_if}
use Rattle.exchange_bound.specs.Events as event
use Rattle.exchange_bound.specs.Events.{target_reads, step_target_reads, is_shared, is_step_shared}
use Rattle.costs.specs.Steps.{reads_on, writes_to}

-- so many reads are on its trail, where it gives something
abbrev pub Reads : {A : Type 0} → ℕ → Attempt A → Type 0
Reads n (Gives t a) = reads_on t ≡ n
Reads n (Fails t k) = Unit {0}

reads_behind : (t : Trail) (x : Option ℕ) → reads_on (t ++ x ∷ []) ≡ reads_on t + writes_to x
reads_behind [] None = omega arith
reads_behind [] (Some c) = omega arith
reads_behind (None ∷ t) x = reads_behind t x
reads_behind (Some c ∷ t) x = let h = reads_behind t x in omega (arith, h)

reads_next : (t : Trail) (n : ℕ) → reads_on t ≡ n → reads_on (next t) ≡ n
reads_next t n h = let e = reads_behind t None in omega (arith, e, h)

pub as_many : {A : Type 0} (n k : ℕ) (b : Attempt A) → n ≡ k → Reads n b → Reads k b
as_many n k b e h = subst (λ j. Reads j b) e h

then_reads : {A B : Type 0} (n k : ℕ) (b : Attempt A) (f : Trail → A → Attempt B) → Reads n b →
    ((t : Trail) (a : A) → reads_on t ≡ n → Reads k (f t a)) → Reads k (and_then b f)
then_reads n k (Gives t a) f h g = g t a h
then_reads n k (Fails t e) f h g = tt

operation_reads : (v : Value) (t : Trail) (n : ℕ) → reads_on t ≡ n → Reads n (operation v t)
operation_reads (Ok v) t n h = reads_next t n h
operation_reads (Err k) t n h = tt

read_reads : (s : View) (c : Option ℕ) (t : Trail) (n : ℕ) → reads_on t ≡ n → Reads (n + 1) (read s c t)
read_reads s (Some c) t n h = let e = reads_behind t (Some c) in omega (arith, e, h)
read_reads s None t n h = tt

module _ (s : View) where
  mutual
    pub attempt_reads : (e : Expression) (t : Trail) (n : ℕ) → reads_on t ≡ n → Reads (n + reads e) (attempt s e t)
    attempt_reads (Number x) t n h = omega (arith, h)
    attempt_reads (Uniform x) t n h = omega (arith, h)
    attempt_reads Index t n h = omega (arith, h)
    attempt_reads (Local x) t n h = omega (arith, h)
    attempt_reads (Cell a) t n h = read_reads s (cell_of s.layout a (pos 0)) t n h
    attempt_reads (Element' a b e) t n h =
        then_reads (n + reads e) (n + (1 + reads e)) (attempt s e t) (λ u z. read s (cell_of s.layout a z) u) (attempt_reads e t n h)
        (λ u z k. as_many (n + reads e + 1) (n + (1 + reads e)) (read s (cell_of s.layout a z) u) (omega arith)
        (read_reads s (cell_of s.layout a z) u (n + reads e) k))
    attempt_reads (Prefix' o b e) t n h =
        then_reads (n + reads e) (n + reads e) (attempt s e t) (λ u v. operation (operate_before o v) u) (attempt_reads e t n h)
        (λ u v k. operation_reads (operate_before o v) u (n + reads e) k)
    attempt_reads (Chain' b e q links) t n h =
        then_reads (n + reads e) (n + (reads e + link_reads links)) (attempt s e t) (attempt_links s links) (attempt_reads e t n h)
        (λ u v k. as_many (n + reads e + link_reads links) (n + (reads e + link_reads links)) (attempt_links s links u v) (omega arith)
        (links_reads links u v (n + reads e) k))

    links_reads : {m : _} (links : Row_of-Link m) (t : Trail) (v : ℤ) (n : ℕ) → reads_on t ≡ n →
        Reads (n + link_reads links) (attempt_links s links t v)
    links_reads end_of-Link t v n h = omega (arith, h)
    links_reads (more_of-Link o e links) t v n h =
        then_reads (n + reads e) (n + (reads e + link_reads links)) (attempt s e t)
        (λ u w. and_then (operation (operate o v w) u) (attempt_links s links)) (attempt_reads e t n h)
        (λ u w k. then_reads (n + reads e) (n + (reads e + link_reads links)) (operation (operate o v w) u) (attempt_links s links)
        (operation_reads (operate o v w) u (n + reads e) k)
        (λ x y j. as_many (n + reads e + link_reads links) (n + (reads e + link_reads links)) (attempt_links s links x y) (omega arith)
        (links_reads links x y (n + reads e) j)))

-- ---- statements

-- so many reads and writes
abbrev pub Makes : (r w : ℕ) → Attempt Effect → Type 0
Makes r w (Gives t g) = (reads_on t ≡ r) × (writes_to g.cell ≡ w)
Makes r w (Fails t k) = Unit {0}

then_makes : {A : Type 0} (n r w : ℕ) (b : Attempt A) (f : Trail → A → Attempt Effect) → Reads n b →
    ((t : Trail) (a : A) → reads_on t ≡ n → Makes r w (f t a)) → Makes r w (and_then b f)
then_makes n r w (Gives t a) f h g = g t a h
then_makes n r w (Fails t k) f h g = tt

write_makes : (c : Option ℕ) (t : Trail) (v : ℤ) (n r : ℕ) → n ≡ r → reads_on t ≡ n → Makes r 1 (write c t v)
write_makes (Some c) t v n r e h = (reads_next t r (omega (arith, e, h)), refl)
write_makes None t v n r e h = tt

module _ (s : View) where
  pub value_makes : (e : Expression) (r : ℕ) → event.reads e ≡ r → Makes r 0 (attempt_value s e)
  value_makes e r is =
      then_makes (0 + reads e) r 0 (attempt s e []) unwritten (attempt_reads s e [] 0 refl)
      (λ t v h. (let k = reads_of e in omega (arith, h, k, is), refl))

  -- a write of a value to a cell
  cell_makes : (c : Option ℕ) (e : Expression) → Makes (0 + event.reads e) 1 (and_then (attempt s e []) (write c))
  cell_makes c e =
      then_makes (0 + reads e) (0 + event.reads e) 1 (attempt s e []) (write c) (attempt_reads s e [] 0 refl)
      (λ t v h. write_makes c t v (0 + reads e) (0 + event.reads e) (let k = reads_of e in omega (arith, k)) h)

  element_makes : (f e : Expression) (c : ℤ → Option ℕ) → Makes (event.reads f + event.reads e) 1
      (and_then (attempt s f []) (λ t z. and_then (attempt s e t) (write (c z))))
  element_makes f e c =
      let r = event.reads f + event.reads e in
      then_makes (0 + reads f) r 1 (attempt s f []) (λ t z. and_then (attempt s e t) (write (c z))) (attempt_reads s f [] 0 refl)
      (λ t z h. then_makes (0 + reads f + reads e) r 1 (attempt s e t) (write (c z)) (attempt_reads s e t (0 + reads f) h)
      (λ u v k. write_makes (c z) u v (0 + reads f + reads e) r
      (let i = reads_of f in let j = reads_of e in omega (arith, i, j)) k))

  pub assign_makes : (x : Target) (e : Expression) → Makes (target_reads x + event.reads e) (one_if (is_shared x)) (attempt_assign s x e)
  assign_makes (target.Uniform x) e = value_makes e (0 + event.reads e) (omega arith)
  assign_makes (target.Cell a) e = cell_makes (cell_of s.layout a (pos 0)) e
  assign_makes (target.Element a f) e = element_makes f e (cell_of s.layout a)

  pub step_makes : (x : StepTarget) (e : Expression) →
      Makes (step_target_reads x + event.reads e) (one_if (is_step_shared x)) (attempt_step s x e)
  step_makes (inner.Local x) e = value_makes e (0 + event.reads e) (omega arith)
  step_makes (inner.Cell a) e = cell_makes (cell_of s.layout a (pos 0)) e
  step_makes (inner.Element a f) e = element_makes f e (cell_of s.layout a)

  pub test_reads : (e : Expression) → Reads (event.reads e) (attempt s e [])
  test_reads e =
      as_many (0 + reads e) (event.reads e) (attempt s e []) (let k = reads_of e in omega (arith, k)) (attempt_reads s e [] 0 refl)

  pub bounds_reads : (e f : Expression) → Reads (event.reads e + event.reads f) (attempt_bounds s e f)
  bounds_reads e f =
      let r = event.reads e + event.reads f in
      then_reads (0 + reads e) r (attempt s e []) (λ t a. and_then (attempt s f t) (λ t b. Gives t (a, b))) (attempt_reads s e [] 0 refl)
      (λ t a h. then_reads (0 + reads e + reads f) r (attempt s f t) (λ u b. Gives u (a, b)) (attempt_reads s f t (0 + reads e) h)
      (λ u b k. let i = reads_of e in let j = reads_of f in omega (arith, i, j, k)))

  ranged_reads : (procs : ℕ) (a : ℤ) (k : ℕ) (t : Trail) (n : ℕ) → reads_on t ≡ n → Reads n (ranged procs a k t)
  ranged_reads procs a k t n h = go (nat_lt procs k)
    where
      go : (b : Bool) → Reads n (let x : Attempt (ℤ × ℕ) = if b then Fails (next t) TooWide else Gives (next t) (a, k) in x)
      go true = tt
      go false = reads_next t n h

  pub range_reads : (procs : ℕ) (e f : Expression) → Reads (event.reads e + event.reads f) (attempt_range procs s e f)
  range_reads procs e f =
      let r = event.reads e + event.reads f in
      then_reads (0 + reads e) r (attempt s e []) (λ t a. and_then (attempt s f t) (λ t b. ranged procs a (width a b) t))
      (attempt_reads s e [] 0 refl)
      (λ t a h. then_reads (0 + reads e + reads f) r (attempt s f t) (λ u b. ranged procs a (width a b) u)
      (attempt_reads s f t (0 + reads e) h)
      (λ u b k. ranged_reads procs a (width a b) u r (let i = reads_of e in let j = reads_of f in omega (arith, i, j, k))))
