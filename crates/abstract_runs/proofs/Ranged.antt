-- The bounds of a pardo, from what is known of them.
use Rattle.std.proofs.Common.{◌≡◌, ℕ, ◌<◌, ◌≤◌, ℤ, ◌∷◌, ◌++◌, [], length, Option, None, MatchOption, nat_lt, true, false, subst, arith}
use Rattle.pram_model.specs.Layout.{width}
use Rattle.pram_values.specs.declared.kind.Kind.TheVariants.{TooWide}
use Rattle.pram_names.specs.declared.body.Expression.{Expression}
use Rattle.pram_meaning.specs.Attempt.{Attempt, Gives, Fails, Trail, and_then, attempt, attempt_bounds, attempt_range, ranged}
use Rattle.pram_meaning.specs.Store.{View}
use Rattle.abstract_runs.specs.declared.findings.Findings.{Findings}
use Rattle.abstract_runs.specs.Finding.{MayBy, AreKept}
use Rattle.abstract_runs.specs.Tried.{GoesThrough, IsTried, IsLonger}
use Rattle.abstract_runs.proofs.Trails.{Reaches, ends_last, ends_longer, may_last, through_next}

pub none_is : {A : Type 0} (B : ℕ → Type 0) (o : Option ℕ) → o ≡ None → MatchOption o A B → A
none_is {A} B o e h = subst (λ o. MatchOption o A B) e h

pub wide_tried : (Q : ℤ × ℕ → Type 0) (procs k : ℕ) (a : ℤ) (rs more : Reaches) (faults : Findings) (t : Trail) → procs < k →
    more ≡ rs ++ None ∷ [] → MayBy TooWide (length more) faults → GoesThrough rs t → IsTried Q more faults (ranged procs a k t)
wide_tried Q procs k a rs more faults t wide m may g =
    let e : nat_lt procs k ≡ true = grind (arith, wide) in rw e
    (ends_last rs more t None None g tt m, may_last TooWide faults rs more t None None g m may)

pub narrow_tried : (Q : ℤ × ℕ → Type 0) (procs k : ℕ) (a : ℤ) (rs more : Reaches) (faults : Findings) (t : Trail) → k ≤ procs →
    more ≡ rs ++ None ∷ [] → Q (a, k) → GoesThrough rs t → IsTried Q more faults (ranged procs a k t)
narrow_tried Q procs k a rs more faults t narrow m q g =
    let e : nat_lt procs k ≡ false = grind (arith, narrow) in rw e (q, through_next rs more t None None g tt tt m)

-- both bounds, and then how many there are
module _ (P : ℤ × ℤ → Type 0) (Q : ℤ × ℕ → Type 0) (procs : ℕ) (mid end : Reaches) (some all : Findings) (longer : IsLonger mid end)
    (kept : AreKept some all)
    (next : (t : Trail) (r : ℤ × ℤ) → P r → GoesThrough mid t → IsTried Q end all (ranged procs r.0 (width r.0 r.1) t)) where
  second : (x : ℤ) (b : Attempt ℤ) → IsTried P mid some (and_then b (λ t y. Gives t (x, y))) →
      IsTried Q end all (and_then b (λ t y. ranged procs x (width x y) t))
  second x (Gives t y) h = next t (x, y) h.0 h.1
  second x (Fails t kind) h = (ends_longer mid end t longer h.0, kept kind (length t) h.1)

  from_first : (a : Attempt ℤ) (b : Trail → Attempt ℤ) → IsTried P mid some (and_then a (λ t x. and_then (b t) (λ t y. Gives t (x, y)))) →
      IsTried Q end all (and_then a (λ t x. and_then (b t) (λ t y. ranged procs x (width x y) t)))
  from_first (Gives t x) b h = second x (b t) h
  from_first (Fails t kind) b h = (ends_longer mid end t longer h.0, kept kind (length t) h.1)

  pub range_tried : (s : View) (e f : Expression) → IsTried P mid some (attempt_bounds s e f) →
      IsTried Q end all (attempt_range procs s e f)
  range_tried s e f h = from_first (attempt s e []) (attempt s f) h

pub counted_is : {x y : ℤ} {a b : ℕ} → x ≡ y → a ≡ b → ◌≡◌ {A = ℤ × ℕ} (x, a) (y, b)
counted_is e f = λ i. (e i, f i)
