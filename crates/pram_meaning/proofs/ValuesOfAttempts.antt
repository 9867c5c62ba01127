-- What an attempt gives are values of 64 bits, where what the processor sees are.
use Rattle.std.proofs.Common.{ℕ, [], Bool, true, false, Ok, Err, ℤ, pos}
use Rattle.std.proofs.Common.{if◌then◌else◌}
use Rattle.std.proofs.Common.{Option, Some, None, nat_lt}
use Rattle.pram_model.specs.Layout.{cell_of, width}
use Rattle.pram_check.specs.Bounded.{AreNamed, IsAssign}
use Rattle.pram_check.specs.Bounded.{IsInnerAssign, IsNamed, Names}
use Rattle.pram_names.specs.declared.body.Expression.{Expression, Number, Uniform, Index, Local, Cell, Element', Prefix', Chain'}
use Rattle.pram_names.specs.declared.body.Expression.{Row_of-Link, end_of-Link, more_of-Link}
use Rattle.pram_names.specs.declared.body.StepTarget.{StepTarget}
use Rattle.pram_names.specs.declared.body.StepTarget.TheVariants as inner
use Rattle.pram_names.specs.declared.body.Target.{Target}
use Rattle.pram_names.specs.declared.body.Target.TheVariants as target
use Rattle.pram_values.specs.declared.kind.Kind.TheVariants as toowide
use Rattle.pram_values.specs.Value.{Value}
use Rattle.pram_meaning.specs.Attempt.{Attempt, Effect, Fails, Gives, Trail, and_then, attempt, attempt_assign, attempt_bounds}
use Rattle.pram_meaning.specs.Attempt.{attempt_links, attempt_range, attempt_step, attempt_value, next, operation, ranged, read, unwritten}
use Rattle.pram_meaning.specs.Attempt.{write}
use Rattle.pram_meaning.specs.Operation.{operate, operate_before}
use Rattle.pram_meaning.specs.Store.{View}
use Rattle.pram_meaning.specs.Values.{AreValues, IsValue}
use Rattle.pram_meaning.proofs.SoundValues.{AreNumbers, IsSound, before_sound, number_is}
use Rattle.pram_meaning.proofs.SoundValues.{operate_sound, value_at, width_values}

-- what an attempt gives, if it doesn't fail
abbrev pub IfGives : {A : Type 0} → (A → Type 0) → Attempt A → Type 0
IfGives P (Gives t a) = P a
IfGives P (Fails t k) = Unit {0}

pub gives_then : {A B : Type 0} (P : A → Type 0) (Q : B → Type 0) (a : Attempt A) (f : Trail → A → Attempt B) → IfGives P a →
    ((t : Trail) (x : A) → P x → IfGives Q (f t x)) → IfGives Q (and_then a f)
gives_then P Q (Gives t a) f h g = g t a h
gives_then P Q (Fails t k) f h g = tt

-- what a processor sees
pub record SeesValues (s : View) : Type 0 where
  pub uniforms : AreValues s.uniforms
  pub cells : AreValues s.cells
  pub index : IsValue s.index
  pub locals : AreValues s.locals

pub operation_gives : (v : Value) (t : Trail) → IsSound v → IfGives IsValue (operation v t)
operation_gives (Ok v) t h = h
operation_gives (Err k) t h = tt

pub read_gives : (s : View) (c : Option ℕ) (t : Trail) → SeesValues s → IfGives IsValue (read s c t)
read_gives s (Some c) t h = value_at s.cells c h.cells
read_gives s None t h = tt

module _ (names : Names) (s : View) (sees : SeesValues s) where
  mutual
    pub attempt_gives : (e : Expression) → IsNamed names e → (t : Trail) → IfGives IsValue (attempt s e t)
    attempt_gives (Number n) h t = number_is n h
    attempt_gives (Uniform x) h t = value_at s.uniforms x sees.uniforms
    attempt_gives Index h t = sees.index
    attempt_gives (Local x) h t = value_at s.locals x sees.locals
    attempt_gives (Cell a) h t = read_gives s (cell_of s.layout a (pos 0)) t sees
    attempt_gives (Element' a b e) h t =
        gives_then IsValue IsValue (attempt s e t) (λ t z. read s (cell_of s.layout a z) t) (attempt_gives e h.1 t)
        (λ t z g. read_gives s (cell_of s.layout a z) t sees)
    attempt_gives (Prefix' o b e) h t =
        gives_then IsValue IsValue (attempt s e t) (λ t v. operation (operate_before o v) t) (attempt_gives e h t)
        (λ t v g. operation_gives (operate_before o v) t (before_sound o v))
    attempt_gives (Chain' b e q links) h t =
        gives_then IsValue IsValue (attempt s e t) (attempt_links s links) (attempt_gives e h.0 t) (λ t v g. links_give links h.1 t v g)

    pub links_give : {n : _} (links : Row_of-Link n) → AreNamed names links → (t : Trail) (v : ℤ) → IsValue v →
        IfGives IsValue (attempt_links s links t v)
    links_give end_of-Link h t v g = g
    links_give (more_of-Link o e links) h t v g =
        gives_then IsValue IsValue (attempt s e t) (λ t w. and_then (operation (operate o v w) t) (attempt_links s links))
        (attempt_gives e h.0 t)
        (λ t w i. gives_then IsValue IsValue (operation (operate o v w) t) (attempt_links s links)
        (operation_gives (operate o v w) t (operate_sound o v w i)) (λ t u j. links_give links h.1 t u j))

  abbrev pub IsEffect : Effect → Type 0
  IsEffect g = IsValue g.value

  pub write_gives : (c : Option ℕ) (t : Trail) (v : ℤ) → IsValue v → IfGives IsEffect (write c t v)
  write_gives (Some c) t v h = h
  write_gives None t v h = tt

  pub value_gives : (e : Expression) → IsNamed names e → IfGives IsEffect (attempt_value s e)
  value_gives e h = gives_then IsValue IsEffect (attempt s e []) unwritten (attempt_gives e h []) (λ t v g. g)

  pub cell_gives : (c : Option ℕ) (e : Expression) → IsNamed names e → IfGives IsEffect (and_then (attempt s e []) (write c))
  cell_gives c e h = gives_then IsValue IsEffect (attempt s e []) (write c) (attempt_gives e h []) (λ t v g. write_gives c t v g)

  pub element_gives : (a : ℕ) (f e : Expression) → IsNamed names f → IsNamed names e →
      IfGives IsEffect (and_then (attempt s f []) (λ t z. and_then (attempt s e t) (write (cell_of s.layout a z))))
  element_gives a f e h g =
      gives_then IsValue IsEffect (attempt s f []) (λ t z. and_then (attempt s e t) (write (cell_of s.layout a z))) (attempt_gives f h [])
      (λ t z i. gives_then IsValue IsEffect (attempt s e t) (write (cell_of s.layout a z)) (attempt_gives e g t)
      (λ t v j. write_gives (cell_of s.layout a z) t v j))

  pub assign_gives : (x : Target) (e : Expression) → IsAssign names x e → IfGives IsEffect (attempt_assign s x e)
  assign_gives (target.Uniform x) e h = value_gives e h.1.0
  assign_gives (target.Cell a) e h = cell_gives (cell_of s.layout a (pos 0)) e h.1.0
  assign_gives (target.Element a f) e h = element_gives a f e h.1.0 h.1.1

  pub step_gives : (x : StepTarget) (e : Expression) → IsInnerAssign names x e → IfGives IsEffect (attempt_step s x e)
  step_gives (inner.Local x) e h = value_gives e h.1.0
  step_gives (inner.Cell a) e h = cell_gives (cell_of s.layout a (pos 0)) e h.1.0
  step_gives (inner.Element a f) e h = element_gives a f e h.1.0 h.1.1

  -- the bounds of a `for` are values, and so are all numbers between them
  abbrev pub AreEnds : ℤ × ℤ → Type 0
  AreEnds r = AreNumbers r.0 (width r.0 r.1)

  pub bounds_give : (e f : Expression) → IsNamed names e → IsNamed names f → IfGives AreEnds (attempt_bounds s e f)
  bounds_give e f h g =
      gives_then IsValue AreEnds (attempt s e []) (λ t a. and_then (attempt s f t) (λ t b. Gives t (a, b))) (attempt_gives e h [])
      (λ t a i. gives_then IsValue AreEnds (attempt s f t) (λ t b. Gives t (a, b)) (attempt_gives f g t) (λ t b j. width_values a b i j))

  abbrev pub AreAll : ℤ × ℕ → Type 0
  AreAll r = AreNumbers r.0 r.1

  pub ranged_gives : (procs : ℕ) (a : ℤ) (k : ℕ) (t : Trail) → AreNumbers a k → IfGives AreAll (ranged procs a k t)
  ranged_gives procs a k t h = by (nat_lt procs k)
    where
      by : (b : Bool) → IfGives AreAll (if b then Fails (next t) toowide.TooWide else Gives (next t) (a, k))
      by true = tt
      by false = h

  pub range_gives : (procs : ℕ) (e f : Expression) → IsNamed names e → IsNamed names f → IfGives AreAll (attempt_range procs s e f)
  range_gives procs e f h g =
      gives_then IsValue AreAll (attempt s e []) (λ t a. and_then (attempt s f t) (λ t b. ranged procs a (width a b) t))
      (attempt_gives e h [])
      (λ t a i. gives_then IsValue AreAll (attempt s f t) (λ t b. ranged procs a (width a b) t) (attempt_gives f g t)
      (λ t b j. ranged_gives procs a (width a b) t (width_values a b i j)))
