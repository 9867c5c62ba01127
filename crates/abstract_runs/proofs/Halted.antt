-- Runs that come to no end: from a statement to those in which it stands.
use Rattle.std.proofs.Common.{◌≡◌, ◌≢◌, ◌⊎◌, inl, inr, ℕ, ◌<◌, List, length, get_or, refl, sym, subst, ◌∙◌, Global, Vec, ℤ, Option, Some}
use Rattle.std.proofs.Common.{IfSome, Result, Ok, Err}
use Rattle.std.specs.Result.{IfErr, IsErrAnd}
use Rattle.std.specs.List.{Contains}
use Rattle.pram_tokens.specs.declared.token.Location.{Location}
use Rattle.pram_names.specs.declared.body.Expression.{Expression, Number}
use Rattle.intervals.specs.declared.interval.Interval.{Interval}
use Rattle.intervals.specs.Intervals.{IsPoint}
use Rattle.pram_names.specs.declared.body.Statement as statement
use Rattle.pram_names.specs.declared.body.Statement.{Statement}
use Rattle.pram_names.specs.declared.body.Step as step
use Rattle.pram_names.specs.declared.body.Step.{Step}
use Rattle.all_inputs.specs.declared.undecided.Undecided.{Undecided}
use Rattle.all_inputs.specs.declared.undecided.Undecided.TheVariants.{OpenBounds, Restless}
use Rattle.abstract_runs.specs.declared.halt as halt
use Rattle.abstract_runs.specs.declared.halt.Halt.TheVariants as variant
use Rattle.abstract_runs.specs.Halting.{AreOpen, Halts, HasStatement, HasStep, HaveStatement, HaveStep, IsNumber, IsOpenAt, IsOpenOn}
use Rattle.abstract_runs.specs.Halting as halting

pub by_memory : (P : Undecided → Type 0) (h : halt.Halt.Halt) → h ≡ variant.OutOfMemory → Halts P h
by_memory P h e = subst (Halts P) (sym e) tt

pub halts_on : (P Q : Undecided → Type 0) (h : halt.Halt.Halt) → Halts P h → ((u : Undecided) → P u → Q u) → Halts Q h
halts_on P Q variant.OutOfMemory p f = tt
halts_on P Q (variant.Undecided u) p f = f u p

-- an error that is handed on
pub handed : {X : Type 0} (r : Result X halt.Halt.Halt) (e : halt.Halt.Halt) (P : Undecided → Type 0) → IsErrAnd r (λ x. x ≡ e) →
    Halts P e → IfErr r (Halts P)
handed (Ok x) e P is h = absurd is
handed (Err x) e P is h = subst (Halts P) (sym is) h

contained : {A : Type 0} (xs : List A) (k : ℕ) (x : A) → k < length xs → x ≡ get_or xs k x → Contains xs x
contained xs k x below is = (k, below, sym is)

-- ---- inside pardo

pub on_item : (u : Undecided) (ss items : List Step) (k : ℕ) (s : Step) → items ≡ ss → k < length items → s ≡ get_or items k s →
    HasStep (IsOpenOn u) s → HaveStep (IsOpenOn u) ss
on_item u ss items k s same below is has = subst (HaveStep (IsOpenOn u)) same
    (record { one = s; among = contained items k s below is; has = has })

abbrev pub InLoopOn : ℕ → List Step → Undecided → Type 0
InLoopOn line body u = (u ≡ Restless line) ⊎ HaveStep (IsOpenOn u) body

pub on_loop : (s : Step) (here : Location) (e : Expression) (body : Vec Step Global) → s ≡ step.While here e body → (u : Undecided) →
    InLoopOn here.line body.items u → HasStep (IsOpenOn u) s
on_loop s here e body is u (inl same) =
    subst (λ s. HasStep (IsOpenOn u) s) (sym is)
    (subst (λ u. HasStep (IsOpenOn u) (step.While here e body)) (sym same) (halting.HasStep.itself (halting.IsOpenOn.loop here e body)))
on_loop s here e body is u (inr h) = subst (λ s. HasStep (IsOpenOn u) s) (sym is) (halting.HasStep.in_while here e body h.one h.among h.has)

pub on_then : (s : Step) (here : Location) (e : Expression) (a b : Vec Step Global) → s ≡ step.If here e a b → (u : Undecided) →
    HaveStep (IsOpenOn u) a.items → HasStep (IsOpenOn u) s
on_then s here e a b is u h = subst (λ s. HasStep (IsOpenOn u) s) (sym is) (halting.HasStep.in_then here e a b h.one h.among h.has)

pub on_else : (s : Step) (here : Location) (e : Expression) (a b : Vec Step Global) → s ≡ step.If here e a b → (u : Undecided) →
    HaveStep (IsOpenOn u) b.items → HasStep (IsOpenOn u) s
on_else s here e a b is u h = subst (λ s. HasStep (IsOpenOn u) s) (sym is) (halting.HasStep.in_else here e a b h.one h.among h.has)

-- ---- outside pardo

pub at_item : (u : Undecided) (ss items : List Statement) (k : ℕ) (s : Statement) → items ≡ ss → k < length items → s ≡ get_or items k s →
    HasStatement (IsOpenAt u) s → HaveStatement (IsOpenAt u) ss
at_item u ss items k s same below is has =
    subst (HaveStatement (IsOpenAt u)) same (record { one = s; among = contained items k s below is; has = has })

abbrev pub InLoop : ℕ → List Statement → Undecided → Type 0
InLoop line body u = (u ≡ Restless line) ⊎ HaveStatement (IsOpenAt u) body

pub at_loop : (s : Statement) (here : Location) (e : Expression) (body : Vec Statement Global) → s ≡ statement.While here e body →
    (u : Undecided) → InLoop here.line body.items u → HasStatement (IsOpenAt u) s
at_loop s here e body is u (inl same) =
    subst (λ s. HasStatement (IsOpenAt u) s) (sym is)
    (subst (λ u. HasStatement (IsOpenAt u) (statement.While here e body)) (sym same)
    (halting.HasStatement.itself (halting.IsOpenAt.loop here e body)))
at_loop s here e body is u (inr h) = subst (λ s. HasStatement (IsOpenAt u) s) (sym is)
    (halting.HasStatement.in_while here e body h.one h.among h.has)

pub at_then : (s : Statement) (here : Location) (e : Expression) (a b : Vec Statement Global) → s ≡ statement.If here e a b →
    (u : Undecided) →
    HaveStatement (IsOpenAt u) a.items → HasStatement (IsOpenAt u) s
at_then s here e a b is u h = subst (λ s. HasStatement (IsOpenAt u) s) (sym is)
    (halting.HasStatement.in_then here e a b h.one h.among h.has)

pub at_else : (s : Statement) (here : Location) (e : Expression) (a b : Vec Statement Global) → s ≡ statement.If here e a b →
    (u : Undecided) →
    HaveStatement (IsOpenAt u) b.items → HasStatement (IsOpenAt u) s
at_else s here e a b is u h = subst (λ s. HasStatement (IsOpenAt u) s) (sym is)
    (halting.HasStatement.in_else here e a b h.one h.among h.has)

abbrev pub AreOpenAt : ℕ → (low high : Expression) → Undecided → Type 0
AreOpenAt line low high u = (u ≡ OpenBounds line) × AreOpen low high

pub at_counted : (s : Statement) (here : Location) (x : ℕ) (low high : Expression) (body : Vec Statement Global) →
    s ≡ statement.For here x low high body → (u : Undecided) → AreOpenAt here.line low high u → HasStatement (IsOpenAt u) s
at_counted s here x low high body is u h =
    subst (λ s. HasStatement (IsOpenAt u) s) (sym is)
    (subst (λ u. HasStatement (IsOpenAt u) (statement.For here x low high body)) (sym h.0)
    (halting.HasStatement.itself (halting.IsOpenAt.counted here x low high body h.1)))

pub at_turn : (s : Statement) (here : Location) (x : ℕ) (low high : Expression) (body : Vec Statement Global) →
    s ≡ statement.For here x low high body → (u : Undecided) → HaveStatement (IsOpenAt u) body.items → HasStatement (IsOpenAt u) s
at_turn s here x low high body is u h = subst (λ s. HasStatement (IsOpenAt u) s) (sym is)
    (halting.HasStatement.in_for here x low high body h.one h.among h.has)

abbrev pub InPardo : ℕ → (low high : Expression) → List Step → Undecided → Type 0
InPardo line low high body u = AreOpenAt line low high u ⊎ HaveStep (IsOpenOn u) body

pub at_pardo : (s : Statement) (here : Location) (low high : Expression) (locals : ℕ) (body : Vec Step Global) →
    s ≡ statement.Pardo here low high locals body → (u : Undecided) → InPardo here.line low high body.items u → HasStatement (IsOpenAt u) s
at_pardo s here low high locals body is u (inl h) =
    subst (λ s. HasStatement (IsOpenAt u) s) (sym is)
    (subst (λ u. HasStatement (IsOpenAt u) (statement.Pardo here low high locals body)) (sym h.0)
    (halting.HasStatement.itself (halting.IsOpenAt.parallel here low high locals body h.1)))
at_pardo s here low high locals body is u (inr h) =
    subst (λ s. HasStatement (IsOpenAt u) s) (sym is) (halting.HasStatement.itself (halting.IsOpenAt.within u here low high locals body h))

-- ---- bounds

not_number : (e : Expression) (o : Option Interval) (a : Interval) → ((n : ℤ) → e ≡ Number n → IfSome o (IsPoint n)) → o ≡ Some a →
    a.least ≢ a.greatest → IsNumber e → ⊥
not_number e o a number is apart (n, same) =
    let p = subst (λ o. IfSome o (IsPoint n)) is (number n same) in apart (p.least ∙ sym p.greatest)

pub low_open : (line : ℕ) (low high : Expression) (o : Option Interval) (a : Interval) (h : halt.Halt.Halt) →
    ((n : ℤ) → low ≡ Number n → IfSome o (IsPoint n)) → o ≡ Some a →
    (h ≡ variant.Undecided (OpenBounds line)) × (a.least ≢ a.greatest) → Halts (AreOpenAt line low high) h
low_open line low high o a h number is found =
    subst (Halts (AreOpenAt line low high)) (sym found.0) (refl, λ one two. not_number low o a number is found.1 one)

pub high_open : (line : ℕ) (low high : Expression) (o : Option Interval) (a : Interval) (h : halt.Halt.Halt) →
    ((n : ℤ) → high ≡ Number n → IfSome o (IsPoint n)) → o ≡ Some a →
    (h ≡ variant.Undecided (OpenBounds line)) × (a.least ≢ a.greatest) → Halts (AreOpenAt line low high) h
high_open line low high o a h number is found =
    subst (Halts (AreOpenAt line low high)) (sym found.0) (refl, λ one two. not_number high o a number is found.1 two)
