-- What an expression gives doesn't depend on the trail from which it goes on.
use Rattle.std.proofs.Common.{◌≡◌, ℕ, ℤ, pos, [], Option, Some, None, Ok, Err, refl, ap, sym, subst, ◌∙◌}
use Rattle.pram_model.specs.Layout.{cell_of}
use Rattle.pram_values.specs.Value.{Value}
use Rattle.pram_names.specs.declared.body.Expression.{Expression, Number, Uniform, Index, Local, Cell, Element', Prefix', Chain'}
use Rattle.pram_names.specs.declared.body.Expression.{Row_of-Link, end_of-Link, more_of-Link}
use Rattle.pram_meaning.specs.Attempt.{Attempt, Gives, Fails, Trail, and_then, attempt, attempt_links, operation, read}
use Rattle.pram_meaning.specs.Operation.{operate, operate_before}
use Rattle.pram_meaning.specs.Store.{View}
use Rattle.intervals.specs.declared.interval.Interval.{Interval}
use Rattle.abstract_runs.specs.declared.findings.Findings.{Findings}
use Rattle.abstract_runs.specs.Covers.{IsAmong}
use Rattle.abstract_runs.specs.Tests.{IsValueOf}
use Rattle.abstract_runs.specs.Tried.{IsTried}
use Rattle.abstract_runs.proofs.Trails.{Reaches}

-- both give the same, or neither gives anything
abbrev pub IsLike : Attempt ℤ → Attempt ℤ → Type 0
IsLike (Gives t v) (Gives u w) = v ≡ w
IsLike (Fails t k) (Fails u l) = Unit {0}
IsLike a b = ⊥

like_then : (a b : Attempt ℤ) (f g : Trail → ℤ → Attempt ℤ) → IsLike a b → ((t u : Trail) (v : ℤ) → IsLike (f t v) (g u v)) →
    IsLike (and_then a f) (and_then b g)
like_then (Gives t v) (Gives u w) f g h k = subst (λ w. IsLike (f t v) (g u w)) h (k t u v)
like_then (Gives t v) (Fails u l) f g h k = absurd h
like_then (Fails t l) (Gives u w) f g h k = absurd h
like_then (Fails t l) (Fails u m) f g h k = tt

operation_like : (v : Value) (t u : Trail) → IsLike (operation v t) (operation v u)
operation_like (Ok v) t u = refl
operation_like (Err k) t u = tt

read_like : (s : View) (c : Option ℕ) (t u : Trail) → IsLike (read s c t) (read s c u)
read_like s (Some c) t u = refl
read_like s None t u = tt

module _ (s : View) where
  mutual
    pub attempt_like : (e : Expression) (t u : Trail) → IsLike (attempt s e t) (attempt s e u)
    attempt_like (Number n) t u = refl
    attempt_like (Uniform x) t u = refl
    attempt_like Index t u = refl
    attempt_like (Local x) t u = refl
    attempt_like (Cell a) t u = read_like s (cell_of s.layout a (pos 0)) t u
    attempt_like (Element' a b e) t u =
        like_then (attempt s e t) (attempt s e u) (λ t z. read s (cell_of s.layout a z) t) (λ t z. read s (cell_of s.layout a z) t)
        (attempt_like e t u) (λ t u z. read_like s (cell_of s.layout a z) t u)
    attempt_like (Prefix' o b e) t u =
        like_then (attempt s e t) (attempt s e u) (λ t v. operation (operate_before o v) t) (λ t v. operation (operate_before o v) t)
        (attempt_like e t u) (λ t u v. operation_like (operate_before o v) t u)
    attempt_like (Chain' b e q links) t u =
        like_then (attempt s e t) (attempt s e u) (attempt_links s links) (attempt_links s links) (attempt_like e t u)
        (λ t u v. links_like links t u v)

    links_like : {n : _} (links : Row_of-Link n) (t u : Trail) (v : ℤ) → IsLike (attempt_links s links t v) (attempt_links s links u v)
    links_like end_of-Link t u v = refl
    links_like (more_of-Link o e links) t u v =
        like_then (attempt s e t) (attempt s e u) (λ t w. and_then (operation (operate o v w) t) (attempt_links s links))
        (λ t w. and_then (operation (operate o v w) t) (attempt_links s links)) (attempt_like e t u)
        (λ t u w. like_then (operation (operate o v w) t) (operation (operate o v w) u) (attempt_links s links) (attempt_links s links)
        (operation_like (operate o v w) t u) (λ t u x. links_like links t u x))

gives_like : (a b : Attempt ℤ) (t : Trail) (v : ℤ) → a ≡ Gives t v → IsLike a b → (u : Trail) × (b ≡ Gives u v)
gives_like (Gives t' w) (Gives u x) t v e h = let same : w ≡ v = cc e in (u, ap (Gives u) (sym h ∙ same))
gives_like (Gives t' w) (Fails u l) t v e h = absurd h
gives_like (Fails t' k) b t v e h = absurd (cc e)

-- what an expression gives, it gives from any trail on
pub gives_from : (s : View) (e : Expression) (z : ℤ) (t : Trail) → IsValueOf s e z → (u : Trail) × (attempt s e t ≡ Gives u z)
gives_from s e z t h = gives_like (attempt s e h.from) (attempt s e t) h.behind z h.gives (attempt_like s e h.from t)

-- so it lies in what is known of an attempt from the start
pub among_tried : (s : View) (e : Expression) (z : ℤ) (found : Option Interval) (rs : Reaches) (faults : Findings) →
    IsTried (IsAmong found) rs faults (attempt s e []) → IsValueOf s e z → IsAmong found z
among_tried s e z found rs faults tried h =
    let g = gives_from s e z [] h in (subst (IsTried (IsAmong found) rs faults) g.1 tried).0
