-- What one part writes, of which something is known.
use Rattle.std.proofs.Common.{◌≡◌, ℕ, zero, suc, ◌<◌, List, [], ◌∷◌, ◌++◌, Option, Some, None, ℤ, Bool, true, false, refl, sym}
use Rattle.std.proofs.Common.{subst, ap, ◌∙◌, arith, tests, nat_eq, length, take, get_or, if◌then◌else◌, append-nil}
use Rattle.std.specs.Prelude.{slice_get}
use Rattle.std.proofs.lemmas.Grind.{flat_map-append}
use Rattle.intervals.specs.Intervals.{IsIn}
use Rattle.pram_meaning.specs.Attempt as meant
use Rattle.pram_meaning.specs.Attempt.{Attempt, Gives, Fails}
use Rattle.pram_meaning.specs.Conflict.{Part, write_to, writes_by, writes_to}
use Rattle.abstract_runs.specs.declared.effect.Effect.{Effect}
use Rattle.abstract_runs.specs.declared.findings.Findings.{Findings}
use Rattle.abstract_runs.specs.declared.reach.Reach.{Reach}
use Rattle.abstract_runs.specs.declared.row.Row.{Row}
use Rattle.abstract_runs.specs.Apart.{AreApart, Reaches}
use Rattle.abstract_runs.specs.Covers.{IsReached}
use Rattle.abstract_runs.specs.Effects.{IsGivenBy, IsGoneTo}
use Rattle.abstract_runs.specs.Given.{AreGiven, IsGiving}
use Rattle.abstract_runs.specs.Rows.{ArePartsBy, IsPartBy}
use Rattle.abstract_runs.specs.Rows as rows
use Rattle.abstract_runs.specs.Tried.{IsTried}
use Rattle.abstract_runs.specs.Columns.{reach_in, targets}
use Rattle.abstract_runs.proofs.Trails as trails

-- it writes one of the values to one of the cells
pub record Wrote (e : Effect) (r : Reach) (i : ℤ) (a : Attempt meant.Effect) : Type 0 where
  pub cell : ℕ
  pub value : ℤ
  pub reached : IsReached cell r
  pub among : IsIn value e.value
  pub writes : (d : ℕ) → writes_by d i a ≡ write_to d i (Some cell) value

wrote_to : (e : Effect) (r : Reach) (i : ℤ) (t : meant.Trail) (v : ℤ) (cell : Option ℕ) → IsGoneTo (Some r) cell → IsIn v e.value →
    Wrote e r i (Gives t (record { value = v; cell = cell }))
wrote_to e r i t v None h k = absurd h
wrote_to e r i t v (Some c) h k = record { cell = c; value = v; reached = h; among = k; writes = λ d. refl }

wrote_by : (rs : trails.Reaches) (f : Findings) (known : Option Effect) (e : Effect) (r : Reach) (i : ℤ) (a : Attempt meant.Effect) →
    known ≡ Some e → e.reach ≡ Some r → IsTried (IsGivenBy known) rs f a → IsGiving a → Wrote e r i a
wrote_by rs f known e r i (Gives t g) is at h giving =
    let k = subst (λ k. IsGivenBy k g) is h.0 in
    wrote_to e r i t g.value g.cell (subst (λ r. IsGoneTo r g.cell) at k.cell) k.value
wrote_by rs f known e r i (Fails t kind) is at h giving = absurd giving

pub part_wrote : (f : Findings) (row : Row) (e : Effect) (r : Reach) (x : Part) → row.effect ≡ Some e → e.reach ≡ Some r →
    IsPartBy f row x →
    IsGiving x.attempt → Wrote e r x.processor x.attempt
part_wrote f row e r x is at p giving = wrote_by row.trail.items f row.effect e r x.processor x.attempt is at p.tried giving

-- ---- nothing is written

nothing_to : (i v : ℤ) (cell : Option ℕ) (d : ℕ) → IsGoneTo None cell → write_to d i cell v ≡ []
nothing_to i v None d h = refl
nothing_to i v (Some c) d h = absurd h

nothing_by : (rs : trails.Reaches) (f : Findings) (known : Option Effect) (i : ℤ) (a : Attempt meant.Effect) (d : ℕ) →
    reach_in known ≡ None → IsTried (IsGivenBy known) rs f a → writes_by d i a ≡ []
nothing_by rs f known i (Fails t kind) d is h = refl
nothing_by rs f None i (Gives t g) d is h = absurd h.0
nothing_by rs f (Some e) i (Gives t g) d is h =
    let k = h.0 in nothing_to i g.value g.cell d (subst (λ r. IsGoneTo r g.cell) is k.cell)

pub part_wrote_nothing : (f : Findings) (row : Row) (x : Part) (d : ℕ) → reach_in row.effect ≡ None → IsPartBy f row x →
    writes_by d x.processor x.attempt ≡ []
part_wrote_nothing f row x d is p = nothing_by row.trail.items f row.effect x.processor x.attempt d is p.tried

-- ---- a cell that no row reaches

pub elsewhere : (d c : ℕ) (i v : ℤ) → nat_eq d c ≡ false → write_to d i (Some c) v ≡ []
elsewhere d c i v e = ap (λ b. if b then record { processor = i; value = v } ∷ [] else []) e

first_reaches : (row : Row) (known : List Row) (r : Reach) (c : ℕ) → reach_in row.effect ≡ Some r → IsReached c r →
    Reaches (targets (row ∷ known)) 0 c
first_reaches row known r c is h = record { reach = r; is = ap Some is; reached = h }

unreached : (f : Findings) (row : Row) (known : List Row) (x : Part) (c : ℕ) (e : Effect) (r : Reach) → row.effect ≡ Some e →
    e.reach ≡ Some r → ((j : ℕ) → Reaches (targets (row ∷ known)) j c → ⊥) → IsPartBy f row x → IsGiving x.attempt →
    writes_by c x.processor x.attempt ≡ []
unreached f row known x c e r is at none p giving = w.writes c ∙ by (nat_eq c w.cell) refl
  where
    w : Wrote e r x.processor x.attempt
    w = part_wrote f row e r x is at p giving

    by : (b : Bool) → nat_eq c w.cell ≡ b → write_to c x.processor (Some w.cell) w.value ≡ []
    by true h =
        let same : w.cell ≡ c = grind (arith, tests, h) in
        absurd (none 0 (first_reaches row known r c (ap reach_in is ∙ at) (subst (λ c. IsReached c r) same w.reached)))
    by false h = elsewhere c w.cell x.processor w.value h

unreached_by : (f : Findings) (row : Row) (known : List Row) (x : Part) (c : ℕ) (effect : Option Effect) (reach : Option Reach) →
    row.effect ≡ effect → reach_in effect ≡ reach → ((j : ℕ) → Reaches (targets (row ∷ known)) j c → ⊥) → IsPartBy f row x →
    IsGiving x.attempt → writes_by c x.processor x.attempt ≡ []
unreached_by f row known x c None reach is at none p giving = part_wrote_nothing f row x c (ap reach_in is) p
unreached_by f row known x c (Some e) None is at none p giving = part_wrote_nothing f row x c (ap reach_in is ∙ at) p
unreached_by f row known x c (Some e) (Some r) is at none p giving = unreached f row known x c e r is at none p giving

further : (row : Row) (known : List Row) (j c : ℕ) → Reaches (targets known) j c → Reaches (targets (row ∷ known)) (suc j) c
further row known j c h = record { reach = h.reach; is = h.is; reached = h.reached }

pub none_written : (f : Findings) (known : List Row) (xs : List Part) (c : ℕ) → ArePartsBy f known xs → AreGiven xs →
    ((j : ℕ) → Reaches (targets known) j c → ⊥) → writes_to c xs ≡ []
none_written f [] xs c (rows.none) g none = refl
none_written f (row ∷ known) (x ∷ xs) c (rows.takes p h) g none =
    ap (λ ws. ws ++ writes_to c xs) (unreached_by f row known x c row.effect (reach_in row.effect) refl refl none p g.0)
    ∙ none_written f known xs c h g.1 (λ j r. none (suc j) (further row known j c r))
none_written f (row ∷ known) xs c (rows.passes u h) g none =
    none_written f known xs c h g (λ j r. none (suc j) (further row known j c r))

-- ---- rows that are apart

get_taken : (known : List Row) (k j : ℕ) (r : Option Reach) → slice_get (targets (take k known)) j ≡ Some r →
    (slice_get (targets known) j ≡ Some r) × (j < k)
get_taken [] zero j r e = absurd (cc e)
get_taken [] (suc k) j r e = absurd (cc e)
get_taken (row ∷ known) zero j r e = absurd (cc e)
get_taken (row ∷ known) (suc k) zero r e = (e, omega arith)
get_taken (row ∷ known) (suc k) (suc j) r e = let h = get_taken known k j r e in let l = h.1 in (h.0, omega (arith, l))

get_here : (known : List Row) (k : ℕ) (row d : Row) (r : Reach) → k < length known → row ≡ get_or known k d →
    reach_in row.effect ≡ Some r →
    slice_get (targets known) k ≡ Some (Some r)
get_here [] k row d r below is e = absurd (omega (arith, below))
get_here (x ∷ known) zero row d r below is e = ap Some (ap (λ (row : Row). reach_in row.effect) (sym is) ∙ e)
get_here (x ∷ known) (suc k) row d r below is e = get_here known k row d r (omega (arith, below)) is e

-- a cell that one row reaches is written by none before it
pub none_before : (f : Findings) (all : List Row) (k : ℕ) (row d : Row) (r : Reach) (xs : List Part) (c : ℕ) → AreApart (targets all) →
    k < length all → row ≡ get_or all k d → reach_in row.effect ≡ Some r → IsReached c r → ArePartsBy f (take k all) xs → AreGiven xs →
    writes_to c xs ≡ []
none_before f all k row d r xs c apart below is at reached h g =
    none_written f (take k all) xs c h g (λ j one. by j one (get_taken all k j (Some one.reach) one.is))
  where
    by : (j : ℕ) (one : Reaches (targets (take k all)) j c) → (slice_get (targets all) j ≡ Some (Some one.reach)) × (j < k) → ⊥
    by j one there =
        let same : j ≡ k = apart j k c (record { reach = one.reach; is = there.0; reached = one.reached })
        (record { reach = r; is = get_here all k row d r below is at; reached = reached }) in
        let l = there.1 in
        absurd (omega (arith, same, l))

pub writes_last : (c : ℕ) (xs : List Part) (x : Part) → writes_to c (xs ++ x ∷ []) ≡ writes_to c xs ++ writes_by c x.processor x.attempt
writes_last c xs x =
    flat_map-append (λ (x : Part). writes_by c x.processor x.attempt) xs (x ∷ [])
    ∙ ap (λ ws. writes_to c xs ++ ws) (append-nil (writes_by c x.processor x.attempt))
