-- Moments that lead from one state to another, one part of a run behind the other.
use Rattle.std.proofs.Common.{◌≡◌, ◌∙◌, ℕ, ◌+◌, List, [], ◌∷◌, ◌++◌, ap, arith, length, refl}
use Rattle.std.proofs.Common.{None, Option, Some}
use Rattle.pram_meaning.specs.declared.key.Key.{Key}
use Rattle.pram_meaning.specs.Attempt.{Attempt, Fails, Gives}
use Rattle.pram_meaning.specs.Moments.{Alone, Closed, Moment, Together}
use Rattle.pram_meaning.specs.Store.{State}
use Rattle.moment_laws.specs.Following.{IsLeftAlone, IsLeftBySet, IsNext, IsSameStore, Lead, statements}

-- ---- statements among moments

pub statements_on : (xs ys : List Moment) → statements (xs ++ ys) ≡ statements xs ++ statements ys
statements_on [] ys = refl
statements_on (Alone here act m tried k ∷ xs) ys = ap (λ ms. Alone here act m tried k ∷ ms) (statements_on xs ys)
statements_on (Together here act m parts key k ∷ xs) ys = ap (λ ms. Together here act m parts key k ∷ ms) (statements_on xs ys)
statements_on (Closed ∷ xs) ys = statements_on xs ys

-- ---- stores

pub same_store : (m : State) → IsSameStore m m
same_store m = record { output = refl; uniforms = refl; cells = refl }

store_on : (m k l : State) → IsSameStore m k → IsSameStore k l → IsSameStore m l
store_on m k l a b = record { output = b.output ∙ a.output; uniforms = b.uniforms ∙ a.uniforms; cells = b.cells ∙ a.cells }

next_on : (m k l : State) → IsSameStore m k → k.count ≡ m.count → IsNext k l → IsNext m l
next_on m k l same count next = (store_on m k l same next.0, (let c = next.1 in omega (arith, c, count)))

-- ---- leading

-- from a state with the same store and count
pub lead_from : (ms : List Moment) (m k l : State) → IsSameStore m k → k.count ≡ m.count → Lead ms k l → Lead ms m l
lead_from [] m k l same count lead = (store_on m k l same lead.0, lead.1 ∙ count)
lead_from (Alone here act before tried behind ∷ ms) m k l same count lead = (next_on m k before same count lead.0, lead.1, lead.2)
lead_from (Together here act before parts key behind ∷ ms) m k l same count lead = (next_on m k before same count lead.0, lead.1, lead.2)
lead_from (Closed ∷ ms) m k l same count lead = lead_from ms m k l same count lead

pub lead_on : (xs ys : List Moment) (m k l : State) → Lead xs m k → Lead ys k l → Lead (xs ++ ys) m l
lead_on [] ys m k l a b = lead_from ys m k l a.0 a.1 b
lead_on (Alone here act before tried behind ∷ xs) ys m k l a b = (a.0, a.1, lead_on xs ys behind k l a.2 b)
lead_on (Together here act before parts key behind ∷ xs) ys m k l a b = (a.0, a.1, lead_on xs ys behind k l a.2 b)
lead_on (Closed ∷ xs) ys m k l a b = lead_on xs ys m k l a b

-- to a state with the same store and count
pub lead_to : (ms : List Moment) (m k l : State) → Lead ms m k → IsSameStore k l → l.count ≡ k.count → Lead ms m l
lead_to [] m k l a same count = (store_on m k l a.0 same, count ∙ a.1)
lead_to (Alone here act before tried behind ∷ ms) m k l a same count = (a.0, a.1, lead_to ms behind k l a.2 same count)
lead_to (Together here act before parts key behind ∷ ms) m k l a same count = (a.0, a.1, lead_to ms behind k l a.2 same count)
lead_to (Closed ∷ ms) m k l a same count = lead_to ms m k l a same count

pub lead_none : (m : State) → Lead [] m m
lead_none m = (same_store m, refl)

-- a statement counts no more than itself
alone_counts : (tried : Attempt (Option ℕ)) (before behind : State) → IsLeftAlone tried before behind → behind.count ≡ before.count
alone_counts (Gives trail cell) before behind left = left.count
alone_counts (Fails trail kind) before behind left = ap (λ (m : State). m.count) left

set_counts : (key : Option Key) (before behind : State) → IsLeftBySet key before behind → behind.count ≡ before.count
set_counts None before behind left = left.count
set_counts (Some key) before behind left = ap (λ (m : State). m.count) left

-- the state to which they lead has counted their statements
pub lead_counts : (ms : List Moment) (m k : State) → Lead ms m k → k.count ≡ m.count + length (statements ms)
lead_counts [] m k lead = let c = lead.1 in omega (arith, c)
lead_counts (Alone here act before tried behind ∷ ms) m k lead =
    let a = lead.0.1 in
    let b = alone_counts tried before behind lead.1 in
    let c = lead_counts ms behind k lead.2 in omega (arith, a, b, c)
lead_counts (Together here act before parts key behind ∷ ms) m k lead =
    let a = lead.0.1 in
    let b = set_counts key before behind lead.1 in
    let c = lead_counts ms behind k lead.2 in omega (arith, a, b, c)
lead_counts (Closed ∷ ms) m k lead = lead_counts ms m k lead
