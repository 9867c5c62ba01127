-- The ends that words choose are those of edges.
use Rattle.std.proofs.Common.{◌≡◌, ◌≢◌, ◌⊎◌, ◌∙◌, inl, inr, ◌+◌, ◌-◌, ◌*◌, ◌/◌, ◌%◌, ◌<◌}
use Rattle.std.proofs.Common.{◌≤◌, ◌++◌, ◌∷◌, [], zero, suc, ℕ, ℤ, List, length, get_or, pos}
use Rattle.std.proofs.Common.{ap, refl, sym, subst, arith, length-append, Bool, if◌then◌else◌}
use Rattle.std.proofs.lemmas.Bool.{cases_lt, le-ltb, lt-ltb}
use Rattle.std.proofs.lemmas.Int.{ints}
use Rattle.std.proofs.lemmas.List.{get_or_append_left, get_or-append-add}
use Rattle.std.proofs.lemmas.List.FromFn.{get_or-map-range_with_len, length-map-range_with_len}
use Rattle.scopes.proofs.Parts.{part_below}
use Rattle.scopes.specs.Drawn.{IsWithin}
use Rattle.drawn_kinds.specs.Orders.{pick}
use Rattle.drawn_kinds.specs.Kinds.{AreWords, IsEdge, IsGraph, at, edges_by, first_end}
use Rattle.drawn_kinds.specs.Kinds.{first_ends, node, one_over, other_than, second_end, second_ends}

-- ---- how many there are

pub halves : (count : ℕ) → 2 * (count / 2) + length (one_over count) ≡ count
halves zero = refl
halves (suc zero) = refl
halves (suc (suc count)) = omega (arith, halves count)

pub over_even : (count : ℕ) → count % 2 ≡ 0 → one_over count ≡ []
over_even zero even = refl
over_even (suc zero) even = absurd (omega (arith, even))
over_even (suc (suc count)) even = over_even count (omega (arith, even))

pub over_odd : (count : ℕ) → 0 < count % 2 → one_over count ≡ pos 0 ∷ []
over_odd zero odd = absurd (omega (arith, odd))
over_odd (suc zero) odd = refl
over_odd (suc (suc count)) odd = over_odd count (omega (arith, odd))

pub edges_count : (vertices edges : ℕ) (words : List ℕ) → length (edges_by vertices edges words) ≡ 2 * edges
edges_count vertices edges words =
    let both = length-append (first_ends vertices edges words) (second_ends vertices edges words) in
    let firsts = length-map-range_with_len (λ edge. node 1 (first_end vertices words edge)) 0 edges in
    let seconds = length-map-range_with_len (λ edge. node 1 (second_end vertices words edge)) 0 edges in
    omega (arith, both, firsts, seconds)

pub values_count : (vertices count : ℕ) (words : List ℕ) → length (edges_by vertices (count / 2) words ++ one_over count) ≡ count
values_count vertices count words =
    let both = length-append (edges_by vertices (count / 2) words) (one_over count) in
    omega (arith, both, edges_count vertices (count / 2) words, halves count)

-- ---- what they are

other_is : (vertices place rest : ℕ) → place < vertices → rest < vertices - 1 →
    (other_than place rest < vertices) × (place ≢ other_than place rest)
other_is vertices place rest below less = by (cases_lt rest place)
  where
    by : (rest < place) ⊎ (place ≤ rest) → (other_than place rest < vertices) × (place ≢ other_than place rest)
    by (inl lower) =
        subst (λ x. (x < vertices) × (place ≢ x)) (sym (ap (λ (b : Bool). if b then rest else suc rest) (lt-ltb rest place lower)))
        (omega (arith, lower, below), λ e. omega (arith, e, lower))
    by (inr upper) =
        subst (λ x. (x < vertices) × (place ≢ x)) (sym (ap (λ (b : Bool). if b then rest else suc rest) (le-ltb rest place upper)))
        (omega (arith, upper, less), λ e. omega (arith, e, upper))

node_within : (vertices place : ℕ) → place < vertices → IsWithin (pos 1) (pos vertices) (node 1 place)
node_within vertices place below = record { above = omega (arith, ints); below = omega (arith, ints, below) }

edge_is : (vertices edge : ℕ) (words : List ℕ) → 2 ≤ vertices → AreWords words →
    IsEdge vertices (node 1 (first_end vertices words edge)) (node 1 (second_end vertices words edge))
edge_is vertices edge words several fit =
    let first = part_below (get_or words (2 * edge) 0) vertices (fit (2 * edge)) (omega (arith, several)) in
    let rest = part_below (get_or words (2 * edge + 1) 0) (vertices - 1) (fit (2 * edge + 1)) (omega (arith, several)) in
    let other = other_is vertices (first_end vertices words edge) (pick (get_or words (2 * edge + 1) 0) (vertices - 1)) first rest in
    record {
      first_is = node_within vertices (first_end vertices words edge) first;
      second_is = node_within vertices (second_end vertices words edge) other.0;
      differ = λ e. other.1 (omega (arith, ints, e));
    }

first_at : (vertices edges edge : ℕ) (words : List ℕ) (over : List ℤ) → edge < edges →
    at (edges_by vertices edges words ++ over) edge ≡ node 1 (first_end vertices words edge)
first_at vertices edges edge words over l =
    let firsts = length-map-range_with_len (λ edge. node 1 (first_end vertices words edge)) 0 edges in
    get_or_append_left (edges_by vertices edges words) over (pos 0) edge (omega (arith, edges_count vertices edges words, l))
    ∙ get_or_append_left (first_ends vertices edges words) (second_ends vertices edges words) (pos 0) edge (omega (arith, firsts, l))
    ∙ get_or-map-range_with_len (λ edge. node 1 (first_end vertices words edge)) 0 edges edge edge (pos 0) l (omega arith)

second_at : (vertices edges edge : ℕ) (words : List ℕ) (over : List ℤ) → edge < edges →
    at (edges_by vertices edges words ++ over) (edges + edge) ≡ node 1 (second_end vertices words edge)
second_at vertices edges edge words over l =
    let firsts = length-map-range_with_len (λ edge. node 1 (first_end vertices words edge)) 0 edges in
    get_or_append_left (edges_by vertices edges words) over (pos 0) (edges + edge) (omega (arith, edges_count vertices edges words, l))
    ∙ ap (λ n. get_or (edges_by vertices edges words) (n + edge) (pos 0)) (sym firsts)
    ∙ get_or-append-add (first_ends vertices edges words) (second_ends vertices edges words) edge (pos 0)
    ∙ get_or-map-range_with_len (λ edge. node 1 (second_end vertices words edge)) 0 edges edge edge (pos 0) l (omega arith)

pub is_graph : (vertices count : ℕ) (words : List ℕ) (values : List ℤ) → 2 ≤ vertices → AreWords words →
    values ≡ edges_by vertices (count / 2) words ++ one_over count → IsGraph vertices values
is_graph vertices count words values several fit is = subst (IsGraph vertices) (sym is) all
  where
    all : IsGraph vertices (edges_by vertices (count / 2) words ++ one_over count)
    all edge l =
        let half = count / 2 in
        let whole : List ℤ = edges_by vertices half words ++ one_over count in
        let so_many : length whole / 2 ≡ half = ap (λ n. n / 2) (values_count vertices count words) in
        let below : edge < half = omega (arith, so_many, l) in
        subst (λ n. IsEdge vertices (at whole edge) (at whole (n + edge))) (sym so_many)
        (subst (λ v. IsEdge vertices v (at whole (half + edge))) (sym (first_at vertices half edge words (one_over count) below))
        (subst (λ v. IsEdge vertices (node 1 (first_end vertices words edge)) v)
        (sym (second_at vertices half edge words (one_over count) below)) (edge_is vertices edge words several fit)))
