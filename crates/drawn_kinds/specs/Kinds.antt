-- What inputs of each kind are, and which of them a seed draws. A place is counted from 0.
use Rattle.std.specs.Prelude.{◌≡◌, ◌≢◌, ◌<◌, ℕ, zero, suc, ◌+◌, ◌*◌, ◌-◌, ◌/◌, ◌^◌, nat_lt, if◌then◌else◌, ℤ, pos, List, [], ◌∷◌, ◌++◌}
use Rattle.std.specs.Prelude.{drop, length, map, max, slice_index_or, Option, Some, None}
use Rattle.std.specs.List.{All}
use Rattle.std.specs.List.Sorted.{IsPermutation, IsSorted}
use Rattle.std.specs.Ordering.{int_cmp}
use Rattle.scopes.specs.Drawn.{IsWithin, drawn, generator, words}
use Rattle.drawn_kinds.specs.declared.bounds.Bounds.{Bounds}
use Rattle.drawn_kinds.specs.declared.kind.DrawnKind.{DrawnKind}
use Rattle.drawn_kinds.specs.declared.kind.DrawnKind.TheVariants.{List as ListKind, Ring, RingFromZero, Tree, Graph, Sorted, Permutation}
use Rattle.drawn_kinds.specs.Orders.{IsOrder, order_by, pick, places}

-- the value at a place
abbrev pub at : List ℤ → ℕ → ℤ
at values place = slice_index_or values place (pos 0)

-- the node at a place, where that at the first place has this number
abbrev pub node : (first place : ℕ) → ℤ
node first place = pos (first + place)

abbrev pub nodes : (first : ℕ) → List ℕ → List ℤ
nodes first order = map (node first) order

-- each is a word of 64 bits
abbrev pub AreWords : List ℕ → Type 0
AreWords words = (k : ℕ) → slice_index_or words k 0 < 2 ^ 64

-- ---- lists and rings

-- of each node of an order the one behind it, and of the last one the end
abbrev pub behind : (first : ℕ) → (end : ℤ) → List ℕ → List ℤ
behind first end order = nodes first (drop 1 order) ++ end ∷ []

-- the value at each place of an order is the one beside it
abbrev pub Follows : (order : List ℕ) → (beside values : List ℤ) → Type 0
Follows order beside values = (k : ℕ) → k < length order → at values (slice_index_or order k 0) ≡ at beside k

-- in some order of all nodes each leads to the one behind it, and the last one to 0
pub record IsList (values : List ℤ) : Type 0 where
  pub order : List ℕ
  pub is_order : IsOrder (length values) order
  pub follows : Follows order (behind 1 (pos 0) order) values

-- what stands behind each node of an order, where the first one is behind the last one
abbrev pub round : (first : ℕ) → List ℕ → List ℤ
round first order = behind first (node first (slice_index_or order 0 0)) order

-- in some order of all nodes each leads to the one behind it, and the last one to the first one
pub record IsRing (first : ℕ) (values : List ℤ) : Type 0 where
  pub order : List ℕ
  pub is_order : IsOrder (length values) order
  pub follows : Follows order (round first order) values

-- ---- trees

-- so many steps, each to the parent, lead from one place to another
abbrev pub Climbs : (parents : List ℤ) → (steps from to : ℕ) → Type 0
Climbs parents zero from to = from ≡ to
Climbs parents (suc steps) from to = (parent : ℕ) × (at parents from ≡ node 1 parent) × Climbs parents steps parent to

-- one node is its own parent, and from each node some steps to parents lead to it
pub record IsRooted (parents : List ℤ) : Type 0 where
  pub root : ℕ
  pub within : root < length parents
  pub own : at parents root ≡ node 1 root
  pub climbs : (place : ℕ) → place < length parents → (steps : ℕ) × Climbs parents steps place root

abbrev pub IsTree : List ℤ → Type 0
IsTree parents = 0 < length parents → IsRooted parents

-- the place in an order of what is above the node there: of the first node itself, of others one before it that a word picks
abbrev pub above : (words : List ℕ) → ℕ → ℕ
above words zero = 0
above words (suc k) = pick (slice_index_or words k 0) (suc k)

-- the parents of the first so many nodes of an order
abbrev pub parents_to : (count : ℕ) → (words order : List ℕ) → List ℤ
parents_to count words order = map (λ k. node 1 (slice_index_or order (above words k) 0)) (places count)

abbrev pub parents_by : (words order : List ℕ) → List ℤ
parents_by words order = parents_to (length order) words order

-- ---- graphs

-- two vertices that differ
pub record IsEdge (vertices : ℕ) (first second : ℤ) : Type 0 where
  pub first_is : IsWithin (pos 1) (pos vertices) first
  pub second_is : IsWithin (pos 1) (pos vertices) second
  pub differ : first ≢ second

-- the first half are the first ends of edges, and the second half their second ends
abbrev pub IsGraph : (vertices : ℕ) → List ℤ → Type 0
IsGraph vertices values =
    (edge : ℕ) → edge < length values / 2 → IsEdge vertices (at values edge) (at values (length values / 2 + edge))

abbrev pub first_end : (vertices : ℕ) → (words : List ℕ) → (edge : ℕ) → ℕ
first_end vertices words edge = pick (slice_index_or words (2 * edge) 0) vertices

-- one of the other places
abbrev pub other_than : (place rest : ℕ) → ℕ
other_than place rest = if nat_lt rest place then rest else suc rest

abbrev pub second_end : (vertices : ℕ) → (words : List ℕ) → (edge : ℕ) → ℕ
second_end vertices words edge =
    other_than (first_end vertices words edge) (pick (slice_index_or words (2 * edge + 1) 0) (vertices - 1))

abbrev pub first_ends : (vertices edges : ℕ) → (words : List ℕ) → List ℤ
first_ends vertices edges words = map (λ edge. node 1 (first_end vertices words edge)) (places edges)

abbrev pub second_ends : (vertices edges : ℕ) → (words : List ℕ) → List ℤ
second_ends vertices edges words = map (λ edge. node 1 (second_end vertices words edge)) (places edges)

-- so many edges, each by two words
abbrev pub edges_by : (vertices edges : ℕ) → (words : List ℕ) → List ℤ
edges_by vertices edges words = first_ends vertices edges words ++ second_ends vertices edges words

-- where an edge would lack its second end, a 0 stands behind them
abbrev pub one_over : ℕ → List ℤ
one_over zero = []
one_over (suc zero) = pos 0 ∷ []
one_over (suc (suc count)) = one_over count

-- ---- numbers

-- the least and the greatest number that may be drawn: those of the bounds, or 1 and how many numbers there are
abbrev pub low_of : Option Bounds → ℤ
low_of None = pos 1
low_of (Some bounds) = bounds.low

abbrev pub high_of : Option Bounds → (count : ℕ) → ℤ
high_of None count = pos (max 1 count)
high_of (Some bounds) count = bounds.high

-- each is at most the next one, and in the interval
pub record IsAscending (low high : ℤ) (values : List ℤ) : Type 0 where
  pub sorted : IsSorted int_cmp values
  pub within : All (IsWithin low high) values

-- each of the numbers from 1 on once
abbrev pub IsPermuted : List ℤ → Type 0
IsPermuted values = IsPermutation (nodes 1 (places (length values))) values

-- ---- all kinds

abbrev pub IsOfKind : DrawnKind → List ℤ → Type 0
IsOfKind ListKind values = IsList values
IsOfKind Ring values = IsRing 1 values
IsOfKind RingFromZero values = IsRing 0 values
IsOfKind Tree values = IsTree values
IsOfKind (Graph vertices) values = IsGraph vertices.count values
IsOfKind (Sorted bounds) values = IsAscending (low_of bounds) (high_of bounds (length values)) values
IsOfKind Permutation values = IsPermuted values

-- the first words that a seed gives
abbrev pub words_of : (seed count : ℕ) → List ℕ
words_of seed count = words count (generator seed)

-- the order of so many places that a seed draws
abbrev pub order_of : (seed count : ℕ) → List ℕ
order_of seed count = order_by (words_of seed (count - 1)) count

-- so many nodes in the order that the first words choose; the words behind them choose what is above each
abbrev pub IsDrawnTree : (words : List ℕ) → (count : ℕ) → List ℤ → Type 0
IsDrawnTree words count values = Follows (order_by words count) (parents_by (drop (count - 1) words) (order_by words count)) values

-- so many values of that kind which a seed draws
abbrev pub IsDrawn : DrawnKind → (seed count : ℕ) → List ℤ → Type 0
IsDrawn ListKind seed count values = Follows (order_of seed count) (behind 1 (pos 0) (order_of seed count)) values
IsDrawn Ring seed count values = Follows (order_of seed count) (round 1 (order_of seed count)) values
IsDrawn RingFromZero seed count values = Follows (order_of seed count) (round 0 (order_of seed count)) values
IsDrawn Tree seed count values = IsDrawnTree (words_of seed (2 * (count - 1))) count values
IsDrawn (Graph vertices) seed count values =
    values ≡ edges_by vertices.count (count / 2) (words_of seed (2 * (count / 2))) ++ one_over count
IsDrawn (Sorted bounds) seed count values = IsPermutation (drawn (low_of bounds) (high_of bounds count) seed count) values
IsDrawn Permutation seed count values = values ≡ nodes 1 (order_of seed count)
