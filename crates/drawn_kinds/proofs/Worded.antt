-- Words that name a graph by its number of vertices.
use Rattle.std.proofs.Common.{◌≡◌, ℕ, ◌<◌, ◌≤◌, ◌≢◌, subst, sym, refl, List, Some, None}
use Rattle.std.proofs.Common.{Option, IfSome, true, false, not, eqb, ap, codes, get_or, Bor, arith}
use Rattle.std.proofs.lemmas.List.Folds.{list_all_at}
use Rattle.std.specs.Option.{MatchOption}
use Rattle.std.proofs.lemmas.Str.Pattern.{IsSplitOnceResult, split_after}
use Rattle.std.proofs.Props.{props}
use Rattle.std.specs.Prelude.{decimal}
use Rattle.run_options.proofs.Printed.{read_back}
use Rattle.drawn_kinds.specs.declared.kind.DrawnKind.{DrawnKind}
use Rattle.drawn_kinds.specs.declared.kind.DrawnKind.TheVariants.{List as ListKind, Ring, RingFromZero, Tree, Graph, Sorted, Permutation}
use Rattle.drawn_kinds.specs.declared.bounds.Vertices.{Vertices}
use Rattle.drawn_kinds.specs.Names.{IsGraph, IsGraphWith, IsSmall, Names, spelling}

no_colon : (i : ℕ) → i < 5 → get_or (codes "graph") i 0 ≢ 58
no_colon i l e =
    let none : true ≡ false =
    list_all_at (λ b. not (eqb b 58)) (codes "graph") i 0 l (ap (λ b. not (eqb b 58)) e) in
    absurd (cc none)

-- the first colon is the one before the number
pub number_behind : (word : List ℕ) (vertices : ℕ) (r : Option (Bor (List ℕ) × Bor (List ℕ))) → IsSplitOnceResult 58 word r →
    (p : IsGraph word vertices) → MatchOption r ⊥ (λ x. (x.0.now ≡ codes "graph") × (x.1.now ≡ p.number))
number_behind word vertices r h p = split_after 58 word (codes "graph") p.number r h (omega arith) p.spelled no_colon

-- ---- which kind it is

abbrev of_count : (n : ℕ) → 2 ≤ n → Vertices
of_count n some = record { count = n; several = some }

same_vertices : (n m : ℕ) → n ≡ m → (some : 2 ≤ n) (more : 2 ≤ m) → of_count n some ≡ of_count m more
same_vertices n m e =
    subst (λ k. (some : 2 ≤ n) (more : 2 ≤ k) → of_count n some ≡ of_count k more) e
    (λ some more. ap (of_count n) (le_once n some more))
  where
    le_once : (n : ℕ) → IsProp (2 ≤ n)
    le_once n = Prim.hlevel props

pub same_graph : (v w : Vertices) → v.count ≡ w.count → Some (Graph v) ≡ Some (Graph w)
same_graph v w e = ap (λ (x : Vertices). Some (Graph x)) (same_vertices v.count w.count e v.several w.several)

-- a word that is none of the others names a graph
pub found_by : (word : List ℕ) (answer : Option DrawnKind) → (word ≡ codes "list" → ⊥) → (word ≡ codes "ring" → ⊥) →
    (word ≡ codes "ring:0" → ⊥) → (word ≡ codes "tree" → ⊥) → (word ≡ codes "sorted" → ⊥) → (word ≡ codes "permutation" → ⊥) →
    ((vertices : Vertices) → IsGraph word vertices.count → answer ≡ Some (Graph vertices)) → (kind : DrawnKind) → Names word kind →
    answer ≡ Some kind
found_by word answer a b c d e f is ListKind h = absurd (a h)
found_by word answer a b c d e f is Ring h = absurd (b h)
found_by word answer a b c d e f is RingFromZero h = absurd (c h)
found_by word answer a b c d e f is Tree h = absurd (d h)
found_by word answer a b c d e f is (Graph vertices) h = is vertices h
found_by word answer a b c d e f is (Sorted bounds) h = absurd (e h.0)
found_by word answer a b c d e f is Permutation h = absurd (f h)

named_by : (word : List ℕ) (count : ℕ) (kind : DrawnKind) → IsGraph word count → IsGraphWith count kind → Names word kind
named_by word count ListKind g h = absurd h
named_by word count Ring g h = absurd h
named_by word count RingFromZero g h = absurd h
named_by word count Tree g h = absurd h
named_by word count (Graph vertices) g h = subst (IsGraph word) (sym h) g
named_by word count (Sorted bounds) g h = absurd h
named_by word count Permutation g h = absurd h

pub named_all : (word : List ℕ) (count : ℕ) (r : Option DrawnKind) → IsGraph word count → IfSome r (IsGraphWith count) →
    IfSome r (Names word)
named_all word count None g h = tt
named_all word count (Some kind) g h = named_by word count kind g h

pub spelled_back : (kind : DrawnKind) → IsSmall kind → Names (spelling kind) kind
spelled_back ListKind small = refl
spelled_back Ring small = refl
spelled_back RingFromZero small = refl
spelled_back Tree small = refl
spelled_back (Graph vertices) small = record {
  number = decimal vertices.count;
  spelled = refl;
  is = read_back vertices.count small;
}
spelled_back (Sorted bounds) small = (refl, small)
spelled_back Permutation small = refl
