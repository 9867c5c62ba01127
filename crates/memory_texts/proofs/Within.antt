-- The cells that a line gives are there.
use Rattle.std.proofs.Common.{◌≡◌, ◌<◌, ◌≤◌, ◌+◌, ◌-◌, ◌^◌, List, ℕ, ℤ, Bool, true, false, arith, refl, sym, subst, length, nat_le, nat_lt}
use Rattle.std.proofs.Common.{[], ◌∷◌}
use Rattle.std.specs.Bool.{if◌then◌else◌}
use Rattle.std.specs.Prelude.{Option, Some, None, IfSome, Result, Ok, Err}
use Rattle.std.proofs.lemmas.Bool.Decides.{nat_tests}
use Rattle.pram_model.specs.Layout.{SharedEntry, cell_of, most_cells, total_size}
use Rattle.pram_model.proofs.Cells.{cell_below}
use Rattle.memory_texts.specs.declared.memory_fault.MemoryFault.TheVariants.{TooMany}
use Rattle.sized_texts.specs.Reading.{◌>>=◌}
use Rattle.sized_texts.proofs.Bound.{bind_ok}
use Rattle.memory_texts.specs.Front.{past_blanks}
use Rattle.memory_texts.specs.Headings.{Headed, heading_front}
use Rattle.memory_texts.specs.Cells.{between, cells_at, cells_of, declaration, declared_cells, found_cells, left_of, subscripts_of}
use Rattle.memory_texts.specs.Assignments.{Assigned, Reaches, ReachesIf, assignment_by, assignment_front, assignment_of, in_line}
use Rattle.memory_texts.specs.Assignments.{line_assignment, values_of}

pub few_cells : (layout : List SharedEntry) (i : ℕ) (z : ℤ) (r : Option ℕ) (n : ℕ) → r ≡ cell_of layout i z → n ≡ total_size layout →
    n ≤ most_cells → IfSome r (λ b. b < 2 ^ 20)
few_cells layout i z r n is total most = by r is
  where
    by : (r : Option ℕ) → r ≡ cell_of layout i z → IfSome r (λ b. b < 2 ^ 20)
    by None e = tt
    by (Some b) e = let k = cell_below layout i z b (sym e) in omega (arith, k, total, most)

-- those cells are among the first so many
abbrev IsWithin : ℕ → ℕ × ℕ → Type 0
IsWithin total cells = cells.0 + cells.1 ≤ total

between_within : (total : ℕ) (x y : Option ℕ) (cells : ℕ × ℕ) → ((b : ℕ) → y ≡ Some b → b < total) → between x y ≡ Some cells →
    IsWithin total cells
between_within total None y cells below is = absurd (cc is)
between_within total (Some a) None cells below is = absurd (cc is)
between_within total (Some a) (Some b) cells below is = by (nat_le a b) refl is
  where
    by : (t : Bool) → t ≡ nat_le a b → (if t then Some (a, b - a + 1) else None) ≡ Some cells → IsWithin total cells
    by true e h =
        let k : (a, b - a + 1) ≡ cells = cc h in
        let l : a ≤ b = grind (arith, nat_tests) in
        let m = below b refl in
        subst (IsWithin total) k (omega (arith, l, m))
    by false e h = absurd (cc h)

at_within : (layout : List SharedEntry) (i : ℕ) (s : Option (ℤ × ℤ)) (cells : ℕ × ℕ) → cells_at layout i s ≡ Some cells →
    IsWithin (total_size layout) cells
at_within layout i None cells is = absurd (cc is)
at_within layout i (Some (low, high)) cells is =
    between_within (total_size layout) (cell_of layout i low) (cell_of layout i high) cells (cell_below layout i high) is

found_is : (end left : ℕ) (o : Option (ℕ × ℕ)) (cells : ℕ × ℕ) → found_cells end left o ≡ Ok cells → o ≡ Some cells
found_is end left None cells is = absurd (cc is)
found_is end left (Some x) cells is = cc is

declared_within : (layout : List SharedEntry) (end : ℕ) (h : Headed) (d : Option (ℕ × Option (ℤ × ℤ))) (cells : ℕ × ℕ) →
    declared_cells layout end h d ≡ Ok cells → IsWithin (total_size layout) cells
declared_within layout end h None cells is = absurd (cc is)
declared_within layout end h (Some (i, bounds)) cells is =
    at_within layout i (subscripts_of bounds h.interval) cells
    (found_is end (left_of h) (cells_at layout i (subscripts_of bounds h.interval)) cells is)

of_within : (total first cells : ℕ) (values : List ℤ) (a : Assigned) → first + cells ≤ total → assignment_of first cells values ≡ Ok a →
    Reaches total a
of_within total first cells values a below is = by (nat_lt cells (length values)) refl is
  where
    by : (t : Bool) → t ≡ nat_lt cells (length values) → (if t then Err (TooMany (length values) cells) else Ok
        (record { first = first; values = values })) ≡ Ok a →
        Reaches total a
    by true e h = absurd (cc h)
    by false e h =
        let k : record { first = first; values = values } ≡ a = cc h in
        let l : length values ≤ cells = grind (arith, nat_tests) in
        subst (Reaches total) k (omega (arith, l, below))

front_within : (layout : List SharedEntry) (end : ℕ) (text : List ℕ) (a : Assigned) → assignment_front layout end text ≡ Ok a →
    Reaches (total_size layout) a
front_within layout end text a is =
    let h = bind_ok (in_line end (heading_front text)) _ a is in
    let v = bind_ok (in_line end (values_of h.0.1)) _ a h.2 in
    let c = bind_ok (cells_of layout end h.0.0) _ a v.2 in
    of_within (total_size layout) c.0.0 c.0.1 v.0 a
    (declared_within layout end h.0.0 (declaration 0 layout h.0.0.name) c.0 c.1) c.2

by_within : (layout : List SharedEntry) (end : ℕ) (text : List ℕ) (o : Option Assigned) → assignment_by layout end text ≡ Ok o →
    ReachesIf (total_size layout) o
by_within layout end [] o is = let k : None ≡ o = cc is in subst (ReachesIf (total_size layout)) k tt
by_within layout end (b ∷ rest) o is =
    let a = bind_ok (assignment_front layout end (b ∷ rest)) (λ a. Ok (Some a)) o is in
    let k : Some a.0 ≡ o = cc (a.2) in
    subst (ReachesIf (total_size layout)) k (front_within layout end (b ∷ rest) a.0 a.1)

pub line_within : (layout : List SharedEntry) (end : ℕ) (text : List ℕ) (o : Option Assigned) → line_assignment layout end text ≡ Ok o →
    ReachesIf (total_size layout) o
line_within layout end text o is = by_within layout end (past_blanks text) o is
