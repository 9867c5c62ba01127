-- One more declaration behind others.
use Rattle.std.proofs.Common.{◌≡◌, ℕ, List, [], ◌∷◌, ◌++◌, refl, sym, ap, ◌+◌, ◌≤◌, arith, subst}
use Rattle.std.specs.List.{AllByRecursion}
use Rattle.pram_model.specs.Layout.{SharedEntry, most_cells, size, total_size}
use Rattle.superstep_instructions.specs.Limits.{AreDifferent, IsEntry, IsLayout, IsNew, names_of}

-- A list of different texts with one more behind it.

new_behind : (names : List (List ℕ)) (name other : List ℕ) → IsNew names name → (name ≡ other → ⊥) → IsNew (names ++ other ∷ []) name
new_behind [] name other new differ = (differ, tt)
new_behind (x ∷ xs) name other new differ = (new.0, new_behind xs name other new.1 differ)

different_more : (names : List (List ℕ)) (name : List ℕ) → AreDifferent names → IsNew names name → AreDifferent (names ++ name ∷ [])
different_more [] name different new = (tt, tt)
different_more (x ∷ xs) name different new =
    (new_behind xs x name different.0 (λ e. new.0 (sym e)), different_more xs name different.1 new.1)

last_new : (names : List (List ℕ)) (other name : List ℕ) → IsNew (names ++ name ∷ []) other → other ≡ name → ⊥
last_new [] other name new same = new.0 same
last_new (x ∷ xs) other name new same = last_new xs other name new.1 same

different_less : (names : List (List ℕ)) (name : List ℕ) → AreDifferent (names ++ name ∷ []) → IsNew names name
different_less [] name d = tt
different_less (x ∷ xs) name d = (λ same. last_new xs x name d.0 (sym same), different_less xs name d.1)

pub names-more : (es : List SharedEntry) (e : SharedEntry) → names_of (es ++ e ∷ []) ≡ names_of es ++ e.name ∷ []
names-more [] e = refl
names-more (x ∷ xs) e = ap (λ l. x.name ∷ l) (names-more xs e)

total-more : (es : List SharedEntry) (e : SharedEntry) → total_size (es ++ e ∷ []) ≡ total_size es + size e.bounds
total-more [] e = omega arith
total-more (x ∷ xs) e = let h = total-more xs e in omega arith

all_more : (es : List SharedEntry) (e : SharedEntry) → AllByRecursion IsEntry es → IsEntry e → AllByRecursion IsEntry (es ++ e ∷ [])
all_more [] e h is = (is, tt)
all_more (x ∷ xs) e h is = (h.0, all_more xs e h.1 is)

all_last : (es : List SharedEntry) (e : SharedEntry) → AllByRecursion IsEntry (es ++ e ∷ []) → IsEntry e
all_last [] e h = h.0
all_last (x ∷ xs) e h = all_last xs e h.1

pub layout_more : (es : List SharedEntry) (e : SharedEntry) → IsLayout es → IsEntry e → IsNew (names_of es) e.name →
    total_size es + size e.bounds ≤ most_cells → IsLayout (es ++ e ∷ [])
layout_more es e l is new room = record {
  entries = all_more es e l.entries is;
  different = subst AreDifferent (sym (names-more es e)) (different_more (names_of es) e.name l.different new);
  cells = subst (λ n. n ≤ most_cells) (sym (total-more es e)) room;
}

pub layout_new : (es : List SharedEntry) (e : SharedEntry) → IsLayout (es ++ e ∷ []) → IsNew (names_of es) e.name
layout_new es e l = different_less (names_of es) e.name (subst AreDifferent (names-more es e) l.different)

pub layout_room : (es : List SharedEntry) (e : SharedEntry) → IsLayout (es ++ e ∷ []) → total_size es + size e.bounds ≤ most_cells
layout_room es e l = subst (λ n. n ≤ most_cells) (total-more es e) l.cells

pub layout_entry : (es : List SharedEntry) (e : SharedEntry) → IsLayout (es ++ e ∷ []) → IsEntry e
layout_entry es e l = all_last es e l.entries
