-- The difference of two stores on its way, and of stores that differ in one cell at most.
use Rattle.std.proofs.Common.{◌≡◌, ℕ, ℤ, pos, zero, suc, Bool, true, false, ◌+◌, ◌<◌, ◌≤◌, min, List, [], ◌∷◌, ◌++◌, drop, length, get_or}
use Rattle.std.proofs.Common.{set}
use Rattle.std.proofs.Common.{append_assoc, append-nil, if◌then◌else◌, nat_le, refl, ap, sym, ◌∙◌, arith}
use Rattle.std.proofs.lemmas.Bool.{leb-true, leb-false}
use Rattle.std.proofs.lemmas.List.{drop_more, drop_all, get_or-set_same}
use Rattle.journal.specs.declared.change.Change.{Change}
use Rattle.journal.specs.Changes.{change_at, difference, difference_from}
use Rattle.pram_values.proofs.TruthValues.{is_equal-self}

pub record InDifference (old new : List ℤ) (i : ℕ) (now : List Change) : Type 0 where
  pub same : difference old new ≡ now ++ difference_from i (drop i old) (drop i new)

pub all_start : (old new : List ℤ) (now : List Change) → now ≡ [] → InDifference old new 0 now
all_start old new now e = record { same = rw e refl }

pub all_go : (old new : List ℤ) (i count : ℕ) (x y : ℤ) (now next : List Change) → InDifference old new i now → i < count →
    count ≡ min (length old) (length new) → x ≡ get_or old i (pos 0) → y ≡ get_or new i (pos 0) → next ≡ now ++ change_at i x y →
    InDifference old new (i + 1) next
all_go old new i count x y now next b h c u v e = record {
  same = b.same
      ∙ ap (λ xs. now ++ difference_from i xs (drop i new))
      (drop_more old i (pos 0) (omega (arith, h, c)) ∙ ap (λ x. x ∷ drop (i + 1) old) (sym u))
      ∙ ap (λ ys. now ++ difference_from i (x ∷ drop (i + 1) old) ys)
      (drop_more new i (pos 0) (omega (arith, h, c)) ∙ ap (λ y. y ∷ drop (i + 1) new) (sym v))
      ∙ sym (append_assoc now (change_at i x y) (difference_from (i + 1) (drop (i + 1) old) (drop (i + 1) new)))
      ∙ ap (λ ds. ds ++ difference_from (i + 1) (drop (i + 1) old) (drop (i + 1) new)) (sym e);
}

to_nothing : (i : ℕ) (old : List ℤ) → difference_from i old [] ≡ []
to_nothing i [] = refl
to_nothing i (x ∷ old) = refl

-- behind the end of one of them
at_end : (old new : List ℤ) (i count : ℕ) (b : Bool) → nat_le (length old) i ≡ b → count ≤ i → count ≡ min (length old) (length new) →
    difference_from i (drop i old) (drop i new) ≡ []
at_end old new i count true e h c = ap (λ xs. difference_from i xs (drop i new)) (drop_all i old (leb-true (length old) i e))
at_end old new i count false e h c =
    let l : i < length old = leb-false (length old) i e in
    ap (difference_from i (drop i old)) (drop_all i new (omega (arith, h, c, l))) ∙ to_nothing i (drop i old)

pub all_end : (old new : List ℤ) (i count : ℕ) (now : List Change) → InDifference old new i now → count ≤ i →
    count ≡ min (length old) (length new) → now ≡ difference old new
all_end old new i count now b h c =
    sym (b.same ∙ ap (λ ds. now ++ ds) (at_end old new i count (nat_le (length old) i) refl h c) ∙ append-nil now)

-- ---- one cell

no_change : (c : ℕ) (x : ℤ) → change_at c x x ≡ []
no_change c x = ap (λ b. if b then [] else record { cell = c; before = x; after = x } ∷ []) (is_equal-self x)

-- nothing differs
nothing_from : (c : ℕ) (cells : List ℤ) → difference_from c cells cells ≡ []
nothing_from c [] = refl
nothing_from c (x ∷ cells) = ap (λ ds. ds ++ difference_from (c + 1) cells cells) (no_change c x) ∙ nothing_from (c + 1) cells

pub none_of_it : (cells : List ℤ) (now : List Change) → now ≡ [] → now ≡ difference cells cells
none_of_it cells now e = e ∙ sym (nothing_from 0 cells)

one_from : (k c : ℕ) (cells : List ℤ) (v : ℤ) → c < length cells →
    difference_from k cells (set cells c v) ≡ change_at (k + c) (get_or cells c (pos 0)) v
one_from k c [] v h = absurd (omega (arith, h))
one_from k zero (x ∷ cells) v h =
    ap (λ ds. change_at k x v ++ ds) (nothing_from (k + 1) cells) ∙ append-nil (change_at k x v)
    ∙ ap (λ c. change_at c x v) (let e : k ≡ k + zero = omega arith in e)
one_from k (suc c) (x ∷ cells) v h =
    ap (λ ds. ds ++ difference_from (k + 1) cells (set cells c v)) (no_change k x)
    ∙ one_from (k + 1) c cells v (omega (arith, h))
    ∙ ap (λ j. change_at j (get_or cells c (pos 0)) v) (let e : (k + 1) + c ≡ k + suc c = omega arith in e)

none_from : (k c : ℕ) (cells : List ℤ) (v : ℤ) → length cells ≤ c → difference_from k cells (set cells c v) ≡ []
none_from k c [] v h = refl
none_from k zero (x ∷ cells) v h = absurd (omega (arith, h))
none_from k (suc c) (x ∷ cells) v h =
    ap (λ ds. ds ++ difference_from (k + 1) cells (set cells c v)) (no_change k x) ∙ none_from (k + 1) c cells v (omega (arith, h))

-- what a cell holds that was written
pub held_inside : (cells : List ℤ) (c : ℕ) (v : ℤ) → c < length cells → v ≡ get_or (set cells c v) c (pos 0)
held_inside cells c v h = sym (get_or-set_same cells c v (pos 0) h)

pub held_outside : (cells : List ℤ) (c : ℕ) (v : ℤ) → length cells ≤ c → pos 0 ≡ get_or (set cells c v) c (pos 0)
held_outside [] c v h = refl
held_outside (x ∷ cells) zero v h = absurd (omega (arith, h))
held_outside (x ∷ cells) (suc c) v h = held_outside cells c v (omega (arith, h))

pub one_inside : (cells : List ℤ) (c : ℕ) (v x : ℤ) (now new : List Change) → c < length cells → x ≡ get_or cells c (pos 0) → now ≡ [] →
    new ≡ now ++ change_at c x v → new ≡ difference cells (set cells c v)
one_inside cells c v x now new h u e f =
    f ∙ ap (λ ds. ds ++ change_at c x v) e ∙ ap (λ x. change_at c x v) u
    ∙ ap (λ k. change_at k (get_or cells c (pos 0)) v) (let i : c ≡ 0 + c = omega arith in i) ∙ sym (one_from 0 c cells v h)

pub one_outside : (cells : List ℤ) (c : ℕ) (v : ℤ) (now : List Change) → length cells ≤ c → now ≡ [] →
    now ≡ difference cells (set cells c v)
one_outside cells c v now h e = e ∙ sym (none_from 0 c cells v h)
