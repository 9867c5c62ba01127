-- The output and the values of the cells, item by item.
use Rattle.std.proofs.Common.{◌≡◌, ℕ, zero, suc, ◌+◌, ◌<◌, ◌≤◌, List, [], ◌∷◌, ◌++◌, length, map, take, drop, slice_index_or, Bool, true}
use Rattle.std.proofs.Common.{false, cond, ℤ, refl, sym, ap, ◌∙◌, arith}
use Rattle.std.specs.Prelude.{nat_lt}
use Rattle.std.proofs.lemmas.List.{append_assoc, append-nil}
use Rattle.std.specs.List.{filter, range_with_len}
use Rattle.superstep_machine.specs.Run.{items, items_below}
use Rattle.instruction_steps.specs.Views.{registers_of}
use Rattle.flat_run.proofs.ListLemmas.{split_at, drop_all}

shifted : (y : ℤ) (ys : List ℤ) (n k : ℕ) → map (registers_of (y ∷ ys)) (range_with_len (suc k) n) ≡ map (registers_of ys)
    (range_with_len k n)
shifted y ys zero k = refl
shifted y ys (suc n) k =
    let next : suc k + 1 ≡ suc (k + 1) = omega arith in
    ap (λ j. registers_of ys k ∷ map (registers_of (y ∷ ys)) (range_with_len j n)) next
    ∙ ap (λ l. registers_of ys k ∷ l) (shifted y ys n (k + 1))

-- the first values by number
pub first_values : (xs : List ℤ) (n : ℕ) → n ≤ length xs → take n xs ≡ map (registers_of xs) (range_with_len 0 n)
first_values xs zero h = refl
first_values [] (suc n) h = absurd (omega arith)
first_values (x ∷ xs) (suc n) h = ap (λ l. x ∷ l) (first_values xs n (omega arith) ∙ sym (shifted x xs n 0))

below_more : (count : ℕ) (x : ℕ × ℤ) (xs : List (ℕ × ℤ)) → items_below count (x ∷ xs) ≡ items_below count (x ∷ []) ++ items_below count xs
below_more count x xs = go (nat_lt x.0 count)
  where
    go : (b : Bool) → map (λ (y : ℕ × ℤ). y.1)
        (cond b (x ∷ filter (λ (y : ℕ × ℤ). nat_lt y.0 count) xs) (filter (λ (y : ℕ × ℤ). nat_lt y.0 count) xs))
        ≡ map (λ (y : ℕ × ℤ). y.1) (cond b (x ∷ []) []) ++ items_below count xs
    go true = refl
    go false = refl

-- the next item is taken in
pub item_goes : (found new : List ℤ) (output : List (ℕ × ℤ)) (k : ℕ) (x : ℕ × ℤ) → k < length output → x ≡ slice_index_or output k x →
    new ≡ found ++ x.1 ∷ [] →
    found ++ items (drop k output) ≡ items output → new ++ items (drop (k + 1) output) ≡ items output
item_goes found new output k x h e n o =
    ap (λ l. l ++ items (drop (k + 1) output)) n ∙ append_assoc found (x.1 ∷ []) (items (drop (k + 1) output))
    ∙ ap (λ (l : List (ℕ × ℤ)). found ++ items l) (sym (split_at output k x h e)) ∙ o

pub below_goes : (count : ℕ) (found new : List ℤ) (output : List (ℕ × ℤ)) (k : ℕ) (x : ℕ × ℤ) → k < length output →
    x ≡ slice_index_or output k x →
    new ≡ found ++ items_below count (x ∷ []) →
    found ++ items_below count (drop k output) ≡ items_below count output →
    new ++ items_below count (drop (k + 1) output) ≡ items_below count output
below_goes count found new output k x h e n o =
    ap (λ l. l ++ items_below count (drop (k + 1) output)) n
    ∙ append_assoc found (items_below count (x ∷ [])) (items_below count (drop (k + 1) output))
    ∙ ap (λ l. found ++ l) (sym (below_more count x (drop (k + 1) output)))
    ∙ ap (λ (l : List (ℕ × ℤ)). found ++ items_below count l) (sym (split_at output k x h e)) ∙ o

pub items_end : (found : List ℤ) (output : List (ℕ × ℤ)) (k : ℕ) → length output ≤ k → found ++ items (drop k output) ≡ items output →
    found ≡ items output
items_end found output k h o = sym (append-nil found) ∙ ap (λ (l : List (ℕ × ℤ)). found ++ items l) (sym (drop_all output k h)) ∙ o

pub below_end : (count : ℕ) (found : List ℤ) (output : List (ℕ × ℤ)) (k : ℕ) → length output ≤ k →
    found ++ items_below count (drop k output) ≡ items_below count output → found ≡ items_below count output
below_end count found output k h o = sym (append-nil found)
    ∙ ap (λ (l : List (ℕ × ℤ)). found ++ items_below count l) (sym (drop_all output k h)) ∙ o
