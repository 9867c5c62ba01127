-- Writes to one cell, on their way.
use Rattle.std.proofs.Common.{◌≡◌, ℕ, ℤ, zero, suc, pos, negsuc, ◌+ℤ◌, ◌+◌, ◌-◌, ◌*◌, ◌^◌, ◌<◌, ◌≤◌, List, [], ◌∷◌, drop, length, get_or}
use Rattle.std.proofs.Common.{refl, ap, sym, ◌∙◌, Ok, Err, if◌then◌else◌, true, false, int_le, arith, neg_ℤ, ◌≤ℤ◌, FitsSigned}
use Rattle.std.specs.Int.{w64}
use Rattle.std.proofs.lemmas.Bool.{lt-ltb, le-ltb}
use Rattle.std.proofs.lemmas.List.{drop_more, drop_all}
use Rattle.std.proofs.lemmas.Int.{ints}
use Rattle.pram_values.specs.Truth.{is_equal}
use Rattle.pram_values.specs.declared.kind.Kind.TheVariants.{WriteConflict}
use Rattle.write_rules.specs.Rule.{common_value, least_writer, sum_of}
use Rattle.write_rules.specs.declared.write.Write.{Write}

-- ---- one common value

pub record InCommon (x : ℤ) (ws : List Write) (i : ℕ) : Type 0 where
  pub same : common_value x ws ≡ common_value x (drop i ws)

pub common_starts : (x : ℤ) (ws : List Write) → InCommon x ws 0
common_starts x ws = record { same = refl }

next_common : (x : ℤ) (ws : List Write) (i : ℕ) (w : Write) → InCommon x ws i → i < length ws → w ≡ get_or ws i w →
    common_value x ws ≡ (if is_equal x w.value then common_value x (drop (i + 1) ws) else Err WriteConflict)
next_common x ws i w b h is = b.same ∙ ap (common_value x) (drop_more ws i w h ∙ ap (λ y. y ∷ drop (i + 1) ws) (sym is))

pub common_goes : (x : ℤ) (ws : List Write) (i : ℕ) (w : Write) → InCommon x ws i → i < length ws → w ≡ get_or ws i w → x ≡ w.value →
    InCommon x ws (i + 1)
common_goes x ws i w b h is e =
    let q : is_equal x w.value ≡ true = grind (arith, ints) in
    record { same = next_common x ws i w b h is ∙ ap (λ c. if c then common_value x (drop (i + 1) ws) else Err WriteConflict) q }

pub common_clashes : (x : ℤ) (ws : List Write) (i : ℕ) (w : Write) → InCommon x ws i → i < length ws → w ≡ get_or ws i w → ¬ (x ≡ w.value) →
    Err WriteConflict ≡ common_value x ws
common_clashes x ws i w b h is e =
    let q : is_equal x w.value ≡ false = grind (arith, ints) in
    sym (next_common x ws i w b h is ∙ ap (λ c. if c then common_value x (drop (i + 1) ws) else Err WriteConflict) q)

pub common_ends : (x : ℤ) (ws : List Write) (i : ℕ) → InCommon x ws i → length ws ≤ i → Ok x ≡ common_value x ws
common_ends x ws i b h = sym (b.same ∙ ap (common_value x) (drop_all i ws h))

-- ---- the least writer

pub record InLeast (first : Write) (ws : List Write) (i : ℕ) (now : Write) : Type 0 where
  pub same : least_writer first ws ≡ least_writer now (drop i ws)

pub least_starts : (first : Write) (ws : List Write) → InLeast first ws 0 first
least_starts first ws = record { same = refl }

next_least : (first : Write) (ws : List Write) (i : ℕ) (now w : Write) → InLeast first ws i now → i < length ws → w ≡ get_or ws i w →
    least_writer first ws ≡ (if int_le now.processor w.processor then least_writer now (drop (i + 1) ws) else
    least_writer w (drop (i + 1) ws))
next_least first ws i now w b h is = b.same ∙ ap (least_writer now) (drop_more ws i w h ∙ ap (λ y. y ∷ drop (i + 1) ws) (sym is))

pub least_stays : (first : Write) (ws : List Write) (i : ℕ) (now w : Write) → InLeast first ws i now → i < length ws → w ≡ get_or ws i w →
    int_le now.processor w.processor ≡ true → InLeast first ws (i + 1) now
least_stays first ws i now w b h is e =
    record {
      same = next_least first ws i now w b h is
          ∙ ap (λ c. if c then least_writer now (drop (i + 1) ws) else least_writer w (drop (i + 1) ws)) e;
    }

pub least_goes : (first : Write) (ws : List Write) (i : ℕ) (now w : Write) → InLeast first ws i now → i < length ws → w ≡ get_or ws i w →
    int_le now.processor w.processor ≡ false → InLeast first ws (i + 1) w
least_goes first ws i now w b h is e =
    record {
      same = next_least first ws i now w b h is
          ∙ ap (λ c. if c then least_writer now (drop (i + 1) ws) else least_writer w (drop (i + 1) ws)) e;
    }

pub least_ends : (first : Write) (ws : List Write) (i : ℕ) (now : Write) → InLeast first ws i now → length ws ≤ i →
    now.value ≡ (least_writer first ws).value
least_ends first ws i now b h = sym (ap (λ (w : Write). w.value) (b.same ∙ ap (least_writer now) (drop_all i ws h)))

-- ---- the sum, which stays within as many values as were added

pub record InSum (ws : List Write) (i : ℕ) (now : ℤ) : Type 0 where
  pub same : sum_of ws ≡ now +ℤ sum_of (drop i ws)
  pub below : neg_ℤ (pos (i * 2 ^ 63)) ≤ℤ now
  pub above : now ≤ℤ pos (i * 2 ^ 63)

least_value : (v : ℤ) → FitsSigned w64 v → neg_ℤ (pos (2 ^ 63)) ≤ℤ v
least_value (pos n) f = omega (arith, ints)
least_value (negsuc n) f = let h : n < 2 ^ 63 = f.sfits in omega (arith, ints)

most_value : (v : ℤ) → FitsSigned w64 v → v ≤ℤ pos (2 ^ 63)
most_value (pos n) f = let h : n < 2 ^ 63 = f.sfits in omega (arith, ints)
most_value (negsuc n) f = omega (arith, ints)

pub sum_starts : (ws : List Write) → InSum ws 0 (pos 0)
sum_starts ws = record { same = omega (arith, ints); below = omega (arith, ints); above = omega (arith, ints) }

pub sum_goes : (ws : List Write) (i : ℕ) (now new : ℤ) (w : Write) → InSum ws i now → i < length ws → w ≡ get_or ws i w →
    FitsSigned w64 w.value → new ≡ now +ℤ w.value → InSum ws (i + 1) new
sum_goes ws i now new w b h is f e = record {
  same = b.same ∙ ap (λ l. now +ℤ sum_of l) (drop_more ws i w h ∙ ap (λ y. y ∷ drop (i + 1) ws) (sym is)) ∙ omega (arith, ints, e);
  below = let l = b.below in let k = least_value w.value f in omega (arith, ints);
  above = let l = b.above in let k = most_value w.value f in omega (arith, ints);
}

pub same_item : {X : Type 0} (xs : List X) (i : ℕ) (a b : X) → i < length xs → get_or xs i a ≡ get_or xs i b
same_item [] i a b h = absurd (omega arith)
same_item (x ∷ xs) zero a b h = refl
same_item (x ∷ xs) (suc i) a b h = same_item xs i a b (omega arith)

pub sum_goes_at : (ws : List Write) (i : ℕ) (now new : ℤ) (d : Write) → InSum ws i now → i < length ws →
    FitsSigned w64 (get_or ws i d).value → new ≡ now +ℤ (get_or ws i d).value → InSum ws (i + 1) new
sum_goes_at ws i now new d b h f e = sum_goes ws i now new (get_or ws i d) b h (same_item ws i d (get_or ws i d) h) f e

pub sum_ends : (ws : List Write) (i : ℕ) (now : ℤ) → InSum ws i now → length ws ≤ i → now ≡ sum_of ws
sum_ends ws i now b h = sym (b.same ∙ ap (λ l. now +ℤ sum_of l) (drop_all i ws h) ∙ omega (arith, ints))

-- a sum of 128 bits has room for one more value
pub sum_low : (ws : List Write) (i : ℕ) (now : ℤ) → InSum ws i now → i < 2 ^ 64 → neg_ℤ (pos (2 ^ 127 - 2 ^ 63)) ≤ℤ now
sum_low ws i now b h = let l = b.below in omega (arith, ints)

pub sum_high : (ws : List Write) (i : ℕ) (now : ℤ) → InSum ws i now → i < 2 ^ 64 → now ≤ℤ pos (2 ^ 127 - 2 ^ 63)
sum_high ws i now b h = let l = b.above in omega (arith, ints)
