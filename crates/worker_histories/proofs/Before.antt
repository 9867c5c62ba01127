-- Histories up to an earlier exchange.
use Rattle.std.proofs.Common.{◌≡◌, ℕ, zero, suc, ◌≤◌, List, [], ◌∷◌, length, take, length-take-le, None, false, refl, sym, ap, ◌∙◌, arith}
use Rattle.std.specs.List.{AllByRecursion}
use Rattle.superstep_machine.specs.Machine.{Machine, row}
use Rattle.superstep_machine.specs.Setting.{Setting, workers}
use Rattle.superstep_machine.specs.Run.{State, is_over}
use Rattle.worker_exchange.specs.Rows.{WrittenMessage}
use Rattle.worker_histories.specs.Histories.{rows_by, HoldsBefore, entry, HaveExchanged}
use Rattle.worker_histories.specs.InWords.{in_words, AreGivenBack, IsUnderway}

module _ {A : Type 0} where
  none_before : (ys : List (List A)) (j : ℕ) → ((k : ℕ) → entry ys k j ≡ None) → (n k : ℕ) → entry (take n ys) k j ≡ None
  none_before ys j h zero k = refl
  none_before [] j h (suc n) k = refl
  none_before (y ∷ ys) j h (suc n) zero = h 0
  none_before (y ∷ ys) j h (suc n) (suc k) = none_before ys j (λ m. h (suc m)) n k

  -- entries that agree do so among the first n lists
  same_before : (xs ys : List (List A)) (i j : ℕ) → ((k : ℕ) → entry xs k i ≡ entry ys k j) → (n k : ℕ) →
      entry (take n xs) k i ≡ entry (take n ys) k j
  same_before xs ys i j h zero k = refl
  same_before [] ys i j h (suc n) k = sym (none_before ys j (λ m. sym (h m)) (suc n) k)
  same_before (x ∷ xs) [] i j h (suc n) k = none_before (x ∷ xs) i h (suc n) k
  same_before (x ∷ xs) (y ∷ ys) i j h (suc n) zero = h 0
  same_before (x ∷ xs) (y ∷ ys) i j h (suc n) (suc k) = same_before xs ys i j (λ m. h (suc m)) n k

  all_before : (P : A → Type 0) (xs : List A) → AllByRecursion P xs → (n : ℕ) → AllByRecursion P (take n xs)
  all_before P xs h zero = tt
  all_before P [] h (suc n) = tt
  all_before P (x ∷ xs) h (suc n) = (h.0, all_before P xs h.1 n)

-- workers that exchanged had exchanged before
pub exchanged_before : {M : Type 0} (p n m : ℕ) (rows columns : ℕ → List (List M)) → HaveExchanged p m rows columns → n ≤ m →
    HaveExchanged p n (λ w. take n (rows w)) (λ w. take n (columns w))
exchanged_before {M} p n m rows columns e few = record {
  many = λ w h. (let all = e.many w h in length-take-le n (columns w) (omega (arith, all, few)));
  wide = λ w h. all_before (λ (c : List M). length c ≡ p) (columns w) (e.wide w h) n;
  same = λ i j k hi hj. same_before (columns j) (rows i) i j (λ m. e.same i j m hi hj) n k;
}

module _ {S M O : Type 0} (b : Machine S M O) where
  rows_before : (p w : ℕ) (s : S) (cs : List (List M)) (n : ℕ) → take n (rows_by b p w s cs) ≡ rows_by b p w s (take n cs)
  rows_before p w s cs zero = refl
  rows_before p w s [] (suc n) = refl
  rows_before p w s (c ∷ cs) (suc n) = ap (λ rs. row b p w s ∷ rs) (rows_before p w (b.next w s c) cs n)

  held_before : (P : S → Type 0) (w : ℕ) (s : S) (cs : List (List M)) → HoldsBefore b P w s cs → (n : ℕ) →
      HoldsBefore b P w s (take n cs)
  held_before P w s cs h zero = tt
  held_before P w s [] h (suc n) = tt
  held_before P w s (c ∷ cs) h (suc n) = (h.0, held_before P w (b.next w s c) cs h.1 n)

-- a history underway was so before
pub underway_before : (t : Setting) (w : ℕ) (s : State) (columns rows : List (List WrittenMessage)) → IsUnderway t w s columns rows →
    (n : ℕ) → IsUnderway t w s (take n columns) (take n rows)
underway_before t w s columns rows u n = record {
  sent = ap (take n) u.sent ∙ rows_before (in_words t) (workers t) w s columns n;
  going = held_before (in_words t) (λ (q : State). is_over q.way ≡ false) w s columns u.going n;
  given_back = held_before (in_words t) (AreGivenBack t w) w s columns u.given_back n;
}
