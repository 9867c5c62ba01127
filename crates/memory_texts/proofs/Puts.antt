-- Values are put into cells one by one.
use Rattle.std.proofs.Common.{◌≡◌, ◌∙◌, ◌+◌, ◌<◌, ◌≤◌, ◌++◌, ◌∷◌, [], List, ℕ, ℤ, pos, suc, ap, append_assoc, arith, drop, get_or, length}
use Rattle.std.proofs.Common.{length-append, length-take, refl, sym, take}
use Rattle.std.proofs.Math.ListN.{set}
use Rattle.std.proofs.lemmas.List.{drop_more, take_more}

set-seam : (xs ys : List ℤ) (d v : ℤ) (n : ℕ) → n ≡ length xs → set (xs ++ d ∷ ys) n v ≡ xs ++ v ∷ ys
set-seam [] ys d v n is = ap (λ n. set (d ∷ ys) n v) is
set-seam (x ∷ xs) ys d v n is =
    let k : n ≡ suc (length xs) = omega (arith, is) in
    ap (λ n. set (x ∷ (xs ++ d ∷ ys)) n v) k ∙ ap (λ l. x ∷ l) (set-seam xs ys d v (length xs) refl)

module _ (old values : List ℤ) (first i : ℕ) (there : first + length values ≤ length old) (below : i < length values) where
  -- the cells before the one that is put
  abbrev pub before : List ℤ
  before = take first old ++ take i values

  before_length : length before ≡ first + i
  before_length = omega (arith, length-append (take first old) (take i values), length-take first old, length-take i values)

  pub put_more : (now : List ℤ) → now ≡ take first old ++ (take i values ++ drop (first + i) old) →
      set now (first + i) (get_or values i (pos 0)) ≡ take first old ++ (take (i + 1) values ++ drop (first + (i + 1)) old)
  put_more now is =
      let v = get_or values i (pos 0) in
      let d = get_or old (first + i) (pos 0) in
      let rest = drop (first + i + 1) old in
      let next : first + i + 1 ≡ first + (i + 1) = omega arith in
      let split : now ≡ before ++ d ∷ rest =
      is ∙ ap (λ l. take first old ++ (take i values ++ l)) (drop_more old (first + i) (pos 0) (omega arith))
      ∙ sym (append_assoc (take first old) (take i values) (d ∷ rest)) in
      ap (λ l. set l (first + i) v) split ∙ set-seam before rest d v (first + i) (sym before_length)
      ∙ append_assoc (take first old) (take i values) (v ∷ rest)
      ∙ ap (λ l. take first old ++ l) (sym (append_assoc (take i values) (v ∷ []) rest))
      ∙ ap (λ l. take first old ++ (l ++ rest)) (sym (take_more values i (pos 0) below))
      ∙ ap (λ n. take first old ++ (take (i + 1) values ++ drop n old)) next
