-- Asks by one read, cell by cell; and keys that ascend.
use Rattle.std.proofs.Common.{◌≡◌, ℕ, ◌+◌, ◌<◌, ◌^◌, List, [], ◌∷◌, ◌++◌, length, map, take, get_or, Option, Some, None, refl, sym, ap, ◌∙◌}
use Rattle.std.proofs.Common.{arith, subst, set, ⊎_elim, length-append, true, false, pos, eqb}
use Rattle.std.proofs.lemmas.List.{get_or-take, length-take, take_more, map-append, get_or_push, get_or_append_left}
use Rattle.std.proofs.Math.ListN.{get_or-eq_default}
use Rattle.std.proofs.lemmas.Bool.{cases_lt}
use Rattle.superstep_machine.specs.Sending.{present}
use Rattle.combining.specs.Asked.{Asked}
use Rattle.combining.specs.Places.{place_of, AscendFrom, IsAbove}
use Rattle.combining.specs.Columns.{AreBelow}
use Rattle.combining.specs.Held.{hold, paired}
use Rattle.combining.specs.Asked.{HeldAsk, ask, ask_at, ask_key, key_of, marked_twice}
use Rattle.combining.specs.Adding.{by_read, asked_after}
use Rattle.combining.proofs.Pairs.{hold_at, hold_new}
use Rattle.combining.proofs.Asking.{meant_at, fresh_at}
use Rattle.combining.proofs.Ascents.{place_above, place_last}

pub asked_after_append : (xs ys : List (ℕ × ℕ)) (held : List HeldAsk) → asked_after (xs ++ ys) held ≡ asked_after ys (asked_after xs held)
asked_after_append [] ys held = refl
asked_after_append (x ∷ xs) ys held = asked_after_append xs ys (ask x.0 x.1 held)

pub present_more : (xs : List (Option ℕ)) (c : Option ℕ) → present (xs ++ c ∷ []) ≡ present xs ++ present (c ∷ [])
present_more [] c = refl
present_more (None ∷ xs) c = present_more xs c
present_more (Some x ∷ xs) c = ap (λ r. x ∷ r) (present_more xs c)

-- one cell more
pub asks_next : (k : ℕ) (cells : List (Option ℕ)) (j : ℕ) (held : List HeldAsk) → j < length cells →
    asked_after (by_read k (take (j + 1) cells)) held
    ≡ asked_after (by_read k (get_or cells j None ∷ [])) (asked_after (by_read k (take j cells)) held)
asks_next k cells j held l =
    ap (λ cs. asked_after (by_read k cs) held) (take_more cells j None l)
    ∙ ap (λ cs. asked_after (map (λ (c : ℕ). (k, c)) cs) held) (present_more (take j cells) (get_or cells j None))
    ∙ ap (λ these. asked_after these held) (map-append (λ (c : ℕ). (k, c)) (present (take j cells)) (present (get_or cells j None ∷ [])))
    ∙ asked_after_append (by_read k (take j cells)) (by_read k (get_or cells j None ∷ [])) held

pub asks_next_cell : (k : ℕ) (cells : List (Option ℕ)) (j : ℕ) (held : List HeldAsk) (cell : ℕ) → j < length cells →
    get_or cells j None ≡ Some cell → asked_after (by_read k (take (j + 1) cells)) held
    ≡ ask k cell (asked_after (by_read k (take j cells)) held)
asks_next_cell k cells j held cell l e =
    asks_next k cells j held l ∙ ap (λ c. asked_after (by_read k (c ∷ [])) (asked_after (by_read k (take j cells)) held)) e

pub asks_next_none : (k : ℕ) (cells : List (Option ℕ)) (j : ℕ) (held : List HeldAsk) → j < length cells →
    get_or cells j None ≡ None → asked_after (by_read k (take (j + 1) cells)) held ≡ asked_after (by_read k (take j cells)) held
asks_next_none k cells j held l e =
    asks_next k cells j held l ∙ ap (λ c. asked_after (by_read k (c ∷ [])) (asked_after (by_read k (take j cells)) held)) e

-- cells that are below stay below where the column is cut
pub below_take : (n many : ℕ) (cells : List (Option ℕ)) → ((j cell : ℕ) → j < many → get_or cells j None ≡ Some cell → cell < n) →
    AreBelow n (take many cells)
below_take n many cells h j cell e =
    ⊎_elim
    (λ lt. h j cell lt (sym (get_or-take many cells j None lt) ∙ e))
    (λ ge. absurd (none_is_none cell (sym (get_or-eq_default (take many cells) None
    (let l = length-take many cells in omega (arith, l, ge))) ∙ e)))
    (cases_lt j many)
  where
    none_is_none : (cell : ℕ) → None ≡ Some cell → ⊥
    none_is_none cell q = cc q

pub none_of : (o : Option ℕ) → ((x : ℕ) → o ≡ Some x → ⊥) → o ≡ None
none_of None h = refl
none_of (Some x) h = absurd (h x refl)

-- an ask whose key is above all, and one for the cell of the last ask
abbrev again : Asked → Asked
again x = record { again = true; value = x.value }

pub asked_above : (read cell : ℕ) (ks : List ℕ) (xs : List Asked) → length xs ≡ length ks → cell < 2 ^ 20 →
    ((i : ℕ) → i < length ks → get_or ks i 0 < ask_key read cell) →
    paired ask_at (ks ++ ask_key read cell ∷ []) (xs ++ record { again = false; value = pos 0 } ∷ []) ≡ ask read cell (paired ask_at ks xs)
asked_above read cell ks xs n small below =
    let key = ask_key read cell in
    let fresh : Asked = record { again = false; value = pos 0 } in
    hold_new ask_at (λ (x : HeldAsk). eqb (key_of x.ask) key) marked_twice again key fresh (meant_at read cell) (λ k x. refl) ks xs n
    (sym (place_above key ks below))
    ∙ ap (λ (y : HeldAsk). hold (λ (x : HeldAsk). eqb (key_of x.ask) key) marked_twice y (paired ask_at ks xs)) (fresh_at read cell small)

pub asked_last : (read cell : ℕ) (ks : List ℕ) (xs : List Asked) (n : ℕ) (x y : Asked) → length xs ≡ length ks → cell < 2 ^ 20 →
    n + 1 ≡ length ks → AscendFrom 0 ks → get_or ks n 0 ≡ ask_key read cell → x ≡ get_or xs n x → y ≡ again x →
    paired ask_at ks (set xs n y) ≡ ask read cell (paired ask_at ks xs)
asked_last read cell ks xs n x y long small last ascend here is made =
    let key = ask_key read cell in
    let fresh : Asked = record { again = false; value = pos 0 } in
    let p : n ≡ place_of key ks = place_last key ks n 0 ascend (omega arith) (omega (arith, last)) here in
    subst (λ (m : ℕ). paired ask_at ks (set xs m y) ≡ ask read cell (paired ask_at ks xs)) (sym p)
    (hold_at ask_at (λ (x : HeldAsk). eqb (key_of x.ask) key) marked_twice again key fresh (meant_at read cell) (λ k x. refl) ks xs x y long
    (omega (arith, p, long, last)) (subst (λ (m : ℕ). x ≡ get_or xs m x) p is) made
    ∙ ap (λ (y : HeldAsk). hold (λ (x : HeldAsk). eqb (key_of x.ask) key) marked_twice y (paired ask_at ks xs)) (fresh_at read cell small))

-- one key more
pub above_more : (keys : List ℕ) (least key : ℕ) → IsAbove least keys → least < key + 1 → IsAbove (key + 1) (keys ++ key ∷ [])
above_more keys least key above small =
    let n = length-append keys (key ∷ []) in
    let newest : get_or (keys ++ key ∷ []) (length keys) 0 ≡ key = get_or_push keys key 0 (length keys) refl in
    record {
      all = λ i l.
          ⊎_elim
          (λ lt. let a = above.all i lt in let b = get_or_append_left keys (key ∷ []) 0 i lt in omega (arith, a, b, small))
          (λ ge.
          let q : length keys ≡ i = omega (arith, n, l, ge) in
          subst (λ (x : ℕ). get_or (keys ++ key ∷ []) x 0 < key + 1) q (omega (arith, newest)))
          (cases_lt i (length keys));
      last = λ i e.
          let q : length keys ≡ i = omega (arith, n, e) in
          subst (λ (x : ℕ). get_or (keys ++ key ∷ []) x 0 + 1 ≡ key + 1) q (ap (λ x. x + 1) newest);
      some = λ p. omega (arith, n);
    }
