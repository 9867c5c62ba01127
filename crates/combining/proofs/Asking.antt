-- Asks by their keys, their words, and the values that come for them.
use Rattle.std.proofs.Common.{◌≡◌, ℕ, ℤ, suc, ◌+◌, ◌*◌, ◌/◌, ◌%◌, ◌^◌, ◌<◌, ◌≤◌, List, [], ◌∷◌, ◌++◌, length, get_or, drop, Bool, true}
use Rattle.std.proofs.Common.{false, refl, sym, ap, ◌∙◌, arith, eqb, cond, pos, ⊎_elim, append_assoc}
use Rattle.std.specs.Prelude.{if◌then◌else◌, ◌==◌, nat_lt, ◌&&◌}
use Rattle.std.specs.List.{flat_map, filter}
use Rattle.std.proofs.lemmas.List.{drop_more, drop_all}
use Rattle.std.proofs.lemmas.Bool.{cases_lt, lt-ltb}
use Rattle.superstep_machine.specs.Words.{bit, ask_word, ask_words}
use Rattle.combining.specs.Asked.{Asked}
use Rattle.combining.specs.Places.{place_of}
use Rattle.combining.specs.Held.{paired}
use Rattle.combining.specs.Asked.{HeldAsk, ask_at, ask_key, key_of, asks_for, value_for, answered, replied}

-- the key of a number of a read and a cell gives them back
pub key_parts : (k : ℕ) → k % 2 ^ 20 + 2 ^ 20 * (k / 2 ^ 20) ≡ k
key_parts k = omega arith

pub meant_at : (read cell k : ℕ) (a : Asked) → eqb (key_of (ask_at k a).ask) (ask_key read cell) ≡ eqb k (ask_key read cell)
meant_at read cell k a = ap (λ n. eqb n (ask_key read cell)) (key_parts k)

pub fresh_at : (read cell : ℕ) → cell < 2 ^ 20 → ask_at (ask_key read cell) (record { again = false; value = pos 0 }) ≡ record {
  ask =
      record { read = read; cell = cell; twice = false };
  value = pos 0;
}
fresh_at read cell h =
    let r : (cell + 2 ^ 20 * read) / 2 ^ 20 ≡ read = omega arith in
    let c : (cell + 2 ^ 20 * read) % 2 ^ 20 ≡ cell = omega arith in
    λ i. record { ask = record { read = r i; cell = c i; twice = false }; value = pos 0 }

pub word_at : (k : ℕ) (a : Asked) → ask_word (ask_at k a).ask ≡ k + 2 ^ 23 * bit a.again
word_at k a = let p = key_parts k in ap (λ n. n + 2 ^ 23 * bit a.again) p

-- ---- packing

abbrev pub words_of : HeldAsk → List ℕ
words_of x = ask_word x.ask ∷ []

abbrev pub is_for : (ℕ → ℕ) → ℕ → HeldAsk → Bool
is_for part j x = eqb (part x.ask.cell) j

pub words_for : (part : ℕ → ℕ) (j : ℕ) (held : List HeldAsk) →
    ask_words (asks_for part j held) ≡ flat_map words_of (filter (is_for part j) held)
words_for part j [] = refl
words_for part j (x ∷ held) = go (is_for part j x) (words_for part j held)
  where
    go : (b : Bool) → ask_words (asks_for part j held) ≡ flat_map words_of (filter (is_for part j) held)
        → ask_words (cond b (x.ask ∷ asks_for part j held) (asks_for part j held)) ≡ flat_map words_of
        (cond b (x ∷ filter (is_for part j) held) (filter (is_for part j) held))
    go true h = ap (λ ws. ask_word x.ask ∷ ws) h
    go false h = h

-- ---- the value for a key

module _ (read cell : ℕ) where
  value_if : (k : ℕ) (z : Asked) (rest : ℤ) →
      (if eqb (key_of (ask_at k z).ask) (ask_key read cell) then z.value else rest) ≡ (if k == ask_key read cell then z.value else rest)
  value_if k z rest = ap (λ (b : Bool). if b then z.value else rest) (meant_at read cell k z)

  pub value_here : (ks : List ℕ) (xs : List Asked) (x : Asked) → length xs ≡ length ks → place_of (ask_key read cell) ks < length xs →
      x ≡ get_or xs (place_of (ask_key read cell) ks) x → x.value ≡ value_for read cell (paired ask_at ks xs)
  value_here [] xs x n l is = absurd (omega arith)
  value_here (k ∷ ks) [] x n l is = absurd (omega arith)
  value_here (k ∷ ks) (z ∷ xs) x n l is = step (k == ask_key read cell) (λ m e. value_here ks xs x (omega arith) m e) l is
      ∙ sym (value_if k z (value_for read cell (paired ask_at ks xs)))
    where
      step : (b : Bool) → (place_of (ask_key read cell) ks < length xs → x ≡ get_or xs (place_of (ask_key read cell) ks) x →
          x.value ≡ value_for read cell (paired ask_at ks xs))
          → (if b then 0 else suc (place_of (ask_key read cell) ks)) < suc (length xs) →
          x ≡ get_or (z ∷ xs) (if b then 0 else suc (place_of (ask_key read cell) ks)) x
          → x.value ≡ (if b then z.value else value_for read cell (paired ask_at ks xs))
      step true go l is = ap (λ (w : Asked). w.value) is
      step false go l is = go (omega arith) is

  pub value_nowhere : (ks : List ℕ) (xs : List Asked) → length xs ≡ length ks → length xs ≤ place_of (ask_key read cell) ks →
      pos 0 ≡ value_for read cell (paired ask_at ks xs)
  value_nowhere [] xs n l = refl
  value_nowhere (k ∷ ks) [] n l = absurd (omega arith)
  value_nowhere (k ∷ ks) (z ∷ xs) n l = step (k == ask_key read cell) (λ m. value_nowhere ks xs (omega arith) m) l
      ∙ sym (value_if k z (value_for read cell (paired ask_at ks xs)))
    where
      step : (b : Bool) → (length xs ≤ place_of (ask_key read cell) ks → pos 0 ≡ value_for read cell (paired ask_at ks xs)) →
          suc (length xs) ≤ (if b then 0 else suc (place_of (ask_key read cell) ks))
          → pos 0 ≡ (if b then z.value else value_for read cell (paired ask_at ks xs))
      step true go l = absurd (omega arith)
      step false go l = go (omega arith)

-- ---- a reply

module _ (part : ℕ → ℕ) (j : ℕ) (ws : List ℕ) (n i : ℕ) (before : List HeldAsk) (held : List HeldAsk) (q : HeldAsk)
    (more : drop i held ≡ q ∷ drop (i + 1) held) (all : List HeldAsk)
    (known : before ++ replied part j (drop n ws) (drop i held) ≡ all) where
  pub reply_yes : (y : HeldAsk) → n < length ws → is_for part j q ≡ true → y ≡ answered q (get_or ws n 0) →
      (before ++ y ∷ []) ++ replied part j (drop (n + 1) ws) (drop (i + 1) held) ≡ all
  reply_yes y l h e =
      append_assoc before (y ∷ []) (replied part j (drop (n + 1) ws) (drop (i + 1) held))
      ∙ sym (ap (λ w. before ++ w)
      (ap (replied part j (drop n ws)) more
      ∙ ap (λ w. replied part j w (q ∷ drop (i + 1) held)) (drop_more ws n 0 l)
      ∙ ap (λ (b : Bool). if b then answered q (get_or ws n 0) ∷ replied part j (drop (n + 1) ws) (drop (i + 1) held) else q
      ∷ replied part j (get_or ws n 0 ∷ drop (n + 1) ws) (drop (i + 1) held)) h
      ∙ ap (λ (w : HeldAsk). w ∷ replied part j (drop (n + 1) ws) (drop (i + 1) held)) (sym e)))
      ∙ known

  pub reply_not : (nat_lt n (length ws) && is_for part j q) ≡ false → (before ++ q ∷ []) ++ replied part j (drop n ws)
      (drop (i + 1) held) ≡ all
  reply_not h =
      append_assoc before (q ∷ []) (replied part j (drop n ws) (drop (i + 1) held))
      ∙ sym (ap (λ w. before ++ w) (ap (replied part j (drop n ws)) more ∙ same))
      ∙ known
    where
      none : (xs : List HeldAsk) → replied part j [] xs ≡ xs
      none [] = refl
      none (x ∷ xs) = refl

      same : replied part j (drop n ws) (q ∷ drop (i + 1) held) ≡ q ∷ replied part j (drop n ws) (drop (i + 1) held)
      same =
          ⊎_elim
          (λ lt.
          let other : is_for part j q ≡ false = sym (ap (λ (b : Bool). b && is_for part j q) (lt-ltb n (length ws) lt)) ∙ h in
          let d = drop_more ws n 0 lt in
          ap (λ w. replied part j w (q ∷ drop (i + 1) held)) d
          ∙ ap (λ (b : Bool). if b then answered q (get_or ws n 0) ∷ replied part j (drop (n + 1) ws) (drop (i + 1) held) else q
          ∷ replied part j (get_or ws n 0 ∷ drop (n + 1) ws) (drop (i + 1) held)) other
          ∙ sym (ap (λ w. q ∷ replied part j w (drop (i + 1) held)) d))
          (λ ge.
          let d = drop_all n ws ge in
          ap (λ w. replied part j w (q ∷ drop (i + 1) held)) d ∙ ap (λ w. q ∷ w) (sym (none (drop (i + 1) held)))
          ∙ sym (ap (λ w. q ∷ replied part j w (drop (i + 1) held)) d))
          (cases_lt n (length ws))

-- lists with the same rest have the same item there
pub same_item : {X : Type 0} (xs ys : List X) (i : ℕ) (d : X) → i < length xs → i < length ys → drop i xs ≡ drop i ys →
    (get_or xs i d ≡ get_or ys i d) × (drop (i + 1) xs ≡ drop (i + 1) ys)
same_item xs ys i d l m e =
    let a = drop_more xs i d l in
    let b = drop_more ys i d m in
    (cc, cc)
