-- Reading the words of an input from a place on.
use Rattle.std.proofs.Common.{◌≡◌, ℕ, zero, suc, ◌+◌, ◌<◌, ◌≤◌, ℤ, Bool, true, false, not, cond, List, [], ◌∷◌, ◌++◌, map, take, drop}
use Rattle.std.proofs.Common.{length, Option, Some, None, refl, sym, ap, ◌∙◌, arith, append_assoc, length-drop, subst}
use Rattle.std.specs.List.{prefix_len}
use Rattle.std.proofs.lemmas.List.{drop-drop, map-append}
use Rattle.pram_tokens.specs.Input.{AreNumbers, IsInputOf, IsFirstWrong, Word, begins_word, number_of, with_byte, words}
use Rattle.pram_tokens.specs.Lexemes.{is_blank}

-- the number of a word
abbrev pub number_at : Word → Option ℤ
number_at w = number_of w.bytes

-- the length of the word at the front
abbrev pub front_len : List ℕ → ℕ
front_len = prefix_len (λ b. not (is_blank b))

abbrev pub word : ℕ → List ℕ → Word
word at bytes = record { offset = at; bytes = bytes }

pub words-blank : (at : ℕ) (text : List ℕ) → 0 < length text → front_len text ≡ 0 → words at text ≡ words (at + 1) (drop 1 text)
words-blank at [] some none = absurd (omega arith)
words-blank at (b ∷ rest) some none = by (is_blank b) refl none
  where
    by : (x : Bool) → is_blank b ≡ x → front_len (b ∷ rest) ≡ 0 → words at (b ∷ rest) ≡ words (at + 1) rest
    by true is h = rw is refl
    by false is h = absurd (let e : 1 + front_len rest ≡ 0 = subst (λ x. cond (not x) (1 + front_len rest) 0 ≡ 0) is h in omega arith)

stops : (rest : List ℕ) → front_len rest ≡ 0 → begins_word rest ≡ false
stops [] is = refl
stops (b ∷ rest) is = by (is_blank b) refl
  where
    by : (x : Bool) → is_blank b ≡ x → begins_word (b ∷ rest) ≡ false
    by true e = rw e refl
    by false e = absurd (let k : 1 + front_len rest ≡ 0 = subst (λ x. cond (not x) (1 + front_len rest) 0 ≡ 0) e is in omega arith)

goes_on : (rest : List ℕ) (n : ℕ) → front_len rest ≡ suc n → begins_word rest ≡ true
goes_on [] n is = absurd (omega arith)
goes_on (b ∷ rest) n is = by (is_blank b) refl
  where
    by : (x : Bool) → is_blank b ≡ x → begins_word (b ∷ rest) ≡ true
    by true e = absurd (let k : 0 ≡ suc n = subst (λ x. cond (not x) (1 + front_len rest) 0 ≡ suc n) e is in omega arith)
    by false e = rw e refl

-- the word at the front, of that length
abbrev IsFront : ℕ → List ℕ → ℕ → Type 0
IsFront at text m = words at text ≡ word at (take m text) ∷ words (at + m) (drop m text)

-- a byte goes before the words behind it
abbrev Goes : (at b : ℕ) → List ℕ → ℕ → Type 0
Goes at b rest k = with_byte at b (begins_word rest) (words (at + 1) rest) ≡ word at (b ∷ take k rest) ∷ words (at + suc k) (drop k rest)

pub words-word : (at : ℕ) (text : List ℕ) (n : ℕ) → front_len text ≡ suc n →
    words at text ≡ word at (take (suc n) text) ∷ words (at + suc n) (drop (suc n) text)
words-word at [] n is = absurd (omega arith)
words-word at (b ∷ rest) n is = by (is_blank b) refl is (λ m e. words-word (at + 1) rest m e)
  where
    behind : (m : ℕ) → front_len rest ≡ m → ((m : ℕ) → front_len rest ≡ suc m → IsFront (at + 1) rest (suc m)) → Goes at b rest m
    behind zero e inner = ap (λ x. with_byte at b x (words (at + 1) rest)) (stops rest e)
    behind (suc m) e inner =
        ap (λ x. with_byte at b x (words (at + 1) rest)) (goes_on rest m e) ∙ ap (with_byte at b true) (inner m e)
        ∙ (let k : at + 1 + suc m ≡ at + suc (suc m) = omega arith in
        ap (λ i. word at (b ∷ take (suc m) rest) ∷ words i (drop (suc m) rest)) k)

    by : (x : Bool) → is_blank b ≡ x → front_len (b ∷ rest) ≡ suc n → ((m : ℕ) → front_len rest ≡ suc m → IsFront (at + 1) rest (suc m)) →
        words at (b ∷ rest) ≡ word at (b ∷ take n rest) ∷ words (at + suc n) (drop n rest)
    by true e h inner = absurd (let k : 0 ≡ suc n = subst (λ x. cond (not x) (1 + front_len rest) 0 ≡ suc n) e h in omega arith)
    by false e h inner =
        let k : 1 + front_len rest ≡ suc n = subst (λ x. cond (not x) (1 + front_len rest) 0 ≡ suc n) e h in
        let same : front_len rest ≡ n = omega arith in
        rw e (subst (Goes at b rest) same (behind (front_len rest) refl inner))

-- what holds before each turn of the loop
pub record IsReadTo (text : List ℕ) (values : List ℤ) (at : ℕ) : Type 0 where
  pub front : List Word
  pub whole : words 0 text ≡ front ++ words at (drop at text)
  pub numbers : AreNumbers front values
  pub fits : at ≤ length text

-- one turn of the loop, by the length of the word at the front of the rest
module _ (text rest : List ℕ) (values : List ℤ) (at n : ℕ) (is_rest : rest ≡ drop at text) (before : IsReadTo text values at)
    (more : at < length text) (len : n ≡ front_len rest) where
  len_at : n ≡ front_len (drop at text)
  len_at = len ∙ ap front_len is_rest

  pub turn_blank : n ≡ 0 → IsReadTo text values (at + 1)
  turn_blank none = record {
    front = before.front;
    whole = before.whole ∙ ap (λ l. before.front ++ l) (words-blank at (drop at text) (omega (arith, length-drop at text)) (sym len_at
        ∙ none)
        ∙ ap (words (at + 1)) (drop-drop 1 at text));
    numbers = before.numbers;
    fits = omega arith;
  }

  pub word_front : 0 < n → words 0 text ≡ before.front ++ word at (take n rest) ∷ words (at + n) (drop (at + n) text)
  word_front some = by n refl some
    where
      by : (m : ℕ) → n ≡ m → 0 < m → words 0 text ≡ before.front ++ word at (take n rest) ∷ words (at + n) (drop (at + n) text)
      by zero e some = absurd (omega arith)
      by (suc m) e some =
          before.whole ∙ ap (λ l. before.front ++ l) (words-word at (drop at text) m (sym len_at ∙ e)
          ∙ ap (λ k. word at (take k (drop at text)) ∷ words (at + k) (drop k (drop at text))) (sym e)
          ∙ ap (λ l. word at (take n l) ∷ words (at + n) (drop n (drop at text))) (sym is_rest)
          ∙ ap (λ l. word at (take n rest) ∷ words (at + n) l) (drop-drop n at text))

  pub turn_word : 0 < n → n ≤ length rest → (w : List ℕ) (v : ℤ) → w ≡ take n rest → Some v ≡ number_of w → IsReadTo text (values ++ v ∷ [])
      (at + n)
  turn_word some within w v is number = record {
    front = before.front ++ word at (take n rest) ∷ [];
    whole = word_front some ∙ sym (append_assoc before.front (word at (take n rest) ∷ []) (words (at + n) (drop (at + n) text)));
    numbers = map-append number_at before.front (word at (take n rest) ∷ []) ∙ ap (λ l. l ++ number_of (take n rest) ∷ []) before.numbers
        ∙ ap (λ x. map Some values ++ x ∷ []) (ap number_of (sym is) ∙ sym number) ∙ sym (map-append Some values (v ∷ []));
    fits = omega (arith, length-drop at text, ap length is_rest);
  }

  pub turn_wrong : 0 < n → (w : List ℕ) → w ≡ take n rest → None ≡ number_of w → IsFirstWrong text at
  turn_wrong some w is none = record {
    front = before.front;
    wrong = take n rest;
    back = words (at + n) (drop (at + n) text);
    whole = word_front some;
    values = values;
    numbers = before.numbers;
    none = ap number_of (sym is) ∙ sym none;
  }

-- words are no two lists of numbers
pub one_list : (us vs : List ℤ) → map Some us ≡ map Some vs → us ≡ vs
one_list [] [] is = refl
one_list [] (v ∷ vs) is = absurd (cc)
one_list (u ∷ us) [] is = absurd (cc)
one_list (u ∷ us) (v ∷ vs) is = let e : map Some us ≡ map Some vs = cc in let k : u ≡ v = cc in rw k (ap (λ l. v ∷ l) (one_list us vs e))

-- a word that is no number is in no list of numbers
pub none_wrong : (front : List Word) (w : Word) (back : List Word) (values : List ℤ) → number_of w.bytes ≡ None →
    AreNumbers (front ++ w ∷ back) values → ⊥
none_wrong [] w back [] none is = cc
none_wrong [] w back (v ∷ values) none is = let e : number_of w.bytes ≡ Some v = cc in let k : None ≡ Some v = sym none ∙ e in cc
none_wrong (x ∷ front) w back [] none is = cc
none_wrong (x ∷ front) w back (v ∷ values) none is = none_wrong front w back values none cc

pub not_wrong : (text : List ℕ) (values : List ℤ) (at : ℕ) → IsInputOf text values → IsFirstWrong text at → ⊥
not_wrong text values at input wrong =
    none_wrong wrong.front (word at wrong.wrong) wrong.back values wrong.none (ap (map number_at) (sym wrong.whole) ∙ input.numbers)
