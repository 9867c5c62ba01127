-- One word more of a generator.
use Rattle.std.proofs.Common.{◌≡◌, ◌++◌, ◌∷◌, [], ◌∙◌, ◌+◌, ◌-◌, ◌<◌, ◌≤◌, zero, suc, List, length, length-append, ap, append_assoc, arith}
use Rattle.std.proofs.Common.{map, refl, subst, sym, take, ℕ, ℤ}
use Rattle.std.proofs.lemmas.List.{append-nil}
use Rattle.std.proofs.lemmas.List.Elements.{All-push}
use Rattle.std.specs.List.{All}
use Rattle.std.specs.Prelude.{◌≤ℤ◌, ◌^◌}
use Rattle.rand_core.specs.Steps.{first_words, u64_via_u32}
use Rattle.rand_pcg.specs.Lcg.{Lcg}
use Rattle.rand_pcg.specs.Pcg.{pcg32}
use Rattle.scopes.specs.Drawn.{IsWithin, drawn, generator, number_of, words}
use Rattle.scopes.proofs.Parts.{is_within}

words_more : {S : Type 0} (step : S → ℕ × S) (k : ℕ) (s : S) → first_words step (suc k) s ≡ (step s).0 ∷ first_words step k (step s).1
unfolding first_words
words_more step k s = refl

words_none : {S : Type 0} (step : S → ℕ × S) (s : S) → first_words step 0 s ≡ []
unfolding first_words
words_none step s = refl

-- the number of the next word goes behind those that were found
one_more : {S : Type 0} (step : S → ℕ × S) (f : ℕ → ℤ) (found all : List ℤ) (turn count w : ℕ) (z : ℤ) (s t : S) → turn < count →
    (w, t) ≡ step s → z ≡ f w → found ++ map f (first_words step (count - turn) s) ≡ all →
    (found ++ z ∷ []) ++ map f (first_words step (count - (turn + 1)) t) ≡ all
one_more step f found all turn count w z s t below next is before =
    let k = count - (turn + 1) in
    let more : count - turn ≡ suc k = omega arith in
    let word : (step s).0 ≡ w = sym (ap (λ p. p.0) next) in
    let state : (step s).1 ≡ t = sym (ap (λ p. p.1) next) in
    let split : first_words step (count - turn) s ≡ w ∷ first_words step k t =
    ap (λ n. first_words step n s) more ∙ words_more step k s ∙ ap (λ x. x ∷ first_words step k (step s).1) word
    ∙ ap (λ u. w ∷ first_words step k u) state in
    append_assoc found (z ∷ []) (map f (first_words step k t)) ∙ ap (λ x. found ++ x ∷ map f (first_words step k t)) is
    ∙ ap (λ l. found ++ map f l) (sym split) ∙ before

-- at the end all are found
none_left : {S : Type 0} (step : S → ℕ × S) (f : ℕ → ℤ) (found all : List ℤ) (turn count : ℕ) (s : S) → turn ≡ count →
    found ++ map f (first_words step (count - turn) s) ≡ all → found ≡ all
none_left step f found all turn count s over before =
    let none : count - turn ≡ 0 = omega arith in
    sym (append-nil found) ∙ ap (λ l. found ++ map f l) (sym (words_none step s)) ∙ ap (λ n. found ++ map f (first_words step n s))
    (sym none)
    ∙ before

-- what holds before each turn of the loop: what is drawn and what is left are all
pub record IsDrawnTo (low high : ℤ) (seed count : ℕ) (found : List ℤ) (turn : ℕ) (generator : Lcg) : Type 0 where
  pub drawn : found ++ map (number_of low high) (words (count - turn) generator) ≡ drawn low high seed count
  pub counted : length found ≡ turn
  pub within : All (IsWithin low high) found

-- one turn
pub turn_number : (low high : ℤ) (seed count : ℕ) (found : List ℤ) (turn word : ℕ) (z : ℤ) (g h : Lcg) → low ≤ℤ high → word < 2 ^ 64 →
    turn < count → (word, h) ≡ u64_via_u32 pcg32 g → z ≡ number_of low high word → IsDrawnTo low high seed count found turn g →
    IsDrawnTo low high seed count (found ++ z ∷ []) (turn + 1) h
turn_number low high seed count found turn word z g h ordered small below next is before = record {
  drawn = one_more (u64_via_u32 pcg32) (number_of low high) found (drawn low high seed count) turn count word z g h below next is
      before.drawn;
  counted = omega (arith, length-append found (z ∷ []), before.counted);
  within = All-push (IsWithin low high) found z before.within (subst (IsWithin low high) (sym is) (is_within low high word ordered small));
}

-- the end
pub all_drawn : (low high : ℤ) (seed count : ℕ) (found : List ℤ) (turn : ℕ) (g : Lcg) → turn ≡ count →
    IsDrawnTo low high seed count found turn g → found ≡ drawn low high seed count
all_drawn low high seed count found turn g over before =
    none_left (u64_via_u32 pcg32) (number_of low high) found (drawn low high seed count) turn count g over before.drawn

-- ---- fewer of them

first_few : {S : Type 0} (step : S → ℕ × S) (f : ℕ → ℤ) (few more : ℕ) (s : S) → few ≤ more →
    map f (first_words step few s) ≡ take few (map f (first_words step more s))
first_few step f zero more s le = ap (map f) (words_none step s)
first_few step f (suc k) zero s le = absurd (omega (arith, le))
first_few step f (suc k) (suc m) s le =
    ap (map f) (words_more step k s) ∙ ap (λ zs. f (step s).0 ∷ zs) (first_few step f k m (step s).1 (omega (arith, le)))
    ∙ ap (λ ws. take (suc k) (map f ws)) (sym (words_more step m s))

pub fewer_drawn : (low high : ℤ) (seed few more : ℕ) → few ≤ more → drawn low high seed few ≡ take few (drawn low high seed more)
fewer_drawn low high seed few more le = first_few (u64_via_u32 pcg32) (number_of low high) few more (generator seed) le
