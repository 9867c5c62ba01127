-- One word more of a generator.
use Rattle.std.proofs.Common.{◌≡◌, ◌++◌, ◌∷◌, [], ◌∙◌, ◌+◌, ◌-◌, ◌<◌, suc, List, length, length-append, ap, append_assoc, arith}
use Rattle.std.proofs.Common.{refl, sym, ℕ}
use Rattle.std.proofs.lemmas.List.{append-nil}
use Rattle.rand_core.specs.Steps.{first_words, u64_via_u32}
use Rattle.rand_pcg.specs.Lcg.{Lcg}
use Rattle.rand_pcg.specs.Pcg.{pcg32}
use Rattle.scopes.specs.Drawn.{generator, words}

words_more : {S : Type 0} (step : S → ℕ × S) (k : ℕ) (s : S) → first_words step (suc k) s ≡ (step s).0 ∷ first_words step k (step s).1
unfolding first_words
words_more step k s = refl

words_none : {S : Type 0} (step : S → ℕ × S) (s : S) → first_words step 0 s ≡ []
unfolding first_words
words_none step s = refl

one_more : {S : Type 0} (step : S → ℕ × S) (found all : List ℕ) (turn count w : ℕ) (s t : S) → turn < count → (w, t) ≡ step s →
    found ++ first_words step (count - turn) s ≡ all → (found ++ w ∷ []) ++ first_words step (count - (turn + 1)) t ≡ all
one_more step found all turn count w s t below next before =
    let k = count - (turn + 1) in
    let more : count - turn ≡ suc k = omega arith in
    let word : (step s).0 ≡ w = sym (ap (λ p. p.0) next) in
    let state : (step s).1 ≡ t = sym (ap (λ p. p.1) next) in
    let split : first_words step (count - turn) s ≡ w ∷ first_words step k t =
    ap (λ n. first_words step n s) more ∙ words_more step k s ∙ ap (λ x. x ∷ first_words step k (step s).1) word
    ∙ ap (λ u. w ∷ first_words step k u) state in
    append_assoc found (w ∷ []) (first_words step k t) ∙ ap (λ l. found ++ l) (sym split) ∙ before

none_left : {S : Type 0} (step : S → ℕ × S) (found all : List ℕ) (turn count : ℕ) (s : S) → turn ≡ count →
    found ++ first_words step (count - turn) s ≡ all → found ≡ all
none_left step found all turn count s over before =
    let none : count - turn ≡ 0 = omega arith in
    sym (append-nil found) ∙ ap (λ l. found ++ l) (sym (words_none step s)) ∙ ap (λ n. found ++ first_words step n s) (sym none) ∙ before

-- what holds before each turn of the loop: what is drawn and what is left are all
pub record IsDrawnTo (seed count : ℕ) (found : List ℕ) (turn : ℕ) (state : Lcg) : Type 0 where
  pub drawn : found ++ words (count - turn) state ≡ words count (generator seed)
  pub counted : length found ≡ turn

pub turn_word : (seed count : ℕ) (found : List ℕ) (turn word : ℕ) (g h : Lcg) → turn < count → (word, h) ≡ u64_via_u32 pcg32 g →
    IsDrawnTo seed count found turn g → IsDrawnTo seed count (found ++ word ∷ []) (turn + 1) h
turn_word seed count found turn word g h below next before = record {
  drawn = one_more (u64_via_u32 pcg32) found (words count (generator seed)) turn count word g h below next before.drawn;
  counted = omega (arith, length-append found (word ∷ []), before.counted);
}

pub all_drawn : (seed count : ℕ) (found : List ℕ) (turn : ℕ) (g : Lcg) → turn ≡ count → IsDrawnTo seed count found turn g →
    found ≡ words count (generator seed)
all_drawn seed count found turn g over before =
    none_left (u64_via_u32 pcg32) found (words count (generator seed)) turn count g over before.drawn
