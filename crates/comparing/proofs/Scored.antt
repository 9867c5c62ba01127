-- How the second program does on one input more.
use Rattle.std.proofs.Common.{◌≡◌, ◌∙◌, ◌+◌, ◌++◌, ◌∷◌, [], ℕ, max, Bool, true, false, List, ap, arith, cond, length, refl}
use Rattle.std.proofs.lemmas.List.{append-nil, length_push}
use Rattle.std.proofs.lemmas.List.Elements.{filter-append}
use Rattle.std.specs.List.{filter}
use Rattle.std.specs.Prelude.{if◌then◌else◌}
use Rattle.comparing.specs.declared.trial.Trial.{Trial}
use Rattle.comparing.specs.Scores.{counted, how_many, is_above, is_correct, is_faulted, is_going_on, most, score_of, scored}

one_counted : (ts : List Trial) (t : Trial) (b : Bool) → length (ts ++ cond b (t ∷ []) []) ≡ counted b (length ts)
one_counted ts t true = length_push ts t
one_counted ts t false = ap (λ (us : List Trial). length us) (append-nil ts)

count_more : (is : Trial → Bool) (ts : List Trial) (t : Trial) → how_many is (ts ++ t ∷ []) ≡ counted (is t) (how_many is ts)
count_more is ts t =
    ap (λ (us : List Trial). length us) (filter-append is ts (t ∷ [])) ∙ one_counted (filter is ts) t (is t)

max_over : (a b c : ℕ) → max a (max b c) ≡ max (max a b) c
max_over a b c = omega arith

max_last : (a : ℕ) → max a 0 ≡ max 0 a
max_last a = omega arith

most_more : (taken : Trial → ℕ) (ts : List Trial) (t : Trial) → most taken (ts ++ t ∷ []) ≡ max (most taken ts) (taken t)
most_more taken [] t = max_last (taken t)
most_more taken (u ∷ ts) t = ap (max (taken u)) (most_more taken ts t) ∙ max_over (taken u) (most taken ts) (taken t)

pub score_more : (ts : List Trial) (t : Trial) → score_of (ts ++ t ∷ []) ≡ scored t (score_of ts)
score_more ts t = λ i. record {
  correct = (count_more is_correct ts t) i;
  faulted = (count_more is_faulted ts t) i;
  going_on = (count_more is_going_on ts t) i;
  above = (count_more is_above ts t) i;
  most_time = (most_more (λ (u : Trial). u.time) ts t) i;
  most_work = (most_more (λ (u : Trial). u.work) ts t) i;
}
