-- The kind with which a program goes on farthest, among those that were tried.
use Rattle.std.proofs.Common.{◌≡◌, ◌∙◌, ◌+◌, ◌++◌, ◌∷◌, ◌<◌, ◌≤◌, [], List, ℕ, ap, arith, inl, inr, length, refl, subst, sym}
use Rattle.std.proofs.lemmas.List.Elements.{All-contains, All-from_recursion, Contains-append_left, Contains-push}
use Rattle.std.specs.List.{AllByRecursion, Contains}
use Rattle.std.specs.Prelude.{Option, Some, None, ◌⊎◌}
use Rattle.pram_tokens.specs.declared.token.Token.{Token}
use Rattle.help.specs.Kinds.{sample}
use Rattle.help.specs.declared.choice.Choice.{Choice}
use Rattle.help.specs.Missing.{GoesOn, GoesOnLess, IsMissing, IsWhatIsMissing}
use Rattle.help.proofs.Reaching.{one_reach}

all_more : {A : Type 0} (P : A → Type 0) (xs : List A) (x : A) → AllByRecursion P xs → P x → AllByRecursion P (xs ++ x ∷ [])
all_more P [] x h is = (is, tt)
all_more P (y ∷ xs) x h is = (h.0, all_more P xs x h.1 is)

-- with a token of that kind it goes on no farther than so
abbrev pub GoesOnAtMost : (front rest : List Token) → ℕ → Choice → Type 0
GoesOnAtMost front rest most c = (m : ℕ) × GoesOn front rest c m × (m ≤ most)

-- with two different ones of them it goes on so far
pub record AreTied (front rest : List Token) (tried : List Choice) (most : ℕ) : Type 0 where
  pub one : Choice
  pub other : Choice
  pub differ : one ≡ other → ⊥
  pub is_one : Contains tried one
  pub is_other : Contains tried other
  pub one_goes : GoesOn front rest one most
  pub other_goes : GoesOn front rest other most

-- the best of the kinds that were tried, if it goes on behind a token of one, and is better than all others
abbrev pub IsBest : (front rest : List Token) → List Choice → ℕ → Option Choice → Type 0
IsBest front rest tried most None = (most ≡ length front + 1) ⊎ AreTied front rest tried most
IsBest front rest tried most (Some c) =
    Contains tried c × GoesOn front rest c most × (length front + 1 < most)
    × AllByRecursion (λ d. (d ≡ c) ⊎ GoesOnLess front rest most d) tried

pub record AreTried (front rest : List Token) (tried : List Choice) (most : ℕ) (best : Option Choice) : Type 0 where
  pub least : length front + 1 ≤ most
  pub at_most : AllByRecursion (GoesOnAtMost front rest most) tried
  pub is_best : IsBest front rest tried most best

module _ (front rest : List Token) where
  -- ---- one more is tried

  pub none_tried : AreTried front rest [] (length front + 1) None
  none_tried = record { least = omega (arith); at_most = tt; is_best = inl refl }

  less_by : (most n : ℕ) → most < n → (tried : List Choice) → AllByRecursion (GoesOnAtMost front rest most) tried → (c : Choice) →
      AllByRecursion (λ d. (d ≡ c) ⊎ GoesOnLess front rest n d) tried
  less_by most n far [] h c = tt
  less_by most n far (d ∷ tried) h c =
      let m = h.0.0 in let le = h.0.2 in
      (inr (m, h.0.1, omega (arith, far, le)), less_by most n far tried h.1 c)

  at_most_by : (most n : ℕ) → most ≤ n → (tried : List Choice) → AllByRecursion (GoesOnAtMost front rest most) tried →
      AllByRecursion (GoesOnAtMost front rest n) tried
  at_most_by most n far [] h = tt
  at_most_by most n far (d ∷ tried) h =
      let le = h.0.2 in ((h.0.0, h.0.1, omega (arith, far, le)), at_most_by most n far tried h.1)

  -- one with which it goes on farther than with all before
  pub farther : (tried : List Choice) (most n : ℕ) (best : Option Choice) (d : Choice) → AreTried front rest tried most best →
      GoesOn front rest d n → most < n → AreTried front rest (tried ++ d ∷ []) n (Some d)
  farther tried most n best d t goes far =
      let least = t.least in
      record {
        least = omega (arith, least, far);
        at_most = all_more (GoesOnAtMost front rest n) tried d (at_most_by most n (omega (arith, far)) tried t.at_most)
            (n, goes, omega (arith));
        is_best = (
          Contains-push tried d,
          goes,
          omega (arith, least, far),
          all_more (λ x. (x ≡ d) ⊎ GoesOnLess front rest n x) tried d (less_by most n far tried t.at_most d) (inl refl),
        );
      }

  still_none : (tried : List Choice) (most : ℕ) (d : Choice) → IsBest front rest tried most None →
      IsBest front rest (tried ++ d ∷ []) most None
  still_none tried most d (inl e) = inl e
  still_none tried most d (inr t) = inr (record {
    one = t.one;
    other = t.other;
    differ = t.differ;
    is_one = Contains-append_left tried (d ∷ []) t.one t.is_one;
    is_other = Contains-append_left tried (d ∷ []) t.other t.is_other;
    one_goes = t.one_goes;
    other_goes = t.other_goes;
  })

  tied : (tried : List Choice) (most : ℕ) (best : Option Choice) (d : Choice) → IsBest front rest tried most best →
      GoesOn front rest d most → (best ≡ Some d → ⊥) → IsBest front rest (tried ++ d ∷ []) most None
  tied tried most None d h goes differs = still_none tried most d h
  tied tried most (Some c) d h goes differs = inr (record {
    one = c;
    other = d;
    differ = λ e. differs (ap Some e);
    is_one = Contains-append_left tried (d ∷ []) c h.0;
    is_other = Contains-push tried d;
    one_goes = h.1;
    other_goes = goes;
  })

  -- another one with which it goes on as far
  pub as_far : (tried : List Choice) (most n : ℕ) (best : Option Choice) (d : Choice) → AreTried front rest tried most best →
      GoesOn front rest d n → n ≡ most → (best ≡ Some d → ⊥) → AreTried front rest (tried ++ d ∷ []) most None
  as_far tried most n best d t goes same differs = record {
    least = t.least;
    at_most = all_more (GoesOnAtMost front rest most) tried d t.at_most (n, goes, omega (arith, same));
    is_best = tied tried most best d t.is_best (subst (GoesOn front rest d) same goes) differs;
  }

  one_more : (tried : List Choice) (most : ℕ) (c d : Choice) → IsBest front rest tried most (Some c) →
      (d ≡ c) ⊎ GoesOnLess front rest most d → IsBest front rest (tried ++ d ∷ []) most (Some c)
  one_more tried most c d h is = (
    Contains-append_left tried (d ∷ []) c h.0,
    h.1,
    h.2,
    all_more (λ x. (x ≡ c) ⊎ GoesOnLess front rest most x) tried d h.3 is,
  )

  -- the best of them, once more
  pub once_more : (tried : List Choice) (most n : ℕ) (best : Option Choice) (d : Choice) → AreTried front rest tried most best →
      GoesOn front rest d n → n ≡ most → best ≡ Some d → AreTried front rest (tried ++ d ∷ []) most best
  once_more tried most n best d t goes same is = record {
    least = t.least;
    at_most = all_more (GoesOnAtMost front rest most) tried d t.at_most (n, goes, omega (arith, same));
    is_best = subst (IsBest front rest (tried ++ d ∷ []) most) (sym is)
        (one_more tried most d d (subst (IsBest front rest tried most) is t.is_best) (inl refl));
  }

  still_best : (tried : List Choice) (most n : ℕ) (best : Option Choice) (d : Choice) → IsBest front rest tried most best →
      GoesOn front rest d n → n < most → IsBest front rest (tried ++ d ∷ []) most best
  still_best tried most n None d h goes less = still_none tried most d h
  still_best tried most n (Some c) d h goes less = one_more tried most c d h (inr (n, goes, less))

  -- one with which it goes on less far
  pub less_far : (tried : List Choice) (most n : ℕ) (best : Option Choice) (d : Choice) → AreTried front rest tried most best →
      GoesOn front rest d n → n < most → AreTried front rest (tried ++ d ∷ []) most best
  less_far tried most n best d t goes less = record {
    least = t.least;
    at_most = all_more (GoesOnAtMost front rest most) tried d t.at_most (n, goes, omega (arith, less));
    is_best = still_best tried most n best d t.is_best goes less;
  }

  -- ---- all are tried

  reach_of : (c : Choice) (k m : ℕ) → GoesOn front rest c k → GoesOn front rest c m → k ≡ m
  reach_of c k m = one_reach (front ++ sample c ∷ rest) k m

  -- the one that is missing goes on no farther than the farthest
  reach_within : (found : List Choice) (most : ℕ) → AllByRecursion (GoesOnAtMost front rest most) found → (c : Choice) →
      (m : IsMissing front rest found c) → m.reach ≤ most
  reach_within found most all c m =
      let P : Choice → Type 0 = GoesOnAtMost front rest most in
      let its = All-contains P found c (All-from_recursion P found all) m.among in
      let same = reach_of c m.reach its.0 m.goes_on its.1 in
      let le = its.2 in omega (arith, same, le)

  -- and any other that goes on as far is that one
  is_that : (found : List Choice) (most : ℕ) (c d : Choice) → (m : IsMissing front rest found c) → m.reach ≤ most → Contains found d →
      GoesOn front rest d most → d ≡ c
  is_that found most c d m within is goes =
      let P : Choice → Type 0 = λ x. (x ≡ c) ⊎ GoesOnLess front rest m.reach x in
      by (All-contains P found d (All-from_recursion P found m.farthest) is)
    where
      by : (d ≡ c) ⊎ GoesOnLess front rest m.reach d → d ≡ c
      by (inl same) = same
      by (inr less) =
          let same = reach_of d most less.0 goes less.1 in
          let below = less.2 in absurd (omega (arith, same, below, within))

  none_missing : (found : List Choice) (most : ℕ) → AllByRecursion (GoesOnAtMost front rest most) found →
      IsBest front rest found most None → (c : Choice) → IsMissing front rest found c → ⊥
  none_missing found most all (inl e) c m =
      let within = reach_within found most all c m in let some = m.some in omega (arith, within, some, e)
  none_missing found most all (inr t) c m =
      let within = reach_within found most all c m in
      let first = is_that found most c t.one m within t.is_one t.one_goes in
      let second = is_that found most c t.other m within t.is_other t.other_goes in
      t.differ (first ∙ sym second)

  -- the best of all is missing, and where there is none nothing is
  pub best_missing : (found : List Choice) (most : ℕ) (best : Option Choice) → AreTried front rest found most best →
      IsWhatIsMissing front rest found best
  best_missing found most None t = none_missing found most t.at_most t.is_best
  best_missing found most (Some c) t = record {
    among = t.is_best.0;
    reach = most;
    goes_on = t.is_best.1;
    some = t.is_best.2;
    farthest = t.is_best.3;
  }

  -- no two kinds are missing
  pub one_missing : (found : List Choice) (c d : Choice) → IsMissing front rest found c → IsMissing front rest found d → c ≡ d
  one_missing found c d m n =
      let P : Choice → Type 0 = λ x. (x ≡ c) ⊎ GoesOnLess front rest m.reach x in
      let Q : Choice → Type 0 = λ x. (x ≡ d) ⊎ GoesOnLess front rest n.reach x in
      by (All-contains P found d (All-from_recursion P found m.farthest) n.among)
      (All-contains Q found c (All-from_recursion Q found n.farthest) m.among)
    where
      by : (d ≡ c) ⊎ GoesOnLess front rest m.reach d → (c ≡ d) ⊎ GoesOnLess front rest n.reach c → c ≡ d
      by (inl same) other = sym same
      by (inr less) (inl same) = same
      by (inr less) (inr more) =
          let one = reach_of d n.reach less.0 n.goes_on less.1 in
          let two = reach_of c m.reach more.0 m.goes_on more.1 in
          let below = less.2 in let above = more.2 in absurd (omega (arith, one, two, below, above))
