-- Giving a register the next number.
use Rattle.std.proofs.Common.{◌≡◌, ℕ, ◌<◌, ◌≤◌, ◌⊎◌, inl, inr, ⊎_elim, List, length, length-set, set, get_or, Bool, true, false, refl, sym}
use Rattle.std.proofs.Common.{ap, ◌∙◌, subst, eqb, arith}
use Rattle.std.proofs.lemmas.Bool.{eqb-true, eqb-false}
use Rattle.std.proofs.lemmas.List.{get_or-set_same, get_or-set_other}
use Rattle.renaming.specs.Renamed.{IsOneToOne}

pub same_or_not : (a b : ℕ) → (a ≡ b) ⊎ (a ≡ b → ⊥)
same_or_not a b = go (eqb a b) refl
  where
    go : (c : Bool) → eqb a b ≡ c → (a ≡ b) ⊎ (a ≡ b → ⊥)
    go true e = inl (eqb-true a b e)
    go false e = inr (eqb-false a b e)

-- of three numbers it is the first, or the second and not that, or neither
pub which_of : {A : Type 0} (q a b : ℕ) → (q ≡ a → A) → ((q ≡ a → ⊥) → q ≡ b → A) → ((q ≡ a → ⊥) → (q ≡ b → ⊥) → A) → A
which_of q a b first second neither =
    ⊎_elim first (λ n. ⊎_elim (second n) (neither n) (same_or_not q b)) (same_or_not q a)

module _ (numbers registers : List ℕ) (size register next : ℕ) (long : length numbers ≡ size) (wide : length registers ≡ size)
    (one : IsOneToOne (λ r. get_or numbers r r) (λ n. get_or registers n n)) (there : register < size) (room : next < size)
    (old_there : get_or numbers register register < size) (other_there : get_or registers next next < size) where
  abbrev number : ℕ → ℕ
  number r = get_or numbers r r

  abbrev holder : ℕ → ℕ
  holder n = get_or registers n n

  abbrev old : ℕ
  old = number register

  abbrev other : ℕ
  other = holder next

  abbrev pub numbers' : List ℕ
  numbers' = set (set numbers other old) register next

  abbrev pub registers' : List ℕ
  registers' = set (set registers old other) next register

  pub number_new : get_or numbers' register register ≡ next
  number_new = get_or-set_same (set numbers other old) register next register
      (let e = length-set numbers other old in omega (arith, e, long, there))

  number_other : (q : ℕ) → (q ≡ register → ⊥) → q ≡ other → get_or numbers' q q ≡ old
  number_other q n e =
      get_or-set_other (set numbers other old) register q next q n
      ∙ subst (λ o. get_or (set numbers o old) q q ≡ old) e (get_or-set_same numbers q old q (omega (arith, e, long, other_there)))

  pub number_else : (q : ℕ) → (q ≡ register → ⊥) → (q ≡ other → ⊥) → get_or numbers' q q ≡ number q
  number_else q n m = get_or-set_other (set numbers other old) register q next q n ∙ get_or-set_other numbers other q old q m

  pub holder_new : get_or registers' next next ≡ register
  holder_new = get_or-set_same (set registers old other) next register next
      (let e = length-set registers old other in omega (arith, e, wide, room))

  holder_old : (n : ℕ) → (n ≡ next → ⊥) → n ≡ old → get_or registers' n n ≡ other
  holder_old n f e =
      get_or-set_other (set registers old other) next n register n f
      ∙ subst (λ o. get_or (set registers o other) n n ≡ other) e (get_or-set_same registers n other n (omega (arith, e, wide, old_there)))

  pub holder_else : (n : ℕ) → (n ≡ next → ⊥) → (n ≡ old → ⊥) → get_or registers' n n ≡ holder n
  holder_else n f g = get_or-set_other (set registers old other) next n register n f ∙ get_or-set_other registers old n other n g

  -- the register that has the next number isn't this one, unless this one has that
  old_is_next : other ≡ register → old ≡ next
  old_is_next e = ap number (sym e) ∙ one.forth next

  other_is_it : old ≡ next → other ≡ register
  other_is_it e = ap holder (sym e) ∙ one.back register

  back : (q : ℕ) → get_or registers' (get_or numbers' q q) (get_or numbers' q q) ≡ q
  back q = which_of q register other
      (λ e. ap (λ v. get_or registers' v v) (ap (λ r. get_or numbers' r r) e ∙ number_new) ∙ holder_new ∙ sym e)
      (λ n e. ap (λ v. get_or registers' v v) (number_other q n e)
      ∙ holder_old old (λ f. n (e ∙ other_is_it f)) refl ∙ sym e)
      (λ n m. ap (λ v. get_or registers' v v) (number_else q n m)
      ∙ holder_else (number q) (λ f. m (sym (one.back q) ∙ ap holder f)) (λ f. n (sym (one.back q) ∙ ap holder f ∙ one.back register))
      ∙ one.back q)

  forth : (n : ℕ) → get_or numbers' (get_or registers' n n) (get_or registers' n n) ≡ n
  forth n = which_of n next old
      (λ e. ap (λ v. get_or numbers' v v) (ap (λ r. get_or registers' r r) e ∙ holder_new) ∙ number_new ∙ sym e)
      (λ f e. ap (λ v. get_or numbers' v v) (holder_old n f e)
      ∙ number_other other (λ g. f (e ∙ old_is_next g)) refl ∙ sym e)
      (λ f g. ap (λ v. get_or numbers' v v) (holder_else n f g)
      ∙ number_else (holder n) (λ h. g (sym (one.forth n) ∙ ap number h)) (λ h. f (sym (one.forth n) ∙ ap number h ∙ one.forth next))
      ∙ one.forth n)

  pub one_again : IsOneToOne (λ r. get_or numbers' r r) (λ n. get_or registers' n n)
  one_again = record { back = back; forth = forth }

  -- those that have a lower number have it still
  pub number_kept : next ≤ old → (q : ℕ) → number q < next → get_or numbers' q q ≡ number q
  number_kept high q low =
      number_else q (λ e. let same = ap number e in absurd (omega (arith, same, low, high)))
      (λ e. let same = ap number e ∙ one.forth next in absurd (omega (arith, same, low)))
