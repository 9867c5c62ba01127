-- Registers that were given numbers, one after the other.
use Rattle.std.proofs.Common.{◌≡◌, ℕ, zero, suc, ◌+◌, ◌<◌, ◌≤◌, ◌⊎◌, inl, inr, ⊎_elim, List, [], ◌∷◌, length, get_or, Option, Some, None}
use Rattle.std.proofs.Common.{refl, sym, ap, ◌∙◌, subst, arith}
use Rattle.std.specs.Prelude.{slice_get}
use Rattle.std.proofs.lemmas.Option.{slice_get_within}
use Rattle.superstep_instructions.specs.declared.instr.Side.{Side}
use Rattle.superstep_instructions.specs.declared.instr.Instr.{Instr}
use Rattle.renaming.specs.declared.numbers.Numbers.{Numbers}
use Rattle.renaming.specs.Numbers.{register_of, AreNumbers, HaveNumbers}
use Rattle.renaming.specs.Named.{named, IsAmong, IsNamedIn}
use Rattle.renaming.proofs.Giving.{same_or_not}

-- none were given any
pub none_given : (these : ℕ → Type 0) (x : Numbers) → AreNumbers x → ((r : ℕ) → these r → ⊥) → HaveNumbers these x x
none_given these x are none = record {
  numbers = are;
  grow = omega arith;
  placed = λ r h. absurd (none r h);
  kept = λ r l. refl;
  others = λ n l. inl (l, refl);
}

pub others_alike : {these those : ℕ → Type 0} {x y : Numbers} → ((r : ℕ) → those r → these r) → ((r : ℕ) → these r → those r) →
    HaveNumbers these x y → HaveNumbers those x y
others_alike back on h = record {
  numbers = h.numbers;
  grow = h.grow;
  placed = λ r t. h.placed r (back r t);
  kept = h.kept;
  others = λ n l. ⊎_elim (λ o. inl o) (λ t. inr (on _ t)) (h.others n l);
}

-- first these, then those
pub both : {these those : ℕ → Type 0} {x y z : Numbers} → HaveNumbers these x y → HaveNumbers those y z →
    HaveNumbers (λ r. these r ⊎ those r) x z
both {these} {those} {x} {y} {z} h k = record {
  numbers = k.numbers;
  grow = (let a = h.grow in let b = k.grow in omega (arith, a, b));
  placed = λ r e. ⊎_elim
      (λ t. let a = h.placed r t in let b = k.kept r a in let c = k.grow in omega (arith, a, b, c))
      (λ t. k.placed r t) e;
  kept = λ r l. (let a = h.kept r l in let b = h.grow in k.kept r (omega (arith, a, b, l)) ∙ a);
  others = λ n l. ⊎_elim
      (λ (o : (n < y.given) × (register_of z n ≡ register_of y n)). ⊎_elim
      (λ (q : (n < x.given) × (register_of y n ≡ register_of x n)). inl (q.0, o.1 ∙ q.1))
      (λ t. inr (inl (subst these (sym o.1) t))) (h.others n o.0))
      (λ t. inr (inr t)) (k.others n l);
}

-- ---- of a list of names

pub record IsAmongBelow (k r : ℕ) (names : List (Option ℕ)) : Type 0 where
  pub at : ℕ
  pub below : at < k
  pub is : slice_get names at ≡ Some (Some r)

pub record IsNamedBelow (k : ℕ) (side : Side) (instructions : List Instr) (r : ℕ) : Type 0 where
  pub it : IsNamedIn side instructions r
  pub below : it.place < k

-- at the place k or below
here_or_below : (k n : ℕ) → n < k + 1 → (n < k) ⊎ (n ≡ k)
here_or_below k n l = ⊎_elim (λ (same : n ≡ k). inr same) (λ (not : n ≡ k → ⊥). inl (omega (arith, l, not))) (same_or_not n k)

same_item : {A : Type 0} (xs : List A) (k n : ℕ) (x y : A) → n ≡ k → slice_get xs n ≡ Some x → slice_get xs k ≡ Some y → x ≡ y
same_item xs k n x y same is at = one (sym is ∙ ap (slice_get xs) same ∙ at)
  where
    one : Some x ≡ Some y → x ≡ y
    one e = cc

pub some_there : (names : List (Option ℕ)) (k r : ℕ) → get_or names k None ≡ Some r → slice_get names k ≡ Some (Some r)
some_there [] k r e = absurd (none_some e)
  where
    none_some : None ≡ Some r → ⊥
    none_some f = cc
some_there (x ∷ xs) zero r e = ap (λ o. Some o) e
some_there (x ∷ xs) (suc k) r e = some_there xs k r e

-- the next name of an instruction
pub among_more : (names : List (Option ℕ)) (k register : ℕ) → {x y z : Numbers} → slice_get names k ≡ Some (Some register) →
    HaveNumbers (λ r. IsAmongBelow k r names) x y → HaveNumbers (λ r. r ≡ register) y z → HaveNumbers
    (λ r. IsAmongBelow (k + 1) r names) x z
among_more names k register at h g = others_alike back on (both h g)
  where
    back : (r : ℕ) → IsAmongBelow (k + 1) r names → IsAmongBelow k r names ⊎ (r ≡ register)
    back r a = ⊎_elim
        (λ (low : a.at < k). inl (record { at = a.at; below = low; is = a.is }))
        (λ (same : a.at ≡ k). inr (some_same (same_item names k a.at (Some r) (Some register) same a.is at)))
        (here_or_below k a.at a.below)
      where
        some_same : Some r ≡ Some register → r ≡ register
        some_same e = cc

    on : (r : ℕ) → IsAmongBelow k r names ⊎ (r ≡ register) → IsAmongBelow (k + 1) r names
    on r (inl a) = record { at = a.at; below = (let l = a.below in omega (arith, l)); is = a.is }
    on r (inr same) = record { at = k; below = omega arith; is = at ∙ ap (λ q. Some (Some q)) (sym same) }

-- where there is none at the next place
pub among_none : (names : List (Option ℕ)) (k : ℕ) → {x y : Numbers} → ((r : ℕ) → slice_get names k ≡ Some (Some r) → ⊥) →
    HaveNumbers (λ r. IsAmongBelow k r names) x y → HaveNumbers (λ r. IsAmongBelow (k + 1) r names) x y
among_none names k none h = others_alike back on h
  where
    back : (r : ℕ) → IsAmongBelow (k + 1) r names → IsAmongBelow k r names
    back r a = ⊎_elim
        (λ (low : a.at < k). record { at = a.at; below = low; is = a.is })
        (λ (same : a.at ≡ k). absurd (none r (ap (slice_get names) (sym same) ∙ a.is)))
        (here_or_below k a.at a.below)

    on : (r : ℕ) → IsAmongBelow k r names → IsAmongBelow (k + 1) r names
    on r a = record { at = a.at; below = (let l = a.below in omega (arith, l)); is = a.is }

-- the next instruction
pub named_more : (side : Side) (instructions : List Instr) (k : ℕ) (instr : Instr) → {x y z : Numbers} → slice_get instructions k ≡
    Some instr →
    HaveNumbers (IsNamedBelow k side instructions) x y → HaveNumbers (λ r. IsAmong r (named side instr)) y z →
    HaveNumbers (IsNamedBelow (k + 1) side instructions) x z
named_more side instructions k instr at h g = others_alike back on (both h g)
  where
    back : (r : ℕ) → IsNamedBelow (k + 1) side instructions r → IsNamedBelow k side instructions r ⊎ IsAmong r (named side instr)
    back r n = ⊎_elim
        (λ (low : n.it.place < k). inl (record { it = n.it; below = low }))
        (λ (same : n.it.place ≡ k). inr (subst (λ (i : Instr). IsAmong r (named side i))
        (same_item instructions k n.it.place n.it.instr instr same n.it.is at) n.it.among))
        (here_or_below k n.it.place n.below)

    on : (r : ℕ) → IsNamedBelow k side instructions r ⊎ IsAmong r (named side instr) → IsNamedBelow (k + 1) side instructions r
    on r (inl n) = record { it = n.it; below = (let l = n.below in omega (arith, l)) }
    on r (inr a) = record { it = record { place = k; instr = instr; is = at; among = a }; below = omega arith }

pub all_named : (side : Side) (instructions : List Instr) (k : ℕ) → {x y : Numbers} → length instructions ≤ k →
    HaveNumbers (IsNamedBelow k side instructions) x y → HaveNumbers (IsNamedIn side instructions) x y
all_named side instructions k l h = others_alike
    (λ r (n : IsNamedIn side instructions r).
    record { it = n; below = (let w = slice_get_within instructions n.place n.instr n.is in omega (arith, w, l)) })
    (λ r (n : IsNamedBelow k side instructions r). n.it) h
