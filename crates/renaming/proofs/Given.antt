-- A register that was given the next number.
use Rattle.std.proofs.Common.{◌≡◌, ℕ, zero, suc, ◌+◌, ◌<◌, ◌≤◌, ◌^◌, ◌⊎◌, inl, inr, ⊎_elim, List, [], ◌∷◌, ◌++◌, length, length-set, set}
use Rattle.std.proofs.Common.{get_or, refl, sym, ap, ◌∙◌, subst, arith}
use Rattle.std.specs.List.{range_with_len}
use Rattle.std.proofs.lemmas.List.{get_or_read}
use Rattle.renaming.specs.declared.numbers.Numbers.{Numbers}
use Rattle.renaming.specs.Renamed.{IsOneToOne}
use Rattle.renaming.specs.Numbers.{number_of, register_of, AreNumbers, HaveNumbers}
use Rattle.renaming.proofs.Giving.{same_or_not, numbers', registers', number_new, holder_new, holder_else, one_again, number_kept}

-- ---- the numbers from 0 on

range_more : (n a : ℕ) → range_with_len a (n + 1) ≡ range_with_len a n ++ (a + n) ∷ []
range_more zero a = ap (λ x. x ∷ []) (let same : a ≡ a + 0 = omega arith in same)
range_more (suc n) a =
    ap (range_with_len a) (let more : suc n + 1 ≡ suc (n + 1) = omega arith in more)
    ∙ ap (λ xs. a ∷ xs) (range_more n (a + 1)
    ∙ ap (λ x. range_with_len (a + 1) n ++ x ∷ []) (let same : (a + 1) + n ≡ a + suc n = omega arith in same))

pub range_next : (n : ℕ) → range_with_len 0 n ++ n ∷ [] ≡ range_with_len 0 (n + 1)
range_next n = sym (range_more n 0 ∙ ap (λ x. range_with_len 0 n ++ x ∷ []) (let same : 0 + n ≡ n = omega arith in same))

-- what stands at a place of a range, and behind its end the place by itself
at_range : (n k i : ℕ) → get_or (range_with_len k n) i (k + i) ≡ k + i
at_range zero k i = refl
at_range (suc n) k zero = omega arith
at_range (suc n) k (suc i) =
    ap (get_or (range_with_len (k + 1) n) i) (let same : k + suc i ≡ (k + 1) + i = omega arith in same)
    ∙ at_range n (k + 1) i ∙ (let same : (k + 1) + i ≡ k + suc i = omega arith in same)

pub own_number : (n r : ℕ) → get_or (range_with_len 0 n) r r ≡ r
own_number n r = let same : 0 + r ≡ r = omega arith in ap (get_or (range_with_len 0 n) r) (sym same) ∙ at_range n 0 r ∙ same

-- where each has its own
pub own_one : (numbers registers : List ℕ) → ((r : ℕ) → get_or numbers r r ≡ r) → ((n : ℕ) → get_or registers n n ≡ n) →
    IsOneToOne (λ r. get_or numbers r r) (λ n. get_or registers n n)
own_one numbers registers own has = record {
  back = λ r. has (get_or numbers r r) ∙ own r;
  forth = λ n. own (get_or registers n n) ∙ has n;
}

-- ---- the next number

pub given_already : (x : Numbers) (register : ℕ) → AreNumbers x → number_of x register < x.given → HaveNumbers (λ r. r ≡ register) x x
given_already x register are low = record {
  numbers = are;
  grow = omega arith;
  placed = λ r same. subst (λ q. number_of x q < x.given) (sym same) low;
  kept = λ r l. refl;
  others = λ n l. inl (l, refl);
}

module _ (x y : Numbers) (register : ℕ) (are : AreNumbers x) (there : register < 2 ^ 16) (old_there : number_of x register < 2 ^ 16)
    (other_there : register_of x x.given < 2 ^ 16) (high : x.given ≤ number_of x register) where
  pub room : x.given < 2 ^ 16
  room = omega (arith, high, old_there)

  abbrev pub numbers_then : List ℕ
  numbers_then = numbers' x.numbers.items x.registers.items (2 ^ 16) register x.given are.numbers are.registers are.one there room old_there
      other_there

  abbrev pub registers_then : List ℕ
  registers_then = registers' x.numbers.items x.registers.items (2 ^ 16) register x.given are.numbers are.registers are.one there room
      old_there other_there

  module _ (e : y.numbers.items ≡ numbers_then) (f : y.registers.items ≡ registers_then) (more : y.given ≡ x.given + 1) where
    one : IsOneToOne (number_of y) (register_of y)
    one = subst (λ (ns : List ℕ × List ℕ). IsOneToOne (λ r. get_or ns.0 r r) (λ n. get_or ns.1 n n)) (λ i. (sym e i, sym f i))
        (one_again x.numbers.items x.registers.items (2 ^ 16) register x.given are.numbers are.registers are.one there room old_there
        other_there)

    numbers : AreNumbers y
    numbers = record {
      numbers = ap length e
          ∙ length-set (set x.numbers.items (register_of x x.given) (number_of x register)) register x.given
          ∙ length-set x.numbers.items (register_of x x.given) (number_of x register) ∙ are.numbers;
      registers = ap length f
          ∙ length-set (set x.registers.items (number_of x register) (register_of x x.given)) x.given register
          ∙ length-set x.registers.items (number_of x register) (register_of x x.given) ∙ are.registers;
      one = one;
      few = (let l = room in omega (arith, more, l));
    }

    new_number : number_of y register ≡ x.given
    new_number = ap (λ (ns : List ℕ). get_or ns register register) e
        ∙ number_new x.numbers.items x.registers.items (2 ^ 16) register x.given are.numbers are.registers are.one there room old_there
        other_there

    others : (n : ℕ) → n < y.given → ((n < x.given) × (register_of y n ≡ register_of x n)) ⊎ (register_of y n ≡ register)
    others n l = ⊎_elim
        (λ (same : n ≡ x.given). inr (ap (register_of y) same ∙ ap (λ (ns : List ℕ). get_or ns x.given x.given) f
        ∙ holder_new x.numbers.items x.registers.items (2 ^ 16) register x.given are.numbers are.registers are.one there room old_there
        other_there))
        (λ (not : n ≡ x.given → ⊥). inl (
          below not,
          ap (λ (ns : List ℕ). get_or ns n n) f
              ∙ holder_else x.numbers.items x.registers.items (2 ^ 16) register x.given are.numbers are.registers are.one there
              room old_there
              other_there n not (λ (same : n ≡ number_of x register). let b = below not in omega (arith, same, high, b)),
        ))
        (same_or_not n x.given)
      where
        below : (n ≡ x.given → ⊥) → n < x.given
        below not = ⊎_elim (λ (a : n < x.given). a) (λ (b : n ≡ x.given). absurd (not b)) (split n x.given (omega (arith, l, more)))
          where
            split : (a b : ℕ) → a < b + 1 → (a < b) ⊎ (a ≡ b)
            split a b h = ⊎_elim (λ s. inr s) (λ d. inl (apart a b d h)) (same_or_not a b)
              where
                apart : (a b : ℕ) → (a ≡ b → ⊥) → a < b + 1 → a < b
                apart a b d h = grind (arith, d, h)

    pub given_next : HaveNumbers (λ r. r ≡ register) x y
    given_next = record {
      numbers = numbers;
      grow = omega (arith, more);
      placed = λ r same. (let is = ap (number_of y) same ∙ new_number in omega (arith, is, more));
      kept = λ r low. ap (λ (ns : List ℕ). get_or ns r r) e
          ∙ number_kept x.numbers.items x.registers.items (2 ^ 16) register x.given are.numbers are.registers are.one there room old_there
          other_there high r low;
      others = others;
    }

-- as it is read and written
pub given_anew : (x y : Numbers) (register old other : ℕ) → AreNumbers x → register < 2 ^ 16 → old < 2 ^ 16 → other < 2 ^ 16 →
    x.given ≤ old →
    old ≡ get_or x.numbers.items register old → other ≡ get_or x.registers.items x.given other →
    y.numbers.items ≡ set (set x.numbers.items other old) register x.given →
    y.registers.items ≡ set (set x.registers.items old other) x.given register → y.given ≡ x.given + 1 →
    HaveNumbers (λ r. r ≡ register) x y
given_anew x y register old other are there old_there other_there high is_old is_other e f more =
    given_next x y register are there (subst (λ n. n < 2 ^ 16) olds old_there) (subst (λ n. n < 2 ^ 16) others other_there)
    (subst (λ n. x.given ≤ n) olds high) (e ∙ (λ i. set (set x.numbers.items (others i) (olds i)) register x.given))
    (f ∙ (λ i. set (set x.registers.items (olds i) (others i)) x.given register)) more
  where
    olds : old ≡ number_of x register
    olds = get_or_read x.numbers.items register old (let long = are.numbers in omega (arith, long, there)) is_old register

    others : other ≡ register_of x x.given
    others = get_or_read x.registers.items x.given other (let long = are.registers in omega (arith, long, high, old_there)) is_other x.given
