-- Sums over the positions of a formula: level by level, as its code goes through them, or one position behind the other.
use Rattle.std.proofs.Common.{◌≡◌, ℕ, zero, suc, ◌+◌, ◌<◌, ◌≤◌, Bool, true, false, Option, None, refl, sym, ap, ◌∙◌, arith}
use Rattle.std.specs.Prelude.{nat_eq}
use Rattle.std.proofs.lemmas.Bool.Decides.{nat_tests}
use Rattle.superstep_machine.proofs.KeyOrder.{none_least, keys_are_monoid}
use Rattle.pram_values.proofs.Totals.{middle}
use Rattle.superstep_machine.specs.declared.key.Key.{Key}
use Rattle.superstep_machine.specs.Keys.{least}
use Rattle.plain_form.specs.Formulas.{Formula, Zero, Number, Variable, Index, Local, Read, Before, Between, Pair, positions, nesting}

-- a key, or none
abbrev pub key_if : Bool → Option Key → Option Key
key_if true k = k
key_if false k = None

-- by `weigh` each position, which is that of a read or of an operation, has a key or none
module _ (weigh : ℕ → Formula → Option Key) where
  -- those of what stands around the reads
  abbrev pub around : Formula → ℕ → Option Key
  around Zero q = None
  around (Number n) q = None
  around (Variable x) q = None
  around Index q = None
  around (Local x) q = None
  around (Read a f) q = None
  around (Before o f) q = least (around f q) (weigh (q + positions f + 1) (Before o f))
  around (Between o f g) q =
      least (around f q) (least (around g (q + positions f)) (weigh (q + positions f + positions g + 1) (Between o f g)))
  around (Pair f g) q = least (around f q) (around g (q + positions f))

  -- those of the reads of a level, and of what stands around the reads in their subscripts
  abbrev pub at_level : ℕ → Formula → ℕ → Option Key
  at_level l Zero q = None
  at_level l (Number n) q = None
  at_level l (Variable x) q = None
  at_level l Index q = None
  at_level l (Local x) q = None
  at_level l (Read a f) q =
      least (at_level l f q) (key_if (nat_eq (nesting f) l) (least (around f q) (weigh (q + positions f + 1) (Read a f))))
  at_level l (Before o f) q = at_level l f q
  at_level l (Between o f g) q = least (at_level l f q) (at_level l g (q + positions f))
  at_level l (Pair f g) q = least (at_level l f q) (at_level l g (q + positions f))

  -- n levels from l on
  abbrev pub levels : (n l : ℕ) → Formula → ℕ → Option Key
  levels zero l f q = None
  levels (suc n) l f q = least (at_level l f q) (levels n (l + 1) f q)

  -- all positions
  abbrev pub all_of : Formula → ℕ → Option Key
  all_of Zero q = None
  all_of (Number n) q = None
  all_of (Variable x) q = None
  all_of Index q = None
  all_of (Local x) q = None
  all_of (Read a f) q = least (all_of f q) (weigh (q + positions f + 1) (Read a f))
  all_of (Before o f) q = least (all_of f q) (weigh (q + positions f + 1) (Before o f))
  all_of (Between o f g) q =
      least (all_of f q) (least (all_of g (q + positions f)) (weigh (q + positions f + positions g + 1) (Between o f g)))
  all_of (Pair f g) q = least (all_of f q) (all_of g (q + positions f))

  -- ---- both sums are equal

  levels_none : (n l : ℕ) (f : Formula) (q : ℕ) → ((l : ℕ) → at_level l f q ≡ None) → levels n l f q ≡ None
  levels_none zero l f q h = refl
  levels_none (suc n) l f q h = ap (λ k. least k (levels n (l + 1) f q)) (h l) ∙ levels_none n (l + 1) f q h

  levels_same : (n l : ℕ) (f g : Formula) (q : ℕ) → ((l : ℕ) → at_level l f q ≡ at_level l g q) → levels n l f q ≡ levels n l g q
  levels_same zero l f g q h = refl
  levels_same (suc n) l f g q h = ap (λ k. least k (levels n (l + 1) f q)) (h l)
      ∙ ap (least (at_level l g q)) (levels_same n (l + 1) f g q h)

  levels_both : (n l : ℕ) (e f g : Formula) (q p : ℕ) → ((l : ℕ) → at_level l e q ≡ least (at_level l f q) (at_level l g p)) →
      levels n l e q ≡ least (levels n l f q) (levels n l g p)
  levels_both zero l e f g q p h = refl
  levels_both (suc n) l e f g q p h =
      ap (λ k. least k (levels n (l + 1) e q)) (h l)
      ∙ ap (least (least (at_level l f q) (at_level l g p))) (levels_both n (l + 1) e f g q p h)
      ∙ middle None least keys_are_monoid (at_level l f q) (at_level l g p) (levels n (l + 1) f q) (levels n (l + 1) g p)

  -- a key at one level k
  abbrev picked : (n l k : ℕ) → Option Key → Option Key
  picked zero l k x = None
  picked (suc n) l k x = least (key_if (nat_eq k l) x) (picked n (l + 1) k x)

  levels_read : (n l a : ℕ) (f : Formula) (q : ℕ) →
      levels n l (Read a f) q
      ≡ least (levels n l f q) (picked n l (nesting f) (least (around f q) (weigh (q + positions f + 1) (Read a f))))
  levels_read zero l a f q = refl
  levels_read (suc n) l a f q =
      let x = least (around f q) (weigh (q + positions f + 1) (Read a f)) in
      ap (least (at_level l (Read a f) q)) (levels_read n (l + 1) a f q)
      ∙ middle None least keys_are_monoid (at_level l f q) (key_if (nat_eq (nesting f) l) x) (levels n (l + 1) f q)
      (picked n (l + 1) (nesting f) x)

  picked_past : (n l k : ℕ) (x : Option Key) → k < l → picked n l k x ≡ None
  picked_past zero l k x h = refl
  picked_past (suc n) l k x h =
      let e : nat_eq k l ≡ false = grind (arith, nat_tests) in
      ap (λ b. least (key_if b x) (picked n (l + 1) k x)) e ∙ picked_past n (l + 1) k x (omega arith)

  picked_once : (n l k : ℕ) (x : Option Key) → l ≤ k → k < l + n → picked n l k x ≡ x
  picked_once zero l k x h j = absurd (omega arith)
  picked_once (suc n) l k x h j = go (nat_eq k l) refl (λ low high. picked_once n (l + 1) k x low high)
    where
      go : (b : Bool) → nat_eq k l ≡ b → (l + 1 ≤ k → k < l + 1 + n → picked n (l + 1) k x ≡ x) →
          least (key_if b x) (picked n (l + 1) k x) ≡ x
      go true e r = ap (least x) (picked_past n (l + 1) k x (grind (arith, nat_tests, e))) ∙ none_least x
      go false e r = r (grind (arith, nat_tests, e, h)) (omega arith)

  pub levels_are_all : (f : Formula) (n q : ℕ) → nesting f ≤ n → least (levels n 0 f q) (around f q) ≡ all_of f q
  levels_are_all Zero n q h = none_least (levels n 0 Zero q) ∙ levels_none n 0 Zero q (λ l. refl)
  levels_are_all (Number z) n q h = none_least (levels n 0 (Number z) q) ∙ levels_none n 0 (Number z) q (λ l. refl)
  levels_are_all (Variable x) n q h = none_least (levels n 0 (Variable x) q) ∙ levels_none n 0 (Variable x) q (λ l. refl)
  levels_are_all Index n q h = none_least (levels n 0 Index q) ∙ levels_none n 0 Index q (λ l. refl)
  levels_are_all (Local x) n q h = none_least (levels n 0 (Local x) q) ∙ levels_none n 0 (Local x) q (λ l. refl)
  levels_are_all (Read a f) n q h =
      let w = weigh (q + positions f + 1) (Read a f) in
      none_least (levels n 0 (Read a f) q) ∙ levels_read n 0 a f q
      ∙ ap (least (levels n 0 f q)) (picked_once n 0 (nesting f) (least (around f q) w) (omega arith) (omega arith))
      ∙ sym (keys_are_monoid.associative (levels n 0 f q) (around f q) w)
      ∙ ap (λ k. least k w) (levels_are_all f n q (omega arith))
  levels_are_all (Before o f) n q h =
      let w = weigh (q + positions f + 1) (Before o f) in
      ap (λ k. least k (least (around f q) w)) (levels_same n 0 (Before o f) f q (λ l. refl))
      ∙ sym (keys_are_monoid.associative (levels n 0 f q) (around f q) w)
      ∙ ap (λ k. least k w) (levels_are_all f n q h)
  levels_are_all (Between o f g) n q h =
      let w = weigh (q + positions f + positions g + 1) (Between o f g) in
      let p = q + positions f in
      ap (λ k. least k (least (around f q) (least (around g p) w))) (levels_both n 0 (Between o f g) f g q p (λ l. refl))
      ∙ middle None least keys_are_monoid (levels n 0 f q) (levels n 0 g p) (around f q) (least (around g p) w)
      ∙ ap (λ k. least k (least (levels n 0 g p) (least (around g p) w))) (levels_are_all f n q (omega arith))
      ∙ ap (least (all_of f q))
      (sym (keys_are_monoid.associative (levels n 0 g p) (around g p) w) ∙ ap (λ k. least k w) (levels_are_all g n p (omega arith)))
  levels_are_all (Pair f g) n q h =
      let p = q + positions f in
      ap (λ k. least k (least (around f q) (around g p))) (levels_both n 0 (Pair f g) f g q p (λ l. refl))
      ∙ middle None least keys_are_monoid (levels n 0 f q) (levels n 0 g p) (around f q) (around g p)
      ∙ (λ i. least (levels_are_all f n q (omega arith) i) (levels_are_all g n p (omega arith) i))
