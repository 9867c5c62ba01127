-- Cells behind a statement of a set of processors.
use Rattle.std.proofs.Common.{◌≡◌, ℕ, ◌<◌, ◌+◌, List, [], ◌∷◌, ◌++◌, ℤ, pos, Bool, true, false, Some, Ok, refl, sym, subst, ap}
use Rattle.std.proofs.Common.{◌∙◌, arith, tests, nat_eq, length, get_or, if◌then◌else◌, append-nil}
use Rattle.std.specs.Prelude.{slice_set}
use Rattle.std.proofs.lemmas.List.{length-set, get_or-set_same, get_or-set_other, ext_get_or}
use Rattle.std.proofs.lemmas.Int.{ints}
use Rattle.pram_model.specs.declared.rule.Rule.{Rule}
use Rattle.pram_model.specs.declared.rule.Rule.TheVariants.{Erew, Crew, Common, Priority, Sum}
use Rattle.pram_values.specs.Value.{fits}
use Rattle.write_rules.specs.declared.write.Write.{Write}
use Rattle.write_rules.specs.Rule.{rule_value, written}
use Rattle.pram_meaning.specs.Conflict.{Part, write_to, writes_by, writes_to}
use Rattle.pram_meaning.specs.Together.{overwritten, settled}
use Rattle.pram_meaning.proofs.Overwrites.{at_over, length_over}
use Rattle.pram_meaning.proofs.Groups.{same_number}
use Rattle.abstract_runs.proofs.CellWrites.{elsewhere, writes_last}

-- what is in the cell c
pub at_cell : (rule : Rule) (xs : List Part) (zs : List ℤ) (c : ℕ) → c < length zs →
    get_or (overwritten rule xs 0 zs) c (pos 0) ≡ settled (get_or zs c (pos 0)) (written rule (get_or zs c (pos 0)) (writes_to c xs))
at_cell rule xs zs c below =
    at_over rule xs 0 zs c below
    ∙ ap (λ n. settled (get_or zs c (pos 0)) (written rule (get_or zs c (pos 0)) (writes_to n xs))) (let e : 0 + c ≡ c = omega arith in e)

-- by the same writes the cells come to the same
pub over_same : (rule : Rule) (xs ys : List Part) (k : ℕ) (zs : List ℤ) → ((d : ℕ) → writes_to d xs ≡ writes_to d ys) →
    overwritten rule xs k zs ≡ overwritten rule ys k zs
over_same rule xs ys k [] h = refl
over_same rule xs ys k (z ∷ zs) h = λ i. settled z (written rule z (h k i)) ∷ over_same rule xs ys (k + 1) zs h i

-- and by none they stay
pub over_none : (rule : Rule) (k : ℕ) (zs : List ℤ) → overwritten rule [] k zs ≡ zs
over_none rule k [] = refl
over_none rule k (z ∷ zs) = ap (λ zs. z ∷ zs) (over_none rule (k + 1) zs)

-- one that writes nothing changes nothing
pub over_nothing : (rule : Rule) (xs : List Part) (x : Part) (zs : List ℤ) → ((d : ℕ) → writes_by d x.processor x.attempt ≡ []) →
    overwritten rule (xs ++ x ∷ []) 0 zs ≡ overwritten rule xs 0 zs
over_nothing rule xs x zs none =
    over_same rule (xs ++ x ∷ []) xs 0 zs
    (λ d. writes_last d xs x ∙ ap (λ ws. writes_to d xs ++ ws) (none d) ∙ append-nil (writes_to d xs))

-- a write that is alone
alone_value : (rule : Rule) (w : Write) → fits w.value ≡ true → rule_value rule w [] ≡ Ok w.value
alone_value Erew w h = refl
alone_value Crew w h = refl
alone_value Common w h = refl
alone_value Priority w h = refl
alone_value Sum w h = grind (arith, ints, h)

module _ (rule : Rule) (xs : List Part) (x : Part) (zs : List ℤ) (c : ℕ) (v : ℤ) (none : writes_to c xs ≡ []) (fit : fits v ≡ true)
    (writes : (d : ℕ) → writes_by d x.processor x.attempt ≡ write_to d x.processor (Some c) v) where
  abbrev w : Write
  w = record { processor = x.processor; value = v }

  here : writes_to c (xs ++ x ∷ []) ≡ w ∷ []
  here =
      writes_last c xs x ∙ ap (λ ws. ws ++ writes_by c x.processor x.attempt) none ∙ writes c
      ∙ ap (λ b. if b then w ∷ [] else []) (same_number c)

  there : (d : ℕ) → nat_eq d c ≡ false → writes_to d (xs ++ x ∷ []) ≡ writes_to d xs
  there d e =
      writes_last d xs x ∙ ap (λ ws. writes_to d xs ++ ws) (writes d ∙ elsewhere d c x.processor v e) ∙ append-nil (writes_to d xs)

  each : (d : ℕ) → d < length zs → (b : Bool) → nat_eq d c ≡ b →
      get_or (overwritten rule (xs ++ x ∷ []) 0 zs) d (pos 0) ≡ get_or (slice_set (overwritten rule xs 0 zs) c v) d (pos 0)
  each d below true e =
      let same : c ≡ d = grind (arith, tests, e) in
      let long : length (overwritten rule xs 0 zs) ≡ length zs = length_over rule xs 0 zs in
      let o : ℤ = get_or zs c (pos 0) in
      subst (λ d. get_or (overwritten rule (xs ++ x ∷ []) 0 zs) d (pos 0) ≡ get_or (slice_set (overwritten rule xs 0 zs) c v) d
      (pos 0)) same
      (at_cell rule (xs ++ x ∷ []) zs c (omega (arith, same, below))
      ∙ ap (λ ws. settled o (written rule o ws)) here
      ∙ ap (settled o) (alone_value rule w fit)
      ∙ sym (get_or-set_same (overwritten rule xs 0 zs) c v (pos 0) (omega (arith, same, below, long))))
  each d below false e =
      let o : ℤ = get_or zs d (pos 0) in
      at_cell rule (xs ++ x ∷ []) zs d below
      ∙ ap (λ ws. settled o (written rule o ws)) (there d e)
      ∙ sym (get_or-set_other (overwritten rule xs 0 zs) c d v (pos 0) (grind (arith, tests, e)) ∙ at_cell rule xs zs d below)

  -- it is set in the cell
  pub over_one : overwritten rule (xs ++ x ∷ []) 0 zs ≡ slice_set (overwritten rule xs 0 zs) c v
  over_one =
      ext_get_or (pos 0) (overwritten rule (xs ++ x ∷ []) 0 zs) (slice_set (overwritten rule xs 0 zs) c v)
      (length_over rule (xs ++ x ∷ []) 0 zs ∙ sym (length-set (overwritten rule xs 0 zs) c v ∙ length_over rule xs 0 zs))
      (λ d l. let long : length (overwritten rule (xs ++ x ∷ []) 0 zs) ≡ length zs = length_over rule (xs ++ x ∷ []) 0 zs in
      each d (omega (arith, l, long)) (nat_eq d c) refl)
