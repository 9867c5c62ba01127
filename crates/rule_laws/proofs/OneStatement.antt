-- A statement of a set of processors under a weaker rule: the same fault, or the same effect.
use Rattle.std.proofs.Common.{◌≡◌, ◌∙◌, ◌⊎◌, inl, inr, Bool, true, false, List, [], ◌∷◌, ◌++◌, Option, Some, None, Ok, Err, ℕ, ℤ, pos, ◌+◌}
use Rattle.std.proofs.Common.{ap, append_assoc, arith, flat_map, fold, if◌then◌else◌, length, nat_eq, refl, subst, sym}
use Rattle.std.specs.List.{AllByRecursion, list_any}
use Rattle.std.proofs.lemmas.List.Sums.{fold-append}
use Rattle.pram_model.specs.declared.rule.Rule.{Rule}
use Rattle.pram_values.specs.declared.kind.Kind.{Kind}
use Rattle.pram_values.specs.declared.kind.Kind.TheVariants.{ReadConflict, WriteConflict}
use Rattle.pram_values.specs.declared.place.Place.{Place}
use Rattle.pram_values.specs.declared.place.Place.TheVariants.{Cell}
use Rattle.pram_values.specs.Value.{Value}
use Rattle.write_rules.specs.declared.write.Write.{Write}
use Rattle.write_rules.specs.Rule.{shares_reads, written}
use Rattle.pram_meaning.specs.declared.key.Key.{Key}
use Rattle.pram_meaning.specs.declared.read.Read.{Read}
use Rattle.pram_meaning.specs.Attempt.{Attempt, Effect, Fails, Gives}
use Rattle.pram_meaning.specs.Conflict.{Part, cell_conflict, conflict_of, fault_of, is_conflict, keys, least, lesser, read_conflicts}
use Rattle.pram_meaning.specs.Conflict.{read_key, reads_of, value_key, write_conflict, write_to, writes_by, writes_to}
use Rattle.pram_meaning.specs.Together.{overwritten, settled}
use Rattle.pram_meaning.specs.Values.{IsValue}
use Rattle.pram_meaning.proofs.SoundValues.{WritesValue, all_append}
use Rattle.pram_meaning.proofs.ValuesOfAttempts.{IfGives}
use Rattle.rule_laws.proofs.Keys.{AllAt, IsBad, NotBefore, Nowhere, all_both, none_or_bad, none_there, there_none, told_or_bad, told_still}
use Rattle.rule_laws.proofs.OneCell.{Eases, Needs}

-- ---- what a statement's parts give

abbrev pub GivesValue : Attempt Effect → Type 0
GivesValue = IfGives (λ g. IsValue g.value)

abbrev pub AreParts : List Part → Type 0
AreParts = AllByRecursion (λ x. GivesValue x.attempt)

writes_are : (c : ℕ) (xs : List Part) → AreParts xs → AllByRecursion WritesValue (writes_to c xs)
writes_are c [] h = tt
writes_are c (x ∷ xs) h = all_append WritesValue (writes_by c x.processor x.attempt) (writes_to c xs) (one x.attempt h.0)
    (writes_are c xs h.1)
  where
    to : (o : Option ℕ) (v : ℤ) → IsValue v → AllByRecursion WritesValue (write_to c x.processor o v)
    to None v g = tt
    to (Some d) v g = by (nat_eq c d)
      where
        by : (b : Bool) → AllByRecursion WritesValue (if b then record { processor = x.processor; value = v } ∷ [] else [])
        by true = (g, tt)
        by false = tt

    one : (a : Attempt Effect) → GivesValue a → AllByRecursion WritesValue (writes_by c x.processor a)
    one (Gives t y) g = to y.cell y.value g
    one (Fails t k) g = tt

same_number : (c d : ℕ) → nat_eq c d ≡ true → c ≡ d
same_number c d h = grind arith

-- ---- the kinds of fault that a rule forbids

abbrev pub IsForbidden : Rule → Kind → Type 0
IsForbidden r k = (k ≡ WriteConflict) ⊎ ((shares_reads r ≡ false) × (k ≡ ReadConflict))

abbrev IsForbiddenKey : Rule → Key → Type 0
IsForbiddenKey r k = IsForbidden r k.kind

-- the faults behind the processors' own
abbrev conflicts : Rule → List Part → List Key
conflicts r xs = read_conflicts r (reads_of xs) ++ flat_map (λ x. write_conflict r xs x.attempt) xs

abbrev own_faults : List Part → List Key
own_faults = flat_map (λ x. fault_of x.processor x.attempt)

keys_are : (rule : Rule) (xs : List Part) → keys rule xs ≡ own_faults xs ++ conflicts rule xs
keys_are rule xs = append_assoc (own_faults xs) (read_conflicts rule (reads_of xs)) (flat_map (λ x. write_conflict rule xs x.attempt) xs)

reads_forbidden : (r : Rule) (all rs : List Read) → shares_reads r ≡ false →
    AllByRecursion (IsForbiddenKey r) (flat_map (conflict_of all) rs)
reads_forbidden r all [] is = tt
reads_forbidden r all (q ∷ rs) is =
    all_append (IsForbiddenKey r) (conflict_of all q) (flat_map (conflict_of all) rs) (by (list_any (is_conflict q) all))
    (reads_forbidden r all rs is)
  where
    by : (b : Bool) → AllByRecursion (IsForbiddenKey r) (if b then read_key q ∷ [] else [])
    by true = (inr (is, refl), tt)
    by false = tt

all_reads_forbidden : (r : Rule) (rs : List Read) → AllByRecursion (IsForbiddenKey r) (read_conflicts r rs)
all_reads_forbidden r rs = by (shares_reads r) refl
  where
    by : (b : Bool) → shares_reads r ≡ b → AllByRecursion (IsForbiddenKey r) (if b then [] else flat_map (conflict_of rs) rs)
    by true is = tt
    by false is = reads_forbidden r rs rs is

module _ (r s : Rule) (x : Eases r s) where
  -- ---- the writers of one cell

  written_eases : (old : ℤ) (ws : List Write) (v : ℤ) → Needs s (AllByRecursion WritesValue ws) → written r old ws ≡ Ok v →
      written s old ws ≡ Ok v
  written_eases old [] v h e = e
  written_eases old (w ∷ ws) v h e = x.value w ws v (λ i. (h i).0) e

  written_kind : (old : ℤ) (ws : List Write) (k : Kind) → written r old ws ≡ Err k → k ≡ WriteConflict
  written_kind old [] k e = absurd (cc e)
  written_kind old (w ∷ ws) k e = x.kind w ws k e

  -- ---- what is forbidden

  value_forbidden : (at c : ℕ) (ws : List Write) → AllByRecursion (IsForbiddenKey r) (value_key at c (written r (pos 0) ws))
  value_forbidden at c ws = by (written r (pos 0) ws) refl
    where
      by : (v : Value) → written r (pos 0) ws ≡ v → AllByRecursion (IsForbiddenKey r) (value_key at c v)
      by (Ok v) is = tt
      by (Err k) is = (inl (written_kind (pos 0) ws k is), tt)

  write_forbidden : (all : List Part) (a : Attempt Effect) → AllByRecursion (IsForbiddenKey r) (write_conflict r all a)
  write_forbidden all (Gives t y) = by y.cell
    where
      by : (o : Option ℕ) → AllByRecursion (IsForbiddenKey r) (cell_conflict r all (length t) o)
      by None = tt
      by (Some c) = value_forbidden (length t) c (writes_to c all)
  write_forbidden all (Fails t k) = tt

  writes_forbidden : (all xs : List Part) → AllByRecursion (IsForbiddenKey r) (flat_map (λ x. write_conflict r all x.attempt) xs)
  writes_forbidden all [] = tt
  writes_forbidden all (y ∷ xs) =
      all_append (IsForbiddenKey r) (write_conflict r all y.attempt) (flat_map (λ x. write_conflict r all x.attempt) xs)
      (write_forbidden all y.attempt) (writes_forbidden all xs)

  conflicts_forbidden : (xs : List Part) → AllByRecursion (IsForbiddenKey r) (conflicts r xs)
  conflicts_forbidden xs =
      all_append (IsForbiddenKey r) (read_conflicts r (reads_of xs)) (flat_map (λ x. write_conflict r xs x.attempt) xs)
      (all_reads_forbidden r (reads_of xs)) (writes_forbidden xs xs)

  -- ---- what is told under s stands where something is told under r

  module _ (P : ℕ → Place → Type 0) where
    reads_there : (rs : List Read) → AllAt P (read_conflicts r rs) → AllAt P (read_conflicts s rs)
    reads_there rs = by (shares_reads r) (shares_reads s) x.reads
      where
        by : (a b : Bool) → (a ≡ true → b ≡ true) → AllAt P (if a then [] else flat_map (conflict_of rs) rs) →
            AllAt P (if b then [] else flat_map (conflict_of rs) rs)
        by a true both h = tt
        by false false both h = h
        by true false both h = absurd (cc (both refl))

    value_there : (at c : ℕ) (ws : List Write) → Needs s (AllByRecursion WritesValue ws) →
        AllAt P (value_key at c (written r (pos 0) ws)) → AllAt P (value_key at c (written s (pos 0) ws))
    value_there at c ws fit = by (written r (pos 0) ws) refl
      where
        any : (v : Value) → P at (Cell c) → AllAt P (value_key at c v)
        any (Ok v) h = tt
        any (Err k) h = (h, tt)

        by : (v : Value) → written r (pos 0) ws ≡ v → AllAt P (value_key at c v) → AllAt P (value_key at c (written s (pos 0) ws))
        by (Ok v) is h = subst (λ (a : Value). AllAt P (value_key at c a)) (sym (written_eases (pos 0) ws v fit is)) tt
        by (Err k) is h = any (written s (pos 0) ws) h.0

    write_there : (all : List Part) (a : Attempt Effect) → Needs s (AreParts all) → AllAt P (write_conflict r all a) →
        AllAt P (write_conflict s all a)
    write_there all (Gives t y) fit = by y.cell
      where
        by : (o : Option ℕ) → AllAt P (cell_conflict r all (length t) o) → AllAt P (cell_conflict s all (length t) o)
        by None h = tt
        by (Some c) h = value_there (length t) c (writes_to c all) (λ i. writes_are c all (fit i)) h
    write_there all (Fails t k) fit = λ h. tt

    writes_there : (all xs : List Part) → Needs s (AreParts all) → AllAt P (flat_map (λ x. write_conflict r all x.attempt) xs) →
        AllAt P (flat_map (λ x. write_conflict s all x.attempt) xs)
    writes_there all [] fit h = tt
    writes_there all (y ∷ xs) fit h =
        let both = all_both (λ k. P k.at k.place) (write_conflict r all y.attempt) (flat_map (λ x. write_conflict r all x.attempt) xs) h in
        all_append (λ k. P k.at k.place) (write_conflict s all y.attempt) (flat_map (λ x. write_conflict s all x.attempt) xs)
        (write_there all y.attempt fit both.0) (writes_there all xs fit both.1)

    conflicts_there : (xs : List Part) → Needs s (AreParts xs) → AllAt P (conflicts r xs) → AllAt P (conflicts s xs)
    conflicts_there xs fit h =
        let both = all_both (λ k. P k.at k.place) (read_conflicts r (reads_of xs)) (flat_map (λ x. write_conflict r xs x.attempt) xs) h in
        all_append (λ k. P k.at k.place) (read_conflicts s (reads_of xs)) (flat_map (λ x. write_conflict s xs x.attempt) xs)
        (reads_there (reads_of xs) both.0) (writes_there xs xs fit both.1)

  -- ---- the fault that is told

  abbrev pub IsLawful : Option Key → Type 0
  IsLawful None = Unit {0}
  IsLawful (Some k) = IsForbidden r k.kind → ⊥

  unlawful : {A : Type 0} (o : Option Key) → IsBad (IsForbiddenKey r) o → IsLawful o → A
  unlawful o bad lawful = absurd ((subst IsLawful bad.1 lawful) bad.2)

  from : (xs : List Part) → Needs s (AreParts xs) → (o : Option Key) → IsLawful (fold lesser o (conflicts r xs)) →
      fold lesser o (conflicts s xs) ≡ fold lesser o (conflicts r xs)
  from xs fit None lawful = elim (none_or_bad (IsForbiddenKey r) (conflicts r xs) (conflicts_forbidden xs)) [
    | inl h ↦ ap (fold lesser None) (none_there (conflicts s xs) (conflicts_there Nowhere xs fit h) ∙ sym (none_there (conflicts r xs) h))
    | inr bad ↦ unlawful (fold lesser None (conflicts r xs)) bad lawful
  ]
  from xs fit (Some k) lawful = elim (told_or_bad (IsForbiddenKey r) k (conflicts r xs) (conflicts_forbidden xs)) [
    | inl h ↦ told_still k (conflicts s xs) (conflicts_there (NotBefore k) xs fit h) ∙ sym (told_still k (conflicts r xs) h)
    | inr bad ↦ unlawful (fold lesser (Some k) (conflicts r xs)) bad lawful
  ]

  pub same_least : (xs : List Part) → Needs s (AreParts xs) → IsLawful (least (keys r xs)) → least (keys s xs) ≡ least (keys r xs)
  same_least xs fit lawful =
      let old : least (keys r xs) ≡ fold lesser (least (own_faults xs)) (conflicts r xs) =
      ap least (keys_are r xs) ∙ fold-append lesser None (own_faults xs) (conflicts r xs) in
      ap least (keys_are s xs) ∙ fold-append lesser None (own_faults xs) (conflicts s xs)
      ∙ from xs fit (least (own_faults xs)) (subst IsLawful old lawful) ∙ sym old

  -- ---- the cells behind a statement without a fault

  -- nobody writes the cell, or its writers may
  abbrev MayWrite : ℕ → List Part → List Part → Type 0
  MayWrite c all xs = (writes_to c xs ≡ []) ⊎ ((v : ℤ) × (written r (pos 0) (writes_to c all) ≡ Ok v))

  value_may : (at d : ℕ) (ws : List Write) → AllAt Nowhere (value_key at d (written r (pos 0) ws)) →
      (v : ℤ) × (written r (pos 0) ws ≡ Ok v)
  value_may at d ws = by (written r (pos 0) ws) refl
    where
      by : (a : Value) → written r (pos 0) ws ≡ a → AllAt Nowhere (value_key at d a) → (v : ℤ) × (written r (pos 0) ws ≡ Ok v)
      by (Ok v) is h = (v, is)
      by (Err k) is h = absurd h.0

  may_write : (c : ℕ) (all xs : List Part) → AllAt Nowhere (flat_map (λ x. write_conflict r all x.attempt) xs) → MayWrite c all xs
  may_write c all [] h = inl refl
  may_write c all (y ∷ xs) h =
      let both = all_both (λ k. Nowhere k.at k.place) (write_conflict r all y.attempt) (flat_map (λ x. write_conflict r all x.attempt) xs)
      h in
      one y.attempt both.0 (may_write c all xs both.1)
    where
      May : List Write → Type 0
      May ws = (ws ++ writes_to c xs ≡ []) ⊎ ((v : ℤ) × (written r (pos 0) (writes_to c all) ≡ Ok v))

      here : (at d : ℕ) (w : Write) (b : Bool) → nat_eq c d ≡ b → AllAt Nowhere (value_key at d (written r (pos 0) (writes_to d all))) →
          MayWrite c all xs → May (if b then w ∷ [] else [])
      here at d w true is none rest =
          inr (value_may at c (writes_to c all)
          (subst (λ d. AllAt Nowhere (value_key at d (written r (pos 0) (writes_to d all)))) (sym (same_number c d is)) none))
      here at d w false is none rest = rest

      cell : (at : ℕ) (o : Option ℕ) (v : ℤ) → AllAt Nowhere (cell_conflict r all at o) → MayWrite c all xs →
          May (write_to c y.processor o v)
      cell at None v none rest = rest
      cell at (Some d) v none rest = here at d (record { processor = y.processor; value = v }) (nat_eq c d) refl none rest

      one : (a : Attempt Effect) → AllAt Nowhere (write_conflict r all a) → MayWrite c all xs → May (writes_by c y.processor a)
      one (Gives t z) none rest = cell (length t) z.cell z.value none rest
      one (Fails t k) none rest = rest

  same_settled : (old : ℤ) (ws : List Write) → Needs s (AllByRecursion WritesValue ws) →
      (ws ≡ []) ⊎ ((v : ℤ) × (written r (pos 0) ws ≡ Ok v)) → settled old (written s old ws) ≡ settled old (written r old ws)
  same_settled old [] fit may = refl
  same_settled old (w ∷ ws) fit (inl e) = absurd (cc e)
  same_settled old (w ∷ ws) fit (inr (v, e)) = ap (settled old) (x.value w ws v (λ i. (fit i).0) e ∙ sym e)

  pub same_cells : (xs : List Part) → Needs s (AreParts xs) → keys r xs ≡ [] → (c : ℕ) (cells : List ℤ) →
      overwritten s xs c cells ≡ overwritten r xs c cells
  same_cells xs fit none c [] = refl
  same_cells xs fit none c (old ∷ cells) =
      let behind = all_both (λ k. Nowhere k.at k.place) (own_faults xs) (conflicts r xs) (there_none (own_faults xs ++ conflicts r xs)
      (sym (keys_are r xs) ∙ none)) in
      let writes = all_both (λ k. Nowhere k.at k.place) (read_conflicts r (reads_of xs)) (flat_map (λ x. write_conflict r xs x.attempt) xs)
      behind.1 in
      ap (λ v. v ∷ overwritten s xs (c + 1) cells)
      (same_settled old (writes_to c xs) (λ i. writes_are c xs (fit i)) (may_write c xs xs writes.1))
      ∙ ap (λ cs. settled old (written r old (writes_to c xs)) ∷ cs) (same_cells xs fit none (c + 1) cells)
