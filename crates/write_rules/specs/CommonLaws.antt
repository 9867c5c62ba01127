-- Writes of a common value carry their rule.
use Rattle.std.proofs.Common.{◌≡◌, ◌⊎◌, inl, inr, List, [], ◌∷◌, map, fold, Bool, true, false, not, ◌||◌, if◌then◌else◌, ℤ, Err, refl, ap}
use Rattle.std.proofs.Common.{sym, ◌∙◌, subst, FitsSigned, arith}
use Rattle.std.specs.Int.{w64}
use Rattle.std.proofs.lemmas.Int.{ints}
use Rattle.pram_model.specs.declared.rule.Rule.TheVariants as name
use Rattle.pram_values.specs.declared.kind.Kind.TheVariants.{WriteConflict}
use Rattle.pram_values.specs.Truth.{is_equal}
use Rattle.pram_values.specs.Value.{checked}
use Rattle.pram_model.proofs.Truths.{either}
use Rattle.write_rules.specs.declared.entry.Entry.{Entry}
use Rattle.write_rules.specs.declared.write.Write.{Write}
use Rattle.write_rules.specs.Rule.{common_value}
use Rattle.write_rules.specs.Combining.{entry_of, first_of, differ, unless_clash, Carries, common}
use Rattle.pram_values.proofs.Checked.{checked_some}
use Rattle.write_rules.specs.EntryOrder.{first_associates, first_commutes, first_clash, first_value}
use Rattle.write_rules.specs.ExclusiveLaws.{clashes, first_fits}

abbrev both : Entry → Entry → Entry
both a b = first_of (differ a b) a b

-- ---- the mark of a clash

same_mark : (p q r : Bool) (x y z m n : ℤ) → (m ≡ x) ⊎ (m ≡ y) → (n ≡ y) ⊎ (n ≡ z) →
    ((p || q || not (is_equal x y)) || r || not (is_equal m z)) ≡ (p || (q || r || not (is_equal y z)) || not (is_equal x n))
same_mark p q r x y z m n h k = grind (arith, ints)

differ_commutes : (a b : Entry) → differ a b ≡ differ b a
differ_commutes a b = grind (arith, ints)

differ_associates : (a b e : Entry) → differ (both a b) e ≡ differ a (both b e)
differ_associates a b e =
    ap (λ k. k || e.clash || not (is_equal (both a b).value e.value)) (first_clash (differ a b) a b)
    ∙ same_mark a.clash b.clash e.clash a.value b.value e.value (both a b).value (both b e).value (first_value (differ a b) a b)
    (first_value (differ b e) b e)
    ∙ sym (ap (λ k. a.clash || k || not (is_equal a.value (both b e).value)) (first_clash (differ b e) b e))

-- ---- the value

stays : (a : Entry) (vs : List Write) → a.clash ≡ true → (fold both a (map (λ v. entry_of v.processor v.value) vs)).clash ≡ true
stays a [] h = h
stays a (v ∷ vs) h =
    let s : Entry = entry_of v.processor v.value in
    stays (both a s) vs (first_clash (differ a s) a s ∙ ap (λ c. c || s.clash || not (is_equal a.value s.value)) h)

one_value : (a : Entry) (v : Write) → is_equal a.value v.value ≡ true → ((both a (entry_of v.processor v.value)).value ≡ a.value)
    ⊎ ((both a (entry_of v.processor v.value)).value ≡ v.value) → (both a (entry_of v.processor v.value)).value ≡ a.value
one_value a v e (inl h) = h
one_value a v e (inr h) = let g : a.value ≡ v.value = grind (arith, ints) in h ∙ sym g

abbrev CommonIs : List Write → Type 0
CommonIs vs = (a : Entry) → a.clash ≡ false → FitsSigned w64 a.value →
    unless_clash (fold both a (map (λ v. entry_of v.processor v.value) vs)) ≡ common_value a.value vs

common_by : (a : Entry) (v : Write) (vs : List Write) → CommonIs vs → a.clash ≡ false → FitsSigned w64 a.value →
    (is_equal a.value v.value ≡ true) ⊎ (is_equal a.value v.value ≡ false) →
    unless_clash (fold both a (map (λ v. entry_of v.processor v.value) (v ∷ vs))) ≡ common_value a.value (v ∷ vs)
common_by a v vs rest h f (inl e) =
    let s : Entry = entry_of v.processor v.value in
    let is : (both a s).value ≡ a.value = one_value a v e (first_value (differ a s) a s) in
    rest (both a s) (first_clash (differ a s) a s ∙ ap (λ c. c || s.clash || not (is_equal a.value s.value)) h
    ∙ ap not e) (subst (FitsSigned w64) (sym is) f)
    ∙ ap (λ x. common_value x vs) is
    ∙ sym (ap (λ c. if c then common_value a.value vs else Err WriteConflict) e)
common_by a v vs rest h f (inr e) =
    let s : Entry = entry_of v.processor v.value in
    clashes (fold both (both a s) (map (λ v. entry_of v.processor v.value) vs)) (stays (both a s) vs (first_clash (differ a s) a s
    ∙ ap (λ c. c || s.clash || not (is_equal a.value s.value)) h ∙ ap not e))
    ∙ sym (ap (λ c. if c then common_value a.value vs else Err WriteConflict) e)

common_is : (vs : List Write) → CommonIs vs
common_is [] a h f = ap (λ c. if c then Err WriteConflict else checked a.value) h ∙ sym (checked_some a.value a.value f refl)
common_is (v ∷ vs) a h f = common_by a v vs (common_is vs) h f (either (is_equal a.value v.value))

pub common_carries : Carries name.Common common
common_carries = record {
  associative = λ a b e. first_associates (differ (both a b) e) (differ a b) (differ b e) a b e
      ∙ ap (λ k. first_of k a (both b e)) (differ_associates a b e);
  commutative = λ a b. first_commutes (differ a b) a b ∙ ap (λ k. first_of k b a) (differ_commutes a b);
  meets = λ w ws h. common_is ws (entry_of w.processor w.value) refl (first_fits w ws h);
}
