-- Writes by priority carry their rule.
use Rattle.std.proofs.Common.{◌≡◌, ◌≢◌, ◌⊎◌, inl, inr, List, [], ◌∷◌, map, fold, Bool, true, false, if◌then◌else◌, refl, ap, sym, ◌∙◌}
use Rattle.std.proofs.Common.{FitsSigned, All, AllPairs, int_le, arith, suc, subst}
use Rattle.std.specs.Int.{w64}
use Rattle.std.proofs.lemmas.Int.{ints}
use Rattle.pram_model.specs.declared.rule.Rule.TheVariants.{Priority}
use Rattle.pram_model.proofs.Truths.{either}
use Rattle.write_rules.specs.declared.entry.Entry.{Entry}
use Rattle.write_rules.specs.declared.write.Write.{Write}
use Rattle.write_rules.specs.Rule.{least_writer}
use Rattle.write_rules.specs.Combining.{entry_of, marked, is_first, first_of, joined, Carries, priority}
use Rattle.pram_values.proofs.Checked.{checked_some}
use Rattle.write_rules.specs.EntryOrder.{first_associates, first_commutes, pick_first, pick_last}
use Rattle.write_rules.specs.ExclusiveLaws.{first_fits}

abbrev Apart : List Write → Type 0
Apart = AllPairs (λ v w. v.processor ≢ w.processor)

apart_head : (w : Write) (ws : List Write) → Apart (w ∷ ws) → All (λ v. w.processor ≢ v.processor) ws
apart_head w ws h k d l = h 0 (suc k) d (omega arith) (omega arith)

apart_tail : (w : Write) (ws : List Write) → Apart (w ∷ ws) → Apart ws
apart_tail w ws h i j d l m = h (suc i) (suc j) d (omega arith) (omega arith)

is_before : (a : Entry) (v : Write) → a.owner ≢ v.processor → int_le a.owner v.processor ≡ true →
    is_first a (entry_of v.processor v.value) ≡ true
is_before a v h l = grind (arith, ints, h)

is_behind : (a : Entry) (v : Write) → int_le a.owner v.processor ≡ false → is_first a (entry_of v.processor v.value) ≡ false
is_behind a v l = grind (arith, ints)

abbrev LeastIs : List Write → Type 0
LeastIs vs = (a : Entry) → All (λ v. a.owner ≢ v.processor) vs → Apart vs →
    (fold (first_of false) a (map (λ v. entry_of v.processor v.value) vs)).value ≡ (least_writer (record {
      processor = a.owner;
      value =
          a.value;
    }) vs).value

least_by : (a : Entry) (v : Write) (vs : List Write) → LeastIs vs → All (λ v. a.owner ≢ v.processor) (v ∷ vs) → Apart (v ∷ vs) →
    (int_le a.owner v.processor ≡ true) ⊎ (int_le a.owner v.processor ≡ false) →
    (fold (first_of false) a (map (λ v. entry_of v.processor v.value) (v ∷ vs))).value ≡ (least_writer (record {
      processor = a.owner;
      value = a.value;
    }) (v ∷ vs)).value
least_by a v vs rest h p (inl l) =
    ap (λ (x : Entry). (fold (first_of false) x (map (λ v. entry_of v.processor v.value) vs)).value)
    (pick_first false a (entry_of v.processor v.value) (is_before a v (h 0 v (omega arith)) l))
    ∙ rest (marked false a) (λ k d m. h (suc k) d (omega arith)) (apart_tail v vs p)
    ∙ sym (ap (λ c. (if c then least_writer (record { processor = a.owner; value = a.value }) vs else least_writer v vs).value) l)
least_by a v vs rest h p (inr l) =
    ap (λ (x : Entry). (fold (first_of false) x (map (λ v. entry_of v.processor v.value) vs)).value)
    (pick_last false a (entry_of v.processor v.value) (is_behind a v l))
    ∙ rest (entry_of v.processor v.value) (apart_head v vs p) (apart_tail v vs p)
    ∙ sym (ap (λ c. (if c then least_writer (record { processor = a.owner; value = a.value }) vs else least_writer v vs).value) l)

least_is : (vs : List Write) → LeastIs vs
least_is [] a h p = refl
least_is (v ∷ vs) a h p = least_by a v vs (least_is vs) h p (either (int_le a.owner v.processor))

fits_by : (w v : Write) (b : Bool) (ws : List Write) → FitsSigned w64 (least_writer w ws).value → FitsSigned w64 (least_writer v ws).value →
    FitsSigned w64 (if b then least_writer w ws else least_writer v ws).value
fits_by w v true ws f g = f
fits_by w v false ws f g = g

least_fits : (w : Write) (ws : List Write) → FitsSigned w64 w.value → All (λ w. FitsSigned w64 w.processor × FitsSigned w64 w.value) ws →
    FitsSigned w64 (least_writer w ws).value
least_fits w [] f h = f
least_fits w (v ∷ vs) f h =
    fits_by w v (int_le w.processor v.processor) vs (least_fits w vs f (λ k d m. h (suc k) d (omega arith)))
    (least_fits v vs (h 0 v (omega arith)).1 (λ k d m. h (suc k) d (omega arith)))

pub priority_carries : Carries Priority priority
priority_carries = record {
  associative = first_associates false false false;
  commutative = first_commutes false;
  meets = λ w ws h.
      sym (checked_some (joined priority w ws).value (least_writer w ws).value
      (subst (FitsSigned w64) (sym (least_is ws (entry_of w.processor w.value) (apart_head w ws h.apart) (apart_tail w ws h.apart)))
      (least_fits w ws (first_fits w ws h) (λ k d m. h.fit (suc k) d (omega arith))))
      (sym (least_is ws (entry_of w.processor w.value) (apart_head w ws h.apart) (apart_tail w ws h.apart))));
}
