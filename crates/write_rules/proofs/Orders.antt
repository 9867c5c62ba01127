-- Writers that come in another order.
use Rattle.std.proofs.Common.{zero, suc, ◌≡◌, ◌<◌, ℕ, List, [], ◌∷◌, map, fold, length, get_or, set, Option, Some, None, refl, ap, sym, ◌∙◌}
use Rattle.std.proofs.Common.{true, false, arith}
use Rattle.std.proofs.lemmas.List.Edits.{swap_is}
use Rattle.std.proofs.lemmas.List.Sorted.{IsPermutation-keeps, IsPermutation-map}
use Rattle.std.specs.List.Sorted.{IsPermutation}
use Rattle.pram_model.specs.declared.rule.Rule.{Rule}
use Rattle.pram_model.specs.declared.rule.Rule.TheVariants.{Erew, Crew, Common, Priority, Sum}
use Rattle.write_rules.specs.Combining.{AreWriters, Carries, Combining, common, exclusive, joined, priority, summed}
use Rattle.write_rules.specs.CommonLaws.{common_carries}
use Rattle.write_rules.specs.ExclusiveLaws.{exclusive_carries}
use Rattle.write_rules.specs.PriorityLaws.{priority_carries}
use Rattle.write_rules.specs.Rule.{rule_value}
use Rattle.write_rules.specs.SumLaws.{summed_carries}
use Rattle.write_rules.specs.declared.entry.Entry.{Entry}
use Rattle.write_rules.specs.declared.write.Write.{Write}

module _ (rule : Rule) (c : Combining) (carries : Carries rule c) where
  -- two entries, where there may be none
  abbrev both : Option Entry → Option Entry → Option Entry
  both None b = b
  both (Some a) None = Some a
  both (Some a) (Some b) = Some (c.join a b)

  associates : (a b e : Option Entry) → both (both a b) e ≡ both a (both b e)
  associates None b e = refl
  associates (Some a) None e = refl
  associates (Some a) (Some b) None = refl
  associates (Some a) (Some b) (Some e) = ap Some (carries.associative a b e)

  commutes : (a b : Option Entry) → both a b ≡ both b a
  commutes None None = refl
  commutes None (Some b) = refl
  commutes (Some a) None = refl
  commutes (Some a) (Some b) = ap Some (carries.commutative a b)

  -- two that are taken in the other order before a third
  exchanged : (a b e : Option Entry) → both a (both b e) ≡ both b (both a e)
  exchanged a b e = sym (associates a b e) ∙ ap (λ x. both x e) (commutes a b) ∙ associates b a e

  -- all of some entries
  abbrev all_of : List Entry → Option Entry
  all_of [] = None
  all_of (a ∷ rest) = both (Some a) (all_of rest)

  folded : (a : Entry) (rest : List Entry) → Some (fold c.join a rest) ≡ all_of (a ∷ rest)
  folded a [] = refl
  folded a (b ∷ rest) = folded (c.join a b) rest ∙ associates (Some a) (Some b) (all_of rest)

  -- an entry in the place of another
  replaced : (l : List Entry) (i : ℕ) (v d : Entry) → i < length l → both (Some (get_or l i d)) (all_of (set l i v)) ≡ both (Some v)
      (all_of l)
  replaced [] i v d h = absurd (omega arith)
  replaced (a ∷ l) zero v d h = exchanged (Some a) (Some v) (all_of l)
  replaced (a ∷ l) (suc i) v d h =
      exchanged (Some (get_or l i d)) (Some a) (all_of (set l i v))
      ∙ ap (both (Some a)) (replaced l i v d (omega arith))
      ∙ exchanged (Some a) (Some v) (all_of l)

  -- two entries that change places
  changed : (l : List Entry) (i j : ℕ) (d : Entry) → i < length l → j < length l →
      all_of (set (set l i (get_or l j d)) j (get_or l i d)) ≡ all_of l
  changed [] i j d h k = absurd (omega arith)
  changed (a ∷ l) zero zero d h k = refl
  changed (a ∷ l) zero (suc j) d h k = replaced l j a d (omega arith)
  changed (a ∷ l) (suc i) zero d h k = replaced l i a d (omega arith)
  changed (a ∷ l) (suc i) (suc j) d h k = ap (both (Some a)) (changed l i j d (omega arith) (omega arith))

  reordered : (xs ys : List Entry) (d : Entry) → IsPermutation xs ys → all_of ys ≡ all_of xs
  reordered xs ys d = IsPermutation-keeps xs (λ l. all_of l ≡ all_of xs) refl
      (λ l i j p q h. ap all_of (sym (swap_is l i j d p q)) ∙ changed l i j d p q ∙ h) ys

  abbrev or_else : Option Entry → Entry → Entry
  or_else None d = d
  or_else (Some a) d = a

  pub joined_any : (w v : Write) (ws vs : List Write) → IsPermutation (w ∷ ws) (v ∷ vs) → joined c w ws ≡ joined c v vs
  joined_any w v ws vs p =
      let one : Write → Entry = λ x. c.single x.processor x.value in
      let q = IsPermutation-map one (w ∷ ws) (v ∷ vs) p in
      ap (λ e. or_else e (one w)) (folded (one w) (map one ws) ∙ sym (reordered (map one (w ∷ ws)) (map one (v ∷ vs)) (one w) q)
      ∙ sym (folded (one v) (map one vs)))

pub joined_again : (rule : Rule) (c : Combining) → Carries rule c → (w v : Write) (ws vs : List Write)
    → IsPermutation (w ∷ ws) (v ∷ vs) → joined c w ws ≡ joined c v vs
joined_again rule c carries w v ws vs p = joined_any rule c carries w v ws vs p

given_by : (rule : Rule) (c : Combining) → Carries rule c → (w v : Write) (ws vs : List Write)
    → AreWriters (w ∷ ws) → AreWriters (v ∷ vs) → IsPermutation (w ∷ ws) (v ∷ vs) → rule_value rule w ws ≡ rule_value rule v vs
given_by rule c carries w v ws vs a b p =
    sym (carries.meets w ws a) ∙ ap c.verdict (joined_again rule c carries w v ws vs p) ∙ carries.meets v vs b

pub rule_again : (rule : Rule) (w v : Write) (ws vs : List Write)
    → AreWriters (w ∷ ws) → AreWriters (v ∷ vs) → IsPermutation (w ∷ ws) (v ∷ vs) → rule_value rule w ws ≡ rule_value rule v vs
rule_again Erew = given_by Erew exclusive (exclusive_carries false)
rule_again Crew = given_by Crew exclusive (exclusive_carries true)
rule_again Common = given_by Common common common_carries
rule_again Priority = given_by Priority priority priority_carries
rule_again Sum = given_by Sum summed summed_carries
