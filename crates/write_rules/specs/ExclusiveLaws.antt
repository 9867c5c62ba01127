-- Exclusive writes carry their rules.
use Rattle.std.proofs.Common.{◌≡◌, List, [], ◌∷◌, map, fold, Bool, true, false, if◌then◌else◌, Err, refl, ap, sym, ◌∙◌, FitsSigned, arith}
use Rattle.std.specs.Int.{w64}
use Rattle.pram_values.specs.declared.kind.Kind.TheVariants.{WriteConflict}
use Rattle.pram_values.specs.Value.{checked}
use Rattle.write_rules.specs.declared.entry.Entry.{Entry}
use Rattle.write_rules.specs.declared.write.Write.{Write}
use Rattle.write_rules.specs.Rule.{only_value, rule_value}
use Rattle.write_rules.specs.Combining.{entry_of, first_of, unless_clash, joined, AreWriters, Carries, exclusive, exclusive_rule}
use Rattle.pram_values.proofs.Checked.{checked_some}
use Rattle.write_rules.specs.EntryOrder.{first_associates, first_commutes, first_clash}

pub clashes : (a : Entry) → a.clash ≡ true → unless_clash a ≡ Err WriteConflict
clashes a h = ap (λ c. if c then Err WriteConflict else checked a.value) h

stays : (a : Entry) (vs : List Write) → a.clash ≡ true → (fold (first_of true) a (map (λ v. entry_of v.processor v.value) vs)).clash ≡ true
stays a [] h = h
stays a (v ∷ vs) h = stays (first_of true a (entry_of v.processor v.value)) vs (first_clash true a (entry_of v.processor v.value))

meets : (w : Write) (ws : List Write) → FitsSigned w64 w.value → unless_clash (joined exclusive w ws) ≡ only_value w ws
meets w [] f = sym (checked_some w.value w.value f refl)
meets w (v ∷ vs) f =
    let first : Entry = first_of true (entry_of w.processor w.value) (entry_of v.processor v.value) in
    clashes (fold (first_of true) first (map (λ v. entry_of v.processor v.value) vs))
    (stays first vs (first_clash true (entry_of w.processor w.value) (entry_of v.processor v.value)))

is_only : (shared : Bool) (w : Write) (ws : List Write) → only_value w ws ≡ rule_value (exclusive_rule shared) w ws
is_only true w ws = refl
is_only false w ws = refl

pub first_fits : (w : Write) (ws : List Write) → AreWriters (w ∷ ws) → FitsSigned w64 w.value
first_fits w ws h = (h.fit 0 w (omega arith)).1

pub exclusive_carries : (shared : Bool) → Carries (exclusive_rule shared) exclusive
exclusive_carries shared = record {
  associative = first_associates true true true;
  commutative = first_commutes true;
  meets = λ w ws h. meets w ws (first_fits w ws h) ∙ is_only shared w ws;
}
