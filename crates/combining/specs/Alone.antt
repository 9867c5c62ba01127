-- Puts whose cells ascend, so that each is alone at its cell, and asks whose words ascend.
use Rattle.std.specs.Prelude.{◌≡◌, ℕ, ℤ, ◌+◌, ◌<◌, ◌≤◌, ◌^◌, List, [], ◌∷◌, map, Option, None}
use Rattle.pram_values.specs.declared.kind.Kind.{Kind}
use Rattle.pram_model.specs.declared.rule.Rule.{Rule}
use Rattle.write_rules.specs.declared.entry.Entry.{Entry}
use Rattle.address_map.specs.Lawful.{Shape, IsOf}
use Rattle.superstep_machine.specs.Sending.{join, verdict_on, settled}
use Rattle.superstep_machine.specs.WordReading.{entry_of_column}
use Rattle.combining.specs.declared.words.PlacedPut.{PlacedPut}
use Rattle.combining.specs.Items.{puts_placed}
use Rattle.combining.specs.Gathering.{value_at, IsNoted}
use Rattle.combining.specs.Merged.{refusal}

-- the cells of the puts for module j that some words are
abbrev pub cells_put : Rule → Shape → ℕ → List ℕ → List ℕ
cells_put rule m j words = map (λ (x : PlacedPut). x.cell) (puts_placed rule m j words)

-- numbers from n on and below k, each greater than those before it
abbrev pub AscendTo : ℕ → List ℕ → ℕ → Type 0
AscendTo n [] k = n ≤ k
AscendTo n (c ∷ cs) k = (n ≤ c) × AscendTo (c + 1) cs k

-- the cells of the puts of some columns ascend, from n on, column behind column
abbrev pub AscendAll : Rule → Shape → ℕ → ℕ → List (List ℕ) → Type 0
AscendAll rule m j n [] = Unit {0}
AscendAll rule m j n (ws ∷ columns) = (k : ℕ) × AscendTo n (cells_put rule m j ws) k × AscendAll rule m j k columns

-- the words of some columns ascend, from n on, column behind column, and none has the mark of two askers
abbrev pub AscendWords : ℕ → List (List ℕ) → Type 0
AscendWords n [] = Unit {0}
AscendWords n (ws ∷ columns) = (k : ℕ) × AscendTo n ws k × (k ≤ 2 ^ 23) × AscendWords k columns

-- each cell has what is due once what is left for it is settled, and the least conflict of those with nothing left is noted
pub record Leaves (m : Shape) (rule : Rule) (j : ℕ) (due : ℕ → ℤ) (found : ℕ → Option Kind) (values : List ℤ)
    (noted : Option (ℕ × Kind)) (left : ℕ → Option Entry) : Type 0 where
  pub owed : (c : ℕ) → IsOf m j c → settled (verdict_on rule (left c)) (value_at values (m.offset c)) ≡ due c
  pub least : IsNoted m j found (λ c. refusal (verdict_on rule (left c))) noted

-- puts that ascend up to k are settled, whatever comes behind them for cells from k on
abbrev pub SettlesAlone : Shape → Rule → ℕ → List ℕ → List ℤ → Option (ℕ × Kind) → List ℤ → Option (ℕ × Kind) → Type 0
SettlesAlone m rule j words old before new after = (due : ℕ → ℤ) (found : ℕ → Option Kind) (rest : ℕ → Option Entry) (n k : ℕ) →
    AscendTo n (cells_put rule m j words) k → ((c : ℕ) → c < k → rest c ≡ None) →
    Leaves m rule j due found old before (λ c. join rule (entry_of_column rule m j c words) (rest c)) →
    Leaves m rule j due found new after rest
