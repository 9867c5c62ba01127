-- A place for each offset of a module, in which what comes for a cell is collected, and is then taken out again.
use Rattle.std.specs.Prelude.{◌≡◌, ℕ, ℤ, pos, ◌<◌, List, Option, Some, None, get_or, nat_lt, if◌then◌else◌}
use Rattle.pram_values.specs.declared.kind.Kind.{Kind}
use Rattle.pram_model.specs.declared.rule.Rule.{Rule}
use Rattle.write_rules.specs.declared.entry.Entry.{Entry}
use Rattle.address_map.specs.Lawful.{Shape, IsOf}
use Rattle.superstep_machine.specs.Sending.{verdict_on, settled}

abbrev pub slot : {E : Type 0} → List (Option E) → ℕ → Option E
slot slots o = get_or slots o None

abbrev pub value_at : List ℤ → ℕ → ℤ
value_at values o = get_or values o (pos 0)

-- what is collected, with what is still to come for a cell, is the whole
abbrev pub Gathers : {E : Type 0} → Shape → ℕ → (Option E → Option E → Option E) → (ℕ → Option E) → List (Option E) → (ℕ → Option E) →
    Type 0
Gathers m j op whole slots rest = (c : ℕ) → IsOf m j c → op (slot slots (m.offset c)) (rest c) ≡ whole c

-- what comes is collected, with what is there, whatever comes behind it
abbrev pub Collects : {E : Type 0} → Shape → ℕ → (Option E → Option E → Option E) → (ℕ → Option E) → List (Option E) → List (Option E) →
    Type 0
Collects {E} m j op came old new = (whole rest : ℕ → Option E) → Gathers m j op whole old (λ c. op (came c) (rest c)) →
    Gathers m j op whole new rest

-- and nothing is still to come
abbrev pub CollectsAll : {E : Type 0} → Shape → ℕ → (Option E → Option E → Option E) → (ℕ → Option E) → List (Option E) → List (Option E) →
    Type 0
CollectsAll {E} m j op came old new = (whole : ℕ → Option E) → Gathers m j op whole old came → Gathers m j op whole new (λ c. None)

-- the least of the conflicts that are found and no longer left
abbrev pub IsNoted : Shape → ℕ → (ℕ → Option Kind) → (ℕ → Option Kind) → Option (ℕ × Kind) → Type 0
IsNoted m j found left None = (c : ℕ) → IsOf m j c → found c ≡ left c
IsNoted m j found left (Some q) = IsOf m j q.0 × (found q.0 ≡ Some q.1) × ((c : ℕ) → IsOf m j c → c < q.0 → found c ≡ left c)

-- the lesser of a new conflict and of one that was noted
abbrev pub note : ℕ → Option Kind → Option (ℕ × Kind) → Option (ℕ × Kind)
note c None noted = noted
note c (Some kind) None = Some (c, kind)
note c (Some kind) (Some q) = if nat_lt c q.0 then Some (c, kind) else Some q

-- what was taken out is judged and noted, and what comes no more isn't left
pub record Notes {E : Type 0} (m : Shape) (j : ℕ) (judge : Option E → Option Kind) (start : ℕ → Option E) (slots : List (Option E))
    (noted : Option (ℕ × Kind)) (rest : ℕ → Option E) : Type 0 where
  pub least : IsNoted m j (λ c. judge (start c)) (λ c. judge (slot slots (m.offset c))) noted
  pub gone : (c : ℕ) → IsOf m j c → rest c ≡ None → slot slots (m.offset c) ≡ None

-- what comes is taken out, judged and noted, whatever comes behind it
abbrev pub TakesOut : {E : Type 0} → Shape → ℕ → (Option E → Option E → Option E) → (Option E → Option Kind) → (ℕ → Option E) →
    List (Option E) → Option (ℕ × Kind) → List (Option E) → Option (ℕ × Kind) → Type 0
TakesOut {E} m j op judge came old before new after = (start rest : ℕ → Option E) →
    Notes m j judge start old before (λ c. op (came c) (rest c)) → Notes m j judge start new after rest

-- and nothing is still to come
abbrev pub TakesAllOut : {E : Type 0} → Shape → ℕ → (Option E → Option Kind) → (ℕ → Option E) → List (Option E) → List (Option E) →
    Option (ℕ × Kind) → Type 0
TakesAllOut {E} m j judge came old new after = (start : ℕ → Option E) → Notes m j judge start old None came →
    Notes m j judge start new after (λ c. None)

-- what is left in the places settles to what is due
abbrev pub Owes : Shape → Rule → ℕ → (ℕ → ℤ) → List (Option Entry) → List ℤ → Type 0
Owes m rule j due slots values = (c : ℕ) → IsOf m j c →
    settled (verdict_on rule (slot slots (m.offset c))) (value_at values (m.offset c)) ≡ due c

-- cells that settle to what is due go on to do so
abbrev pub Settles : Shape → Rule → ℕ → List (Option Entry) → List ℤ → List (Option Entry) → List ℤ → Type 0
Settles m rule j old before new after = (due : ℕ → ℤ) → Owes m rule j due old before → Owes m rule j due new after
