-- What a module does with the puts of all workers, and with their asks.
use Rattle.std.specs.Prelude.{◌≡◌, ℕ, ℤ, ◌<◌, List, length, Bool, true, false, Option, Some, None, Ok, Err, if◌then◌else◌}
use Rattle.pram_values.specs.declared.kind.Kind.{Kind}
use Rattle.pram_values.specs.declared.kind.Kind.TheVariants.{ReadConflict}
use Rattle.pram_values.specs.Value.{Value}
use Rattle.pram_model.specs.declared.rule.Rule.{Rule}
use Rattle.address_map.specs.Lawful.{Shape, IsOf}
use Rattle.superstep_machine.specs.Sending.{verdict_on, settled, is_several}
use Rattle.superstep_machine.specs.WordReading.{entry_read, askers_read}
use Rattle.combining.specs.Gathering.{value_at}

-- why the writers of a cell may not
abbrev pub refusal : Option Value → Option Kind
refusal None = None
refusal (Some (Ok x)) = None
refusal (Some (Err kind)) = Some kind

-- the values of module j after a merge of some columns, and the least cell in conflict
pub record IsMerged (m : Shape) (rule : Rule) (j : ℕ) (columns : List (List ℕ)) (old new : List ℤ)
    (result : Option (ℕ × Kind)) : Type 0 where
  pub long : length new ≡ length old
  -- each cell has what its writers leave, and its old value where none writes, or they are in conflict
  pub each : (c : ℕ) → IsOf m j c → value_at new (m.offset c) ≡ settled (verdict_on rule (entry_read rule m j columns c))
      (value_at old (m.offset c))
  pub none : result ≡ None → (c : ℕ) → IsOf m j c → refusal (verdict_on rule (entry_read rule m j columns c)) ≡ None
  pub least : (c : ℕ) (kind : Kind) → result ≡ Some (c, kind)
      → IsOf m j c × (refusal (verdict_on rule (entry_read rule m j columns c)) ≡ Some kind)
      × ((d : ℕ) → IsOf m j d → d < c → refusal (verdict_on rule (entry_read rule m j columns d)) ≡ None)

-- the least cell of module j that two or more ask for by read k
pub record IsLeastShared (m : Shape) (j : ℕ) (columns : List (List ℕ)) (k : ℕ) (result : Option ℕ) : Type 0 where
  pub none : result ≡ None → (c : ℕ) → IsOf m j c → is_several (askers_read m j columns k c) ≡ false
  pub least : (c : ℕ) → result ≡ Some c
      → IsOf m j c × (is_several (askers_read m j columns k c) ≡ true)
      × ((d : ℕ) → IsOf m j d → d < c → is_several (askers_read m j columns k d) ≡ false)

-- two or more readers are in conflict
abbrev pub shared : Option Bool → Option Kind
shared x = if is_several x then Some ReadConflict else None

-- the cell of a conflict that is noted
abbrev pub noted_cell : Option (ℕ × Kind) → Option ℕ
noted_cell None = None
noted_cell (Some q) = Some q.0
