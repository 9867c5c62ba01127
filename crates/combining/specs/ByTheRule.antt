-- What a merge leaves in a cell, and what it tells, is the write rule's value on the set of the cell's writers, of all workers.
use Rattle.std.specs.Prelude.{◌≡◌, ◌≢◌, ℕ, ℤ, ◌<◌, List, [], map, Option, Some, None, Ok, Err}
use Rattle.std.specs.List.{AllByRecursion, AllPairs, flat_map}
use Rattle.pram_values.specs.declared.kind.Kind.{Kind}
use Rattle.pram_model.specs.declared.rule.Rule.{Rule}
use Rattle.write_rules.specs.declared.write.Write.{Write}
use Rattle.write_rules.specs.Rule.{written}
use Rattle.address_map.specs.Lawful.{Shape, IsOf}
use Rattle.superstep_machine.specs.Fitting.{FitsWrite}
use Rattle.superstep_machine.specs.Worker.{HeldWrite}
use Rattle.superstep_machine.specs.WrittenCells.{writers_of}
use Rattle.combining.specs.Gathering.{value_at}
use Rattle.combining.specs.Held.{held_after, packed_puts}
use Rattle.combining.specs.Merged.{IsMerged}

-- what each worker packs for module j of the writes that it holds
abbrev pub packed_by_all : Rule → Shape → ℕ → List (List HeldWrite) → List (List ℕ)
packed_by_all rule m j = map (λ (writes : List HeldWrite). packed_puts rule m.part j (held_after rule writes []))

-- the writers of a cell among all workers, with what they write
abbrev pub all_writers_of : ℕ → List (List HeldWrite) → List Write
all_writers_of c held = writers_of c (flat_map (λ (writes : List HeldWrite). writes) held)

-- The values of module j, where cell c has the writers `writers c`: a cell gets what the rule gives for them, its old value where there are
-- none; a cell whose writers are in conflict keeps its value, and the least such cell is told, with the kind.
pub record IsGivenByTheRule (m : Shape) (rule : Rule) (j : ℕ) (writers : ℕ → List Write)
    (old new : List ℤ) (result : Option (ℕ × Kind)) : Type 0 where
  pub given : (c : ℕ) → IsOf m j c → (x : ℤ) → written rule (value_at old (m.offset c)) (writers c) ≡ Ok x → value_at new (m.offset c) ≡ x
  pub kept : (c : ℕ) → IsOf m j c → (kind : Kind) → written rule (value_at old (m.offset c)) (writers c) ≡ Err kind
      → value_at new (m.offset c) ≡ value_at old (m.offset c)
  pub none : result ≡ None → (c : ℕ) → IsOf m j c → (kind : Kind) → written rule (value_at old (m.offset c)) (writers c) ≢ Err kind
  pub least : (c : ℕ) (kind : Kind) → result ≡ Some (c, kind)
      → IsOf m j c × (written rule (value_at old (m.offset c)) (writers c) ≡ Err kind)
      × ((d : ℕ) → IsOf m j d → d < c → (other : Kind) → written rule (value_at old (m.offset d)) (writers d) ≢ Err other)

-- So it is after a merge of what all workers packed, where the writers of a cell are different processors: whoever holds their writes, and
-- in whatever order.
abbrev pub MergesByTheRule : Type 0
MergesByTheRule = (rule : Rule) (m : Shape) (j : ℕ) (held : List (List HeldWrite)) (old new : List ℤ) (result : Option (ℕ × Kind)) →
    AllByRecursion (AllByRecursion FitsWrite) held →
    AllByRecursion (AllByRecursion (λ (w : HeldWrite). w.cell < m.count)) held →
    ((c : ℕ) → IsOf m j c → AllPairs (λ (v w : Write). v.processor ≢ w.processor) (all_writers_of c held)) →
    IsMerged m rule j (packed_by_all rule m j held) old new result →
    IsGivenByTheRule m rule j (λ c. all_writers_of c held) old new result
