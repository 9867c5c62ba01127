-- What the writers of a cell leave is the write rule's value on them.
use Rattle.std.specs.Prelude.{◌≡◌, ℕ, List, [], ◌∷◌, map, Some, None}
use Rattle.std.specs.List.{filter, flat_map}
use Rattle.std.proofs.Common.{eqb}
use Rattle.pram_values.specs.Total.{total}
use Rattle.pram_model.specs.declared.rule.Rule.{Rule}
use Rattle.write_rules.specs.declared.write.Write.{Write}
use Rattle.write_rules.specs.Rule.{rule_value}
use Rattle.write_rules.specs.Combining.{AreWriters}
use Rattle.superstep_machine.specs.Setting.{Setting}
use Rattle.superstep_machine.specs.Worker.{HeldWrite, Worker}
use Rattle.superstep_machine.specs.Sending.{join, entry_to, entry_held, sent, entry_came, verdict_on}

-- the writers of a cell, with what they write
abbrev pub writers_of : ℕ → List HeldWrite → List Write
writers_of c writes = map (λ (x : HeldWrite). record { processor = x.processor; value = x.value })
    (filter (λ (x : HeldWrite). eqb x.cell c) writes)

-- The entry that all workers hold for a cell is that of all their writes, ..
abbrev pub EntriesOfAll : Type 0
EntriesOfAll = (rule : Rule) (c : ℕ) (ss : List Worker) →
    total None (join rule) (λ s. entry_held rule s c) ss ≡ total None (join rule) (entry_to rule c) (flat_map (λ (s : Worker). s.held) ss)

-- .. so is what comes to the cell's module, by the messages of all workers, ..
abbrev pub EntriesThatCame : Type 0
EntriesThatCame = (t : Setting) (j c : ℕ) (ss : List Worker) → t.map.part c ≡ j →
    entry_came t.code.rule (map (λ (s : Worker). sent t s j) ss) c
    ≡ total None (join t.code.rule) (entry_to t.code.rule c) (flat_map (λ (s : Worker). s.held) ss)

-- .. and the verdict on it is the rule's value on the cell's writers, which are different processors; without writers there is none.
abbrev pub WritersGetTheRule : Type 0
WritersGetTheRule = (rule : Rule) (c : ℕ) (writes : List HeldWrite) (w : Write) (ws : List Write) → writers_of c writes ≡ w ∷ ws →
    AreWriters (w ∷ ws) → verdict_on rule (total None (join rule) (entry_to rule c) writes) ≡ Some (rule_value rule w ws)

abbrev pub NoWritersNoVerdict : Type 0
NoWritersNoVerdict = (rule : Rule) (c : ℕ) (writes : List HeldWrite) → writers_of c writes ≡ [] →
    verdict_on rule (total None (join rule) (entry_to rule c) writes) ≡ None
