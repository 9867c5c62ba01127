-- The writers of a cell, joined, come to the rule's value.
use Rattle.std.proofs.Common.{◌≡◌, ℕ, List, [], ◌∷◌, map, fold, Bool, true, false, cond, eqb, Option, Some, None, refl, sym, ap, ◌∙◌}
use Rattle.std.specs.Prelude.{if◌then◌else◌}
use Rattle.std.specs.List.{filter, flat_map}
use Rattle.pram_values.specs.Total.{total}
use Rattle.pram_values.proofs.Totals.{total_joined}
use Rattle.pram_model.specs.declared.rule.Rule.{Rule}
use Rattle.write_rules.specs.declared.entry.Entry.{Entry}
use Rattle.write_rules.specs.declared.write.Write.{Write}
use Rattle.superstep_machine.specs.Setting.{combining}
use Rattle.superstep_machine.specs.Worker.{HeldWrite, Worker}
use Rattle.superstep_machine.specs.Sending.{join, entry_to, entry_held, verdict_on}
use Rattle.superstep_machine.specs.WrittenCells.{writers_of, EntriesOfAll, WritersGetTheRule, NoWritersNoVerdict}
use Rattle.superstep_machine.proofs.Collected.{combining_carries, entries_are_monoid}

module _ (rule : Rule) where
  abbrev one : Write → Entry
  one v = (combining rule).single v.processor v.value

  abbrev sum : List Write → Option Entry
  sum = total None (join rule) (λ (v : Write). Some (one v))

  -- writes to other cells come to nothing
  sum_is : (c : ℕ) (writes : List HeldWrite) → total None (join rule) (entry_to rule c) writes ≡ sum (writers_of c writes)
  sum_is c [] = refl
  sum_is c (x ∷ writes) = go (eqb x.cell c) (sum_is c writes)
    where
      go : (b : Bool) → total None (join rule) (entry_to rule c) writes ≡ sum (writers_of c writes)
          → join rule (if b then Some ((combining rule).single x.processor x.value) else None)
          (total None (join rule) (entry_to rule c) writes)
          ≡ sum (map (λ (y : HeldWrite). record { processor = y.processor; value = y.value })
          (cond b (x ∷ filter (λ (y : HeldWrite). eqb y.cell c) writes) (filter (λ (y : HeldWrite). eqb y.cell c) writes)))
      go true e = ap (join rule (Some ((combining rule).single x.processor x.value))) e
      go false e = e

  -- one by one, from the first on
  joined_is : (a : Entry) (ws : List Write) → join rule (Some a) (sum ws) ≡ Some (fold (combining rule).join a (map one ws))
  joined_is a [] = refl
  joined_is a (v ∷ ws) = sym ((entries_are_monoid rule).associative (Some a) (Some (one v)) (sum ws))
      ∙ joined_is ((combining rule).join a (one v)) ws

pub entries_of_all : EntriesOfAll
entries_of_all rule c [] = refl
entries_of_all rule c (s ∷ ss) =
    ap (join rule (entry_held rule s c)) (entries_of_all rule c ss)
    ∙ sym (total_joined None (join rule) (entries_are_monoid rule) (entry_to rule c) s.held (flat_map (λ (x : Worker). x.held) ss))

pub writers_get_the_rule : WritersGetTheRule
writers_get_the_rule rule c writes w ws is apart =
    ap (verdict_on rule) (sum_is rule c writes ∙ ap (sum rule) is ∙ joined_is rule (one rule w) ws)
    ∙ ap (λ v. Some v) ((combining_carries rule).meets w ws apart)

pub no_writers_no_verdict : NoWritersNoVerdict
no_writers_no_verdict rule c writes is = ap (verdict_on rule) (sum_is rule c writes ∙ ap (sum rule) is)
