-- A merge of what all workers packed gives each cell what the rule gives for its writers.
use Rattle.std.proofs.Common.{◌≡◌, ℕ, ℤ, ◌<◌, List, [], ◌∷◌, Bool, true, false, Option, Some, None, Ok, Err, eqb, refl, sym, ap, ◌∙◌}
use Rattle.std.proofs.Common.{FitsSigned, All}
use Rattle.std.specs.Prelude.{if◌then◌else◌}
use Rattle.std.specs.List.{AllByRecursion, filter, flat_map}
use Rattle.std.specs.Int.{w64}
use Rattle.std.proofs.lemmas.List.Elements.{All-from_recursion}
use Rattle.pram_values.specs.declared.kind.Kind.{Kind}
use Rattle.pram_values.specs.Total.{total}
use Rattle.pram_values.specs.Value.{Value}
use Rattle.pram_values.proofs.Totals.{total_joined}
use Rattle.pram_model.specs.declared.rule.Rule.{Rule}
use Rattle.write_rules.specs.declared.entry.Entry.{Entry}
use Rattle.write_rules.specs.declared.write.Write.{Write}
use Rattle.write_rules.specs.Rule.{written}
use Rattle.write_rules.specs.Combining.{AreWriters}
use Rattle.address_map.specs.Lawful.{Shape, IsOf}
use Rattle.superstep_machine.specs.Setting.{combining}
use Rattle.superstep_machine.specs.Words.{CellPut}
use Rattle.superstep_machine.specs.Fitting.{FitsWrite}
use Rattle.superstep_machine.specs.Worker.{HeldWrite}
use Rattle.superstep_machine.specs.Run.{no_worker}
use Rattle.superstep_machine.specs.Sending.{join, entry_to, entry_in, verdict_on, settled}
use Rattle.superstep_machine.specs.WordReading.{puts_in, entry_read}
use Rattle.superstep_machine.specs.WrittenCells.{writers_of}
use Rattle.superstep_machine.proofs.Collected.{entries_are_monoid}
use Rattle.superstep_machine.proofs.MachineWords.{all_kept, all_joined, all_map}
use Rattle.superstep_machine.proofs.Numbers.{with_itself}
use Rattle.superstep_machine.proofs.CellPuts.{puts_message}
use Rattle.superstep_machine.proofs.Written.{writers_get_the_rule, no_writers_no_verdict}
use Rattle.combining.specs.Held.{IsPutBelow, puts_for, held_after, packed_puts, put, put_at, entry_of_write}
use Rattle.combining.specs.Gathering.{value_at}
use Rattle.combining.specs.Merged.{refusal}
use Rattle.combining.specs.ByTheRule.{packed_by_all, all_writers_of, MergesByTheRule}
use Rattle.combining.proofs.HeldFits.{held_fits}
use Rattle.combining.proofs.MachinePuts.{held_is_machines}
use Rattle.combining.proofs.ReadBack.{packed_back}

-- ---- what a worker holds is to the cells of its writes

put_below : (rule : Rule) (n : ℕ) (w : HeldWrite) → w.cell < n → (held : List CellPut) → AllByRecursion (IsPutBelow n) held
    → AllByRecursion (IsPutBelow n) (put rule w held)
put_below rule n w l [] h = (l, tt)
put_below rule n w l (x ∷ held) h = go (eqb x.cell w.cell) (put_below rule n w l held h.1)
  where
    go : (b : Bool) → AllByRecursion (IsPutBelow n) (put rule w held)
        → AllByRecursion (IsPutBelow n)
        (if b then put_at x.cell ((combining rule).join x.entry (entry_of_write rule w)) ∷ held else x ∷ put rule w held)
    go true rest = (h.0, h.1)
    go false rest = (h.0, rest)

pub held_below : (rule : Rule) (n : ℕ) (ws : List HeldWrite) (held : List CellPut) → AllByRecursion (λ (w : HeldWrite). w.cell < n) ws
    → AllByRecursion (IsPutBelow n) held → AllByRecursion (IsPutBelow n) (held_after rule ws held)
held_below rule n [] held f h = h
held_below rule n (w ∷ ws) held f h = held_below rule n ws (put rule w held) f.1 (put_below rule n w f.0 held h)

-- ---- what is read of a cell is what all its writers come to

module _ (rule : Rule) (m : Shape) (j : ℕ) (c : ℕ) (here : m.part c ≡ j) where
  abbrev entry_of : List HeldWrite → Option Entry
  entry_of = total None (join rule) (entry_to rule c)

  column_read : (writes : List HeldWrite) → AllByRecursion FitsWrite writes → AllByRecursion (λ (w : HeldWrite). w.cell < m.count) writes
      → total None (join rule) (entry_in c) (puts_in rule m j (packed_puts rule m.part j (held_after rule writes []))) ≡ entry_of writes
  column_read writes fits below =
      ap (total None (join rule) (entry_in c))
      (packed_back rule m j (held_after rule writes []) (held_fits rule writes [] fits tt) (held_below rule m.count writes [] below tt))
      ∙ ap (λ held. total None (join rule) (entry_in c) (puts_for m.part j held)) (held_is_machines rule writes)
      ∙ puts_message rule (record no_worker { held = writes }) c (λ d. eqb (m.part d) j) (ap (λ k. eqb k j) here ∙ with_itself j)

  all_read : (held : List (List HeldWrite)) → AllByRecursion (AllByRecursion FitsWrite) held
      → AllByRecursion (AllByRecursion (λ (w : HeldWrite). w.cell < m.count)) held
      → entry_read rule m j (packed_by_all rule m j held) c ≡ entry_of (flat_map (λ (writes : List HeldWrite). writes) held)
  all_read [] fits below = refl
  all_read (writes ∷ held) fits below =
      let rest = flat_map (λ (ws : List HeldWrite). ws) held in
      ap (λ e. join rule e (entry_read rule m j (packed_by_all rule m j held) c)) (column_read writes fits.0 below.0)
      ∙ ap (join rule (entry_of writes)) (all_read held fits.1 below.1)
      ∙ sym (total_joined None (join rule) (entries_are_monoid rule) (entry_to rule c) writes rest)

-- ---- the writers fit

abbrev FitsWriter : Write → Type 0
FitsWriter w = FitsSigned w64 w.processor × FitsSigned w64 w.value

all_in_one : (held : List (List HeldWrite)) → AllByRecursion (AllByRecursion FitsWrite) held
    → AllByRecursion FitsWrite (flat_map (λ (writes : List HeldWrite). writes) held)
all_in_one [] fits = tt
all_in_one (writes ∷ held) fits = all_joined FitsWrite writes (flat_map (λ (ws : List HeldWrite). ws) held) fits.0 (all_in_one held fits.1)

writers_fit : (c : ℕ) (held : List (List HeldWrite)) → AllByRecursion (AllByRecursion FitsWrite) held
    → All FitsWriter (all_writers_of c held)
writers_fit c held fits =
    let writes = flat_map (λ (ws : List HeldWrite). ws) held in
    All-from_recursion FitsWriter (all_writers_of c held)
    (all_map FitsWrite FitsWriter (λ (x : HeldWrite). record { processor = x.processor; value = x.value }) (λ x f. (f.processor, f.value))
    (filter (λ (x : HeldWrite). eqb x.cell c) writes) (all_kept FitsWrite (λ (x : HeldWrite). eqb x.cell c) writes (all_in_one held fits)))

-- ---- what it leaves is what the rule gives

module _ (rule : Rule) (c : ℕ) (writes : List HeldWrite) (old : ℤ) where
  abbrev verdict : Option Value
  verdict = verdict_on rule (total None (join rule) (entry_to rule c) writes)

  left : (ws : List Write) → writers_of c writes ≡ ws → AreWriters ws → settled verdict old ≡ settled (Some (written rule old ws)) old
  left [] is apart = ap (λ v. settled v old) (no_writers_no_verdict rule c writes is)
  left (w ∷ ws) is apart = ap (λ v. settled v old) (writers_get_the_rule rule c writes w ws is apart)

  refused : (ws : List Write) → writers_of c writes ≡ ws → AreWriters ws → refusal verdict ≡ refusal (Some (written rule old ws))
  refused [] is apart = ap refusal (no_writers_no_verdict rule c writes is)
  refused (w ∷ ws) is apart = ap refusal (writers_get_the_rule rule c writes w ws is apart)

told : (v : Value) (kind : Kind) → refusal (Some v) ≡ Some kind → v ≡ Err kind
told (Ok x) kind h = absurd (cc)
told (Err other) kind h = cc

pub merges_by_the_rule : MergesByTheRule
merges_by_the_rule rule m j held old new result fits below apart merged = record {
  given = λ c of x h. left_is c of ∙ ap (λ v. settled (Some v) (value_at old (m.offset c))) h;
  kept = λ c of kind h. left_is c of ∙ ap (λ v. settled (Some v) (value_at old (m.offset c))) h;
  none = λ none c of kind h.
      let no : Some kind ≡ None = sym (ap (λ v. refusal (Some v)) h) ∙ sym (refused_is c of) ∙ merged.none none c of in absurd (cc);
  least = λ c kind is. let l = merged.least c kind is in (
    l.0,
    told (written rule (value_at old (m.offset c)) (all_writers_of c held)) kind (sym (refused_is c l.0) ∙ l.1),
    λ d of less other h.
        let no : Some other ≡ None = sym (ap (λ v. refusal (Some v)) h) ∙ sym (refused_is d of) ∙ l.2 d of less in absurd (cc),
  );
}
  where
    writes : List HeldWrite
    writes = flat_map (λ (ws : List HeldWrite). ws) held

    are_writers : (c : ℕ) → IsOf m j c → AreWriters (all_writers_of c held)
    are_writers c of = record { apart = apart c of; fit = writers_fit c held fits }

    left_is : (c : ℕ) → IsOf m j c → value_at new (m.offset c)
        ≡ settled (Some (written rule (value_at old (m.offset c)) (all_writers_of c held))) (value_at old (m.offset c))
    left_is c of =
        merged.each c of
        ∙ ap (λ e. settled (verdict_on rule e) (value_at old (m.offset c))) (all_read rule m j c of.here held fits below)
        ∙ left rule c writes (value_at old (m.offset c)) (all_writers_of c held) refl (are_writers c of)

    refused_is : (c : ℕ) → IsOf m j c → refusal (verdict_on rule (entry_read rule m j (packed_by_all rule m j held) c))
        ≡ refusal (Some (written rule (value_at old (m.offset c)) (all_writers_of c held)))
    refused_is c of =
        ap (λ e. refusal (verdict_on rule e)) (all_read rule m j c of.here held fits below)
        ∙ refused rule c writes (value_at old (m.offset c)) (all_writers_of c held) refl (are_writers c of)
