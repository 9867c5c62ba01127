-- What is read from a column of words, group by group.
use Rattle.std.proofs.Common.{◌≡◌, ℕ, ◌+◌, ◌<◌, ◌≤◌, List, [], ◌∷◌, ◌++◌, length, get_or, drop, take, map, Bool, Option, Some, None, refl}
use Rattle.std.proofs.Common.{sym, ap, ◌∙◌, Bor}
use Rattle.std.specs.Prelude.{if◌then◌else◌}
use Rattle.std.proofs.lemmas.List.{drop_more, drop_all, take_at}
use Rattle.std.proofs.lemmas.Bool.{eq-eqb, ne_eqb}
use Rattle.pram_values.specs.Total.{total}
use Rattle.pram_values.proofs.Totals.{total_map}
use Rattle.pram_model.specs.declared.rule.Rule.{Rule}
use Rattle.write_rules.specs.declared.entry.Entry.{Entry}
use Rattle.address_map.specs.Lawful.{Shape}
use Rattle.superstep_machine.specs.Words.{CellPut}
use Rattle.superstep_machine.specs.WordReading.{puts_in, entry_of_column}
use Rattle.superstep_machine.specs.Sending.{join, entry_in}
use Rattle.superstep_machine.proofs.Collected.{entries_are_monoid}
use Rattle.combining.specs.declared.words.PlacedPut.{PlacedPut}
use Rattle.combining.specs.Held.{put_at}
use Rattle.combining.specs.Items.{placed, puts_placed}

pub entry_here : (c : ℕ) (e : Entry) → entry_in c (record { cell = c; entry = e }) ≡ Some e
entry_here c e = ap (λ (b : Bool). if b then Some e else None) (eq-eqb c c refl)

pub entry_other : (c : ℕ) (x : CellPut) → (c ≡ x.cell → ⊥) → entry_in c x ≡ None
entry_other c x h = ap (λ (b : Bool). if b then Some x.entry else None) (ne_eqb x.cell c (λ e. h (sym e)))

-- what is read from a column, item by item
module _ (rule : Rule) (m : Shape) (j : ℕ) where
  abbrev pub here : ℕ → PlacedPut → Option Entry
  here c x = entry_in c (put_at x.cell x.entry)

  pub of_items : (c : ℕ) (ws : List ℕ) → entry_of_column rule m j c ws ≡ total None (join rule) (here c) (puts_placed rule m j ws)
  of_items c ws = sym (total_map None (join rule) (here c) (placed m) (puts_in rule m j ws))

  -- one put, with what comes behind the column
  pub column_next : (ws behind : List ℕ) (x : PlacedPut) → puts_placed rule m j ws ≡ x ∷ puts_placed rule m j behind →
      (rest : ℕ → Option Entry) (c : ℕ) →
      join rule (entry_of_column rule m j c ws) (rest c)
      ≡ join rule (entry_in c (put_at x.cell x.entry)) (join rule (entry_of_column rule m j c behind) (rest c))
  column_next ws behind x e rest c =
      ap (λ y. join rule y (rest c))
      (of_items c ws ∙ ap (total None (join rule) (here c)) e ∙ ap (join rule (here c x)) (sym (of_items c behind)))
      ∙ (entries_are_monoid rule).associative (here c x) (entry_of_column rule m j c behind) (rest c)

  pub column_end : (ws : List ℕ) → puts_placed rule m j ws ≡ [] → (rest : ℕ → Option Entry) (c : ℕ) →
      join rule (entry_of_column rule m j c ws) (rest c) ≡ rest c
  column_end ws e rest c = ap (λ y. join rule y (rest c)) (of_items c ws ∙ ap (total None (join rule) (here c)) e)

-- the columns one after the other
module _ {E : Type 0} (op : Option E → Option E → Option E) (f : List ℕ → Option E) (columns : List (Bor (List ℕ))) (i : ℕ) where
  pub columns_more : (d : Bor (List ℕ)) → i < length columns →
      total None op f (map (λ x. x.now) (drop i columns)) ≡ op (f (get_or columns i d).now)
      (total None op f (map (λ x. x.now) (drop (i + 1) columns)))
  columns_more d l = ap (λ (xs : List (Bor (List ℕ))). total None op f (map (λ x. x.now) xs)) (drop_more columns i d l)

  pub columns_end : length columns ≤ i → total None op f (map (λ x. x.now) (drop i columns)) ≡ None
  columns_end l = ap (λ (xs : List (Bor (List ℕ))). total None op f (map (λ x. x.now) xs)) (drop_all i columns l)

-- a borrowed list that kept its length
pub whole_list : {X : Type 0} (items after : List X) (n : ℕ) → n ≡ length items → length after ≡ length items →
    take n (after ++ drop (length after) items) ≡ after
whole_list items after n e l = take_at after (drop (length after) items) n (l ∙ sym e)
