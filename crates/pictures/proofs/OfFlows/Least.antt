-- The least of some cells, one by one.
use Rattle.std.proofs.Common.{◌≡◌, ◌∙◌, ℕ, ◌+◌, ◌<◌, ◌≤◌, Bool, true, false, List, [], ◌∷◌, ◌++◌, Option, None, ap, drop, get_or, length}
use Rattle.std.proofs.Common.{map, refl, sym}
use Rattle.std.proofs.lemmas.List.{drop_all}
use Rattle.std.proofs.lemmas.List.Sums.{fold-append}
use Rattle.std.specs.List.{filter, flat_map, fold}
use Rattle.std.proofs.Common.{cond}
use Rattle.pictures.specs.declared.flows.spans.CellSpan.{CellSpan}
use Rattle.std.specs.Prelude.{if◌then◌else◌}
use Rattle.journal.specs.declared.act as act
use Rattle.journal.specs.Entries.{Act, Entry, act_is, entry_is}
use Rattle.pictures.specs.declared.flows.column as column
use Rattle.pictures.specs.Flows.Cells.{act_cells, entry_cells, fault_cells, least_from, nearer, nearer_if, optional, is_chosen, touched}
use Rattle.pictures.specs.Acts.{acts_in}
use Rattle.pictures.specs.Flows.Drawing.{column_is, entries_of}
use Rattle.text_out.proofs.Items.{at_item}

pub record InReads (only : List CellSpan) (x : ℕ) (start : Option ℕ) (cs : List ℕ) (i : ℕ) (now : Option ℕ) : Type 0 where
  pub same : fold (nearer_if only x) start cs ≡ fold (nearer_if only x) now (drop i cs)

pub reads_start : (only : List CellSpan) (x : ℕ) (start : Option ℕ) (cs : List ℕ) → InReads only x start cs 0 start
reads_start only x start cs = record { same = refl }

pub reads_go : (only : List CellSpan) (x : ℕ) (start : Option ℕ) (cs : List ℕ) (i c : ℕ) (now new : Option ℕ) → InReads only x start cs i
    now → i < length cs →
    c ≡ get_or cs i c → new ≡ nearer_if only x now c → InReads only x start cs (i + 1) new
reads_go only x start cs i c now new b h is e = record {
  same = b.same ∙ at_item (fold (nearer_if only x) now) cs i c h is ∙ ap (λ o. fold (nearer_if only x) o (drop (i + 1) cs)) (sym e);
}

pub reads_end : (only : List CellSpan) (x : ℕ) (start : Option ℕ) (cs : List ℕ) (i : ℕ) (now : Option ℕ) → InReads only x start cs i now →
    length cs ≤ i →
    now ≡ fold (nearer_if only x) start cs
reads_end only x start cs i now b h = sym (b.same ∙ ap (fold (nearer_if only x) now) (drop_all i cs h))

-- the cells of two lists
joined : (only : List CellSpan) (x : ℕ) (start now new : Option ℕ) (front back : List ℕ) → now ≡ fold (nearer_if only x) start front → new ≡
    fold (nearer_if only x) now back →
    new ≡ fold (nearer_if only x) start (front ++ back)
joined only x start now new front back f b =
    b ∙ ap (λ o. fold (nearer_if only x) o back) f ∙ sym (fold-append (nearer_if only x) start front back)

pub act_is_taken : (only : List CellSpan) (x : ℕ) (start now new : Option ℕ) (reads : List ℕ) (write : Option ℕ) → now ≡ fold
    (nearer_if only x) start reads →
    new ≡ fold (nearer_if only x) now (optional write) → new ≡ fold (nearer_if only x) start (reads ++ optional write)
act_is_taken only x start now new reads write f b = joined only x start now new reads (optional write) f b

pub record InActs (only : List CellSpan) (x : ℕ) (start : Option ℕ) (acts : List act.Act.Act) (i : ℕ) (now : Option ℕ) : Type 0 where
  pub same : fold (nearer_if only x) start (flat_map act_cells (map act_is acts)) ≡
      fold (nearer_if only x) now (flat_map act_cells (map act_is (drop i acts)))

pub acts_start : (only : List CellSpan) (x : ℕ) (start : Option ℕ) (acts : List act.Act.Act) → InActs only x start acts 0 start
acts_start only x start acts = record { same = refl }

pub acts_go : (only : List CellSpan) (x : ℕ) (start : Option ℕ) (acts : List act.Act.Act) (i : ℕ) (a : act.Act.Act) (now new : Option ℕ) →
    InActs only x start acts i now → i < length acts → a ≡ get_or acts i a → new ≡ fold (nearer_if only x) now (act_cells (act_is a)) →
    InActs only x start acts (i + 1) new
acts_go only x start acts i a now new b h is e = record {
  same = b.same ∙ at_item (λ xs. fold (nearer_if only x) now (flat_map act_cells (map act_is xs))) acts i a h is
      ∙ fold-append (nearer_if only x) now (act_cells (act_is a)) (flat_map act_cells (map act_is (drop (i + 1) acts)))
      ∙ ap (λ o. fold (nearer_if only x) o (flat_map act_cells (map act_is (drop (i + 1) acts)))) (sym e);
}

pub acts_end : (only : List CellSpan) (x : ℕ) (start : Option ℕ) (acts : List act.Act.Act) (i : ℕ) (now : Option ℕ) → InActs only x start
    acts i now →
    length acts ≤ i → now ≡ fold (nearer_if only x) start (flat_map act_cells (map act_is acts))
acts_end only x start acts i now b h =
    sym (b.same ∙ ap (λ xs. fold (nearer_if only x) now (flat_map act_cells (map act_is xs))) (drop_all i acts h))

pub entry_is_taken : (only : List CellSpan) (x : ℕ) (start now new : Option ℕ) (acts : List Act) (e : Entry) → acts ≡ acts_in e →
    now ≡ fold (nearer_if only x) start (flat_map act_cells acts) → new ≡ fold (nearer_if only x) now (fault_cells e) →
    new ≡ fold (nearer_if only x) start (entry_cells e)
entry_is_taken only x start now new acts e same f b =
    joined only x start now new (flat_map act_cells (acts_in e)) (fault_cells e)
    (f ∙ ap (λ l. fold (nearer_if only x) start (flat_map act_cells l)) same) b

-- the least of those that are chosen
chosen_by : (only : List CellSpan) (x : ℕ) (now : Option ℕ) (c : ℕ) (cs : List ℕ) (b : Bool) → is_chosen only c ≡ b →
    ((o : Option ℕ) → fold (nearer x) o (filter (is_chosen only) cs) ≡ fold (nearer_if only x) o cs) →
    fold (nearer x) now (filter (is_chosen only) (c ∷ cs)) ≡ fold (nearer_if only x) now (c ∷ cs)
chosen_by only x now c cs true is rest =
    ap (λ t. fold (nearer x) now (cond t (c ∷ filter (is_chosen only) cs) (filter (is_chosen only) cs))) is ∙ rest (nearer x now c)
    ∙ ap (λ t. fold (nearer_if only x) (if t then nearer x now c else now) cs) (sym is)
chosen_by only x now c cs false is rest =
    ap (λ t. fold (nearer x) now (cond t (c ∷ filter (is_chosen only) cs) (filter (is_chosen only) cs))) is ∙ rest now
    ∙ ap (λ t. fold (nearer_if only x) (if t then nearer x now c else now) cs) (sym is)

pub chosen_folds : (only : List CellSpan) (x : ℕ) (now : Option ℕ) (cs : List ℕ) →
    fold (nearer x) now (filter (is_chosen only) cs) ≡ fold (nearer_if only x) now cs
chosen_folds only x now [] = refl
chosen_folds only x now (c ∷ cs) = chosen_by only x now c cs (is_chosen only c) refl (λ o. chosen_folds only x o cs)

pub record InColumns (only : List CellSpan) (x : ℕ) (cs : List column.Column.Column) (i : ℕ) (now : Option ℕ) : Type 0 where
  pub same : least_from x (touched only (entries_of (map column_is cs))) ≡
      fold (nearer_if only x) now (flat_map entry_cells (entries_of (map column_is (drop i cs))))

pub entries_start : (only : List CellSpan) (x : ℕ) (cs : List column.Column.Column) → InColumns only x cs 0 None
entries_start only x cs = record { same = chosen_folds only x None (flat_map entry_cells (entries_of (map column_is cs))) }

pub entries_go : (only : List CellSpan) (x : ℕ) (cs : List column.Column.Column) (i : ℕ) (c : column.Column.Column) (now new : Option ℕ) →
    InColumns only x cs i now → i < length cs → c ≡ get_or cs i c → new ≡ fold (nearer_if only x) now (entry_cells (entry_is c.entry)) →
    InColumns only x cs (i + 1) new
entries_go only x cs i c now new s h is n = record {
  same = s.same ∙ at_item (λ xs. fold (nearer_if only x) now (flat_map entry_cells (entries_of (map column_is xs)))) cs i c h is
      ∙ fold-append (nearer_if only x) now (entry_cells (entry_is c.entry))
      (flat_map entry_cells (entries_of (map column_is (drop (i + 1) cs))))
      ∙ ap (λ o. fold (nearer_if only x) o (flat_map entry_cells (entries_of (map column_is (drop (i + 1) cs))))) (sym n);
}

pub entries_end : (only : List CellSpan) (x : ℕ) (cs : List column.Column.Column) (i : ℕ) (now : Option ℕ) → InColumns only x cs i now →
    length cs ≤ i → now ≡ least_from x (touched only (entries_of (map column_is cs)))
entries_end only x cs i now s h =
    sym (s.same ∙ ap (λ xs. fold (nearer_if only x) now (flat_map entry_cells (entries_of (map column_is xs)))) (drop_all i cs h))

pub ruleset reads_taken = (reads_start, reads_go, reads_end)

pub ruleset acts_taken = (acts_start, acts_go, acts_end)

pub ruleset entries_taken = (entries_start, entries_go, entries_end)
