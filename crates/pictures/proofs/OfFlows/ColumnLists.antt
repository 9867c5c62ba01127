-- Rows and columns, one behind the other.
use Rattle.std.proofs.Common.{
  ◌≡◌,
  ◌∙◌,
  ℕ,
  ℤ,
  ◌+◌,
  ◌<◌,
  ◌≤◌,
  List,
  [],
  ◌∷◌,
  ◌++◌,
  ap,
  append-nil,
  append_assoc,
  arith,
  drop,
  get_or,
  length,
}
use Rattle.std.proofs.Common.{map, refl, sym}
use Rattle.std.proofs.lemmas.List.{drop_all}
use Rattle.pram_model.specs.Layout.{SharedEntry}
use Rattle.text_out.specs.Out.{OutState, with_bytes}
use Rattle.text_out.proofs.Progress.{Progress, goes_on}
use Rattle.pictures.specs.declared.flows.column as column
use Rattle.svg_texts.specs.Shapes.{shape_text}
use Rattle.pictures.specs.Flows.Columns.{column_shape, met_shape, some_met}
use Rattle.journal.specs.declared.act as act
use Rattle.journal.specs.Entries.{act_is}
use Rattle.pictures.specs.Flows.Drawing.{column_is, write_value, written_by}
use Rattle.pictures.specs.Flows.Places.{y_at}
use Rattle.pictures.specs.Flows.Rows.{row_head}
use Rattle.pictures.specs.Flows.Table.{columns, row_heads}
use Rattle.text_out.proofs.Items.{at_item}

-- ---- rows

pub row_heads_at : (layout : List SharedEntry) (wide : ℕ) (value : ℕ → ℤ) (rows : List ℕ) (i row c : ℕ) → i < length rows →
    c ≡ get_or rows i c → shape_text (row_heads layout wide value row (drop i rows)) ≡
    shape_text (row_head layout wide (y_at row) c (value c)) ++ shape_text (row_heads layout wide value (row + 1) (drop (i + 1) rows))
row_heads_at layout wide value rows i row c h is = at_item (λ xs. shape_text (row_heads layout wide value row xs)) rows i c h is

pub record InRowHeads (old new : OutState) (all : List ℕ) (layout : List SharedEntry) (wide : ℕ) (value : ℕ → ℤ) (rows : List ℕ)
    (i row : ℕ) :
    Type 0 where
  pub progress : Progress old new all (shape_text (row_heads layout wide value row (drop i rows)))
  pub numbered : row ≡ i

pub row_head_written : (old now new : OutState) (all : List ℕ) (layout : List SharedEntry) (wide : ℕ) (value : ℕ → ℤ) (rows : List ℕ)
    (i row c : ℕ) → InRowHeads old now all layout wide value rows i row → i < length rows → c ≡ get_or rows i c →
    new ≡ with_bytes now (shape_text (row_head layout wide (y_at row) c (value c))) → InRowHeads old new all layout wide value rows (i +
    1) (row + 1)
row_head_written old now new all layout wide value rows i row c s h is w =
    let numbered = s.numbered in
    record {
      progress = goes_on _ _ _ _ _ _ _ s.progress (row_heads_at layout wide value rows i row c h is) w;
      numbered = omega (arith, numbered);
    }

-- ---- columns

pub columns_at : (layout : List SharedEntry) (text rows : List ℕ) (cs : List column.Column.Column) (i before : ℕ)
    (c : column.Column.Column) →
    i < length cs → c ≡ get_or cs i c → shape_text (columns layout text rows (before + 1) (map column_is (drop i cs))) ≡
    shape_text (column_shape layout text rows (before + 1) (column_is c))
    ++ shape_text (columns layout text rows ((before + 1) + 1) (map column_is (drop (i + 1) cs)))
columns_at layout text rows cs i before c h is =
    at_item (λ xs. shape_text (columns layout text rows (before + 1) (map column_is xs))) cs i c h is

pub record InColumns (old new : OutState) (all : List ℕ) (layout : List SharedEntry) (text rows : List ℕ)
    (cs : List column.Column.Column) (i before : ℕ) : Type 0 where
  pub progress : Progress old new all (shape_text (columns layout text rows (before + 1) (map column_is (drop i cs))))
  pub numbered : before ≡ i

pub column_written : (old now new : OutState) (all : List ℕ) (layout : List SharedEntry) (text rows : List ℕ)
    (cs : List column.Column.Column) (i before : ℕ) (c : column.Column.Column) → InColumns old now all layout text rows cs i before →
    i < length cs → c ≡ get_or cs i c → new ≡ with_bytes now (shape_text (column_shape layout text rows (before + 1) (column_is c))) →
    InColumns old new all layout text rows cs (i + 1) (before + 1)
column_written old now new all layout text rows cs i before c s h is w =
    let numbered = s.numbered in
    record {
      progress = goes_on _ _ _ _ _ _ _ s.progress (columns_at layout text rows cs i before c h is) w;
      numbered = omega (arith, numbered);
    }

-- ---- what was written

pub more_written : (value : ℕ → ℤ) (acts : List act.Act.Act) (i : ℕ) (before after : List ℤ) (v : ℤ) (a : act.Act.Act) (whole : List ℤ) →
    before ++ written_by value (map act_is (drop i acts)) ≡ whole → i < length acts → a ≡ get_or acts i a → v ≡ write_value value a.write
    →
    after ≡ before ++ v ∷ [] → after ++ written_by value (map act_is (drop (i + 1) acts)) ≡ whole
more_written value acts i before after v a whole so h is told grown =
    let rest = written_by value (map act_is (drop (i + 1) acts)) in
    ap (λ l. l ++ rest) grown ∙ append_assoc before (v ∷ []) rest ∙ ap (λ x. before ++ x ∷ rest) told
    ∙ sym (at_item (λ l. before ++ written_by value (map act_is l)) acts i a h is) ∙ so

pub all_written : (value : ℕ → ℤ) (acts : List act.Act.Act) (i : ℕ) (before whole : List ℤ) →
    before ++ written_by value (map act_is (drop i acts)) ≡ whole → length acts ≤ i → before ≡ whole
all_written value acts i before whole so h =
    sym (append-nil before) ∙ sym (ap (λ l. before ++ written_by value (map act_is l)) (drop_all i acts h)) ∙ so

-- ---- those that met

pub some_named : (y : ℕ) (met : List ℤ) → 0 < length met → met_shape y met ≡ some_met y met
some_named y [] h = absurd (omega (arith, h))
some_named y (i ∷ met) h = refl
