-- What is drawn of all entries that came.
use Rattle.std.proofs.Common.{◌≡◌, ◌∙◌, ℕ, ◌+◌, ◌-◌, ◌<◌, Bool, List, [], ◌∷◌, ◌++◌, ℤ, ap, arith, length, map, refl, sym, take}
use Rattle.std.proofs.lemmas.List.{length-map, map-append, take-map, take-take}
use Rattle.svg_texts.specs.Shapes.{Over, Picture}
use Rattle.pram_model.specs.Layout.{SharedEntry}
use Rattle.journal.specs.Entries.{Entry}
use Rattle.pictures.specs.declared.flows.column as rust
use Rattle.pictures.specs.declared.flows.flow.Flow.{Flow}
use Rattle.pictures.specs.declared.flows.spans.CellSpan.{CellSpan}
use Rattle.pictures.specs.Flows.Cells.{rows_and_next}
use Rattle.pictures.specs.Flows.Choice.{drawn, faulted, ran, touching}
use Rattle.pictures.specs.Flows.Drawing.{Column, Drawing, column_is, column_of, drawing, entries_of}
use Rattle.pictures.specs.Flows.Facts.{Fact, Row, columns_facts, fact_shape, row_facts}
use Rattle.pictures.specs.Flows.MarkShapes.{each}
use Rattle.pictures.specs.Flows.Picture.{counts, flow, picture, title}
use Rattle.pictures.specs.Flows.Places.{picture_height, picture_width}
use Rattle.pictures.specs.Flows.Taken.{HasTaken}
use Rattle.pictures.specs.Flows.Values.{value_at}
use Rattle.pictures.proofs.OfFlows.Drawn.{drawn_count}

-- ---- pictures by the same values

same_rows : (v w : ℕ → ℤ) → ((k : ℕ) → v k ≡ w k) → (row : ℕ) (cells : List ℕ) → row_facts v row cells ≡ row_facts w row cells
same_rows v w same row [] = refl
same_rows v w same row (c ∷ cells) = λ i. Row row c (same c i) ∷ same_rows v w same (row + 1) cells i

module _ (layout : List SharedEntry) (text : List ℕ) (only : List CellSpan) where
  abbrev pictured : (from to count touching : ℕ) → (before : ℕ → ℤ) → List Column → Picture
  pictured from to count touching before cs = picture layout text only
      (record { from = from; to = to; count = count; touching = touching; before = before; columns = cs })

  -- where nothing is drawn, no cell has a row
  same_before : (from to count touching : ℕ) (v w : ℕ → ℤ) (cs : List Column) → (0 < length cs → (k : ℕ) → v k ≡ w k) →
      pictured from to count touching v cs ≡ pictured from to count touching w cs
  same_before from to count touching v w [] same = refl
  same_before from to count touching v w (c ∷ cs) same =
      let d : Drawing = record { from = from; to = to; count = count; touching = touching; before = v; columns = c ∷ cs } in
      let found = rows_and_next only (entries_of (c ∷ cs)) in
      let rows = take 64 found in
      let wide = picture_width (length (c ∷ cs)) in
      ap (λ (fs : List Fact). record {
        title = title;
        wide = wide;
        tall = picture_height (length rows);
        shape = Over (counts layout only d found) (each (fact_shape layout text rows wide) (fs ++ columns_facts rows 1 (c ∷ cs)));
      }) (same_rows v w (same (omega arith)) 0 rows)

  pub same_picture : (d e : Drawing) → d.from ≡ e.from → d.to ≡ e.to → d.count ≡ e.count → d.touching ≡ e.touching →
      d.columns ≡ e.columns → (0 < length e.columns → (k : ℕ) → d.before k ≡ e.before k) →
      picture layout text only d ≡ picture layout text only e
  same_picture d e from to count touching columns before =
      ap (λ x. pictured x d.to d.count d.touching d.before d.columns) from
      ∙ ap (λ x. pictured e.from x d.count d.touching d.before d.columns) to
      ∙ ap (λ x. pictured e.from e.to x d.touching d.before d.columns) count
      ∙ ap (λ x. pictured e.from e.to e.count x d.before d.columns) touching
      ∙ ap (λ x. pictured e.from e.to e.count e.touching d.before x) columns
      ∙ same_before e.from e.to e.count e.touching d.before e.before e.columns before

-- ---- of all entries

module _ (aside : Entry → List Bool) (opening : List ℤ) (from to : ℕ) (es : List Entry) (f : Flow)
    (h : HasTaken aside opening from to es f) where
  -- as many faulted
  as_many : length f.faulted.items ≡ length (faulted from to es)
  as_many = sym (length-map f.faulted.items column_is) ∙ ap length h.failed
      ∙ length-map (faulted from to es) (column_of aside opening es)

  pub columns_are : (room : ℕ) (cs : List rust.Column.Column) → room ≡ 64 - length f.faulted.items →
      cs ≡ take room f.ran.items ++ f.faulted.items → map column_is cs ≡ (drawing aside opening es from to).columns
  columns_are room cs left is =
      let all = map (column_of aside opening es) (ran from to es) in
      let some : 64 - length f.faulted.items ≡ 64 - length (faulted from to es) = ap (λ n. 64 - n) as_many in
      let same : room ≡ 64 - length (faulted from to es) = left ∙ some in
      ap (map column_is) is ∙ map-append column_is (take room f.ran.items) f.faulted.items
      ∙ ap (λ xs. xs ++ map column_is f.faulted.items) (sym (take-map column_is room f.ran.items) ∙ ap (take room) h.kept
      ∙ take-take room 64 all (omega (arith, same)) ∙ ap (λ n. take n all) same
      ∙ take-map (column_of aside opening es) (64 - length (faulted from to es)) (ran from to es))
      ∙ ap (λ xs. map (column_of aside opening es) (take (64 - length (faulted from to es)) (ran from to es)) ++ xs) h.failed
      ∙ sym (map-append (column_of aside opening es) (take (64 - length (faulted from to es)) (ran from to es)) (faulted from to es))

  some_touched : 0 < length (drawing aside opening es from to).columns → 0 < f.touching
  some_touched some =
      let long = length-map (drawn from to es) (column_of aside opening es) in
      let few = drawn_count from to es in
      let touched = h.touched in
      omega (arith, some, long, few, touched)

  -- a drawing of these is that of the run
  pub picture_is : (d : Drawing) → d.from ≡ f.from → d.to ≡ f.to → d.count ≡ f.count → d.touching ≡ f.touching →
      d.columns ≡ (drawing aside opening es from to).columns →
      ((k : ℕ) → d.before k ≡ value_at f.before.items k) → (layout : List SharedEntry) (text : List ℕ) (only : List CellSpan) →
      picture layout text only d ≡ flow layout text aside opening es only from to
  picture_is d first last count touched columns before layout text only =
      same_picture layout text only d (drawing aside opening es from to) (first ∙ h.first) (last ∙ h.last) (count ∙ h.counted)
      (touched ∙ h.touched) columns (λ some k. before k ∙ h.before (some_touched some) k)
