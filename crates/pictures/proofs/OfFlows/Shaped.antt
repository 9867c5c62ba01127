-- A flow's picture is the shapes of its facts, and each of these is so.
use Rattle.std.proofs.Common.{◌≡◌, ◌∙◌, ◌⊎◌, inl, inr, ℕ, zero, suc, ◌+◌, ◌<◌, List, [], ◌∷◌, ◌++◌, ℤ, Bool, true, Option}
use Rattle.std.proofs.Common.{None, Some}
use Rattle.std.proofs.Common.{ap, arith, get_or, length, map, refl, subst, sym}
use Rattle.std.proofs.lemmas.List.{length-map}
use Rattle.std.proofs.lemmas.List.Elements.{Contains-append_cases}
use Rattle.std.proofs.lemmas.List.Folds.{Any-from_list_any}
use Rattle.std.proofs.lemmas.Simd.{map-map}
use Rattle.std.specs.List.{Contains, filter}
use Rattle.pram_model.proofs.Truths.{both}
use Rattle.svg_texts.specs.Shapes.{Over}
use Rattle.journal.specs.Entries.{Act, Entry, Ran, Faulting}
use Rattle.pictures.specs.declared.flows.spans.CellSpan.{CellSpan}
use Rattle.pictures.specs.Flows.Cells.{entry_cells, rows_and_next}
use Rattle.pictures.specs.Acts.{acts_in}
use Rattle.pictures.specs.Flows.Drawing.{column_of, drawing, entries_of}
use Rattle.pictures.specs.Flows.FactLaws.{FactsAreSo, HasFault, IsReadAlone, IsSo, RowsWereTouched, ThePictureIsItsShapes}
use Rattle.pictures.specs.Flows.FactLaws.{run_facts, run_facts_of, values_before}
use Rattle.pictures.specs.Flows.Facts.{Fact, Row, Heading, Line, Box, Ring, Stop, column_facts, columns_facts, fact_shape, row_facts}
use Rattle.pictures.specs.Flows.Facts.{stop_facts}
use Rattle.pictures.specs.Flows.Laws.{cells, found, statements}
use Rattle.pictures.specs.Flows.Marks.{arrows, carries, carries_one, has_read, is_written, nodes, reading, readings}
use Rattle.pictures.specs.Flows.MarkShapes.{each}
use Rattle.pictures.specs.Flows.Picture.{counts, picture_of, title}
use Rattle.pictures.specs.Flows.Places.{picture_height, picture_width}
use Rattle.pictures.specs.Flows.Values.{value_behind}
use Rattle.pictures.proofs.OfFlows.Carriers.{read_is}
use Rattle.pictures.proofs.OfFlows.ChosenRows.{row_was_touched}
use Rattle.pictures.proofs.OfFlows.Members.{MadeOf, of_mapped, of_spread, passes_test}
use Rattle.pictures.proofs.OfFlows.Standing.{arrow_among, boxes, node_among}

-- ---- the picture

facts_are : (aside : Entry → List Bool) (opening : List ℤ) (es : List Entry) (rows : List ℕ) (j : ℕ) (p : ℕ × Entry) →
    column_facts rows j (column_of aside opening es p) ≡ run_facts_of aside opening es rows j p
facts_are aside opening es rows j p =
    ap (λ ns. Heading j p.0 p.1 ∷ (map Line (arrows rows j (aside p.1) (acts_in p.1)) ++ (map Box ns
    ++ (map Ring (readings rows j (acts_in p.1)) ++ stop_facts j p.1)))) (boxes aside opening es rows j p)

all_facts_are : (aside : Entry → List Bool) (opening : List ℤ) (es : List Entry) (rows : List ℕ) (j : ℕ) (ps : List (ℕ × Entry)) →
    columns_facts rows j (map (column_of aside opening es) ps) ≡ run_facts aside opening es rows j ps
all_facts_are aside opening es rows j [] = refl
all_facts_are aside opening es rows j (p ∷ ps) =
    λ i. facts_are aside opening es rows j p i ++ all_facts_are aside opening es rows (j + 1) ps i

pub the_picture_is_its_shapes : ThePictureIsItsShapes
the_picture_is_its_shapes only layout text aside opening es from to =
    let ps = statements es from to in
    let d = drawing aside opening es from to in
    let cs = map (column_of aside opening es) ps in
    let rows = cells only es from to in
    let before = values_before opening es from to in
    let same : rows_and_next only (entries_of cs) ≡ found only es from to =
    ap (rows_and_next only) (map-map (λ c. c.entry) (column_of aside opening es) ps) in
    let many : length cs ≡ length ps = length-map ps (column_of aside opening es) in
    ap (picture_of layout text only d) same
    ∙ (λ i. record {
      title = title;
      wide = picture_width (many i);
      tall = picture_height (length rows);
      shape = Over (counts layout only d (found only es from to))
          (each (fact_shape layout text rows (picture_width (many i)))
          (row_facts before 0 rows ++ all_facts_are aside opening es rows 1 ps i));
    })

-- ---- each is so

-- a fact of the columns from j on is of one of them
record OfColumn (aside : Entry → List Bool) (opening : List ℤ) (es : List Entry) (rows : List ℕ) (j : ℕ) (ps : List (ℕ × Entry))
    (s : Fact) :
    Type 0 where
  place : ℕ
  statement : ℕ × Entry
  within : place < length ps
  is : get_or ps place statement ≡ statement
  one : Contains (run_facts_of aside opening es rows (j + place) statement) s

in_column : (aside : Entry → List Bool) (opening : List ℤ) (es : List Entry) (rows : List ℕ) (j : ℕ) (ps : List (ℕ × Entry)) (s : Fact) →
    Contains (run_facts aside opening es rows j ps) s → OfColumn aside opening es rows j ps s
in_column aside opening es rows j [] s one = absurd (omega (arith, one.1))
in_column aside opening es rows j (p ∷ ps) s one =
    by (Contains-append_cases (run_facts_of aside opening es rows j p) (run_facts aside opening es rows (j + 1) ps) s one)
    (λ there. in_column aside opening es rows (j + 1) ps s there)
  where
    here : Contains (run_facts_of aside opening es rows j p) s → OfColumn aside opening es rows j (p ∷ ps) s
    here one = let same : j ≡ j + 0 = omega arith in record {
      place = 0;
      statement = p;
      within = omega arith;
      is = refl;
      one = subst (λ k. Contains (run_facts_of aside opening es rows k p) s) same one;
    }

    further : OfColumn aside opening es rows (j + 1) ps s → OfColumn aside opening es rows j (p ∷ ps) s
    further o = let same : (j + 1) + o.place ≡ j + suc o.place = omega arith in let within = o.within in record {
      place = suc o.place;
      statement = o.statement;
      within = omega (arith, within);
      is = o.is;
      one = subst (λ k. Contains (run_facts_of aside opening es rows k o.statement) s) same o.one;
    }

    by : Contains (run_facts_of aside opening es rows j p) s ⊎ Contains (run_facts aside opening es rows (j + 1) ps) s →
        (Contains (run_facts aside opening es rows (j + 1) ps) s → OfColumn aside opening es rows (j + 1) ps s) →
        OfColumn aside opening es rows j (p ∷ ps) s
    by (inl first) others = here first
    by (inr there) others = further (others there)

-- a row that stands behind k others
row_is : (only : List CellSpan) (aside : Entry → List Bool) (opening : List ℤ) (es : List Entry) (from to : ℕ) (k i : ℕ) (c : ℕ) →
    i < length (cells only es from to) → get_or (cells only es from to) i c ≡ c → k ≡ i →
    IsSo only aside opening es from to (Row k c (values_before opening es from to c))
row_is only aside opening es from to k i c within is same = (
  subst (λ n. n < length (cells only es from to)) (sym same) within,
  subst (λ n. get_or (cells only es from to) n c ≡ c) (sym same) is,
  refl,
)

record OfRow (value : ℕ → ℤ) (k : ℕ) (cs : List ℕ) (s : Fact) : Type 0 where
  place : ℕ
  cell : ℕ
  within : place < length cs
  is : get_or cs place cell ≡ cell
  same : Row (k + place) cell (value cell) ≡ s

in_row : (value : ℕ → ℤ) (k : ℕ) (cs : List ℕ) (s : Fact) → Contains (row_facts value k cs) s → OfRow value k cs s
in_row value k [] s one = absurd (omega (arith, one.1))
in_row value k (c ∷ cs) s one =
    by (Contains-append_cases (Row k c (value c) ∷ []) (row_facts value (k + 1) cs) s one) (λ there. in_row value (k + 1) cs s there)
  where
    only_one : (i : ℕ) → i < length (Row k c (value c) ∷ []) → get_or (Row k c (value c) ∷ []) i s ≡ s → Row k c (value c) ≡ s
    only_one zero within is = is
    only_one (suc i) within is = absurd (omega (arith, within))

    here : Row k c (value c) ≡ s → OfRow value k (c ∷ cs) s
    here is = let same : k + 0 ≡ k = omega arith in record {
      place = 0;
      cell = c;
      within = omega arith;
      is = refl;
      same = ap (λ n. Row n c (value c)) same ∙ is;
    }

    further : OfRow value (k + 1) cs s → OfRow value k (c ∷ cs) s
    further o = let same : k + suc o.place ≡ (k + 1) + o.place = omega arith in let within = o.within in record {
      place = suc o.place;
      cell = o.cell;
      within = omega (arith, within);
      is = o.is;
      same = ap (λ n. Row n o.cell (value o.cell)) same ∙ o.same;
    }

    by : Contains (Row k c (value c) ∷ []) s ⊎ Contains (row_facts value (k + 1) cs) s →
        (Contains (row_facts value (k + 1) cs) s → OfRow value (k + 1) cs s) → OfRow value k (c ∷ cs) s
    by (inl first) others = here (only_one first.0 first.1 first.2)
    by (inr there) others = further (others there)

-- who reads alone
record Alone (acts : List Act) (cell : ℕ) : Type 0 where
  act : Act
  acting : Contains acts act
  reads : Contains act.reads cell
  writes : act.write ≡ None

none_written : (write : Option ℕ) → is_written write None ≡ true → write ≡ None
none_written None is = refl
none_written (Some c) is = cc

reads_alone : (acts : List Act) (cell : ℕ) → carries acts cell None ≡ true → Alone acts cell
reads_alone acts cell h =
    let one = Any-from_list_any (λ a. carries_one a cell None) acts h in
    let a = one.1 in
    let parts = both (is_written a.write None) (has_read a.reads cell) one.4 in
    record {
      act = a;
      acting = (one.0, one.2, one.3);
      reads = read_is a.reads cell parts.1;
      writes = none_written a.write parts.0;
    }

module _ (only : List CellSpan) (aside : Entry → List Bool) (opening : List ℤ) (es : List Entry) (from to : ℕ) where
  abbrev So : Fact → Type 0
  So = IsSo only aside opening es from to

  abbrev ps : List (ℕ × Entry)
  ps = statements es from to

  abbrev rows : List ℕ
  rows = cells only es from to

  module _ (i : ℕ) (p : ℕ × Entry) (within : i < length ps) (is : get_or ps i p ≡ p) where
    heading_is : So (Heading (1 + i) p.0 p.1)
    heading_is = (i, refl, record { within = within; is = is })

    line_is : (s : Fact) → MadeOf (arrows rows (1 + i) (aside p.1) (acts_in p.1)) (λ a s. Line a ≡ s) s → So s
    line_is s m = subst So m.holds (arrow_among aside rows 1 ps i p m.from within is m.item)

    box_is : (s : Fact) → MadeOf (nodes rows (1 + i) (value_behind opening es p.0) (acts_in p.1)) (λ n s. Box n ≡ s) s → So s
    box_is s m = subst So m.holds (node_among opening es rows 1 ps i p m.from within is m.item)

    ring_is : (s : Fact) → MadeOf (readings rows (1 + i) (acts_in p.1)) (λ r s. Ring r ≡ s) s → So s
    ring_is s m =
        let cell = of_mapped (reading (1 + i)) (filter (λ c. carries (acts_in p.1) c None) rows) m.from m.item in
        let alone = reads_alone (acts_in p.1) cell.from (passes_test (λ c. carries (acts_in p.1) c None) rows cell.from cell.item) in
        subst So m.holds (subst (IsReadAlone ps) cell.holds (record {
          place = i;
          statement = p;
          is_column = record { within = within; is = is };
          column = refl;
          act = alone.act;
          acts = alone.acting;
          reads = alone.reads;
          writes = alone.writes;
        }))

    stop_is_so : (e : Entry) → e ≡ p.1 → (s : Fact) → Contains (stop_facts (1 + i) e) s → So s
    stop_is_so (Ran here acts cells variables locals printed) same s one = absurd (omega (arith, one.1))
    stop_is_so (Faulting here fault cause acts met locals) same s one = by one.0 one.1 one.2
      where
        this : So (Stop (1 + i) fault met)
        this = (i, p, refl, record { within = within; is = is }, subst (λ (x : Entry). HasFault x fault met) same (refl, refl))

        by : (k : ℕ) → k < length (Stop (1 + i) fault met ∷ []) → get_or (Stop (1 + i) fault met ∷ []) k s ≡ s → So s
        by zero within is = subst So is this
        by (suc k) within is = absurd (omega (arith, within))

    column_is_so : (s : Fact) → Contains (run_facts_of aside opening es rows (1 + i) p) s → So s
    column_is_so s one = head_or (Contains-append_cases (Heading (1 + i) p.0 p.1 ∷ []) (ls ++ (bs ++ (rs ++ stops))) s one)
      where
        ls : List Fact
        ls = map Line (arrows rows (1 + i) (aside p.1) (acts_in p.1))

        bs : List Fact
        bs = map Box (nodes rows (1 + i) (value_behind opening es p.0) (acts_in p.1))

        rs : List Fact
        rs = map Ring (readings rows (1 + i) (acts_in p.1))

        stops : List Fact
        stops = stop_facts (1 + i) p.1

        ring_or : Contains rs s ⊎ Contains stops s → So s
        ring_or (inl ring) = ring_is s (of_mapped Ring (readings rows (1 + i) (acts_in p.1)) s ring)
        ring_or (inr stop) = stop_is_so p.1 refl s stop

        box_or : Contains bs s ⊎ Contains (rs ++ stops) s → So s
        box_or (inl box) = box_is s (of_mapped Box (nodes rows (1 + i) (value_behind opening es p.0) (acts_in p.1)) s box)
        box_or (inr rest) = ring_or (Contains-append_cases rs stops s rest)

        line_or : Contains ls s ⊎ Contains (bs ++ (rs ++ stops)) s → So s
        line_or (inl line) = line_is s (of_mapped Line (arrows rows (1 + i) (aside p.1) (acts_in p.1)) s line)
        line_or (inr rest) = box_or (Contains-append_cases bs (rs ++ stops) s rest)

        this : (k : ℕ) → k < length (Heading (1 + i) p.0 p.1 ∷ []) → get_or (Heading (1 + i) p.0 p.1 ∷ []) k s ≡ s → So s
        this zero within is = subst So is heading_is
        this (suc k) within is = absurd (omega (arith, within))

        head_or : Contains (Heading (1 + i) p.0 p.1 ∷ []) s ⊎ Contains (ls ++ (bs ++ (rs ++ stops))) s → So s
        head_or (inl head) = this head.0 head.1 head.2
        head_or (inr rest) = line_or (Contains-append_cases ls (bs ++ (rs ++ stops)) s rest)

  row_is_so : (s : Fact) → OfRow (values_before opening es from to) 0 rows s → So s
  row_is_so s o = subst So o.same (row_is only aside opening es from to (0 + o.place) o.place o.cell o.within o.is (omega arith))

  either : (s : Fact) → Contains (row_facts (values_before opening es from to) 0 rows) s ⊎ Contains
      (run_facts aside opening es rows 1 ps) s → So s
  either s (inl row) = row_is_so s (in_row (values_before opening es from to) 0 rows s row)
  either s (inr column) =
      let o = in_column aside opening es rows 1 ps s column in column_is_so o.place o.statement o.within o.is s o.one

pub facts_are_so : FactsAreSo
facts_are_so only aside opening es from to s one =
    either only aside opening es from to s (Contains-append_cases (row_facts (values_before opening es from to) 0 (cells only es from to))
    (run_facts aside opening es (cells only es from to) 1 (statements es from to)) s one)

-- ---- rows

pub rows_were_touched : RowsWereTouched
rows_were_touched only es from to cell one =
    let drawn = map (λ (p : ℕ × Entry). p.1) (statements es from to) in
    let e = of_spread entry_cells drawn cell (row_was_touched only es from to cell one) in
    let p = of_mapped (λ (p : ℕ × Entry). p.1) (statements es from to) e.from e.item in
    (p.from, p.item, subst (λ (x : Entry). Contains (entry_cells x) cell) (sym p.holds) e.holds)
