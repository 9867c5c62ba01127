-- Boxes and lines are shapes of a picture.
use Rattle.std.proofs.Common.{◌⊎◌, inl, inr, ℕ, ℤ, ◌+◌, List, [], ◌∷◌, ◌++◌, Bool, arith, length, map, subst, sym}
use Rattle.std.proofs.lemmas.List.Elements.{Contains-append_cases, Contains-append_left, Contains-append_right}
use Rattle.std.specs.List.{Contains}
use Rattle.svg_texts.specs.Shapes.{IsIn, Picture}
use Rattle.pram_model.specs.Layout.{SharedEntry}
use Rattle.journal.specs.Entries.{Entry}
use Rattle.pictures.specs.declared.flows.spans.CellSpan.{CellSpan}
use Rattle.pictures.specs.Acts.{acts_in}
use Rattle.pictures.specs.Flows.FactLaws.{facts, run_facts, run_facts_of, values_before}
use Rattle.pictures.specs.Flows.Facts.{Fact, Heading, Line, Box, Ring, fact_shape, row_facts, stop_facts}
use Rattle.pictures.specs.Flows.Laws.{arrows_from, arrows_of, cells, nodes_from, nodes_of, statements}
use Rattle.pictures.specs.Flows.Marks.{Arrow, Node, arrows, nodes, readings}
use Rattle.pictures.specs.Flows.MarkShapes.{arrow_shape, node_shape}
use Rattle.pictures.specs.Flows.Picture.{flow}
use Rattle.pictures.specs.Flows.Places.{picture_width}
use Rattle.pictures.specs.Flows.Values.{value_behind}
use Rattle.pictures.proofs.OfFlows.EachShape.{each_has}
use Rattle.pictures.proofs.OfFlows.Members.{later, mapped}
use Rattle.pictures.proofs.OfFlows.Shaped.{the_picture_is_its_shapes}

module _ (aside : Entry → List Bool) (opening : List ℤ) (es : List Entry) (rows : List ℕ) where
  abbrev lines : ℕ → ℕ × Entry → List Fact
  lines j p = map Line (arrows rows j (aside p.1) (acts_in p.1))

  abbrev boxes : ℕ → ℕ × Entry → List Fact
  boxes j p = map Box (nodes rows j (value_behind opening es p.0) (acts_in p.1))

  abbrev others : ℕ → ℕ × Entry → List Fact
  others j p = map Ring (readings rows j (acts_in p.1)) ++ stop_facts j p.1

  node_in : (j : ℕ) (p : ℕ × Entry) (n : Node) → Contains (nodes rows j (value_behind opening es p.0) (acts_in p.1)) n →
      Contains (run_facts_of aside opening es rows j p) (Box n)
  node_in j p n one =
      later (Heading j p.0 p.1) (lines j p ++ (boxes j p ++ others j p)) (Box n)
      (Contains-append_right (lines j p) (boxes j p ++ others j p) (Box n)
      (Contains-append_left (boxes j p) (others j p) (Box n)
      (mapped Box (nodes rows j (value_behind opening es p.0) (acts_in p.1)) n one)))

  arrow_in : (j : ℕ) (p : ℕ × Entry) (l : Arrow) → Contains (arrows rows j (aside p.1) (acts_in p.1)) l →
      Contains (run_facts_of aside opening es rows j p) (Line l)
  arrow_in j p l one =
      later (Heading j p.0 p.1) (lines j p ++ (boxes j p ++ others j p)) (Line l)
      (Contains-append_left (lines j p) (boxes j p ++ others j p) (Line l)
      (mapped Line (arrows rows j (aside p.1) (acts_in p.1)) l one))

  -- by the case of a column that is the first, or among the others
  either : {A B : Type 0} (j : ℕ) (p : ℕ × Entry) (ps : List (ℕ × Entry)) (f : Fact) → A ⊎ B →
      (A → Contains (run_facts_of aside opening es rows j p) f) → (B → Contains (run_facts aside opening es rows (j + 1) ps) f) →
      Contains (run_facts aside opening es rows j (p ∷ ps)) f
  either j p ps f (inl here) first behind =
      Contains-append_left (run_facts_of aside opening es rows j p) (run_facts aside opening es rows (j + 1) ps) f (first here)
  either j p ps f (inr there) first behind =
      Contains-append_right (run_facts_of aside opening es rows j p) (run_facts aside opening es rows (j + 1) ps) f (behind there)

  node_is_fact : (j : ℕ) (ps : List (ℕ × Entry)) (n : Node) → Contains (nodes_from opening es rows j ps) n →
      Contains (run_facts aside opening es rows j ps) (Box n)
  node_is_fact j [] n one = absurd (omega (arith, one.1))
  node_is_fact j (p ∷ ps) n one =
      either j p ps (Box n)
      (Contains-append_cases (nodes rows j (value_behind opening es p.0) (acts_in p.1)) (nodes_from opening es rows (j + 1) ps) n one)
      (λ here. node_in j p n here) (λ there. node_is_fact (j + 1) ps n there)

  arrow_is_fact : (j : ℕ) (ps : List (ℕ × Entry)) (l : Arrow) → Contains (arrows_from aside rows j ps) l →
      Contains (run_facts aside opening es rows j ps) (Line l)
  arrow_is_fact j [] l one = absurd (omega (arith, one.1))
  arrow_is_fact j (p ∷ ps) l one =
      either j p ps (Line l)
      (Contains-append_cases (arrows rows j (aside p.1) (acts_in p.1)) (arrows_from aside rows (j + 1) ps) l one)
      (λ here. arrow_in j p l here) (λ there. arrow_is_fact (j + 1) ps l there)

module _ (only : List CellSpan) (layout : List SharedEntry) (text : List ℕ) (aside : Entry → List Bool) (opening : List ℤ) (es : List Entry)
    (from to : ℕ) where
  fact_is_drawn : (f : Fact) → Contains (run_facts aside opening es (cells only es from to) 1 (statements es from to)) f →
      IsIn (fact_shape layout text (cells only es from to) (picture_width (length (statements es from to))) f)
      (flow layout text aside opening es only from to).shape
  fact_is_drawn f one =
      let rows = cells only es from to in
      let t = fact_shape layout text rows (picture_width (length (statements es from to))) in
      let there = Contains-append_right (row_facts (values_before opening es from to) 0 rows)
      (run_facts aside opening es rows 1 (statements es from to)) f one in
      subst (λ (p : Picture). IsIn (t f) p.shape) (sym (the_picture_is_its_shapes only layout text aside opening es from to))
      (inr (inr (each_has t (facts only aside opening es from to) f there)))

  pub node_is_drawn : (n : Node) → Contains (nodes_of only opening es from to) n →
      IsIn (node_shape (cells only es from to) n) (flow layout text aside opening es only from to).shape
  node_is_drawn n one = fact_is_drawn (Box n) (node_is_fact aside opening es (cells only es from to) 1 (statements es from to) n one)

  pub arrow_is_drawn : (l : Arrow) → Contains (arrows_of only aside es from to) l →
      IsIn (arrow_shape (cells only es from to) l) (flow layout text aside opening es only from to).shape
  arrow_is_drawn l one = fact_is_drawn (Line l) (arrow_is_fact aside opening es (cells only es from to) 1 (statements es from to) l one)
