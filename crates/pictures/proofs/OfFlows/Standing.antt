-- Boxes and lines of all columns.
use Rattle.std.proofs.Common.{◌≡◌, ◌∙◌, ◌⊎◌, inl, inr, ℕ, ℤ, zero, suc, ◌+◌, ◌<◌, List, [], ◌∷◌, ap, arith, get_or, length, refl}
use Rattle.std.proofs.Common.{Bool, true, false, not, ◌||◌, Option, Some, cond, map, subst, sym}
use Rattle.std.proofs.lemmas.List.Elements.{Contains-append_cases, Contains-append_left, Contains-append_right}
use Rattle.std.specs.List.{Contains, filter, position_or_len}
use Rattle.journal.specs.Entries.{Act, Entry}
use Rattle.pictures.specs.Acts.{acts_in}
use Rattle.pictures.specs.Flows.Drawing.{column_of, write_value, written_by}
use Rattle.pictures.specs.Flows.Laws.{IsCarried, arrows_from, nodes_from}
use Rattle.pictures.specs.Flows.Marks.{Arrow, Node, arrows, is_written, node, nodes, value_in, writes}
use Rattle.pictures.specs.Flows.Values.{value_at, value_behind}
use Rattle.pictures.proofs.OfFlows.Carriers.{line_is_of, written_is}

-- ---- columns, by the values behind their statements

written_at : (value : ℕ → ℤ) (acts : List Act) (cell : ℕ) → writes acts cell ≡ true → value_in acts (written_by value acts) cell ≡
    value cell
written_at value [] cell is = absurd (grind (arith, is))
written_at value (a ∷ acts) cell is = by (is_written a.write (Some cell)) refl (written_at value acts cell)
  where
    first : (write : Option ℕ) → write ≡ Some cell → write_value value write ≡ value cell
    first write same = ap (write_value value) same

    later : ℕ
    later = position_or_len (λ (a : Act). is_written a.write (Some cell)) acts

    by : (b : Bool) → is_written a.write (Some cell) ≡ b →
        (writes acts cell ≡ true → value_in acts (written_by value acts) cell ≡ value cell) →
        value_in (a ∷ acts) (written_by value (a ∷ acts)) cell ≡ value cell
    by true here others =
        ap (λ t. value_at (written_by value (a ∷ acts)) (cond (not t) (1 + later) 0)) here ∙ first a.write (written_is a.write cell here)
    by false here others =
        let next : 1 + later ≡ suc later = omega arith in
        ap (λ t. value_at (written_by value (a ∷ acts)) (cond (not t) (1 + later) 0)) here
        ∙ ap (λ k. value_at (written_by value (a ∷ acts)) k) next
        ∙ others (sym (ap (λ t. t || writes acts cell) here) ∙ is)

same_nodes : (rows : List ℕ) (j : ℕ) (v w : ℕ → ℤ) (acts : List Act) → ((cell : ℕ) → writes acts cell ≡ true → v cell ≡ w cell) →
    nodes rows j v acts ≡ nodes rows j w acts
same_nodes [] j v w acts same = refl
same_nodes (c ∷ rows) j v w acts same = by (writes acts c) refl (same_nodes rows j v w acts same)
  where
    by : (b : Bool) → writes acts c ≡ b → nodes rows j v acts ≡ nodes rows j w acts →
        map (node j v) (cond b (c ∷ filter (writes acts) rows) (filter (writes acts) rows)) ≡
        map (node j w) (cond b (c ∷ filter (writes acts) rows) (filter (writes acts) rows))
    by true is others = ap (λ x. record { cell = c; column = j; value = x } ∷ nodes rows j v acts) (same c is)
        ∙ ap (λ ns. node j w c ∷ ns) others
    by false is others = others

-- the boxes of a column
pub boxes : (aside : Entry → List Bool) (opening : List ℤ) (es : List Entry) (rows : List ℕ) (j : ℕ) (p : ℕ × Entry) →
    nodes rows j (value_in (acts_in p.1) (column_of aside opening es p).written) (acts_in p.1) ≡
    nodes rows j (value_behind opening es p.0) (acts_in p.1)
boxes aside opening es rows j p =
    same_nodes rows j (value_in (acts_in p.1) (column_of aside opening es p).written) (value_behind opening es p.0) (acts_in p.1)
    (λ cell is. written_at (value_behind opening es p.0) (acts_in p.1) cell is)

-- ---- boxes

pub node_among : (opening : List ℤ) (es : List Entry) (rows : List ℕ) (j : ℕ) (ps : List (ℕ × Entry)) (i : ℕ) (p : ℕ × Entry) (n : Node) →
    i < length ps → get_or ps i p ≡ p → Contains (nodes rows (j + i) (value_behind opening es p.0) (acts_in p.1)) n →
    Contains (nodes_from opening es rows j ps) n
node_among opening es rows j [] i p n within is one = absurd (omega (arith, within))
node_among opening es rows j (q ∷ ps) zero p n within is one =
    let same : j + 0 ≡ j = omega arith in
    Contains-append_left (nodes rows j (value_behind opening es q.0) (acts_in q.1)) (nodes_from opening es rows (j + 1) ps) n
    (subst (λ r. Contains (nodes rows j (value_behind opening es r.0) (acts_in r.1)) n) (sym is)
    (subst (λ k. Contains (nodes rows k (value_behind opening es p.0) (acts_in p.1)) n) same one))
node_among opening es rows j (q ∷ ps) (suc i) p n within is one =
    let same : j + suc i ≡ (j + 1) + i = omega arith in
    Contains-append_right (nodes rows j (value_behind opening es q.0) (acts_in q.1)) (nodes_from opening es rows (j + 1) ps) n
    (node_among opening es rows (j + 1) ps i p n (omega (arith, within)) is
    (subst (λ k. Contains (nodes rows k (value_behind opening es p.0) (acts_in p.1)) n) same one))

-- ---- lines

pub arrow_among : (aside : Entry → List Bool) (rows : List ℕ) (j : ℕ) (ps : List (ℕ × Entry)) (i : ℕ) (p : ℕ × Entry) (l : Arrow) →
    i < length ps → get_or ps i p ≡ p → Contains (arrows rows (j + i) (aside p.1) (acts_in p.1)) l → Contains
    (arrows_from aside rows j ps) l
arrow_among aside rows j [] i p l within is one = absurd (omega (arith, within))
arrow_among aside rows j (q ∷ ps) zero p l within is one =
    let same : j + 0 ≡ j = omega arith in
    Contains-append_left (arrows rows j (aside q.1) (acts_in q.1)) (arrows_from aside rows (j + 1) ps) l
    (subst (λ r. Contains (arrows rows j (aside r.1) (acts_in r.1)) l) (sym is)
    (subst (λ k. Contains (arrows rows k (aside p.1) (acts_in p.1)) l) same one))
arrow_among aside rows j (q ∷ ps) (suc i) p l within is one =
    let same : j + suc i ≡ (j + 1) + i = omega arith in
    Contains-append_right (arrows rows j (aside q.1) (acts_in q.1)) (arrows_from aside rows (j + 1) ps) l
    (arrow_among aside rows (j + 1) ps i p l (omega (arith, within)) is (subst (λ k. Contains (arrows rows k (aside p.1) (acts_in p.1)) l)
    same one))

carried_later : (aside : Entry → List Bool) (j : ℕ) (q : ℕ × Entry) (ps : List (ℕ × Entry)) (l : Arrow) → IsCarried aside (j + 1) ps l →
    IsCarried aside j (q ∷ ps) l
carried_later aside j q ps l c =
    let column = c.column in
    let within = c.within in
    record {
      place = suc c.place;
      statement = c.statement;
      within = omega (arith, within);
      is = c.is;
      column = omega (arith, column);
      act = c.act;
      acts = c.acts;
      reads = c.reads;
      writes = c.writes;
      dashed = c.dashed;
    }

pub line_is_carried : (aside : Entry → List Bool) (rows : List ℕ) (j : ℕ) (ps : List (ℕ × Entry)) (l : Arrow) → Contains
    (arrows_from aside rows j ps) l → IsCarried aside j ps l
line_is_carried aside rows j [] l one = absurd (omega (arith, one.1))
line_is_carried aside rows j (p ∷ ps) l one =
    by (Contains-append_cases (arrows rows j (aside p.1) (acts_in p.1)) (arrows_from aside rows (j + 1) ps) l one)
    (λ there. line_is_carried aside rows (j + 1) ps l there) where
      by : Contains (arrows rows j (aside p.1) (acts_in p.1)) l ⊎ Contains (arrows_from aside rows (j + 1) ps) l →
          (Contains (arrows_from aside rows (j + 1) ps) l → IsCarried aside (j + 1) ps l) → IsCarried aside j (p ∷ ps) l
      by (inl here) others =
          let o = line_is_of rows j (aside p.1) (acts_in p.1) l here in
          let column = o.same in
          record {
            place = 0;
            statement = p;
            within = omega arith;
            is = refl;
            column = omega (arith, column);
            act = o.act;
            acts = o.acting;
            reads = o.reads;
            writes = o.writes;
            dashed = o.dashed;
          }
      by (inr there) others = carried_later aside j p ps l (others there)
