-- The facts that are made here can be read: they have no float, and nest four levels at most.
use Rattle.std.proofs.Common.{◌++◌, List, [], ◌∷◌, ℕ, lit≤}
use Rattle.std.specs.List.{flat_map}
use Rattle.std.specs.Prelude.{ℤ, codes, map}
use Rattle.serde_json.specs.Data.{Data}
use Rattle.json_texts.specs.Facts.{list}
use Rattle.json_texts.specs.Small.{IsReadable, IsSmall}
use Rattle.text_places.specs.Escaped.{escaped}
use Rattle.json_texts.proofs.Small.{AreSmall, HasSmall, has_all, small_count, small_letters, small_list, small_map, small_object}
use Rattle.json_texts.proofs.Small.{small_value}
use Rattle.json_texts.proofs.Small.{small_values, small_word, smaller}
use Rattle.pram_model.specs.declared.rule.Rule.{Rule}
use Rattle.pram_trees.specs.declared.tree.Declaration.{Declaration}
use Rattle.pram_trees.specs.declared.tree.Declaration.TheVariants as declare
use Rattle.pram_trees.specs.Program.{ProgramTree}
use Rattle.pages.specs.Opening.{cells_of, names_fields, opening_facts, opening_fields, source_fields, variables_of}
use Rattle.pages.specs.State.{state_fields, state_of}
use Rattle.pages.specs.Pardos.{Pardo, name_fact, pardo_facts, pardos_of}

small-append : (n : ℕ) (a b : List Data) → AreSmall n a → AreSmall n b → AreSmall n (a ++ b)
small-append n [] b h g = g
small-append n (d ∷ a) b h g = (h.0, small-append n a b h.1 g)

small_cells : (d : Declaration) → AreSmall 1 (cells_of d)
small_cells (declare.Cell x) = (small_object 0 ((codes "name", _) ∷ []) (small_letters 0 x.text, tt), tt)
small_cells (declare.Array x low high) = (
  small_object 0 ((codes "name", _) ∷ (codes "low", _) ∷ (codes "high", _) ∷ [])
      (small_letters 0 x.text, (small_value 0 low.value, (small_value 0 high.value, tt))),
  tt,
)
small_cells (declare.Uniform x) = tt

small_variables : (d : Declaration) → AreSmall 1 (variables_of d)
small_variables (declare.Cell x) = tt
small_variables (declare.Array x low high) = tt
small_variables (declare.Uniform x) = (small_letters 1 x.text, tt)

small_each : (f : Declaration → List Data) → ((d : Declaration) → AreSmall 1 (f d)) → (ds : List Declaration) → AreSmall 1 (flat_map f ds)
small_each f each [] = tt
small_each f each (d ∷ ds) = small-append 1 (f d) (flat_map f ds) (each d) (small_each f each ds)

source_small : (file text : List ℕ) (rule : Rule) (input : List ℤ) (statements : ℕ) → HasSmall 3
    (source_fields file text rule input statements)
source_small file text rule input statements =
    (small_letters 3 (escaped file), (small_letters 3 text, (small_word 3 _, (small_values 2 input, (small_count 3 statements, tt)))))

small_pardo : (p : Pardo) → IsSmall 2 (pardo_facts p)
small_pardo p = small_object 1 ((codes "line", _) ∷ (codes "offset", _) ∷ (codes "index", _) ∷ (codes "locals", _) ∷ []) (
  small_count 1 p.begins.line,
  (
    small_count 1 p.begins.offset,
    (
      small_letters 1 p.index.text,
      (
        small_list 0 (map name_fact p.locals) (small_map 0 name_fact (λ x. small_letters 0 x.text)
            p.locals),
        tt,
      ),
    ),
  ),
)

one_more : (ds : List Data) → AreSmall 1 ds → IsSmall 3 (list ds)
one_more ds h = smaller 2 3 (list ds) (lit≤ tt) (small_list 1 ds h)

names_small : (tree : ProgramTree) → HasSmall 3 (names_fields tree)
names_small tree = (
  one_more (flat_map cells_of tree.declarations) (small_each cells_of small_cells tree.declarations),
  (
    one_more (flat_map variables_of tree.declarations) (small_each variables_of small_variables tree.declarations),
    (
      small_list 2 (map pardo_facts (pardos_of tree.body)) (small_map 2 pardo_facts small_pardo (pardos_of tree.body)),
      tt,
    ),
  ),
)

small_opening : (file text : List ℕ) (tree : ProgramTree) (input : List ℤ) (statements : ℕ) →
    IsSmall 4 (opening_facts file text tree input statements)
small_opening file text tree input statements =
    small_object 3 (opening_fields file text tree input statements)
    (has_all 3 (source_fields file text tree.rule input statements) (names_fields tree) (source_small file text tree.rule input statements)
    (names_small tree))

small_state : (cells variables : List ℤ) (printed k : ℕ) → IsSmall 2 (state_of cells variables printed k)
small_state cells variables printed k =
    small_object 1 (state_fields cells variables printed k)
    (small_count 1 k, (small_values 0 cells, (small_values 0 variables, (small_count 1 printed, tt))))

pub readable_opening : (file text : List ℕ) (tree : ProgramTree) (input : List ℤ) (statements : ℕ) →
    IsReadable (opening_facts file text tree input statements)
readable_opening file text tree input statements =
    smaller 4 127 (opening_facts file text tree input statements) (lit≤ tt) (small_opening file text tree input statements)

pub readable_state : (cells variables : List ℤ) (printed k : ℕ) → IsReadable (state_of cells variables printed k)
readable_state cells variables printed k =
    smaller 2 127 (state_of cells variables printed k) (lit≤ tt) (small_state cells variables printed k)

-- a level less than the reader takes, so that they may stand in a list
pub shallow_opening : (file text : List ℕ) (tree : ProgramTree) (input : List ℤ) (statements : ℕ) →
    IsSmall 126 (opening_facts file text tree input statements)
shallow_opening file text tree input statements =
    smaller 4 126 (opening_facts file text tree input statements) (lit≤ tt) (small_opening file text tree input statements)

pub shallow_state : (cells variables : List ℤ) (printed k : ℕ) → IsSmall 126 (state_of cells variables printed k)
shallow_state cells variables printed k =
    smaller 2 126 (state_of cells variables printed k) (lit≤ tt) (small_state cells variables printed k)
