-- Words that name kinds of inputs.
use Rattle.std.specs.Prelude.{◌≡◌, ◌<◌, ◌^◌, ℕ, ⊤, List, ◌++◌, Some, None, codes, decimal}
use Rattle.drawn_kinds.specs.declared.kind.DrawnKind.{DrawnKind}
use Rattle.drawn_kinds.specs.declared.kind.DrawnKind.TheVariants.{List as ListKind, Ring, RingFromZero, Tree, Graph, Sorted, Permutation}
use Rattle.run_options.specs.Numbers.{number_of}

-- `graph:V`, where V is that number
pub record IsGraph (word : List ℕ) (vertices : ℕ) : Type 0 where
  pub number : List ℕ
  pub spelled : word ≡ codes "graph:" ++ number
  pub is : number_of number ≡ Some vertices

abbrev pub Names : List ℕ → DrawnKind → Type 0
Names word ListKind = word ≡ codes "list"
Names word Ring = word ≡ codes "ring"
Names word RingFromZero = word ≡ codes "ring:0"
Names word Tree = word ≡ codes "tree"
Names word (Graph vertices) = IsGraph word vertices.count
Names word (Sorted bounds) = (word ≡ codes "sorted") × (bounds ≡ None)
Names word Permutation = word ≡ codes "permutation"

-- a graph with so many vertices
abbrev pub IsGraphWith : ℕ → DrawnKind → Type 0
IsGraphWith count ListKind = ⊥
IsGraphWith count Ring = ⊥
IsGraphWith count RingFromZero = ⊥
IsGraphWith count Tree = ⊥
IsGraphWith count (Graph vertices) = vertices.count ≡ count
IsGraphWith count (Sorted bounds) = ⊥
IsGraphWith count Permutation = ⊥

-- ---- the word that each is written as

abbrev pub spelling : DrawnKind → List ℕ
spelling ListKind = codes "list"
spelling Ring = codes "ring"
spelling RingFromZero = codes "ring:0"
spelling Tree = codes "tree"
spelling (Graph vertices) = codes "graph:" ++ decimal vertices.count
spelling (Sorted bounds) = codes "sorted"
spelling Permutation = codes "permutation"

-- a number of vertices has 32 bits, and there are no bounds, for which no word stands
abbrev pub IsSmall : DrawnKind → Type 0
IsSmall ListKind = ⊤
IsSmall Ring = ⊤
IsSmall RingFromZero = ⊤
IsSmall Tree = ⊤
IsSmall (Graph vertices) = vertices.count < 2 ^ 32
IsSmall (Sorted bounds) = bounds ≡ None
IsSmall Permutation = ⊤

-- how many declarations an input fills
abbrev pub declarations : DrawnKind → ℕ
declarations ListKind = 1
declarations Ring = 1
declarations RingFromZero = 1
declarations Tree = 1
declarations (Graph vertices) = 2
declarations (Sorted bounds) = 1
declarations Permutation = 1
