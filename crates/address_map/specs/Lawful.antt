-- What a map of cells onto the offsets of modules is, as functions, and when it is one to one.
use Rattle.std.specs.Prelude.{◌≡◌, ℕ, ◌^◌, ◌<◌, ◌≤◌, ◌+◌, ◌-◌, ◌*◌, ◌/◌, ◌%◌, Option, Some, None, if◌then◌else◌, nat_lt, ◌&&◌}

-- count cells, parts modules; module j has the offsets below width j
pub record Shape : Type 0 where
  pub count : ℕ
  pub parts : ℕ
  pub width : ℕ → ℕ
  pub part : ℕ → ℕ
  pub offset : ℕ → ℕ
  pub cell : ℕ → ℕ → ℕ

-- c is a cell of module j
pub record IsOf (m : Shape) (j c : ℕ) : Type 0 where
  pub below : c < m.count
  pub here : m.part c ≡ j

-- cells and places match one to one, and the numbers are in range
pub record IsLawful (m : Shape) : Type 0 where
  pub small : m.count ≤ 2 ^ 20
  pub one : 1 ≤ m.parts
  pub few : m.parts ≤ 32
  pub part_below : (c : ℕ) → c < m.count → m.part c < m.parts
  pub offset_below : (c : ℕ) → c < m.count → m.offset c < m.width (m.part c)
  pub back : (c : ℕ) → c < m.count → m.cell (m.part c) (m.offset c) ≡ c
  pub forth : (j o : ℕ) → j < m.parts → o < m.width j → IsOf m j (m.cell j o)
  pub again : (j o : ℕ) → j < m.parts → o < m.width j → m.offset (m.cell j o) ≡ o

-- the cell at an offset of a module, if there is one
abbrev pub cell_at : Shape → ℕ → ℕ → Option ℕ
cell_at m j o = if nat_lt j m.parts && nat_lt o (m.width j) then Some (m.cell j o) else None

-- how many offsets o of module j have o * p + j below k, for j below p
abbrev pub rows : ℕ → ℕ → ℕ → ℕ
rows k p j = (k + (p - 1 - j)) / p

-- k cells on p modules: cell c is number f c, and numbers go round the modules in turn; g undoes f
abbrev pub spread : ℕ → ℕ → (ℕ → ℕ) → (ℕ → ℕ) → Shape
spread k p f g = record {
  count = k;
  parts = p;
  width = rows k p;
  part = λ c. f c % p;
  offset = λ c. f c / p;
  cell = λ j o. g (o * p + j);
}

-- m puts k cells onto p modules, cell c as number f c
pub record Spreads (m : Shape) (k p : ℕ) (f : ℕ → ℕ) : Type 0 where
  pub count : m.count ≡ k
  pub parts : m.parts ≡ p
  pub width : (j : ℕ) → m.width j ≡ rows k p j
  pub part : (c : ℕ) → m.part c ≡ f c % p
  pub offset : (c : ℕ) → m.offset c ≡ f c / p
