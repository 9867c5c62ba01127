-- Answers, read by read.
use Rattle.std.proofs.Common.{◌≡◌, ℕ, zero, suc, ◌+◌, ◌^◌, ◌<◌, ◌≤◌, List, [], ◌∷◌, length, map, drop, get_or, set}
use Rattle.std.proofs.Common.{Option, Some, None, ℤ, pos}
use Rattle.std.proofs.Common.{refl, sym, ap, subst, ◌∙◌, arith, ⊎_elim, Vec}
use Rattle.std.specs.Global.{Global}
use Rattle.std.specs.List.{AllByRecursion, zip}
use Rattle.std.proofs.lemmas.List.{drop_all, get_or-set_same, get_or-set_other}
use Rattle.std.proofs.lemmas.Bool.{cases_eq}
use Rattle.superstep_instructions.specs.declared.instr.Side.TheVariants.{Uniform}
use Rattle.superstep_machine.specs.Parts.{Registers, Read, set_register}
use Rattle.superstep_machine.specs.Answering.{answer, answers, destinations}
use Rattle.superstep_machine.specs.Fitting.{IsCellBelow}
use Rattle.instruction_steps.specs.declared.read.Read.{Read as HeldRead}
use Rattle.instruction_steps.specs.Views.{read_is}
use Rattle.combining.specs.Asked.{HeldAsk, value_for}
use Rattle.worker_bank.specs.Columns.{value_of}
use Rattle.worker_bank.specs.Cells.{cell_in}
use Rattle.worker_steps.specs.Shown.{cells_at}
use Rattle.worker_exchange.specs.Answered.{Gives}

-- a property of all items is one of each
pub each_of : {A : Type 0} (P : A → Type 0) (xs : List A) → AllByRecursion P xs → (k : ℕ) (d : A) → k < length xs → P (get_or xs k d)
each_of P [] h k d l = absurd (omega (arith, l))
each_of P (x ∷ xs) h zero d l = h.0
each_of P (x ∷ xs) h (suc k) d l = each_of P xs h.1 k d (omega (arith, l))

-- what stands for a read behind the end
abbrev pub no_read : HeldRead
no_read = record { side = Uniform; destination = 0; moment = record { count = 0; line = 0; position = 0 }; cell = None }

pub cell_small : (n : ℕ) (cell : Option ℕ) (c : ℕ) → IsCellBelow n cell → cell ≡ Some c → c < n
cell_small n cell c h e = subst (IsCellBelow n) e h

-- ---- the uniform part

-- the destinations and cells of reads
abbrev pub by_cell : List HeldRead → List (ℕ × Option ℕ)
by_cell reads = map (λ (x : Read). (x.destination, x.cell)) (map read_is reads)

next : (k : ℕ) → suc (k + 1) ≡ suc k + 1
next k = omega arith

by_cell_more : (reads : List HeldRead) (k : ℕ) (d : HeldRead) → k < length reads →
    drop k (by_cell reads) ≡ ((get_or reads k d).destination, (get_or reads k d).cell) ∷ drop (k + 1) (by_cell reads)
by_cell_more [] k d l = absurd (omega (arith, l))
by_cell_more (x ∷ reads) zero d l = refl
by_cell_more (x ∷ reads) (suc k) d l =
    by_cell_more reads k d (omega (arith, l))
    ∙ ap (λ n. ((get_or reads k d).destination, (get_or reads k d).cell) ∷ drop n (by_cell (x ∷ reads))) (next k)

length-by_cell : (reads : List HeldRead) → length (by_cell reads) ≡ length reads
length-by_cell [] = refl
length-by_cell (x ∷ reads) = ap suc (length-by_cell reads)

-- the cells of processor j, read by read, with the registers that they are for
abbrev pub by_read : List HeldRead → List (Vec (Option ℕ) Global) → ℕ → List (ℕ × Option ℕ)
by_read reads columns j = zip (destinations (map read_is reads)) (cells_at (length reads) columns j)

by_read_more : (reads : List HeldRead) (columns : List (Vec (Option ℕ) Global)) (j k : ℕ) (d : HeldRead) (v : Vec (Option ℕ) Global) →
    k < length reads → length reads ≤ length columns →
    drop k (by_read reads columns j)
    ≡ ((get_or reads k d).destination, cell_in (get_or columns k v).items j) ∷ drop (k + 1) (by_read reads columns j)
by_read_more [] columns j k d v l m = absurd (omega (arith, l))
by_read_more (x ∷ reads) [] j k d v l m = absurd (omega (arith, m))
by_read_more (x ∷ reads) (c ∷ columns) j zero d v l m = refl
by_read_more (x ∷ reads) (c ∷ columns) j (suc k) d v l m =
    by_read_more reads columns j k d v (omega (arith, l)) (omega (arith, m))
    ∙ ap (λ n. ((get_or reads k d).destination, cell_in (get_or columns k v).items j) ∷ drop n (by_read (x ∷ reads) (c ∷ columns) j))
    (next k)

length-by_read : (reads : List HeldRead) (columns : List (Vec (Option ℕ) Global)) (j : ℕ) → length (by_read reads columns j) ≤ length reads
length-by_read [] columns j = omega arith
length-by_read (x ∷ reads) [] j = omega arith
length-by_read (x ∷ reads) (c ∷ columns) j = let h = length-by_read reads columns j in omega (arith, h)

-- the cell of one read of processor j is below where all are
pub own_small : (n : ℕ) (reads : ℕ) (columns : List (Vec (Option ℕ) Global)) (j k : ℕ) (v : Vec (Option ℕ) Global) → k < reads →
    reads ≤ length columns → AllByRecursion (IsCellBelow n) (cells_at reads columns j) →
    IsCellBelow n (cell_in (get_or columns k v).items j)
own_small n zero columns j k v l m h = absurd (omega (arith, l))
own_small n (suc reads) [] j k v l m h = absurd (omega (arith, m))
own_small n (suc reads) (c ∷ columns) j zero v l m h = h.0
own_small n (suc reads) (c ∷ columns) j (suc k) v l m h = own_small n reads columns j k v (omega (arith, l)) (omega (arith, m)) h.1

module _ (value : ℕ → ℕ → ℤ) where
  -- what is left of the answers from read k on
  abbrev pub uniform_left : List HeldRead → ℕ → Registers → Registers
  uniform_left reads k r = answers value k (drop k (by_cell reads)) r

  pub uniform_goes : (reads : List HeldRead) (k : ℕ) (d : HeldRead) (r : Registers) → k < length reads →
      uniform_left reads k r ≡ uniform_left reads (k + 1) (answer (value k) (get_or reads k d).destination (get_or reads k d).cell r)
  uniform_goes reads k d r l = ap (λ ps. answers value k ps r) (by_cell_more reads k d l)

  pub uniform_ends : (reads : List HeldRead) (k : ℕ) (r : Registers) → length reads ≤ k → uniform_left reads k r ≡ r
  uniform_ends reads k r l =
      let a = length-by_cell reads in
      ap (λ ps. answers value k ps r) (drop_all k (by_cell reads) (omega (arith, l, a)))

  abbrev pub own_left : List HeldRead → List (Vec (Option ℕ) Global) → ℕ → ℕ → Registers → Registers
  own_left reads columns j k r = answers value k (drop k (by_read reads columns j)) r

  pub own_goes : (reads : List HeldRead) (columns : List (Vec (Option ℕ) Global)) (j k : ℕ) (d : HeldRead) (v : Vec (Option ℕ) Global)
      (r : Registers) → k < length reads → length reads ≤ length columns → own_left reads columns j k r
      ≡ own_left reads columns j (k + 1) (answer (value k) (get_or reads k d).destination (cell_in (get_or columns k v).items j) r)
  own_goes reads columns j k d v r l m = ap (λ ps. answers value k ps r) (by_read_more reads columns j k d v l m)

  pub own_ends : (reads : List HeldRead) (columns : List (Vec (Option ℕ) Global)) (j k : ℕ) (r : Registers) → length reads ≤ k →
      own_left reads columns j k r ≡ r
  own_ends reads columns j k r l =
      let a = length-by_read reads columns j in
      ap (λ ps. answers value k ps r) (drop_all k (by_read reads columns j) (omega (arith, l, a)))

  -- a register gets the value that came
  pub came_there : (held : List HeldAsk) → Gives held value → (k d cell : ℕ) (c : Option ℕ) (x : ℤ) (r : Registers) → c ≡ Some cell →
      cell < 2 ^ 20 → x ≡ value_for k cell held → set_register d x r ≡ answer (value k) d c r
  came_there held gives k d cell c x r is low came =
      ap (λ z. set_register d z r) (came ∙ gives k cell low) ∙ ap (λ o. answer (value k) d o r) (sym is)

  -- or keeps what it holds
  pub none_there : (k d : ℕ) (c : Option ℕ) (r : Registers) → ((cell : ℕ) → c ≡ Some cell → ⊥) → r ≡ answer (value k) d c r
  none_there k d None r h = refl
  none_there k d (Some cell) r h = absurd (h cell refl)

-- one value more
pub one_value : (want : ℕ → ℤ → Type 0) (values : List ℤ) (j : ℕ) (x : ℤ) → j < length values → want j x →
    ((i : ℕ) → i < j → want i (value_of values i)) → (i : ℕ) → i < j + 1 → want i (value_of (set values j x) i)
one_value want values j x l here before i m =
    ⊎_elim (λ (e : j ≡ i). subst (λ k. want k (value_of (set values j x) k)) e (subst (want j) (sym (set_there values j x l)) here))
    (λ (apart : j ≡ i → ⊥). subst (want i) (sym (set_elsewhere values j i x apart)) (before i (omega (arith, m, apart)))) (cases_eq j i)
  where
    set_there : (values : List ℤ) (j : ℕ) (x : ℤ) → j < length values → value_of (set values j x) j ≡ x
    set_there values j x l = get_or-set_same values j x (pos 0) l

    set_elsewhere : (values : List ℤ) (j i : ℕ) (x : ℤ) → (j ≡ i → ⊥) → value_of (set values j x) i ≡ value_of values i
    set_elsewhere values j i x apart = get_or-set_other values j i x (pos 0) (λ e. apart (sym e))
