-- How many positions a task has, and which cells it reads and writes.
use Rattle.std.proofs.Common.{◌≡◌, ℕ, zero, suc, ◌+◌, ◌≤◌, List, [], ◌∷◌, ◌++◌, length, length-append, get_or, Option, Some, None, ℤ, refl}
use Rattle.std.proofs.Common.{ap, ◌∙◌, arith}
use Rattle.std.specs.List.{AllByRecursion}
use Rattle.pram_values.specs.declared.kind.Kind.{Kind}
use Rattle.pram_model.specs.Layout.{SharedEntry, cell_of, total_size}
use Rattle.pram_model.proofs.Cells.{cell_below}
use Rattle.superstep_machine.specs.Results.{kind_of, missing}
use Rattle.pram_meaning.specs.Operation.{operate, operate_before}
use Rattle.pram_meaning.specs.Store.{View}
use Rattle.statement_evaluation.specs.Terms.{Term, Number, Uniform, Index, Local, Read, Before, Between, positions, Task, Gets, Writes}
use Rattle.statement_evaluation.specs.Terms.{task_positions}
use Rattle.statement_evaluation.specs.Whole.{Step, testing, reading, value, steps, whole}
use Rattle.statement_evaluation.specs.Rows.{trail}
use Rattle.statement_evaluation.proofs.Sums.{IsBelow}
use Rattle.statement_evaluation.proofs.Cuts.{left, left_after}

-- ---- positions

pub one_more : (ss : List Step) (x : Step) (n : ℕ) → length ss ≡ n → length (ss ++ x ∷ []) ≡ n + 1
one_more ss x n e = length-append ss (x ∷ []) ∙ ap (λ k. k + 1) e

two_and_one : (ss us : List Step) (x : Step) (m n : ℕ) → length ss ≡ m → length us ≡ n → length (ss ++ (us ++ x ∷ [])) ≡ m + n + 1
two_and_one ss us x m n e f = let a = length-append ss (us ++ x ∷ []) in let b = one_more us x n f in omega (arith, a, b, e)

pub length_steps : (s : View) (t : Term) → length (steps s t) ≡ positions t
length_steps s (Number n) = refl
length_steps s (Uniform x) = refl
length_steps s Index = refl
length_steps s (Local x) = refl
length_steps s (Read a t) = one_more (steps s t) (reading (cell_of s.layout a (value s t))) (positions t) (length_steps s t)
length_steps s (Before o t) = one_more (steps s t) (testing (kind_of (operate_before o (value s t)))) (positions t) (length_steps s t)
length_steps s (Between o t u) =
    two_and_one (steps s t) (steps s u) (testing (kind_of (operate o (value s t) (value s u)))) (positions t) (positions u)
    (length_steps s t) (length_steps s u)

pub length_whole : (s : View) (task : Task) → length (whole s task).steps ≡ task_positions task
length_whole s (Gets t) = length_steps s t
length_whole s (Writes a t u) =
    two_and_one (steps s t) (steps s u) (testing (missing (cell_of s.layout a (value s t)))) (positions t) (positions u) (length_steps s t)
    (length_steps s u)

-- ---- cells

abbrev AreBelow : ℕ → List Step → Type 0
AreBelow cells = AllByRecursion (λ s. IsBelow cells s.cell)

below_both : (cells : ℕ) (ss us : List Step) → AreBelow cells ss → AreBelow cells us → AreBelow cells (ss ++ us)
below_both cells [] us a b = b
below_both cells (s ∷ ss) us a b = (a.0, below_both cells ss us a.1 b)

found_below : (layout : List SharedEntry) (a : ℕ) (z : ℤ) → IsBelow (total_size layout) (cell_of layout a z)
found_below layout a z = go (cell_of layout a z) refl
  where
    go : (o : Option ℕ) → cell_of layout a z ≡ o → IsBelow (total_size layout) o
    go None e = tt
    go (Some c) e = cell_below layout a z c e

steps_below : (s : View) (t : Term) → AreBelow (total_size s.layout) (steps s t)
steps_below s (Number n) = tt
steps_below s (Uniform x) = tt
steps_below s Index = tt
steps_below s (Local x) = tt
steps_below s (Read a t) =
    below_both (total_size s.layout) (steps s t) (reading (cell_of s.layout a (value s t)) ∷ []) (steps_below s t)
    (found_below s.layout a (value s t), tt)
steps_below s (Before o t) = below_both (total_size s.layout) (steps s t) (testing (kind_of (operate_before o (value s t))) ∷ [])
    (steps_below s t) (tt, tt)
steps_below s (Between o t u) =
    below_both (total_size s.layout) (steps s t) (steps s u ++ testing (kind_of (operate o (value s t) (value s u))) ∷ []) (steps_below s t)
    (below_both (total_size s.layout) (steps s u) (testing (kind_of (operate o (value s t) (value s u))) ∷ []) (steps_below s u) (tt, tt))

whole_below : (s : View) (task : Task) → AreBelow (total_size s.layout) (whole s task).steps
whole_below s (Gets t) = steps_below s t
whole_below s (Writes a t u) =
    below_both (total_size s.layout) (steps s t) (steps s u ++ testing (missing (cell_of s.layout a (value s t))) ∷ []) (steps_below s t)
    (below_both (total_size s.layout) (steps s u) (testing (missing (cell_of s.layout a (value s t))) ∷ []) (steps_below s u) (tt, tt))

left_below : (cells : ℕ) (ss : List Step) (d : ℕ) → AreBelow cells ss → IsBelow cells (get_or (left ss) d None)
left_below cells [] d = λ b. tt
left_below cells (s ∷ ss) d = go s.note d (λ d. left_below cells ss d)
  where
    go : (n : Option Kind) (d : ℕ) → ((d : ℕ) → AreBelow cells ss → IsBelow cells (get_or (left ss) d None)) → AreBelow cells (s ∷ ss) →
        IsBelow cells (get_or (left_after n s.cell (left ss)) d None)
    go None zero r b = b.0
    go None (suc d) r b = r d b.1
    go (Some kind) zero r b = tt
    go (Some kind) (suc d) r b = tt

-- what a processor reads up to its first note is a cell of the layout, and so is what it writes
pub reads_below : (s : View) (task : Task) (d : ℕ) → IsBelow (total_size s.layout) (get_or (left (whole s task).steps) d None)
reads_below s task d = left_below (total_size s.layout) (whole s task).steps d (whole_below s task)

pub write_below : (s : View) (task : Task) → IsBelow (total_size s.layout) (whole s task).value.cell
write_below s (Gets t) = tt
write_below s (Writes a t u) = found_below s.layout a (value s t)

-- ---- a write reads nothing at its own position

last_empty : (ss : List Step) (k : Option Kind) (d : ℕ) → length ss ≤ d → get_or (trail (ss ++ testing k ∷ [])) d None ≡ None
last_empty [] k zero l = refl
last_empty [] k (suc d) l = refl
last_empty (s ∷ ss) k zero l = absurd (omega arith)
last_empty (s ∷ ss) k (suc d) l = last_empty ss k d (omega arith)

behind_first : (ss us : List Step) (d : ℕ) → length ss ≤ d → ((k : ℕ) → length ss + k ≡ d → get_or (trail us) k None ≡ None) →
    get_or (trail (ss ++ us)) d None ≡ None
behind_first [] us d l h = h d (omega arith)
behind_first (s ∷ ss) us zero l h = absurd (omega arith)
behind_first (s ∷ ss) us (suc d) l h = behind_first ss us d (omega arith) (λ k e. h k (omega (arith, e)))

pub write_reads_nothing : (s : View) (a : ℕ) (t u : Term) (d : ℕ) → positions t + positions u ≤ d →
    get_or (trail (whole s (Writes a t u)).steps) d None ≡ None
write_reads_nothing s a t u d l =
    let x = length_steps s t in
    let y = length_steps s u in
    behind_first (steps s t) (steps s u ++ testing (missing (cell_of s.layout a (value s t))) ∷ []) d (omega (arith, x))
    (λ k e. last_empty (steps s u) (missing (cell_of s.layout a (value s t))) k (omega (arith, x, y, e)))
