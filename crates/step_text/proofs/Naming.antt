-- The declarations, one by one, and the parts of a word.
use Rattle.std.proofs.Common.{◌≡◌, ◌∙◌, ◌<◌, ◌≤◌, ◌+◌, ◌-◌, Bool, true, false, List, ℕ, ap, arith, drop, get_or, length, nat_lt, not}
use Rattle.std.proofs.Common.{slice_get, sym}
use Rattle.std.proofs.lemmas.Bool.Decides.{nat_tests}
use Rattle.std.proofs.lemmas.List.{at_drop_more}
use Rattle.std.specs.Bool.{if◌then◌else◌}
use Rattle.std.specs.Prelude.{IfSome, Some}
use Rattle.pram_model.specs.Layout.{SharedEntry, size}
use Rattle.pram_trees.specs.Program.{ProgramTree}
use Rattle.program_texts.proofs.ShownLemmas.{entry_at, known_at}
use Rattle.step_text.specs.Focus.{cell_name, is_declared, undeclared_part}

-- the cell is one of the declaration at i
pub name_here : (layout : List SharedEntry) (i k count : ℕ) (name : List ℕ) → i < length layout →
    IfSome (slice_get layout i) (λ e. count ≡ size e.bounds) → k < count → IfSome (slice_get layout i) (λ e. name ≡ e.name) →
    name ≡ cell_name (drop i layout) k
name_here layout i k count name below counted inside named =
    let (e, found, split) = entry_at layout i below in
    let counted' = known_at layout i e (λ e. count ≡ size e.bounds) found counted in
    let here : nat_lt k (size e.bounds) ≡ true = grind (arith, nat_tests, inside, counted') in
    known_at layout i e (λ e. name ≡ e.name) found named
    ∙ sym (ap (λ l. cell_name l k) split
    ∙ ap (λ b. if b then e.name else cell_name (drop (i + 1) layout) (k - size e.bounds)) here)

-- it is behind those of the declaration at i
pub name_behind : (layout : List SharedEntry) (i k count : ℕ) → i < length layout →
    IfSome (slice_get layout i) (λ e. count ≡ size e.bounds) → count ≤ k →
    cell_name (drop i layout) k ≡ cell_name (drop (i + 1) layout) (k - count)
name_behind layout i k count below counted past =
    let (e, found, split) = entry_at layout i below in
    let counted' = known_at layout i e (λ e. count ≡ size e.bounds) found counted in
    let gone : nat_lt k (size e.bounds) ≡ false = grind (arith, nat_tests, past, counted') in
    ap (λ l. cell_name l k) split
    ∙ ap (λ b. if b then e.name else cell_name (drop (i + 1) layout) (k - size e.bounds)) gone
    ∙ ap (λ n. cell_name (drop (i + 1) layout) (k - n)) (sym counted')

-- the part at i of a word
pub undeclared_more : (ps : List (List ℕ)) (i : ℕ) (part : List ℕ) → (i < length ps) × (part ≡ get_or ps i part) → (tree : ProgramTree)
    (read : List ℕ) (known : Bool) → read ≡ part → known ≡ is_declared tree read →
    undeclared_part tree (drop i ps) ≡ (if not known then Some part else undeclared_part tree (drop (i + 1) ps))
undeclared_more ps i part here tree read known is test =
    at_drop_more (undeclared_part tree) ps i part here.0
    ∙ ap (λ p. if not (is_declared tree p) then Some p else undeclared_part tree (drop (i + 1) ps)) (sym here.1)
    ∙ ap (λ t. if not t then Some part else undeclared_part tree (drop (i + 1) ps)) (sym (test ∙ ap (is_declared tree) is))
