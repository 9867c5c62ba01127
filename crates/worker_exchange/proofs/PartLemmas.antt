-- Parts of words, message by message.
use Rattle.std.proofs.Common.{◌≡◌, ℕ, ◌+◌, ◌<◌, List, [], length, set, sym, ap, ◌∙◌, arith, ⊎_elim, Bor}
use Rattle.std.proofs.lemmas.Bool.{cases_eq}
use Rattle.combining.proofs.AllColumns.{changed_here, changed_elsewhere}
use Rattle.std.proofs.Common.{Vec}
use Rattle.std.specs.Global.{Global}
use Rattle.combining.specs.AllModules.{column}
use Rattle.worker_exchange.specs.Sends.{words_of}
use Rattle.worker_exchange.specs.Parts.{part_at}

pub one_part : (parts : List (Bor (List ℕ))) (i : ℕ) (x : Bor (List ℕ)) (part : ℕ → List ℕ) → i < length parts → x.now ≡ part i →
    ((j : ℕ) → j < i → part_at parts j ≡ part j) → (j : ℕ) → j < i + 1 → part_at (set parts i x) j ≡ part j
one_part parts i x part l is h j k =
    ⊎_elim
    (λ (same : i ≡ j). ap (part_at (set parts i x)) (sym same)
    ∙ changed_here (λ (y : Bor (List ℕ)). y.now) parts i x [] l ∙ is ∙ ap part same)
    (λ (apart : i ≡ j → ⊥). changed_elsewhere (λ (y : Bor (List ℕ)). y.now) parts i j x [] apart ∙ h j (omega (arith, k, apart)))
    (cases_eq i j)

-- the words of one message more are kept
pub one_kept : (columns : List (Vec ℕ Global)) (j : ℕ) (w : Vec ℕ Global) (part : ℕ → List ℕ) → j < length columns → w.items ≡ part j →
    ((i : ℕ) → i < j → column (words_of columns) i ≡ part i) → (i : ℕ) → i < j + 1 → column (words_of (set columns j w)) i ≡ part i
one_kept columns j w part l is h i k =
    ⊎_elim
    (λ (same : j ≡ i). ap (column (words_of (set columns j w))) (sym same)
    ∙ changed_here (λ (v : Vec ℕ Global). v.items) columns j w [] l ∙ is ∙ ap part same)
    (λ (apart : j ≡ i → ⊥). changed_elsewhere (λ (v : Vec ℕ Global). v.items) columns j i w [] apart ∙ h i (omega (arith, k, apart)))
    (cases_eq j i)
