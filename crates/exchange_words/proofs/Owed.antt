-- How many words a worker owes: those of what it holds, and the answers to what it asked for.
use Rattle.std.proofs.Common.{◌≡◌, ℕ, zero, suc, ◌+◌, ◌*◌, ◌≤◌, List, [], ◌∷◌, map, length, Bool, true, false, Option, Some, None}
use Rattle.std.proofs.Common.{refl, ap, ◌∙◌, subst, arith, not, eqb}
use Rattle.std.specs.Prelude.{if◌then◌else◌}
use Rattle.std.specs.List.{filter, filter_map, cons_option}
use Rattle.std.proofs.lemmas.List.{length-append, length-map}
use Rattle.pram_model.specs.declared.rule.Rule.{Rule}
use Rattle.pram_values.proofs.Totals.{total_same, total_map}
use Rattle.superstep_machine.specs.Parts.{Read, PrivatePart}
use Rattle.superstep_machine.specs.Words.{CellAsk}
use Rattle.superstep_machine.specs.Worker.{Worker, HeldWrite}
use Rattle.superstep_machine.specs.Sending.{firsts, cell_at, present, cells_asked, asked_twice, asks_from, asks_held, put_of, entry_held}
use Rattle.superstep_machine.specs.Sending.{puts_held}
use Rattle.exchange_words.specs.Accesses.{of_write}
use Rattle.exchange_words.proofs.Sums.{added, added_both}

abbrev pub one_cell : Option ℕ → ℕ
one_cell None = 0
one_cell (Some c) = 1

-- how many cells are asked for
abbrev pub of_reads : List Read → ℕ
of_reads reads = added (λ (r : Read). one_cell r.cell) reads

abbrev pub of_cells : List (Option ℕ) → ℕ
of_cells cells = added one_cell cells

abbrev pub of_own : List PrivatePart → ℕ
of_own own = added (λ (x : PrivatePart). of_cells x.asks) own

abbrev pub owed : Rule → Worker → ℕ
owed rule s = of_write rule * length s.held + 2 * (of_reads s.uniform.asks + of_own s.own) + length s.wanted

-- ---- fewer

filter_few : {A : Type 0} (test : A → Bool) (xs : List A) → length (filter test xs) ≤ length xs
filter_few test [] = let e : 0 ≤ 0 = omega arith in e
filter_few test (x ∷ xs) = go (test x) (filter_few test xs)
  where
    go : (b : Bool) → length (filter test xs) ≤ length xs → length (if b then x ∷ filter test xs else filter test xs) ≤ suc (length xs)
    go true h = omega (arith, h)
    go false h = omega (arith, h)

pub filter_map_few : {A B : Type 0} (f : A → Option B) (xs : List A) → length (filter_map f xs) ≤ length xs
filter_map_few f [] = let e : 0 ≤ 0 = omega arith in e
filter_map_few f (x ∷ xs) = go (f x) (filter_map_few f xs)
  where
    go : (o : Option _) → length (filter_map f xs) ≤ length xs → length (cons_option o (filter_map f xs)) ≤ suc (length xs)
    go None h = omega (arith, h)
    go (Some y) h = omega (arith, h)

firsts_few : (xs : List ℕ) → length (firsts xs) ≤ length xs
firsts_few [] = let e : 0 ≤ 0 = omega arith in e
firsts_few (x ∷ xs) = let h = firsts_few xs in let k = filter_few (λ y. not (eqb x y)) (firsts xs) in omega (arith, h, k)

pub puts_few : (rule : Rule) (s : Worker) → length (puts_held rule s) ≤ length s.held
puts_few rule s =
    let cells = map (λ (x : HeldWrite). x.cell) s.held in
    let a = filter_map_few (λ c. put_of c (entry_held rule s c)) (firsts cells) in
    let b = firsts_few cells in
    let c = length-map s.held (λ (x : HeldWrite). x.cell) in
    omega (arith, a, b, c)

-- ---- asks

present_counted : (cells : List (Option ℕ)) → length (present cells) ≡ of_cells cells
present_counted [] = refl
present_counted (c ∷ cells) = go c (present_counted cells)
  where
    go : (o : Option ℕ) → length (present cells) ≡ of_cells cells → length (cons_option o (present cells)) ≡ one_cell o + of_cells cells
    go None h = omega (arith, h)
    go (Some d) h = omega (arith, h)

-- from number k on
abbrev behind : ℕ → List (Option ℕ) → ℕ
behind k [] = 0
behind zero (c ∷ cells) = one_cell c + behind zero cells
behind (suc k) (c ∷ cells) = behind k cells

behind_none : (cells : List (Option ℕ)) → behind 0 cells ≡ of_cells cells
behind_none [] = refl
behind_none (c ∷ cells) = ap (λ n. one_cell c + n) (behind_none cells)

behind_one : (k : ℕ) (cells : List (Option ℕ)) → behind k cells ≡ one_cell (cell_at k cells) + behind (suc k) cells
behind_one k [] = refl
behind_one zero (c ∷ cells) = refl
behind_one (suc k) (c ∷ cells) = behind_one k cells

asked_from : (s : Worker) (reads : List Read) (k : ℕ) →
    length (asks_from s k reads) ≤ of_reads reads + added (λ (x : PrivatePart). behind k x.asks) s.own
asked_from s [] k = omega arith
asked_from s (read ∷ rest) k =
    let asks = cells_asked s read k in
    let ask : ℕ → CellAsk = λ c. record { read = k; cell = c; twice = asked_twice s k c } in
    let first : length asks ≤ one_cell read.cell + added (λ (x : PrivatePart). one_cell (cell_at k x.asks)) s.own =
    let cells = map (λ (x : PrivatePart). cell_at k x.asks) s.own in
    let a = firsts_few (present (read.cell ∷ cells)) in
    let b = present_counted (read.cell ∷ cells) in
    let c : of_cells cells ≡ added (λ (x : PrivatePart). one_cell (cell_at k x.asks)) s.own =
    total_map 0 (λ a b. a + b) one_cell (λ (x : PrivatePart). cell_at k x.asks) s.own in
    omega (arith, a, b, c) in
    let after : length (asks_from s (k + 1) rest) ≤ of_reads rest + added (λ (x : PrivatePart). behind (suc k) x.asks) s.own =
    subst (λ n. length (asks_from s (k + 1) rest) ≤ of_reads rest + added (λ (x : PrivatePart). behind n x.asks) s.own)
    (let e : k + 1 ≡ suc k = omega arith in e) (asked_from s rest (k + 1)) in
    let split : added (λ (x : PrivatePart). behind k x.asks) s.own
    ≡ added (λ (x : PrivatePart). one_cell (cell_at k x.asks)) s.own + added (λ (x : PrivatePart). behind (suc k) x.asks) s.own =
    total_same 0 (λ a b. a + b) (λ (x : PrivatePart). behind k x.asks)
    (λ (x : PrivatePart). one_cell (cell_at k x.asks) + behind (suc k) x.asks) (λ x. behind_one k x.asks) s.own
    ∙ added_both (λ (x : PrivatePart). one_cell (cell_at k x.asks)) (λ (x : PrivatePart). behind (suc k) x.asks) s.own in
    let both = length-append (map ask asks) (asks_from s (k + 1) rest) in
    let same = length-map asks ask in
    omega (arith, first, after, split, both, same)

pub asks_few : (s : Worker) → length (asks_held s) ≤ of_reads s.uniform.asks + of_own s.own
asks_few s =
    let a = asked_from s s.uniform.asks 0 in
    let b : added (λ (x : PrivatePart). behind 0 x.asks) s.own ≡ of_own s.own =
    total_same 0 (λ a b. a + b) (λ (x : PrivatePart). behind 0 x.asks) (λ (x : PrivatePart). of_cells x.asks)
    (λ x. behind_none x.asks) s.own in
    omega (arith, a, b)
