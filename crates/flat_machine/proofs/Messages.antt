-- What a message asks of a cell is what its sender asks of it.
use Rattle.std.proofs.Common.{◌≡◌, ℕ, zero, suc, ◌+◌, ◌<◌, List, [], ◌∷◌, ◌++◌, map, length, Bool, true, false, cond, Option, Some, None}
use Rattle.std.proofs.Common.{eqb, refl, sym, ap, ◌∙◌, arith}
use Rattle.std.specs.Prelude.{if◌then◌else◌, ◌&&◌, ◌||◌, slice_get}
use Rattle.std.specs.List.{filter, cons_option, list_any}
use Rattle.std.proofs.lemmas.Bool.Decides.{nat_tests}
use Rattle.std.proofs.lemmas.List.Elements.{filter-append}
use Rattle.pram_values.specs.Total.{total}
use Rattle.pram_values.proofs.Totals.{neutral_right, total_joined}
use Rattle.superstep_machine.specs.Parts.{Read, PrivatePart}
use Rattle.superstep_machine.specs.Words.{CellAsk}
use Rattle.superstep_machine.specs.Worker.{Worker}
use Rattle.superstep_machine.specs.Sending.{firsts, cell_at, present, cells_asked, several, asks_for, is_several, asked_twice, asks_from}
use Rattle.superstep_machine.specs.Sending.{asked_in}
use Rattle.superstep_machine.proofs.Numbers.{same_number, with_itself}
use Rattle.superstep_machine.proofs.Collected.{askers_are_monoid}
use Rattle.superstep_machine.proofs.CellPuts.{has, has_firsts, sum_firsts, same_either}
use Rattle.flat_machine.proofs.Relation.{wants}
use Rattle.pram_model.proofs.Truths.{unsome, or_second}

pub any_joined : {A : Type 0} (test : A → Bool) (xs ys : List A) → list_any test (xs ++ ys) ≡ (list_any test xs || list_any test ys)
any_joined test [] ys = refl
any_joined test (x ∷ xs) ys = go (test x) (any_joined test xs ys)
  where
    go : (b : Bool) → list_any test (xs ++ ys) ≡ (list_any test xs || list_any test ys) →
        (b || list_any test (xs ++ ys)) ≡ ((b || list_any test xs) || list_any test ys)
    go true rest = refl
    go false rest = rest

-- ---- what is asked

abbrev is_there : Option Bool → Bool
is_there None = false
is_there (Some b) = true

listed_askers : (k c : ℕ) (own : List PrivatePart) →
    has c (present (map (λ (x : PrivatePart). cell_at k x.asks) own)) ≡ is_there
    (total None several (λ (x : PrivatePart). asks_for c (cell_at k x.asks)) own)
listed_askers k c [] = refl
listed_askers k c (x ∷ own) = go (listed_askers k c own) (cell_at k x.asks)
  where
    one : (a : Bool) (o : Option Bool) → (a || is_there o) ≡ is_there (several (if a then Some false else None) o)
    one true None = refl
    one true (Some b) = refl
    one false o = refl

    go : has c (present (map (λ (y : PrivatePart). cell_at k y.asks) own))
        ≡ is_there (total None several (λ (y : PrivatePart). asks_for c (cell_at k y.asks)) own) → (o : Option ℕ) →
        has c (cons_option o (present (map (λ (y : PrivatePart). cell_at k y.asks) own)))
        ≡ is_there (several (asks_for c o) (total None several (λ (y : PrivatePart). asks_for c (cell_at k y.asks)) own))
    go same None = same
    go same (Some d) = ap (λ z. eqb d c || z) same
        ∙ one (eqb d c) (total None several (λ (y : PrivatePart). asks_for c (cell_at k y.asks)) own)

-- the asks of a read whose cells pass a test
abbrev asks_passing : (ℕ → Bool) → ℕ → (ℕ → Bool) → List ℕ → List CellAsk
asks_passing test n twice ds = filter (λ (x : CellAsk). test x.cell) (map (λ d. record { read = n; cell = d; twice = twice d }) ds)

both_tests : (twice r a : Bool) → (if r && a then Some twice else None) ≡ cond a (cond r (Some twice) None) None
both_tests twice true true = refl
both_tests twice true false = refl
both_tests twice false true = refl
both_tests twice false false = refl

-- where c passes, they come to what stands at c
asks_sum : (n k c : ℕ) (twice : ℕ → Bool) (test : ℕ → Bool) → test c ≡ true → (ds : List ℕ) →
    total None several (asked_in k c) (asks_passing test n twice ds) ≡ total None several
    (λ d. cond (eqb d c) (cond (eqb n k) (Some (twice d)) None) None) ds
asks_sum n k c twice test h [] = refl
asks_sum n k c twice test h (d ∷ ds) = go (test d) refl (eqb d c) refl
    ∙ ap (several (cond (eqb d c) (cond (eqb n k) (Some (twice d)) None) None)) (asks_sum n k c twice test h ds)
  where
    go : (b : Bool) → test d ≡ b → (a : Bool) → eqb d c ≡ a →
        total None several (asked_in k c)
        (cond b (record { read = n; cell = d; twice = twice d } ∷ asks_passing test n twice ds) (asks_passing test n twice ds))
        ≡ several (cond (eqb d c) (cond (eqb n k) (Some (twice d)) None) None)
        (total None several (asked_in k c) (asks_passing test n twice ds))
    go true e a is = ap (λ o. several o (total None several (asked_in k c) (asks_passing test n twice ds)))
        (both_tests (twice d) (eqb n k) (eqb d c))
    go false e true is = let no : true ≡ false = sym h ∙ ap test (sym (same_number d c is)) ∙ e in absurd (cc)
    go false e false is =
        ap (λ a. several (cond a (cond (eqb n k) (Some (twice d)) None) None)
        (total None several (asked_in k c) (asks_passing test n twice ds))) (sym is)

-- what the asks of one read come to, of whichever number
block : (s : Worker) (n k c : ℕ) (read : Read) (test : ℕ → Bool) → test c ≡ true →
    total None several (asked_in k c) (asks_passing test n (asked_twice s n) (cells_asked s read n))
    ≡ cond (has c (present (read.cell ∷ map (λ (x : PrivatePart). cell_at n x.asks) s.own)))
    (cond (eqb n k) (Some (asked_twice s n c)) None) None
block s n k c read test h =
    let cells = present (read.cell ∷ map (λ (x : PrivatePart). cell_at n x.asks) s.own) in
    asks_sum n k c (asked_twice s n) test h (firsts cells)
    ∙ sum_firsts several askers_are_monoid (λ d. cond (eqb n k) (Some (asked_twice s n d)) None) c cells

-- the askers among the worker's processors
abbrev pub askers_of : Worker → ℕ → ℕ → Option Bool
askers_of s k c = total None several (λ (x : PrivatePart). asks_for c (cell_at k x.asks)) s.own

-- a read without a cell of its own is asked for by the processors alone
block_here : (s : Worker) (k c : ℕ) (read : Read) → read.cell ≡ None →
    cond (has c (present (read.cell ∷ map (λ (x : PrivatePart). cell_at k x.asks) s.own))) (cond (eqb k k) (Some (asked_twice s k c)) None)
    None
    ≡ askers_of s k c
block_here s k c read own =
    let cells = map (λ (x : PrivatePart). cell_at k x.asks) s.own in
    ap (λ (o : Option ℕ). cond (has c (present (o ∷ cells))) (cond (eqb k k) (Some (asked_twice s k c)) None) None) own
    ∙ ap (λ b. cond (has c (present cells)) (cond b (Some (asked_twice s k c)) None) None) (with_itself k)
    ∙ ap (λ b. cond b (Some (asked_twice s k c)) None) (listed_askers k c s.own)
    ∙ go (askers_of s k c)
  where
    go : (o : Option Bool) → cond (is_there o) (Some (is_several o)) None ≡ o
    go None = refl
    go (Some b) = refl

block_elsewhere : (s : Worker) (n k c : ℕ) (read : Read) → eqb n k ≡ false →
    cond (has c (present (read.cell ∷ map (λ (x : PrivatePart). cell_at n x.asks) s.own))) (cond (eqb n k) (Some (asked_twice s n c)) None)
    None ≡ None
block_elsewhere s n k c read apart =
    let b = has c (present (read.cell ∷ map (λ (x : PrivatePart). cell_at n x.asks) s.own)) in
    ap (λ a. cond b (cond a (Some (asked_twice s n c)) None) None) apart ∙ sym (same_either b None)

-- one read's asks, and those of the reads behind it
parted : (s : Worker) (n k c : ℕ) (read : Read) (rest : List Read) (test : ℕ → Bool) → test c ≡ true →
    total None several (asked_in k c) (filter (λ (x : CellAsk). test x.cell) (asks_from s n (read ∷ rest)))
    ≡ several (cond (has c (present (read.cell ∷ map (λ (x : PrivatePart). cell_at n x.asks) s.own)))
    (cond (eqb n k) (Some (asked_twice s n c)) None) None)
    (total None several (asked_in k c) (filter (λ (x : CellAsk). test x.cell) (asks_from s (n + 1) rest)))
parted s n k c read rest test h =
    let test_of = λ (x : CellAsk). test x.cell in
    let first = map (λ d. record { read = n; cell = d; twice = asked_twice s n d }) (cells_asked s read n) in
    let others = asks_from s (n + 1) rest in
    ap (total None several (asked_in k c)) (filter-append test_of first others)
    ∙ total_joined None several askers_are_monoid (asked_in k c) (filter test_of first) (filter test_of others)
    ∙ ap (λ o. several o (total None several (asked_in k c) (filter test_of others))) (block s n k c read test h)

asks_before : (s : Worker) (reads : List Read) (n k c : ℕ) (test : ℕ → Bool) → test c ≡ true → k < n →
    total None several (asked_in k c) (filter (λ (x : CellAsk). test x.cell) (asks_from s n reads)) ≡ None
asks_before s [] n k c test h before = refl
asks_before s (read ∷ rest) n k c test h before =
    let apart : eqb n k ≡ false = grind (arith, nat_tests, before) in
    parted s n k c read rest test h
    ∙ ap (λ o. several o (total None several (asked_in k c) (filter (λ (x : CellAsk). test x.cell) (asks_from s (n + 1) rest))))
    (block_elsewhere s n k c read apart)
    ∙ asks_before s rest (n + 1) k c test h (omega (arith, before))

-- one message, at a cell of its module: by a read without a cell of its own
pub asks_message : (s : Worker) (reads : List Read) (n i c : ℕ) (read : Read) (test : ℕ → Bool) → test c ≡ true →
    slice_get reads i ≡ Some read →
    read.cell ≡ None →
    total None several (asked_in (n + i) c) (filter (λ (x : CellAsk). test x.cell) (asks_from s n reads)) ≡ askers_of s (n + i) c
asks_message s [] n i c read test h is own = absurd (cc)
asks_message s (first ∷ rest) n zero c read test h is own =
    let own_first : first.cell ≡ None = ap (λ (r : Read). r.cell) (unsome first read is) ∙ own in
    let here : n + 0 ≡ n = omega arith in
    let others = total None several (asked_in n c) (filter (λ (x : CellAsk). test x.cell) (asks_from s (n + 1) rest)) in
    ap (λ k. total None several (asked_in k c) (filter (λ (x : CellAsk). test x.cell) (asks_from s n (first ∷ rest)))) here
    ∙ parted s n n c first rest test h
    ∙ ap (λ o. several o others) (block_here s n c first own_first)
    ∙ ap (several (askers_of s n c)) (asks_before s rest (n + 1) n c test h (omega arith))
    ∙ neutral_right None several askers_are_monoid (askers_of s n c)
    ∙ ap (λ k. askers_of s k c) (sym here)
asks_message s (first ∷ rest) n (suc i) c read test h is own =
    let apart : eqb n (n + suc i) ≡ false = grind (arith, nat_tests) in
    let on : n + suc i ≡ n + 1 + i = omega arith in
    let others = λ (k : ℕ). total None several (asked_in k c) (filter (λ (x : CellAsk). test x.cell) (asks_from s (n + 1) rest)) in
    parted s n (n + suc i) c first rest test h
    ∙ ap (λ o. several o (others (n + suc i))) (block_elsewhere s n (n + suc i) c first apart)
    ∙ ap others on
    ∙ asks_message s rest (n + 1) i c read test h is own
    ∙ ap (λ k. askers_of s k c) (sym on)

-- ---- what is wanted

wants_block : (n c : ℕ) (twice : ℕ → Bool) (ds : List ℕ) →
    wants n c (map (λ d. record { read = n; cell = d; twice = twice d }) ds) ≡ has c ds
wants_block n c twice [] = refl
wants_block n c twice (d ∷ ds) =
    ap (λ b. (b && eqb d c) || wants n c (map (λ d. record { read = n; cell = d; twice = twice d }) ds)) (with_itself n)
    ∙ ap (λ b. eqb d c || b) (wants_block n c twice ds)

-- a cell that a read asks for is among the asks
pub wants_asked : (s : Worker) (reads : List Read) (n i c : ℕ) → i < length reads →
    ((read : Read) → slice_get reads i ≡ Some read →
    has c (present (read.cell ∷ map (λ (x : PrivatePart). cell_at (n + i) x.asks) s.own)) ≡ true) →
    wants (n + i) c (asks_from s n reads) ≡ true
wants_asked s [] n i c few h = absurd (omega (arith, few))
wants_asked s (read ∷ rest) n zero c few h =
    let here : n + 0 ≡ n = omega arith in
    let first = map (λ d. record { read = n; cell = d; twice = asked_twice s n d }) (cells_asked s read n) in
    let listed : has c (present (read.cell ∷ map (λ (x : PrivatePart). cell_at n x.asks) s.own)) ≡ true =
    ap (λ k. has c (present (read.cell ∷ map (λ (x : PrivatePart). cell_at k x.asks) s.own))) (sym here) ∙ h read refl in
    ap (λ k. wants k c (asks_from s n (read ∷ rest))) here
    ∙ any_joined (λ (x : CellAsk). eqb x.read n && eqb x.cell c) first (asks_from s (n + 1) rest)
    ∙ ap (λ b. b || wants n c (asks_from s (n + 1) rest))
    (wants_block n c (asked_twice s n) (cells_asked s read n) ∙ has_firsts c
    (present (read.cell ∷ map (λ (x : PrivatePart). cell_at n x.asks) s.own)) ∙ listed)
wants_asked s (read ∷ rest) n (suc i) c few h =
    let on : n + suc i ≡ n + 1 + i = omega arith in
    let first = map (λ d. record { read = n; cell = d; twice = asked_twice s n d }) (cells_asked s read n) in
    ap (λ k. wants k c (asks_from s n (read ∷ rest))) on
    ∙ any_joined (λ (x : CellAsk). eqb x.read (n + 1 + i) && eqb x.cell c) first (asks_from s (n + 1) rest)
    ∙ or_second (wants (n + 1 + i) c first) (wants (n + 1 + i) c (asks_from s (n + 1) rest))
    (wants_asked s rest (n + 1) i c (omega (arith, few))
    (λ r is. ap (λ k. has c (present (r.cell ∷ map (λ (x : PrivatePart). cell_at k x.asks) s.own))) (sym on) ∙ h r is))
