-- A run's entries are its time steps, one by one: those of each moment are.
use Rattle.std.proofs.Common.{◌≡◌, ℕ, suc, ℤ, List, [], ◌∷◌, ◌++◌, Some, None, arith, length, map, refl, ap, ◌∙◌}
use Rattle.std.specs.List.{flat_map, sum_by}
use Rattle.std.proofs.lemmas.List.{map-append}
use Rattle.std.proofs.lemmas.List.Sums.{sum_by-cons}
use Rattle.pram_check.specs.Checked.{Checked}
use Rattle.pram_meaning.specs.Attempt as trying
use Rattle.pram_meaning.specs.Attempt.{Attempt, Effect, Fails, Trail}
use Rattle.pram_meaning.specs.Conflict.{Part, trail_of}
use Rattle.pram_meaning.specs.Moments.{Alone, Closed, Moment, Together, run_moments}
use Rattle.journal.specs.Entries.{Act}
use Rattle.journal.specs.Acts.{act_along, act_before, act_of, held, reads_in, write_of}
use Rattle.journal.specs.Costs.{EntriesAreTimeSteps, act_reads, act_writes, step_of}
use Rattle.journal.specs.RunEntries.{entries_of}
use Rattle.costs.specs.Steps as cost
use Rattle.costs.specs.Steps.{acting, attempt_writes, part_reads, part_writes, reads_on, writes_to}

-- ---- accesses

reads_many : (t : Trail) → length (reads_in t) ≡ reads_on t
reads_many [] = refl
reads_many (None ∷ t) = reads_many t
reads_many (Some c ∷ t) = let e = reads_many t in omega (arith, e)

one_sum : (f : Act → ℕ) (a : Act) → sum_by f (a ∷ []) ≡ f a
one_sum f a = let e = sum_by-cons f a [] in omega (arith, e)

many : {A B : Type 0} (f : A → B) (xs : List A) → length (map f xs) ≡ length xs
many f [] = refl
many f (x ∷ xs) = ap suc (many f xs)

written : (a : Attempt Effect) → writes_to (write_of a) ≡ attempt_writes a
written (trying.Gives t g) = refl
written (Fails t k) = refl

all_reads : (cells : List ℤ) (xs : List Part) → sum_by act_reads (map (act_of cells) xs) ≡ sum_by part_reads xs
all_reads cells [] = refl
all_reads cells (x ∷ xs) =
    let e = sum_by-cons act_reads (act_of cells x) (map (act_of cells) xs) in let f = sum_by-cons part_reads x xs in
    let g = reads_many (trail_of x.attempt) in let h = all_reads cells xs in omega (arith, e, f, g, h)

all_writes : (cells : List ℤ) (xs : List Part) → sum_by act_writes (map (act_of cells) xs) ≡ sum_by part_writes xs
all_writes cells [] = refl
all_writes cells (x ∷ xs) =
    let e = sum_by-cons act_writes (act_of cells x) (map (act_of cells) xs) in let f = sum_by-cons part_writes x xs in
    let g = written x.attempt in let h = all_writes cells xs in omega (arith, e, f, g, h)

-- ---- a moment

moment_steps : (p : Checked) (x : Moment) → map step_of (entries_of p x) ≡ cost.steps_of x
moment_steps p (Alone here act before (trying.Gives t c) behind) = ap (λ s. s ∷ []) (λ i. record {
  line = here.line;
  processors = 1;
  reads = (one_sum act_reads (act_along None before.cells t c (held behind.cells c)) ∙ reads_many t) i;
  writes = one_sum act_writes (act_along None before.cells t c (held behind.cells c)) i;
})
moment_steps p (Alone here act before (Fails t k) behind) = refl
moment_steps p (Together here act before xs None behind) = ap (λ s. s ∷ []) (λ i. record {
  line = here.line;
  processors = many (act_of before.cells) xs i;
  reads = all_reads before.cells xs i;
  writes = all_writes before.cells xs i;
})
moment_steps p (Together here act before xs (Some k) behind) = ap (λ n. acting here.line n ∷ []) (many (act_before before.cells k.at) xs)
moment_steps p Closed = refl

all_steps : (p : Checked) (ms : List Moment) → map step_of (flat_map (entries_of p) ms) ≡ flat_map cost.steps_of ms
all_steps p [] = refl
all_steps p (x ∷ ms) =
    map-append step_of (entries_of p x) (flat_map (entries_of p) ms)
    ∙ ap (λ ss. ss ++ map step_of (flat_map (entries_of p) ms)) (moment_steps p x)
    ∙ ap (λ ss. cost.steps_of x ++ ss) (all_steps p ms)

pub entries_are_time_steps : EntriesAreTimeSteps
entries_are_time_steps p input n = all_steps p (run_moments p input n)
