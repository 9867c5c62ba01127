-- What is counted step by step is the sums over all steps.
use Rattle.std.proofs.Common.{◌≡◌, ℕ, ◌+◌, max, List, [], ◌∷◌, ap, arith}
use Rattle.std.proofs.lemmas.List.Sums.{sum_by-cons}
use Rattle.costs.specs.declared.time_step.TimeStep.{TimeStep}
use Rattle.costs.specs.Cost.{most_processors, reads, rounds, rounds_for, time, work, writes}
use Rattle.costs.specs.Totals.{Totals, added, added_all, nothing}

time_from : (q : ℕ) (ss : List TimeStep) (t : Totals) → (added_all q ss t).time ≡ t.time + time ss
time_from q [] t = omega arith
time_from q (s ∷ ss) t = let a = time_from q ss (added q s t) in omega (arith, a)

work_from : (q : ℕ) (ss : List TimeStep) (t : Totals) → (added_all q ss t).work ≡ t.work + work ss
work_from q [] t = omega arith
work_from q (s ∷ ss) t =
    let a = work_from q ss (added q s t) in
    let b : work (s ∷ ss) ≡ s.processors + work ss = sum_by-cons (λ s. s.processors) s ss in
    omega (arith, a, b)

width_from : (q : ℕ) (ss : List TimeStep) (t : Totals) → (added_all q ss t).width ≡ max t.width (most_processors ss)
width_from q [] t = omega arith
width_from q (s ∷ ss) t = let a = width_from q ss (added q s t) in omega (arith, a)

reads_from : (q : ℕ) (ss : List TimeStep) (t : Totals) → (added_all q ss t).reads ≡ t.reads + reads ss
reads_from q [] t = omega arith
reads_from q (s ∷ ss) t =
    let a = reads_from q ss (added q s t) in
    let b : reads (s ∷ ss) ≡ s.reads + reads ss = sum_by-cons (λ s. s.reads) s ss in
    omega (arith, a, b)

writes_from : (q : ℕ) (ss : List TimeStep) (t : Totals) → (added_all q ss t).writes ≡ t.writes + writes ss
writes_from q [] t = omega arith
writes_from q (s ∷ ss) t =
    let a = writes_from q ss (added q s t) in
    let b : writes (s ∷ ss) ≡ s.writes + writes ss = sum_by-cons (λ s. s.writes) s ss in
    omega (arith, a, b)

rounds_from : (q : ℕ) (ss : List TimeStep) (t : Totals) → (added_all q ss t).rounds ≡ t.rounds + rounds q ss
rounds_from q [] t = omega arith
rounds_from q (s ∷ ss) t =
    let a = rounds_from q ss (added q s t) in
    let b : rounds q (s ∷ ss) ≡ rounds_for q s.processors + rounds q ss = sum_by-cons (λ s. rounds_for q s.processors) s ss in
    omega (arith, a, b)

pub time_is : (q : ℕ) (ss : List TimeStep) (t : Totals) → t ≡ added_all q ss nothing → t.time ≡ time ss
time_is q ss t is =
    let a : t.time ≡ (added_all q ss nothing).time = ap (λ (t : Totals). t.time) is in
    let b = time_from q ss nothing in
    omega (arith, a, b)

pub work_is : (q : ℕ) (ss : List TimeStep) (t : Totals) → t ≡ added_all q ss nothing → t.work ≡ work ss
work_is q ss t is =
    let a : t.work ≡ (added_all q ss nothing).work = ap (λ (t : Totals). t.work) is in
    let b = work_from q ss nothing in
    omega (arith, a, b)

pub width_is : (q : ℕ) (ss : List TimeStep) (t : Totals) → t ≡ added_all q ss nothing → t.width ≡ most_processors ss
width_is q ss t is =
    let a : t.width ≡ (added_all q ss nothing).width = ap (λ (t : Totals). t.width) is in
    let b = width_from q ss nothing in
    omega (arith, a, b)

pub reads_are : (q : ℕ) (ss : List TimeStep) (t : Totals) → t ≡ added_all q ss nothing → t.reads ≡ reads ss
reads_are q ss t is =
    let a : t.reads ≡ (added_all q ss nothing).reads = ap (λ (t : Totals). t.reads) is in
    let b = reads_from q ss nothing in
    omega (arith, a, b)

pub writes_are : (q : ℕ) (ss : List TimeStep) (t : Totals) → t ≡ added_all q ss nothing → t.writes ≡ writes ss
writes_are q ss t is =
    let a : t.writes ≡ (added_all q ss nothing).writes = ap (λ (t : Totals). t.writes) is in
    let b = writes_from q ss nothing in
    omega (arith, a, b)

pub rounds_are : (q : ℕ) (ss : List TimeStep) (t : Totals) → t ≡ added_all q ss nothing → t.rounds ≡ rounds q ss
rounds_are q ss t is =
    let a : t.rounds ≡ (added_all q ss nothing).rounds = ap (λ (t : Totals). t.rounds) is in
    let b = rounds_from q ss nothing in
    omega (arith, a, b)
