-- Work bounds communication: the accesses of a run that doesn't fault take no more words than its reads and writes.
use Rattle.std.proofs.Common.{◌≡◌, ℕ, ◌+◌, ◌*◌, ◌≤◌, List, [], ◌∷◌, ◌++◌, ◌∙◌, Option, Some, None, sym, ap, subst, arith, ℤ}
use Rattle.std.specs.List.{AllByRecursion, flat_map}
use Rattle.std.proofs.lemmas.List.Sums.{sum_by-cons}
use Rattle.pram_model.specs.declared.rule.Rule.{Rule}
use Rattle.write_rules.specs.declared.fault.Fault.{Fault}
use Rattle.write_rules.specs.Verdict.{Verdict, Faulted}
use Rattle.pram_check.specs.Checked.{Checked}
use Rattle.pram_meaning.specs.Bounded.{Done, Goes, Stops, Reaches}
use Rattle.pram_meaning.specs.Computed.{body_done, verdict_at}
use Rattle.pram_meaning.specs.Moments.{Moment, Alone, Together, Closed, run_moments}
use Rattle.pram_meaning.specs.Outcome.{opening}
use Rattle.pram_meaning.proofs.OneOutcome.{outcome_is_computed}
use Rattle.exchange_bound.specs.Accesses.{words}
use Rattle.exchange_bound.specs.Events.{Event}
use Rattle.costs.specs.declared.time_step.TimeStep.{TimeStep}
use Rattle.costs.specs.Communication.{inside, most_words, outside, steps_inside, steps_outside, words_at_most, write_words}
use Rattle.costs.specs.Communication.{AccessesAreCounted, InsideAndOutsideAreAll}
use Rattle.costs.specs.Cost.{reads, writes}
use Rattle.costs.specs.MomentEvents.{events_at}
use Rattle.costs.specs.Steps.{run_steps, steps_of, by_one, by_set}
use Rattle.costs.specs.Words.{AreWordsAsked, AreWordsOf}
use Rattle.costs.proofs.MomentEvents.{events_are_met}
use Rattle.costs.proofs.EvenMoments.{IsEven, of_moment}
use Rattle.costs.proofs.Counted.{Counts, list_counts}

words_join : (workers write : ℕ) (xs ys : List Event) → words workers write (xs ++ ys) ≡ words workers write xs + words workers write ys
words_join workers write [] ys = omega arith
words_join workers write (x ∷ xs) ys = let h = words_join workers write xs ys in omega (arith, h)

-- by moments
abbrev by_moments : (workers write : ℕ) → List Moment → ℕ
by_moments workers write ms =
    (2 * reads (flat_map steps_inside ms) + write * writes (flat_map steps_inside ms))
    + (2 * workers * reads (flat_map steps_outside ms) + write * writes (flat_map steps_outside ms))

one_more : (workers write : ℕ) (m : Moment) (ms : List Moment) →
    by_moments workers write (m ∷ ms) ≡ of_moment workers write m + by_moments workers write ms
one_more workers write (Alone here act before a after) ms =
    let rest = flat_map steps_outside ms in
    let s = by_one here.line a in
    let r = sum_by-cons (λ (x : TimeStep). x.reads) s rest in
    let w = sum_by-cons (λ (x : TimeStep). x.writes) s rest in
    let a1 : 2 * workers * reads (s ∷ rest) ≡ 2 * workers * (s.reads + reads rest) = ap (λ n. 2 * workers * n) r in
    let a2 : write * writes (s ∷ rest) ≡ write * (s.writes + writes rest) = ap (λ n. write * n) w in
    omega (arith, a1, a2)
one_more workers write (Together here act before xs k after) ms =
    let rest = flat_map steps_inside ms in
    let s = by_set here.line xs k in
    let r = sum_by-cons (λ (x : TimeStep). x.reads) s rest in
    let w = sum_by-cons (λ (x : TimeStep). x.writes) s rest in
    let a2 : write * writes (s ∷ rest) ≡ write * (s.writes + writes rest) = ap (λ n. write * n) w in
    omega (arith, r, a2)
one_more workers write Closed ms = omega arith

even_all : (workers write : ℕ) (ms : List Moment) → AllByRecursion (IsEven workers write) ms →
    words workers write (flat_map events_at ms) ≤ by_moments workers write ms
even_all workers write [] h = omega arith
even_all workers write (m ∷ ms) h =
    let a = words_join workers write (events_at m) (flat_map events_at ms) in
    let b = even_all workers write ms h.1 in
    let c = one_more workers write m ms in
    let d = h.0 in
    omega (arith, a, b, c, d)

unless_it_stops : (workers write : ℕ) (ms : List Moment) (d : Done) (v : Verdict) → v ≡ verdict_at d →
    ((fault : Fault) (output : List ℤ) → v ≡ Faulted fault output → ⊥) → Counts workers write ms d → AllByRecursion
    (IsEven workers write) ms
unless_it_stops workers write ms (Goes u m) v e h c = c
unless_it_stops workers write ms (Stops k out) v e h c = absurd (h k out e)
unless_it_stops workers write ms (Reaches out) v e h c = c

pub accesses_are_counted : AccessesAreCounted
accesses_are_counted p input n v o faultless workers write =
    let ms = run_moments p input n in
    let even = unless_it_stops workers write ms (body_done p input n) v ((outcome_is_computed p input n v).0 o) faultless
    (list_counts workers write p n p.body (opening p input)) in
    subst (λ es. words workers write es ≤ words_at_most p workers write input n) (sym (events_are_met p input n))
    (even_all workers write ms even)

both_all : (ms : List Moment) →
    (reads (flat_map steps_inside ms) + reads (flat_map steps_outside ms) ≡ reads (flat_map steps_of ms))
    × (writes (flat_map steps_inside ms) + writes (flat_map steps_outside ms) ≡ writes (flat_map steps_of ms))
both_all [] = (omega arith, omega arith)
both_all (Alone here act before a after ∷ ms) =
    let h = both_all ms in
    let i = h.0 in
    let j = h.1 in
    let s = by_one here.line a in
    let r1 = sum_by-cons (λ (x : TimeStep). x.reads) s (flat_map steps_outside ms) in
    let r2 = sum_by-cons (λ (x : TimeStep). x.reads) s (flat_map steps_of ms) in
    let w1 = sum_by-cons (λ (x : TimeStep). x.writes) s (flat_map steps_outside ms) in
    let w2 = sum_by-cons (λ (x : TimeStep). x.writes) s (flat_map steps_of ms) in
    (omega (arith, i, r1, r2), omega (arith, j, w1, w2))
both_all (Together here act before xs k after ∷ ms) =
    let h = both_all ms in
    let i = h.0 in
    let j = h.1 in
    let s = by_set here.line xs k in
    let r1 = sum_by-cons (λ (x : TimeStep). x.reads) s (flat_map steps_inside ms) in
    let r2 = sum_by-cons (λ (x : TimeStep). x.reads) s (flat_map steps_of ms) in
    let w1 = sum_by-cons (λ (x : TimeStep). x.writes) s (flat_map steps_inside ms) in
    let w2 = sum_by-cons (λ (x : TimeStep). x.writes) s (flat_map steps_of ms) in
    (omega (arith, i, r1, r2), omega (arith, j, w1, w2))
both_all (Closed ∷ ms) = both_all ms

pub inside_and_outside_are_all : InsideAndOutsideAreAll
inside_and_outside_are_all p input n = both_all (run_moments p input n)

-- ---- by all reads, those of them outside, and all writes

words_are : (p : Checked) (workers : ℕ) (input : List ℤ) (n : ℕ) (r u w words : ℕ) → r ≡ reads (run_steps p input n) →
    u ≡ reads (outside p input n) → w ≡ writes (run_steps p input n) → AreWordsOf p.rule workers r u w words →
    words ≡ words_at_most p workers (write_words p.rule) input n
words_are p workers input n r u w words er eu ew is =
    let k = write_words p.rule in
    let i = reads (inside p input n) in
    let both = inside_and_outside_are_all p input n in
    let all_reads = both.0 in
    let split : i + u ≡ r = omega (arith, all_reads, er, eu) in
    let h : words ≡ 2 * i + 2 * workers * u + k * w = is i split in
    let a : 2 * workers * u ≡ 2 * workers * reads (outside p input n) = ap (λ u. 2 * workers * u) eu in
    let b : k * w ≡ k * (writes (inside p input n) + writes (outside p input n)) = ap (λ w. k * w) (ew ∙ sym both.1) in
    omega (arith, h, a, b)

pub words_told : (p : Checked) (rule : Rule) (workers : Option ℕ) (input : List ℤ) (n : ℕ) (r u w : ℕ) (words : Option ℕ) → rule ≡ p.rule →
    r ≡ reads (run_steps p input n) → u ≡ reads (outside p input n) → w ≡ writes (run_steps p input n) →
    AreWordsAsked rule workers r u w words → words ≡ most_words p workers input n
words_told p rule None input n r u w words e er eu ew is = is
words_told p rule (Some workers) input n r u w (Some words) e er eu ew is =
    ap Some (words_are p workers input n r u w words er eu ew (subst (λ rule. AreWordsOf rule workers r u w words) e is))
words_told p rule (Some workers) input n r u w None e er eu ew is = absurd is
