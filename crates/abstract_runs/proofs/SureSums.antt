-- Sums of what is written to a cell that never have 64 bits.
use Rattle.std.proofs.Common.{◌≡◌, inl, inr, ℕ, ◌+◌, ◌<◌, ◌≤◌, List, [], ◌∷◌, ◌++◌, length, sym, subst, ap, ◌∙◌, take, get_or}
use Rattle.std.proofs.Common.{false, if◌then◌else◌, Option, Some, None, Ok, Err, ℤ, pos, ◌+ℤ◌, ◌≤ℤ◌, arith}
use Rattle.std.specs.List.{Contains, flat_map}
use Rattle.std.proofs.lemmas.Int.{ints}
use Rattle.pram_model.specs.declared.rule.Rule.TheVariants.{Sum}
use Rattle.pram_values.specs.declared.kind.Kind.TheVariants.{Overflow}
use Rattle.pram_values.specs.Value.{checked, fits}
use Rattle.write_rules.specs.declared.write.Write.{Write}
use Rattle.write_rules.specs.Rule.{sum_of, written}
use Rattle.intervals.specs.declared.interval.Interval.{Interval}
use Rattle.intervals.specs.Intervals.{IsIn}
use Rattle.pram_meaning.specs.Conflict.{Part, fault_of, keys, least, read_conflicts, reads_of, write_conflict, writes_by, writes_to}
use Rattle.abstract_runs.specs.declared.findings.Findings.{Findings}
use Rattle.abstract_runs.specs.declared.effect.Effect.{Effect}
use Rattle.abstract_runs.specs.declared.reach.Reach.{Reach}
use Rattle.abstract_runs.specs.declared.row.Row.{Row}
use Rattle.abstract_runs.specs.Columns.{reach_in, value_in, where_reached}
use Rattle.abstract_runs.specs.Given.{AreGiven}
use Rattle.abstract_runs.specs.Rows.{ArePartsBy}
use Rattle.abstract_runs.specs.Sure.{AddsIn, NeverFits, WritesSurely}
use Rattle.abstract_runs.proofs.Among.{none_there}
use Rattle.abstract_runs.proofs.CellSums.{sum_both, zero_behind}
use Rattle.abstract_runs.proofs.CellWrites.{writes_last}
use Rattle.abstract_runs.proofs.Faultless.{all_given, no_keys, none_last}
use Rattle.abstract_runs.proofs.PartLists.{given_first, given_last, parts_all, parts_more, parts_none}
use Rattle.abstract_runs.proofs.SharedWrites.{IsWriteOf, WritesOne, writes_one}
use Rattle.abstract_runs.proofs.SureFaults.{one_holds, part_writes, settled_or_none}

-- ---- what a row adds

sum_one : (P : ℤ → Type 0) (c : ℕ) (e : Option Effect) (ws : List Write) → P (pos 0) → ((w : Write) → IsWriteOf c e w → P w.value) →
    WritesOne c e ws → P (sum_of ws)
sum_one P c e ws zero some (inl none) = subst (λ ws. P (sum_of ws)) (sym none) zero
sum_one P c e ws zero some (inr one) =
    subst (λ ws. P (sum_of ws)) (sym one.1) (subst P (sym (zero_behind one.0.value)) (some one.0 one.2))

-- 0, or a value that it may write there
pub adds_either : (c : ℕ) (row : Row) (added : Interval) → IsIn (pos 0) added →
    ((w : Write) → IsWriteOf c row.effect w → IsIn w.value added) → AddsIn c added row
adds_either c row added zero some = record {
  taken = λ faults x part giving.
      sum_one (λ z. IsIn z added) c row.effect (writes_by c x.processor x.attempt) zero some
      (writes_one c x.processor row.effect row.trail.items faults x.attempt part.tried);
  passed = λ unsure. zero;
}

-- 0, since it writes elsewhere
pub adds_nothing : (c : ℕ) (row : Row) (added : Interval) → IsIn (pos 0) added → ((w : Write) → IsWriteOf c row.effect w → ⊥) →
    AddsIn c added row
adds_nothing c row added zero none = adds_either c row added zero (λ w one. absurd (none w one))

pub adds_surely : (c : ℕ) (row : Row) (value : Interval) → WritesSurely c value row → AddsIn c value row
adds_surely c row value w = record {
  taken = λ faults x part giving.
      let one = part_writes c value faults row x w part giving in
      subst (λ ws. IsIn (sum_of ws) value) (sym one.is) (subst (λ z. IsIn z value) (sym (zero_behind one.write.value)) one.value);
  passed = λ unsure. absurd (cc (sym unsure ∙ w.sure));
}

-- the value of a write is one that the row knows
pub value_of_write : (c : ℕ) (effect : Option Effect) (e : Effect) (r : Reach) (w : Write) → effect ≡ Some e → e.reach ≡ Some r →
    IsWriteOf c effect w → IsIn w.value e.value
value_of_write c effect e r w is goes one =
    let known : value_in effect ≡ Some e.value = ap value_in is ∙ ap (where_reached e.value) goes in
    let found : Some one.value ≡ Some e.value = sym one.given ∙ known in
    let same : one.value ≡ e.value = cc found in
    subst (IsIn w.value) same one.in_value

-- and its cell one that it reaches
pub cell_of_write : (c : ℕ) (effect : Option Effect) (e : Effect) (r : Reach) (w : Write) → effect ≡ Some e → e.reach ≡ Some r →
    IsWriteOf c effect w → (r.least ≤ c) × (c ≤ r.most)
cell_of_write c effect e r w is goes one =
    let found : Some one.reach ≡ Some r = sym one.goes ∙ ap reach_in is ∙ goes in
    let same : one.reach ≡ r = cc found in
    (subst (λ (r : Reach). r.least ≤ c) same one.reached.least, subst (λ (r : Reach). c ≤ r.most) same one.reached.most)

pub no_write : (c : ℕ) (effect : Option Effect) (w : Write) → reach_in effect ≡ None → IsWriteOf c effect w → ⊥
no_write c effect w none one = absurd (cc (sym none ∙ one.goes))

-- ---- the sum of all rows

-- the sum of what such parts write lies between these
abbrev pub AreSums : ℕ → ℤ → ℤ → List Row → Type 0
AreSums c low high rows = (faults : Findings) (xs : List Part) → ArePartsBy faults rows xs → AreGiven xs →
    (low ≤ℤ sum_of (writes_to c xs)) × (sum_of (writes_to c xs) ≤ℤ high)

-- a number between the first two, and then one of the interval
more_between : (low high less more s v : ℤ) (added : Interval) → less ≡ low +ℤ added.least → more ≡ high +ℤ added.greatest →
    (low ≤ℤ s) × (s ≤ℤ high) → IsIn v added → (less ≤ℤ (s +ℤ v)) × ((s +ℤ v) ≤ℤ more)
more_between low high less more s v added l m between at =
    let a = between.0 in
    let b = between.1 in
    let p = at.least in
    let q = at.greatest in
    (grind (arith, ints, l, a, p), grind (arith, ints, m, b, q))

-- one row more
pub sums_go : (c : ℕ) (all : List Row) (k : ℕ) (row d : Row) (added : Interval) (low high less more : ℤ) → k < length all →
    row ≡ get_or all k d → AreSums c low high (take k all) → AddsIn c added row → less ≡ low +ℤ added.least →
    more ≡ high +ℤ added.greatest → AreSums c less more (take (k + 1) all)
sums_go c all k row d added low high less more below is so_far adds l m = λ faults xs parts given.
    parts_more (λ xs. AreGiven xs → (less ≤ℤ sum_of (writes_to c xs)) × (sum_of (writes_to c xs) ≤ℤ more)) faults all k row d xs below is
    (λ ys h unsure g. subst (λ s. (less ≤ℤ s) × (s ≤ℤ more)) (zero_behind (sum_of (writes_to c ys)))
    (more_between low high less more (sum_of (writes_to c ys)) (pos 0) added l m (so_far faults ys h g) (adds.passed unsure)))
    (λ ys x h p g. subst (λ s. (less ≤ℤ s) × (s ≤ℤ more))
    (sym (ap sum_of (writes_last c ys x) ∙ sum_both (writes_to c ys) (writes_by c x.processor x.attempt)))
    (more_between low high less more (sum_of (writes_to c ys)) (sum_of (writes_by c x.processor x.attempt)) added l m
    (so_far faults ys h (given_first ys x g)) (adds.taken faults x p (given_last ys x g))))
    parts given

-- those of no row
pub sums_begin : (c : ℕ) (all : List Row) → AreSums c (pos 0) (pos 0) (take 0 all)
sums_begin c all = λ faults xs parts given.
    parts_none (λ xs. (pos 0 ≤ℤ sum_of (writes_to c xs)) × (sum_of (writes_to c xs) ≤ℤ pos 0)) faults all xs
    (grind (arith, ints), grind (arith, ints)) parts

-- all are too great, or too small
pub sums_past : (c : ℕ) (all : List Row) (k : ℕ) (low high : ℤ) → length all ≤ k → AreSums c low high (take k all) →
    ((s : ℤ) → low ≤ℤ s → s ≤ℤ high → fits s ≡ false) → NeverFits c all
sums_past c all k low high past sums none = λ faults xs parts given.
    let between = sums faults xs (parts_all faults all k xs past parts) given in none (sum_of (writes_to c xs)) between.0 between.1

-- ---- a fault is told of it

not_added : (ws : List Write) (w : Write) (z : ℤ) → Contains ws w → fits (sum_of ws) ≡ false → written Sum (pos 0) ws ≡ Ok z → ⊥
not_added [] w z (k, below, e) none value = absurd (omega (arith, below))
not_added (v ∷ ws) w z c none value =
    let bad : checked (sum_of (v ∷ ws)) ≡ Err Overflow = ap (λ b. if b then Ok (sum_of (v ∷ ws)) else Err Overflow) none in
    absurd (cc (sym bad ∙ value))

pub sum_faults : (c : ℕ) (i : Interval) (faults : Findings) (known : List Row) (k : ℕ) (d : Row) (xs : List Part) → k < length known →
    WritesSurely c i (get_or known k d) → NeverFits c known → ArePartsBy faults known xs → least (keys Sum xs) ≡ None → ⊥
sum_faults c i faults known k d xs below w never parts none =
    let given = all_given Sum xs none in
    let held = one_holds c i faults known k d xs below w parts given in
    let no_writes = none_last (flat_map (λ x. fault_of x.processor x.attempt) xs ++ read_conflicts Sum (reads_of xs))
    (flat_map (λ x. write_conflict Sum xs x.attempt) xs) (no_keys Sum xs none) in
    elim (settled_or_none Sum c xs xs no_writes given) [
      | inl empty ↦ none_there held.write (subst (λ ws. Contains ws held.write) empty held.among)
      | inr value ↦ not_added (writes_to c xs) held.write value.0 held.among (never faults xs parts given) value.1
    ]
