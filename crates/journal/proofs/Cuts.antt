-- A run that is ended at a statement: it is the run within a bound of the statements before, which goes on there.
use Rattle.std.proofs.Common.{◌≡◌, ◌∙◌, ◌+◌, ◌≤◌, ◌<◌, ℕ, ℤ, List, [], ◌∷◌, ◌++◌, ap, append_assoc, append-nil, arith, length, length-append}
use Rattle.std.proofs.Common.{refl, subst, sym, take}
use Rattle.std.proofs.Math.Seq.{take-append_seam}
use Rattle.std.specs.List.{flat_map}
use Rattle.pram_check.specs.Checked.{Checked}
use Rattle.write_rules.specs.Verdict.{Ended, Faulted, GoesOn, Verdict}
use Rattle.pram_meaning.specs.Moments.{Alone, Closed, Moment, Together, run_moments}
use Rattle.pram_meaning.specs.Outcome.{IsOutcome, opening}
use Rattle.pram_meaning.specs.Store.{State}
use Rattle.pram_meaning.proofs.OneOutcome.{one_outcome}
use Rattle.moment_laws.specs.Following.{IsFinal, Lead, statements}
use Rattle.moment_laws.proofs.Leading.{lead_counts, lead_none, statements_on}
use Rattle.moment_laws.proofs.Whole.{bound_only_cuts, final_moments_stay, going_on_has_the_bound, moments_lead_to_the_outcome}
use Rattle.moment_laws.proofs.Whole.{statements_are_within}
use Rattle.journal.specs.RunEntries.{entries_of, run_entries}
use Rattle.journal.specs.InTime.{IsBegun}

-- ---- statements alone

entries_alone : (p : Checked) (ms : List Moment) → flat_map (entries_of p) (statements ms) ≡ flat_map (entries_of p) ms
entries_alone p [] = refl
entries_alone p (Alone here act before tried behind ∷ ms) =
    ap (λ es. entries_of p (Alone here act before tried behind) ++ es) (entries_alone p ms)
entries_alone p (Together here act before xs key behind ∷ ms) =
    ap (λ es. entries_of p (Together here act before xs key behind) ++ es) (entries_alone p ms)
entries_alone p (Closed ∷ ms) = entries_alone p ms

lead_alone : (ms : List Moment) (m k : State) → Lead ms m k → Lead (statements ms) m k
lead_alone [] m k lead = lead
lead_alone (Alone here act before tried behind ∷ ms) m k lead = (lead.0, lead.1, lead_alone ms behind k lead.2)
lead_alone (Together here act before xs key behind ∷ ms) m k lead = (lead.0, lead.1, lead_alone ms behind k lead.2)
lead_alone (Closed ∷ ms) m k lead = lead_alone ms m k lead

-- the same moments leave the same output
same_output : (ms : List Moment) (m k l : State) → Lead ms m k → Lead ms m l → k.output ≡ l.output
same_output [] m k l a b = a.0.output ∙ sym b.0.output
same_output (Alone here act before tried behind ∷ ms) m k l a b = same_output ms behind k l a.2 b.2
same_output (Together here act before xs key behind ∷ ms) m k l a b = same_output ms behind k l a.2 b.2
same_output (Closed ∷ ms) m k l a b = same_output ms m k l a b

-- ---- the moments before a statement

begun_counts : (m : Moment) (count : ℕ) (output : List ℤ) (rest : List Moment) → IsBegun m count output →
    length (statements (m ∷ rest)) ≡ length (statements rest) + 1
begun_counts (Alone here act before tried behind) count output rest begun = omega arith
begun_counts (Together here act before xs key behind) count output rest begun = omega arith
begun_counts Closed count output rest begun = absurd begun

-- lead to the state in which it begins
pub record Before (first : List Moment) (from : State) (count : ℕ) (output : List ℤ) : Type 0 where
  pub mid : State
  pub lead : Lead first from mid
  pub counted : count ≡ mid.count + 1
  pub printed : output ≡ mid.output

before : (first rest : List Moment) (m : Moment) (count : ℕ) (output : List ℤ) (from to : State) → Lead (first ++ m ∷ rest) from to →
    IsBegun m count output → Before first from count output
before [] rest (Alone here act begins tried behind) count output from to lead begun = record {
  mid = from;
  lead = lead_none from;
  counted = sym begun.0 ∙ lead.0.1;
  printed = sym begun.1 ∙ lead.0.0.output;
}
before [] rest (Together here act begins xs key behind) count output from to lead begun = record {
  mid = from;
  lead = lead_none from;
  counted = sym begun.0 ∙ lead.0.1;
  printed = sym begun.1 ∙ lead.0.0.output;
}
before [] rest Closed count output from to lead begun = absurd begun
before (Alone here act begins tried behind ∷ first) rest m count output from to lead begun =
    let b = before first rest m count output behind to lead.2 begun in
    record { mid = b.mid; lead = (lead.0, lead.1, b.lead); counted = b.counted; printed = b.printed }
before (Together here act begins xs key behind ∷ first) rest m count output from to lead begun =
    let b = before first rest m count output behind to lead.2 begun in
    record { mid = b.mid; lead = (lead.0, lead.1, b.lead); counted = b.counted; printed = b.printed }
before (Closed ∷ first) rest m count output from to lead begun =
    let b = before first rest m count output from to lead begun in
    record { mid = b.mid; lead = b.lead; counted = b.counted; printed = b.printed }

-- ---- the run within the statements before it

fronts : {A : Type 0} (xs ys us vs : List A) → length xs ≡ length ys → xs ++ us ≡ ys ++ vs → xs ≡ ys
fronts xs ys us vs long same =
    sym (take-append_seam xs us) ∙ ap (take (length xs)) same ∙ ap (λ n. take n (ys ++ vs)) long ∙ take-append_seam ys vs

pub record IsCutAt (p : Checked) (input : List ℤ) (n s : ℕ) (output : List ℤ) (first : List Moment) : Type 0 where
  pub fewer : s < n
  pub outcome : IsOutcome p input s (GoesOn output)
  pub entries : run_entries p input s ≡ flat_map (entries_of p) first

module _ (p : Checked) (input : List ℤ) (n : ℕ) (first rest : List Moment) (m : Moment) (s : ℕ) (output : List ℤ)
    (whole : run_moments p input n ≡ first ++ m ∷ rest) (begun : IsBegun m (s + 1) output) where
  begins : Before first (opening p input) (s + 1) output
  begins =
      let o = one_outcome p input n in
      let leads = moments_lead_to_the_outcome p input n o.outcome o.is in
      before first rest m (s + 1) output (opening p input) leads.0
      (subst (λ ms. Lead ms (opening p input) leads.0) whole leads.1) begun

  as_many : length (statements first) ≡ s
  as_many =
      let a = lead_counts first (opening p input) begins.mid begins.lead in
      let b = begins.counted in omega (arith, a, b)

  more : s < length (statements (run_moments p input n))
  more =
      let a = ap (λ ms. length (statements ms)) whole in
      let b = ap (λ (ms : List Moment). length ms) (statements_on first (m ∷ rest)) in
      let c = length-append (statements first) (statements (m ∷ rest)) in
      let d = begun_counts m (s + 1) output rest begun in
      let e = as_many in omega (arith, a, b, c, d, e)

  fewer_than : s < n
  fewer_than = let a = more in let b = statements_are_within p input n in omega (arith, a, b)

  never_final : (v : Verdict) → IsFinal v → IsOutcome p input s v → ⊥
  never_final v final is =
      let low = fewer_than in
      let a = ap (λ ms. length (statements ms)) (final_moments_stay p input s n v is final (omega (arith, low))) in
      let b = more in
      let c = statements_are_within p input s in omega (arith, a, b, c)

  at : (v : Verdict) → IsOutcome p input s v → IsCutAt p input n s output first
  at (Ended out memory) is = absurd (never_final (Ended out memory) tt is)
  at (Faulted fault out) is = absurd (never_final (Faulted fault out) tt is)
  at (GoesOn out) is =
      let low = fewer_than in
      let cut = bound_only_cuts p input s n (omega (arith, low)) in
      let long = going_on_has_the_bound p input s out is ∙ sym as_many in
      let same : statements (run_moments p input s) ≡ statements first =
      fronts (statements (run_moments p input s)) (statements first) cut.0 (statements (m ∷ rest)) long
      (sym cut.1 ∙ ap statements whole ∙ statements_on first (m ∷ rest)) in
      let leads = moments_lead_to_the_outcome p input s (GoesOn out) is in
      let one = subst (λ ms. Lead ms (opening p input) leads.0) same
      (lead_alone (run_moments p input s) (opening p input) leads.0 leads.1) in
      let other = lead_alone first (opening p input) begins.mid begins.lead in
      let outputs : out ≡ output =
      sym leads.2.0 ∙ same_output (statements first) (opening p input) leads.0 begins.mid one other ∙ sym begins.printed in
      record {
        fewer = low;
        outcome = subst (λ out. IsOutcome p input s (GoesOn out)) outputs is;
        entries = sym (entries_alone p (run_moments p input s)) ∙ ap (flat_map (entries_of p)) same ∙ entries_alone p first;
      }

  pub cut_at : IsCutAt p input n s output first
  cut_at = let o = one_outcome p input s in at o.outcome o.is
