-- The laws of the moments of whole runs.
use Rattle.std.proofs.Common.{◌≡◌, ◌⊎◌, ◌≤◌, ◌<◌, ◌∙◌, ℕ, ℤ, List, [], ◌++◌, ap, append-nil, arith, inl, inr, length, length-append}
use Rattle.std.proofs.Common.{refl, subst, sym}
use Rattle.std.proofs.lemmas.Bool.{cases_lt}
use Rattle.pram_check.specs.Checked.{Checked}
use Rattle.write_rules.specs.Verdict.{Ended, Faulted, GoesOn, Verdict}
use Rattle.pram_meaning.specs.Bounded.{Done, Goes, Reaches, Stops}
use Rattle.pram_meaning.specs.Computed.{body_done, verdict_at}
use Rattle.pram_meaning.specs.Moments.{Moment, run_moments}
use Rattle.pram_meaning.specs.Outcome.{IsOutcome, opening}
use Rattle.pram_meaning.specs.Store.{State}
use Rattle.pram_meaning.proofs.OneOutcome.{one_outcome, outcome_is_computed}
use Rattle.moment_laws.specs.Following.{BoundOnlyCuts, FinalIsWithin, FinalMomentsStay, GoesOnBefore, GoingOnHasTheBound, Has, IsFinal}
use Rattle.moment_laws.specs.Following.{Lead, MomentsLeadToTheOutcome, StatementsAreWithin, statements}
use Rattle.moment_laws.proofs.Leading.{lead_counts}
use Rattle.moment_laws.proofs.Outside.{list_run}
use Rattle.moment_laws.proofs.Runs.{IsRun}

whole : (p : Checked) (input : List ℤ) (n k : ℕ) → n ≤ k →
    IsRun n k (opening p input) (run_moments p input n) (run_moments p input k) (body_done p input n) (body_done p input k)
whole p input n k more = list_run p n k more p.body (opening p input) (omega arith)

verdict_of : (p : Checked) (input : List ℤ) (n : ℕ) (v : Verdict) → IsOutcome p input n v → v ≡ verdict_at (body_done p input n)
verdict_of p input n v is = (outcome_is_computed p input n v).0 is

-- ---- to the outcome

to_verdict : (n : ℕ) (m : State) (ms : List Moment) (b : Done) → IsRun n n m ms ms b b →
    (last : State) × Lead ms m last × Has n last (verdict_at b)
to_verdict n m ms (Goes u new) is = (new, is.0, (refl, refl))
to_verdict n m ms (Stops f out) is = let to = is.0 in (to.0, to.1, to.2)
to_verdict n m ms (Reaches out) is = (is.0, is.1, (is.2, is.3))

pub moments_lead_to_the_outcome : MomentsLeadToTheOutcome
moments_lead_to_the_outcome p input n v is =
    subst (λ v. (last : State) × Lead (run_moments p input n) (opening p input) last × Has n last v) (sym (verdict_of p input n v is))
    (to_verdict n (opening p input) (run_moments p input n) (body_done p input n) (whole p input n n (omega arith)))

-- ---- the bound

cuts : (n k : ℕ) (m : State) (ms ns : List Moment) (b c : Done) → IsRun n k m ms ns b c →
    (rest : List Moment) × (statements ns ≡ statements ms ++ rest)
cuts n k m ms ns (Goes u new) c is = ([], ap statements is.2 ∙ sym (append-nil (statements ms)))
cuts n k m ms ns (Stops f out) c is = ([], ap statements is.1 ∙ sym (append-nil (statements ms)))
cuts n k m ms ns (Reaches out) c is = let cut = is.4 in (cut.0, cut.1)

pub bound_only_cuts : BoundOnlyCuts
bound_only_cuts p input n k more =
    cuts n k (opening p input) (run_moments p input n) (run_moments p input k) (body_done p input n) (body_done p input k)
    (whole p input n k more)

stay : (n k : ℕ) (m : State) (ms ns : List Moment) (b c : Done) → IsFinal (verdict_at b) → IsRun n k m ms ns b c → ns ≡ ms
stay n k m ms ns (Goes u new) c final is = is.2
stay n k m ms ns (Stops f out) c final is = is.1
stay n k m ms ns (Reaches out) c final is = absurd final

pub final_moments_stay : FinalMomentsStay
final_moments_stay p input n k v is final more =
    stay n k (opening p input) (run_moments p input n) (run_moments p input k) (body_done p input n) (body_done p input k)
    (subst IsFinal (verdict_of p input n v is) final) (whole p input n k more)

-- ---- how many statements

within : (n : ℕ) (m : State) (ms : List Moment) (b : Done) → m.count ≡ 0 → IsRun n n m ms ms b b → length (statements ms) ≤ n
within n m ms (Goes u new) zero is = let e = lead_counts ms m new is.0 in let l = is.1 in omega (arith, zero, e, l)
within n m ms (Stops f out) zero is =
    let to = is.0 in let e = lead_counts ms m to.0 to.1 in let l = to.3 in omega (arith, zero, e, l)
within n m ms (Reaches out) zero is = let e = lead_counts ms m is.0 is.1 in let l = is.3 in omega (arith, zero, e, l)

pub statements_are_within : StatementsAreWithin
statements_are_within p input n =
    within n (opening p input) (run_moments p input n) (body_done p input n) refl (whole p input n n (omega arith))

going_on : (n : ℕ) (m : State) (ms : List Moment) (b : Done) (out : List ℤ) → m.count ≡ 0 → GoesOn out ≡ verdict_at b →
    IsRun n n m ms ms b b → length (statements ms) ≡ n
going_on n m ms (Goes u new) out zero e is = absurd (cc e)
going_on n m ms (Stops f o) out zero e is = absurd (cc e)
going_on n m ms (Reaches o) out zero e is = let c = lead_counts ms m is.0 is.1 in let l = is.3 in omega (arith, zero, c, l)

pub going_on_has_the_bound : GoingOnHasTheBound
going_on_has_the_bound p input n output is =
    going_on n (opening p input) (run_moments p input n) (body_done p input n) output refl (verdict_of p input n (GoesOn output) is)
    (whole p input n n (omega arith))

-- where a run goes on, a larger bound has more statements
longer : (n k : ℕ) (m : State) (ms ns : List Moment) (b c : Done) (out : List ℤ) → GoesOn out ≡ verdict_at b → n < k →
    IsRun n k m ms ns b c → length (statements ms) < length (statements ns)
longer n k m ms ns (Goes u new) c out e low is = absurd (cc e)
longer n k m ms ns (Stops f o) c out e low is = absurd (cc e)
longer n k m ms ns (Reaches o) c out e low is =
    let cut = is.4 in
    let some = cut.2 low in
    let both = ap length cut.1 ∙ length-append (statements ms) cut.0 in omega (arith, some, both)

more_behind : (p : Checked) (input : List ℤ) (n k : ℕ) (out : List ℤ) → IsOutcome p input n (GoesOn out) → n < k →
    n < length (statements (run_moments p input k))
more_behind p input n k out is low =
    let a = longer n k (opening p input) (run_moments p input n) (run_moments p input k) (body_done p input n) (body_done p input k) out
    (verdict_of p input n (GoesOn out) is) low (whole p input n k (omega (arith, low))) in
    let b = going_on_has_the_bound p input n out is in omega (arith, a, b)

-- an end or a fault is one within each larger bound
kept : (p : Checked) (input : List ℤ) (n k : ℕ) (v : Verdict) → IsOutcome p input n v → IsFinal v → n ≤ k → IsOutcome p input k v
kept p input n k (Ended output memory) is final more = (is.0, is.1, (let l = is.2 in omega (arith, l, more)), is.3, is.4)
kept p input n k (Faulted fault output) is final more = (is.0, is.1, (let l = is.2 in omega (arith, l, more)))
kept p input n k (GoesOn output) is final more = absurd final

one : (p : Checked) (input : List ℤ) (n : ℕ) (v w : Verdict) → IsOutcome p input n v → IsOutcome p input n w → w ≡ v
one p input n v w a b = let o = one_outcome p input n in o.alone w b ∙ sym (o.alone v a)

final_ahead : (p : Checked) (input : List ℤ) (n k : ℕ) (v : Verdict) → IsFinal v → IsOutcome p input k v →
    length (statements (run_moments p input n)) ≤ k
final_ahead p input n k v final o = by (cases_lt k n)
  where
    by : (k < n) ⊎ (n ≤ k) → length (statements (run_moments p input n)) ≤ k
    by (inl h) =
        let e = ap (λ ms. length (statements ms)) (final_moments_stay p input k n v o final (omega (arith, h))) in
        let l = statements_are_within p input k in omega (arith, e, l)
    by (inr h) = let l = statements_are_within p input n in omega (arith, l, h)

final_back : (p : Checked) (input : List ℤ) (n k : ℕ) (v : Verdict) → IsOutcome p input n v → IsFinal v →
    length (statements (run_moments p input n)) ≤ k → IsOutcome p input k v
final_back p input n k v is final few = by (cases_lt k n)
  where
    at : k < n → (w : Verdict) → IsOutcome p input k w → IsOutcome p input k v
    at h (Ended output memory) o =
        subst (IsOutcome p input k) (one p input n v (Ended output memory) is (kept p input k n (Ended output memory) o tt
        (omega (arith, h)))) o
    at h (Faulted fault output) o =
        subst (IsOutcome p input k) (one p input n v (Faulted fault output) is (kept p input k n (Faulted fault output) o tt
        (omega (arith, h)))) o
    at h (GoesOn output) o = absurd (let a = more_behind p input k n output o h in omega (arith, a, few))

    by : (k < n) ⊎ (n ≤ k) → IsOutcome p input k v
    by (inl h) = let o = one_outcome p input k in at h o.outcome o.is
    by (inr h) = kept p input n k v is final h

pub final_is_within : FinalIsWithin
final_is_within p input n v is final k = (final_ahead p input n k v final, final_back p input n k v is final)

before_ahead : (p : Checked) (input : List ℤ) (n k : ℕ) (v : Verdict) → IsOutcome p input n v → IsFinal v →
    (output : List ℤ) × IsOutcome p input k (GoesOn output) → k < length (statements (run_moments p input n))
before_ahead p input n k v is final (output, o) = by (cases_lt k n)
  where
    by : (k < n) ⊎ (n ≤ k) → k < length (statements (run_moments p input n))
    by (inl h) = more_behind p input k n output o h
    by (inr h) = absurd (subst IsFinal (one p input k (GoesOn output) v o (kept p input n k v is final h)) final)

before_back : (p : Checked) (input : List ℤ) (n k : ℕ) → k < length (statements (run_moments p input n)) →
    (output : List ℤ) × IsOutcome p input k (GoesOn output)
before_back p input n k low = let o = one_outcome p input k in at o.outcome o.is
  where
    none : (w : Verdict) → IsFinal w → IsOutcome p input k w → ⊥
    none w final o = let l = final_ahead p input n k w final o in omega (arith, l, low)

    at : (w : Verdict) → IsOutcome p input k w → (output : List ℤ) × IsOutcome p input k (GoesOn output)
    at (Ended output memory) o = absurd (none (Ended output memory) tt o)
    at (Faulted fault output) o = absurd (none (Faulted fault output) tt o)
    at (GoesOn output) o = (output, o)

pub goes_on_before : GoesOnBefore
goes_on_before p input n v is final k = (before_ahead p input n k v is final, before_back p input n k)
