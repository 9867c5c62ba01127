-- Two processors that surely read one cell at one position.
use Rattle.std.proofs.Common.{◌≡◌, ◌≢◌, ◌⊎◌, inl, inr, ℕ, zero, suc, ◌+◌, ◌<◌, List, [], ◌∷◌, length, refl, sym, subst, ap}
use Rattle.std.proofs.Common.{Bool, true, false, nat_lt, Option, Some, None, ℤ, arith, tests, get_or}
use Rattle.std.specs.Prelude.{slice_get, slice_index_or}
use Rattle.std.specs.List.{Contains}
use Rattle.std.proofs.lemmas.Int.{ints}
use Rattle.pram_model.specs.declared.rule.Rule.TheVariants.{Erew}
use Rattle.pram_values.specs.declared.kind.Kind.{Kind}
use Rattle.pram_meaning.specs.Attempt as meant
use Rattle.pram_meaning.specs.Attempt.{Attempt, Gives, Fails, Trail}
use Rattle.pram_meaning.specs.Conflict.{Part, conflict_of, is_conflict, keys, read_conflicts, read_key, reads_of, reads_on, trail_of}
use Rattle.pram_meaning.specs.declared.read.Read.{Read}
use Rattle.abstract_runs.specs.declared.findings.Findings.{Findings}
use Rattle.abstract_runs.specs.declared.reach.Reach.{Reach}
use Rattle.abstract_runs.specs.declared.row.Row.{Row}
use Rattle.abstract_runs.specs.Covers.{IsReached}
use Rattle.abstract_runs.specs.Effects.{IsGivenBy}
use Rattle.abstract_runs.specs.Sure.{HasFaultBy, HaveFaultBy, Meeting, ReadsSurely}
use Rattle.abstract_runs.specs.Tried.{AreRead, AreReadBefore, GoesAlong, IsRead, IsReadIn, IsTried}
use Rattle.abstract_runs.proofs.Among.{among_all, any_of, deeper, first}
use Rattle.abstract_runs.proofs.SureKeys.{failed_by, read_conflict_key}
use Rattle.abstract_runs.proofs.SureParts.{HasPartBy, sure_part}
use Rattle.abstract_runs.proofs.Trails.{read_there}

-- ---- the read of a trail

-- the trail reads that cell at that position
abbrev pub Reads : ℕ → ℕ → Trail → Type 0
Reads p c t = slice_get t p ≡ Some (Some c)

only_cell : (r : Option Reach) (reach : Reach) (c : ℕ) (d : Option ℕ) → r ≡ Some reach → reach.least ≡ c → reach.most ≡ c → IsRead r d →
    IsReadIn r d → d ≡ Some c
only_cell None reach c d is l m read in_reach = absurd (cc is)
only_cell (Some s) reach c None is l m read in_reach = absurd read
only_cell (Some s) reach c (Some d) is l m read in_reach =
    let same : s ≡ reach = cc is in
    let there : IsReached d reach = subst (IsReached d) same in_reach in
    let low = there.least in let high = there.most in
    let e : d ≡ c = omega (arith, low, high, l, m) in ap Some e

-- of one that goes through all positions
through_reads : (rs : List (Option Reach)) (t : Trail) (p : ℕ) (reach : Reach) (c : ℕ) → GoesAlong rs t → AreRead rs t →
    length t ≡ length rs → slice_index_or rs p None ≡ Some reach → reach.least ≡ c → reach.most ≡ c → Reads p c t
through_reads [] t p reach c along read all is l m = absurd (cc is)
through_reads (r ∷ rs) [] p reach c along read all is l m = absurd (omega (arith, all))
through_reads (r ∷ rs) (d ∷ t) zero reach c along read all is l m =
    ap Some (only_cell r reach c d is l m (read_there r rs d t read).0 along.0)
through_reads (r ∷ rs) (d ∷ t) (suc p) reach c along read all is l m =
    through_reads rs t p reach c along.1 (read_there r rs d t read).1 (omega (arith, all)) is l m

-- of one that ends behind it
ended_reads : (rs : List (Option Reach)) (t : Trail) (p : ℕ) (reach : Reach) (c : ℕ) → GoesAlong rs t → AreReadBefore rs t →
    p + 1 < length t → slice_index_or rs p None ≡ Some reach → reach.least ≡ c → reach.most ≡ c → Reads p c t
ended_reads rs [] p reach c along read before is l m = absurd (omega (arith, before))
ended_reads rs (d ∷ []) p reach c along read before is l m = absurd (omega (arith, before))
ended_reads [] (d ∷ b ∷ t) p reach c along read before is l m = absurd along
ended_reads (r ∷ rs) (d ∷ b ∷ t) zero reach c along read before is l m = ap Some (only_cell r reach c d is l m read.0 along.0)
ended_reads (r ∷ rs) (d ∷ b ∷ t) (suc p) reach c along read before is l m =
    ended_reads rs (b ∷ t) p reach c along.1 read.1 (omega (arith, before)) is l m

abbrev made : ℤ → ℕ → ℕ → Read
made i at c = record { processor = i; at = at; cell = c }

-- so it is one of the trail's reads
reads_there : (t : Trail) (i : ℤ) (at p c : ℕ) → Reads p c t → Contains (reads_on i at t) (made i (at + p + 1) c)
reads_there [] i at p c is = absurd (cc is)
reads_there (None ∷ t) i at zero c is = absurd (cc is)
reads_there (Some d ∷ t) i at zero c is =
    let e : d ≡ c = cc is in
    let n : at + 1 ≡ at + 0 + 1 = omega arith in
    subst (λ c. Contains (made i (at + 1) d ∷ reads_on i (at + 1) t) (made i (at + 0 + 1) c)) e
    (subst (λ n. Contains (made i (at + 1) d ∷ reads_on i (at + 1) t) (made i n d)) n (first (made i (at + 1) d) (reads_on i (at + 1) t)))
reads_there (None ∷ t) i at (suc p) c is =
    let n : at + 1 + p + 1 ≡ at + suc p + 1 = omega arith in
    subst (λ n. Contains (reads_on i (at + 1) t) (made i n c)) n (reads_there t i (at + 1) p c is)
reads_there (Some d ∷ t) i at (suc p) c is =
    let n : at + 1 + p + 1 ≡ at + suc p + 1 = omega arith in
    deeper (made i (at + 1) d) (reads_on i (at + 1) t) (made i (at + suc p + 1) c)
    (subst (λ n. Contains (reads_on i (at + 1) t) (made i n c)) n (reads_there t i (at + 1) p c is))

-- ---- the read of a row

-- a row that surely reads faults by that position, or it reads
read_or_faults : (p c : ℕ) (faults : Findings) (row : Row) (xs : List Part) → ReadsSurely p c row → HasPartBy faults row xs →
    HasFaultBy (p + 1) (keys Erew xs) ⊎ Contains (reads_of xs) (made row.processor (0 + p + 1) c)
read_or_faults p c faults row xs r h = by h.one.attempt refl h.by.tried
  where
    read : Reads p c (trail_of h.one.attempt) → Contains (reads_of xs) (made row.processor (0 + p + 1) c)
    read is = subst (λ i. Contains (reads_of xs) (made i (0 + p + 1) c)) h.by.processor
        (among_all (λ (x : Part). reads_on x.processor 0 (trail_of x.attempt)) xs h.one (made h.one.processor (0 + p + 1) c) h.among
        (reads_there (trail_of h.one.attempt) h.one.processor 0 p c is))

    late : (t : Trail) (kind : Kind) → h.one.attempt ≡ Fails t kind → GoesAlong row.trail.items t → AreReadBefore row.trail.items t →
        (b : Bool) → nat_lt (p + 1) (length t) ≡ b →
        HasFaultBy (p + 1) (keys Erew xs) ⊎ Contains (reads_of xs) (made row.processor (0 + p + 1) c)
    late t kind is along reads true e =
        inr (read (subst (λ a. Reads p c (trail_of a)) (sym is)
        (ended_reads row.trail.items t p r.reach c along reads (grind (arith, tests, e)) r.is r.least r.most)))
    late t kind is along reads false e = inl (failed_by Erew xs h.one t kind (p + 1) h.among is (grind (arith, tests, e)))

    by : (a : Attempt meant.Effect) → h.one.attempt ≡ a → IsTried (IsGivenBy row.effect) row.trail.items faults a →
        HasFaultBy (p + 1) (keys Erew xs) ⊎ Contains (reads_of xs) (made row.processor (0 + p + 1) c)
    by (Gives t g) is tried =
        inr (read (subst (λ a. Reads p c (trail_of a)) (sym is)
        (through_reads row.trail.items t p r.reach c tried.1.along tried.1.reads tried.1.all r.is r.least r.most)))
    by (Fails t kind) is tried = late t kind is tried.0.along tried.0.reads (nat_lt (p + 1) (length t)) refl

-- ---- the conflict

they_meet : (i j : ℤ) (at c : ℕ) → i ≢ j → is_conflict (made i at c) (made j at c) ≡ true
they_meet i j at c apart = grind (arith, ints, tests, apart)

conflict_there : (rs : List Read) (r q : Read) → Contains rs r → Contains rs q → is_conflict r q ≡ true →
    Contains (read_conflicts Erew rs) (read_key r)
conflict_there rs r q here there meets =
    let any = any_of (is_conflict r) rs q there meets in
    let told : conflict_of rs r ≡ read_key r ∷ [] = grind (arith, tests, any) in
    among_all (conflict_of rs) rs r (read_key r) here (subst (λ ks. Contains ks (read_key r)) (sym told) (first (read_key r) []))

pub meeting_by : (p : ℕ) (known : List Row) (m n : ℕ) (d e : Row) → m < length known → n < length known →
    Meeting p (get_or known m d) (get_or known n e) → HaveFaultBy Erew known (p + 1)
meeting_by p known m n d e below under meeting faults xs parts =
    elim (read_or_faults p meeting.cell faults (get_or known m d) xs meeting.one_reads
    (sure_part faults known m d xs below meeting.one_reads.sure parts)) [
      | inl fault ↦ fault
      | inr one ↦ elim (read_or_faults p meeting.cell faults (get_or known n e) xs meeting.two_reads
          (sure_part faults known n e xs under meeting.two_reads.sure parts)) [
            | inl fault ↦ fault
            | inr two ↦ record {
              key = read_key (made (get_or known m d).processor (0 + p + 1) meeting.cell);
              among = read_conflict_key Erew xs _ (conflict_there (reads_of xs) _ _ one two
                  (they_meet (get_or known m d).processor (get_or known n e).processor (0 + p + 1) meeting.cell meeting.apart));
              by = omega arith;
            }
          ]
    ]
