-- The faults of several processors: their own, and conflicts between them; and the least of all.
use Rattle.std.proofs.Common.{◌≡◌, ◌≤◌, inl, inr, ℕ, List, [], ◌++◌, refl, sym, subst, Bool, true, false, Option, Some, None}
use Rattle.std.proofs.Common.{IfSome, ℤ, arith, tests}
use Rattle.std.specs.Prelude.{nat_lt}
use Rattle.std.specs.List.{Contains, flat_map}
use Rattle.std.specs.Result.{IfErr}
use Rattle.std.proofs.lemmas.List.Elements.{All-contains, Contains-append_cases}
use Rattle.pram_model.specs.declared.rule.Rule.{Rule}
use Rattle.pram_check.specs.Checked.{Checked}
use Rattle.pram_meaning.specs.Attempt.{Attempt, Gives, Fails, Effect}
use Rattle.pram_meaning.specs.Conflict.{Part, IsLeast, fault_of, is_key_before, read_conflicts, reads_of, write_conflict, keys, least}
use Rattle.pram_meaning.specs.Together.{on_key, together}
use Rattle.pram_meaning.specs.declared.key.Key.{Key}
use Rattle.pram_meaning.proofs.LeastKey.{least_is_least}
use Rattle.all_inputs.specs.declared.faults.Faults.{Faults}
use Rattle.all_inputs.specs.Faulting.{May}
use Rattle.abstract_runs.specs.declared.findings.Findings.{Findings}
use Rattle.abstract_runs.specs.declared.reach.Reach.{Reach}
use Rattle.abstract_runs.specs.declared.row.Row.{Row}
use Rattle.abstract_runs.specs.Finding.{MayBy, AreKept}
use Rattle.abstract_runs.specs.Rows.{ArePartsBy}
use Rattle.abstract_runs.specs.Sure.{HasFaultBy, HaveFaultBy}
use Rattle.abstract_runs.specs.Tried.{IsTried}
use Rattle.abstract_runs.proofs.Among.{comes_from, first_or_rest, none_there}
use Rattle.abstract_runs.proofs.Found.{IsTold, IsWithin, may_within}
use Rattle.abstract_runs.proofs.SharedReads.{row_of}

-- it may come at its position
abbrev pub IsFound : Findings → Key → Type 0
IsFound f key = MayBy key.kind key.at f

fault_may : (P : Effect → Type 0) (rs : List (Option Reach)) (f : Findings) (i : ℤ) (a : Attempt Effect) (key : Key) → IsTried P rs f a →
    Contains (fault_of i a) key → IsFound f key
fault_may P rs f i (Gives t x) key h c = absurd (none_there key c)
fault_may P rs f i (Fails t k) key h c = elim (first_or_rest _ [] key c) [
  | inl e ↦ subst (IsFound f) (sym e) h.1
  | inr there ↦ absurd (none_there key there)
]

own_may : (f : Findings) (rs : List Row) (xs : List Part) (key : Key) → ArePartsBy f rs xs →
    Contains (flat_map (λ x. fault_of x.processor x.attempt) xs) key → IsFound f key
own_may f rs xs key parts c =
    let from = comes_from (λ (x : Part). fault_of x.processor x.attempt) xs key c in
    let x = row_of f rs xs from.one parts from.among in
    fault_may _ x.row.trail.items f from.one.processor from.one.attempt key x.part.tried from.gives

-- ---- all of them

abbrev AllMay : (List Key) → Findings → Type 0
AllMay ks f = (key : Key) → Contains ks key → IsFound f key

both_may : (ks js : List Key) (f : Findings) → AllMay ks f → AllMay js f → AllMay (ks ++ js) f
both_may ks js f h k = λ key c. elim (Contains-append_cases ks js key c) [ inl here ↦ h key here | inr there ↦ k key there ]

pub keys_may : (before now : Findings) (rule : Rule) (rs : List Row) (xs : List Part) → ArePartsBy before rs xs → AreKept before now →
    AllMay (read_conflicts rule (reads_of xs)) now → AllMay (flat_map (λ x. write_conflict rule xs x.attempt) xs) now →
    AllMay (keys rule xs) now
keys_may before now rule rs xs parts kept reads writes =
    both_may (flat_map (λ x. fault_of x.processor x.attempt) xs ++ read_conflicts rule (reads_of xs))
    (flat_map (λ x. write_conflict rule xs x.attempt) xs) now
    (both_may (flat_map (λ x. fault_of x.processor x.attempt) xs) (read_conflicts rule (reads_of xs)) now
    (λ key c. kept key.kind key.at (own_may before rs xs key parts c)) reads) writes

-- ---- the least

-- it isn't behind one of the others
not_behind : (key other : Key) → is_key_before other key ≡ false → key.at ≤ other.at
not_behind key other e = by (nat_lt other.at key.at) refl
  where
    by : (b : Bool) → nat_lt other.at key.at ≡ b → key.at ≤ other.at
    by true t = grind (arith, tests, e, t)
    by false t = grind (arith, tests, t)

least_within : (ks : List Key) (key : Key) (last : Option ℕ) → IsLeast ks (Some key) → IfSome last (λ at. HasFaultBy at ks) →
    IsWithin last key.at
least_within ks key None l h = tt
least_within ks key (Some at) l h =
    let first = not_behind key h.key (All-contains (λ j. is_key_before j key ≡ false) ks h.key l.1 h.among) in let by = h.by in omega
    (arith, first, by)

least_told : (ks : List Key) (k : Option Key) (f : Findings) (last : Option ℕ) (all : Faults) (line : ℕ) (xs : List Part) → IsLeast ks k →
    AllMay ks f → IfSome last (λ at. HasFaultBy at ks) → IsTold f last all →
    IfErr (on_key line k xs) (λ fault. May fault.kind all × (fault.line ≡ line))
least_told ks None f last all line xs l h sure told = tt
least_told ks (Some k) f last all line xs l h sure told =
    (may_within f last all k.kind k.at told (h k l.0) (least_within ks k last l sure), refl)

fault_by : (before : Findings) (rule : Rule) (rs : List Row) (xs : List Part) (last : Option ℕ) → IfSome last (HaveFaultBy rule rs) →
    ArePartsBy before rs xs → IfSome last (λ at. HasFaultBy at (keys rule xs))
fault_by before rule rs xs None sure parts = tt
fault_by before rule rs xs (Some at) sure parts = sure before xs parts

-- the fault of a statement is one that is told, where a fault by the last position is sure
pub together_told : (before f : Findings) (last : Option ℕ) (all : Faults) (line : ℕ) (p : Checked) (rule : Rule) (rs : List Row)
    (xs : List Part) → p.rule ≡ rule → ArePartsBy before rs xs → AllMay (keys rule xs) f → IfSome last (HaveFaultBy rule rs) →
    IsTold f last all → IfErr (together p line xs) (λ fault. May fault.kind all × (fault.line ≡ line))
together_told before f last all line p rule rs xs e parts may sure told =
    least_told (keys p.rule xs) (least (keys p.rule xs)) f last all line xs (least_is_least (keys p.rule xs))
    (subst (λ rule. AllMay (keys rule xs) f) (sym e) may)
    (subst (λ rule. IfSome last (λ at. HasFaultBy at (keys rule xs))) (sym e) (fault_by before rule rs xs last sure parts)) told
