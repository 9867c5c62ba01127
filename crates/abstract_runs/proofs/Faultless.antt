-- A statement that has no fault: each of its attempts gives something.
use Rattle.std.proofs.Common.{◌≡◌, ℤ, List, [], ◌∷◌, ◌++◌, None, refl, subst}
use Rattle.std.specs.List.{flat_map}
use Rattle.pram_model.specs.declared.rule.Rule.{Rule}
use Rattle.pram_meaning.specs.declared.key.Key.{Key}
use Rattle.pram_meaning.specs.Attempt.{Attempt, Effect, Gives, Fails}
use Rattle.pram_meaning.specs.Conflict.{Part, IsLeast, fault_of, keys, least, read_conflicts, reads_of, write_conflict}
use Rattle.pram_meaning.proofs.LeastKey.{least_is_least}
use Rattle.abstract_runs.specs.Given.{AreGiven, IsGiving}

pub none_first : (ks js : List Key) → ks ++ js ≡ [] → ks ≡ []
none_first [] js e = refl
none_first (k ∷ ks) js e = absurd (cc e)

pub none_last : (ks js : List Key) → ks ++ js ≡ [] → js ≡ []
none_last [] js e = e
none_last (k ∷ ks) js e = absurd (cc e)

one_giving : (i : ℤ) (a : Attempt Effect) → fault_of i a ≡ [] → IsGiving a
one_giving i (Gives t x) e = tt
one_giving i (Fails t kind) e = absurd (cc e)

faultless : (xs : List Part) → flat_map (λ x. fault_of x.processor x.attempt) xs ≡ [] → AreGiven xs
faultless [] e = tt
faultless (x ∷ xs) e = (
  one_giving x.processor x.attempt (none_first (fault_of x.processor x.attempt) (flat_map (λ x. fault_of x.processor x.attempt) xs) e),
  faultless xs (none_last (fault_of x.processor x.attempt) (flat_map (λ x. fault_of x.processor x.attempt) xs) e),
)

pub no_keys : (rule : Rule) (xs : List Part) → least (keys rule xs) ≡ None → keys rule xs ≡ []
no_keys rule xs e = subst (IsLeast (keys rule xs)) e (least_is_least (keys rule xs))

-- no fault is told, so each attempt gives something
pub all_given : (rule : Rule) (xs : List Part) → least (keys rule xs) ≡ None → AreGiven xs
all_given rule xs e =
    faultless xs (none_first (flat_map (λ x. fault_of x.processor x.attempt) xs) (read_conflicts rule (reads_of xs))
    (none_first (flat_map (λ x. fault_of x.processor x.attempt) xs ++ read_conflicts rule (reads_of xs))
    (flat_map (λ x. write_conflict rule xs x.attempt) xs) (no_keys rule xs e)))
