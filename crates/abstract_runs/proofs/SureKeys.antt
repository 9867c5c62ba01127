-- Faults that surely come by a position.
use Rattle.std.proofs.Common.{◌≡◌, ◌⊎◌, inl, inr, ℕ, ◌<◌, ◌≤◌, List, [], length, ◌++◌, get_or, refl, sym, subst, Option, Some, None}
use Rattle.std.proofs.Common.{is_some, true}
use Rattle.std.proofs.Common.{IfSome, arith}
use Rattle.std.specs.List.{Contains, flat_map}
use Rattle.std.proofs.lemmas.List.Elements.{Contains-append_left, Contains-append_right}
use Rattle.pram_model.specs.declared.rule.Rule.{Rule}
use Rattle.pram_check.specs.Checked.{Checked}
use Rattle.pram_meaning.specs.Attempt as meant
use Rattle.pram_meaning.specs.Attempt.{Attempt, Gives, Fails}
use Rattle.pram_meaning.specs.Conflict.{Part, fault_of, keys, read_conflicts, reads_of, write_conflict}
use Rattle.pram_meaning.specs.declared.key.Key.{Key}
use Rattle.pram_values.specs.declared.kind.Kind.{Kind}
use Rattle.pram_values.specs.declared.place.Place.TheVariants.{Processor}
use Rattle.abstract_runs.specs.declared.effect.Effect.{Effect}
use Rattle.abstract_runs.specs.declared.row.Row.{Row}
use Rattle.abstract_runs.specs.Effects.{IsGivenBy}
use Rattle.abstract_runs.specs.Inside.{IsAttempted}
use Rattle.abstract_runs.specs.Sure.{FaultsSurely, HasFaultBy, HaveFaultBy}
use Rattle.abstract_runs.specs.Tried.{IsTried}
use Rattle.abstract_runs.proofs.Among.{among_all, first, not_empty}
use Rattle.abstract_runs.proofs.Faultless.{no_keys}
use Rattle.abstract_runs.proofs.SureParts.{sure_part}
use Rattle.abstract_runs.proofs.Trails.{Reaches, along_short}

-- a processor's own fault is one of all
pub own_key : (rule : Rule) (xs : List Part) (x : Part) (key : Key) → Contains xs x → Contains (fault_of x.processor x.attempt) key →
    Contains (keys rule xs) key
own_key rule xs x key among here =
    Contains-append_left (flat_map (λ (x : Part). fault_of x.processor x.attempt) xs ++ read_conflicts rule (reads_of xs))
    (flat_map (λ (x : Part). write_conflict rule xs x.attempt) xs) key
    (Contains-append_left (flat_map (λ (x : Part). fault_of x.processor x.attempt) xs) (read_conflicts rule (reads_of xs)) key
    (among_all (λ (x : Part). fault_of x.processor x.attempt) xs x key among here))

-- and so is a read conflict
pub read_conflict_key : (rule : Rule) (xs : List Part) (key : Key) → Contains (read_conflicts rule (reads_of xs)) key →
    Contains (keys rule xs) key
read_conflict_key rule xs key here =
    Contains-append_left (flat_map (λ (x : Part). fault_of x.processor x.attempt) xs ++ read_conflicts rule (reads_of xs))
    (flat_map (λ (x : Part). write_conflict rule xs x.attempt) xs) key
    (Contains-append_right (flat_map (λ (x : Part). fault_of x.processor x.attempt) xs) (read_conflicts rule (reads_of xs)) key here)

-- a part that fails
pub failed_by : (rule : Rule) (xs : List Part) (x : Part) (t : meant.Trail) (kind : Kind) (at : ℕ) → Contains xs x →
    x.attempt ≡ Fails t kind → length t ≤ at → HasFaultBy at (keys rule xs)
failed_by rule xs x t kind at among is by =
    let key : Key = record { at = length t; place = Processor x.processor; kind = kind } in
    record {
      key = key;
      among = own_key rule xs x key among (subst (λ a. Contains (fault_of x.processor a) key) (sym is) (first key []));
      by = by;
    }

-- a row that always faults
pub own_by : (rule : Rule) (known : List Row) (k at : ℕ) (d : Row) → k < length known → FaultsSurely at (get_or known k d) →
    HaveFaultBy rule known at
own_by rule known k at d below surely faults xs parts =
    let h = sure_part faults known k d xs below surely.sure parts in
    by h.one h.among h.one.attempt refl (get_or known k d).effect (get_or known k d).trail.items surely.nothing surely.last h.by.tried
  where
    by : (x : Part) → Contains xs x → (a : Attempt meant.Effect) → x.attempt ≡ a → (e : Option Effect) (rs : Reaches) → e ≡ None →
        length rs ≡ at → IsTried (IsGivenBy e) rs faults a → HasFaultBy at (keys rule xs)
    by x among (Gives t g) is e rs none last tried = absurd (subst (λ o. IsGivenBy o g) none tried.0)
    by x among (Fails t kind) is e rs none last tried =
        let l = along_short rs t tried.0.along in failed_by rule xs x t kind at among is (omega (arith, l, last))

-- a position at which a row always faults, if there is one
pub found_by : (known : List Row) (k : ℕ) (d : Row) (o : Option ℕ) → k < length known →
    IfSome o (λ at. FaultsSurely at (get_or known k d)) → IfSome o (λ at. (rule : Rule) → HaveFaultBy rule known at)
found_by known k d None below surely = tt
found_by known k d (Some at) below surely = λ rule. own_by rule known k at d below surely

-- one of two positions
pub sooner_by : (P : ℕ → Type 0) (one two which : Option ℕ) → (which ≡ one) ⊎ (which ≡ two) → IfSome one P → IfSome two P → IfSome which P
sooner_by P one two which (inl e) h k = subst (λ o. IfSome o P) (sym e) h
sooner_by P one two which (inr e) h k = subst (λ o. IfSome o P) (sym e) k

-- what holds by any rule
pub by_rule : (known : List Row) (o : Option ℕ) (rule : Rule) → IfSome o (λ at. (rule : Rule) → HaveFaultBy rule known at) →
    IfSome o (HaveFaultBy rule known)
by_rule known None rule h = tt
by_rule known (Some at) rule h = h rule

-- so the parts have a fault
pub never_faultless : (p : Checked) (known : List Row) (sure : Option ℕ) (vs : List ℕ) (xs : List Part) → is_some sure ≡ true →
    IfSome sure (HaveFaultBy p.rule known) → IsAttempted p known vs xs → ⊥
never_faultless p known None vs xs e h a = cc e
never_faultless p known (Some at) vs xs e h a =
    let fault = h a.faults xs a.parts in
    not_empty (keys p.rule xs) fault.key fault.among (no_keys p.rule xs a.faultless)
