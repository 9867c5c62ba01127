-- The faults of a statement that are told at cells: reads that conflict, and what the rule has against the writes.
use Rattle.std.proofs.Common.{◌≡◌, ◌⊎◌, inl, inr, ℕ, zero, suc, ◌<◌, ℤ, pos, List, [], ◌∷◌, ◌++◌, Bool, true, false, if◌then◌else◌}
use Rattle.std.proofs.Common.{Option, Some, None, Ok, Err, Contains, flat_map, get_or, refl, ap, sym, ◌∙◌, subst, arith, length}
use Rattle.std.specs.List.{list_any}
use Rattle.std.proofs.lemmas.List.Elements.{Contains-append_cases}
use Rattle.pram_model.specs.declared.rule.Rule.{Rule}
use Rattle.pram_model.specs.declared.rule.Rule.TheVariants.{Common, Crew, Erew, Priority, Sum}
use Rattle.pram_model.proofs.Truths.{either}
use Rattle.pram_values.specs.declared.kind.Kind.{Kind}
use Rattle.pram_values.specs.declared.kind.Kind.TheVariants.{Overflow, WriteConflict}
use Rattle.pram_values.specs.declared.place.Place.TheVariants.{Cell}
use Rattle.pram_values.specs.Truth.{is_equal}
use Rattle.pram_values.specs.Value.{Value, fits}
use Rattle.write_rules.specs.declared.write.Write.{Write}
use Rattle.write_rules.specs.Rule.{common_value, shares_reads, sum_of, written}
use Rattle.write_rules.proofs.CommonFaults.{common_kind}
use Rattle.pram_meaning.specs.declared.key.Key.{Key}
use Rattle.pram_meaning.specs.declared.read.Read.{Read}
use Rattle.pram_meaning.specs.Attempt.{Attempt, Effect, Fails, Gives}
use Rattle.pram_meaning.specs.Conflict.{IsLeast, Part, cell_conflict, conflict_of, fault_of, is_conflict, keys, least, read_conflicts}
use Rattle.pram_meaning.specs.Conflict.{read_key, reads_of, value_key, write_conflict, writes_to}
use Rattle.pram_meaning.proofs.LeastKey.{least_is_least}

-- ---- what is in a list that is made of others

pub found : {X Y : Type 0} (f : X → List Y) (xs : List X) (y : Y) → Contains (flat_map f xs) y → (x : X) × Contains xs x × Contains (f x) y
found f [] y c = absurd (let l = c.1 in omega (arith, l))
found f (x ∷ xs) y c = elim (Contains-append_cases (f x) (flat_map f xs) y c) [
  | inl h ↦ (x, (0, omega arith, refl), h)
  | inr h ↦ let r = found f xs y h in let l = r.1.1 in (r.0, (suc r.1.0, omega (arith, l), r.1.2), r.2)
]

pub nothing_in : {Y : Type 0} (y : Y) → Contains [] y → ⊥
nothing_in y c = let l = c.1 in omega (arith, l)

at_first : {Y : Type 0} (y z : Y) (n : ℕ) → n < 1 → get_or (y ∷ []) n z ≡ z → z ≡ y
at_first y z zero h e = sym e
at_first y z (suc n) h e = absurd (omega (arith, h))

pub in_one : {Y : Type 0} (y z : Y) → Contains (y ∷ []) z → z ≡ y
in_one y z c = at_first y z c.0 c.1 c.2

-- ---- reads

-- a read of the statement that another is in conflict with, at whose position and cell the fault is told
pub record IsReadConflict (rule : Rule) (rs : List Read) (k : Key) : Type 0 where
  pub read : Read
  pub among : Contains rs read
  pub met : list_any (is_conflict read) rs ≡ true
  pub told : k ≡ read_key read
  pub exclusive : shares_reads rule ≡ false

in_conflicts : (rule : Rule) (rs : List Read) (r : Read) (k : Key) → shares_reads rule ≡ false → Contains rs r →
    Contains (conflict_of rs r) k → IsReadConflict rule rs k
in_conflicts rule rs r k one m h = by (either (list_any (is_conflict r) rs)) where
  by : (list_any (is_conflict r) rs ≡ true) ⊎ (list_any (is_conflict r) rs ≡ false) → IsReadConflict rule rs k
  by (inl a) = record {
    read = r;
    among = m;
    met = a;
    told = in_one (read_key r) k (subst (λ b. Contains (if b then read_key r ∷ [] else []) k) a h);
    exclusive = one;
  }
  by (inr a) = absurd (nothing_in k (subst (λ b. Contains (if b then read_key r ∷ [] else []) k) a h))

in_read_conflicts : (rule : Rule) (rs : List Read) (k : Key) → Contains (read_conflicts rule rs) k → IsReadConflict rule rs k
in_read_conflicts rule rs k h = by (shares_reads rule) refl h where
  by : (b : Bool) → shares_reads rule ≡ b → Contains (if b then [] else flat_map (conflict_of rs) rs) k → IsReadConflict rule rs k
  by true e h = absurd (nothing_in k h)
  by false e h = let f = found (conflict_of rs) rs k h in in_conflicts rule rs f.0 k e f.1 f.2

-- ---- writes

-- the rule has something against the writers of a cell, at which that is told
pub record IsWriteConflict (rule : Rule) (xs : List Part) (k : Key) : Type 0 where
  pub cell : ℕ
  pub place : k.place ≡ Cell cell
  pub against : written rule (pos 0) (writes_to cell xs) ≡ Err k.kind

in_value : (rule : Rule) (xs : List Part) (at c : ℕ) (k : Key) (v : Value) → written rule (pos 0) (writes_to c xs) ≡ v →
    Contains (value_key at c v) k → IsWriteConflict rule xs k
in_value rule xs at c k (Ok v) e h = absurd (nothing_in k h)
in_value rule xs at c k (Err d) e h =
    let s = in_one _ k h in
    record { cell = c; place = ap (λ (k : Key). k.place) s; against = e ∙ ap (λ (k : Key). Err k.kind) (sym s) }

in_cell : (rule : Rule) (xs : List Part) (at : ℕ) (o : Option ℕ) (k : Key) → Contains (cell_conflict rule xs at o) k →
    IsWriteConflict rule xs k
in_cell rule xs at None k h = absurd (nothing_in k h)
in_cell rule xs at (Some c) k h = in_value rule xs at c k (written rule (pos 0) (writes_to c xs)) refl h

in_write : (rule : Rule) (xs : List Part) (a : Attempt Effect) (k : Key) → Contains (write_conflict rule xs a) k → IsWriteConflict rule xs k
in_write rule xs (Gives t g) k h = in_cell rule xs (length t) g.cell k h
in_write rule xs (Fails t d) k h = absurd (nothing_in k h)

-- ---- whose a statement's fault is

abbrev pub IsOwn : List Part → Key → Type 0
IsOwn xs k = (x : Part) × Contains xs x × Contains (fault_of x.processor x.attempt) k

pub whose : (rule : Rule) (xs : List Part) (k : Key) → least (keys rule xs) ≡ Some k →
    IsOwn xs k ⊎ (IsReadConflict rule (reads_of xs) k ⊎ IsWriteConflict rule xs k)
whose rule xs k told =
    by (Contains-append_cases (owns ++ reads) writes k (subst (IsLeast (keys rule xs)) told (least_is_least (keys rule xs))).0)
  where
    owns : List Key
    owns = flat_map (λ (x : Part). fault_of x.processor x.attempt) xs

    reads : List Key
    reads = read_conflicts rule (reads_of xs)

    writes : List Key
    writes = flat_map (λ (x : Part). write_conflict rule xs x.attempt) xs

    among : Contains owns k ⊎ Contains reads k → IsOwn xs k ⊎ (IsReadConflict rule (reads_of xs) k ⊎ IsWriteConflict rule xs k)
    among (inl h) = inl (found (λ (x : Part). fault_of x.processor x.attempt) xs k h)
    among (inr h) = inr (inl (in_read_conflicts rule (reads_of xs) k h))

    by : Contains (owns ++ reads) k ⊎ Contains writes k → IsOwn xs k ⊎ (IsReadConflict rule (reads_of xs) k ⊎ IsWriteConflict rule xs k)
    by (inl h) = among (Contains-append_cases owns reads k h)
    by (inr h) =
        let w = found (λ (x : Part). write_conflict rule xs x.attempt) xs k h in inr (inr (in_write rule xs w.0.attempt k w.2))

-- ---- what a rule has against writers

checked_kind : (b : Bool) (z : ℤ) (d : Kind) → ◌≡◌ {A = Value} (if b then Ok z else Err Overflow) (Err d) → d ≡ Overflow
checked_kind true z d e = absurd (cc e)
checked_kind false z d e = cc e

pub written_kind : (rule : Rule) (ws : List Write) (d : Kind) → written rule (pos 0) ws ≡ Err d → (d ≡ WriteConflict) ⊎ (d ≡ Overflow)
written_kind rule [] d e = absurd (cc e)
written_kind Erew (w ∷ []) d e = absurd (cc e)
written_kind Erew (w ∷ v ∷ ws) d e = inl (cc e)
written_kind Crew (w ∷ []) d e = absurd (cc e)
written_kind Crew (w ∷ v ∷ ws) d e = inl (cc e)
written_kind Common (w ∷ ws) d e = inl (common_kind w.value ws d e)
written_kind Priority (w ∷ ws) d e = absurd (cc e)
written_kind Sum (w ∷ ws) d e = inr (checked_kind (fits (sum_of (w ∷ ws))) (sum_of (w ∷ ws)) d e)
