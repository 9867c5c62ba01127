-- Parts that can't be without a fault.
use Rattle.std.proofs.Common.{◌≡◌, ◌⊎◌, inl, inr, ℕ, zero, suc, ◌<◌, ◌≤◌, List, [], ◌∷◌, ◌++◌, length, refl, sym, subst, ap, ◌∙◌}
use Rattle.std.proofs.Common.{Bool, true, false, if◌then◌else◌, Option, Some, None, Ok, Err, ℤ, pos, ◌<ℤ◌, arith, tests, nat_eq, get_or}
use Rattle.std.specs.List.{Contains, flat_map}
use Rattle.std.proofs.lemmas.Int.{ints}
use Rattle.std.proofs.lemmas.List.Elements.{Contains-append_right}
use Rattle.pram_model.specs.declared.rule.Rule.{Rule}
use Rattle.pram_model.specs.declared.rule.Rule.TheVariants.{Erew, Crew, Common, Priority, Sum}
use Rattle.pram_values.specs.declared.kind.Kind.TheVariants.{WriteConflict}
use Rattle.pram_values.specs.Truth.{is_equal}
use Rattle.pram_values.specs.Value.{Value}
use Rattle.write_rules.specs.declared.write.Write.{Write}
use Rattle.write_rules.specs.Rule.{common_value, only_value, written}
use Rattle.intervals.specs.declared.interval.Interval.{Interval}
use Rattle.intervals.specs.Intervals.{IsIn}
use Rattle.pram_meaning.specs.Attempt as meant
use Rattle.pram_meaning.specs.Attempt.{Attempt, Gives, Fails}
use Rattle.pram_meaning.specs.Conflict.{Part, cell_conflict, fault_of, keys, least, read_conflicts, reads_of, value_key, write_conflict}
use Rattle.pram_meaning.specs.Conflict.{write_to, writes_by, writes_to}
use Rattle.abstract_runs.specs.declared.findings.Findings.{Findings}
use Rattle.abstract_runs.specs.declared.effect.Effect.{Effect}
use Rattle.abstract_runs.specs.declared.reach.Reach.{Reach}
use Rattle.abstract_runs.specs.declared.row.Row.{Row}
use Rattle.abstract_runs.specs.Effects.{IsGiven, IsGivenBy, IsGoneTo}
use Rattle.abstract_runs.specs.Given.{AreGiven, IsGiving}
use Rattle.abstract_runs.specs.Rows.{ArePartsBy, IsPartBy}
use Rattle.abstract_runs.specs.Rows as rows
use Rattle.abstract_runs.specs.Sure.{Clash, IsAgainst, WritesSurely}
use Rattle.abstract_runs.specs.Tried.{IsTried}
use Rattle.abstract_runs.proofs.Faultless.{all_given, no_keys, none_first, none_last}

-- ---- what a row surely writes

-- the only writes of a part are one to that cell, of such a value
pub record IsWrite (c : ℕ) (i : Interval) (ws : List Write) : Type 0 where
  pub write : Write
  pub is : ws ≡ write ∷ []
  pub value : IsIn write.value i

same_cell : (c d : ℕ) → d ≡ c → nat_eq c d ≡ true
same_cell c d e = grind (arith, tests, e)

gone : (c : ℕ) (i : ℤ) (v : ℤ) (reach : Option Reach) (r : Reach) (cell : Option ℕ) (values : Interval) → reach ≡ Some r → r.least ≡ c →
    r.most ≡ c → IsGoneTo reach cell → IsIn v values → IsWrite c values (write_to c i cell v)
gone c i v reach r None values is l m goes value = absurd (subst (λ o. IsGoneTo o None) is goes)
gone c i v reach r (Some d) values is l m goes value =
    let at = subst (λ o. IsGoneTo o (Some d)) is goes in
    let low = at.least in let high = at.most in
    let w : Write = record { processor = i; value = v } in
    record {
      write = w;
      is = ap (λ b. if b then w ∷ [] else []) (same_cell c d (omega (arith, low, high, l, m)));
      value = value;
    }

given_writes : (c : ℕ) (i : ℤ) (values : Interval) (effect : Option Effect) (e : Effect) (r : Reach) (t : meant.Trail) (g : meant.Effect) →
    effect ≡ Some e → e.value ≡ values → e.reach ≡ Some r → r.least ≡ c → r.most ≡ c → IsGivenBy effect g →
    IsWrite c values (write_to c i g.cell g.value)
given_writes c i values effect e r t g is same goes l m given =
    let k : IsGiven e g = subst (λ o. IsGivenBy o g) is given in
    gone c i g.value e.reach r g.cell values goes l m k.cell (subst (IsIn g.value) same k.value)

pub part_writes : (c : ℕ) (values : Interval) (faults : Findings) (row : Row) (x : Part) → WritesSurely c values row →
    IsPartBy faults row x →
    IsGiving x.attempt → IsWrite c values (writes_by c x.processor x.attempt)
part_writes c values faults row x w part given = by x.attempt part.tried given
  where
    by : (a : Attempt meant.Effect) → IsTried (IsGivenBy row.effect) row.trail.items faults a → IsGiving a →
        IsWrite c values (writes_by c x.processor a)
    by (Gives t g) tried given =
        given_writes c x.processor values row.effect w.effect w.reach t g w.is w.value w.goes w.least w.most tried.0
    by (Fails t kind) tried given = absurd given

-- ---- two rows

-- there is a write of a value of the interval
pub record Holds (i : Interval) (ws : List Write) : Type 0 where
  pub write : Write
  pub among : Contains ws write
  pub value : IsIn write.value i

holds_first : (c : ℕ) (i : Interval) (ws more : List Write) → IsWrite c i ws → Holds i (ws ++ more)
holds_first c i ws more w = record {
  write = w.write;
  among = subst (λ l. Contains (l ++ more) w.write) (sym w.is) (0, omega arith, refl);
  value = w.value;
}

holds_more : (i : Interval) (ws more : List Write) → Holds i more → Holds i (ws ++ more)
holds_more i ws more h = record { write = h.write; among = Contains-append_right ws more h.write h.among; value = h.value }

pub one_holds : (c : ℕ) (i : Interval) (faults : Findings) (known : List Row) (k : ℕ) (d : Row) (xs : List Part) → k < length known →
    WritesSurely c i (get_or known k d) → ArePartsBy faults known xs → AreGiven xs → Holds i (writes_to c xs)
one_holds c i faults [] k d xs below w parts given = absurd (omega (arith, below))
one_holds c i faults (row ∷ known) zero d (x ∷ xs) below w (rows.takes part parts) given =
    holds_first c i (writes_by c x.processor x.attempt) (writes_to c xs) (part_writes c i faults row x w part given.0)
one_holds c i faults (row ∷ known) (suc k) d (x ∷ xs) below w (rows.takes part parts) given =
    holds_more i (writes_by c x.processor x.attempt) (writes_to c xs)
    (one_holds c i faults known k d xs (omega (arith, below)) w parts given.1)
one_holds c i faults (row ∷ known) zero d xs below w (rows.passes unsure parts) given = absurd (cc (sym unsure ∙ w.sure))
one_holds c i faults (row ∷ known) (suc k) d xs below w (rows.passes unsure parts) given =
    one_holds c i faults known k d xs (omega (arith, below)) w parts given

-- there are two writes, and each of the values is written
record Both (i k : Interval) (ws : List Write) : Type 0 where
  two : 2 ≤ length ws
  one_of : Holds i ws
  other : Holds k ws

long : (w : Write) (ws : List Write) → Contains ws w → 1 ≤ length ws
long w ws c = let l = c.1 in omega (arith, l)

both_first : (c : ℕ) (i k : Interval) (ws more : List Write) → IsWrite c i ws → Holds k more → Both i k (ws ++ more)
both_first c i k ws more w h =
    let l = long h.write more h.among in
    record {
      two = subst (λ l. 2 ≤ length (l ++ more)) (sym w.is) (omega (arith, l));
      one_of = holds_first c i ws more w;
      other = holds_more k ws more h;
    }

longer : {A : Type 0} (xs ys : List A) → length ys ≤ length (xs ++ ys)
longer [] ys = omega arith
longer (x ∷ xs) ys = let l = longer xs ys in omega (arith, l)

both_more : (i k : Interval) (ws more : List Write) → Both i k more → Both i k (ws ++ more)
both_more i k ws more b =
    let t = b.two in let l = longer ws more in
    record { two = omega (arith, t, l); one_of = holds_more i ws more b.one_of; other = holds_more k ws more b.other }

two_hold : (c : ℕ) (i j : Interval) (faults : Findings) (known : List Row) (m n : ℕ) (d e : Row) (xs : List Part) → m < n →
    n < length known →
    WritesSurely c i (get_or known m d) → WritesSurely c j (get_or known n e) → ArePartsBy faults known xs → AreGiven xs →
    Both i j (writes_to c xs)
two_hold c i j faults [] m n d e xs before below v w parts given = absurd (omega (arith, below))
two_hold c i j faults (row ∷ known) m zero d e xs before below v w parts given = absurd (omega (arith, before))
two_hold c i j faults (row ∷ known) zero (suc n) d e (x ∷ xs) before below v w (rows.takes part parts) given =
    both_first c i j (writes_by c x.processor x.attempt) (writes_to c xs) (part_writes c i faults row x v part given.0)
    (one_holds c j faults known n e xs (omega (arith, below)) w parts given.1)
two_hold c i j faults (row ∷ known) (suc m) (suc n) d e (x ∷ xs) before below v w (rows.takes part parts) given =
    both_more i j (writes_by c x.processor x.attempt) (writes_to c xs)
    (two_hold c i j faults known m n d e xs (omega (arith, before)) (omega (arith, below)) v w parts given.1)
two_hold c i j faults (row ∷ known) zero (suc n) d e xs before below v w (rows.passes unsure parts) given = absurd
    (cc (sym unsure ∙ v.sure))
two_hold c i j faults (row ∷ known) (suc m) (suc n) d e xs before below v w (rows.passes unsure parts) given =
    two_hold c i j faults known m n d e xs (omega (arith, before)) (omega (arith, below)) v w parts given

-- ---- what the rule says of them

all_common : (x z : ℤ) (ws : List Write) (u : Write) → common_value x ws ≡ Ok z → Contains ws u → u.value ≡ x
all_common x z [] u e (k, below, is) = absurd (omega (arith, below))
all_common x z (w ∷ ws) u e c = by (is_equal x w.value) refl e c (all_common x z ws u)
  where
    by : (b : Bool) → is_equal x w.value ≡ b → (if b then common_value x ws else Err WriteConflict) ≡ Ok z → Contains (w ∷ ws) u →
        (common_value x ws ≡ Ok z → Contains ws u → u.value ≡ x) → u.value ≡ x
    by true same e (zero, below, is) more = ap (λ (w : Write). w.value) (sym is) ∙ grind (arith, ints, tests, same)
    by true same e (suc k, below, is) more = more e (k, omega (arith, below), is)
    by false same e c more = absurd (cc e)

all_of_first : (z : ℤ) (w : Write) (ws : List Write) (u : Write) → common_value w.value ws ≡ Ok z → Contains (w ∷ ws) u →
    u.value ≡ w.value
all_of_first z w ws u e (zero, below, is) = ap (λ (w : Write). w.value) (sym is)
all_of_first z w ws u e (suc k, below, is) = all_common w.value z ws u e (k, omega (arith, below), is)

only_one : (w : Write) (ws : List Write) (z : ℤ) → 2 ≤ length (w ∷ ws) → only_value w ws ≡ Ok z → ⊥
only_one w [] z two e = omega (arith, two)
only_one w (v ∷ ws) z two e = cc e

not_written : (rule : Rule) (i k : Interval) (ws : List Write) (z : ℤ) → IsAgainst rule i k → Both i k ws → written rule (pos 0) ws ≡ Ok z →
    ⊥
not_written rule i k [] z against b e = let t = b.two in absurd (omega (arith, t))
not_written Erew i k (w ∷ ws) z against b e = only_one w ws z b.two e
not_written Crew i k (w ∷ ws) z against b e = only_one w ws z b.two e
not_written Common i k (w ∷ ws) z against b e =
    let one = all_of_first z w ws b.one_of.write e b.one_of.among in
    let two = all_of_first z w ws b.other.write e b.other.among in
    let in_one = b.one_of.value in let in_two = b.other.value in
    elim against [
      | inl past ↦ apart b.one_of.write.value b.other.write.value (one ∙ sym two) in_one in_two past
      | inr past ↦ apart b.other.write.value b.one_of.write.value (two ∙ sym one) in_two in_one past
    ]
  where
    apart : {a b : Interval} (x y : ℤ) → x ≡ y → IsIn x a → IsIn y b → a.greatest <ℤ b.least → ⊥
    apart x y same in_a in_b past = let h = in_a in let l = in_b in omega (arith, ints, same, h, l, past)
not_written Priority i k (w ∷ ws) z against b e = against
not_written Sum i k (w ∷ ws) z against b e = against

-- ---- a fault is told of them

value_given : (at c : ℕ) (v : Value) → value_key at c v ≡ [] → (z : ℤ) × (v ≡ Ok z)
value_given at c (Ok z) e = (z, refl)
value_given at c (Err kind) e = absurd (cc e)

-- the rule has a value for what is written to the cell
abbrev pub IsSettled : Rule → ℕ → List Part → Type 0
IsSettled rule c all = (z : ℤ) × (written rule (pos 0) (writes_to c all) ≡ Ok z)

-- no write conflict is told, so nothing is written to the cell, or the rule has a value for it
pub settled_or_none : (rule : Rule) (c : ℕ) (all xs : List Part) → flat_map (λ x. write_conflict rule all x.attempt) xs ≡ [] → AreGiven xs →
    (writes_to c xs ≡ []) ⊎ IsSettled rule c all
settled_or_none rule c all [] e given = inl refl
settled_or_none rule c all (x ∷ xs) e given = by x.attempt given.0 e (settled_or_none rule c all xs)
  where
    at_cell : (t : meant.Trail) (d : ℕ) (v : ℤ) (b : Bool) → nat_eq c d ≡ b →
        value_key (length t) d (written rule (pos 0) (writes_to d all)) ++ flat_map (λ x. write_conflict rule all x.attempt) xs ≡ [] →
        (flat_map (λ x. write_conflict rule all x.attempt) xs ≡ [] → AreGiven xs → (writes_to c xs ≡ []) ⊎ IsSettled rule c all) →
        ((if b then record { processor = x.processor; value = v } ∷ [] else []) ++ writes_to c xs ≡ []) ⊎ IsSettled rule c all
    at_cell t d v true same e rest =
        let first = value_given (length t) d (written rule (pos 0) (writes_to d all)) (none_first _ _ e) in
        let is : d ≡ c = grind (arith, tests, same) in
        inr (first.0, subst (λ d. written rule (pos 0) (writes_to d all) ≡ Ok first.0) is first.1)
    at_cell t d v false same e rest = rest (none_last _ _ e) given.1

    by_cell : (t : meant.Trail) (cell : Option ℕ) (v : ℤ) →
        cell_conflict rule all (length t) cell ++ flat_map (λ x. write_conflict rule all x.attempt) xs ≡ [] →
        (flat_map (λ x. write_conflict rule all x.attempt) xs ≡ [] → AreGiven xs → (writes_to c xs ≡ []) ⊎ IsSettled rule c all) →
        (write_to c x.processor cell v ++ writes_to c xs ≡ []) ⊎ IsSettled rule c all
    by_cell t None v e rest = rest e given.1
    by_cell t (Some d) v e rest = at_cell t d v (nat_eq c d) refl e rest

    by : (a : Attempt meant.Effect) → IsGiving a →
        write_conflict rule all a ++ flat_map (λ x. write_conflict rule all x.attempt) xs ≡ [] →
        (flat_map (λ x. write_conflict rule all x.attempt) xs ≡ [] → AreGiven xs → (writes_to c xs ≡ []) ⊎ IsSettled rule c all) →
        (writes_by c x.processor a ++ writes_to c xs ≡ []) ⊎ IsSettled rule c all
    by (Gives t g) here e rest = by_cell t g.cell g.value e rest
    by (Fails t kind) here e rest = absurd here

pub clash_faults : (rule : Rule) (faults : Findings) (known : List Row) (m n : ℕ) (d e : Row) (xs : List Part) → m < n → n < length known →
    Clash rule (get_or known m d) (get_or known n e) → ArePartsBy faults known xs → least (keys rule xs) ≡ None → ⊥
clash_faults rule faults known m n d e xs before below clash parts none =
    let given = all_given rule xs none in
    let b = two_hold clash.cell clash.first clash.second faults known m n d e xs before below clash.one_writes clash.two_writes parts given
    in
    let no_writes = none_last (flat_map (λ x. fault_of x.processor x.attempt) xs ++ read_conflicts rule (reads_of xs))
    (flat_map (λ x. write_conflict rule xs x.attempt) xs) (no_keys rule xs none) in
    elim (settled_or_none rule clash.cell xs xs no_writes given) [
      | inl empty ↦ let t = b.two in let l = ap length empty in absurd (omega (arith, t, l))
      | inr value ↦ not_written rule clash.first clash.second (writes_to clash.cell xs) value.0 clash.against b value.1
    ]
