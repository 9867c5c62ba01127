-- The kind of a statement's fault is decided by its position and its place.
use Rattle.std.proofs.Common.{◌≡◌, ◌≢◌, ℕ, suc, ◌+◌, ◌≤◌, List, [], ◌∷◌, ◌++◌, map, length, get_or, Bool, true, false, if◌then◌else◌}
use Rattle.std.proofs.Common.{nat_eq, Option, Some, None, Ok, Err, ℤ, pos, refl, sym, ap, ◌∙◌, subst, arith}
use Rattle.std.proofs.lemmas.Bool.Decides.{nat_tests}
use Rattle.std.specs.List.{AllByRecursion, flat_map, list_any}
use Rattle.pram_model.specs.declared.rule.Rule.{Rule}
use Rattle.pram_values.specs.declared.kind.Kind.{Kind}
use Rattle.pram_values.specs.declared.kind.Kind.TheVariants.{Overflow, ReadConflict}
use Rattle.pram_values.specs.declared.place.Place.{Place}
use Rattle.pram_values.specs.declared.place.Place.TheVariants.{All, Processor, Cell}
use Rattle.pram_values.specs.Truth.{is_equal}
use Rattle.pram_values.specs.Value.{Value}
use Rattle.write_rules.specs.Rule.{written, shares_reads}
use Rattle.pram_meaning.specs.declared.read.Read.{Read}
use Rattle.pram_meaning.specs.Attempt.{Attempt, Gives, Fails, Trail, Effect}
use Rattle.pram_meaning.specs.Conflict.{Part, cell_conflict, conflict_of, fault_of, is_conflict, keys, read_conflicts, read_key, reads_of}
use Rattle.pram_meaning.specs.Conflict.{reads_on, trail_of, value_key, write_conflict, writes_to}
use Rattle.statement_evaluation.specs.Whole.{Step, Whole, unless_noted, upto, cut}
use Rattle.statement_evaluation.specs.Rows.{trail}
use Rattle.statement_evaluation.proofs.Order.{IsOfKind}
use Rattle.statement_evaluation.proofs.Cuts.{left, left_reads, trail_left}
use Rattle.statement_evaluation.proofs.Askers.{IsApart, unequal}
use Rattle.statement_evaluation.proofs.WriteCells.{IsFull, full_whole, put_by}
use Rattle.statement_evaluation.specs.Noted.{Heading}
use Rattle.statement_evaluation.proofs.ReadColumns.{part}
use Rattle.pram_values.proofs.TruthValues.{is_equal-self}

-- ---- lists

pub all_both : {A : Type 0} (P : A → Type 0) (xs ys : List A) → AllByRecursion P xs → AllByRecursion P ys → AllByRecursion P (xs ++ ys)
all_both P [] ys a b = b
all_both P (x ∷ xs) ys a b = (a.0, all_both P xs ys a.1 b)

-- what holds of a read by its position and cell holds of each read of a trail
reads_have : (P : Read → Type 0) (i : ℤ) (t : Trail) (k : ℕ) →
    ((d c : ℕ) → get_or t d None ≡ Some c → P (record { processor = i; at = k + d + 1; cell = c })) →
    AllByRecursion P (reads_on i k t)
reads_have P i [] k h = tt
reads_have P i (None ∷ t) k h =
    reads_have P i t (k + 1) (λ d c e. subst (λ q. P (record { processor = i; at = q; cell = c }))
    (let f : k + suc d + 1 ≡ k + 1 + d + 1 = omega arith in f) (h (suc d) c e))
reads_have P i (Some b ∷ t) k h = (
  subst (λ q. P (record { processor = i; at = q; cell = b })) (let f : k + 0 + 1 ≡ k + 1 = omega arith in f) (h 0 b refl),
  reads_have P i t (k + 1) (λ d c e. subst (λ q. P (record { processor = i; at = q; cell = c }))
      (let f : k + suc d + 1 ≡ k + 1 + d + 1 = omega arith in f) (h (suc d) c e)),
)

-- ---- one attempt

-- it gives the effect of its evaluation
put_none : (ss : List Step) (g : Effect) (t : Trail) → g.cell ≡ None → (a : Attempt Effect) → upto t ss g ≡ a → put_by a ≡ None
put_none ss g t f a e = sym (ap put_by e) ∙ go ss t
  where
    go : (ss : List Step) (t : Trail) → put_by (upto t ss g) ≡ None
    go [] t = f
    go (s ∷ ss) t = by s.note (go ss (t ++ s.cell ∷ []))
      where
        by : (n : Option Kind) → put_by (upto (t ++ s.cell ∷ []) ss g) ≡ None →
            put_by (unless_noted n t (upto (t ++ s.cell ∷ []) ss g)) ≡ None
        by None r = r
        by (Some kind) r = refl

-- ---- kinds

abbrev failing : Attempt Effect → Kind
failing (Gives t x) = Overflow
failing (Fails t k) = k

abbrev against : Value → Kind
against (Ok v) = ReadConflict
against (Err k) = k

module _ (h : Heading) (rule : Rule) (index : ℕ → ℤ) (w : ℕ → Whole Effect) where
  -- how the processor of that index fails
  abbrev failure : List ℕ → ℤ → Kind
  failure [] i = Overflow
  failure (v ∷ vs) i = if is_equal (index v) i then failing (cut (w v)) else failure vs i

  found : (vs : List ℕ) → IsApart index vs → AllByRecursion (λ v. failing (cut (w v)) ≡ failure vs (index v)) vs
  found [] a = tt
  found (v ∷ vs) a =
      (sym (ap (λ b. if b then failing (cut (w v)) else failure vs (index v)) (is_equal-self (index v))), behind vs a.0 (found vs a.1))
    where
      behind : (us : List ℕ) → AllByRecursion (λ u. index v ≢ index u) us →
          AllByRecursion (λ u. failing (cut (w u)) ≡ failure vs (index u)) us →
          AllByRecursion (λ u. failing (cut (w u)) ≡ (if is_equal (index v) (index u) then failing (cut (w v)) else failure vs (index u)))
          us
      behind [] a f = tt
      behind (u ∷ us) a f = (
        f.0 ∙ sym (ap (λ b. if b then failing (cut (w v)) else failure vs (index u)) (unequal (index v) (index u) a.0)),
        behind us a.1 f.1,
      )

  module _ (vs : List ℕ) where
    abbrev xs : List Part
    xs = map (part h index w) vs

    -- where `last` is the position of the statement's write, if it writes
    abbrev pub kind_at : (last : Option ℕ) → ℕ → Place → Kind
    kind_at last at All = Overflow
    kind_at last at (Processor i) = failure vs i
    kind_at None at (Cell c) = ReadConflict
    kind_at (Some n) at (Cell c) = if nat_eq at n then against (written rule (pos 0) (writes_to c xs)) else ReadConflict

    -- a processor that writes there, or nowhere, and reads nothing at that position
    abbrev pub WritesAt : Option ℕ → Whole Effect → Type 0
    WritesAt None x = x.value.cell ≡ None
    WritesAt (Some n) x = (length x.steps ≡ n) × ((d : ℕ) → n ≤ d + 1 → get_or (trail x.steps) d None ≡ None)

    module _ (last : Option ℕ) where
      own_kinds : (us : List ℕ) → AllByRecursion (λ v. failing (cut (w v)) ≡ failure vs (index v)) us →
          AllByRecursion (IsOfKind (kind_at last)) (flat_map (λ (x : Part). fault_of x.processor x.attempt) (map (part h index w) us))
      own_kinds [] f = tt
      own_kinds (v ∷ us) f =
          all_both (IsOfKind (kind_at last)) (fault_of (index v) (cut (w v)))
          (flat_map (λ (x : Part). fault_of x.processor x.attempt) (map (part h index w) us)) (one (cut (w v)) f.0) (own_kinds us f.1)
        where
          one : (a : Attempt Effect) → failing a ≡ failure vs (index v) → AllByRecursion (IsOfKind (kind_at last)) (fault_of (index v) a)
          one (Gives t x) e = tt
          one (Fails t k) e = (e, tt)

      -- ---- reads

      abbrev IsReadKind : Read → Type 0
      IsReadKind r = ReadConflict ≡ kind_at last r.at (Cell r.cell)

      conflict_kinds : (all rs : List Read) → AllByRecursion IsReadKind rs →
          AllByRecursion (IsOfKind (kind_at last)) (flat_map (conflict_of all) rs)
      conflict_kinds all [] f = tt
      conflict_kinds all (r ∷ rs) f =
          all_both (IsOfKind (kind_at last)) (conflict_of all r) (flat_map (conflict_of all) rs) (one (list_any (is_conflict r) all))
          (conflict_kinds all rs f.1)
        where
          one : (b : Bool) → AllByRecursion (IsOfKind (kind_at last)) (if b then read_key r ∷ [] else [])
          one true = (f.0, tt)
          one false = tt

    one_read : (last : Option ℕ) (v : ℕ) → WritesAt last (w v) → (d c : ℕ) → get_or (left (w v).steps) d None ≡ Some c →
        ReadConflict ≡ kind_at last (0 + d + 1) (Cell c)
    one_read None v f d c e = refl
    one_read (Some n) v f d c e = go (nat_eq (0 + d + 1) n) refl
      where
        go : (b : Bool) → nat_eq (0 + d + 1) n ≡ b → ReadConflict
            ≡ (if b then against (written rule (pos 0) (writes_to c xs)) else ReadConflict)
        go true g = absurd (cc (
          left_reads (w v).steps d c e,
          f.1 d (let k : 0 + d + 1 ≡ n = grind (arith, nat_tests, g) in omega (arith, k)),
        ))
        go false g = refl

    read_kinds : (last : Option ℕ) (us : List ℕ) → AllByRecursion (λ v. WritesAt last (w v)) us →
        AllByRecursion (IsReadKind last) (reads_of (map (part h index w) us))
    read_kinds last [] f = tt
    read_kinds last (v ∷ us) f =
        all_both (IsReadKind last) (reads_on (index v) 0 (trail_of (cut (w v)))) (reads_of (map (part h index w) us))
        (subst (λ t. AllByRecursion (IsReadKind last) (reads_on (index v) 0 t)) (sym (trail_left (w v).steps (w v).value []))
        (reads_have (IsReadKind last) (index v) (left (w v).steps) 0 (one_read last v f.0)))
        (read_kinds last us f.1)

    -- ---- writes

    value_kinds : (n c : ℕ) (v : Value) → v ≡ written rule (pos 0) (writes_to c xs) →
        AllByRecursion (IsOfKind (kind_at (Some n))) (value_key n c v)
    value_kinds n c (Ok v) e = tt
    value_kinds n c (Err k) e = (
      ap against e ∙ sym (ap (λ b. if b then against (written rule (pos 0) (writes_to c xs)) else ReadConflict)
          (let g : nat_eq n n ≡ true = grind (arith, nat_tests) in g)),
      tt,
    )

    write_by : (last : Option ℕ) (v : ℕ) (a : Attempt Effect) → WritesAt last (w v) → cut (w v) ≡ a →
        AllByRecursion (IsOfKind (kind_at last)) (write_conflict rule xs a)
    write_by last v (Fails t k) f e = tt
    write_by None v (Gives t x) f e = none x.cell (put_none (w v).steps (w v).value [] f (Gives t x) e)
      where
        none : (o : Option ℕ) → o ≡ None → AllByRecursion (IsOfKind (kind_at None)) (cell_conflict rule xs (length t) o)
        none None g = tt
        none (Some c) g = absurd (cc g)
    write_by (Some n) v (Gives t x) f e = at x.cell (subst (IsFull (length (w v).steps)) e (full_whole (w v)))
      where
        at : (o : Option ℕ) → length t ≡ length (w v).steps →
            AllByRecursion (IsOfKind (kind_at (Some n))) (cell_conflict rule xs (length t) o)
        at None g = tt
        at (Some c) g =
            subst (λ q. AllByRecursion (IsOfKind (kind_at (Some n))) (value_key q c (written rule (pos 0) (writes_to c xs))))
            (sym (g ∙ f.0))
            (value_kinds n c (written rule (pos 0) (writes_to c xs)) refl)

    write_kinds : (last : Option ℕ) (us : List ℕ) → AllByRecursion (λ v. WritesAt last (w v)) us →
        AllByRecursion (IsOfKind (kind_at last)) (flat_map (λ (x : Part). write_conflict rule xs x.attempt) (map (part h index w) us))
    write_kinds last [] f = tt
    write_kinds last (v ∷ us) f =
        all_both (IsOfKind (kind_at last)) (write_conflict rule xs (cut (w v)))
        (flat_map (λ (x : Part). write_conflict rule xs x.attempt) (map (part h index w) us))
        (write_by last v (cut (w v)) f.0 refl) (write_kinds last us f.1)

    -- ---- all

    pub kinds_decided : (last : Option ℕ) → IsApart index vs → AllByRecursion (λ v. WritesAt last (w v)) vs →
        AllByRecursion (IsOfKind (kind_at last)) (keys rule xs)
    kinds_decided last a f =
        all_both (IsOfKind (kind_at last)) (flat_map (λ (x : Part). fault_of x.processor x.attempt) xs ++ read_conflicts rule
        (reads_of xs)) (flat_map (λ (x : Part). write_conflict rule xs x.attempt) xs)
        (all_both (IsOfKind (kind_at last)) (flat_map (λ (x : Part). fault_of x.processor x.attempt) xs)
        (read_conflicts rule (reads_of xs)) (own_kinds last vs (found vs a)) (shared (shares_reads rule)))
        (write_kinds last vs f)
      where
        shared : (b : Bool) → AllByRecursion (IsOfKind (kind_at last))
            (if b then [] else flat_map (conflict_of (reads_of xs)) (reads_of xs))
        shared true = tt
        shared false = conflict_kinds last (reads_of xs) (reads_of xs) (read_kinds last vs f)
