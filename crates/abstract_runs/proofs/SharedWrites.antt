-- Writes of several processors, and the rows in which they are known.
use Rattle.std.proofs.Common.{◌≡◌, ◌⊎◌, inl, inr, ℕ, suc, List, [], ◌∷◌, ◌++◌, length, refl, sym, subst, ap, ◌∙◌}
use Rattle.std.proofs.Common.{Bool, true, false, if◌then◌else◌, Option, Some, None, IfSome, Ok, Err, ◌≤◌, ℤ, pos, ◌+ℤ◌, ◌≤ℤ◌, arith, tests}
use Rattle.std.proofs.Common.{nat_eq}
use Rattle.std.specs.List.{Contains, All, flat_map}
use Rattle.std.proofs.lemmas.Int.{ints, int_min_is, int_max_is}
use Rattle.std.proofs.lemmas.List.Elements.{All-head, All-tail}
use Rattle.pram_model.specs.declared.rule.Rule.{Rule}
use Rattle.pram_model.specs.declared.rule.Rule.TheVariants.{Erew, Crew, Common, Priority, Sum}
use Rattle.pram_values.specs.declared.kind.Kind.{Kind}
use Rattle.pram_values.specs.declared.kind.Kind.TheVariants.{Overflow, WriteConflict}
use Rattle.pram_values.specs.Truth.{is_equal}
use Rattle.pram_values.specs.Value.{Value, checked, fits}
use Rattle.write_rules.specs.declared.write.Write.{Write}
use Rattle.write_rules.specs.Rule.{written, only_value, common_value, sum_of}
use Rattle.write_rules.proofs.CommonFaults.{common_kind}
use Rattle.pram_meaning.specs.Attempt.{Attempt, Gives, Fails, Effect}
use Rattle.pram_meaning.specs.Conflict.{Part, write_to, writes_by, writes_to, value_key, cell_conflict, write_conflict}
use Rattle.pram_meaning.specs.declared.key.Key.{Key}
use Rattle.intervals.specs.declared.interval.Interval.{Interval}
use Rattle.intervals.specs.Intervals.{IsIn}
use Rattle.abstract_runs.specs.declared.effect as known
use Rattle.abstract_runs.specs.declared.findings.Findings.{Findings}
use Rattle.abstract_runs.specs.declared.reach.Reach.{Reach}
use Rattle.abstract_runs.specs.declared.row.Row.{Row}
use Rattle.abstract_runs.specs.Alike.{AreAlike}
use Rattle.abstract_runs.specs.Apart.{Reaches, AreApart}
use Rattle.abstract_runs.specs.Columns.{targets, reach_in, value_in, low_of, high_of, low_sum, high_sum, AreWords, HasWords, IsOnly}
use Rattle.abstract_runs.specs.Columns.{GivesBehind, WritesOnly, NeverClash, kind_under}
use Rattle.abstract_runs.specs.Covers.{IsReached}
use Rattle.abstract_runs.specs.Effects.{IsGivenBy, IsGoneTo}
use Rattle.abstract_runs.specs.Rows.{ArePartsBy, IsPartBy}
use Rattle.abstract_runs.specs.Rows as rows
use Rattle.abstract_runs.specs.Tried.{IsTried}
use Rattle.abstract_runs.proofs.Among.{all_at, comes_from, first_or_rest, none_there}
use Rattle.abstract_runs.proofs.SharedReads.{row_of}

-- ---- what a row's processor writes to a cell

-- it goes to that cell, and the value is one that the row knows
pub record IsWriteOf (c : ℕ) (e : Option known.Effect.Effect) (w : Write) : Type 0 where
  pub reach : Reach
  pub goes : reach_in e ≡ Some reach
  pub reached : IsReached c reach
  pub value : Interval
  pub given : value_in e ≡ Some value
  pub in_value : IsIn w.value value

-- nothing, or one write
abbrev pub WritesOne : ℕ → Option known.Effect.Effect → List Write → Type 0
WritesOne c e ws = (ws ≡ []) ⊎ ((w : Write) × (ws ≡ w ∷ []) × IsWriteOf c e w)

same_cell : (c d : ℕ) (e : Option known.Effect.Effect) (w : Write) (reach : Reach) (i : Interval) → reach_in e ≡ Some reach →
    value_in e ≡ Some i →
    IsReached d reach → IsIn w.value i → (b : Bool) → nat_eq c d ≡ b → WritesOne c e (if nat_eq c d then w ∷ [] else [])
same_cell c d e w reach i goes given at in_value true t =
    let same : d ≡ c = grind (arith, tests, t) in
    inr (
      w,
      ap (λ b. if b then w ∷ [] else []) t,
      record {
        reach = reach;
        goes = goes;
        reached = subst (λ c. IsReached c reach) same at;
        value = i;
        given = given;
        in_value = in_value;
      },
    )
same_cell c d e w reach i goes given at in_value false t = inl (ap (λ b. if b then w ∷ [] else []) t)

given_writes : (c : ℕ) (p : ℤ) (value : Interval) (reach : Option Reach) (cell : Option ℕ) (v : ℤ) → IsIn v value → IsGoneTo reach cell →
    WritesOne c (Some (record { value = value; reach = reach })) (write_to c p cell v)
given_writes c p value None None v i h = inl refl
given_writes c p value None (Some d) v i h = absurd h
given_writes c p value (Some reach) None v i h = absurd h
given_writes c p value (Some reach) (Some d) v i h =
    same_cell c d (Some (record { value = value; reach = Some reach })) (record { processor = p; value = v }) reach value refl refl h i
    (nat_eq c d) refl

pub writes_one : (c : ℕ) (p : ℤ) (e : Option known.Effect.Effect) (rs : List (Option Reach)) (f : Findings) (a : Attempt Effect) →
    IsTried (IsGivenBy e) rs f a → WritesOne c e (writes_by c p a)
writes_one c p e rs f (Fails t k) h = inl refl
writes_one c p None rs f (Gives t g) h = absurd h.0
writes_one c p (Some e) rs f (Gives t g) h = given_writes c p e.value e.reach g.cell g.value h.0.value h.0.cell

-- ---- the kind of a fault

only_kind : (w : Write) (ws : List Write) (k : Kind) → only_value w ws ≡ Err k → k ≡ WriteConflict
only_kind w [] k e = absurd (cc e)
only_kind w (v ∷ vs) k e = cc e

checked_kind : (z : ℤ) (k : Kind) (b : Bool) → fits z ≡ b → checked z ≡ Err k → k ≡ Overflow
checked_kind z k true t e =
    let same : (if true then Ok z else Err Overflow) ≡ Err k = subst (λ b. (if b then Ok z else Err Overflow) ≡ Err k) t e in
    absurd (cc same)
checked_kind z k false t e =
    let same : (if false then Ok z else Err Overflow) ≡ Err k = subst (λ b. (if b then Ok z else Err Overflow) ≡ Err k) t e in
    cc same

pub kind_is : (rule : Rule) (ws : List Write) (k : Kind) → written rule (pos 0) ws ≡ Err k → k ≡ kind_under rule
kind_is rule [] k e = absurd (cc e)
kind_is Erew (w ∷ ws) k e = only_kind w ws k e
kind_is Crew (w ∷ ws) k e = only_kind w ws k e
kind_is Common (w ∷ ws) k e = common_kind w.value ws k e
kind_is Priority (w ∷ ws) k e = absurd (cc e)
kind_is Sum (w ∷ ws) k e = checked_kind (sum_of (w ∷ ws)) k (fits (sum_of (w ∷ ws))) refl e

-- a key of a write conflict
pub record IsClash (rule : Rule) (xs : List Part) (key : Key) : Type 0 where
  pub cell : ℕ
  pub clash : written rule (pos 0) (writes_to cell xs) ≡ Err key.kind

value_clash : (at c : ℕ) (v : Value) (key : Key) → Contains (value_key at c v) key → v ≡ Err key.kind
value_clash at c (Ok v) key h = absurd (none_there key h)
value_clash at c (Err k) key h = elim (first_or_rest _ [] key h) [
  | inl e ↦ ap Err (sym (ap (λ (key : Key). key.kind) e))
  | inr there ↦ absurd (none_there key there)
]

cell_clash : (rule : Rule) (xs : List Part) (at : ℕ) (cell : Option ℕ) (key : Key) → Contains (cell_conflict rule xs at cell) key →
    IsClash rule xs key
cell_clash rule xs at None key h = absurd (none_there key h)
cell_clash rule xs at (Some c) key h = record { cell = c; clash = value_clash at c (written rule (pos 0) (writes_to c xs)) key h }

attempt_clash : (rule : Rule) (xs : List Part) (a : Attempt Effect) (key : Key) → Contains (write_conflict rule xs a) key →
    IsClash rule xs key
attempt_clash rule xs (Gives t g) key h = cell_clash rule xs (length t) g.cell key h
attempt_clash rule xs (Fails t k) key h = absurd (none_there key h)

pub some_clash : (rule : Rule) (xs : List Part) (key : Key) → Contains (flat_map (λ x. write_conflict rule xs x.attempt) xs) key →
    IsClash rule xs key
some_clash rule xs key h =
    let from = comes_from (λ (x : Part). write_conflict rule xs x.attempt) xs key h in
    attempt_clash rule xs from.one.attempt key from.gives

pub clash_kind : (rule : Rule) (xs : List Part) (key : Key) → Contains (flat_map (λ x. write_conflict rule xs x.attempt) xs) key →
    key.kind ≡ kind_under rule
clash_kind rule xs key h = let one = some_clash rule xs key h in kind_is rule (writes_to one.cell xs) key.kind one.clash

-- ---- where it is told

value_at : (at c : ℕ) (v : Value) (key : Key) → Contains (value_key at c v) key → key.at ≡ at
value_at at c (Ok v) key h = absurd (none_there key h)
value_at at c (Err k) key h = elim (first_or_rest _ [] key h) [
  | inl e ↦ ap (λ (key : Key). key.at) e
  | inr there ↦ absurd (none_there key there)
]

cell_at : (rule : Rule) (xs : List Part) (at : ℕ) (cell : Option ℕ) (key : Key) → Contains (cell_conflict rule xs at cell) key → key.at ≡ at
cell_at rule xs at None key h = absurd (none_there key h)
cell_at rule xs at (Some c) key h = value_at at c (written rule (pos 0) (writes_to c xs)) key h

given_behind : (at n : ℕ) (e : Option known.Effect.Effect) (g : Effect) → IfSome e (λ e. at ≤ n) → IsGivenBy e g → at ≤ n
given_behind at n None g h given = absurd given
given_behind at n (Some e) g h given = h

attempt_behind : (rule : Rule) (xs : List Part) (f : Findings) (row : Row) (at : ℕ) (a : Attempt Effect) (key : Key) → GivesBehind at row →
    IsTried (IsGivenBy row.effect) row.trail.items f a → Contains (write_conflict rule xs a) key → at ≤ key.at
attempt_behind rule xs f row at (Gives t g) key h tried c =
    let here = cell_at rule xs (length t) g.cell key c in
    let all = tried.1.all in
    let l = given_behind at (length row.trail.items) row.effect g h tried.0 in omega (arith, here, all, l)
attempt_behind rule xs f row at (Fails t k) key h tried c = absurd (none_there key c)

-- where each row that gives something does so behind a position, so is each fault of writers
pub clash_behind : (f : Findings) (rule : Rule) (rs : List Row) (xs : List Part) (key : Key) (at : ℕ) → All (GivesBehind at) rs →
    ArePartsBy f rs xs → Contains (flat_map (λ x. write_conflict rule xs x.attempt) xs) key → at ≤ key.at
clash_behind f rule rs xs key at behind parts h =
    let from = comes_from (λ (x : Part). write_conflict rule xs x.attempt) xs key h in
    let x = row_of f rs xs from.one parts from.among in
    attempt_behind rule xs f x.row at from.one.attempt key (all_at (GivesBehind at) rs x.place x.row behind x.is) x.part.tried from.gives

pub never_key : (before : Findings) (rule : Rule) (alike : Bool) (rs : List Row) (xs : List Part) (key : Key) → NeverClash rule alike rs →
    ArePartsBy before rs xs → (alike ≡ true → AreAlike xs) →
    Contains (flat_map (λ x. write_conflict rule xs x.attempt) xs) key → ⊥
never_key before rule alike rs xs key never parts same h =
    let one = some_clash rule xs key h in
    never before xs one.cell key.kind parts same one.clash

-- ---- writes that are apart

-- a row's write is one of all
target_at : (rs : List Row) (row : Row) (c : ℕ) (w : Write) → IsWriteOf c row.effect w → Reaches (targets (row ∷ rs)) 0 c
target_at rs row c w h = record { reach = h.reach; is = ap Some h.goes; reached = h.reached }

target_behind : (rs : List Row) (row : Row) (j c : ℕ) → Reaches (targets rs) j c → Reaches (targets (row ∷ rs)) (suc j) c
target_behind rs row j c r = record { reach = r.reach; is = r.is; reached = r.reached }

apart_behind : (rs : List Row) (row : Row) → AreApart (targets (row ∷ rs)) → AreApart (targets rs)
apart_behind rs row apart = λ i j c one other.
    let same : suc i ≡ suc j = apart (suc i) (suc j) c (target_behind rs row i c one) (target_behind rs row j c other) in
    omega (arith, same)

only_one : (rs : List Row) (row : Row) (c : ℕ) (w : Write) → AreApart (targets (row ∷ rs)) → IsWriteOf c row.effect w → (j : ℕ) →
    Reaches (targets rs) j c → ⊥
only_one rs row c w apart one j r =
    let same : 0 ≡ suc j = apart 0 (suc j) c (target_at rs row c w one) (target_behind rs row j c r) in
    absurd (omega (arith, same))

none_written : (f : Findings) (rs : List Row) (xs : List Part) (c : ℕ) → ((j : ℕ) → Reaches (targets rs) j c → ⊥) → ArePartsBy f rs xs →
    writes_to c xs ≡ []
none_written f [] [] c none parts = refl
none_written f [] (x ∷ xs) c none parts = elim parts [ ]
none_written f (row ∷ rs) (x ∷ xs) c none (rows.takes one more) =
    elim (writes_one c x.processor row.effect row.trail.items f x.attempt one.tried) [
      | inl e ↦ ap (λ ws. ws ++ writes_to c xs) e ∙ none_written f rs xs c (λ j r. none (suc j) (target_behind rs row j c r)) more
      | inr w ↦ absurd (none 0 (target_at rs row c w.0 w.2))
    ]
none_written f (row ∷ rs) xs c none (rows.passes unsure more) =
    none_written f rs xs c (λ j r. none (suc j) (target_behind rs row j c r)) more

-- ---- one write alone

-- no write, or one of 64 bits
abbrev pub IsLone : List Write → Type 0
IsLone ws = (ws ≡ []) ⊎ ((w : Write) × (ws ≡ w ∷ []) × (fits w.value ≡ true))

between_words : (a z b : ℤ) → fits a ≡ true → fits b ≡ true → a ≤ℤ z → z ≤ℤ b → fits z ≡ true
between_words a z b p q l m = grind (arith, ints, tests, p, q, l, m)

lone_value : (o : Option Interval) (i : Interval) (v : ℤ) → AreWords o → o ≡ Some i → IsIn v i → fits v ≡ true
lone_value None i v h e x = absurd (cc e)
lone_value (Some j) i v h e x =
    let same : j ≡ i = cc e in
    let words = subst (λ i. AreWords (Some i)) same h in
    between_words i.least v i.greatest words.0 words.1 x.least x.greatest

pub lone : (f : Findings) (rs : List Row) (xs : List Part) (c : ℕ) → AreApart (targets rs) → All HasWords rs → ArePartsBy f rs xs →
    IsLone (writes_to c xs)
lone f [] [] c apart words parts = inl refl
lone f [] (x ∷ xs) c apart words parts = elim parts [ ]
lone f (row ∷ rs) (x ∷ xs) c apart words (rows.takes one more) =
    elim (writes_one c x.processor row.effect row.trail.items f x.attempt one.tried) [
      | inl e ↦ subst (λ ws. IsLone (ws ++ writes_to c xs)) (sym e)
          (lone f rs xs c (apart_behind rs row apart) (All-tail HasWords row rs words) more)
      | inr w ↦ inr (
        w.0,
        ap (λ ws. ws ++ writes_to c xs) w.1
            ∙ ap (λ ws. w.0 ∷ ws) (none_written f rs xs c (only_one rs row c w.0 apart w.2) more),
        lone_value (value_in row.effect) w.2.value w.0.value (All-head HasWords row rs words) w.2.given w.2.in_value,
      )
    ]
lone f (row ∷ rs) xs c apart words (rows.passes unsure more) =
    lone f rs xs c (apart_behind rs row apart) (All-tail HasWords row rs words) more

lone_sum : (v : ℤ) → fits v ≡ true → checked (v +ℤ pos 0) ≡ Ok v
lone_sum v e =
    let zero_more : v +ℤ pos 0 ≡ v = grind (arith, ints) in
    subst (λ z. (if fits z then Ok z else Err Overflow) ≡ Ok v) (sym zero_more) (ap (λ b. if b then Ok v else Err Overflow) e)

lone_written : (rule : Rule) (w : Write) → fits w.value ≡ true → written rule (pos 0) (w ∷ []) ≡ Ok w.value
lone_written Erew w e = refl
lone_written Crew w e = refl
lone_written Common w e = refl
lone_written Priority w e = refl
lone_written Sum w e = lone_sum w.value e

lone_never : (rule : Rule) (ws : List Write) (k : Kind) → IsLone ws → written rule (pos 0) ws ≡ Err k → ⊥
lone_never rule ws k (inl none) e = let f = subst (λ ws. written rule (pos 0) ws ≡ Err k) none e in absurd (cc f)
lone_never rule ws k (inr one) e =
    let f = subst (λ ws. written rule (pos 0) ws ≡ Err k) one.1 e in
    let g = lone_written rule one.0 one.2 in absurd (cc (f, g))

pub apart_never : (rule : Rule) (alike : Bool) (rs : List Row) → AreApart (targets rs) → All HasWords rs → NeverClash rule alike rs
apart_never rule alike rs apart words = λ before xs c k parts same e.
    lone_never rule (writes_to c xs) k (lone before rs xs c apart words parts) e

-- ---- by priority

pub priority_never : (alike : Bool) (rs : List Row) → NeverClash Priority alike rs
priority_never alike rs = λ before xs c k parts same e. by (writes_to c xs) k e
  where
    by : (ws : List Write) (k : Kind) → written Priority (pos 0) ws ≡ Err k → ⊥
    by [] k e = absurd (cc e)
    by (w ∷ ws) k e = absurd (cc e)

-- ---- one common value

only_value_is : (x v : ℤ) (o : Option Interval) (i : Interval) → IsOnly x o → o ≡ Some i → IsIn v i → x ≡ v
only_value_is x v None i h e at = absurd (cc e)
only_value_is x v (Some j) i h e at =
    let same : j ≡ i = cc e in
    let point = subst (λ i. IsOnly x (Some i)) same h in
    let a = point.0 in
    let b = point.1 in
    let l = at.least in
    let m = at.greatest in
    grind (arith, ints, a, b, l, m)

pub common_more : (x : ℤ) (w : Write) (ws : List Write) → x ≡ w.value → common_value x ws ≡ Ok x → common_value x (w ∷ ws) ≡ Ok x
common_more x w ws e rest =
    let same : is_equal x w.value ≡ true = grind (arith, ints, e) in
    ap (λ b. if b then common_value x ws else Err WriteConflict) same ∙ rest

common_all : (f : Findings) (x : ℤ) (rs : List Row) (xs : List Part) (c : ℕ) → All (WritesOnly x) rs → ArePartsBy f rs xs →
    common_value x (writes_to c xs) ≡ Ok x
common_all f x [] [] c only parts = refl
common_all f x [] (y ∷ xs) c only parts = elim parts [ ]
common_all f x (row ∷ rs) (y ∷ xs) c only (rows.takes one more) =
    let rest = common_all f x rs xs c (All-tail (WritesOnly x) row rs only) more in
    elim (writes_one c y.processor row.effect row.trail.items f y.attempt one.tried) [
      | inl e ↦ subst (λ ws. common_value x (ws ++ writes_to c xs) ≡ Ok x) (sym e) rest
      | inr w ↦ subst (λ ws. common_value x (ws ++ writes_to c xs) ≡ Ok x) (sym w.1)
          (common_more x w.0 (writes_to c xs)
          (only_value_is x w.0.value (value_in row.effect) w.2.value (All-head (WritesOnly x) row rs only) w.2.given w.2.in_value) rest)
    ]
common_all f x (row ∷ rs) xs c only (rows.passes unsure more) = common_all f x rs xs c (All-tail (WritesOnly x) row rs only) more

-- the first of several writers of one number
pub common_first : (x : ℤ) (ws : List Write) (k : Kind) → common_value x ws ≡ Ok x → written Common (pos 0) ws ≡ Err k → ⊥
common_first x [] k a e = absurd (cc e)
common_first x (w ∷ ws) k a e = by (is_equal x w.value) refl
  where
    by : (b : Bool) → is_equal x w.value ≡ b → ⊥
    by true t =
        let same : x ≡ w.value = grind (arith, ints, tests, t) in
        let rest : common_value x ws ≡ Ok x = sym (ap (λ b. if b then common_value x ws else Err WriteConflict) t) ∙ a in
        let other : common_value x ws ≡ Err k = ap (λ x. common_value x ws) same ∙ e in
        absurd (cc (rest, other))
    by false t =
        let none : Err WriteConflict ≡ Ok x = sym (ap (λ b. if b then common_value x ws else Err WriteConflict) t) ∙ a in
        absurd (cc none)

pub common_never : (x : ℤ) (alike : Bool) (rs : List Row) → All (WritesOnly x) rs → NeverClash Common alike rs
common_never x alike rs only = λ before xs c k parts same e. common_first x (writes_to c xs) k (common_all before x rs xs c only parts) e

-- ---- sums

record IsBetween (a z b : ℤ) : Type 0 where
  pub least : a ≤ℤ z
  pub most : z ≤ℤ b

in_ends : (v : ℤ) (o : Option Interval) (i : Interval) → o ≡ Some i → IsIn v i → IsBetween (low_of o) v (high_of o)
in_ends v None i e at = absurd (cc e)
in_ends v (Some j) i e at =
    let same : i ≡ j = cc e in
    let here = subst (IsIn v) same at in
    let l = here.least in
    let m = here.greatest in
    record { least = grind (arith, ints, int_min_is j.least (pos 0), l); most = grind (arith, ints, int_max_is j.greatest (pos 0), m) }

zero_in_ends : (o : Option Interval) → IsBetween (low_of o) (pos 0) (high_of o)
zero_in_ends None = record { least = grind (arith, ints); most = grind (arith, ints) }
zero_in_ends (Some j) = record {
  least = grind (arith, ints, int_min_is j.least (pos 0));
  most = grind (arith, ints, int_max_is j.greatest (pos 0));
}

sums_between : (a z b a2 z2 b2 : ℤ) → IsBetween a z b → IsBetween a2 z2 b2 → IsBetween (a +ℤ a2) (z +ℤ z2) (b +ℤ b2)
sums_between a z b a2 z2 b2 h k =
    let l = h.least in
    let m = h.most in
    let l2 = k.least in
    let m2 = k.most in
    record { least = grind (arith, ints, l, l2); most = grind (arith, ints, m, m2) }

no_more : (a z b : ℤ) → IsBetween a (pos 0 +ℤ z) b → IsBetween a z b
no_more a z b h =
    let same : pos 0 +ℤ z ≡ z = grind (arith, ints) in subst (λ z. IsBetween a z b) same h

sum_in : (f : Findings) (rs : List Row) (xs : List Part) (c : ℕ) → ArePartsBy f rs xs →
    IsBetween (low_sum rs) (sum_of (writes_to c xs)) (high_sum rs)
sum_in f [] [] c parts = record { least = grind (arith, ints); most = grind (arith, ints) }
sum_in f [] (x ∷ xs) c parts = elim parts [ ]
sum_in f (row ∷ rs) (x ∷ xs) c (rows.takes one more) =
    let rest = sum_in f rs xs c more in
    let o = value_in row.effect in
    elim (writes_one c x.processor row.effect row.trail.items f x.attempt one.tried) [
      | inl e ↦ subst (λ ws. IsBetween (low_sum (row ∷ rs)) (sum_of (ws ++ writes_to c xs)) (high_sum (row ∷ rs))) (sym e)
          (no_more _ _ _ (sums_between (low_of o) (pos 0) (high_of o) (low_sum rs) (sum_of (writes_to c xs)) (high_sum rs)
          (zero_in_ends o) rest))
      | inr w ↦ subst (λ ws. IsBetween (low_sum (row ∷ rs)) (sum_of (ws ++ writes_to c xs)) (high_sum (row ∷ rs))) (sym w.1)
          (sums_between (low_of o) w.0.value (high_of o) (low_sum rs) (sum_of (writes_to c xs)) (high_sum rs)
          (in_ends w.0.value o w.2.value w.2.given w.2.in_value) rest)
    ]
sum_in f (row ∷ rs) xs c (rows.passes unsure more) =
    let rest = sum_in f rs xs c more in
    let o = value_in row.effect in
    no_more _ _ _ (sums_between (low_of o) (pos 0) (high_of o) (low_sum rs) (sum_of (writes_to c xs)) (high_sum rs) (zero_in_ends o) rest)

sum_never_by : (ws : List Write) (k : Kind) → fits (sum_of ws) ≡ true → written Sum (pos 0) ws ≡ Err k → ⊥
sum_never_by [] k fit e = absurd (cc e)
sum_never_by (w ∷ ws) k fit e =
    let good = ap (λ b. if b then Ok (sum_of (w ∷ ws)) else Err Overflow) fit in absurd (cc (sym good ∙ e))

pub sum_never : (alike : Bool) (rs : List Row) → fits (low_sum rs) ≡ true → fits (high_sum rs) ≡ true → NeverClash Sum alike rs
sum_never alike rs low high = λ before xs c k parts same e.
    let s = sum_in before rs xs c parts in
    sum_never_by (writes_to c xs) k (between_words (low_sum rs) (sum_of (writes_to c xs)) (high_sum rs) low high s.least s.most) e
