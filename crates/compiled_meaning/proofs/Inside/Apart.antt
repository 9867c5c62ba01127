-- The processors of a set have different indices, so they are writers of each cell.
use Rattle.std.proofs.Common.{◌≡◌, ◌≢◌, ℕ, zero, suc, ◌+◌, ◌<◌, ◌≤◌, List, [], ◌∷◌, ◌++◌, Bool, true, false, cond, Option, Some, None, ℤ}
use Rattle.std.proofs.Common.{sym, ◌∙◌, arith}
use Rattle.std.specs.Prelude.{FitsSigned, if◌then◌else◌, nat_eq}
use Rattle.std.specs.Int.{w64}
use Rattle.std.specs.List.{All, AllByRecursion, AllPairs, filter, range_with_len}
use Rattle.std.proofs.lemmas.Int.{ints}
use Rattle.std.proofs.lemmas.List.Elements.{All-cons}
use Rattle.std.proofs.lemmas.List.Kept.{AllPairs-cons}
use Rattle.write_rules.specs.declared.write.Write.{Write}
use Rattle.write_rules.specs.Combining.{AreWriters}
use Rattle.superstep_machine.specs.Steps.{index_of}
use Rattle.pram_check.specs.Checked.{Checked}
use Rattle.pram_meaning.specs.Conflict.{write_to}
use Rattle.pram_meaning.specs.Store.{State, member_of}
use Rattle.flat_machine.specs.Flat.{Flat}
use Rattle.statement_evaluation.specs.Terms.{Task}
use Rattle.statement_evaluation.specs.Rows.{Row, row_of, rows, AreApart}
use Rattle.statement_evaluation.specs.Noted.{writes_at}

-- ---- different indices

module _ (p : Checked) (m : State) (task : Task) (f : Flat)
    (members : (v : ℕ) → v < f.uniform.width → index_of f.uniform v ≡ (member_of m.team v).index) where
  apart_two : (v w : ℕ) → v < w → w < f.uniform.width → (member_of m.team v).index ≢ (member_of m.team w).index
  apart_two v w l h e =
      let x = members v (omega (arith, l, h)) in
      let y = members w h in
      let same : index_of f.uniform v ≡ index_of f.uniform w = x ∙ e ∙ sym y in omega (arith, ints, l, same)

  -- from one before a range
  apart_from : (test : ℕ → Bool) (v n k : ℕ) → v < k → k + n ≤ f.uniform.width →
      AllByRecursion (λ (y : Row). (member_of m.team v).index ≢ y.processor) (rows p m task (filter test (range_with_len k n)))
  apart_from test v zero k l h = tt
  apart_from test v (suc n) k l h =
      go (test k) (apart_from test v n (k + 1) (omega (arith, l)) (omega (arith, h)))
    where
      go : (b : Bool) →
          AllByRecursion (λ (y : Row). (member_of m.team v).index ≢ y.processor) (rows p m task (filter test (range_with_len (k + 1) n))) →
          AllByRecursion (λ (y : Row). (member_of m.team v).index ≢ y.processor)
          (rows p m task (cond b (k ∷ filter test (range_with_len (k + 1) n)) (filter test (range_with_len (k + 1) n))))
      go true rest = (apart_two v k l (omega (arith, h)), rest)
      go false rest = rest

  apart_range : (test : ℕ → Bool) (n k : ℕ) → k + n ≤ f.uniform.width → AreApart (rows p m task (filter test (range_with_len k n)))
  apart_range test zero k h = tt
  apart_range test (suc n) k h = go (test k) (apart_range test n (k + 1) (omega (arith, h)))
    where
      go : (b : Bool) → AreApart (rows p m task (filter test (range_with_len (k + 1) n))) →
          AreApart (rows p m task (cond b (k ∷ filter test (range_with_len (k + 1) n)) (filter test (range_with_len (k + 1) n))))
      go true rest = (apart_from test k n (k + 1) (omega arith) (omega (arith, h)), rest)
      go false rest = rest

  pub sets_are_apart : (test : ℕ → Bool) → AreApart (rows p m task (filter test (range_with_len 0 f.uniform.width)))
  sets_are_apart test = apart_range test f.uniform.width 0 (omega arith)

-- ---- writers

-- an index and a value of 64 bits
abbrev pub RowFits : Row → Type 0
RowFits r = FitsSigned w64 r.processor × FitsSigned w64 r.whole.value.value

pub rows_fit : (p : Checked) (m : State) (task : Task) →
    ((v : ℕ) → RowFits (row_of p m task v)) → (vs : List ℕ) → AllByRecursion RowFits (rows p m task vs)
rows_fit p m task h [] = tt
rows_fit p m task h (v ∷ vs) = (h v, rows_fit p m task h vs)

none_write : (P : Write → Type 0) → All P []
none_write P i d l = absurd (omega (arith, l))

no_pairs : (R : Write → Write → Type 0) → AllPairs R []
no_pairs R i j d l h = absurd (omega (arith, h))

module _ (c : ℕ) where
  -- none of the writes is by this one
  others_write : (i : ℤ) (rs : List Row) → AllByRecursion (λ (y : Row). i ≢ y.processor) rs →
      All (λ (w : Write). i ≢ w.processor) (writes_at c rs)
  others_write i [] h = none_write (λ (w : Write). i ≢ w.processor)
  others_write i (r ∷ rs) h = go r.whole.value.cell (others_write i rs h.1)
    where
      go : (o : Option ℕ) → All (λ (w : Write). i ≢ w.processor) (writes_at c rs) →
          All (λ (w : Write). i ≢ w.processor) (write_to c r.processor o r.whole.value.value ++ writes_at c rs)
      go None rest = rest
      go (Some d) rest = by (nat_eq c d)
        where
          by : (b : Bool) →
              All (λ (w : Write). i ≢ w.processor)
              ((if b then record { processor = r.processor; value = r.whole.value.value } ∷ [] else []) ++ writes_at c rs)
          by true = All-cons (λ (w : Write). i ≢ w.processor) _ (writes_at c rs) h.0 rest
          by false = rest

  pub rows_are_writers : (rs : List Row) → AreApart rs → AllByRecursion RowFits rs → AreWriters (writes_at c rs)
  rows_are_writers [] a h = record {
    apart = no_pairs (λ (v w : Write). v.processor ≢ w.processor);
    fit = none_write (λ (w : Write). FitsSigned w64 w.processor × FitsSigned w64 w.value);
  }
  rows_are_writers (r ∷ rs) a h = go r.whole.value.cell (rows_are_writers rs a.1 h.1)
    where
      go : (o : Option ℕ) → AreWriters (writes_at c rs) → AreWriters (write_to c r.processor o r.whole.value.value ++ writes_at c rs)
      go None rest = rest
      go (Some d) rest = by (nat_eq c d)
        where
          by : (b : Bool) →
              AreWriters ((if b then record { processor = r.processor; value = r.whole.value.value } ∷ [] else []) ++ writes_at c rs)
          by true = record {
            apart = AllPairs-cons (λ (v w : Write). v.processor ≢ w.processor) _ (writes_at c rs)
                (others_write r.processor rs a.0) rest.apart;
            fit = All-cons (λ (w : Write). FitsSigned w64 w.processor × FitsSigned w64 w.value) _ (writes_at c rs) h.0 rest.fit;
          }
          by false = rest
