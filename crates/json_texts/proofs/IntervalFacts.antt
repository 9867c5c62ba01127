-- Declarations and their intervals, one by one, and the declaration of a number.
use Rattle.std.proofs.Common.{◌≡◌, ◌∙◌, ℕ, zero, suc, ℤ, ◌+◌, ◌<◌, ◌≤◌, List, [], ◌∷◌, ◌++◌, drop, length, get_or, min}
use Rattle.std.proofs.Common.{append_assoc, append-nil, refl, ap, arith, sym, slice_get}
use Rattle.std.proofs.lemmas.List.{drop_more, drop_all}
use Rattle.std.specs.Prelude.{Option, IfSome, codes}
use Rattle.serde_json.specs.Data.{Data, Members, put}
use Rattle.pram_model.specs.Layout.{SharedEntry}
use Rattle.program_texts.proofs.ShownLemmas.{entry_at, known_at}
use Rattle.intervals.specs.declared.interval.Interval.{Interval}
use Rattle.json_texts.specs.Facts.{letters, with_fields}
use Rattle.json_texts.specs.OverallFacts.{declared_facts, memory_facts, name_fields}

-- ---- the declaration of a number

-- its name, which is known, in the fields
pub told_name : (layout : List SharedEntry) (i : ℕ) (name : List ℕ) (old new : Members) → i < length layout →
    IfSome (slice_get layout i) (λ e. name ≡ e.name) → new ≡ put (codes "subscript_of") (letters name) old →
    new ≡ with_fields (name_fields (slice_get layout i)) old
told_name [] i name old new h n e = absurd (omega (arith, h))
told_name (x ∷ layout) zero name old new h n e = e ∙ ap (λ name. put (codes "subscript_of") (letters name) old) n
told_name (x ∷ layout) (suc i) name old new h n e = told_name layout i name old new (omega (arith, h)) n e

pub no_name : (layout : List SharedEntry) (i : ℕ) (old : Members) → length layout ≤ i →
    old ≡ with_fields (name_fields (slice_get layout i)) old
no_name [] i old h = refl
no_name (x ∷ layout) zero old h = absurd (omega (arith, h))
no_name (x ∷ layout) (suc i) old h = no_name layout i old (omega (arith, h))

-- ---- all of them

-- the first i have been told
pub record InMemory (layout : List SharedEntry) (is : List Interval) (i : ℕ) (now : List Data) : Type 0 where
  pub same : memory_facts layout is ≡ now ++ memory_facts (drop i layout) (drop i is)

pub memory_start : (layout : List SharedEntry) (is : List Interval) (now : List Data) → now ≡ [] → InMemory layout is 0 now
memory_start layout is now e = record { same = rw e refl }

pub memory_go : (layout : List SharedEntry) (is : List Interval) (i : ℕ) (name : List ℕ) (bounds : Option (ℤ × ℤ)) (interval : Interval)
    (now new : List Data) →
    InMemory layout is i now → i < length layout → i < length is → IfSome (slice_get layout i) (λ e. name ≡ e.name) →
    IfSome (slice_get layout i) (λ e. bounds ≡ e.bounds) → interval ≡ get_or is i interval →
    new ≡ now ++ declared_facts record { name = name; bounds = bounds } interval ∷ [] → InMemory layout is (i + 1) new
memory_go layout is i name bounds interval now new b below within named bounded at more =
    let (e, found, split) = entry_at layout i below in
    let named' = known_at layout i e (λ e. name ≡ e.name) found named in
    let bounded' = known_at layout i e (λ e. bounds ≡ e.bounds) found bounded in
    let next = drop_more is i interval within ∙ ap (λ y. y ∷ drop (i + 1) is) (sym at) in
    let rest : List Data = memory_facts (drop (i + 1) layout) (drop (i + 1) is) in record {
      same = b.same
          ∙ ap (λ l. now ++ memory_facts l (drop i is)) split
          ∙ ap (λ l. now ++ memory_facts (e ∷ drop (i + 1) layout) l) next
          ∙ ap (λ n. now ++ (declared_facts record { name = n; bounds = e.bounds } interval ∷ rest)) (sym named')
          ∙ ap (λ b. now ++ (declared_facts record { name = name; bounds = b } interval ∷ rest)) (sym bounded')
          ∙ sym (append_assoc now (declared_facts record { name = name; bounds = bounds } interval ∷ []) rest)
          ∙ ap (λ l. l ++ rest) (sym more);
    }

none_of : (layout : List SharedEntry) → memory_facts layout [] ≡ []
none_of [] = refl
none_of (e ∷ layout) = refl

-- behind the last of either there are no more
over : (layout : List SharedEntry) (is : List Interval) (i : ℕ) → min (length layout) (length is) ≤ i →
    memory_facts (drop i layout) (drop i is) ≡ []
over [] is i h = ap (λ l. memory_facts l (drop i is)) (drop_all i [] (omega arith))
over (e ∷ layout) [] i h = ap (memory_facts (drop i (e ∷ layout))) (drop_all i [] (omega arith)) ∙ none_of (drop i (e ∷ layout))
over (e ∷ layout) (j ∷ is) zero h = absurd (omega (arith, h))
over (e ∷ layout) (j ∷ is) (suc i) h = over layout is i (omega (arith, h))

pub memory_end : (layout : List SharedEntry) (is : List Interval) (i : ℕ) (now : List Data) → InMemory layout is i now →
    min (length layout) (length is) ≤ i → now ≡ memory_facts layout is
memory_end layout is i now b h = sym (b.same ∙ ap (λ l. now ++ l) (over layout is i h) ∙ append-nil now)
