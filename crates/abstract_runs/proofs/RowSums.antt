-- The rows of a statement, one more at a time: what holds of all, the ends of their sum, and where they write.
use Rattle.std.proofs.Common.{◌≡◌, ℕ, ◌+◌, ◌<◌, ◌≤◌, List, [], ◌∷◌, ◌++◌, length, sym, subst, ap, ◌∙◌, Option, Some, ℤ, pos, ◌+ℤ◌, drop, take, get_or}
use Rattle.std.specs.Int.{int_min, int_max}
use Rattle.std.specs.List.{All}
use Rattle.std.proofs.Math.IntN.{+ℤ_assoc}
use Rattle.std.proofs.lemmas.List.Elements.{All-more}
use Rattle.std.proofs.lemmas.List.{drop_more, take_all, take_more, map-append}
use Rattle.intervals.specs.declared.interval.Interval.{Interval}
use Rattle.abstract_runs.specs.declared.reach.Reach.{Reach}
use Rattle.abstract_runs.specs.declared.row.Row.{Row}
use Rattle.abstract_runs.specs.Columns.{targets, reach_in, value_in, low_of, high_of, low_sum, high_sum}

pub all_more : (P : Row → Type 0) (rs : List Row) (k : ℕ) (one : Row) → All P (take k rs) → k < length rs → one ≡ get_or rs k one → P one →
    All P (take (k + 1) rs)
all_more P rs k one h below is p = All-more P rs k one below h (subst P is p)

pub all_end : (P : Row → Type 0) (rs : List Row) (k : ℕ) → All P (take k rs) → length rs ≤ k → All P rs
all_end P rs k h past = subst (All P) (take_all k rs past) h

regrouped : (a b c z : ℤ) → c ≡ a +ℤ b → a +ℤ (b +ℤ z) ≡ c +ℤ z
regrouped a b c z e = sym (+ℤ_assoc a b z) ∙ ap (λ x. x +ℤ z) (sym e)

pub low_more : (rs : List Row) (k : ℕ) (one : Row) (i : Interval) (low less : ℤ) → low_sum rs ≡ low +ℤ low_sum (drop k rs) → k < length rs →
    one ≡ get_or rs k one → Some i ≡ value_in one.effect → less ≡ low +ℤ int_min i.least (pos 0) →
    low_sum rs ≡ less +ℤ low_sum (drop (k + 1) rs)
low_more rs k one i low less h below is e l =
    let parted : drop k rs ≡ one ∷ drop (k + 1) rs = drop_more rs k one below ∙ ap (λ row. row ∷ drop (k + 1) rs) (sym is) in
    let sum : low_sum (drop k rs) ≡ low_of (Some i) +ℤ low_sum (drop (k + 1) rs) =
    ap low_sum parted ∙ ap (λ o. low_of o +ℤ low_sum (drop (k + 1) rs)) (sym e) in
    let all : low_sum rs ≡ low +ℤ (low_of (Some i) +ℤ low_sum (drop (k + 1) rs)) = h ∙ ap (λ z. low +ℤ z) sum in
    let less_is : less ≡ low +ℤ low_of (Some i) = l in
    all ∙ regrouped low (low_of (Some i)) less (low_sum (drop (k + 1) rs)) less_is

pub high_more : (rs : List Row) (k : ℕ) (one : Row) (i : Interval) (high more : ℤ) → high_sum rs ≡ high +ℤ high_sum (drop k rs) →
    k < length rs →
    one ≡ get_or rs k one → Some i ≡ value_in one.effect → more ≡ high +ℤ int_max i.greatest (pos 0) →
    high_sum rs ≡ more +ℤ high_sum (drop (k + 1) rs)
high_more rs k one i high more h below is e l =
    let parted : drop k rs ≡ one ∷ drop (k + 1) rs = drop_more rs k one below ∙ ap (λ row. row ∷ drop (k + 1) rs) (sym is) in
    let sum : high_sum (drop k rs) ≡ high_of (Some i) +ℤ high_sum (drop (k + 1) rs) =
    ap high_sum parted ∙ ap (λ o. high_of o +ℤ high_sum (drop (k + 1) rs)) (sym e) in
    let all : high_sum rs ≡ high +ℤ (high_of (Some i) +ℤ high_sum (drop (k + 1) rs)) = h ∙ ap (λ z. high +ℤ z) sum in
    let more_is : more ≡ high +ℤ high_of (Some i) = l in
    all ∙ regrouped high (high_of (Some i)) more (high_sum (drop (k + 1) rs)) more_is

pub targets_more : (rs : List Row) (k : ℕ) (one : Row) (old new : List (Option Reach)) (next : Option Reach) → old ≡ targets (take k rs) →
    k < length rs → one ≡ get_or rs k one → next ≡ reach_in one.effect → new ≡ old ++ next ∷ [] → new ≡ targets (take (k + 1) rs)
targets_more rs k one old new next h below is reach e =
    let at : next ≡ reach_in (get_or rs k one).effect = reach ∙ ap (λ (row : Row). reach_in row.effect) is in
    e ∙ ap (λ l. l ++ next ∷ []) h ∙ ap (λ r. targets (take k rs) ++ r ∷ []) at
    ∙ sym (map-append (λ (row : Row). reach_in row.effect) (take k rs) (get_or rs k one ∷ []))
    ∙ ap targets (sym (take_more rs k one below))
