-- One fault more among the first of each kind at each line.
use Rattle.std.proofs.Common.{◌≡◌, Bool, true, false, not, ◌||◌, cond, if◌then◌else◌, List, [], ◌∷◌, ◌++◌, refl, ap, sym, ◌∙◌, arith}
use Rattle.std.proofs.lemmas.Bool.Decides.{nat_tests}
use Rattle.std.proofs.lemmas.List.{append-nil}
use Rattle.std.proofs.lemmas.List.Elements.{filter-append}
use Rattle.std.specs.List.{filter, list_any}
use Rattle.write_rules.specs.declared.fault.Fault.{Fault}
use Rattle.scopes.specs.Firsts.{Met, are_alike, firsts, noted}

-- what is like a fault is unlike what that fault is unlike
unlike : (a e m : Fault) → are_alike a e ≡ true → are_alike a m ≡ false → are_alike e m ≡ false
unlike a e m h k = grind (arith, nat_tests)

-- whether one like m is there doesn't hang on those like a, where m is unlike a
any_step : (a m : Fault) (e : Met) (ms : List Met) (b : Bool) → are_alike a m ≡ false → are_alike a e.fault ≡ b →
    list_any (λ (q : Met). are_alike q.fault m) (filter (λ (q : Met). not (are_alike a q.fault)) ms) ≡ list_any
    (λ (q : Met). are_alike q.fault m) ms →
    list_any (λ (q : Met). are_alike q.fault m) (filter (λ (q : Met). not (are_alike a q.fault)) (e ∷ ms))
    ≡ list_any (λ (q : Met). are_alike q.fault m) (e ∷ ms)
any_step a m e ms true h is rest_same =
    let rest = filter (λ (q : Met). not (are_alike a q.fault)) ms in
    let p : Met → Bool = λ q. are_alike q.fault m in
    ap (λ (t : Bool). list_any p (cond (not t) (e ∷ rest) rest)) is ∙ rest_same
    ∙ sym (ap (λ (t : Bool). t || list_any p ms) (unlike a e.fault m is h))
any_step a m e ms false h is rest_same =
    let rest = filter (λ (q : Met). not (are_alike a q.fault)) ms in
    let p : Met → Bool = λ q. are_alike q.fault m in
    ap (λ (t : Bool). list_any p (cond (not t) (e ∷ rest) rest)) is ∙ ap (λ (t : Bool). are_alike e.fault m || t) rest_same

pub any_kept : (a m : Fault) → are_alike a m ≡ false → (ms : List Met) →
    list_any (λ (q : Met). are_alike q.fault m) (filter (λ (q : Met). not (are_alike a q.fault)) ms) ≡ list_any
    (λ (q : Met). are_alike q.fault m) ms
any_kept a m h [] = refl
any_kept a m h (e ∷ ms) = any_step a m e ms (are_alike a e.fault) h refl (any_kept a m h ms)

-- those that are unlike a, with one more
kept_apart : (a m : Met) (ms : List Met) (alike any : Bool) → are_alike a.fault m.fault ≡ alike →
    list_any (λ (q : Met). are_alike q.fault m.fault) ms ≡ any →
    a ∷ filter (λ (q : Met). not (are_alike a.fault q.fault)) (noted ms m) ≡ noted
    (a ∷ filter (λ (q : Met). not (are_alike a.fault q.fault)) ms) m
kept_apart a m ms true any same is =
    let p : Met → Bool = λ q. are_alike q.fault m.fault in
    let t : Met → Bool = λ q. not (are_alike a.fault q.fault) in
    let rest = filter t ms in
    let old : filter t (noted ms m) ≡ rest =
    elim any as (λ (b : Bool). list_any p ms ≡ b → filter t (noted ms m) ≡ rest) [
      | true ↦ λ e. ap (λ (b : Bool). filter t (if b then ms else ms ++ m ∷ [])) e
      | false ↦ λ e. ap (λ (b : Bool). filter t (if b then ms else ms ++ m ∷ [])) e ∙ filter-append t ms (m ∷ [])
          ∙ ap (λ (b : Bool). rest ++ cond (not b) (m ∷ []) []) same ∙ append-nil rest
    ] is in
    ap (λ (qs : List Met). a ∷ qs) old ∙ sym (ap (λ (b : Bool). if (b || list_any p rest) then a ∷ rest else (a ∷ rest) ++ m ∷ []) same)
kept_apart a m ms false any same is =
    let p : Met → Bool = λ q. are_alike q.fault m.fault in
    let t : Met → Bool = λ q. not (are_alike a.fault q.fault) in
    let rest = filter t ms in
    let there : are_alike a.fault m.fault || list_any p rest ≡ any =
    ap (λ (b : Bool). b || list_any p rest) same ∙ any_kept a.fault m.fault same ms ∙ is in
    elim any as (λ (b : Bool). list_any p ms ≡ b → are_alike a.fault m.fault || list_any p rest ≡ b →
    a ∷ filter t (noted ms m) ≡ noted (a ∷ rest) m) [
      | true ↦ λ e f. ap (λ (b : Bool). a ∷ filter t (if b then ms else ms ++ m ∷ [])) e
          ∙ sym (ap (λ (b : Bool). if b then a ∷ rest else (a ∷ rest) ++ m ∷ []) f)
      | false ↦ λ e f. ap (λ (b : Bool). a ∷ filter t (if b then ms else ms ++ m ∷ [])) e
          ∙ ap (λ (qs : List Met). a ∷ qs) (filter-append t ms (m ∷ []))
          ∙ ap (λ (b : Bool). a ∷ (rest ++ cond (not b) (m ∷ []) [])) same
          ∙ sym (ap (λ (b : Bool). if b then a ∷ rest else (a ∷ rest) ++ m ∷ []) f)
    ] is there

-- one more
pub one_more : (ms : List Met) (m : Met) → firsts (ms ++ m ∷ []) ≡ noted (firsts ms) m
one_more [] m = refl
one_more (a ∷ ms) m =
    ap (λ (qs : List Met). a ∷ filter (λ (q : Met). not (are_alike a.fault q.fault)) qs) (one_more ms m)
    ∙ kept_apart a m (firsts ms) (are_alike a.fault m.fault) (list_any (λ (q : Met). are_alike q.fault m.fault) (firsts ms)) refl refl
