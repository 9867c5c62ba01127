-- Values of cells as they change.
use Rattle.std.proofs.Common.{◌≡◌, ◌∙◌, ℕ, zero, suc, ℤ, pos, ◌+◌, ◌<◌, ◌≤◌, Bool, true, false, List, [], ◌∷◌, ◌++◌, ap, arith, drop}
use Rattle.std.proofs.Common.{get_or, length, nat_eq}
use Rattle.std.proofs.Common.{refl, set, subst, sym}
use Rattle.std.proofs.lemmas.Bool.Decides.{nat_tests}
use Rattle.std.proofs.lemmas.List.{drop_all, get_or-set_other, get_or-set_same}
use Rattle.std.specs.List.{fold}
use Rattle.std.specs.Prelude.{if◌then◌else◌}
use Rattle.journal.specs.declared.change.Change.{Change}
use Rattle.pictures.specs.Flows.Values.{changed, value_at}
use Rattle.text_out.proofs.Items.{at_item}

-- a 0 behind them changes nothing
pub with_zero : (xs : List ℤ) (k : ℕ) → value_at (xs ++ pos 0 ∷ []) k ≡ value_at xs k
with_zero [] zero = refl
with_zero [] (suc k) = refl
with_zero (x ∷ xs) zero = refl
with_zero (x ∷ xs) (suc k) = with_zero xs k

-- one that is set
pub set_by : (xs : List ℤ) (at k : ℕ) (v : ℤ) (b : Bool) → nat_eq at k ≡ b → at < length xs →
    value_at (set xs at v) k ≡ (if b then v else value_at xs k)
set_by xs at k v true is within =
    let same : at ≡ k = grind (arith, nat_tests, is) in
    subst (λ k. value_at (set xs at v) k ≡ v) same (get_or-set_same xs at v (pos 0) within)
set_by xs at k v false is within = get_or-set_other xs at k v (pos 0) (λ same. no (grind (arith, nat_tests, is, same)))
  where
    no : ⊥ → ⊥
    no x = x

-- ---- changes, one by one

pub record InChanges (k : ℕ) (start : ℤ) (ds : List Change) (i : ℕ) (now : ℤ) : Type 0 where
  pub same : fold (changed k) start ds ≡ fold (changed k) now (drop i ds)

pub changes_go : (k : ℕ) (start : ℤ) (ds : List Change) (i : ℕ) (d : Change) (now new : ℤ) → InChanges k start ds i now →
    i < length ds → d ≡ get_or ds i d → new ≡ changed k now d → InChanges k start ds (i + 1) new
changes_go k start ds i d now new b h is e = record {
  same = b.same ∙ at_item (fold (changed k) now) ds i d h is ∙ ap (λ v. fold (changed k) v (drop (i + 1) ds)) (sym e);
}

pub changes_end : (k : ℕ) (start : ℤ) (ds : List Change) (i : ℕ) (now : ℤ) → InChanges k start ds i now → length ds ≤ i →
    now ≡ fold (changed k) start ds
changes_end k start ds i now b h = sym (b.same ∙ ap (fold (changed k) now) (drop_all i ds h))
