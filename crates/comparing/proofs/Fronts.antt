-- The declarations with which two programs begin.
use Rattle.std.proofs.Common.{◌≡◌, ℕ, zero, suc, ◌+◌, ◌≤◌, Bool, true, false, Some, None, List, [], ◌∷◌, ◌++◌, length, take, drop}
use Rattle.std.proofs.Common.{refl, ap, sym, subst, ◌∙◌, arith}
use Rattle.std.specs.Prelude.{if◌then◌else◌, slice_get}
use Rattle.pram_model.specs.Layout.{SharedEntry, size, total_size}
use Rattle.comparing.specs.Common.{IsBeginning, front, front_cells, same_entry}
use Rattle.scopes.specs.Handed.{Placed, placed}
use Rattle.comparing.proofs.Both.{entry_itself, one_entry}
use Rattle.scopes.proofs.Lists.{drop_over}

-- ---- the longest beginning

pub begins_first : (l m : List SharedEntry) → IsBeginning (front l m) l
begins_first [] m = ([], refl)
begins_first (e ∷ es) [] = (e ∷ es, refl)
begins_first (e ∷ es) (f ∷ fs) = step (same_entry e f) (begins_first es fs)
  where
    step : (b : Bool) → IsBeginning (front es fs) es → IsBeginning (if b then e ∷ front es fs else []) (e ∷ es)
    step true r = (r.0, ap (λ (xs : List SharedEntry). e ∷ xs) r.1)
    step false r = (e ∷ es, refl)

pub begins_second : (l m : List SharedEntry) → IsBeginning (front l m) m
begins_second [] m = (m, refl)
begins_second (e ∷ es) [] = ([], refl)
begins_second (e ∷ es) (f ∷ fs) = step (same_entry e f) refl (begins_second es fs)
  where
    step : (b : Bool) → same_entry e f ≡ b → IsBeginning (front es fs) fs → IsBeginning (if b then e ∷ front es fs else []) (f ∷ fs)
    step true is r =
        let one = one_entry e f is in
        (r.0, ap (λ (x : SharedEntry). x ∷ fs) (sym one) ∙ ap (λ (xs : List SharedEntry). e ∷ xs) r.1)
    step false is r = (f ∷ fs, refl)

longest_of : (es a b : List SharedEntry) → IsBeginning es (front (es ++ a) (es ++ b))
longest_of [] a b = (front a b, refl)
longest_of (e ∷ es) a b =
    let r = longest_of es a b in (
      r.0,
      ap (λ (v : Bool). if v then e ∷ front (es ++ a) (es ++ b) else []) (entry_itself e)
          ∙ ap (λ (xs : List SharedEntry). e ∷ xs) r.1,
    )

pub longest : (es l m : List SharedEntry) → IsBeginning es l → IsBeginning es m → IsBeginning es (front l m)
longest es l m (a, first) (b, second) =
    subst (λ (x : List SharedEntry). IsBeginning es (front x m)) (sym first)
    (subst (λ (y : List SharedEntry). IsBeginning es (front (es ++ a) y)) (sym second) (longest_of es a b))

-- ---- their cells

pub placed_start : (s : ℕ) (l : List SharedEntry) (i : ℕ) (p : Placed) → slice_get (placed s l) i ≡ Some p →
    p.start ≡ s + total_size (take i l)
placed_start s [] i p at = absurd (let P : None ≡ Some p → ⊥ = λ k. cc in P at)
placed_start s (x ∷ es) zero p at =
    let is : (record { entry = x; start = s }) ≡ p = cc at in
    let starts : s ≡ p.start = ap (λ (q : Placed). q.start) is in
    omega (arith, starts)
placed_start s (x ∷ es) (suc i) p at =
    let r = placed_start (s + size x.bounds) es i p at in omega (arith, r)

dropped : (l : List SharedEntry) (i : ℕ) (e : SharedEntry) → slice_get l i ≡ Some e → drop i l ≡ e ∷ drop (suc i) l
dropped [] i e at = absurd (let P : None ≡ Some e → ⊥ = λ k. cc in P at)
dropped (x ∷ es) zero e at = let is : x ≡ e = cc at in ap (λ (y : SharedEntry). y ∷ es) is
dropped (x ∷ es) (suc i) e at = dropped es i e at

size_more : (l : List SharedEntry) (i : ℕ) (e : SharedEntry) → slice_get l i ≡ Some e →
    total_size (take (suc i) l) ≡ total_size (take i l) + size e.bounds
size_more [] i e at = absurd (let P : None ≡ Some e → ⊥ = λ k. cc in P at)
size_more (x ∷ es) zero e at =
    let is : x ≡ e = cc at in
    let sized : size x.bounds ≡ size e.bounds = ap (λ (y : SharedEntry). size y.bounds) is in
    omega (arith, sized)
size_more (x ∷ es) (suc i) e at = let r = size_more es i e at in omega (arith, r)

front_from : (l m : List SharedEntry) (i : ℕ) (e f : SharedEntry) (b : Bool) → slice_get l i ≡ Some e → slice_get m i ≡ Some f →
    same_entry e f ≡ b →
    front_cells (drop i l) (drop i m) ≡ total_size (if b then e ∷ front (drop (suc i) l) (drop (suc i) m) else [])
front_from l m i e f b at there is =
    ap (λ (x : List SharedEntry). front_cells x (drop i m)) (dropped l i e at)
    ∙ ap (λ (y : List SharedEntry). front_cells (e ∷ drop (suc i) l) y) (dropped m i f there)
    ∙ ap (λ (v : Bool). total_size (if v then e ∷ front (drop (suc i) l) (drop (suc i) m) else [])) is

-- where two declarations differ, those before them are all
pub front_ends : (l m : List SharedEntry) (i : ℕ) (e f : SharedEntry) → slice_get l i ≡ Some e → slice_get m i ≡ Some f →
    same_entry e f ≡ false → total_size (take i l) + front_cells (drop i l) (drop i m) ≡ total_size (take i l)
front_ends l m i e f at there is =
    let none = front_from l m i e f false at there is in omega (arith, none)

-- where they are the same, one more is there
pub front_grows : (l m : List SharedEntry) (i : ℕ) (e f : SharedEntry) → slice_get l i ≡ Some e → slice_get m i ≡ Some f →
    same_entry e f ≡ true →
    total_size (take i l) + front_cells (drop i l) (drop i m)
    ≡ total_size (take (i + 1) l) + front_cells (drop (i + 1) l) (drop (i + 1) m)
front_grows l m i e f at there is =
    let up : i + 1 ≡ suc i = omega arith in
    let here = front_from l m i e f true at there is in
    let more = size_more l i e at in
    let whole : total_size (take i l) + front_cells (drop i l) (drop i m)
    ≡ total_size (take (suc i) l) + front_cells (drop (suc i) l) (drop (suc i) m) = omega (arith, here, more) in
    whole ∙ ap (λ (k : ℕ). total_size (take k l) + front_cells (drop k l) (drop k m)) (sym up)

none_second : (l : List SharedEntry) → front l [] ≡ []
none_second [] = refl
none_second (e ∷ es) = refl

-- behind the last of one of them there is none
pub front_over_first : (l m : List SharedEntry) (i : ℕ) → length l ≤ i →
    total_size (take i l) + front_cells (drop i l) (drop i m) ≡ total_size (take i l)
front_over_first l m i le =
    let none : front_cells (drop i l) (drop i m) ≡ 0 =
    ap (λ (x : List SharedEntry). front_cells x (drop i m)) (drop_over l i le) in
    omega (arith, none)

pub front_over_second : (l m : List SharedEntry) (i : ℕ) → length m ≤ i →
    total_size (take i l) + front_cells (drop i l) (drop i m) ≡ total_size (take i l)
front_over_second l m i le =
    let none : front_cells (drop i l) (drop i m) ≡ 0 =
    ap (λ (y : List SharedEntry). front_cells (drop i l) y) (drop_over m i le) ∙ ap total_size (none_second (drop i l)) in
    omega (arith, none)
