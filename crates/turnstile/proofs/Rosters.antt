-- Lists of seats, and of what they were made of.
use Rattle.std.proofs.Common.{◌≡◌, ℕ, zero, suc, ◌+◌, ◌<◌, List, [], ◌∷◌, ◌++◌, map, length, Option, Some, slice_get, sym, refl, ap, ◌∙◌}
use Rattle.std.proofs.Common.{subst, ⊎_elim, length-append, arith}
use Rattle.std.proofs.lemmas.Option.{slice_get_within}
use mathlib.Core.Option.{some}
use lib.ListN.{get_elem?, length-map}
use Rattle.atomic_table.specs.Seated.{TableId}
use Rattle.turnstile.specs.declared.work.Work.{Work}
use Rattle.turnstile.specs.Seats.{RowState}
use Rattle.turnstile.specs.Works.{Rested, row_state}
use Rattle.turnstile.specs.Benches.{IsSeated, AreSeated}
use Rattle.turnstile.specs.Closings.{AreWorksOf}
use Rattle.turnstile.proofs.Shelvings.{get_end}

module _ {A : Type 0} where
  pub get_seam : (l : List A) (x : A) (t : List A) → slice_get (l ++ x ∷ t) (length l) ≡ Some x
  get_seam [] x t = refl
  get_seam (y ∷ ys) x t = get_seam ys x t

  pub elem_of_get : (l : List A) (j : ℕ) (b : A) → slice_get l j ≡ Some b → get_elem? l j ≡ some b
  elem_of_get [] j b e = absurd (cc)
  elem_of_get (x ∷ xs) zero b e = ap some (let h : Option.Some x ≡ Some b = e in let r : x ≡ b = cc in r)
  elem_of_get (x ∷ xs) (suc j) b e = elem_of_get xs j b e

pub seated_end : (id : TableId) (workers room n : ℕ) (seats : List RowState) (r : RowState) → AreSeated id workers room n seats →
    IsSeated id workers room n r → AreSeated id workers room (n + 1) (seats ++ r ∷ [])
seated_end id workers room n seats r h new = (
  length-append seats (r ∷ []) ∙ ap (λ (z : ℕ). z + 1) h.0,
  λ k q e. ⊎_elim (λ old. h.1 k q old)
      (λ t. subst (λ (z : ℕ × RowState). IsSeated id workers room z.0 z.1) (λ i. (sym (t.0 ∙ h.0) i, t.1 i)) new) (get_end seats r q k e),
)

pub works_count : (seats : List RowState) (works : List Work) → AreWorksOf seats works → length works ≡ length seats
works_count seats works h = sym (length-map works row_state) ∙ ap length h.shown

pub one_more_work : (seats : List RowState) (works : List Work) (r : RowState) (w : Work) → AreWorksOf seats works → row_state w ≡ r →
    Rested w → AreWorksOf (r ∷ seats) (w ∷ works)
one_more_work seats works r w h same rested = record {
  shown = λ q. same q ∷ h.shown q;
  rested = rests;
}
  where
    rests : (k : ℕ) (v : Work) → slice_get (w ∷ works) k ≡ Some v → Rested v
    rests zero v e = let s : w ≡ v = (let h' : Option.Some w ≡ Some v = e in cc) in subst Rested s rested
    rests (suc k) v e = h.rested k v e

-- the work behind a seat
pub work_of : (works : List Work) (k : ℕ) (r : RowState) → slice_get (map row_state works) k ≡ Some r →
    (w : Work) × (slice_get works k ≡ Some w) × (row_state w ≡ r)
work_of [] k r e = absurd (cc)
work_of (w ∷ ws) zero r e = (w, refl, (let h : Option.Some (row_state w) ≡ Some r = e in let s : row_state w ≡ r = cc in s))
work_of (w ∷ ws) (suc k) r e = work_of ws k r e
