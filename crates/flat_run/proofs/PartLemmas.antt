-- The parts of the processors in their list, and the cells in theirs.
use Rattle.std.proofs.Common.{◌≡◌, ℕ, zero, suc, ◌<◌, ◌≤◌, List, [], ◌∷◌, length, Option, None, refl, sym, ap, ◌∙◌, arith, slice_index_or}
use Rattle.std.proofs.Common.{slice_set, ◌+◌, ◌++◌, ⊎_elim}
use Rattle.std.proofs.lemmas.List.{length-set}
use Rattle.superstep_machine.specs.Parts.{PrivatePart, fresh}
use Rattle.superstep_machine.specs.Sending.{cell_at}
use Rattle.flat_run.specs.declared.processor.ProcessorState.{ProcessorState}
use Rattle.flat_run.specs.Views.{part_of, own_of}
use Rattle.flat_run.proofs.ListLemmas.{at_or_before}

pub own_is : (ps : List ProcessorState) (v : ℕ) (x : ProcessorState) → v < length ps → x ≡ slice_index_or ps v x → part_of x ≡ own_of ps v
own_is [] v x h e = absurd (omega arith)
own_is (p ∷ ps) zero x h e = ap part_of e
own_is (p ∷ ps) (suc v) x h e = own_is ps v x (omega arith) e

pub cell_is : (asks : List (Option ℕ)) (k : ℕ) (x : Option ℕ) → k < length asks → x ≡ slice_index_or asks k x → x ≡ cell_at k asks
cell_is [] k x h e = absurd (omega arith)
cell_is (c ∷ cs) zero x h e = e
cell_is (c ∷ cs) (suc k) x h e = cell_is cs k x (omega arith) e

pub no_cell : (asks : List (Option ℕ)) (k : ℕ) → length asks ≤ k → None ≡ cell_at k asks
no_cell [] zero h = refl
no_cell [] (suc k) h = refl
no_cell (c ∷ cs) zero h = absurd (omega arith)
no_cell (c ∷ cs) (suc k) h = no_cell cs k (omega arith)

-- any default reads the same
pub held_is : {A : Type 0} (items : List (Option A)) (k : ℕ) (x : Option A) → k < length items → x ≡ slice_index_or items k x →
    x ≡ slice_index_or items k None
held_is [] k x h e = absurd (omega arith)
held_is (c ∷ cs) zero x h e = e
held_is (c ∷ cs) (suc k) x h e = held_is cs k x (omega arith) e

own_there : (ps : List ProcessorState) (v : ℕ) (y : ProcessorState) → v < length ps → own_of (slice_set ps v y) v ≡ part_of y
own_there [] v y h = absurd (omega arith)
own_there (p ∷ ps) zero y h = refl
own_there (p ∷ ps) (suc v) y h = own_there ps v y (omega arith)

own_elsewhere : (ps : List ProcessorState) (v k : ℕ) (y : ProcessorState) → (k ≡ v → ⊥) → own_of (slice_set ps v y) k ≡ own_of ps k
own_elsewhere [] v k y h = refl
own_elsewhere (p ∷ ps) zero zero y h = absurd (h refl)
own_elsewhere (p ∷ ps) zero (suc k) y h = refl
own_elsewhere (p ∷ ps) (suc v) zero y h = refl
own_elsewhere (p ∷ ps) (suc v) (suc k) y h = own_elsewhere ps v k y (λ q. h (ap suc q))

-- the first v of some processors are changed, each by f, and the others are not
pub record AreEach (f : ℕ → PrivatePart → PrivatePart) (old new : List ProcessorState) (v : ℕ) : Type 0 where
  pub count : length new ≡ length old
  pub bound : v ≤ length old
  pub done : (k : ℕ) → k < v → own_of new k ≡ f k (own_of old k)
  pub rest : (k : ℕ) → v ≤ k → own_of new k ≡ own_of old k

module _ (f : ℕ → PrivatePart → PrivatePart) (old : List ProcessorState) where
  pub each_starts : AreEach f old old 0
  each_starts = record { count = refl; bound = omega arith; done = λ k h. absurd (omega arith); rest = λ k h. refl }

  pub each_goes : (new : List ProcessorState) (v : ℕ) (x y : ProcessorState) → AreEach f old new v → v < length new →
      x ≡ slice_index_or new v x →
      part_of y ≡ f v (part_of x) → AreEach f old (slice_set new v y) (v + 1)
  each_goes new v x y h l e q =
      let n = h.count in
      record {
        count = length-set new v y ∙ h.count;
        bound = omega (arith, n, l);
        done = λ k m. ⊎_elim
            (λ (here : k ≡ v). ap (own_of (slice_set new v y)) here ∙ own_there new v y l ∙ q
            ∙ ap (f v) (own_is new v x l e ∙ h.rest v (omega arith))
            ∙ sym (ap (λ j. f j (own_of old j)) here))
            (λ (before : k < v). own_elsewhere new v k y (λ here. omega (arith, here, before)) ∙ h.done k before)
            (at_or_before k v m);
        rest = λ k m. own_elsewhere new v k y (λ here. omega (arith, here, m)) ∙ h.rest k (omega (arith, m));
      }

-- one more fresh processor
pub fresh_more : (ps : List ProcessorState) (x : ProcessorState) → ((v : ℕ) → own_of ps v ≡ fresh) → part_of x ≡ fresh → (v : ℕ) →
    own_of (ps ++ x ∷ []) v ≡ fresh
fresh_more [] x h e zero = e
fresh_more [] x h e (suc v) = refl
fresh_more (p ∷ ps) x h e zero = h zero
fresh_more (p ∷ ps) x h e (suc v) = fresh_more ps x (λ k. h (suc k)) e v
