-- Values that are near to others: laws.
use Rattle.std.proofs.Common.{ℕ, ◌+◌, ◌≤◌, zero, suc, List, [], ◌∷◌, ℤ, pos, arith}
use Rattle.std.proofs.lemmas.Int.{ints}
use Rattle.std.specs.Prelude.{slice_set, slice_index_or}
use Rattle.intervals.specs.declared.interval.Interval.{Interval}
use Rattle.all_inputs.specs.Overall.{Cover}
use Rattle.abstract_runs.specs.Near.{IsNear, AreEachNear, AreNear}

near_same : (far : ℕ) (z : ℤ) → IsNear far z z
near_same far z = record { least = omega (arith, ints); most = omega (arith, ints) }

pub near_farther : (far more : ℕ) (o z : ℤ) → far ≤ more → IsNear far o z → IsNear more o z
near_farther far more o z h n =
    let l = n.least in let m = n.most in record { least = omega (arith, ints); most = omega (arith, ints) }

near_step : (far : ℕ) (o y z : ℤ) → IsNear far o y → IsNear 1 y z → IsNear (far + 1) o z
near_step far o y z n s =
    let l = n.least in let m = n.most in let k = s.least in let j = s.most in
    record { least = omega (arith, ints); most = omega (arith, ints) }

-- ---- number by number

each_same : (far : ℕ) (zs : List ℤ) → AreEachNear far zs zs
each_same far [] = tt
each_same far (z ∷ zs) = (near_same far z, each_same far zs)

each_farther : (far more : ℕ) (os zs : List ℤ) → far ≤ more → AreEachNear far os zs → AreEachNear more os zs
each_farther far more [] [] h n = tt
each_farther far more [] (z ∷ zs) h n = absurd n
each_farther far more (o ∷ os) [] h n = absurd n
each_farther far more (o ∷ os) (z ∷ zs) h n = (near_farther far more o z h n.0, each_farther far more os zs h n.1)

each_set : (far : ℕ) (os zs : List ℤ) (x : ℕ) (v : ℤ) → AreEachNear far os zs → AreEachNear far (slice_set os x v) (slice_set zs x v)
each_set far [] [] x v n = tt
each_set far [] (z ∷ zs) x v n = absurd n
each_set far (o ∷ os) [] x v n = absurd n
each_set far (o ∷ os) (z ∷ zs) zero v n = (near_same far v, n.1)
each_set far (o ∷ os) (z ∷ zs) (suc x) v n = (n.0, each_set far os zs x v n.1)

each_step : (far : ℕ) (os zs : List ℤ) (x : ℕ) (v : ℤ) → AreEachNear far os zs → IsNear 1 (slice_index_or zs x (pos 0)) v →
    AreEachNear (far + 1) os (slice_set zs x v)
each_step far [] [] x v n s = tt
each_step far [] (z ∷ zs) x v n s = absurd n
each_step far (o ∷ os) [] x v n s = absurd n
each_step far (o ∷ os) (z ∷ zs) zero v n s = (near_step far o z v n.0 s, each_farther far (far + 1) os zs (omega arith) n.1)
each_step far (o ∷ os) (z ∷ zs) (suc x) v n s =
    (near_farther far (far + 1) o z (omega arith) n.0, each_step far os zs x v n.1 s)

pub each_read : (far : ℕ) (os zs : List ℤ) (x : ℕ) → AreEachNear far os zs →
    IsNear far (slice_index_or os x (pos 0)) (slice_index_or zs x (pos 0))
each_read far [] [] x n = near_same far (pos 0)
each_read far [] (z ∷ zs) x n = absurd n
each_read far (o ∷ os) [] x n = absurd n
each_read far (o ∷ os) (z ∷ zs) zero n = n.0
each_read far (o ∷ os) (z ∷ zs) (suc x) n = each_read far os zs x n.1

-- ---- from origins

pub near_from : (is : List Interval) (zs : List ℤ) → Cover is zs → AreNear 0 is zs
near_from is zs h = record { numbers = zs; from = h; near = each_same 0 zs }

pub near_grown : (far : ℕ) (is js : List Interval) (zs : List ℤ) → ((os : List ℤ) → Cover is os → Cover js os) → AreNear far is zs →
    AreNear far js zs
near_grown far is js zs f n = record { numbers = n.numbers; from = f n.numbers n.from; near = n.near }

pub near_later : (far : ℕ) (is : List Interval) (zs : List ℤ) → AreNear far is zs → AreNear (far + 1) is zs
near_later far is zs n = record {
  numbers = n.numbers;
  from = n.from;
  near = each_farther far (far + 1) n.numbers zs (omega arith) n.near;
}

pub near_set : (far : ℕ) (is js : List Interval) (zs : List ℤ) (x : ℕ) (v : ℤ) →
    ((os : List ℤ) → Cover is os → Cover js (slice_set os x v)) → AreNear far is zs → AreNear far js (slice_set zs x v)
near_set far is js zs x v f n = record {
  numbers = slice_set n.numbers x v;
  from = f n.numbers n.from;
  near = each_set far n.numbers zs x v n.near;
}

pub near_stepped : (far : ℕ) (is : List Interval) (zs : List ℤ) (x : ℕ) (v : ℤ) → AreNear far is zs →
    IsNear 1 (slice_index_or zs x (pos 0)) v → AreNear (far + 1) is (slice_set zs x v)
near_stepped far is zs x v n s = record { numbers = n.numbers; from = n.from; near = each_step far n.numbers zs x v n.near s }
