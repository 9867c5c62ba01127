-- A behaviour made of two: how the first one's answer tells of the whole.
use Rattle.std.proofs.Common.{◌≡◌, Result, Err, ap}
use Rattle.pram_meaning.specs.declared.run.Halt.TheVariants as halt
use Rattle.pram_meaning.specs.Bounded.{Behaviour, Goes, then_do}
use Rattle.pram_meaning.specs.Runs.{IsBehaviour}
use Rattle.pram_meaning.specs.Store.{State}
use Rattle.pram_meaning.specs.declared.run.Halt.{Halt}

-- what halts first, halts the whole
pub halts : {A B : Type 0} (h : Halt) (m : State) (x : Behaviour A) (f : A → State → Behaviour B) → IsBehaviour {A = A} (Err h) m x →
    IsBehaviour {A = B} (Err h) m (then_do x f)
halts (halt.Fault k) m x f is = ap (λ x. then_do x f) is
halts halt.Bound m x f is = ap (λ x. then_do x f) is
halts halt.OutOfMemory m x f is = tt

-- where the first goes on, the whole is the rest
pub first_goes : {A B : Type 0} (a : A) (m : State) (x : Behaviour A) (f : A → State → Behaviour B) → x ≡ Goes a m → then_do x f ≡ f a m
first_goes a m x f is = ap (λ x. then_do x f) is

pub then_is : {A B : Type 0} (r : Result B Halt) (a : A) (m n : State) (x : Behaviour A) (f : A → State → Behaviour B) → x ≡ Goes a m →
    IsBehaviour r n (f a m) → IsBehaviour r n (then_do x f)
then_is r a m n x f is then = rw is then
