-- Stretches behind one another are one stretch.
use Rattle.std.proofs.Common.{◌≡◌, ℕ, ◌+◌, List, [], ◌∷◌, length, refl, sym, subst, arith}
use Rattle.superstep_instructions.specs.declared.instr.Instr.{Instr}
use Rattle.superstep_instructions.specs.declared.instr.Instr.TheVariants.{Ask, Put, Send, Reply, Vote}
use Rattle.superstep_instructions.specs.declared.instr.Side.TheVariants.{Uniform, Private}
use Rattle.flat_stretches.specs.Folds.{Stand, act, act_at_once, held_after, IsFine}
use Rattle.flat_stretches.specs.Joins.{StandsSplit, StandsJoin, FineJoins, ActsJoin, ActsAtOnceJoin, CostsJoin, CountsJoin, WordsJoin}

-- the place behind one instruction and a stretch
behind_both : (place : ℕ) (i : Instr) (xs : List Instr) → place + 1 + length xs ≡ place + length (i ∷ xs)
behind_both place i xs = omega arith

pub stands_split : StandsSplit
stands_split t place [] ys st = (tt, subst (λ k. Stand t k ys) (let e : place ≡ place + 0 = omega arith in e) st)
stands_split t place (i ∷ xs) ys st =
    let r = stands_split t (place + 1) xs ys st.1 in
    ((st.0, r.0), subst (λ k. Stand t k ys) (behind_both place i xs) r.1)

pub stands_join : StandsJoin
stands_join t place [] ys a b = subst (λ k. Stand t k ys) (let e : place + 0 ≡ place = omega arith in e) b
stands_join t place (i ∷ xs) ys a b =
    (a.0, stands_join t (place + 1) xs ys a.1 (subst (λ k. Stand t k ys) (sym (behind_both place i xs)) b))

pub fine_joins : FineJoins
fine_joins before between behind [] ys a b = subst (λ h. IsFine h ys behind) (sym a) b
fine_joins before between behind (i ∷ xs) ys a b = (a.0, fine_joins (held_after i before) between behind xs ys a.1 b)

pub acts_join : ActsJoin
acts_join code [] ys f = refl
acts_join code (i ∷ xs) ys f = acts_join code xs ys (act code i f)

pub acts_at_once_join : ActsAtOnceJoin
acts_at_once_join code [] ys f = refl
acts_at_once_join code (i ∷ xs) ys f = acts_at_once_join code xs ys (act_at_once code i f)

pub costs_join : CostsJoin
costs_join t [] ys f = omega arith
costs_join t (i ∷ xs) ys f = let h = costs_join t xs ys (act t.code i f) in omega (arith, h)

pub counts_join : CountsJoin
counts_join [] ys = omega arith
counts_join (Send ∷ xs) ys = let h = counts_join xs ys in omega (arith, h)
counts_join (Reply ∷ xs) ys = let h = counts_join xs ys in omega (arith, h)
counts_join (Vote d ∷ xs) ys = let h = counts_join xs ys in omega (arith, h)
counts_join (i ∷ xs) ys = counts_join xs ys

pub words_join : WordsJoin
words_join t k [] ys = omega arith
words_join t k (Ask Uniform d c s q ∷ xs) ys = let h = words_join t k xs ys in omega (arith, h)
words_join t k (Ask Private d c s q ∷ xs) ys = let h = words_join t k xs ys in omega (arith, h)
words_join t k (Put Uniform c s v q ∷ xs) ys = let h = words_join t k xs ys in omega (arith, h)
words_join t k (Put Private c s v q ∷ xs) ys = let h = words_join t k xs ys in omega (arith, h)
words_join t k (i ∷ xs) ys = words_join t k xs ys
