use Rattle.std.proofs.Common.{◌≡◌, ◌<◌, ◌≤◌, ◌*ℤ◌, ◌+ℤ◌, neg_ℤ, ◌+◌, ℕ, suc, arith, rules, subst, length}
use Rattle.sweeps.proofs.Entries.{put}
use Rattle.sweeps.specs.declared.equation.Equation.{Equation}
use Rattle.sweeps.specs.declared.wide.Wide.{Wide}
use Rattle.sweeps.specs.Equations.{bits, crossed, entry, entry_at, none}
use Rattle.sweeps.specs.Wides.{IsWithin, integer}
use Rattle.sweeps.proofs.Linear.{crossed_room, crossed_value, crossed_within}
use Rattle.sweeps.proofs.Sizes.{bits_small}
use Rattle.sweeps.proofs.equation.Equation.without.Goals as goal

small : (column i : ℕ) → column < 5 → i < 7 → bits column column + bits column i + 2 ≤ 1024
small column i within less = let h = bits_small (suc column) (omega (arith, within)) i less in omega (arith, h)

pub products-requires-clause-plus : goal.products-requires-clause-plus
products-requires-clause-plus c =
    let x = c.args.self.now in
    let p = c.args.pivot.now in
    let k = c.args.column in
    let i = c.loop-i.i in
    let kn : k < 7 = let h = c.requires.column in omega (arith, h) in
    (crossed_room k i (entry_at p k) (entry_at x i) (entry_at x k) (entry_at p i) c.negated-mine.result
    (small k i c.requires.column c.loop-i-test.true)
    (c.requires.pivot k kn) (c.requires.mine i c.loop-i-test.true) (c.requires.mine k kn) (c.requires.pivot i c.loop-i-test.true)
    c.negated-mine.ensures.plus c.negated-mine.ensures.minus).0

pub products-requires-clause-minus : goal.products-requires-clause-minus
products-requires-clause-minus c =
    let x = c.args.self.now in
    let p = c.args.pivot.now in
    let k = c.args.column in
    let i = c.loop-i.i in
    let kn : k < 7 = let h = c.requires.column in omega (arith, h) in
    (crossed_room k i (entry_at p k) (entry_at x i) (entry_at x k) (entry_at p i) c.negated-mine.result
    (small k i c.requires.column c.loop-i-test.true)
    (c.requires.pivot k kn) (c.requires.mine i c.loop-i-test.true) (c.requires.mine k kn) (c.requires.pivot i c.loop-i-test.true)
    c.negated-mine.ensures.plus c.negated-mine.ensures.minus).1

value : (k i : ℕ) (x p : Equation) (to : Wide) →
    integer to ≡ (integer (entry_at p k) *ℤ integer (entry_at x i)) +ℤ neg_ℤ (integer (entry_at x k) *ℤ integer (entry_at p i)) →
    integer to ≡ crossed k (entry x) (entry p) i
unfolding entry
value k i x p to is = is

pub loop-i-preserved : goal.loop-i-preserved
loop-i-preserved c =
    let x = c.args.self.now in
    let p = c.args.pivot.now in
    let k = c.args.column in
    let i = c.loop-i.i in
    let kn : k < 7 = let h = c.requires.column in omega (arith, h) in
    let room : i < length c.loop-i.entries = let m = c.loop-i.invariant.0 in let t = c.loop-i-test.true in omega (arith, m, t) in
    let w = small k i c.requires.column c.loop-i-test.true in
    let next : suc k ≡ k + 1 = omega arith in (
      search rules,
      put (λ n w. integer w ≡ crossed k (entry x) (entry p) n) c.loop-i.entries i c.products.result none room c.loop-i.invariant.1
          (value k i x p c.products.result
          (crossed_value k i (entry_at p k) (entry_at x i) (entry_at x k) (entry_at p i) c.negated-mine.result w
          (c.requires.pivot k kn) (c.requires.mine i c.loop-i-test.true) (c.requires.mine k kn) (c.requires.pivot i c.loop-i-test.true)
          c.negated-mine.ensures.plus c.negated-mine.ensures.minus c.products.result c.products.ensures.plus c.products.ensures.minus)),
      put (λ n w. IsWithin (bits (k + 1) n) w) c.loop-i.entries i c.products.result none room c.loop-i.invariant.2
          (subst (λ n. IsWithin (bits n i) c.products.result) next
          (crossed_within k i (entry_at p k) (entry_at x i) (entry_at x k) (entry_at p i) c.negated-mine.result w
          (c.requires.pivot k kn) (c.requires.mine i c.loop-i-test.true) (c.requires.mine k kn) (c.requires.pivot i c.loop-i-test.true)
          c.negated-mine.ensures.plus c.negated-mine.ensures.minus c.products.result c.products.ensures.plus c.products.ensures.minus)),
    )

pub returns-clause-entries : goal.returns-clause-entries
unfolding entry
returns-clause-entries c i less = let t = c.loop-i-test.false in c.loop-i.invariant.1 i (omega (arith, t, less))
