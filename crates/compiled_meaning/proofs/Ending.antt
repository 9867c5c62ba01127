-- Where a run comes to its halt, it ends with the program's output and memory.
use Rattle.std.proofs.Common.{if◌then◌else◌}
use Rattle.std.proofs.Common.{◌≡◌, ℕ, ◌+◌, ◌≤◌, ◌<◌, List, length, map, get_or, Bool, true, false, ℤ, pos, refl, sym, subst, ◌∙◌, ap, arith}
use Rattle.std.proofs.lemmas.List.{ext_get_or}
use Rattle.std.proofs.lemmas.List.FromFn.{get_or-map-range_with_len, length-map-range_with_len}
use Rattle.pram_model.specs.Layout.{total_size}
use Rattle.write_rules.specs.Verdict.{Verdict, Ended}
use Rattle.superstep_instructions.specs.declared.instr.Instr.TheVariants.{Halt}
use Rattle.superstep_machine.specs.Run.{items, is_held}
use Rattle.pram_check.specs.Checked.{Checked}
use Rattle.pram_meaning.specs.Store.{State}
use Rattle.flat_machine.specs.Flat.{Flat, cells}
use Rattle.flat_stretches.specs.Along.{Run, IsAt}
use Rattle.flat_stretches.specs.Applied.{applied, IsBare}
use Rattle.flat_stretches.specs.Folds.{MayHold}
use Rattle.flat_stretches.specs.Closes.{ComesOut, close_cost}
use Rattle.flat_stretches.proofs.Closes.{halts_end}
use Rattle.exchange_bound.specs.Bound.{one_if}
use Rattle.compiled_meaning.specs.Between.{IsRunOf}
use Rattle.compiled_meaning.specs.Without.{IsWithout}

-- no more exchanges than so many
pub comes_by : (t : Run) (v : Verdict) (spent more : ℕ) → spent ≤ more → ComesOut t v spent → ComesOut t v more
comes_by t v spent more l c = record { outcome = c.outcome; few = let h = c.few in omega (arith, h, l) }

-- a close sends a write first only if one may be held
bare_costs : (f : Flat) → IsBare f → close_cost f ≤ 1
bare_costs f b = subst (λ u. (if is_held u then 2 else 1) ≤ 1) (sym b.put) (let e : 1 ≤ 1 = omega arith in e)

at_most_two : (b : Bool) → (if b then 2 else 1) ≤ 2
at_most_two true = let e : 2 ≤ 2 = omega arith in e
at_most_two false = let e : 1 ≤ 2 = omega arith in e

close_costs : (held : Bool) (f : Flat) → MayHold held f → close_cost f ≤ one_if held + 1
close_costs true f h = at_most_two (is_held f.uniform.put)
close_costs false f h = bare_costs f (h refl)

module _ (p : Checked) (t : Run) (of : IsRunOf p t) where
  -- the memory at the end is the program's
  memory_is : (memory : ℕ → ℤ) (xs : List ℤ) → length xs ≡ total_size p.layout → ((c : ℕ) → memory c ≡ get_or xs c (pos 0)) →
      map memory (cells t.code) ≡ xs
  memory_is memory xs long each =
      let n : length (map memory (cells t.code)) ≡ total_size t.code.layout =
      length-map-range_with_len memory 0 (total_size t.code.layout) in
      ext_get_or (pos 0) (map memory (cells t.code)) xs (n ∙ ap (λ l. total_size l) of.layout ∙ sym long)
      (λ i l. get_or-map-range_with_len memory 0 (total_size t.code.layout) i i (pos 0) (subst (λ k. i < k) n l)
      (let e : 0 + i ≡ i = omega arith in e) ∙ each i)

  pub ended : (left : Bool) (m : State) (place spent : ℕ) (f : Flat) → IsWithout p t left m place spent f → IsAt t place Halt →
      ComesOut t (Ended m.output m.cells) (spent + (one_if left + 1))
  ended left m place spent f w at =
      let h = halts_end t of.formed place f spent w.between.comes at w.between.told in
      let c : close_cost f ≤ one_if left + 1 = close_costs left f w.between.holds in
      comes_by t (Ended m.output m.cells) (spent + close_cost f) (spent + (one_if left + 1)) (omega (arith, c))
      (subst (λ out. ComesOut t (Ended out m.cells) (spent + close_cost f)) w.between.output
      (subst (λ xs. ComesOut t (Ended (items f.uniform.output) xs) (spent + close_cost f))
      (memory_is (applied t.code f).memory m.cells w.sizes.cells w.shows.shows.cells) h))
