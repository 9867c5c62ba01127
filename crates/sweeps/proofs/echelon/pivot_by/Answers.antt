use Rattle.std.proofs.Common.{◌≡◌, ◌≢◌, ◌∙◌, ℕ, arith}
use Rattle.sweeps.specs.Choices.{chosen}
use Rattle.sweeps.proofs.Eliminations.{not_true, unit_begins, unit_dot}
use Rattle.sweeps.proofs.echelon.pivot_by.Goals as goal

not_chosen : (set column : ℕ) → (chosen set column ≡ 1 → ⊥) → chosen set column ≡ 0
not_chosen set column is = let differ : chosen set column ≢ 1 = is in omega (arith, differ)

pub returns-else-has : goal.returns-else-has
returns-else-has c =
    let e = c.unit.result in
    let k = c.args.column in
    let none = not_chosen c.args.choice.bits k (λ one. not_true c.has.result c.if-has.false (c.has.ensures.1 one)) in (
      unit_begins e k c.requires.column c.unit.ensures.entries c.unit.ensures.bounded,
      λ z first all of_choice. unit_dot e k z c.requires.column c.unit.ensures.entries ∙ of_choice k c.requires.column none,
      λ none z. unit_dot e k z c.requires.column c.unit.ensures.entries,
    )
