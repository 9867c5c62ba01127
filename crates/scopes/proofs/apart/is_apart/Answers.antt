use Rattle.std.proofs.Common.{◌≡◌, ◌<◌, ◌+◌, ◌∙◌, ℕ, ℤ, List, Option, Some, None, Bool, not, true, false, IfSome, IfNone, length, take, drop, ap, sym}
use Rattle.std.specs.Prelude.{is_some}
use Rattle.scopes.specs.Lists.{are_apart}
use Rattle.std.proofs.lemmas.List.{take-append-drop}
use Rattle.scopes.proofs.Clashes.{front_clashes}
use Rattle.scopes.proofs.apart.is_apart.Goals as goal

by_clash : (xs : List ℤ) (o : Option ℕ) (b : Bool) → is_some o ≡ not b → IfNone o (are_apart xs ≡ true) →
    IfSome o (λ at. (at < length xs) × (are_apart (take (at + 1) xs) ≡ false)) → b ≡ are_apart xs
by_clash xs None true e none some = sym none
by_clash xs None false e none some = absurd (let P : false ≡ true → ⊥ = λ k. cc in P e)
by_clash xs (Some at) true e none some = absurd (let P : true ≡ false → ⊥ = λ k. cc in P e)
by_clash xs (Some at) false e none some =
    sym (ap are_apart (sym (take-append-drop (at + 1) xs)) ∙ front_clashes (take (at + 1) xs) (drop (at + 1) xs) some.1)

pub returns : goal.returns
returns c =
    by_clash c.args.input.now c.clash.result c.is_none.result c.is_none.ensures c.clash.ensures.none c.clash.ensures.some
