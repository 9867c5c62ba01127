use Rattle.std.proofs.Common.{◌≡◌, ℕ, List, Some, sym, subst, codes, rules}
use Rattle.run_options.specs.Maps.{IsPair}
use Rattle.run_options.specs.declared.map_choice.MapChoice.TheVariants.{Affine}
use Rattle.run_options.proofs.Named.{numbers_of, found_by, same_map}
use Rattle.run_options.proofs.map_choice.read_map.Goals as goal

pub returns-in_err-factor-clause-found : goal.returns-in_err-factor-clause-found
returns-in_err-factor-clause-found c =
    found_by c.args.word.now _ (λ (e : c.args.word.now ≡ codes "identity"). search rules) (λ a b p.
    let cut = numbers_of c.args.word.now a b (Some (c.in_ok-kind.kind, c.in_ok-kind.numbers)) c.in_ok-kind.ensures.cases p in
    let none = c.in_err-factor.ensures.found a b (subst (λ (w : List ℕ). IsPair w a b) (sym cut.1) p.pair) in
    absurd (cc none))

pub returns-clause-found : goal.returns-clause-found
returns-clause-found c =
    found_by c.args.word.now (Some (Affine c.in_ok-factor.factor c.in_ok-factor.shift))
    (λ (e : c.args.word.now ≡ codes "identity"). search rules) (λ a b p.
    let cut = numbers_of c.args.word.now a b (Some (c.in_ok-kind.kind, c.in_ok-kind.numbers)) c.in_ok-kind.ensures.cases p in
    let is = c.in_ok-factor.ensures.found a b (subst (λ (w : List ℕ). IsPair w a b) (sym cut.1) p.pair) in
    same_map a b c.in_ok-factor.factor c.in_ok-factor.shift is)
