use Rattle.std.proofs.Common.{ℕ, ◌≡◌, ◌∙◌, [], ap, sym, true, false, map, Some, length}
use Rattle.turnstile.specs.declared.start.told.Told.TheVariants.{Nothing, Go}
use Rattle.turnstile.specs.Lines.{starter, slots_of, nothings, items_of}
use Rattle.turnstile.proofs.Sayings.{stop_steps, go_steps, items_are}
use Rattle.turnstile.proofs.start.starter.announce.Goals as goal

pub store-requires : goal.store-requires
store-requires g c = let b = c.args.board.now in let same = c.requires.own.2 in let n : ℕ = c.args.runners in (
  c.requires.own.0,
  c.requires.own.1,
  stop_steps b.key b.table_id.slots c.args.chair.now.id c.args.chair.now.me n []
      (c.requires.fresh ∙ (λ q. (starter n true Nothing [], slots_of 0 (nothings (sym same q))))),
)

pub store-requires-in-Some : goal.store-requires-in-Some
store-requires-in-Some g c = let b = c.args.board.now in let same = c.requires.own.2 in let n : ℕ = c.args.runners in let xs =
    c.in-Some.items.items in
    let count : length xs ≡ n = c.requires.items c.in-Some.items c.in-Some.is in (
      c.lay.ensures.own.0 ∙ c.requires.own.0,
      c.requires.own.1,
      go_steps b.key b.table_id.slots c.lay.new.chair.id c.lay.new.chair.me n [] xs
          (c.lay.ensures.laid ∙ (λ q. ((ap (λ z. z.0) c.requires.fresh) q, slots_of 0 (map Some (c.from.ensures.0 q))))) (count ∙ sym same),
    )

pub returns-in-Some-clause-said : goal.returns-in-Some-clause-said
returns-in-Some-clause-said g c = let n : ℕ = c.args.runners in let xs = c.in-Some.items.items in let e = c.store-in-Some.ensures.2 in
    let laid = c.lay.ensures.laid in
    let items : items_of c.lay.new.chair.me.1 ≡ xs = ap (λ z. items_of z.1) laid ∙ items_are 0 _ ∙ c.from.ensures.0 in
    let view = ap (λ z. z.0) laid ∙ ap (λ z. z.0) c.requires.fresh in
    rw c.in-Some.is (e ∙ (λ q. (starter ((view q).at) false (Go (items q)) ((view q).taken), [])))
