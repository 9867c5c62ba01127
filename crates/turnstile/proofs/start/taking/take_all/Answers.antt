use Rattle.std.proofs.Common.{◌≡◌, ◌∷◌, ◌++◌, [], ◌∙◌, ap, sym, refl, append_assoc, append-nil, length, slice_get, option_to_list}
use Rattle.turnstile.proofs.Rosters.{get_seam}
use Rattle.turnstile.proofs.start.taking.take_all.Goals as goal

pub loop-from-init : goal.loop-from-init
loop-from-init g c = record {
  table = refl;
  id = refl;
  taken =
      ([], append-nil c.args.runners.items, (λ q. (c.requires.starter q, c.args.chair.now.me.1)));
}

pub take_in-requires-clause-own : goal.take_in-requires-clause-own
take_in-requires-clause-own g c = let now = c.loop-from.invariant in let from = c.in-Some.from in let l = c.pop.new.self.items in let t =
    now.taken.0 in
    let all : l ++ from ∷ t ≡ c.args.runners.items = sym (append_assoc l (from ∷ []) t)
    ∙ ap (λ z. z ++ t) (sym (c.pop.ensures.items ∙ ap (λ o. l ++ option_to_list o) c.in-Some.is)) ∙ now.taken.1 in (
      now.table ∙ c.requires.own.0,
      c.requires.runners (length l) from (ap (λ z. slice_get z (length l)) (sym all) ∙ get_seam l from t),
      c.requires.own.1,
    )
