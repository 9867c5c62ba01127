use Rattle.std.proofs.Common.{refl, pos, slice_index_or, subst, sym}
use Rattle.all_inputs.specs.Overall.{Cover}
use Rattle.abstract_runs.proofs.Narrowed.{left_in, nothing_left, place_left}
use Rattle.abstract_runs.proofs.narrowing_slots.narrow_place.Goals as goal

pub returns-in_default-clause-kept : goal.returns-in_default-clause-kept
returns-in_default-clause-kept c = λ zs y cover i is.
    absurd (nothing_left c.args.comparison c.interval_at.result c.args.other c.narrowed.result (slice_index_or zs c.args.place (pos 0)) y
    c.narrowed.ensures (c.interval_at.ensures zs (subst (λ is. Cover is zs) (sym c.deref.ensures.value) cover)) i is c.in_default.is)

pub returns-clause-kept : goal.returns-clause-kept
returns-clause-kept c = λ zs y cover i is. (
  refl,
  place_left c.set_interval.new.items.items zs c.args.place c.in-Some.left (λ v j. c.set_interval.ensures.covers zs v cover j)
      (left_in c.args.comparison c.interval_at.result c.args.other c.narrowed.result (slice_index_or zs c.args.place (pos 0)) y
      c.narrowed.ensures (c.interval_at.ensures zs (subst (λ is. Cover is zs) (sym c.deref.ensures.value) cover)) i is c.in-Some.left
      c.in-Some.is),
)
