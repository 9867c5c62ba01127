use Rattle.std.proofs.Common.{rules, FitsSigned, ◌≡◌, ◌∙◌, ◌<◌, ◌++◌, ◌∷◌, [], length, length-append, set, get_or, ap, arith, ℕ, w64, to_z}
use Rattle.std.proofs.Common.{of_z}
use Rattle.std.proofs.lemmas.Int.{to_z-of_z}
use Rattle.combining.specs.Asked.{unasked, both}
use Rattle.combining.proofs.Marks.{length_both, both_put, both_more}
use Rattle.combining.proofs.states.AskStates.put.Goals as goal

-- the next value
pub push_reserved-requires : goal.push_reserved-requires
push_reserved-requires c =
    let n = length_both c.self.inside.marks.items c.self.inside.came.items in
    let r = rw (← c.self.view_is) at c.requires in
    let room = c.self.invariant.0 in
    let v = c.self.inside.marks.ok in
    let w = c.self.inside.came.ok in
    omega (arith, n, r, room, v, w)

pub invariant_of-self : goal.invariant_of-self
invariant_of-self c =
    let n = length_both c.self.inside.marks.items c.self.inside.came.items in
    let r = rw (← c.self.view_is) at c.requires in
    let m = length-append c.self.inside.came.items (to_z w64 (of_z w64 c.args.value) ∷ []) in
    let w = c.self.inside.came.ok in (
      c.push_reserved.ensures.capacity ∙ c.self.invariant.0,
      rw (c.push_reserved.ensures.items) (omega (arith, n, r, m, w)),
    )

pub returns-then-place-len-clause-items : goal.returns-then-place-len-clause-items
returns-then-place-len-clause-items c =
    let bs = c.self.inside.marks.items in
    let vs = c.self.inside.came.items in
    let w = c.self.inside.came.ok in
    let here : length vs ≡ c.args.place = omega arith in
    let fits : FitsSigned w64 c.args.value = search rules in
    rw (← c.self.view_is) (ap (both bs) (c.push_reserved.ensures.items
    ∙ ap (λ u. vs ++ u ∷ []) (to_z-of_z w64 c.args.value fits))
    ∙ both_more bs vs c.args.value
    ∙ ap (λ (n : ℕ). set (both bs vs) n (record { again = (get_or (both bs vs) n unasked).again; value = c.args.value })) here)

-- a value in place of another
pub returns-then-place-len-2-clause-items : goal.returns-then-place-len-2-clause-items
returns-then-place-len-2-clause-items c =
    let bs = c.self.inside.marks.items in
    let vs = c.self.inside.came.items in
    let v = c.self.inside.came.ok.0 in
    let l : c.args.place < length vs = omega arith in
    let fits : FitsSigned w64 c.args.value = search rules in
    rw (← c.self.view_is) (ap (λ u. both bs (set vs c.args.place u)) (to_z-of_z w64 c.args.value fits)
    ∙ both_put bs vs c.args.place c.args.value l)

-- a value behind some that are missing
pub fill_up-requires-clause-room : goal.fill_up-requires-clause-room
fill_up-requires-clause-room c =
    let n = length_both c.self.inside.marks.items c.self.inside.came.items in
    let r = rw (← c.self.view_is) at c.requires in
    let room = c.self.invariant.0 in
    let v = c.self.inside.marks.ok in
    omega (arith, n, r, room, v)

pub push_reserved-requires-else-place-len-2 : goal.push_reserved-requires-else-place-len-2
push_reserved-requires-else-place-len-2 c =
    let n = length_both c.self.inside.marks.items c.self.inside.came.items in
    let r = rw (← c.self.view_is) at c.requires in
    let room = c.self.invariant.0 in
    let v = c.self.inside.marks.ok in
    let w = c.fill_up.new.came.ok in
    let full = c.fill_up.ensures.count in
    let kept = c.fill_up.ensures.room in
    omega (arith, n, r, room, v, w, full, kept)

pub invariant_of-self-else-place-len-2 : goal.invariant_of-self-else-place-len-2
invariant_of-self-else-place-len-2 c =
    let n = length_both c.self.inside.marks.items c.self.inside.came.items in
    let r = rw (← c.self.view_is) at c.requires in
    let m = length-append c.fill_up.new.came.items (to_z w64 (of_z w64 c.args.value) ∷ []) in
    let full = c.fill_up.ensures.count in
    let push = c.push_reserved-else-place-len-2.ensures in (
      push.capacity ∙ c.fill_up.ensures.room ∙ c.self.invariant.0,
      rw (push.items) (omega (arith, n, r, m, full)),
    )

pub returns-else-place-len-2-clause-items : goal.returns-else-place-len-2-clause-items
returns-else-place-len-2-clause-items c =
    let bs = c.self.inside.marks.items in
    let vs = c.fill_up.new.came.items in
    let fits : FitsSigned w64 c.args.value = search rules in
    rw (← c.self.view_is, ← c.fill_up.ensures.same bs) (ap (both bs) (c.push_reserved-else-place-len-2.ensures.items
    ∙ ap (λ u. vs ++ u ∷ []) (to_z-of_z w64 c.args.value fits))
    ∙ both_more bs vs c.args.value
    ∙ ap (λ (n : ℕ). set (both bs vs) n (record { again = (get_or (both bs vs) n unasked).again; value = c.args.value }))
    c.fill_up.ensures.count)
