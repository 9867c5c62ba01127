use denote.Param.Send.{sendable}
use Rattle.std.proofs.Common.{◌≡◌, ◌+◌, ◌*◌, ◌<◌, ◌∷◌, ◌++◌, [], Result, Ok, IfOk, get_or, rules, ◌∙◌, ap, sym, subst, length}
use Rattle.std.proofs.Common.{length-append, append_assoc, take, drop, arith}
use Rattle.std.proofs.Crossing.{crosses}
use Rattle.std.proofs.alloc.Global.TheSendSync as global
use Rattle.std.specs.Vec.Iter.{into_iter_items}
use Rattle.scopes.proofs.scope.Scope.TheSendSync as scope
use Rattle.scopes.specs.Scopes.{inputs_of}
use Rattle.pram_meaning.specs.declared.observation.MeaningRefusal.{MeaningRefusal}
use Rattle.scopes.specs.declared.findings.Findings.{Findings}
use Rattle.scopes.specs.Found.{found, found_is}
use Rattle.std.proofs.lemmas.List.{length-drop}
use Rattle.scopes.proofs.Blocks.{dropped_on, next_is, one_more, room_for}
use Rattle.scopes.proofs.Shared.{program_sync, specification_sync}
use Rattle.scopes.proofs.side_by_side.explore_blocks.Goals as goal

pub map_indices-requires-sync-F : goal.map_indices-requires-sync-F
map_indices-requires-sync-F g c κs within =
    search (specification_sync, program_sync, scope.the_sync, global.the_sync, crosses, sendable) depth 60 fits 20000

pub append-requires : goal.append-requires
append-requires g c =
    let y = c.merging.yielded in
    let b = c.in-Some.part in
    let left = into_iter_items c.next.new.self in
    let all = c.in_ok-parts.parts.items in
    let begun : into_iter_items c.into_iter-part-iterator.result ≡ all = search rules in
    let whole : y ++ b ∷ left ≡ all = ap (λ z. y ++ z) (sym c.in-Some.ensures.steps.0) ∙ c.merging.invariant.rest ∙ begun in
    let l = ap length whole in
    let m = length-append y (b ∷ left) in
    let n = c.in_ok-parts.ensures.len in
    let fewer : length y < c.args.workers = omega (arith, l, m, n) in
    let found_by = (c.in_ok-parts.ensures.each (length y) b fewer).1.met in
    let is : get_or all (length y) b ≡ Ok c.in-Ok.found = next_is y b b left all whole ∙ c.in-Ok.is in
    let from = drop c.args.place (inputs_of c.args.scope) in
    let there : drop (c.args.place + length y * c.args.size) (inputs_of c.args.scope) ≡ drop (length y * c.args.size) from =
    dropped_on c.args.place (length y * c.args.size) (inputs_of c.args.scope) in
    let told : found_is c.in-Ok.found ≡ found c.args.specification.now c.args.program.now c.args.bound (take c.args.size (drop
    (length y * c.args.size) from)) =
    subst (λ (r : Result Findings MeaningRefusal). IfOk r (λ f. found_is f ≡ found c.args.specification.now c.args.program.now c.args.bound
    (take c.args.size (drop (c.args.place + length y * c.args.size) (inputs_of c.args.scope))))) is found_by
    ∙ ap (λ xs. found c.args.specification.now c.args.program.now c.args.bound (take c.args.size xs)) there in
    let room = room_for c.args.specification.now c.args.program.now c.args.bound from (length y) c.args.size (found_is c.merging.all)
    (found_is c.in-Ok.found) c.merging.invariant.so_far told in
    let fewer_left = length-drop c.args.place (inputs_of c.args.scope) in
    let few = c.requires.few in
    record { room = omega (arith, room, fewer_left, few) }

pub merging-preserved : goal.merging-preserved
merging-preserved g c =
    let y = c.merging.yielded in
    let b = c.in-Some.part in
    let left = into_iter_items c.next.new.self in
    let all = c.in_ok-parts.parts.items in
    let begun : into_iter_items c.into_iter-part-iterator.result ≡ all = search rules in
    let rest : y ++ b ∷ left ≡ into_iter_items c.into_iter-part-iterator.result =
    ap (λ z. y ++ z) (sym c.in-Some.ensures.steps.0) ∙ c.merging.invariant.rest in
    let whole : y ++ b ∷ left ≡ all = rest ∙ begun in
    let l = ap length whole in
    let m = length-append y (b ∷ left) in
    let n = c.in_ok-parts.ensures.len in
    let fewer : length y < c.args.workers = omega (arith, l, m, n) in
    let found_by = (c.in_ok-parts.ensures.each (length y) b fewer).1.met in
    let is : get_or all (length y) b ≡ Ok c.in-Ok.found = next_is y b b left all whole ∙ c.in-Ok.is in
    let from = drop c.args.place (inputs_of c.args.scope) in
    let there : drop (c.args.place + length y * c.args.size) (inputs_of c.args.scope) ≡ drop (length y * c.args.size) from =
    dropped_on c.args.place (length y * c.args.size) (inputs_of c.args.scope) in
    let told : found_is c.in-Ok.found ≡ found c.args.specification.now c.args.program.now c.args.bound (take c.args.size (drop
    (length y * c.args.size) from)) =
    subst (λ (r : Result Findings MeaningRefusal). IfOk r (λ f. found_is f ≡ found c.args.specification.now c.args.program.now c.args.bound
    (take c.args.size (drop (c.args.place + length y * c.args.size) (inputs_of c.args.scope))))) is found_by
    ∙ ap (λ xs. found c.args.specification.now c.args.program.now c.args.bound (take c.args.size xs)) there in
    record {
      rest = append_assoc y (b ∷ []) left ∙ rest;
      so_far = one_more c.args.specification.now c.args.program.now c.args.bound from (length y) (length (y ++ b ∷ [])) c.args.size
          (found_is c.merging.all) (found_is c.in-Ok.found) (found_is c.append.new.self) c.merging.invariant.so_far told
          c.in_ok-append.ensures (length-append y (b ∷ []));
    }
