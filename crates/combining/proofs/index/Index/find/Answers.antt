use Rattle.std.proofs.Common.{◌≡◌, ◌<◌, ◌≤◌, length, take, ap, ◌∙◌, arith}
use Rattle.std.proofs.lemmas.List.{get_or-take, length-take-le}
use Rattle.combining.specs.Places.{place_of}
use Rattle.combining.proofs.Chains.{place_absent}
use Rattle.combining.proofs.Pairs.{place_bound}
use Rattle.combining.proofs.Ascents.{few_linked, place_take}
use Rattle.combining.proofs.index.Index.find.Goals as goal

pub returns-then-i-linked : goal.returns-then-i-linked
returns-then-i-linked c =
    let x = c.self.inside in
    let keys = x.keys.items in
    let m = c.len-linked.result in
    let few = few_linked x.mask keys x.links.items x.heads.items c.self.invariant.2 in
    let e : m ≤ length keys = (let v = x.links.ok.0 in let r = c.len-linked.ensures in omega (arith, v, r, few)) in
    let long = length-take-le m keys e in
    let p : c.linked_place-i.result ≡ place_of c.args.key (take m keys) =
    c.linked_place-i.ensures.place ∙ ap (λ ks. place_of c.args.key (take m ks)) c.deref.ensures.value in
    let l : place_of c.args.key (take m keys) < length (take m keys) = (let t = c.if-i-linked.true in omega (arith, p, long, t)) in
    record { place = rw (← c.self.view_is) (p ∙ place_take c.args.key keys m l) }

pub place_from-requires-clause-none : goal.place_from-requires-clause-none
place_from-requires-clause-none c = λ j l f.
    let x = c.self.inside in
    let keys = x.keys.items in
    let m = c.len-linked.result in
    let few = few_linked x.mask keys x.links.items x.heads.items c.self.invariant.2 in
    let e : m ≤ length keys = (let v = x.links.ok.0 in let r = c.len-linked.ensures in omega (arith, v, r, few)) in
    let long = length-take-le m keys e in
    let p : c.linked_place-i.result ≡ place_of c.args.key (take m keys) =
    c.linked_place-i.ensures.place ∙ ap (λ ks. place_of c.args.key (take m ks)) c.deref.ensures.value in
    let b = place_bound c.args.key (take m keys) in
    let q : place_of c.args.key (take m keys) ≡ length (take m keys) =
    (let t = c.if-i-linked.false in omega (arith, p, long, t, b)) in
    let g = rw c.as_slice-3.ensures.value at f in
    place_absent c.args.key (take m keys) q j (omega (arith, l, long)) (get_or-take m keys j 0 l ∙ g)
