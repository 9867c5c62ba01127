use Rattle.std.proofs.Common.{◌≡◌, ◌<◌, ◌≤◌, ◌+◌, ◌-◌, ◌++◌, ◌∷◌, [], ℕ, length, get_or, refl, sym, ap, ◌∙◌, arith}
use Rattle.std.proofs.lemmas.List.{get_or_read, get_or_append_left, get_or_push}
use Rattle.combining.specs.Places.{place_of}
use Rattle.combining.proofs.Chains.{place_absent}
use Rattle.combining.proofs.Ascents.{below_more, place_above, place_last, IsIndexed_above}
use Rattle.combining.proofs.index.Index.hold.Goals as goal

pub invariant_of-self-then-last-key : goal.invariant_of-self-then-last-key
invariant_of-self-then-last-key c =
    let x = c.self.inside in
    let keys = x.keys.items in
    let n : ℕ = c.len-n.result - 1 in
    let inv = c.self.invariant in
    let long : length keys ≡ c.len-n.result = (let v = x.keys.ok.0 in let r = c.len-n.ensures in omega (arith, v, r)) in
    let some : n + 1 ≡ length keys = (let z = c.if-n-eq0.false in omega (arith, long, z)) in
    let small : length x.links.items ≤ n =
    (let v = x.links.ok.0 in let r = c.len.ensures in let t = c.if-len-n.true in omega (arith, v, r, t)) in
    let last = get_or_read keys n _ (omega (arith, some)) c.index-last.ensures 0 in
    let less : get_or keys n 0 < c.args.key = (let t = c.if-last-key.true in omega (arith, last, t)) in
    let below = below_more keys n (length x.links.items) c.args.key inv.2.ascend small some less in (
      omega arith,
      omega arith,
      rw c.push_reserved-then-last-key.ensures.items (IsIndexed_above x.mask keys x.links.items x.heads.items c.args.key inv.2 below),
    )

pub returns-then-last-key-clause-place : goal.returns-then-last-key-clause-place
returns-then-last-key-clause-place c =
    let x = c.self.inside in
    let keys = x.keys.items in
    let n : ℕ = c.len-n.result - 1 in
    let long : length keys ≡ c.len-n.result = (let v = x.keys.ok.0 in let r = c.len-n.ensures in omega (arith, v, r)) in
    let some : n + 1 ≡ length keys = (let z = c.if-n-eq0.false in omega (arith, long, z)) in
    let small : length x.links.items ≤ n =
    (let v = x.links.ok.0 in let r = c.len.ensures in let t = c.if-len-n.true in omega (arith, v, r, t)) in
    let last = get_or_read keys n _ (omega (arith, some)) c.index-last.ensures 0 in
    let less : get_or keys n 0 < c.args.key = (let t = c.if-last-key.true in omega (arith, last, t)) in
    let below = below_more keys n (length x.links.items) c.args.key c.self.invariant.2.ascend small some less in
    rw (← c.self.view_is) (sym long ∙ place_above c.args.key keys below)

pub returns-then-last-key-2-clause-place : goal.returns-then-last-key-2-clause-place
returns-then-last-key-2-clause-place c =
    let x = c.self.inside in
    let keys = x.keys.items in
    let n : ℕ = c.len-n.result - 1 in
    let long : length keys ≡ c.len-n.result = (let v = x.keys.ok.0 in let r = c.len-n.ensures in omega (arith, v, r)) in
    let some : n + 1 ≡ length keys = (let z = c.if-n-eq0.false in omega (arith, long, z)) in
    let small : length x.links.items ≤ n =
    (let v = x.links.ok.0 in let r = c.len.ensures in let t = c.if-len-n.true in omega (arith, v, r, t)) in
    let last = get_or_read keys n _ (omega (arith, some)) c.index-last.ensures 0 in
    rw (← c.self.view_is) (place_last c.args.key keys n (length x.links.items) c.self.invariant.2.ascend small (omega (arith, some))
    (sym last ∙ c.if-last-key-2.true))

pub link-requires-clause-new : goal.link-requires-clause-new
link-requires-clause-new c = λ j l f.
    let x = c.self.inside in
    let keys = x.keys.items in
    let key = c.args.key in
    let long : c.len-n.result ≡ length keys = (let v = x.keys.ok.0 in let r = c.len-n.ensures in omega (arith, v, r)) in
    let is = c.as_slice-then-i-n.ensures.value ∙ c.push_reserved-then-i-n.ensures.items in
    let many : length c.link_all.new.links.items ≡ length keys =
    c.link_all.ensures.linked.as_many ∙ ap length c.as_slice.ensures.value in
    let p : place_of key keys ≡ length keys =
    sym (c.linked_place-i.ensures.place ∙ ap (place_of key) c.as_slice-2.ensures.value) ∙ c.if-i-n.true ∙ long in
    let g = rw is at f in
    place_absent key keys p j (omega (arith, l, many))
    (sym (get_or_append_left keys (key ∷ []) 0 j (omega (arith, l, many))) ∙ g
    ∙ ap (λ m. get_or (keys ++ key ∷ []) m 0) many ∙ get_or_push keys key 0 (length keys) refl)
