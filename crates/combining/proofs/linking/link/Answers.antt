use Rattle.std.proofs.Common.{◌≡◌, ℕ, ◌≤◌, ◌+◌, ◌++◌, ◌∷◌, [], length, take, get_or, set, subst, sym, ◌∙◌, arith}
use Rattle.std.proofs.lemmas.List.{get_or-take, length-take-le, take_more}
use Rattle.std.proofs.lemmas.Nat.{and_le_r}
use Rattle.combining.specs.Places.{home, IsLinked}
use Rattle.combining.proofs.Chains.{IsLinked_more}
use Rattle.combining.proofs.linking.link.Goals as goal

pub returns-clause-linked : goal.returns-clause-linked
returns-clause-linked c =
    let keys = c.args.keys.now in
    let links = c.args.links.now.items in
    let heads = c.args.heads.now in
    let n = length links in
    let key = get_or keys n 0 in
    let h = home c.args.mask key in
    let small : h ≤ c.args.mask = and_le_r key c.args.mask in
    let long : length (take n keys) ≡ n = length-take-le n keys (let o = c.requires.one in omega arith) in
    let e : c.len-n.result ≡ n = (let v = c.args.links.now.ok.0 in let r = c.len-n.ensures in omega (arith, v, r)) in
    let is = rw e at c.trusted-before.ensures.head in
    let first = c.trusted-before.result in
    rw (c.push_reserved.ensures.items, e, take_more keys n 0 c.requires.one)
    (subst (λ (m : ℕ). IsLinked c.args.mask (take n keys ++ key ∷ []) (links ++ first ∷ []) (set heads h (m + 1))) long
    (IsLinked_more c.args.mask (take n keys) key links heads first small c.requires.linked is
    (λ j l e. c.requires.new j (omega (arith, l, long)) (sym (get_or-take n keys j 0 (omega (arith, l, long))) ∙ e))))
