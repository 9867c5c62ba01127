use Rattle.std.proofs.Common.{◌≡◌, ◌∙◌, ◌+◌, ◌<◌, ◌∷◌, ◌++◌, [], List, Some, ap, arith, get_or, length, map, subst, sym, take, true}
use Rattle.std.proofs.lemmas.List.{length-map, map-append, get_or-map}
use Rattle.std.proofs.lemmas.List.Elements.{All-get_or}
use Rattle.std.specs.Prelude.{slice_get}
use Rattle.scopes.specs.Firsts.{Met}
use Rattle.scopes.specs.Found.{met_is}
use Rattle.scopes.specs.Shrunk.{AreShrunkMet}
use Rattle.scopes.specs.Wrong.{goes_wrong}
use Rattle.scopes.specs.declared.wrong.Wrong.TheVariants.{Faults}
use Rattle.scopes.proofs.Lists.{at_get, until}
use Rattle.scopes.proofs.ToldSmaller.{shrunk_push}
use Rattle.scopes.proofs.shrunk_findings.shrunk_faults.Goals as goal

pub shrunk_fault-requires : goal.shrunk_fault-requires
shrunk_fault-requires c =
    let s = c.args.scope in
    let t = c.args.specification.now in
    let p = c.args.program.now in
    let n = c.args.bound in
    let fs = c.args.faults.now in
    let i = c.loop-found.found-index in
    let f = c.found-item.result in
    let P : Met → Type 0 = λ m. goes_wrong s t p n (Faults m.fault) m.input ≡ true in
    let many = length-map fs met_is in
    let lt : i < length (map met_is fs) = omega (arith, many, c.loop-found-test.true) in
    let is : get_or (map met_is fs) i (met_is f) ≡ met_is f = get_or-map met_is fs i f (met_is f) c.loop-found-test.true ∙ ap met_is (sym c.found-item.is) in
    record { told = subst P is (All-get_or P (map met_is fs) i (met_is f) lt c.requires.told) }

pub loop-found-preserved : goal.loop-found-preserved
loop-found-preserved c =
    let s = c.args.scope in
    let t = c.args.specification.now in
    let p = c.args.program.now in
    let n = c.args.bound in
    let fs = c.args.faults.now in
    let i = c.loop-found.found-index in
    let f = c.found-item.result in
    let g = c.in_ok-smaller.smaller in
    let old = c.loop-found.shrunk.items in
    let at : slice_get fs i ≡ Some f = at_get fs i f c.loop-found-test.true ∙ ap Some (sym c.found-item.is) in
    let before : map met_is (take (i + 1) fs) ≡ map met_is (take i fs) ++ met_is f ∷ [] =
    ap (map met_is) (until fs i f at) ∙ map-append met_is (take i fs) (f ∷ []) in
    let behind : map met_is c.push.new.self.items ≡ map met_is old ++ met_is g ∷ [] =
    ap (map met_is) c.in-Ok.ensures.items ∙ map-append met_is old (g ∷ []) in
    subst (λ (qs : List Met). AreShrunkMet s t p n (map met_is (take (i + 1) fs)) qs) (sym behind)
    (subst (λ (ms : List Met). AreShrunkMet s t p n ms (map met_is old ++ met_is g ∷ [])) (sym before)
    (shrunk_push s t p n (map met_is (take i fs)) (map met_is old) (met_is f) (met_is g) c.loop-found.invariant c.in_ok-smaller.ensures))
