use Rattle.std.proofs.Common.{◌<◌, ℕ, List, Bor, length, map, sym, subst, arith}
use Rattle.std.proofs.lemmas.List.{drop_more, drop_all}
use Rattle.combining.specs.Alone.{AscendAll}
use Rattle.combining.proofs.alone.ascend_all.Goals as goal

pub loop-words-preserved : goal.loop-words-preserved
loop-words-preserved g c m j h =
    let rule = g.R.WriteRule.rule c.args.rule.now in
    let columns = c.args.columns.now in
    let i = c.loop-words.words-index in
    let l : i < length columns = omega arith in
    c.loop-words.invariant m j
    (subst (λ (xs : List (Bor (List ℕ))). AscendAll rule m j c.loop-words.least (map (λ x. x.now) xs)) (sym (drop_more columns i _ l))
    (c.in-Some.next, c.in-Some.ensures m j, h))

pub returns : goal.returns
returns g c e m j =
    let rule = g.R.WriteRule.rule c.args.rule.now in
    let columns = c.args.columns.now in
    let i = c.loop-words.words-index in
    c.loop-words.invariant m j
    (subst (λ (xs : List (Bor (List ℕ))). AscendAll rule m j c.loop-words.least (map (λ x. x.now) xs))
    (sym (drop_all i columns (omega arith))) tt)
