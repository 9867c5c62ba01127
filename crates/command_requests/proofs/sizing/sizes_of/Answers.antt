use Rattle.std.proofs.Common.{refl}
use Rattle.std.specs.HashSet.{contains_by}
use Rattle.std.specs.Str.{bytes_eq}
use Rattle.command_requests.proofs.SizeNames.{names_more}
use Rattle.command_requests.proofs.Sizes.{hands_on, one_more, refused_at}
use Rattle.command_requests.proofs.sizing.sizes_of.Goals as goal

pub returns-in_err-size-clause-refused : goal.returns-in_err-size-clause-refused
returns-in_err-size-clause-refused c =
    hands_on c.from_residual.result c.in_err-size.field-0.0 _ c.from_residual.ensures.1
    (refused_at c.args.words.now c.loop-word.word-index _ c.loop-word-test.true c.loop-word.sizes.items c.loop-word.invariant.sizes
    c.loop-word.sizes.items _ refl (c.in_err-size.ensures.refused c.loop-word.sizes.items c.loop-word.invariant.names))

pub loop-word-preserved : goal.loop-word-preserved
loop-word-preserved c =
    let sizes = c.loop-word.sizes.items in
    let new = c.in_ok-size.ensures.size sizes c.loop-word.invariant.names in
    record {
      sizes =
          one_more c.args.words.now c.loop-word.word-index _ c.loop-word-test.true sizes c.loop-word.invariant.sizes sizes _ _ refl new
          c.in_ok-add_size.ensures;
      names =
          names_more (λ q. contains_by (λ k. bytes_eq q k.now) c.loop-word.names) _ sizes _ _ _ _ c.loop-word.invariant.names new.0
          c.named.ensures c.in_ok-take_name.ensures c.in_ok-add_size.ensures;
    }
