use Rattle.std.proofs.Common.{◌∙◌}
use Rattle.help.proofs.Beginnings.{real_with}
use Rattle.help.proofs.asking.could_stand.Goals as goal

pub begins-requires : goal.begins-requires
begins-requires c = record {
  real =
      real_with c.args.tokens.now.items c.deref.result.now c.args.choice c.in_ok-sample.field-0 c.requires.real c.in_ok-sample.ensures
      (c.deref.ensures.value ∙ c.in_ok-push.ensures.items);
}
