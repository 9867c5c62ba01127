use Rattle.std.proofs.Common.{◌∙◌, subst, sym}
use Rattle.pram_tokens.specs.Tokens.{AreReal}
use Rattle.help.proofs.Inserting.{real_between}
use Rattle.help.proofs.missing.reach_with.Goals as goal

pub reach-requires : goal.reach-requires
reach-requires c = record {
  real = subst AreReal (sym (c.deref.ensures.value ∙ c.in_ok-insert.ensures.items))
      (real_between c.args.tokens.now.items c.args.at c.args.choice c.in_ok-token.token c.requires.real c.in_ok-token.ensures);
}
