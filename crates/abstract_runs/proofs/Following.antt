-- What is known later in a run: laws.
use Rattle.std.proofs.Common.{refl, ◌∙◌, arith}
use Rattle.abstract_runs.specs.declared.standing.Standing.{Standing}
use Rattle.abstract_runs.specs.Following.{Follows}

pub follows_same : (a : Standing) → Follows a a
follows_same a = record {
  least = omega arith;
  most = omega arith;
  size = record { uniforms = refl; cells = refl; origins = refl };
}

pub follows_then : (a b c : Standing) → Follows a b → Follows b c → Follows a c
follows_then a b c h k = record {
  least = (let l = h.least in let m = k.least in omega (arith, l, m));
  most = (let l = h.most in let m = k.most in omega (arith, l, m));
  size = record {
    uniforms = h.size.uniforms ∙ k.size.uniforms;
    cells = h.size.cells ∙ k.size.cells;
    origins = h.size.origins ∙ k.size.origins;
  };
}
