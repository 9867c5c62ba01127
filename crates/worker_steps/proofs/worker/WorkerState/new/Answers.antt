use Rattle.std.proofs.Common.{◌≡◌, length, refl, ap, arith}
use Rattle.std.specs.Prelude.{nat_lt}
use Rattle.std.proofs.lemmas.List.{length-map}
use Rattle.superstep_machine.specs.Parts.{UniformPart}
use Rattle.superstep_machine.specs.Run.{is_held}
use Rattle.bsp_verify.specs.States.{opening}
use Rattle.worker_steps.proofs.worker.WorkerState.new.Goals as goal

pub returns-clause-verified : goal.returns-clause-verified
returns-clause-verified c = λ code.
    let e = c.in_ok-uniform.ensures.value in
    let width : c.in_ok-uniform.uniform.width ≡ 0 = ap (λ (u : UniformPart). u.width) e in
    let asks : length c.in_ok-uniform.uniform.asks.items ≡ 0 = simp length-map at (ap (λ (u : UniformPart). length u.asks) e) in
    let awaited : length c.in_ok-uniform.uniform.awaited.items ≡ 0 =
    simp length-map at (ap (λ (u : UniformPart). length u.awaited) e) in
    record {
      steps = 0;
      point = record { place = 0; state = opening };
      comes = (refl, refl);
      here = refl;
      describes = record {
        outside = λ h. width;
        narrow = omega (arith, width);
        masks = c.in_ok-bank.ensures.none.1;
        asks = asks;
        put = ap (λ (u : UniformPart). is_held u.put) e;
        awaited = ap (nat_lt 0) awaited;
      };
    }
