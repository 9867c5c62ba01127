use Rattle.std.proofs.Common.{ℕ, List, ◌++◌, subst}
use Rattle.std.specs.Prelude.{codes}
use Rattle.text_out.specs.Out.{Writes}
use Rattle.command_requests.proofs.sentence.write_wanted.Goals as goal

pub returns : goal.returns
returns g c =
    let name = c.name.ensures in
    let wanted = c.wanted.ensures in
    record {
      written = subst (λ (t : List ℕ). Writes (g.W.Out.state c.args.out.now) (g.W.Out.state c.write_parts.new.self) t c.write_parts.result)
          (λ i. codes "` for `" ++ (name i ++ (codes "`: it wants " ++ (wanted i ++ codes "\n")))) c.write_parts.ensures.written;
    }
