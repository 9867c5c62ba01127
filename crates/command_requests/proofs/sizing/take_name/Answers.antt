use Rattle.std.proofs.Common.{◌∙◌}
use Rattle.std.specs.HashSet.{contains_by}
use Rattle.std.specs.Str.{bytes_eq}
use Rattle.command_requests.proofs.SizeNames.{cond_or}
use Rattle.command_requests.proofs.sizing.take_name.Goals as goal

pub returns : goal.returns
returns c q =
    c.in_ok-_added.ensures.updates.0 (record { ref_ptr = (0, 0); now = q })
    ∙ cond_or (bytes_eq c.args.name.now q) (contains_by (λ k. bytes_eq q k.now) c.args.names.now)
