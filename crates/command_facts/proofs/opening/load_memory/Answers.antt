use Rattle.std.proofs.Common.{List, ℕ, subst}
use Rattle.command_requests.proofs.Sizes.{hands_on}
use Rattle.memory_texts.specs.Memory.{IsRefused}
use Rattle.command_facts.proofs.Files.{memory_stops, unread_memory}
use Rattle.command_facts.proofs.opening.load_memory.Goals as goal

-- the file wasn't read
pub returns-in_err-bytes-clause-of_file : goal.returns-in_err-bytes-clause-of_file
returns-in_err-bytes-clause-of_file g c =
    let h = c.in_err-bytes.field-0.0 in
    hands_on _ h _ c.from_residual.ensures.1
    (unread_memory (g.S.Sources.holds c.args.sources.now c.args.name.now) c.args.name.now c.args.layout.now h.stop h.about
    c.in_err-bytes.ensures.unread)

pub returns-clause-of_file : goal.returns-clause-of_file
returns-clause-of_file g c =
    let h = c.halted_memory.result in
    let refused = subst (λ (t : List ℕ). IsRefused c.args.layout.now t c.in-Err.fault) c.deref.ensures.value c.in-Err.ensures.refused in
    memory_stops (g.S.Sources.holds c.args.sources.now c.args.name.now) c.args.name.now c.args.layout.now c.in_ok-bytes.bytes.items
    h.stop h.about c.in_ok-bytes.ensures.bytes (c.halted_memory.ensures c.args.layout.now refused)
