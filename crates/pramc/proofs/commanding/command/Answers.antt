use Rattle.std.proofs.Common.{◌∙◌, false, map, subst, sym}
use Rattle.std.specs.String.{string_bytes}
use Rattle.command_text.specs.declared.terminal.Terminal.{Terminal}
use Rattle.pramc.specs.Command as spec
use Rattle.pramc.proofs.commanding.command.Goals as goal

pub returns-then-asks_for_json : goal.returns-then-asks_for_json
returns-then-asks_for_json g c =
    let words = map string_bytes c.args.words.now in
    let asks = sym c.asks_for_json.ensures ∙ c.if-asks_for_json.true in
    record {
      leaves = (
        c.read-asked.result,
        (c.read-asked.ensures.version, c.read-asked.ensures.refused),
        subst (λ b. spec.LeavesIn b (g.S.Sources.holds c.args.sources.now) (g.S.Sources.holds c.answer.new.sources)
            (spec.explaining c.args.terminal words) words c.read-asked.result (g.O.Out.state c.args.out.now)
            (g.O.Out.state c.answer.new.out) (g.E.Out.state c.args.err.now)
            (g.E.Out.state c.answer.new.err) c.answer.result) (sym asks) c.answer.ensures.left,
      );
    }

pub returns-else-asks_for_json : goal.returns-else-asks_for_json
returns-else-asks_for_json g c =
    let words = map string_bytes c.args.words.now in
    let asks = sym c.asks_for_json.ensures ∙ c.if-asks_for_json.false in
    let answer = c.answer-else-asks_for_json in
    let told = subst (λ (on : Terminal). spec.LeavesIn false (g.S.Sources.holds c.args.sources.now)
    (g.S.Sources.holds answer.new.sources) on words c.read-asked.result
    (g.O.Out.state c.args.out.now) (g.O.Out.state answer.new.out) (g.E.Out.state c.args.err.now) (g.E.Out.state answer.new.err)
    answer.result) c.explaining-on.ensures answer.ensures.left in
    record {
      leaves = (
        c.read-asked.result,
        (c.read-asked.ensures.version, c.read-asked.ensures.refused),
        subst (λ b. spec.LeavesIn b (g.S.Sources.holds c.args.sources.now) (g.S.Sources.holds answer.new.sources)
            (spec.explaining c.args.terminal words) words c.read-asked.result (g.O.Out.state c.args.out.now)
            (g.O.Out.state answer.new.out) (g.E.Out.state c.args.err.now)
            (g.E.Out.state answer.new.err) answer.result) (sym asks) told,
      );
    }
