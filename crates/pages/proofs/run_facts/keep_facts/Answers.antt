use Rattle.std.proofs.Common.{◌++◌, ◌∙◌, List, ap, ℕ}
use Rattle.std.specs.String.{string_bytes}
use Rattle.pages.proofs.OneEntry.{line_pushed}
use Rattle.pages.proofs.Whole.{facts_kept}
use Rattle.pages.proofs.run_facts.keep_facts.Goals as goal

pub returns : goal.returns
returns c = record {
  facts = λ es h.
      let opening = string_bytes c.in_ok-head.head in
      let before = string_bytes c.in_ok-before.before in
      let end = string_bytes c.in_ok-end.end in
      let joined = c.as_bytes.ensures.value ∙ c.in_ok-push_str.ensures.bytes ∙ ap (λ (l : List ℕ). opening ++ l) c.deref.ensures in
      facts_kept c.args.file.now c.args.text.now c.args.program.now c.args.input.now c.args.outcome.now c.args.asked c.args.gathered
      c.requires.layout c.requires.tree c.requires.source c.tree.result.now c.layout.result.now opening before c.as_bytes.result.now end
      c.in_ok-lines.lines
      c.push.new.self c.tree.ensures.tree c.in_ok-head.ensures.json c.in_ok-before.ensures.stands c.layout.ensures c.in_ok-end.ensures.json
      joined c.in_ok-lines.ensures
      (line_pushed c.in_ok-lines.lines c.push.new.self _ end c.as_bytes-2.ensures.value c.in_ok-push.ensures) es h;
}
