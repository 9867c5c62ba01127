use Rattle.std.proofs.Common.{◌≡◌, map, take}
use Rattle.serde_json.specs.View.{view}
use Rattle.comparing.specs.Compared.{rules}
use Rattle.json_texts.specs.RuleFacts.{rule_facts}
use Rattle.json_texts.proofs.rules.findings.Given as goal

abbrev pub invariant-loop-rule : goal.invariant-loop-rule
invariant-loop-rule l = map view l.list.items ≡ map (rule_facts l.comparison) (take l.rule-index rules)
