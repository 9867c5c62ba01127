use Rattle.std.proofs.Common.{◌≡◌, ◌∙◌, ◌++◌, Some, ap, sym, codes, rules, unwrap_or}
use Rattle.run_options.specs.Numbers.{number_of}
use Rattle.drawn_kinds.proofs.Worded.{number_behind, found_by, named_all}
use Rattle.drawn_kinds.proofs.kind.read_kind.Goals as goal

pub returns-clause-named : goal.returns-clause-named
returns-clause-named c =
    let spelled : c.args.word.now ≡ codes "graph:" ++ c.in_ok-kind.count.now = search rules in
    named_all c.args.word.now c.in_ok-read_number.field-0 c.graph.result
    (record { number = c.in_ok-kind.count.now; spelled = spelled; is = sym c.in_ok-read_number.ensures }) c.graph.ensures.is

pub returns-clause-found : goal.returns-clause-found
returns-clause-found c =
    found_by c.args.word.now _ (λ (e : c.args.word.now ≡ codes "list"). search rules)
    (λ (e : c.args.word.now ≡ codes "ring"). search rules) (λ (e : c.args.word.now ≡ codes "ring:0"). search rules)
    (λ (e : c.args.word.now ≡ codes "tree"). search rules) (λ (e : c.args.word.now ≡ codes "sorted"). search rules)
    (λ (e : c.args.word.now ≡ codes "permutation"). search rules) (λ vertices p.
    let cut = number_behind c.args.word.now vertices.count (Some (c.in_ok-kind.kind, c.in_ok-kind.count)) c.in_ok-kind.ensures.cases p in
    let one : Some c.in_ok-read_number.field-0 ≡ Some vertices.count = c.in_ok-read_number.ensures ∙ ap number_of cut.1 ∙ p.is in
    c.graph.ensures.found vertices (sym (ap (λ o. unwrap_or o 0) one)))
