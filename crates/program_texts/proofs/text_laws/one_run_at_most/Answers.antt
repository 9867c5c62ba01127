use Rattle.std.proofs.Common.{◌≡◌, ◌∙◌, ap, sym}
use Rattle.pram_trees.specs.Program.{ProgramTree}
use Rattle.pram_parser.proofs.OneTree.{one_tree_at_most}
use Rattle.pram_names.specs.Scope.{shared_entries}
use Rattle.pram_meaning.proofs.OneTree.{tree_has_one_outcome}
use Rattle.program_texts.proofs.text_laws.one_run_at_most.Goals as goal

pub returns : goal.returns
returns c text input n layout other verdict another run also =
    let p = run.program in
    let q = also.program in
    let same : p.tree ≡ q.tree = one_tree_at_most text p.tree q.tree run.is_program.is_text also.is_program.is_text in (
      run.declared ∙ run.is_program.resolved.layout ∙ ap (λ (t : ProgramTree). shared_entries t.declarations) same
          ∙ sym also.is_program.resolved.layout ∙ sym also.declared,
      tree_has_one_outcome p q run.is_program.resolved also.is_program.resolved same input n verdict another run.outcome also.outcome,
    )
