-- What a program comes to depends on its tree alone.
use Rattle.std.proofs.Common.{◌≡◌, ℕ, List, ℤ, pos, ap, sym, ◌∙◌, subst}
use Rattle.pram_trees.specs.Program.{ProgramTree}
use Rattle.pram_check.specs.Checked.{Checked, IsResolved}
use Rattle.pram_names.specs.Resolved.{SayStatements}
use Rattle.pram_names.specs.Scope.{globals, shared_entries, uniform_count}
use Rattle.pram_meaning.specs.Computed.{TreeHasOneOutcome, body_done, verdict_at}
use Rattle.pram_meaning.specs.Outcome.{opening}
use Rattle.pram_meaning.proofs.DenotedStatements.{same_block, statements_said}
use Rattle.pram_meaning.proofs.OneOutcome.{outcome_is_computed}

module _ (p q : Checked) (rp : IsResolved p) (rq : IsResolved q) (same : p.tree ≡ q.tree) where
  procs_same : p.procs ≡ q.procs
  procs_same = let e : pos p.procs ≡ pos q.procs = rp.procs ∙ ap (λ (t : ProgramTree). t.procs.value) same ∙ sym rq.procs in cc e

  -- the other body in the first program
  other : record p { body = q.body } ≡ q
  other = λ j. record {
    tree = same j;
    rule = (rp.rule ∙ ap (λ (t : ProgramTree). t.rule) same ∙ sym rq.rule) j;
    procs = procs_same j;
    layout = (rp.layout ∙ ap (λ (t : ProgramTree). shared_entries t.declarations) same ∙ sym rq.layout) j;
    uniforms = (rp.uniforms ∙ ap (λ (t : ProgramTree). uniform_count t.declarations) same ∙ sym rq.uniforms) j;
    body = q.body;
  }

  said : SayStatements (globals p.tree.declarations) p.tree.body q.body
  said = subst (λ (t : ProgramTree). SayStatements (globals t.declarations) t.body q.body) (sym same) rq.body

  same_done : (input : List ℤ) (n : ℕ) → body_done p input n ≡ body_done q input n
  same_done input n =
      let scope = globals p.tree.declarations in
      statements_said p n scope p.tree.body p.body rp.body (opening p input)
      ∙ sym (same_block p n q.body p.tree.body scope (opening p input))
      ∙ sym (statements_said (record p { body = q.body }) n scope p.tree.body q.body said (opening p input))
      ∙ ap (λ (r : Checked). body_done r input n) other

pub tree_has_one_outcome : TreeHasOneOutcome
tree_has_one_outcome p q rp rq same input n v w is also =
    (outcome_is_computed p input n v).0 is ∙ ap verdict_at (same_done p q rp rq same input n)
    ∙ sym ((outcome_is_computed q input n w).0 also)
