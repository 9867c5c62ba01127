use Rattle.std.proofs.Common.{refl, subst, sym}
use Rattle.std.specs.Prelude.{IfOk}
use Rattle.scopes.specs.Scopes.{inputs_of}
use Rattle.command_requests.specs.declared.input_words.InputWords.{InputWords}
use Rattle.diagnoses.proofs.Remarked.{if_ok}
use Rattle.command_pairs.specs.Pairs.{IsFoundOn}
use Rattle.command_pairs.proofs.trying.compare_on.Goals as goal

pub returns-in-Scope-clause-found : goal.returns-in-Scope-clause-found
returns-in-Scope-clause-found g c =
    subst
    (λ (w : InputWords). IfOk c.on_scope.result (IsFoundOn (g.S.Sources.holds c.args.sources.now) c.args.precondition.now c.args.first.now
    c.args.second.now c.args.beside.now c.args.compared.now w c.args.words.now.bound))
    (sym c.in-Scope.is)
    (if_ok c.on_scope.result _ _ (λ r found. (inputs_of c.in-Scope.few.scope, refl, found)) c.on_scope.ensures.found)
