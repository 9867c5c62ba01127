use Rattle.std.proofs.Common.{List, [], ◌∙◌, length, Err, sym, ap, subst}
use Rattle.std.proofs.lemmas.Result.{err_from_is_err_and}
use Rattle.std.specs.Borrow.{Bor}
use Rattle.pram_parser.specs.declared.parser.Parts.{Parts}
use Rattle.pram_tokens.specs.declared.token.Token.{Token}
use Rattle.pram_trees.specs.Faults.{Answers, IsRefusedRightly}
use Rattle.pram_trees.specs.Program.{ProgramTree}
use Rattle.pram_parser.proofs.Programs.{rightly, leftover, none_refused, no_syntax_fault, only, syntax_fault}
use Rattle.pram_parser.proofs.parser.parse_tokens.Goals as goal

abbrev rest_of : Parts × Bor (List Token) → List Token
rest_of f = f.1.now

pub returns-in_err-parts-clause-only : goal.returns-in_err-parts-clause-only
returns-in_err-parts-clause-only c = λ other h is.
    let p = err_from_is_err_and c.from_residual.result c.from_residual.ensures.1 in
    subst (Answers other) (sym (p.1 ∙ ap Err p.2)) (none_refused rest_of c.args.tokens.now _ c.in_err-parts.ensures.follows other h is)

pub returns-in_err-parts-clause-refused : goal.returns-in_err-parts-clause-refused
returns-in_err-parts-clause-refused c =
    let p = err_from_is_err_and c.from_residual.result c.from_residual.ensures.1 in
    subst (IsRefusedRightly c.args.tokens.now) (sym (p.1 ∙ ap Err p.2))
    (rightly ProgramTree rest_of c.args.tokens.now _ c.requires.real c.in_err-parts.ensures.follows)

pub returns-then-not-is_empty-clause-only : goal.returns-then-not-is_empty-clause-only
returns-then-not-is_empty-clause-only c = λ other h is.
    no_syntax_fault c.args.tokens.now _ other h is
    (c.in_ok-parts.ensures.follows [] ∙ leftover c.in_ok-parts.rest.now (sym c.is_empty.ensures ∙ c.if-not-is_empty.true))

pub returns-then-not-is_empty-clause-refused : goal.returns-then-not-is_empty-clause-refused
returns-then-not-is_empty-clause-refused c =
    syntax_fault c.args.tokens.now (length c.in_ok-parts.rest.now) c.requires.real
    (c.in_ok-parts.ensures.follows [] ∙ leftover c.in_ok-parts.rest.now (sym c.is_empty.ensures ∙ c.if-not-is_empty.true))

pub returns-clause-only : goal.returns-clause-only
returns-clause-only c = λ other h is.
    let parts = c.in_ok-parts.parts in
    let tree : ProgramTree = record {
      rule = parts.header.rule;
      rule_location = parts.header.rule_location;
      procs = parts.header.procs;
      declarations = parts.declarations;
      body = parts.body;
    } in
    c.new.ensures.value
    ∙ only c.args.tokens.now c.in_ok-parts.rest.now tree other (sym c.is_empty.ensures
    ∙ c.if-not-is_empty.false) c.in_ok-parts.ensures.within c.in_ok-parts.ensures.found h is
