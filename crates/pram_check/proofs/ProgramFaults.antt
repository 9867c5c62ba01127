-- What is wrong with a program, and what is told of it.
use Rattle.std.proofs.Common.{◌≡◌, ℕ, ◌+◌, ◌<◌, ◌≤◌, Bool, true, false, nat_lt, List, [], ◌∷◌, ◌++◌, length, Some, None, MatchOption, subst}
use Rattle.std.proofs.Common.{ap, ◌∙◌, refl, arith, append_assoc}
use Rattle.std.specs.Prelude.{if◌then◌else◌}
use Rattle.std.specs.List.Sorted.{IsStrictlyIncreasing}
use mathlib.Core.Logic.{◌⊎◌, inl}
use Rattle.std.proofs.lemmas.List.Elements.{All-cons}
use Rattle.pram_tokens.specs.declared.token.Mark.TheVariants as mark
use Rattle.pram_tokens.specs.declared.token.Numeral.{Numeral}
use Rattle.pram_tokens.specs.declared.token.Token.TheVariants as token
use Rattle.pram_trees.specs.declared.tree.Declaration.{Declaration}
use Rattle.pram_trees.specs.declared.tree.Declaration.TheVariants as declare
use Rattle.pram_trees.specs.declared.tree.Stmt.{Stmt}
use Rattle.pram_trees.specs.Blocks.{block_tokens}
use Rattle.pram_model.specs.Layout.{size}
use Rattle.pram_trees.specs.Program.{ProgramTree, program_tokens, declarations_tokens, rule_token}
use Rattle.pram_names.specs.declared.fault.Breach.{Breach}
use Rattle.pram_names.specs.declared.fault.Cause.TheVariants.{Limit}
use Rattle.pram_names.specs.declared.fault.Limit.TheVariants as limit
use Rattle.pram_names.specs.declared.fault.Spot.TheVariants.{TextEnd}
use Rattle.pram_names.specs.declared.scope.Meaning.TheVariants.{Uniform, Cell, Array}
use Rattle.pram_names.specs.Scope.{Scope}
use Rattle.pram_names.specs.Breaches.{at, first, breaches, procs_cause, block_breaches, body_context, outside_of, declaration_breaches}
use Rattle.pram_names.specs.Breaches.{token_breaches, most_tokens}
use Rattle.pram_check.specs.Faults.{IsAccepted, all_at, procs_causes, block_faults, declaration_faults, faults}
use Rattle.pram_check.specs.Faults.{offset_in, offsets_in, IsBefore}
use Rattle.pram_check.specs.Faults.{IsLeast}
use Rattle.pram_trees.specs.Text.{IsTextOf}
use Rattle.pram_tokens.proofs.Offsets.{in_order}
use Rattle.pram_check.proofs.Sublists.{Between, between, increasing}
use Rattle.pram_tokens.specs.InOrder.{places, StandInOrder}
use Rattle.pram_check.proofs.Least.{Told, ToldIn, Leads, AreNoneAlike, told_at, told_nothing, told_append}
use Rattle.pram_check.proofs.Least.{none_at, none_append, join, front}
use Rattle.pram_check.proofs.Least.{behind, nothing}
use Rattle.pram_check.proofs.Lowest.{shared_lowest, new_lowest, where_it_holds}
use Rattle.pram_check.proofs.StatementFaults.{named, told_statement}

module _ (end : ℕ) where
  declarations_in : (s : Scope) (e u c : ℕ) (ds : List Declaration) → ToldIn end (declaration_breaches s e u c ds)
      (declaration_faults s e u c ds) (declarations_tokens ds)
  declarations_in s e u c [] = nothing end []
  declarations_in s e u c (declare.Cell x ∷ ds) =
      behind end (token.Mark mark.Shared ∷ [])
      (join end (named end x _ _ (shared_lowest s c x.text None))
      (behind end (token.Mark mark.Semicolon ∷ []) (declarations_in (s ++ (x.text, Cell e) ∷ []) (e + 1) u (c + 1) ds)))
  declarations_in s e u c (declare.Array x low high ∷ ds) =
      behind end (token.Mark mark.Shared ∷ [])
      (join end (named end x _ _ (shared_lowest s c x.text (Some (low.value, high.value))))
      (behind end (token.Mark mark.OpenBracket ∷ token.Number low ∷ token.Mark mark.Range ∷ token.Number high ∷ token.Mark mark.CloseBracket
      ∷ token.Mark mark.Semicolon ∷ [])
      (declarations_in (s ++ (x.text, Array e) ∷ []) (e + 1) u (c + size (Some (low.value, high.value))) ds)))
  declarations_in s e u c (declare.Uniform x ∷ ds) =
      behind end (token.Mark mark.Var ∷ [])
      (join end (named end x _ _ (new_lowest s x.text))
      (behind end (token.Mark mark.Semicolon ∷ []) (declarations_in (s ++ (x.text, Uniform u) ∷ []) e (u + 1) c ds)))

  block_in : (scope : Scope) (body : List Stmt) → ToldIn end (block_breaches body (outside_of scope []))
      (block_faults body (outside_of scope [])) (block_tokens body)
  block_in scope [] = nothing end []
  block_in scope (x ∷ body) = join end (told_statement end x false scope []) (block_in scope body)

  number_in : (n : Numeral) → ToldIn end (at n.location (procs_cause n.value)) (all_at n.location (procs_causes n.value))
      (token.Number n ∷ [])
  number_in n = record {
    told = λ lo hi h. told_at end n.location _ _ lo hi (where_it_holds _ (Limit limit.Procs)) h.0 h.1;
    none = none_at n.location _ _ (where_it_holds _ (Limit limit.Procs));
  }

  -- all but the number of tokens
  abbrev front_breaches : ProgramTree → List Breach
  front_breaches t = at t.procs.location (procs_cause t.procs.value)
      ++ (declaration_breaches [] 0 0 0 t.declarations ++ block_breaches t.body (body_context t.declarations))

  abbrev front_faults : ProgramTree → List Breach
  front_faults t = all_at t.procs.location (procs_causes t.procs.value)
      ++ (declaration_faults [] 0 0 0 t.declarations ++ block_faults t.body (body_context t.declarations))

  program_in : (t : ProgramTree) → ToldIn end (front_breaches t) (front_faults t) (program_tokens t)
  program_in t =
      behind end (token.Mark mark.Rule ∷ rule_token t.rule t.rule_location ∷ token.Mark mark.Semicolon ∷ token.Mark mark.Procs ∷ [])
      (join end (number_in t.procs)
      (behind end (token.Mark mark.Semicolon ∷ [])
      (join end (declarations_in [] 0 0 0 t.declarations)
      (behind end (token.Mark mark.Begin ∷ []) (front end (token.Mark mark.End ∷ []) (block_in _ t.body))))))

  abbrev last : Breach
  last = record { spot = TextEnd; cause = Limit limit.Tokens }

  -- the end of the text
  end_in : (count : ℕ) → Told end end (end + 1) (token_breaches count) (token_breaches count)
  end_in count = by (nat_lt most_tokens count)
    where
      by : (b : Bool) → Told end end (end + 1) (if b then last ∷ [] else []) (if b then last ∷ [] else [])
      by true = record {
        ascends = (omega arith, omega arith);
        within = All-cons (λ f. (end ≤ offset_in end f.spot) × (offset_in end f.spot < end + 1)) last [] (omega arith, omega arith)
            (λ k d below. absurd (omega (arith, below)));
        leads = record {
          one = (0, omega arith, refl);
          least = All-cons (λ f. (f ≡ last) ⊎ IsBefore end last f) last [] (inl refl) (λ k d below. absurd (omega (arith, below)));
        };
      }
      by false = told_nothing end end (end + 1) (omega arith)

  four : (a b c d : List Breach) → (a ++ (b ++ c)) ++ d ≡ a ++ (b ++ (c ++ d))
  four a b c d = append_assoc a (b ++ c) d ∙ ap (λ l. a ++ l) (append_assoc b c d)

  none_program : (t : ProgramTree) → AreNoneAlike (breaches t) (faults t)
  none_program t =
      let count = length (program_tokens t) in
      let procs = at t.procs.location (procs_cause t.procs.value) in
      let all_procs = all_at t.procs.location (procs_causes t.procs.value) in
      subst (λ bs. AreNoneAlike bs (faults t))
      (four procs (declaration_breaches [] 0 0 0 t.declarations) (block_breaches t.body (body_context t.declarations))
      (token_breaches count))
      (subst (AreNoneAlike (front_breaches t ++ token_breaches count))
      (four all_procs (declaration_faults [] 0 0 0 t.declarations) (block_faults t.body (body_context t.declarations))
      (token_breaches count))
      (none_append (program_in t).none (λ h. h, λ h. h)))

  told_program : (t : ProgramTree) → Between 0 (places (program_tokens t)) end → Told end 0 (end + 1) (breaches t) (faults t)
  told_program t h =
      let count = length (program_tokens t) in
      let procs = at t.procs.location (procs_cause t.procs.value) in
      let all_procs = all_at t.procs.location (procs_causes t.procs.value) in
      subst (λ bs. Told end 0 (end + 1) bs (faults t))
      (four procs (declaration_breaches [] 0 0 0 t.declarations) (block_breaches t.body (body_context t.declarations))
      (token_breaches count))
      (subst (Told end 0 (end + 1) (front_breaches t ++ token_breaches count))
      (four all_procs (declaration_faults [] 0 0 0 t.declarations) (block_faults t.body (body_context t.declarations))
      (token_breaches count))
      (told_append end 0 end (end + 1) (front_breaches t) (token_breaches count) (front_faults t) (token_breaches count)
      ((program_in t).told 0 end h) (end_in count)))

-- nothing is told of a tree exactly where nothing is wrong with it
pub nothing_told : (tree : ProgramTree) → AreNoneAlike (breaches tree) (faults tree)
nothing_told tree = none_program 0 tree

pub accepted : (tree : ProgramTree) → breaches tree ≡ [] → IsAccepted tree
accepted tree h = (nothing_told tree).0 h

module _ (text : List ℕ) (tree : ProgramTree) (is : IsTextOf text tree) where
  abbrev end : ℕ
  end = length text

  told : Told end 0 (end + 1) (breaches tree) (faults tree)
  told =
      let order : StandInOrder end (program_tokens tree) = in_order text (program_tokens tree) is.offsets is.tokens in
      told_program end tree (between end (places (program_tokens tree)) order.ascend order.inside)

  pub breaches_ascend : IsStrictlyIncreasing (offsets_in end (breaches tree))
  breaches_ascend = increasing 0 (end + 1) (offsets_in end (breaches tree)) told.ascends

  pub first_is_least : MatchOption (first (breaches tree)) (faults tree ≡ []) (IsLeast end (faults tree))
  first_is_least = by (breaches tree) (faults tree) told.leads
    where
      by : (bs fs : List Breach) → Leads end bs fs → MatchOption (first bs) (fs ≡ []) (IsLeast end fs)
      by [] fs h = h
      by (b ∷ bs) fs h = h
