-- What is wrong with the names of an expression, and what is told of it.
use Rattle.std.proofs.Common.{ℕ, ◌+◌, List, [], ◌∷◌, ◌++◌, arith}
use Rattle.std.specs.Prelude.{if◌then◌else◌}
use Rattle.pram_tokens.specs.declared.token.Token.{Token}
use Rattle.pram_trees.specs.declared.tree.Expr.{Expr}
use Rattle.pram_trees.specs.Grammar.{tokens}
use Rattle.pram_names.specs.Scope.{Scope, meaning_of}
use Rattle.pram_names.specs.Breaches.{Use, uses, use_breaches, use_cause, ninth, or_else, is_read, at}
use Rattle.pram_check.specs.Faults.{use_faults, use_causes, all_at}
use Rattle.pram_check.proofs.Sublists.{Between, between_sub}
use Rattle.pram_tokens.specs.InOrder.{places}
use Rattle.pram_check.proofs.Places.{use_offsets, UsesIn, join_uses, behind_uses, expression_places}
use Rattle.pram_check.proofs.Least.{Told, ToldIn, AreNoneAlike, told_nothing, told_append, told_at, none_is_none, none_append, none_at}
use Rattle.pram_check.proofs.Lowest.{use_lowest}

module _ (end : ℕ) (scope : Scope) where
  told_uses : (n lo hi : ℕ) (us : List Use) → Between lo (use_offsets us) hi → Told end lo hi (use_breaches scope n us)
      (use_faults scope n us)
  told_uses n lo hi [] h = told_nothing end lo hi h
  told_uses n lo hi (u ∷ us) h =
      let m = meaning_of scope u.name.text in
      let l = u.name.location in
      let k = n + (if is_read m u.subscripted then 1 else 0) in
      told_append end lo (l.offset + 1) hi (at l (or_else (use_cause m u.subscripted) (ninth n (is_read m u.subscripted))))
      (use_breaches scope k us)
      (all_at l (use_causes m u.subscripted n)) (use_faults scope k us)
      (told_at end l _ (use_causes m u.subscripted n) lo (l.offset + 1) (use_lowest m u.subscripted n) h.0 (omega arith))
      (told_uses k (l.offset + 1) hi us h.1)

  none_uses : (n : ℕ) (us : List Use) → AreNoneAlike (use_breaches scope n us) (use_faults scope n us)
  none_uses n [] = none_is_none
  none_uses n (u ∷ us) =
      let m = meaning_of scope u.name.text in
      none_append (none_at u.name.location _ (use_causes m u.subscripted n) (use_lowest m u.subscripted n))
      (none_uses (n + (if is_read m u.subscripted then 1 else 0)) us)

  pub told_names : (n : ℕ) (us : List Use) (ts : List Token) → UsesIn us ts → ToldIn end (use_breaches scope n us)
      (use_faults scope n us) ts
  told_names n us ts a = record {
    told = λ lo hi h. told_uses n lo hi us (between_sub lo hi (use_offsets us) (places ts) a h);
    none = none_uses n us;
  }

  pub told_expression : (n : ℕ) (e : Expr) → ToldIn end (use_breaches scope n (uses e)) (use_faults scope n (uses e)) (tokens e)
  told_expression n e = told_names n (uses e) (tokens e) (expression_places e)

  -- two expressions of one statement, with that between them
  pub told_two : (e f : Expr) (between : List Token) →
      ToldIn end (use_breaches scope 0 (uses e ++ uses f)) (use_faults scope 0 (uses e ++ uses f)) (tokens e ++ (between ++ tokens f))
  told_two e f between =
      told_names 0 (uses e ++ uses f) (tokens e ++ (between ++ tokens f))
      (join_uses (uses e) (uses f) (tokens e) (between
      ++ tokens f) (expression_places e) (behind_uses (uses f) between (tokens f) (expression_places f)))
