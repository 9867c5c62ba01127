-- Two marks of one number are one, and a word that is one of the rules' is the word of a rule.
use Rattle.std.proofs.Common.{◌≡◌, ℕ, Bool, true, false, true≢false, List, [], ◌∷◌, refl, sym, ap, ◌∙◌, get_or, nat_eq, ◌&&◌, ◌||◌, ◌==◌}
use Rattle.std.proofs.lemmas.Bool.{eqb-true}
use Rattle.pram_model.specs.declared.rule.Rule.{Rule}
use Rattle.pram_model.specs.declared.rule.Rule.TheVariants as rule
use Rattle.pram_tokens.specs.declared.token.Mark.{Mark}
use Rattle.pram_tokens.specs.declared.token.Mark.TheVariants as mark
use Rattle.pram_tokens.specs.declared.token.Token.{Token}
use Rattle.pram_tokens.specs.declared.token.Token.TheVariants as token
use Rattle.pram_model.specs.Names.{same_text, is_one_of}
use Rattle.pram_model.specs.Rules.{rule_word, rule_words}
use Rattle.pram_trees.specs.Symbols.{code, is_mark}

abbrev marks : List Mark
marks =
    mark.OpenParen ∷ mark.CloseParen ∷ mark.OpenBracket ∷ mark.CloseBracket ∷ mark.Becomes ∷ mark.Semicolon ∷ mark.Range ∷ mark.Rule
    ∷ mark.Procs
    ∷ mark.Shared ∷ mark.Var ∷ mark.Begin ∷ mark.Do ∷ mark.End ∷ mark.Then ∷ mark.Else ∷ mark.To ∷ mark.Pardo ∷ mark.Local ∷ []

mark_of_code : (m : Mark) → get_or marks (code m) mark.Local ≡ m
mark_of_code mark.OpenParen = refl
mark_of_code m = refl

pub code_is : (m o : Mark) → nat_eq (code m) (code o) ≡ true → m ≡ o
code_is m o h = sym (mark_of_code m) ∙ ap (λ n. get_or marks n mark.Local) (eqb-true (code m) (code o) h) ∙ mark_of_code o

pub mark_is : (m : Mark) (t : Token) → is_mark m t ≡ true → t ≡ token.Mark m
mark_is m (token.Mark o) h = ap token.Mark (sym (code_is m o h))
mark_is m token.Not h = cc
mark_is m t h = cc

pub text_is : (a b : List ℕ) → same_text a b ≡ true → b ≡ a
text_is [] [] h = refl
text_is [] (y ∷ b) h = cc
text_is (x ∷ a) [] h = cc
text_is (x ∷ a) (y ∷ b) h = by (x == y) refl (text_is a b) h
  where
    by : (c : Bool) → (x == y) ≡ c → (same_text a b ≡ true → b ≡ a) → (c && same_text a b) ≡ true → y ∷ b ≡ x ∷ a
    by true same more h = ap (λ l. y ∷ l) (more h) ∙ ap (λ n. n ∷ a) (sym (eqb-true x y same))
    by false differs more h = cc

-- a word of the rules from the first on
pick : (r : Rule) (rest : List (List ℕ)) (text : List ℕ) → (is_one_of rest text ≡ true → (q : Rule) × (text ≡ rule_word q)) →
    is_one_of (rule_word r ∷ rest) text ≡ true → (q : Rule) × (text ≡ rule_word q)
pick r rest text otherwise h = by (same_text (rule_word r) text) refl h
  where
    by : (c : Bool) → same_text (rule_word r) text ≡ c → (c || is_one_of rest text) ≡ true → (q : Rule) × (text ≡ rule_word q)
    by true same h = (r, text_is (rule_word r) text same)
    by false differs h = otherwise h

pub rule_of_word : (text : List ℕ) → is_one_of rule_words text ≡ true → (q : Rule) × (text ≡ rule_word q)
rule_of_word text =
    pick rule.Erew (crew ∷ common ∷ priority ∷ plus ∷ []) text (pick rule.Crew (common ∷ priority ∷ plus ∷ []) text
    (pick rule.Common (priority ∷ plus
    ∷ []) text (pick rule.Priority (plus ∷ []) text (pick rule.Sum [] text (λ never. absurd (true≢false (sym never)))))))
  where
    crew : List ℕ
    crew = rule_word rule.Crew

    common : List ℕ
    common = rule_word rule.Common

    priority : List ℕ
    priority = rule_word rule.Priority

    plus : List ℕ
    plus = rule_word rule.Sum
