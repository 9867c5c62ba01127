-- The machine reads each header and each list of declarations to its end, and no list of tokens stands for two of them.
use Rattle.std.proofs.Common.{◌≡◌, ℕ, List, [], ◌∷◌, ◌++◌, refl, sym, ap, ◌∙◌, if◌then◌else◌}
use Rattle.pram_model.specs.declared.rule.Rule.{Rule}
use Rattle.pram_model.specs.declared.rule.Rule.TheVariants as rule
use Rattle.pram_tokens.specs.declared.token.Location.{Location}
use Rattle.pram_tokens.specs.declared.token.Mark.TheVariants as mark
use Rattle.pram_tokens.specs.declared.token.Token.{Token}
use Rattle.pram_tokens.specs.declared.token.Token.TheVariants as token
use Rattle.pram_trees.specs.declared.tree.Declaration.{Declaration}
use Rattle.pram_trees.specs.declared.tree.Declaration.TheVariants as declaration
use Rattle.pram_model.specs.Names.{same_text}
use Rattle.pram_model.specs.Rules.{rule_word}
use Rattle.pram_trees.specs.Program.{rule_token, declarations_tokens}
use Rattle.pram_trees.specs.Machine.{verdict}
use Rattle.pram_trees.specs.Symbols.{Stack, WantRule, Declarations}

pub read_rule : (r : Rule) (at : Location) (ts : List Token) (k : Stack) → verdict (rule_token r at ∷ ts) (WantRule ∷ k) ≡ verdict ts k
read_rule rule.Erew at ts k = refl
read_rule r at ts k = refl

pub read_declarations : (xs : List Declaration) (ts : List Token) (k : Stack) →
    verdict (declarations_tokens xs ++ (token.Mark mark.Begin ∷ ts)) (Declarations ∷ k) ≡ verdict (token.Mark mark.Begin ∷ ts) k
read_declarations [] ts k = refl
read_declarations (declaration.Cell x ∷ rest) ts k = read_declarations rest ts k
read_declarations (declaration.Array x low high ∷ rest) ts k = read_declarations rest ts k
read_declarations (declaration.Uniform x ∷ rest) ts k = read_declarations rest ts k

-- the rule that has this word

abbrev word_rule : List ℕ → Rule
word_rule w =
    if same_text (rule_word rule.Erew) w then rule.Erew else (if same_text (rule_word rule.Crew) w then rule.Crew
    else (if same_text (rule_word rule.Common) w then rule.Common else (if same_text (rule_word rule.Priority) w then rule.Priority else
    rule.Sum)))

word_rule_is : (r : Rule) → word_rule (rule_word r) ≡ r
word_rule_is rule.Erew = refl
word_rule_is r = refl

pub same_rule : (r q : Rule) → rule_word r ≡ rule_word q → r ≡ q
same_rule r q h = sym (word_rule_is r) ∙ ap word_rule h ∙ word_rule_is q

pub same_declarations : (xs ys : List Declaration) (ts us : List Token) →
    declarations_tokens xs ++ (token.Mark mark.Begin ∷ ts) ≡ declarations_tokens ys ++ (token.Mark mark.Begin ∷ us) → (xs ≡ ys) × (ts ≡ us)
same_declarations [] [] ts us h = (refl, cc)
same_declarations [] (declaration.Cell y ∷ ys) ts us h = absurd cc
same_declarations [] (declaration.Array y low high ∷ ys) ts us h = absurd cc
same_declarations [] (declaration.Uniform y ∷ ys) ts us h = absurd cc
same_declarations (declaration.Cell x ∷ xs) [] ts us h = absurd cc
same_declarations (declaration.Array x low high ∷ xs) [] ts us h = absurd cc
same_declarations (declaration.Uniform x ∷ xs) [] ts us h = absurd cc
same_declarations (declaration.Cell x ∷ xs) (declaration.Cell y ∷ ys) ts us h =
    let name_is : x ≡ y = cc in
    let more = same_declarations xs ys ts us cc in
    (ap (λ z. declaration.Cell z ∷ xs) name_is ∙ ap (λ l. declaration.Cell y ∷ l) more.0, more.1)
same_declarations (declaration.Cell x ∷ xs) (declaration.Array y low high ∷ ys) ts us h = absurd cc
same_declarations (declaration.Cell x ∷ xs) (declaration.Uniform y ∷ ys) ts us h = absurd cc
same_declarations (declaration.Array x low high ∷ xs) (declaration.Cell y ∷ ys) ts us h = absurd cc
same_declarations (declaration.Array x low high ∷ xs) (declaration.Array y from upto ∷ ys) ts us h =
    let name_is : x ≡ y = cc in
    let low_is : low ≡ from = cc in
    let high_is : high ≡ upto = cc in
    let more = same_declarations xs ys ts us cc in (
      ap (λ z. declaration.Array z low high ∷ xs) name_is ∙ ap (λ z. declaration.Array y z high ∷ xs) low_is
          ∙ ap (λ z. declaration.Array y from z ∷ xs) high_is
          ∙ ap (λ l. declaration.Array y from upto ∷ l) more.0,
      more.1,
    )
same_declarations (declaration.Array x low high ∷ xs) (declaration.Uniform y ∷ ys) ts us h = absurd cc
same_declarations (declaration.Uniform x ∷ xs) (declaration.Cell y ∷ ys) ts us h = absurd cc
same_declarations (declaration.Uniform x ∷ xs) (declaration.Array y low high ∷ ys) ts us h = absurd cc
same_declarations (declaration.Uniform x ∷ xs) (declaration.Uniform y ∷ ys) ts us h =
    let name_is : x ≡ y = cc in
    let more = same_declarations xs ys ts us cc in
    (ap (λ z. declaration.Uniform z ∷ xs) name_is ∙ ap (λ l. declaration.Uniform y ∷ l) more.0, more.1)
