-- How the parser of declarations puts together what it found.
use Rattle.std.proofs.Common.{◌≡◌, ◌<◌, true, false, List, [], ◌∷◌, ◌++◌, length, refl, sym, ap, ◌∙◌, arith, append_assoc}
use Rattle.pram_tokens.specs.declared.token.Mark.TheVariants as mark
use Rattle.pram_tokens.specs.declared.token.Token.{Token}
use Rattle.pram_tokens.specs.declared.token.Token.TheVariants as token
use Rattle.pram_trees.specs.declared.tree.Declaration.{Declaration}
use Rattle.pram_trees.specs.declared.tree.Declaration.TheVariants as declaration
use Rattle.pram_trees.specs.Program.{declaration_tokens, declarations_tokens}
use Rattle.pram_trees.specs.Machine.{verdict, declaration_verdict, begins_declaration}
use Rattle.pram_trees.specs.Symbols.{Stack, Want, WantName, Declarations, AfterShared, begins_with, bounds}

declarations_tokens-push : (xs : List Declaration) (y : Declaration) (ts : List Token) →
    declarations_tokens (xs ++ y ∷ []) ++ ts ≡ declarations_tokens xs ++ (declaration_tokens y ++ ts)
declarations_tokens-push [] y ts = append_assoc (declaration_tokens y) [] ts
declarations_tokens-push (x ∷ rest) y ts =
    append_assoc (declaration_tokens x) (declarations_tokens (rest ++ y ∷ [])) ts
    ∙ ap (λ l. declaration_tokens x ++ l) (declarations_tokens-push rest y ts)
    ∙ sym (append_assoc (declaration_tokens x) (declarations_tokens rest) (declaration_tokens y ++ ts))

pub declared_more : (xs : List Declaration) (y : Declaration) (ts mid after : List Token) → ts ≡ declarations_tokens xs ++ mid →
    mid ≡ declaration_tokens y ++ after →
    ts ≡ declarations_tokens (xs ++ y ∷ []) ++ after
declared_more xs y ts mid after whole h = whole ∙ ap (λ l. declarations_tokens xs ++ l) h ∙ sym (declarations_tokens-push xs y after)

pub declaration_first : (ts : List Token) → begins_declaration ts ≡ true → (k : Stack) →
    verdict ts (Declarations ∷ k) ≡ declaration_verdict ts (Declarations ∷ k)
declaration_first [] h k = cc
declaration_first (token.Mark mark.Shared ∷ ts) h k = refl
declaration_first (token.Mark mark.Var ∷ ts) h k = refl
declaration_first (t ∷ ts) h k = cc

pub no_declaration : (ts : List Token) → begins_declaration ts ≡ false → (k : Stack) → verdict ts (Declarations ∷ k) ≡ verdict ts k
no_declaration [] h k = refl
no_declaration (token.Mark mark.Shared ∷ ts) h k = cc
no_declaration (token.Mark mark.Var ∷ ts) h k = cc
no_declaration (t ∷ ts) h k = refl

-- each declaration is at least one token long
pub declaration_shorter : (y : Declaration) (ts rest : List Token) → ts ≡ declaration_tokens y ++ rest → length rest < length ts
declaration_shorter (declaration.Cell x) ts rest is = omega (arith, ap length is)
declaration_shorter (declaration.Array x low high) ts rest is = omega (arith, ap length is)
declaration_shorter (declaration.Uniform x) ts rest is = omega (arith, ap length is)

pub no_semicolon : (ts : List Token) → begins_with mark.Semicolon ts ≡ false → (k : Stack) →
    verdict ts (AfterShared ∷ k) ≡ verdict ts (Want mark.OpenBracket ∷ bounds k)
no_semicolon [] h k = refl
no_semicolon (t ∷ ts) h k = rw h

pub no_shared : (ts : List Token) → begins_with mark.Shared ts ≡ false → (k : Stack) →
    declaration_verdict ts k ≡ verdict ts (Want mark.Var ∷ (WantName ∷ (Want mark.Semicolon ∷ k)))
no_shared [] h k = refl
no_shared (t ∷ ts) h k = rw h
