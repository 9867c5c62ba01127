-- What the parser's answers say of the beginnings of programs.
use Rattle.std.proofs.Common.{◌≡◌, ◌∙◌, ◌++◌, ◌∷◌, [], Bool, true, false, List, ℕ, append_assoc, arith, length, nat_eq, refl, rules, subst}
use Rattle.std.proofs.Common.{sym}
use Rattle.std.proofs.lemmas.Bool.{eqb-false, eqb-true}
use Rattle.std.proofs.lemmas.List.{append-nil}
use Rattle.pram_tokens.specs.declared.token.Token.{Token}
use Rattle.pram_tokens.specs.declared.words.Fixed.TheVariants as fixed
use Rattle.pram_tokens.specs.Tokens.{AreReal, IsReal}
use Rattle.pram_tokens.proofs.Real.{append_real}
use Rattle.pram_trees.specs.Faults.{Ends, IsDepthFault, IsSyntaxFault}
use Rattle.pram_trees.specs.Program.{Begins, IsProgram, IsTree, ProgramTree, limit, program_tokens}
use Rattle.help.specs.Choices.{CouldStand, Decides, OnlyRules}
use Rattle.help.specs.Kinds.{sample}
use Rattle.help.specs.declared.choice.Choice.{Choice}
use Rattle.help.specs.declared.choice.Choice.TheVariants as choice

-- a program begins with itself
pub begins_whole : (ts : List Token) (tree : ProgramTree) → IsTree limit limit tree → ts ≡ program_tokens tree → Begins limit limit ts
begins_whole ts tree stands found = ([], (tree, stands, append-nil ts ∙ found))

-- what begins with some tokens begins with the first of them
pub begins_front : (a b : List Token) → Begins limit limit (a ++ b) → Begins limit limit a
begins_front a b begun = (b ++ begun.0, subst (IsProgram limit limit) (append_assoc a b begun.0) begun.1)

-- where the tokens run out, all of them begin a program
pub begins_until : (ts : List Token) (n : ℕ) → IsSyntaxFault ts n → n ≡ 0 → Begins limit limit ts
begins_until ts n f none = by f.back f.whole f.is_left
  where
    by : (back : List Token) → ts ≡ f.front ++ back → length back ≡ n → Begins limit limit ts
    by [] whole left = subst (Begins limit limit) (sym (whole ∙ append-nil f.front)) f.begins
    by (t ∷ back) whole left = absurd (omega (arith, left, none))

-- and where they don't, none begins with all of them
pub never_begins : (ts : List Token) (n : ℕ) → IsSyntaxFault ts n → (n ≡ 0 → ⊥) → Begins limit limit ts → ⊥
never_begins ts n f some begun = by f.back f.whole f.is_left f.ends
  where
    by : (back : List Token) → ts ≡ f.front ++ back → length back ≡ n → Ends f.front back → ⊥
    by [] whole left ends = absurd (some (sym left))
    by (t ∷ back) whole left ends =
        ends limit limit (begins_front (f.front ++ t ∷ []) back
        (subst (Begins limit limit) (whole ∙ sym (append_assoc f.front (t ∷ []) back)) begun))

-- nor where a level too many is opened
pub never_within : (ts : List Token) (n : ℕ) → IsDepthFault ts n → Begins limit limit ts → ⊥
never_within ts n f begun =
    f.within (begins_front (f.front ++ f.opener ∷ []) f.back
    (subst (Begins limit limit) (f.whole ∙ sym (append_assoc f.front (f.opener ∷ []) f.back)) begun))

-- a syntax fault stands behind the tokens, or within them
pub decides_by_place : (ts : List Token) (n : ℕ) → IsSyntaxFault ts n → Decides (nat_eq n 0) (Begins limit limit ts)
decides_by_place ts n f = by (nat_eq n 0) refl
  where
    by : (b : Bool) → nat_eq n 0 ≡ b → Decides b (Begins limit limit ts)
    by true is = begins_until ts n f (eqb-true n 0 is)
    by false is = never_begins ts n f (eqb-false n 0 is)

-- where no other name could stand
pub only_rules : (front : List Token) (b : Bool) → (CouldStand front (sample choice.Name) → ⊥) →
    Decides b (CouldStand front (sample choice.Rule)) → Decides b (OnlyRules front)
only_rules front true no_name could = (could, no_name)
only_rules front false no_name never = λ both. never both.0

-- the token of each kind is one that a text can have
pub real_sample : (k : Choice) → IsReal (sample k)
real_sample choice.Name = record { letter = refl; words = refl; no_keyword = refl }
real_sample choice.Rule = record { letter = refl; words = refl; no_keyword = refl }
real_sample choice.Number = record { no_sign = search rules; bounded = search rules }
real_sample (choice.Fixed (fixed.Binary o)) = tt
real_sample (choice.Fixed fixed.Not) = tt
real_sample (choice.Fixed (fixed.Opening o)) = tt
real_sample (choice.Fixed (fixed.Mark m)) = tt

pub real_with : (front ts : List Token) (k : Choice) (t : Token) → AreReal front → t ≡ sample k → ts ≡ front ++ t ∷ [] → AreReal ts
real_with front ts k t real is whole =
    subst AreReal (sym whole) (append_real front (t ∷ []) real (subst IsReal (sym is) (real_sample k), tt))
