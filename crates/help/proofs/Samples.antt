-- The token that is asked for speaks for all of its kind.
use Rattle.std.proofs.Common.{◌≡◌, ◌∙◌, ◌++◌, ◌∷◌, [], List, append_assoc, length, refl, subst, sym, ap}
use Rattle.std.specs.Prelude.{◌↔◌}
use Rattle.pram_tokens.specs.declared.token.Mark.TheVariants as mark
use Rattle.pram_tokens.specs.declared.token.Token.{Token}
use Rattle.pram_tokens.specs.declared.token.Token.TheVariants as token
use Rattle.pram_tokens.specs.declared.words.Fixed.TheVariants as fixed
use Rattle.pram_tokens.specs.Tokens.{AreReal, IsReal}
use Rattle.pram_tokens.proofs.Real.{append_real}
use Rattle.pram_trees.specs.Faults.{IsSyntaxFault}
use Rattle.pram_trees.specs.Machine.{Accepted, start, verdict}
use Rattle.pram_trees.specs.Program.{Begins, IsProgram, limit}
use Rattle.pram_parser.proofs.Programs.{accepted, syntax_fault}
use Rattle.help.specs.declared.choice.Choice.TheVariants as choice
use Rattle.help.specs.Choices.{CouldStand, SamplesSpeak}
use Rattle.help.specs.Kinds.{sample, start as beginning}
use Rattle.help.proofs.Alike.{Alike, alike_verdict, names, numbers, one, one_too_many, openings}
use Rattle.help.proofs.Beginnings.{begins_front, real_sample}

real_change : (front more : List Token) (t u : Token) → IsReal u → AreReal (front ++ t ∷ more) → AreReal (front ++ u ∷ more)
real_change [] more t u real h = (real, h.1)
real_change (s ∷ front) more t u real h = (h.0, real_change front more t u real h.1)

-- lists that end in one token are one up to it
same_front : (a b : List Token) (x y : Token) → a ++ x ∷ [] ≡ b ++ y ∷ [] → a ≡ b
same_front [] [] x y is = refl
same_front [] (c ∷ []) x y is = absurd (cc is)
same_front [] (c ∷ (d ∷ b)) x y is = absurd (cc is)
same_front (c ∷ []) [] x y is = absurd (cc is)
same_front (c ∷ (d ∷ a)) [] x y is = absurd (cc is)
same_front (c ∷ a) (d ∷ b) x y is =
    let head : c ≡ d = cc in
    let rest : a ++ x ∷ [] ≡ b ++ y ∷ [] = cc in
    ap (λ e. e ∷ a) head ∙ ap (λ l. d ∷ l) (same_front a b x y rest)

-- what the machine accepts is the beginning of a program
begins_accepted : (ts : List Token) → AreReal ts → verdict ts (start limit limit) ≡ Accepted → Begins limit limit ts
begins_accepted ts real h = by f.back f.whole f.is_left
  where
    rule : Token
    rule = token.Mark mark.Rule

    f : IsSyntaxFault (ts ++ rule ∷ []) 1
    f = syntax_fault (ts ++ rule ∷ []) 1 (append_real ts (rule ∷ []) real (tt, tt)) (one_too_many ts (start limit limit) h)

    by : (back : List Token) → ts ++ rule ∷ [] ≡ f.front ++ back → length back ≡ 1 → Begins limit limit ts
    by [] whole left = absurd (cc left)
    by (x ∷ []) whole left = subst (Begins limit limit) (sym (same_front ts f.front rule x whole)) f.begins
    by (x ∷ (y ∷ back)) whole left = absurd (cc left)

alike_stands : (front : List Token) (t u : Token) → Alike t u → IsReal u → CouldStand front t → CouldStand front u
alike_stands front t u a real begun =
    let more = begun.0 in
    let p : IsProgram limit limit (front ++ t ∷ more) = subst (IsProgram limit limit) (append_assoc front (t ∷ []) more) begun.1 in
    let t_real : AreReal (front ++ t ∷ more) = subst AreReal (sym p.2) p.1.are_real in
    let ran = sym (alike_verdict front more t u (start limit limit) a) ∙ accepted limit limit (front ++ t ∷ more) p in
    let whole = begins_accepted (front ++ u ∷ more) (real_change front more t u real t_real) ran in
    begins_front (front ++ u ∷ []) more (subst (Begins limit limit) (sym (append_assoc front (u ∷ []) more)) whole)

both_ways : (front : List Token) (t u : Token) → Alike t u → Alike u t → IsReal t → IsReal u → CouldStand front t ↔ CouldStand front u
both_ways front t u there back t_real u_real = (alike_stands front t u there u_real, alike_stands front u t back t_real)

pub samples_speak : SamplesSpeak
samples_speak front choice.Name (token.Name x) real is =
    both_ways front _ _ (names x _ is) (names _ x (sym is)) real (real_sample choice.Name)
samples_speak front choice.Rule (token.Name x) real is =
    both_ways front _ _ (names x _ is) (names _ x (sym is)) real (real_sample choice.Rule)
samples_speak front choice.Number (token.Number n) real is =
    both_ways front _ _ (numbers n _) (numbers _ n) real (real_sample choice.Number)
samples_speak front (choice.Fixed (fixed.Opening o)) t real (place, is) =
    subst (λ u. CouldStand front u ↔ CouldStand front (sample (choice.Fixed (fixed.Opening o)))) (sym is)
    (both_ways front _ _ (openings o place beginning) (openings o beginning place) tt tt)
samples_speak front (choice.Fixed (fixed.Binary o)) t real (place, is) =
    subst (λ u. CouldStand front u ↔ CouldStand front (token.Binary o)) (sym is)
    (both_ways front _ _ (one (token.Binary o)) (one (token.Binary o)) tt tt)
samples_speak front (choice.Fixed fixed.Not) t real (place, is) =
    subst (λ u. CouldStand front u ↔ CouldStand front token.Not) (sym is) (both_ways front _ _ (one token.Not) (one token.Not) tt tt)
samples_speak front (choice.Fixed (fixed.Mark m)) t real (place, is) =
    subst (λ u. CouldStand front u ↔ CouldStand front (token.Mark m)) (sym is)
    (both_ways front _ _ (one (token.Mark m)) (one (token.Mark m)) tt tt)
samples_speak front choice.Name (token.Number n) real never = absurd never
samples_speak front choice.Name (token.Binary o) real never = absurd never
samples_speak front choice.Name token.Not real never = absurd never
samples_speak front choice.Name (token.Opening o at) real never = absurd never
samples_speak front choice.Name (token.Mark m) real never = absurd never
samples_speak front choice.Rule (token.Number n) real never = absurd never
samples_speak front choice.Rule (token.Binary o) real never = absurd never
samples_speak front choice.Rule token.Not real never = absurd never
samples_speak front choice.Rule (token.Opening o at) real never = absurd never
samples_speak front choice.Rule (token.Mark m) real never = absurd never
samples_speak front choice.Number (token.Name x) real never = absurd never
samples_speak front choice.Number (token.Binary o) real never = absurd never
samples_speak front choice.Number token.Not real never = absurd never
samples_speak front choice.Number (token.Opening o at) real never = absurd never
samples_speak front choice.Number (token.Mark m) real never = absurd never
