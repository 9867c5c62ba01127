-- How far the kinds are gone through.
use Rattle.std.proofs.Common.{◌≡◌, ◌<◌, ◌+◌, ◌++◌, ◌∷◌, [], Bool, true, false, List, ℕ, append_assoc, drop, get_or, length, subst, sym}
use Rattle.std.proofs.lemmas.List.{append-nil, drop_all, drop_more}
use Rattle.std.specs.Prelude.{◌≤◌}
use Rattle.pram_tokens.specs.declared.token.Token.{Token}
use Rattle.help.specs.declared.choice.Choice.{Choice}
use Rattle.help.specs.Choices.{Decides, IsTold, Told, left_out, over, told}

-- with what is told of the kinds from i on, those that were found are what is told of all
pub record Gathered (front : List Token) (all found : List Choice) (i : ℕ) : Type 0 where
  pub goes_on : (more : List Choice) → Told front (drop i all) more → Told front all (found ++ more)

pub gathered_none : (front : List Token) (all : List Choice) → Gathered front all [] 0
gathered_none front all = record { goes_on = λ more t. t }

pub gathered_told : (front : List Token) (all found : List Choice) (i : ℕ) (d : Choice) → i < length all → IsTold front (get_or all i d) →
    Gathered front all found i → Gathered front all (found ++ get_or all i d ∷ []) (i + 1)
gathered_told front all found i d below could g =
    let k = get_or all i d in
    record {
      goes_on = λ more t.
          subst (Told front all) (sym (append_assoc found (k ∷ []) more))
          (g.goes_on (k ∷ more) (subst (λ l. Told front l (k ∷ more)) (sym (drop_more all i d below))
          (told k (drop (i + 1) all) more could t)));
    }

pub gathered_left_out : (front : List Token) (all found : List Choice) (i : ℕ) (d : Choice) → i < length all →
    (IsTold front (get_or all i d) → ⊥) → Gathered front all found i → Gathered front all found (i + 1)
gathered_left_out front all found i d below never g = record {
  goes_on = λ more t.
      g.goes_on more (subst (λ l. Told front l more) (sym (drop_more all i d below)) (left_out (get_or all i d) (drop (i
      + 1) all) more never t));
}

-- what was decided
pub is_so : (b : Bool) (P : Type 0) → Decides b P → b ≡ true → P
is_so true P so is = so
is_so false P so is = absurd (cc is)

pub is_not_so : (b : Bool) (P : Type 0) → Decides b P → b ≡ false → P → ⊥
is_not_so true P so is = absurd (cc is)
is_not_so false P so is = so

pub gathered_all : (front : List Token) (all found : List Choice) (i : ℕ) → length all ≤ i → Gathered front all found i → Told
    front all found
gathered_all front all found i past g =
    subst (Told front all) (append-nil found) (g.goes_on [] (subst (λ l. Told front l []) (sym (drop_all i all past)) over))
