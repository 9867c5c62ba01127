-- Kinds that are written one behind the other.
use Rattle.std.proofs.Common.{◌≡◌, ◌∙◌, ◌<◌, ◌+◌, ◌++◌, List, ℕ, ap, arith, drop, get_or, length, length-drop}
use Rattle.std.proofs.lemmas.List.{drop_more}
use Rattle.text_out.specs.Out.{OutState, with_bytes}
use Rattle.text_out.proofs.Progress.{Progress, goes_on}
use Rattle.help.specs.declared.choice.Choice.{Choice}
use Rattle.help.specs.ChoiceTexts.{among, listed}

-- the kind at i, and those behind it
pub listed_at : (ks : List Choice) (i others : ℕ) (d : Choice) → i < length ks → others + (i + 1) ≡ length ks →
    listed (drop i ks) ≡ among (get_or ks i d) others ++ listed (drop (i + 1) ks)
listed_at ks i others d below counted =
    let left : length (drop (i + 1) ks) ≡ others = omega (arith, length-drop (i + 1) ks, counted) in
    ap listed (drop_more ks i d below) ∙ ap (λ n. among (get_or ks i d) n ++ listed (drop (i + 1) ks)) left

-- what is written of the kinds before i, and how many follow
pub record Listing (old new : OutState) (ks : List Choice) (i others : ℕ) : Type 0 where
  pub progress : Progress old new (listed ks) (listed (drop i ks))
  pub counted : others + i ≡ length ks

pub listed_next : (ks : List Choice) (i others after : ℕ) (d : Choice) → i < length ks → others + i ≡ length ks → after + 1 ≡ others →
    listed (drop i ks) ≡ among (get_or ks i d) after ++ listed (drop (i + 1) ks)
listed_next ks i others after d below counted less = listed_at ks i after d below (omega (arith, counted, less))

pub listed_more : (old now new : OutState) (ks : List Choice) (i others after : ℕ) (d : Choice) → Listing old now ks i others → i <
    length ks →
    after + 1 ≡ others → new ≡ with_bytes now (among (get_or ks i d) after) → Listing old new ks (i + 1) after
listed_more old now new ks i others after d l below less written =
    let c : others + i ≡ length ks = l.counted in
    record {
      progress = goes_on _ _ _ _ _ _ _ l.progress (listed_next ks i others after d below c less) written;
      counted = omega (arith, c, less);
    }
