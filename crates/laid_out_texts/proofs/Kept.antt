-- What is known of a text's layout where it is taken, and where the text stays as it is.
use Rattle.std.proofs.Common.{◌≡◌, ℕ, ◌≤◌, Bool, true, false, nat_le, List, Option, Some, None, length, refl, sym, ap, ◌∙◌, subst, arith}
use Rattle.std.specs.Prelude.{◌&&◌}
use Rattle.pram_model.specs.Names.{same_text}
use Rattle.pram_model.proofs.Texts.{same_is}
use Rattle.pram_tokens.specs.Scanning.{longest}
use Rattle.std.proofs.lemmas.Bool.Decides.{nat_tests}
use Rattle.laid_out_texts.specs.Arranged.{arranged, chosen, is_same, same_lines}
use Rattle.laid_out_texts.specs.Layout.{laid_out}
use Rattle.laid_out_texts.specs.Pieces.{listed}
use Rattle.laid_out_texts.specs.Spelled.{spelled}

both : (a b : Bool) → (a && b) ≡ true → (a ≡ true) × (b ≡ true)
both true b h = (refl, h)
both false b h = absurd (cc)

lines-are : (a b : Option (List ℕ)) → same_lines a b ≡ true → a ≡ b
lines-are (Some a) (Some b) h = ap Some (same_is a b h)
lines-are (Some a) None h = absurd (cc)
lines-are None b h = absurd (cc)

chosen-one : (b : Bool) (text : List ℕ) → chosen b text text ≡ text
chosen-one true text = refl
chosen-one false text = refl

stays : (text : List ℕ) → laid_out text ≡ text → arranged text ≡ text
unfolding arranged
stays text is = ap (chosen (is_same text (laid_out text)) text) is ∙ chosen-one (is_same text (laid_out text)) text

taken : (text : List ℕ) → is_same text (laid_out text) ≡ true → arranged text ≡ laid_out text
unfolding arranged
taken text is = ap (λ b. chosen b text (laid_out text)) is

left : (text : List ℕ) → is_same text (laid_out text) ≡ false → arranged text ≡ text
unfolding arranged
left text is = ap (λ b. chosen b text (laid_out text)) is

pub record IsTaken (text new : List ℕ) : Type 0 where
  pub layout : new ≡ arranged text
  pub pieces : listed new ≡ listed text
  pub tokens : spelled new ≡ spelled text
  pub again : arranged new ≡ new
  pub fits : length new ≤ longest

shorter : (n : ℕ) → nat_le n longest ≡ true → n ≤ longest
shorter n h = grind (arith, nat_tests)

pub is_taken : (text new lent : List ℕ) (same : Bool) → new ≡ laid_out text → lent ≡ new → same ≡ is_same text lent → same ≡ true →
    IsTaken text new
is_taken text new lent same is here of holds =
    let known : is_same text new ≡ true = sym (ap (is_same text) here) ∙ sym of ∙ holds in
    let parts = both (nat_le (length new) longest)
    (same_text (listed new) (listed text) && (same_lines (spelled new) (spelled text) && same_text (laid_out new) new)) known in
    let others = both (same_text (listed new) (listed text)) (same_lines (spelled new) (spelled text) && same_text (laid_out new) new)
    parts.1 in
    let last = both (same_lines (spelled new) (spelled text)) (same_text (laid_out new) new) others.1 in
    record {
      layout = is ∙ sym (taken text (ap (is_same text) (sym is) ∙ known));
      pieces = same_is (listed new) (listed text) others.0;
      tokens = lines-are (spelled new) (spelled text) last.0;
      again = stays new (same_is (laid_out new) new last.1);
      fits = shorter (length new) parts.0;
    }

pub record IsLeft (text kept : List ℕ) : Type 0 where
  pub layout : kept ≡ arranged text
  pub again : arranged kept ≡ kept

pub is_left : (text new lent kept : List ℕ) (same : Bool) → new ≡ laid_out text → lent ≡ new → same ≡ is_same text lent → same ≡ false →
    kept ≡ text → IsLeft text kept
is_left text new lent kept same is here of fails stayed =
    let known : is_same text (laid_out text) ≡ false = sym (ap (is_same text) (here ∙ is)) ∙ sym of ∙ fails in
    record {
      layout = stayed ∙ sym (left text known);
      again = ap arranged stayed ∙ left text known ∙ sym stayed;
    }
