-- A name's chain says of it what all the sizes say.
use Rattle.std.proofs.Common.{◌≡◌, ℕ, Bool, true, false, nat_eq, List, [], ◌∷◌, refl, ap, ◌∙◌, eq-eqb}
use Rattle.std.specs.List.{filter}
use Rattle.pram_model.specs.Names.{same_text}
use Rattle.pram_model.proofs.Texts.{same_is}
use Rattle.sized_texts.specs.Sizes.{value_in}
use Rattle.sized_texts.specs.SizeTables.{bound, chain_of, is_in_chain}
use Rattle.sized_texts.specs.declared.size_table.Binding.{Binding}

pub found_in_chain : (bs : List Binding) (text : List ℕ) →
    value_in (bound (filter (is_in_chain (chain_of text)) bs)) text ≡ value_in (bound bs) text
found_in_chain [] text = refl
found_in_chain (b ∷ bs) text =
    by (same_text b.name.now text) (nat_eq (chain_of b.name.now) (chain_of text)) refl refl (found_in_chain bs text)
  where
    by : (same inside : Bool) → same_text b.name.now text ≡ same → nat_eq (chain_of b.name.now) (chain_of text) ≡ inside →
        value_in (bound (filter (is_in_chain (chain_of text)) bs)) text ≡ value_in (bound bs) text →
        value_in (bound (filter (is_in_chain (chain_of text)) (b ∷ bs))) text ≡ value_in (bound (b ∷ bs)) text
    by true true same inside more = rw inside (rw same refl)
    by true false same inside more = absurd (let e : nat_eq (chain_of b.name.now) (chain_of text) ≡ true =
        eq-eqb _ _ (ap chain_of (same_is b.name.now text same)) in cc)
    by false true same inside more = rw inside (rw same more)
    by false false same inside more = rw inside (rw same more)
