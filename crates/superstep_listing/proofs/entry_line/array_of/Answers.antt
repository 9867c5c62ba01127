use Rattle.std.proofs.Common.{◌≡◌, ◌∙◌, ◌++◌, ◌∷◌, ap, sym, subst, lit≤}
use Rattle.std.specs.Fmt.{signed_decimal}
use Rattle.std.specs.Prelude.{Some}
use Rattle.pram_model.specs.Names.{IsName}
use Rattle.superstep_instructions.specs.Limits.{AreBounds}
use Rattle.superstep_listing.proofs.Cuts.{cut_as, not_cut}
use Rattle.superstep_listing.proofs.Declared.{high_fits, is_name_no, is_name_yes, lacks_name, low_fits}
use Rattle.superstep_listing.proofs.Numerals.{shown_again}
use Rattle.superstep_listing.proofs.entry_line.array_of.Goals as goal

pub returns-in_default : goal.returns-in_default
returns-in_default c = record { value = λ name low high n h e. not_cut 32 _ name _ c.in_default.ensures.parts e }

pub returns-then-not-is_name : goal.returns-then-not-is_name
returns-then-not-is_name c = record {
  value = λ name low high n h e.
      let is = cut_as name _ c.in-Some.ensures.parts (lacks_name 32 name (lit≤ tt) n) e in
      is_name_no c.in-Some.name.now c.is_name.result c.is_name.ensures.value c.if-not-is_name.true (subst IsName (sym is.0) n);
}

pub returns-in-None : goal.returns-in-None
returns-in-None c = record {
  value = λ name low high n h e.
      let is = cut_as name _ c.in-Some.ensures.parts (lacks_name 32 name (lit≤ tt) n) e in
      c.in-None.ensures.value low high h is.1;
}

pub returns-in-Some-bounds_of : goal.returns-in-Some-bounds_of
returns-in-Some-bounds_of c = record {
  value =
      let b = c.in-Some-bounds_of.ensures.value in
      let low = c.in-Some-bounds_of.low in
      let high = c.in-Some-bounds_of.high in
      let name = c.in-Some.name.now in (
        is_name_yes name (sym c.is_name.ensures.value ∙ c.if-not-is_name.false),
        shown_again (λ x y. AreBounds (Some (x, y)) × (c.args.bytes.now ≡ name ++ 32 ∷ (signed_decimal x ++ 32 ∷ signed_decimal y))) low
            high (low_fits low high b.0) (high_fits low high b.0)
            (b.0, c.in-Some.ensures.parts.whole ∙ ap (λ l. name ++ 32 ∷ l) b.1),
      );
}
