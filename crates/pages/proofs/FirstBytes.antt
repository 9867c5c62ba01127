-- The first bytes of lines, of which one more comes.
use Rattle.std.proofs.Common.{◌≡◌, ◌∙◌, ◌<◌, ◌≤◌, ◌+◌, ◌++◌, ◌∷◌, [], List, ℕ, ap, append-nil, arith, inl, inr, length, length-append, sym, take}
use Rattle.std.specs.Prelude.{◌⊎◌}
use Rattle.std.proofs.lemmas.Bool.{cases_lt}
use Rattle.std.proofs.lemmas.List.{take-append-le, take_all}
use Rattle.std.proofs.lemmas.List.Elements.{All-append, All-cons, All-nil}
use Rattle.serde_json.specs.Data.{Data}
use Rattle.json_texts.proofs.Json.{json_lines-append}
use Rattle.json_texts.specs.Lines.{ReadsBack, json_line, json_lines}
use Rattle.pages.specs.Cut.{room}
use Rattle.pages.specs.Gathered.{AreFirstLines}
use Rattle.pages.specs.declared.first_lines.FirstLines.{FirstLines}

pub first_none : (f : FirstLines) → f.bytes.items ≡ [] → f.count ≡ 0 → AreFirstLines [] f
first_none f bytes count = record {
  bytes = bytes ∙ sym (take_all room [] (omega arith));
  count = count;
  read_back = All-nil ReadsBack;
}

pub first_added : (f g : FirstLines) (facts : List Data) (d : Data) → AreFirstLines facts f →
    ((text : List ℕ) → f.bytes.items ≡ take room text → g.bytes.items ≡ take room (text ++ json_line d)) → g.count ≡ f.count + 1 →
    ReadsBack d → AreFirstLines (facts ++ d ∷ []) g
first_added f g facts d h puts count back = record {
  bytes = puts (json_lines facts) h.bytes
      ∙ ap (take room) (sym (json_lines-append facts (d ∷ []) ∙ ap (λ l. json_lines facts ++ l) (append-nil (json_line d))));
  count = let l = length-append facts (d ∷ []) in let c : f.count ≡ length facts = h.count in omega (arith, l, c, count);
  read_back = All-append ReadsBack facts (d ∷ []) h.read_back (All-cons ReadsBack d [] back (All-nil ReadsBack));
}

-- there is no room left
pub still_full : (bytes text more : List ℕ) → bytes ≡ take room text → room ≤ length bytes → bytes ≡ take room (text ++ more)
still_full bytes text more is full = by (cases_lt (length text) room) where
  same : length bytes ≡ length (take room text)
  same = ap length is

  by : (length text < room) ⊎ (room ≤ length text) → bytes ≡ take room (text ++ more)
  by (inl lt) =
      let all : length (take room text) ≡ length text = ap length (take_all room text (omega (arith, lt))) in
      let e = same in absurd (omega (arith, lt, all, e, full))
  by (inr le) = is ∙ sym (take-append-le room text more le)
