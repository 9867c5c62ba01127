-- The laws of lines of facts: no facts add nothing, and lines come behind lines.
use Rattle.std.proofs.Common.{◌≡◌, ◌∙◌, ◌++◌, ◌∷◌, [], List, ℕ, ap, append_assoc, refl, sym}
use Rattle.std.proofs.lemmas.List.{append-nil}
use Rattle.std.proofs.lemmas.List.Elements.{All-append, All-nil}
use Rattle.serde_json.specs.Data.{Data}
use Rattle.json_texts.specs.Lines.{Adds, ReadsBack, json_line, json_lines}

pub json_lines-append : (ds es : List Data) → json_lines (ds ++ es) ≡ json_lines ds ++ json_lines es
json_lines-append [] es = refl
json_lines-append (d ∷ ds) es =
    ap (λ l. json_line d ++ l) (json_lines-append ds es) ∙ sym (append_assoc (json_line d) (json_lines ds) (json_lines es))

pub adds_nothing : (text : List ℕ) → Adds [] text text
adds_nothing text = record { whole = sym (append-nil text); read_back = All-nil ReadsBack }

pub adds_then : (ds es : List Data) (a b c : List ℕ) → Adds ds a b → Adds es b c → Adds (ds ++ es) a c
adds_then ds es a b c x y = record {
  whole = y.whole ∙ ap (λ l. l ++ json_lines es) x.whole ∙ append_assoc a (json_lines ds) (json_lines es)
      ∙ ap (λ l. a ++ l) (sym (json_lines-append ds es));
  read_back = All-append ReadsBack ds es x.read_back y.read_back;
}
