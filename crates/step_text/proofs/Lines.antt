-- One entry that passes, and its line.
use Rattle.std.proofs.Common.{◌≡◌, ◌∙◌, ℕ, Bool, true, false, List, [], ◌∷◌, ◌++◌, ap, append-nil, if◌then◌else◌, sym, subst}
use Rattle.text_out.specs.Out.{OutState}
use Rattle.text_out.specs.Printing.{Printing, Prints, PrintsBy, printing}
use Rattle.text_out.proofs.Printed.{printed_as, prints_nothing}
use Rattle.journal.specs.Entries.{Entry}
use Rattle.step_text.specs.Passing.{is_told, one_more}
use Rattle.step_text.specs.RowLaws.{line_is}
use Rattle.step_text.specs.declared.asked.Asked.{Asked}
use Rattle.step_text.specs.Streams.{Streams, line_behind, line_of}

-- it is asked for, or not
line_by : (a : Asked) (c : ℕ) (e : Entry) (b : Bool) → is_told a.first a.last c ≡ b → line_behind a c e ≡ (if b then line_of a c e else [])
line_by a c e b h = line_is a.layout.now a.telling.now a.first a.last c e ∙ ap (λ b. if b then line_of a c e else []) h

pub line_told : (a : Asked) (c : ℕ) (e : Entry) → is_told a.first a.last c ≡ true → line_behind a c e ≡ line_of a c e
line_told a c e h = line_by a c e true h

-- it isn't, and passes
pub passes_by : (a : Asked) (c late : ℕ) (s t : Printing) (e : Entry) → is_told a.first a.last c ≡ false → late ≡ one_more a.last
    c → t ≡ s →
    Streams a c late s t (e ∷ [])
passes_by a c late s t e h l same = record {
  counted = l;
  printed = printed_as (ap (λ line. line ++ []) (line_by a c e false h)) (subst (λ t. Prints s t []) (sym same) (prints_nothing s));
  kept = ap (λ (t : Printing). t.failed) same;
}

-- a writer that has not failed had not before
pub kept_by : (s u : OutState) (f g : Bool) (x : List ℕ) → PrintsBy s f u g x → g ≡ false → g ≡ f
kept_by s u true g x p h = p.1
kept_by s u false g x p h = h

-- it is asked for, and its line was printed
pub printed_one : (a : Asked) (c : ℕ) (s u : Printing) (e : Entry) → is_told a.first a.last c ≡ true → Prints s u (line_of a c e) →
    Prints s u (line_behind a c e)
printed_one a c s u e h p = printed_as (line_told a c e h) p

pub wrote_one : (a : Asked) (c late : ℕ) (s u : OutState) (f g : Bool) (e : Entry) → is_told a.first a.last c ≡ true →
    late ≡ one_more a.last c → g ≡ false → Prints (printing s f) (printing u g) (line_of a c e) →
    Streams a c late (printing s f) (printing u g) (e ∷ [])
wrote_one a c late s u f g e h l ok p = record {
  counted = l;
  printed = printed_as (append-nil (line_behind a c e)) (printed_one a c (printing s f) (printing u g) e h p);
  kept = kept_by s u f g (line_of a c e) p.by ok;
}
