-- The laws of what is written of entries: it is nothing of no entries, and entries come behind entries.
use Rattle.std.proofs.Common.{◌≡◌, ◌∙◌, ℕ, List, [], ◌++◌, ap, refl, subst, sym}
use Rattle.text_out.specs.Printing.{Printing, Prints}
use Rattle.text_out.proofs.Printed.{printed_as, prints_nothing, prints_then}
use Rattle.journal.specs.Entries.{Entry}
use Rattle.step_text.specs.Passing.{passed}
use Rattle.step_text.specs.RowLaws as rows
use Rattle.step_text.specs.declared.asked.Asked.{Asked}
use Rattle.step_text.specs.Streams.{Streams, lines_behind}

pub streams_nothing : (a : Asked) (count : ℕ) (s : Printing) → Streams a count count s s []
streams_nothing a count s = record { counted = refl; printed = prints_nothing s; kept = refl }

behind_both : (a : Asked) (count between late : ℕ) (s t u : Printing) (xs ys : List Entry) → Streams a count between s t xs →
    Streams a between late t u ys → Streams a count late s u (xs ++ ys)
behind_both a count between late s t u xs ys h g = record {
  counted = g.counted ∙ ap (λ c. passed a.last c ys) h.counted ∙ sym (rows.passed_both a.last count xs ys);
  printed = printed_as (rows.lines_behind a.layout.now a.telling.now a.first a.last count xs ys)
      (prints_then h.printed (subst (λ c. Prints t u (lines_behind a c ys)) h.counted g.printed));
  kept = g.kept ∙ h.kept;
}

pub streams_on : (a b : Asked) (count between late : ℕ) (s t u : Printing) (xs ys : List Entry) → b ≡ a →
    Streams a count between s t xs → Streams b between late t u ys → Streams a count late s u (xs ++ ys)
streams_on a b count between late s t u xs ys same h g =
    behind_both a count between late s t u xs ys h (subst (λ a. Streams a between late t u ys) same g)
