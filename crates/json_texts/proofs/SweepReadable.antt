-- That what is told of a sweep can be read.
use Rattle.std.proofs.Common.{ℕ, List, ◌∷◌, ◌++◌, codes, lit≤}
use Rattle.json_texts.specs.Small.{IsReadable}
use Rattle.json_texts.proofs.Small.{HasSmall, has_all, small_count, small_large, small_letters, small_object, small_word, smaller}
use Rattle.sweeps.specs.declared.growth.Growth.{Growth}
use Rattle.sweeps.specs.declared.growth.Growth.TheVariants.{Formula as ByFormula, Doubling, Nothing}
use Rattle.sweeps.specs.declared.growths.Growths.{Growths}
use Rattle.sweeps.specs.declared.size_row.Counts.{Counts}
use Rattle.sweeps.specs.declared.size_row.Ending.{Ending}
use Rattle.sweeps.specs.declared.size_row.Ending.TheVariants.{Ended, GoesOn, Faulted, Refused}
use Rattle.sweeps.specs.declared.size_row.SizeRow.{SizeRow}
use Rattle.json_texts.specs.CostFacts.{most_fields}
use Rattle.json_texts.proofs.Readable.{small_most}
use Rattle.json_texts.specs.SweepFacts.{count_fields, ending_fields, growth_fields, growths_facts, growths_fields, row_facts}

small_counts_of : (n : ℕ) (c : Counts) → HasSmall n (count_fields c)
small_counts_of n c = (small_count n _, (small_large n _, (small_count n _, (small_large n _, (small_large n _, tt)))))

small_run : (n : ℕ) (c : Counts) → HasSmall n (most_fields c.most_exchanges c.most_words ++ count_fields c)
small_run n c =
    has_all n (most_fields c.most_exchanges c.most_words) (count_fields c) (small_most n c.most_exchanges c.most_words)
    (small_counts_of n c)

small_ending : (n : ℕ) (e : Ending) → HasSmall n (ending_fields e)
small_ending n (Ended c) = (small_word n _, small_run n c)
small_ending n (GoesOn c) = (small_word n _, small_run n c)
small_ending n (Faulted c fault) = (small_word n _, (small_letters n _, small_counts_of n c))
small_ending n (Refused refusal) = (small_word n _, (small_letters n _, tt))

pub readable_row : (name : List ℕ) (row : SizeRow) → IsReadable (row_facts name row)
readable_row name row =
    smaller 1 127 (row_facts name row) (lit≤ tt)
    (small_object 0 ((codes "size", _) ∷ (codes "value", _) ∷ ending_fields row.ending)
    (small_letters 0 name, (small_large 0 row.size, small_ending 0 row.ending)))

small_growth : (n : ℕ) (what name : List ℕ) (g : Growth) → HasSmall n (growth_fields what name g)
small_growth n what name (ByFormula f) = (small_letters n _, tt)
small_growth n what name (Doubling step) = (small_letters n _, tt)
small_growth n what name Nothing = tt

pub readable_growths : (name : List ℕ) (g : Growths) → IsReadable (growths_facts name g)
readable_growths name g =
    smaller 1 127 (growths_facts name g) (lit≤ tt)
    (small_object 0 ((codes "at", _) ∷ growths_fields name g) (
      small_word 0 _,
      has_all 0 (growth_fields (codes "time") name g.time) (growth_fields (codes "work") name g.work)
          (small_growth 0 (codes "time") name g.time) (small_growth 0 (codes "work") name g.work),
    ))
