-- That what is told of two programs on the same inputs can be read.
use Rattle.std.proofs.Common.{ℕ, ◌-◌, nat_lt, Bool, true, false, ℤ, List, [], ◌∷◌, codes, length, lit≤}
use Rattle.std.specs.Prelude.{Option, Some, None, if◌then◌else◌}
use Rattle.json_texts.specs.Facts.{large}
use Rattle.json_texts.specs.Small.{IsReadable, IsSmall}
use Rattle.json_texts.proofs.Small.{HasSmall, has_all, small_large, small_letters, small_object, small_value, small_values, small_word}
use Rattle.json_texts.proofs.Small.{smaller}
use Rattle.pram_check.specs.Checked.{Checked}
use Rattle.pram_model.specs.Layout.{SharedEntry}
use Rattle.comparing.specs.Found.{Differing, Found}
use Rattle.comparing.specs.declared.difference.Difference.{Difference}
use Rattle.comparing.specs.declared.difference.Difference.TheVariants as differ
use Rattle.comparing.specs.declared.difference.Ending.{Ending}
use Rattle.comparing.specs.declared.difference.Ending.TheVariants as ending
use Rattle.json_texts.specs.PairFacts.{both_fields, difference_fields, differing_facts, differing_fields, ending_facts}
use Rattle.json_texts.specs.PairFacts.{ending_fields, head_fields}
use Rattle.json_texts.specs.PairFacts.{excess_fields, first_fields, found_fields, pair_fields, told_fields, value_fields, whole_facts}
use Rattle.json_texts.specs.ExplorationFacts.{asked_fields, cells_fields}
use Rattle.json_texts.proofs.ExplorationReadable.{small_asked, small_cells}
use Rattle.json_texts.proofs.Readable.{readable, small_fault}

small_one : (name : List ℕ) (x : Option ℤ) → HasSmall 3 (value_fields name x)
small_one name None = tt
small_one name (Some v) = (small_value 3 v, tt)

small_both : (x y : Option ℤ) → HasSmall 3 (both_fields x y)
small_both x y =
    has_all 3 (value_fields (codes "first") x) (value_fields (codes "second") y) (small_one (codes "first") x)
    (small_one (codes "second") y)

small_ending_fields : (layout : List SharedEntry) (e : Ending) → HasSmall 0 (ending_fields layout e)
small_ending_fields layout ending.Ended = (small_word 0 _, tt)
small_ending_fields layout (ending.Faulted fault) = (small_word 0 _, small_fault 0 layout fault)
small_ending_fields layout ending.GoesOn = (small_word 0 _, tt)

small_ending : (layout : List SharedEntry) (e : Ending) → IsSmall 3 (ending_facts layout e)
small_ending layout e = smaller 1 3 (ending_facts layout e) (lit≤ tt)
    (small_object 0 (ending_fields layout e) (small_ending_fields layout e))

small_excess : (what : List ℕ) (taken limit : ℕ) → HasSmall 3 (excess_fields what taken limit)
small_excess what taken limit = (small_word 3 _, (small_large 3 taken, (small_large 3 limit, tt)))

small_difference : (first second : List SharedEntry) (d : Difference) → HasSmall 3 (difference_fields first second d)
small_difference first second (differ.Endings e f) = (small_word 3 _, (small_ending first e, (small_ending second f, tt)))
small_difference first second (differ.Output item x y) = (small_word 3 _, (small_large 3 item, small_both x y))
small_difference first second (differ.Cell cell x y) = (small_word 3 _, (small_letters 3 _, small_both x y))
small_difference first second (differ.Time taken limit) = small_excess (codes "time") taken limit
small_difference first second (differ.Work taken limit) = small_excess (codes "work") taken limit

small_differing : (first second : List SharedEntry) (d : Differing) → HasSmall 3 (differing_fields first second d)
small_differing first second d = (small_values 2 d.input, small_difference first second d.difference)

pub readable_differing : (first second : List SharedEntry) (d : Differing) → IsReadable (differing_facts first second d)
readable_differing first second d = readable (differing_fields first second d) (small_differing first second d)

pub small_first : (first second : List SharedEntry) (told : List Differing) → HasSmall 3 (first_fields first second told)
small_first first second [] = tt
small_first first second (d ∷ told) = small_differing first second d

small_told_if : (many : ℕ) (b : Bool) → HasSmall 3 (if b then (codes "told", large many) ∷ [] else [])
small_told_if many true = (small_large 3 many, tt)
small_told_if many false = tt

small_found : (first second : List SharedEntry) (f : Found) → HasSmall 3 (found_fields first second f)
small_found first second f =
    has_all 3 (told_fields f) (first_fields first second f.told)
    (small_told_if (length f.told) (nat_lt (length f.told) (f.counting - f.same))) (small_first first second f.told)

small_head : (w : Option Checked) (cells : Option ℕ) (f : Found) → HasSmall 3 (head_fields w cells f)
small_head w cells f =
    has_all 3 (asked_fields (codes "counting") w f.counting) (cells_fields cells) (small_asked (codes "counting") w f.counting)
    (small_cells cells)

pub readable_whole : (first second : List SharedEntry) (w : Option Checked) (cells : Option ℕ) (f : Found) →
    IsReadable (whole_facts first second w cells f)
readable_whole first second w cells f =
    readable (pair_fields first second w cells f) (
      small_large 3 f.inputs,
      (
        small_large 3 f.same,
        has_all 3 (head_fields w cells f) (found_fields first second f) (small_head w cells f) (small_found first second f),
      ),
    )
