-- How a run came out behind its exchanges can be read.
use Rattle.std.proofs.Common.{◌++◌, List, Option, None, Some}
use Rattle.std.specs.Prelude.{Bool, true, false}
use Rattle.pram_model.specs.Layout.{SharedEntry}
use Rattle.write_rules.specs.Verdict.{Verdict}
use Rattle.std.proofs.Common.{ℕ}
use Rattle.json_texts.specs.Small.{IsReadable}
use Rattle.json_texts.specs.TraceFacts.{cost_fields, end_fields, way, way_facts}
use Rattle.json_texts.proofs.Small.{HasSmall, has_all, small_large, small_word}
use Rattle.json_texts.proofs.Readable.{readable, small_outcome}

small_cost : (cost : Option ℕ) → HasSmall 3 (cost_fields cost)
small_cost None = tt
small_cost (Some n) = (small_large 3 n, tt)

small_end : (whole : Bool) (layout : List SharedEntry) (v : Verdict) → HasSmall 3 (end_fields whole layout v)
small_end true layout v = small_outcome layout v
small_end false layout v = (small_word 3 (way v), tt)

pub readable_way : (whole : Bool) (layout : List SharedEntry) (v : Verdict) (cost : Option ℕ) → IsReadable (way_facts whole layout v cost)
readable_way whole layout v cost =
    readable (end_fields whole layout v ++ cost_fields cost)
    (has_all 3 (end_fields whole layout v) (cost_fields cost) (small_end whole layout v) (small_cost cost))
