use Rattle.std.proofs.Common.{refl}
use Rattle.serde_json.proofs.OnLiterals.{serde_json_on_literals}
use Rattle.json_texts.proofs.Json.{adds_one}
use Rattle.json_texts.proofs.refusal.out_of_memory_line.Goals as goal

pub returns : goal.returns
unfolding serde_json_on_literals
returns c = record { json = λ source. adds_one _ _ _ refl refl }
