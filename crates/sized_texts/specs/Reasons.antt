-- The words for reasons.
use Rattle.std.specs.Prelude.{ℕ, List, codes}
use Rattle.sized_texts.specs.declared.reason.Reason.{Reason}
use Rattle.sized_texts.specs.declared.reason.Reason.TheVariants as reason

-- the word behind the place of E19
abbrev pub reason_word : Reason → List ℕ
reason_word reason.BadLine = codes "line"
reason_word reason.Keyword = codes "keyword"
reason_word reason.Repeated = codes "repeated"
reason_word reason.UnknownName = codes "unknown"
reason_word reason.Unexpected = codes "token"
reason_word reason.NotClosed = codes "brace"
reason_word reason.OutOfRange = codes "value"
reason_word reason.ZeroDivisor = codes "divisor"
reason_word reason.LogOfZero = codes "log"
reason_word reason.TooDeep = codes "depth"
