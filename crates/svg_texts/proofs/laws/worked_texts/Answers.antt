use Rattle.std.proofs.Common.{refl}
use Rattle.svg_texts.proofs.Sound.{document}
use Rattle.svg_texts.proofs.Worked.{left_open, refused}
use Rattle.svg_texts.proofs.laws.worked_texts.Goals as goal

pub returns-clause-one : goal.returns-clause-one
returns-clause-one c = document _ refl

pub returns-clause-no_end : goal.returns-clause-no_end
returns-clause-no_end c = left_open refl

pub returns-clause-other_end : goal.returns-clause-other_end
returns-clause-other_end c = refused refl

pub returns-clause-crossed : goal.returns-clause-crossed
returns-clause-crossed c = refused refl

pub returns-clause-less : goal.returns-clause-less
returns-clause-less c = refused refl

pub returns-clause-ampersand : goal.returns-clause-ampersand
returns-clause-ampersand c = refused refl

pub returns-clause-in_value : goal.returns-clause-in_value
returns-clause-in_value c = refused refl

pub returns-clause-quote : goal.returns-clause-quote
returns-clause-quote c = refused refl

pub returns-clause-unquoted : goal.returns-clause-unquoted
returns-clause-unquoted c = refused refl

pub returns-clause-twice : goal.returns-clause-twice
returns-clause-twice c = refused refl

pub returns-clause-two : goal.returns-clause-two
returns-clause-two c = refused refl
