use Rattle.std.proofs.Common.{◌≡◌, ◌∙◌, ap, arith, false, subst, sym, true}
use Rattle.std.specs.Prelude.{None, Some}
use Rattle.sized_texts.specs.Sweeps.{AreSizes, are_some_words}
use Rattle.sized_texts.proofs.SweepNames.{cut_at, some_words}
use Rattle.sized_texts.proofs.sweep.read_sweep.Goals as goal

pub returns-in_default : goal.returns-in_default
returns-in_default c = record { read = λ name sizes w. cut_at c.args.word.now name sizes None c.in_default.ensures.cases w }

pub returns-then-not-is_sweep_name : goal.returns-then-not-is_sweep_name
returns-then-not-is_sweep_name c = record {
  read = λ name sizes w.
      let cut = cut_at c.args.word.now name sizes (Some (c.in-Some.name, c.in-Some.text)) c.in-Some.ensures.cases w in
      let is : c.is_sweep_name.result ≡ true = c.is_sweep_name.ensures ∙ ap are_some_words (c.as_bytes.ensures.value ∙ cut.0)
      ∙ some_words name w.named w.words in
      let e : true ≡ false = sym is ∙ c.if-not-is_sweep_name.true in
      cc e;
}

pub returns-in-None : goal.returns-in-None
returns-in-None c = record {
  read = λ name sizes w.
      let cut = cut_at c.args.word.now name sizes (Some (c.in-Some.name, c.in-Some.text)) c.in-Some.ensures.cases w in
      let none = rw c.in-None.is at c.in_ok-sizes_of.ensures in
      let more = none sizes (subst (λ t. AreSizes t sizes) (sym cut.1) w.sized) in
      omega (arith, more, w.few);
}
