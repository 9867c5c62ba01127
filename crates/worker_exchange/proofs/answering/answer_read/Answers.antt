use Rattle.std.proofs.Common.{◌∙◌, ap, List, ℤ}
use Rattle.std.proofs.lemmas.List.{with_items_is}
use Rattle.worker_bank.specs.Columns.{value_of}
use Rattle.worker_exchange.proofs.answering.answer_read.Goals as goal

pub returns-in-Private-clause-answered : goal.returns-in-Private-clause-answered
returns-in-Private-clause-answered c value j gives l =
    let came = c.values_for-next in
    let is = with_items_is c.args.values.now came.new.values (came.ensures.count ∙ c.as_mut_slice.ensures.len) in
    c.take_answers.ensures.answered (value c.args.ordinal) j l
    (λ cell e. ap (λ (xs : List ℤ). value_of xs j) is ∙ came.ensures.each j cell l e
    ∙ gives c.args.ordinal cell (c.requires.below j cell l e))
