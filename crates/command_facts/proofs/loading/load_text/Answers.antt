use Rattle.std.proofs.Common.{List, subst}
use Rattle.command_requests.specs.declared.request.SizeWord.{SizeWord}
use Rattle.command_requests.specs.Given.{IsOfSizes}
use Rattle.command_requests.proofs.Sizes.{hands_on}
use Rattle.command_facts.proofs.Texts.{stops_at_text, stops_with, text_held, unread_text}
use Rattle.command_facts.proofs.loading.load_text.Goals as goal

-- a word gives no size
pub returns-in_err-sizes-clause-refused : goal.returns-in_err-sizes-clause-refused
returns-in_err-sizes-clause-refused g c =
    stops_with (g.S.Sources.holds c.args.sources.now c.args.file.now.name.now) c.args.file.now c.from_residual.result
    c.in_err-sizes.field-0.0
    c.from_residual.ensures.1 (subst (λ (ws : List SizeWord). IsOfSizes ws c.in_err-sizes.field-0.0)
    c.deref.ensures.value c.in_err-sizes.ensures.refused)

-- the file wasn't read
pub returns-in_err-bytes-clause-refused : goal.returns-in_err-bytes-clause-refused
returns-in_err-bytes-clause-refused g c =
    let h = c.in_err-bytes.field-0.0 in
    hands_on _ h _ c.from_residual-in_err-bytes.ensures.1
    (unread_text (g.S.Sources.holds c.args.sources.now c.args.file.now.name.now) c.args.file.now h.stop h.about
    c.in_err-bytes.ensures.unread)

pub returns-in-Ok-clause-text : goal.returns-in-Ok-clause-text
returns-in-Ok-clause-text g c =
    text_held (g.S.Sources.holds c.args.sources.now c.args.file.now.name.now) c.args.file.now c.in_ok-bytes.bytes.items _ _
    c.in-Ok.expansion
    c.deref-2.ensures.value c.deref-3.ensures.value c.in_ok-bytes.ensures.bytes c.in-Ok.ensures.expanded

-- the text has no expansion
pub returns-clause-refused : goal.returns-clause-refused
returns-clause-refused g c =
    stops_at_text (g.S.Sources.holds c.args.sources.now c.args.file.now.name.now) c.args.file.now c.source_of.result
    c.in_ok-bytes.bytes.items _ _
    c.in-Err.stop c.source_of.ensures.bytes c.source_of.ensures.itself c.deref-2.ensures.value
    c.deref-3.ensures.value
    c.in_ok-bytes.ensures.bytes c.in-Err.ensures.refused
