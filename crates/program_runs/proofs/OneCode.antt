-- The programs of a text have one code, and so one list of exchanges on a map.
use Rattle.std.proofs.Common.{◌≡◌, ◌∙◌, ℕ, List, ℤ, Option, Some, true, ap, subst, sym}
use Rattle.address_map.specs.Lawful.{Shape}
use Rattle.superstep_instructions.specs.Code.{SuperstepCode}
use Rattle.superstep_machine.specs.Trace.{AreBspExchanges}
use Rattle.flat_machine.specs.Flatness.{IsMapFor}
use Rattle.flat_machine.proofs.OneWords.{exchanges_are_unique}
use Rattle.fusing.specs.Fusing.{IsFused}
use Rattle.fusing.proofs.Fused.{has_one}
use Rattle.pram_parser.proofs.OneTree.{one_tree_at_most}
use Rattle.plain_form.specs.PlainForm.{form_of}
use Rattle.program_runs.specs.Compiled.{TextsHaveOneCode}
use Rattle.program_runs.specs.Reserved.{TextsHaveOneList, TextsHaveOneReserve}
use Rattle.workers.specs.Past.{ComesPast}
use Rattle.program_runs.proofs.OneForm.{form_same}

pub texts_have_one_code : TextsHaveOneCode
texts_have_one_code text p q is also code other made made_too =
    let same : p.tree ≡ q.tree = one_tree_at_most text p.tree q.tree is.is_text also.is_text in
    let forms : form_of true p ≡ form_of true q = form_same true p q is.resolved also.resolved same in
    has_one (form_of true p) code other made (subst (λ form. IsFused form other) (sym forms) made_too)

pub texts_have_one_list : TextsHaveOneList
texts_have_one_list text input options verdict other exchanges more run also maps =
    let first = run.ran.run in
    let second = also.ran.run in
    let codes : run.ran.code ≡ also.ran.code =
    texts_have_one_code text run.program also.program run.is_program also.is_program run.ran.code also.ran.code run.ran.is_code
    also.ran.is_code in
    let made : AreBspExchanges run.ran.code first.shape input options.bound other more =
    subst (λ (m : Shape). AreBspExchanges run.ran.code m input options.bound other more) (sym maps)
    (subst (λ code. AreBspExchanges code second.shape input options.bound other more) (sym codes) second.made) in
    let on_map : IsMapFor run.ran.code first.shape = record { lawful = first.laid_out.lawful; room = first.laid_out.least.enough } in
    exchanges_are_unique run.ran.code first.shape on_map input options.bound verdict other exchanges more first.made made

pub texts_have_one_reserve : TextsHaveOneReserve
texts_have_one_reserve text input options reserve verdict exchanges run past maps =
    let ran = run.by_workers.ran in
    let other = past.past in
    let codes : ran.code ≡ other.code =
    texts_have_one_code text run.by_workers.program past.program run.by_workers.is_program past.is_program ran.code other.code
    ran.is_code other.is_code in
    run.within (subst (λ (m : Shape). ComesPast ran.code m options.bound input reserve) (sym maps)
    (subst (λ code. ComesPast code other.past.shape options.bound input reserve) (sym codes) other.past.past))
