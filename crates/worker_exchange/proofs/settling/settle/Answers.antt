use Rattle.std.proofs.Common.{◌≡◌, ℕ, List, map, take, sym, ap, subst, ◌∙◌, arith, Bor}
use Rattle.superstep_machine.specs.Keys.{least}
use Rattle.superstep_machine.specs.Run.{setting, Sends}
use Rattle.superstep_machine.specs.WordReading.{put_part, ask_part}
use Rattle.instruction_steps.specs.Views.{read_is, uniform_of}
use Rattle.instruction_steps.specs.declared.read.Read.{Read}
use Rattle.superstep_machine.specs.Setting.{module_cells}
use Rattle.superstep_machine.specs.Sending.{read_conflicts}
use Rattle.write_rules.specs.Rule.{shares_reads}
use Rattle.combining.specs.Merged.{IsMerged}
use Rattle.combining.specs.ModuleLaws.{put_parts, ask_parts}
use Rattle.worker_exchange.specs.Received.{received, messages_to}
use Rattle.worker_exchange.specs.Settled.{IsSettled}
use Rattle.worker_exchange.proofs.SettleLemmas.{parts_are, settled_shared, settled_apart}
use Rattle.worker_exchange.proofs.settling.settle.Goals as goal

pub returns-then-reads_shared : goal.returns-then-reads_shared
returns-then-reads_shared g c = λ code bound n is.
    let rule = g.R.WriteRule.rule c.args.rule.now in
    let m = g.M.AddressMap.shape c.args.map.now in
    let t = setting code m bound n in
    let came = g.C.Column.came c.args.column.now in
    let u = uniform_of c.args.u.now in
    let found = c.merge_at_module-found.result in
    let new = c.merge_at_module-found.new.cells in
    let lawful = g.met.M.AddressMap.lawful c.args.map.now in
    let few = lawful.few in
    let many = c.requires.column in
    let count = c.modules-workers.ensures in
    let kept = c.put_parts.auto.parts in
    let parts = c.put_parts.new.parts in
    let all : map (λ (x : Bor (List ℕ)). x.now) (take c.modules-workers.result parts) ≡ put_parts rule (received came) =
    ap (λ k. map (λ (x : Bor (List ℕ)). x.now) (take k parts)) (count ∙ sym many)
    ∙ parts_are came parts (put_part rule) (omega (arith, few, many, kept))
    (λ i l. c.put_parts.ensures.each i (omega (arith, l, many, count))) in
    let merged : IsMerged m code.rule c.args.part (put_parts code.rule (received came)) c.args.cells.now new found =
    subst (λ r. IsMerged m r c.args.part (put_parts r (received came)) c.args.cells.now new found) is
    (subst (λ columns. IsMerged m rule c.args.part columns c.args.cells.now new found) all c.merge_at_module-found.ensures.merged) in
    subst (λ noted. IsSettled t c.args.part u (messages_to code.rule m c.args.part Sends came) c.args.cells.now new noted)
    (sym c.key_of_put-put_key.ensures)
    (settled_shared t c.args.part lawful c.requires.part (received came) u c.args.cells.now new found
    c.requires.size merged (ap shares_reads (sym is) ∙ sym c.reads_shared.ensures ∙ c.if-reads_shared.true))

pub returns : goal.returns
returns g c = λ code bound n is.
    let rule = g.R.WriteRule.rule c.args.rule.now in
    let m = g.M.AddressMap.shape c.args.map.now in
    let t = setting code m bound n in
    let came = g.C.Column.came c.args.column.now in
    let u = uniform_of c.args.u.now in
    let found = c.merge_at_module-found.result in
    let new = c.merge_at_module-found.new.cells in
    let lawful = g.met.M.AddressMap.lawful c.args.map.now in
    let few = lawful.few in
    let many = c.requires.column in
    let count = c.modules-workers.ensures in
    let kept = c.put_parts.auto.parts in
    let parts = c.put_parts.new.parts in
    let all : map (λ (x : Bor (List ℕ)). x.now) (take c.modules-workers.result parts) ≡ put_parts rule (received came) =
    ap (λ k. map (λ (x : Bor (List ℕ)). x.now) (take k parts)) (count ∙ sym many)
    ∙ parts_are came parts (put_part rule) (omega (arith, few, many, kept))
    (λ i l. c.put_parts.ensures.each i (omega (arith, l, many, count))) in
    let merged : IsMerged m code.rule c.args.part (put_parts code.rule (received came)) c.args.cells.now new found =
    subst (λ r. IsMerged m r c.args.part (put_parts r (received came)) c.args.cells.now new found) is
    (subst (λ columns. IsMerged m rule c.args.part columns c.args.cells.now new found) all c.merge_at_module-found.ensures.merged) in
    let asked = c.ask_parts.new.parts in
    let still = c.ask_parts.auto.parts in
    let asks : map (λ (x : Bor (List ℕ)). x.now) (take c.modules-workers.result asked) ≡ ask_parts rule (received came) =
    ap (λ k. map (λ (x : Bor (List ℕ)). x.now) (take k asked)) (count ∙ sym many)
    ∙ parts_are came asked (ask_part rule) (omega (arith, few, many, kept, still))
    (λ i l. c.ask_parts.ensures.each i (omega (arith, l, many, count))) in
    let key = c.key_of_reads-read_key.ensures.key code bound n (received came) (ap (λ r. ask_parts r (received came)) (sym is) ∙
    sym asks) in
    let reads = ap (λ (xs : List Read). map read_is xs) c.as_slice.ensures in
    let messages = messages_to code.rule m c.args.part Sends came in
    let noted = c.key_of_reads-read_key.result in
    subst (λ z. IsSettled t c.args.part u messages c.args.cells.now z c.least.result) (sym c.key_of_reads-read_key.ensures.same)
    (subst (λ z. IsSettled t c.args.part u messages c.args.cells.now new z)
    (sym (c.least.ensures ∙ ap (λ z. least z noted) c.key_of_put-put_key.ensures))
    (settled_apart t c.args.part lawful c.requires.part (received came) u c.args.cells.now new found
    c.requires.size merged (ap shares_reads (sym is) ∙ sym c.reads_shared.ensures ∙ c.if-reads_shared.false) noted
    (key ∙ ap (λ rs. read_conflicts messages (module_cells t c.args.part) 0 rs) reads)))
