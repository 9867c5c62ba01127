use Rattle.std.proofs.Common.{rules, length, ◌≡◌, ◌≤◌, ◌<◌, ◌∙◌, sym, subst, to_z, of_z, w64}
use Rattle.pram_model.specs.Layout.{width}
use Rattle.pram_values.specs.declared.kind.Kind.TheVariants.{TooWide}
use Rattle.abstract_runs.specs.Finding.{MayBy}
use Rattle.abstract_runs.proofs.Ranged.{counted_is, none_is, narrow_tried, wide_tried}
use Rattle.abstract_runs.proofs.ranging.ranged.Goals as goal

pub returns-in_default-clause-tried : goal.returns-in_default-clause-tried
returns-in_default-clause-tried c = λ t g.
    let first : to_z w64 (of_z w64 c.args.first) ≡ c.args.first = search rules in
    let last : to_z w64 (of_z w64 c.args.last) ≡ c.args.last = search rules in
    let here : c.len.result ≡ length c.push.new.self.items = search rules in
    wide_tried _ c.args.procs (width c.args.first c.args.last) c.args.first c.args.trail.now.items c.push.new.self.items c.note.new.self t
    (subst (λ k. c.args.procs < k) (λ i. width (first i) (last i)) (none_is _ c.count_of.result c.in_default.is c.count_of.ensures.count))
    (search rules) (subst (λ n. MayBy TooWide n c.note.new.self) here c.note.ensures.noted) g

pub returns-clause-tried : goal.returns-clause-tried
returns-clause-tried c = λ t g.
    let first : to_z w64 (of_z w64 c.args.first) ≡ c.args.first = search rules in
    let last : to_z w64 (of_z w64 c.args.last) ≡ c.args.last = search rules in
    let count : c.in-Some.count ≡ width c.args.first c.args.last = c.in-Some.ensures.count.0 ∙ (λ i. width (first i) (last i)) in
    narrow_tried _ c.args.procs (width c.args.first c.args.last) c.args.first c.args.trail.now.items c.push.new.self.items c.args.faults.now t
    (subst (λ k. k ≤ c.args.procs) count c.in-Some.ensures.count.1) (search rules) (counted_is (sym first) (sym count)) g
