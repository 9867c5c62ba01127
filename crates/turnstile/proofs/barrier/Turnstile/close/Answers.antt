use Rattle.std.proofs.Common.{ℕ, ◌<◌, ◌*◌, ◌∙◌, ap, sym, subst}
use Rattle.atomic_table.specs.Table.{Final, Seen}
use Rattle.std.specs.Slots.{slots_items}
use Rattle.turnstile.specs.Blocks.{TwoBlocks, Laid}
use Rattle.turnstile.specs.Seats.{TurnstileShape}
use Rattle.turnstile.specs.Turns.{Holds}
use Rattle.turnstile.proofs.Comings.{enters}
use Rattle.turnstile.proofs.Closings.{laid_out, phases_same, received_as_sent, all_whole, workers_of}
use Rattle.turnstile.proofs.barrier.Turnstile.close.Goals as goal

pub load_new_seat-root-requires : goal.load_new_seat-root-requires
load_new_seat-root-requires c = let t = c.self.inside in let inv = c.self.invariant in
    (subst (λ (n : ℕ). 0 < n) (sym inv.2) inv.4, enters t.table.shared.key t.table.shared.key.side t.table.shared.table_id.slots 0)

pub collect-requires-clause-laid : goal.collect-requires-clause-laid
collect-requires-clause-laid c =
    let t = c.self.inside in let inv = c.self.invariant in let e = c.close_with.ensures in let root = c.take_all.new.root in let taken =
    c.take_all.ensures.root in
    let b = t.table.shared.key in let p : ℕ = t.workers in let ws = slots_items c.close_with.result.words in let ys =
    slots_items c.close_with.result.slots in
    let end = subst (λ (k : ℕ). Final (Seen (Holds b k) root.id root.me.0) ws ys) inv.1 e.values.2 in
    let count = c.requires.seats.count ∙ ap (λ (s : TurnstileShape). s.workers) (sym c.self.view_is) in
    let same = inv.0 ∙ sym c.into_inner.ensures in
    subst (λ (z : TwoBlocks). Laid z (2 * z.side * z.side) ys) same
    (subst (λ (n : ℕ). Laid b (2 * n * n) ys) (sym inv.1) (laid_out b p ws ys root.id root.me.0 c.args.seats.items taken.0 taken.1
    (ap (λ z. z.0) taken.2) count end))

pub returns-clause-phases : goal.returns-clause-phases
returns-clause-phases c =
    let t = c.self.inside in let inv = c.self.invariant in let e = c.close_with.ensures in let root = c.take_all.new.root in let taken =
    c.take_all.ensures.root in
    let b = t.table.shared.key in let p : ℕ = t.workers in let ws = slots_items c.close_with.result.words in let ys =
    slots_items c.close_with.result.slots in
    let end = subst (λ (k : ℕ). Final (Seen (Holds b k) root.id root.me.0) ws ys) inv.1 e.values.2 in
    let count = c.requires.seats.count ∙ ap (λ (s : TurnstileShape). s.workers) (sym c.self.view_is) in
    phases_same b p ws ys root.id root.me.0 c.args.seats.items taken.0 taken.1 (ap (λ z. z.0) taken.2) count end

pub returns-clause-exchanged : goal.returns-clause-exchanged
returns-clause-exchanged c =
    let t = c.self.inside in let inv = c.self.invariant in let e = c.close_with.ensures in let root = c.take_all.new.root in let taken =
    c.take_all.ensures.root in
    let b = t.table.shared.key in let p : ℕ = t.workers in let ws = slots_items c.close_with.result.words in let ys =
    slots_items c.close_with.result.slots in
    let end = subst (λ (k : ℕ). Final (Seen (Holds b k) root.id root.me.0) ws ys) inv.1 e.values.2 in
    let count = c.requires.seats.count ∙ ap (λ (s : TurnstileShape). s.workers) (sym c.self.view_is) in
    received_as_sent b p ws ys root.id root.me.0 c.args.seats.items taken.0 taken.1 (ap (λ z. z.0) taken.2) count end
    (workers_of b p ws ys root.id root.me.0 c.args.seats.items taken.0 taken.1 (ap (λ z. z.0) taken.2) count end t.table.shared.table_id
    inv.2 (λ k r got. c.requires.seats.tables k r got ∙ ap (λ (s : TurnstileShape). s.table) (sym c.self.view_is)))

pub returns-clause-whole : goal.returns-clause-whole
returns-clause-whole c =
    let t = c.self.inside in let inv = c.self.invariant in let e = c.close_with.ensures in let root = c.take_all.new.root in let taken =
    c.take_all.ensures.root in
    let b = t.table.shared.key in let p : ℕ = t.workers in let ws = slots_items c.close_with.result.words in let ys =
    slots_items c.close_with.result.slots in
    let end = subst (λ (k : ℕ). Final (Seen (Holds b k) root.id root.me.0) ws ys) inv.1 e.values.2 in
    let count = c.requires.seats.count ∙ ap (λ (s : TurnstileShape). s.workers) (sym c.self.view_is) in
    all_whole b p ws ys root.id root.me.0 c.args.seats.items taken.0 taken.1 (ap (λ z. z.0) taken.2) count end
