use Rattle.std.proofs.Common.{ℕ, ◌<◌, ◌∙◌, ap, sym, subst, inl, inr, ⊎_elim}
use mathlib.Core.Option.{some}
use lib.ListN.{get_elem?}
use Rattle.atomic_table.specs.Table.{Final, Seen}
use Rattle.std.specs.Slots.{slots_items}
use Rattle.turnstile.specs.Lines.{Line, Hears, has_gone}
use Rattle.turnstile.specs.Runners.{LineShape, entry_of, AreNone}
use Rattle.turnstile.proofs.Sayings.{heard_is_said, all_empty, holds_none}
use Rattle.turnstile.proofs.Rows.{elem, elem_of}
use Rattle.turnstile.proofs.start.line.StartLine.close.Goals as goal

pub empty_out-requires-clause-none : goal.empty_out-requires-clause-none
empty_out-requires-clause-none g c =
    let line = c.self.inside in let inv = c.self.invariant in let p : ℕ = line.runners in let e = c.close_with.ensures in let ws =
    slots_items c.close_with.result.words in let ys = slots_items c.close_with.result.slots in
    let first = c.starter.inside.chair in let chair = c.take_all.new.chair in let rs = c.args.runners.items in
    let v_is = ap (λ z. z.0) c.take_all.ensures.taken in
    let end = subst (λ (k : ℕ). Final (Seen (Line k) chair.id chair.me.0) ws ys) inv.0 e.values.2 in
    let said = ap (λ s. s.said) c.starter.view_is in
    let free = ap (λ z. z.holds) v_is
    ∙ holds_none first.table_id.slots first.me c.starter.invariant (⊎_elim (λ stop. inl (said ∙ stop)) (λ go. inr (go.0, said ∙ go.1))
    c.requires.over) in
    subst (λ (n : ℕ). AreNone n ys) (sym (e.counts.1 ∙ inv.2)) (all_empty p ws ys chair.id chair.me.0 (ap (λ z. z.role) v_is) free end
    (⊎_elim (λ stop. inl (ap (λ z. z.said) v_is ∙ said ∙ stop))
    (λ go. inr (
      go.0,
      ap (λ z. z.said) v_is ∙ said ∙ go.1,
      λ w lw.
          let r = elem rs w (subst (λ (n : ℕ). w < n) (ap (λ (s : LineShape). s.runners) c.self.view_is ∙ sym go.2.count) lw) in (
            w,
            r.0.heard,
            go.2.waited w r.0 r.1,
            ap (λ z. get_elem? z.taken w) v_is ∙ elem_of entry_of rs w r.0 r.1
                ∙ ap (λ (n : ℕ). some (n, r.0.heard, has_gone r.0.heard)) (go.2.order w r.0 r.1),
          ),
    ))
    c.requires.over))

pub returns : goal.returns
returns g c =
    let line = c.self.inside in let inv = c.self.invariant in let p : ℕ = line.runners in let e = c.close_with.ensures in let ws =
    slots_items c.close_with.result.words in let ys = slots_items c.close_with.result.slots in
    let chair = c.take_all.new.chair in let rs = c.args.runners.items in
    let v_is = ap (λ z. z.0) c.take_all.ensures.taken in
    let end = subst (λ (k : ℕ). Final (Seen (Line k) chair.id chair.me.0) ws ys) inv.0 e.values.2 in
    let said = ap (λ s. s.said) c.starter.view_is in
    record {
      heard = λ k r got. subst (λ s. Hears s r.at r.heard) (ap (λ z. z.said) v_is ∙ said)
          (heard_is_said p ws ys chair.id chair.me.0 (ap (λ z. z.role) v_is) end k (entry_of r) (ap (λ z. get_elem? z.taken k) v_is
          ∙ elem_of entry_of rs k r got));
    }
