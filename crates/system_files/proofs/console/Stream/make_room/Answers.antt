use Rattle.std.proofs.Common.{◌≡◌, ◌∙◌, ◌++◌, ◌≤◌, ap, arith, length, refl, rules, subst}
use Rattle.std.specs.List.{copy_within}
use Rattle.system_files.proofs.Blocks.{kept_long, lines_handed_on}
use Rattle.system_files.proofs.console.Stream.make_room.Goals as goal

pub returns-then-end-gt0-clause-kept : goal.returns-then-end-gt0-clause-kept
returns-then-end-gt0-clause-kept g c =
    let a = c.args.self.now in
    let ok = c.in_ok-hand_on.ensures.ok in
    let whole : length a.held ≡ 4096 = search rules in
    let end = c.lines_in-end.result in (
      lines_handed_on a.long a.held c.copy_within.new.self c.hand_on.new.self.long.items a.len end _ whole c.requires.full
          (subst (λ n. end ≤ n) whole c.lines_in-end.ensures.few) c.lines_in-end.ensures.lines c.lines_in-end.ensures.rest c.if-end-gt0.true
          (c.copy_within.ensures.after ∙ ap (λ h. copy_within h end 4096 0) c.hand_on.ensures.held.0) refl ok.1,
      ok.0,
    )

pub returns-clause-kept : goal.returns-clause-kept
returns-clause-kept g c =
    let a = c.args.self.now in
    let whole : length a.held ≡ 4096 = search rules in
    let none : c.lines_in-end.result ≡ 0 = omega (arith, c.if-end-gt0.false) in
    let more : c.extend_from_slice.new.self.items ≡ a.long.items ++ a.held = search rules in
    (kept_long a.long a.held _ a.len _ 0 whole c.requires.full c.lines_in-end.ensures.rest none more refl, refl)
