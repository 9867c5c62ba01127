-- From the place behind each straight part on nothing is noted up to the next mark or halt.
use Rattle.std.proofs.Common.{◌≡◌, ℕ, ◌+◌, List, [], ◌∷◌, ◌++◌, length, Bool, true, false, refl, ap, subst, arith}
use Rattle.std.proofs.Common.{append_assoc, length-append, pos}
use Rattle.superstep_instructions.specs.declared.instr.Instr.{Instr}
use Rattle.superstep_instructions.specs.declared.instr.Instr.TheVariants.{Mark, Set, Mask, Flip, Unmask, Leave, Send, Put, Jump, JumpIfZero}
use Rattle.superstep_instructions.specs.declared.instr.Side.{Side}
use Rattle.superstep_instructions.specs.declared.instr.Side.TheVariants.{Uniform, Private}
use Rattle.pram_names.specs.declared.body.Target.TheVariants as target
use Rattle.pram_names.specs.declared.body.StepTarget.TheVariants as inner
use Rattle.pram_names.specs.declared.body.Step as step
use Rattle.pram_names.specs.declared.body.Step.{Step, Row_of-Step, end_of-Step, more_of-Step}
use Rattle.pram_names.specs.declared.body.Statement as statement
use Rattle.pram_names.specs.declared.body.Statement.{Statement, Row_of-Statement, end_of-Statement, more_of-Statement}
use Rattle.flat_machine.specs.Verdicts.{ends_statement}
use Rattle.flat_stretches.specs.Along.{Run, IsAt}
use Rattle.flat_stretches.specs.Folds.{Stand}
use Rattle.flat_stretches.specs.Tells.{IsCalm, ends, quiet, jumps, forks}
use Rattle.flat_stretches.proofs.Joins.{stands_split}
use Rattle.plain_form.specs.Formulas.{Formula, Zero, Pair, formula_of}
use Rattle.plain_form.specs.Groups.{value_at}
use Rattle.plain_form.specs.Shapes.{flush, still, waits, counted, writes, sent, chosen, looped, turned, flipped, flagged, flags}
use Rattle.plain_form.specs.Inside as inside
use Rattle.plain_form.specs.Inside.{Frame}
use Rattle.plain_form.specs.Outside as outside
use Rattle.verified_form.specs.Calm.{BeginsCalm, StatementsBeginCalm, PartsEndCalm, BranchesAreCalm, LoopsAreCalm, TurnsAreCalm}
use Rattle.verified_form.specs.Calm.{RangesAreCalm}
use Rattle.verified_form.specs.Calm.{MasksAreCalm, ExitsAreCalm}

module _ (t : Run) where
  -- the same place, written otherwise
  calm_at : (at to : ℕ) → at ≡ to → IsCalm t.code at → IsCalm t.code to
  calm_at at to e c = subst (IsCalm t.code) e c

  mark_calm : (at line : ℕ) → IsAt t at (Mark line) → IsCalm t.code at
  mark_calm at line h = ends (ap ends_statement h)

  flush_calm : (at : ℕ) (held : Bool) → BeginsCalm t at (flush held)
  flush_calm at true h c = quiet Send h.0 refl c
  flush_calm at false h c = calm_at (at + 0) at (omega arith) c

  -- a send at most, and then a mark
  behind_flush : (at line : ℕ) (held : Bool) (is : List Instr) → Stand t at (flush held ++ Mark line ∷ is) → IsCalm t.code at
  behind_flush at line held is h =
      let parts = stands_split t at (flush held) (Mark line ∷ is) h in
      flush_calm at held parts.0 (mark_calm (at + length (flush held)) line parts.1.0)

  write_calm : (keep held : Bool) (at line : ℕ) (s : Side) (base a : ℕ) (f g : Formula) →
      Stand t at (writes keep held line s base a f g) → IsCalm t.code at
  write_calm keep held at line s base a f g h =
      let first = flush (still held (Pair f g)) in
      let second = counted keep (waits held (Pair f g)) line s base (Pair f g) in
      let parts = stands_split t at first second (stands_split t at (first ++ second) (Put _ _ _ _ _ ∷ []) h).0 in
      flush_calm at (still held (Pair f g)) parts.0 (mark_calm (at + length first) line parts.1.0)

  -- ---- where statements begin

  statement_calm : (keep : Bool) (free at : ℕ) (held : Bool) (s : Statement) → Stand t at (outside.code keep free at held s) →
      IsCalm t.code at
  statement_calm keep free at held (statement.Assign here (target.Uniform x) e) h = mark_calm at here.line h.0
  statement_calm keep free at held (statement.Assign here (target.Cell a) e) h =
      write_calm keep held at here.line Uniform free a Zero (formula_of e) h
  statement_calm keep free at held (statement.Assign here (target.Element a i) e) h =
      write_calm keep held at here.line Uniform free a (formula_of i) (formula_of e) h
  statement_calm keep free at held (statement.Print here e) h = mark_calm at here.line h.0
  statement_calm keep free at held (statement.While' here e q a) h =
      let test = counted keep false here.line Uniform free (formula_of e) in
      let body = λ (n : ℕ). sent (outside.part_code keep free n false a) (outside.part_left false a) in
      let loop = looped (at + length (flush held)) test (value_at Uniform free (formula_of e)) body in
      let parts = stands_split t at (flush held) loop h in
      flush_calm at held parts.0 (mark_calm (at + length (flush held)) here.line parts.1.0)
  statement_calm keep free at held (statement.If' here e q a r b) h = mark_calm at here.line h.0
  statement_calm keep free at held (statement.For' here x e f q a) h = mark_calm at here.line h.0
  statement_calm keep free at held (statement.Pardo here e f locals body) h = mark_calm at here.line h.0

  part_calm : (keep : Bool) (free at : ℕ) (held : Bool) {k : _} (ss : Row_of-Statement k) →
      BeginsCalm t at (outside.part_code keep free at held ss)
  part_calm keep free at held end_of-Statement h c = calm_at (at + 0) at (omega arith) c
  part_calm keep free at held (more_of-Statement s ss) h c =
      let first = outside.code keep free at held s in
      statement_calm keep free at held s
      (stands_split t at first (outside.part_code keep free (at + length first) (outside.left held s) ss) h).0

  statements_calm : (keep : Bool) (free at : ℕ) (held : Bool) (ss : List Statement) →
      BeginsCalm t at (outside.statements_code keep free at held ss)
  statements_calm keep free at held [] h c = calm_at (at + 0) at (omega arith) c
  statements_calm keep free at held (s ∷ ss) h c =
      let first = outside.code keep free at held s in
      statement_calm keep free at held s
      (stands_split t at first (outside.statements_code keep free (at + length first) (outside.left held s) ss) h).0

  step_calm : (w : Frame) (base at : ℕ) (held : Bool) (s : Step) → Stand t at (inside.step_code w base at held s) → IsCalm t.code at
  step_calm w base at held (step.Assign here (inner.Local x) e) h = mark_calm at here.line h.0
  step_calm w base at held (step.Assign here (inner.Cell a) e) h =
      write_calm w.keep held at here.line Private base a Zero (formula_of e) h
  step_calm w base at held (step.Assign here (inner.Element a i) e) h =
      write_calm w.keep held at here.line Private base a (formula_of i) (formula_of e) h
  step_calm w base at held (step.If' here e q a r b) h = mark_calm at here.line h.0
  step_calm w base at held (step.While' here e q a) h =
      let before = flagged held base in
      let body = λ (n : ℕ). sent (inside.part_code w (base + 1) n false a) (inside.part_left false a) in
      let loop = looped (at + length before) (flags w.keep here.line w.vote base (base + 1) (formula_of e)) w.vote body in
      let parts = stands_split t at before loop (stands_split t at (before ++ loop) (Unmask ∷ []) h).0 in
      let front = stands_split t at (flush held) (Set Private base (pos 1) ∷ Mask base ∷ []) parts.0 in
      let head = mark_calm (at + length before) here.line parts.1.0 in
      let n = length-append (flush held) (Set Private base (pos 1) ∷ Mask base ∷ []) in
      let place = at + length (flush held) in
      flush_calm at held front.0
      (quiet (Set Private base (pos 1)) front.1.0 refl
      (quiet (Mask base) front.1.1.0 refl (calm_at (at + length before) (place + 1 + 1) (omega (arith, n)) head)))

  inner_part_calm : (w : Frame) (base at : ℕ) (held : Bool) {k : _} (ss : Row_of-Step k) →
      BeginsCalm t at (inside.part_code w base at held ss)
  inner_part_calm w base at held end_of-Step h c = calm_at (at + 0) at (omega arith) c
  inner_part_calm w base at held (more_of-Step s ss) h c =
      let first = inside.step_code w base at held s in
      step_calm w base at held s
      (stands_split t at first (inside.part_code w base (at + length first) (inside.step_left held s) ss) h).0

  steps_calm : (w : Frame) (base at : ℕ) (held : Bool) (ss : List Step) → BeginsCalm t at (inside.steps_code w base at held ss)
  steps_calm w base at held [] h c = calm_at (at + 0) at (omega arith) c
  steps_calm w base at held (s ∷ ss) h c =
      let first = inside.step_code w base at held s in
      step_calm w base at held s
      (stands_split t at first (inside.steps_code w base (at + length first) (inside.step_left held s) ss) h).0

  -- ---- where parts end

  part_end : (at : ℕ) (part : List Instr) (left : Bool) → Stand t at (sent part left) → IsCalm t.code (at + length (sent part left)) →
      IsCalm t.code (at + length part)
  part_end at part left h c =
      let n = length-append part (flush left) in
      flush_calm (at + length part) left (stands_split t at part (flush left) h).1
      (calm_at (at + length (part ++ flush left)) (at + length part + length (flush left)) (omega (arith, n)) c)

  sent_calm : (at : ℕ) (part : List Instr) (left : Bool) → BeginsCalm t at part → BeginsCalm t at (sent part left)
  sent_calm at part left b h c = b (stands_split t at part (flush left) h).0 (part_end at part left h c)

pub statements_begin_calm : StatementsBeginCalm
statements_begin_calm = record {
  statement = statement_calm;
  part = part_calm;
  statements = statements_calm;
  step = step_calm;
  inner_part = inner_part_calm;
  steps = steps_calm;
  sent = sent_calm;
}

pub parts_end_calm : PartsEndCalm
parts_end_calm = part_end

-- ---- branches

pub branches_are_calm : BranchesAreCalm
branches_are_calm t start r part false other_part h first second c =
    let behind = calm_at t (start + length (chosen start r part false other_part)) (start + 1 + length part) (omega arith) c in
    (forks r (start + 1 + length part) h.0 (first h.1 behind) behind, behind)
branches_are_calm t start r part true other_part h first second c =
    let other = start + 1 + length part + 1 in
    let two = other_part other in
    let jump = Jump (other + length two) in
    let n = length-append part (jump ∷ two) in
    let parts = stands_split t (start + 1) part (jump ∷ two) h.1 in
    let end = calm_at t (start + length (chosen start r part true other_part)) (other + length two) (omega (arith, n)) c in
    let behind = jumps (other + length two) parts.1.0 end in
    (forks r other h.0 (first parts.0 behind) (second other parts.1.1 end), behind)

pub loops_are_calm : LoopsAreCalm
loops_are_calm t head line r more body h begins c =
    let test = Mark line ∷ more in
    let start = head + length test + 1 in
    let part = body start in
    let last = start + length part in
    let fork = JumpIfZero r (last + 1) in
    let whole = append_assoc (test ++ fork ∷ []) part (Jump head ∷ []) in
    let first = stands_split t head ((test ++ fork ∷ []) ++ part) (Jump head ∷ []) h in
    let second = stands_split t head (test ++ fork ∷ []) part first.0 in
    let third = stands_split t head test (fork ∷ []) second.0 in
    let n1 = length-append test (fork ∷ []) in
    let n2 = length-append (test ++ fork ∷ []) part in
    let n3 = length-append ((test ++ fork ∷ []) ++ part) (Jump head ∷ []) in
    let end = calm_at t (head + length (looped head test r body)) (last + 1) (omega (arith, n1, n2, n3)) c in
    let jump = subst (λ k. IsAt t k (Jump head))
    (let e : head + length ((test ++ fork ∷ []) ++ part) ≡ last = omega (arith, n1, n2) in e) first.1.0 in
    let behind = jumps head jump (mark_calm t head line third.0.0) in
    let stands = subst (λ k. Stand t k part) (let e : head + length (test ++ fork ∷ []) ≡ start = omega (arith, n1) in e) second.1 in
    (forks r (last + 1) third.1.0 (begins stands behind) end, behind)

pub turns_are_calm : TurnsAreCalm
turns_are_calm t start line r more body h begins c =
    let set = Mark line ∷ more in
    let head = start + 1 in
    let turn = head + length set in
    let part = body turn in
    let turns = set ++ part in
    let end = head + length turns + 2 in
    let fork = JumpIfZero r end in
    let tail = fork ∷ Jump head ∷ [] in
    let n1 = length-append set part in
    let n2 = length-append turns tail in
    let first = stands_split t head turns tail h.1 in
    let second = stands_split t head set part first.0 in
    let begun = mark_calm t head line second.0.0 in
    let over = calm_at t (start + length (turned start r set body)) end (omega (arith, n1, n2)) c in
    let back = jumps head first.1.1.0 begun in
    let behind = calm_at t (head + length turns) (turn + length part) (omega (arith, n1)) (forks r end first.1.0 back over) in
    (forks r end h.0 begun over, begins second.1 behind, behind)

pub ranges_are_calm : RangesAreCalm
ranges_are_calm t start before body h begins c =
    let n1 = length-append before body in
    let n2 = length-append (before ++ body) (Leave ∷ []) in
    let first = stands_split t start (before ++ body) (Leave ∷ []) h in
    let second = stands_split t start before body first.0 in
    let end = calm_at t (start + length (before ++ body ++ (Leave ∷ []))) (start + length (before ++ body) + 1) (omega (arith, n2)) c in
    let behind = quiet Leave first.1.0 refl end in (
      begins second.1 (calm_at t (start + length (before ++ body)) (start + length before + length body) (omega (arith, n1)) behind),
      behind,
    )

flip_calm : (t : Run) (at : ℕ) (some : Bool) (part : ℕ → List Instr) → ((n : ℕ) → BeginsCalm t n (part n)) →
    BeginsCalm t at (flipped some at part)
flip_calm t at false part begins h c = calm_at t (at + 0) at (omega arith) c
flip_calm t at true part begins h c =
    quiet Flip h.0 refl
    (begins (at + 1) h.1 (calm_at t (at + length (flipped true at part)) (at + 1 + length (part (at + 1))) (omega arith) c))

pub masks_are_calm : MasksAreCalm
masks_are_calm t start test part some other_part h begins others c =
    let before = test ++ part in
    let other = flipped some (start + length before) other_part in
    let n1 = length-append test part in
    let n2 = length-append before other in
    let n3 = length-append (before ++ other) (Unmask ∷ []) in
    let first = stands_split t start (before ++ other) (Unmask ∷ []) h in
    let second = stands_split t start before other first.0 in
    let third = stands_split t start test part second.0 in
    let end = calm_at t (start + length (before ++ other ++ (Unmask ∷ []))) (start + length (before ++ other) + 1) (omega (arith, n3)) c in
    let behind = quiet Unmask first.1.0 refl end in
    let between = flip_calm t (start + length before) some other_part others second.1
    (calm_at t (start + length (before ++ other)) (start + length before + length other) (omega (arith, n2)) behind) in (
      begins third.1 (calm_at t (start + length before) (start + length test + length part) (omega (arith, n1)) between),
      between,
      behind,
    )

pub exits_are_calm : ExitsAreCalm
exits_are_calm t start before loop h c =
    let n1 = length-append before loop in
    let n2 = length-append (before ++ loop) (Unmask ∷ []) in
    let first = stands_split t start (before ++ loop) (Unmask ∷ []) h in
    let end = calm_at t (start + length (before ++ loop ++ (Unmask ∷ []))) (start + length (before ++ loop) + 1) (omega (arith, n2)) c in
    calm_at t (start + length (before ++ loop)) (start + length before + length loop) (omega (arith, n1)) (quiet Unmask first.1.0 refl end)
