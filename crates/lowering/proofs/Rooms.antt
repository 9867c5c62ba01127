-- A program within bounds has room for the numbers of its code.
use Rattle.std.proofs.Common.{◌≡◌, ℕ, ◌+◌, ◌*◌, ◌<◌, ◌≤◌, ◌^◌, List, [], ◌∷◌, length, true, false, length-append, Option, Some, None, arith}
use Rattle.std.proofs.Common.{refl}
use Rattle.std.specs.Prelude.{MatchOption, slice_get}
use Rattle.std.proofs.lemmas.Option.{slice_get_within}
use Rattle.pram_model.specs.Layout.{SharedEntry}
use Rattle.superstep_instructions.specs.declared.instr.Instr.TheVariants.{Halt}
use Rattle.pram_names.specs.declared.body.Expression as body
use Rattle.pram_names.specs.declared.body.Expression.{Expression, Element', Prefix', Chain', Row_of-Link, end_of-Link, more_of-Link}
use Rattle.pram_names.specs.declared.body.Target.{Target}
use Rattle.pram_names.specs.declared.body.Target.TheVariants as target
use Rattle.pram_names.specs.declared.body.StepTarget.{StepTarget}
use Rattle.pram_names.specs.declared.body.StepTarget.TheVariants as inner
use Rattle.pram_names.specs.declared.body.Step as step
use Rattle.pram_names.specs.declared.body.Step.{Step, Row_of-Step, end_of-Step, more_of-Step}
use Rattle.pram_names.specs.declared.body.Statement.{Statement, Assign, Print, While', If', For', Pardo, Row_of-Statement, end_of-Statement}
use Rattle.pram_names.specs.declared.body.Statement.{more_of-Statement}
use Rattle.pram_check.specs.Checked.{Checked, IsResolved}
use Rattle.pram_check.specs.Bounded.{Names, names_of, with_locals, IsSingleCell, IsArray, IsNamed, AreNamed, IsSole, ArePair, IsInnerAssign}
use Rattle.pram_check.specs.Bounded.{IsStep, ArePartSteps, AreSteps, IsAssign, IsStatement, ArePartStatements, AreStatements, IsBounded}
use Rattle.pram_check.specs.Bounded.{nodes, link_nodes, inner_target_nodes, step_depth, part_step_depth, steps_depth}
use Rattle.pram_check.specs.Bounded.{step_size, part_step_size, steps_size, target_nodes, depth, part_depth, body_depth, size, part_size}
use Rattle.pram_check.specs.Bounded.{body_size}
use Rattle.plain_form.specs.Registers.{behind_turns, behind_locals, behind_variables}
use Rattle.plain_form.specs.Formulas.{Formula, Zero, Between, Pair, formula_of, chained}
use Rattle.plain_form.specs.Outside.{statements_code}
use Rattle.plain_form.proofs.TextWords.{code_fits}
use Rattle.plain_form.proofs.KeptReads.{reads_of}
use Rattle.verified_form.proofs.SmallSteps.{positions_of, local_count}
use Rattle.straight_lowering.specs.Room.{height, HasShortNames, IsRoomFor, IsAssignRoom, IsInnerAssignRoom}
use Rattle.lowering.specs.Room.{StepHasRoom, PartHasRoom, StepsHaveRoom, StatementHasRoom, BlockHasRoom, StatementsHaveRoom}

-- ---- how many registers of the stack

mutual
  height_of : (e : Expression) → height (formula_of e) ≤ nodes e
  height_of (body.Number n) = omega arith
  height_of (body.Uniform x) = omega arith
  height_of body.Index = omega arith
  height_of (body.Local x) = omega arith
  height_of (body.Cell a) = omega arith
  height_of (Element' a b e) = let h : height (formula_of e) ≤ nodes e = height_of e in omega (arith, h)
  height_of (Prefix' o b e) = let h : height (formula_of e) ≤ nodes e = height_of e in omega (arith, h)
  height_of (Chain' b e q links) =
      let h : height (formula_of e) ≤ nodes e = height_of e in
      let k : height (chained (formula_of e) links) ≤ height (formula_of e) + link_nodes links = height_of_chain (formula_of e) links in
      omega (arith, h, k)

  height_of_chain : (f : Formula) {n : _} (links : Row_of-Link n) → height (chained f links) ≤ height f + link_nodes links
  height_of_chain f end_of-Link = omega arith
  height_of_chain f (more_of-Link o e links) =
      let h : height (formula_of e) ≤ nodes e = height_of e in
      let k : height (chained (Between o f (formula_of e)) links) ≤ height f + height (formula_of e) + 1 + link_nodes links =
      height_of_chain (Between o f (formula_of e)) links in
      omega (arith, h, k)

-- ---- names

local_below : (n : Option ℕ) (x : ℕ) → MatchOption n ⊥ (λ k. x < k) → x < local_count n
local_below None x h = absurd h
local_below (Some n) x h = h

-- a declaration that is there
is_there : (layout : List SharedEntry) (a : ℕ) (found : Option SharedEntry) (P : SharedEntry → Type 0) → slice_get layout a ≡ found →
    MatchOption found ⊥ P → a < length layout
is_there layout a None P e h = absurd h
is_there layout a (Some x) P e h = slice_get_within layout a x e

module _ (s : Names) (few : s.uniforms + 1 ≤ 2 ^ 16) (fewer : local_count s.locals + 2 ≤ 2 ^ 16) (short : length s.layout ≤ 2 ^ 16) where
  cell_below : (a : ℕ) → IsSingleCell s a → a < 2 ^ 16
  cell_below a h = let k = is_there s.layout a (slice_get s.layout a) _ refl h in omega (arith, k, short)

  array_below : (a : ℕ) → IsArray s a → a < 2 ^ 16
  array_below a h = let k = is_there s.layout a (slice_get s.layout a) _ refl h in omega (arith, k, short)

  mutual
    short_names : (e : Expression) → IsNamed s e → HasShortNames (formula_of e)
    short_names (body.Number n) h = tt
    short_names (body.Uniform x) h = omega (arith, h, few)
    short_names body.Index h = tt
    short_names (body.Local x) h = let k : x < local_count s.locals = local_below s.locals x h in omega (arith, k, fewer)
    short_names (body.Cell a) h = (cell_below a h, tt)
    short_names (Element' a b e) h = (array_below a h.0, short_names e h.1)
    short_names (Prefix' o b e) h = short_names e h
    short_names (Chain' b e q links) h = short_chain_names (formula_of e) links (short_names e h.0) h.1

    short_chain_names : (f : Formula) {n : _} (links : Row_of-Link n) → HasShortNames f → AreNamed s links →
        HasShortNames (chained f links)
    short_chain_names f end_of-Link h k = h
    short_chain_names f (more_of-Link o e links) h k =
        short_chain_names (Between o f (formula_of e)) links (h, short_names e k.0) k.1

  -- ---- expressions

  sole_room : (base : ℕ) (e : Expression) → IsSole s e → base + nodes e + 10 ≤ 2 ^ 16 → IsRoomFor (formula_of e) base
  sole_room base e h m =
      let r = reads_of e in let few = h.1 in let k = height_of e in let p = positions_of e in
      record {
        names = short_names e h.0;
        reads = omega (arith, r, few, m);
        stack = omega (arith, r, few, m, k);
        positions = omega (arith, p, m);
      }

  -- behind the subscript of a single cell
  cell_room : (base : ℕ) (e : Expression) → IsSole s e → base + nodes e + 11 ≤ 2 ^ 16 → IsRoomFor (Pair Zero (formula_of e)) base
  cell_room base e h m =
      let r = reads_of e in let few = h.1 in let k = height_of e in let p = positions_of e in
      record {
        names = (tt, short_names e h.0);
        reads = omega (arith, r, few, m);
        stack = omega (arith, r, few, m, k);
        positions = omega (arith, p, m);
      }

  pair_room : (base : ℕ) (e f : Expression) → ArePair s e f → base + nodes e + nodes f + 11 ≤ 2 ^ 16 →
      IsRoomFor (Pair (formula_of e) (formula_of f)) base
  pair_room base e f h m =
      let r = reads_of e in let q = reads_of f in let few = h.2 in
      let k = height_of e in let n = height_of f in let p = positions_of e in let o = positions_of f in
      record {
        names = (short_names e h.0, short_names f h.1);
        reads = omega (arith, r, q, few, m);
        stack = omega (arith, r, q, few, m, k, n);
        positions = omega (arith, p, o, m);
      }

  -- ---- inside pardo

  inner_assign_room : (base : ℕ) (x : StepTarget) (e : Expression) → IsInnerAssign s x e →
      base + inner_target_nodes x + nodes e + 10 ≤ 2 ^ 16 → IsInnerAssignRoom x (formula_of e) base
  inner_assign_room base (inner.Local x) e h m =
      let k : x < local_count s.locals = local_below s.locals x h.0 in
      (omega (arith, k, fewer), sole_room base e h.1 (omega (arith, m)))
  inner_assign_room base (inner.Cell a) e h m = (cell_below a h.0, cell_room base e h.1 (omega (arith, m)))
  inner_assign_room base (inner.Element a i) e h m = (array_below a h.0, pair_room base i e h.1 (omega (arith, m)))

  mutual
    step_room : (base : ℕ) (x : Step) → IsStep s x → base + step_depth x + step_size x + 10 ≤ 2 ^ 16 → StepHasRoom base x
    step_room base (step.Assign here x e) h m = inner_assign_room base x e h (omega (arith, m))
    step_room base (step.If' here e q a r b) h m =
        (sole_room base e h.0 (omega (arith, m)), part_room base a h.1 (omega (arith, m)), part_room base b h.2 (omega (arith, m)))
    step_room base (step.While' here e q a) h m =
        (omega (arith, m), sole_room (base + 1) e h.0 (omega (arith, m)), part_room (base + 1) a h.1 (omega (arith, m)))

    part_room : (base : ℕ) {k : _} (xs : Row_of-Step k) → ArePartSteps s xs →
        base + part_step_depth xs + part_step_size xs + 10 ≤ 2 ^ 16 → PartHasRoom base xs
    part_room base end_of-Step h m = tt
    part_room base (more_of-Step x xs) h m = (step_room base x h.0 (omega (arith, m)), part_room base xs h.1 (omega (arith, m)))

  steps_room : (base : ℕ) (xs : List Step) → AreSteps s xs → base + steps_depth xs + steps_size xs + 10 ≤ 2 ^ 16 →
      StepsHaveRoom base xs
  steps_room base [] h m = tt
  steps_room base (x ∷ xs) h m = (step_room base x h.0 (omega (arith, m)), steps_room base xs h.1 (omega (arith, m)))

-- ---- outside pardo

module _ (s : Names) (few : s.uniforms + 1 ≤ 2 ^ 16) (fewer : local_count s.locals + 2 ≤ 2 ^ 16) (short : length s.layout ≤ 2 ^ 16) where
  assign_room : (free : ℕ) (x : Target) (e : Expression) → IsAssign s x e → free + target_nodes x + nodes e + 10 ≤ 2 ^ 16 →
      IsAssignRoom x (formula_of e) free
  assign_room free (target.Uniform x) e h m = let k = h.0 in (
    omega (arith, k, few),
    sole_room s few fewer short free e h.1
        (omega (arith, m)),
  )
  assign_room free (target.Cell a) e h m = (cell_below s few fewer short a h.0, cell_room s few fewer short free e h.1 (omega (arith, m)))
  assign_room free (target.Element a i) e h m =
      (array_below s few fewer short a h.0, pair_room s few fewer short free i e h.1 (omega (arith, m)))

  mutual
    statement_room : (free : ℕ) (x : Statement) → IsStatement s x → free + 3 * depth x + size x + 10 ≤ 2 ^ 16 → StatementHasRoom free x
    statement_room free (Assign here x e) h m = assign_room free x e h (omega (arith, m))
    statement_room free (Print here e) h m = sole_room s few fewer short free e h (omega (arith, m))
    statement_room free (While' here e q a) h m =
        (sole_room s few fewer short free e h.0 (omega (arith, m)), block_room free a h.1 (omega (arith, m)))
    statement_room free (If' here e q a r b) h m = (
      sole_room s few fewer short free e h.0 (omega (arith, m)),
      block_room free a h.1 (omega (arith, m)),
      block_room free b h.2 (omega (arith, m)),
    )
    statement_room free (For' here x e f q a) h m =
        let k = h.0 in (
          omega (arith, m),
          omega (arith, k, few),
          pair_room s few fewer short (behind_turns free) e f h.1 (omega (arith, m)),
          block_room (behind_turns free) a h.2 (omega (arith, m)),
        )
    statement_room free (Pardo here e f count body) h m = (
      pair_room s few fewer short free e f h.0 (omega (arith, m)),
      omega (arith, m),
      steps_room (with_locals count s) few (omega (arith, m)) short (behind_locals count) body.items h.1 (omega (arith, m)),
    )

    block_room : (free : ℕ) {k : _} (xs : Row_of-Statement k) → ArePartStatements s xs →
        free + 3 * part_depth xs + part_size xs + 10 ≤ 2 ^ 16 → BlockHasRoom free xs
    block_room free end_of-Statement h m = tt
    block_room free (more_of-Statement x xs) h m =
        (statement_room free x h.0 (omega (arith, m)), block_room free xs h.1 (omega (arith, m)))

  statements_room : (free : ℕ) (xs : List Statement) → AreStatements s xs → free + 3 * body_depth xs + body_size xs + 10 ≤ 2 ^ 16 →
      StatementsHaveRoom free xs
  statements_room free [] h m = tt
  statements_room free (x ∷ xs) h m = (statement_room free x h.0 (omega (arith, m)), statements_room free xs h.1 (omega (arith, m)))

pub program_has_room : (p : Checked) → IsBounded p → StatementsHaveRoom (behind_variables p.uniforms) p.body
program_has_room p bounded =
    let small = bounded.small in let tokens = bounded.few_tokens in let deep = bounded.depth in
    statements_room (names_of p) (omega (arith, small, tokens)) (omega arith) (omega (arith, small, tokens))
    (behind_variables p.uniforms) p.body bounded.body (omega (arith, small, tokens, deep))

-- with a place for its `Halt`
pub program_is_short : (p : Checked) → IsResolved p → IsBounded p →
    length (statements_code true (behind_variables p.uniforms) 0 false p.body) < 2 ^ 16
program_is_short p resolved bounded =
    let body = statements_code true (behind_variables p.uniforms) 0 false p.body in
    let fits = code_fits true p resolved bounded.few_tokens in
    let whole = length-append body (Halt ∷ []) in
    omega (arith, fits, whole)
