-- A value for a local: those of the set get it in its register, and in the meaning.
use Rattle.std.proofs.Common.{◌≡◌, ℕ, ◌+◌, ◌<◌, ◌≤◌, List, [], ◌∷◌, length, Bool, true, false, ℤ, pos, refl, sym, ap, ◌∙◌, subst}
use Rattle.std.proofs.Common.{arith}
use Rattle.std.proofs.Common.{⊎_elim}
use Rattle.std.specs.Prelude.{if◌then◌else◌}
use Rattle.std.specs.List.{range_with_len}
use Rattle.std.proofs.lemmas.Bool.Decides.{eqb_tells}
use Rattle.std.proofs.lemmas.Grind.{get_or-set_at}
use Rattle.std.proofs.lemmas.List.{get_or-set_other}
use Rattle.superstep_instructions.specs.declared.instr.Side.TheVariants.{Private}
use Rattle.superstep_instructions.specs.declared.instr.Instr.{Instr}
use Rattle.superstep_instructions.specs.declared.instr.Instr.TheVariants.{Copy}
use Rattle.superstep_machine.specs.Parts.{Registers, PrivatePart, set_register}
use Rattle.superstep_machine.specs.Steps.{under, is_active}
use Rattle.pram_names.specs.declared.body.Expression.{Expression}
use Rattle.pram_check.specs.Checked.{Checked}
use Rattle.pram_check.specs.Bounded as bounded
use Rattle.pram_check.specs.Bounded.{Names, names_of, with_locals}
use Rattle.pram_meaning.specs.Store.{State, Member, View, member_of, seen_by}
use Rattle.pram_meaning.specs.Values.{HasValues}
use Rattle.flat_machine.specs.Flat.{Flat, after_instr}
use Rattle.flat_stretches.specs.Along.{Run}
use Rattle.flat_stretches.specs.Frames.{Frame, StandsIn, present}
use Rattle.flat_stretches.proofs.Below.{set_below}
use Rattle.statement_evaluation.specs.Terms.{term_of}
use Rattle.statement_evaluation.specs.Whole.{value}
use Rattle.plain_form.specs.Formulas.{Formula, formula_of}
use Rattle.plain_form.specs.Registers.{zero_register, index, local, behind_locals}
use Rattle.verified_form.specs.Straight.{getting}
use Rattle.compiled_formulas.specs.Environments.{Shows}
use Rattle.compiled_formulas.specs.Inside.{ShowsInside}
use Rattle.compiled_meaning.specs.Begins.{done}
use Rattle.compiled_meaning.specs.Between.{IsRunOf}
use Rattle.compiled_meaning.specs.Within.{IsWithin}
use Rattle.compiled_meaning.proofs.Inside.Attempted.{one_more}
use Rattle.compiled_meaning.proofs.Inside.Evaluated.{end, end_shows, end_left, end_stands, done_is, names, register, gives}
use Rattle.compiled_meaning.proofs.Inside.Passed.{Leaves, IsNext}
use Rattle.compiled_meaning.proofs.Inside.Teams.{set_in, changed, length_set_in, excluded, included, locals_kept, locals_of_member}
use Rattle.compiled_formulas.proofs.Operations.{set_here, set_there}

-- what a processor sees, as a member
abbrev view_of : Checked → State → Member → View
view_of p m g = record { layout = p.layout; uniforms = m.uniforms; cells = m.cells; index = g.index; locals = g.locals }

local_shows : (n : Names) (p : Checked) (m : State) (g : Member) (uniforms own : Registers) (memory : ℕ → ℤ) (x locals : ℕ) (z : ℤ) →
    length g.locals ≡ locals → x < locals → Shows Private n (view_of p m g) uniforms own memory →
    Shows Private n (view_of p m (changed x z g)) uniforms (set_register (local x) z own) memory
local_shows n p m g uniforms own memory x locals z long l h = record {
  nothing = set_below (local x) (local x) z own zero_register (omega arith) (omega arith) ∙ h.nothing;
  variables = h.variables;
  indices = λ i. set_below (local x) (local x) z own index (omega arith) (omega arith) ∙ h.indices i;
  locals = λ y k.
      ⊎_elim
      (λ e. ap (λ q. set_register (local x) z own (local q)) (sym e.1) ∙ set_here (local x) z own
      ∙ sym (get_or-set_at g.locals x y z (pos 0) (sym e.1) (omega (arith, long, l))))
      (λ e. set_there (local x) z own (local y) (λ q. e.1 (omega (arith, q))) ∙ h.locals y k
      ∙ sym (get_or-set_other g.locals x y z (pos 0) (λ q. e.1 (sym q)))) (eqb_tells x y);
  cells = h.cells;
}

-- a processor that sets a register where it is active
abbrev pub set_by : ℕ → ℤ → PrivatePart → PrivatePart
set_by d z y = record y { registers = set_register d z y.registers }

pub record SameButRegisters (x y : PrivatePart) : Type 0 where
  pub masks : y.masks ≡ x.masks
  pub asks : y.asks ≡ x.asks
  pub awaited : y.awaited ≡ x.awaited

pub either_same : (b : Bool) (d : ℕ) (z : ℤ) (y : PrivatePart) → SameButRegisters y (if b then set_by d z y else y)
either_same true d z y = record { masks = refl; asks = refl; awaited = refl }
either_same false d z y = record { masks = refl; asks = refl; awaited = refl }

pub either_other : (b : Bool) (d : ℕ) (z : ℤ) (y : PrivatePart) (r : ℕ) → (d ≡ r → ⊥) →
    (let w : PrivatePart = if b then set_by d z y else y in w.registers r) ≡ y.registers r
either_other true d z y r h = set_there d z y.registers r h
either_other false d z y r h = refl

module _ (p : Checked) (t : Run) (of : IsRunOf p t) (locals base : ℕ) (free : behind_locals locals ≤ base) (fr : Frame) (held : Bool)
    (m : State) (place spent : ℕ) (f : Flat) (w : IsWithin p t locals base fr held m place spent f) (line : ℕ) (e : Expression)
    (named : bounded.IsNamed (with_locals locals (names_of p)) e) (keep : Bool) (x : ℕ) (l : x < locals) where
  abbrev formula : Formula
  formula = formula_of e

  abbrev stretch : List Instr
  stretch = getting keep held Private base formula (local x)

  abbrev last : Flat
  last = end p t of locals base free fr held m place spent f w line formula
      (names p t of locals base free fr held m place spent f w line e named)

  abbrev r : ℕ
  r = register p t of locals base free fr held m place spent f w line e named

  -- the values, and the state with them
  abbrev pub values : ℕ → ℤ
  values v = value (seen_by p m v) (term_of e)

  abbrev pub with_values : State
  with_values = record (one_more m) { team = set_in x values m.team (present fr) }

  abbrev copied : Flat
  copied = after_instr t.code (Copy Private (local x) r) last

  pub done_copied : done t.code line stretch f ≡ copied
  done_copied = done_is p t of locals base free fr held m place spent f w line formula
      (names p t of locals base free fr held m place spent f w line e named) keep held (Copy Private (local x) r ∷ [])

  shown : ShowsInside p locals m last
  shown = end_shows p t of locals base free fr held m place spent f w line formula
      (names p t of locals base free fr held m place spent f w line e named)

  stands : StandsIn (behind_locals locals) base fr last
  stands = end_stands p t of locals base free fr held m place spent f w line formula
      (names p t of locals base free fr held m place spent f w line e named)

  own_is : (v : ℕ) → SameButRegisters (last.own v) (copied.own v)
  own_is v = either_same (is_active (last.own v)) (local x) ((last.own v).registers r) (last.own v)

  -- ---- one processor

  module _ (v : ℕ) (k : v < last.uniform.width) where
    in_team : v < length m.team
    in_team = let s = shown in subst (λ n. v < n) s.width k

    in_frame : v < fr.width
    in_frame = let s = stands in subst (λ n. v < n) s.width k

    -- with the set as a test
    member_now : (b : Bool) → under (fr.masks v) ≡ b →
        member_of (set_in x values m.team (present fr)) v ≡ (if b then changed x (values v) (member_of m.team v) else member_of m.team v)
    member_now true a =
        included x values (λ v. under (fr.masks v)) fr.width 0 v m.team a (omega arith) (let q = in_frame in omega (arith, q)) in_team
    member_now false a = excluded x values (λ v. under (fr.masks v)) (range_with_len 0 fr.width) v m.team a

    active_is : is_active (last.own v) ≡ under (fr.masks v)
    active_is = let s = stands in ap under (s.masks v)

    own_now : (b : Bool) → under (fr.masks v) ≡ b →
        (copied.own v).registers ≡ (if b then set_register (local x) (values v) (last.own v).registers else (last.own v).registers)
    own_now true a =
        (λ i. let y : PrivatePart =
        if (active_is ∙ a) i then set_by (local x) ((last.own v).registers r) (last.own v) else last.own v in y.registers)
        ∙ (λ i. set_register (local x)
        (gives p t of locals base free fr held m place spent f w line e named v in_frame a i) (last.own v).registers)
    own_now false a =
        λ i. let y : PrivatePart =
        if (active_is ∙ a) i then set_by (local x) ((last.own v).registers r) (last.own v) else last.own v in y.registers

    index_now : (member_of (set_in x values m.team (present fr)) v).index ≡ (member_of m.team v).index
    index_now = go (under (fr.masks v)) refl
      where
        go : (b : Bool) → under (fr.masks v) ≡ b →
            (member_of (set_in x values m.team (present fr)) v).index ≡ (member_of m.team v).index
        go true a = ap (λ (g : Member). g.index) (member_now true a)
        go false a = ap (λ (g : Member). g.index) (member_now false a)

    shows_now : Shows Private (with_locals locals (names_of p)) (seen_by p with_values v) last.uniform.registers (copied.own v).registers
        last.memory
    shows_now = go (under (fr.masks v)) refl
      where
        go : (b : Bool) → under (fr.masks v) ≡ b →
            Shows Private (with_locals locals (names_of p))
            (view_of p m (member_of (set_in x values m.team (present fr)) v)) last.uniform.registers (copied.own v).registers last.memory
        go true a =
            subst (λ (q : Registers). Shows Private (with_locals locals (names_of p))
            (view_of p m (member_of (set_in x values m.team (present fr)) v)) last.uniform.registers q last.memory) (sym (own_now true a))
            (subst (λ (g : Member). Shows Private (with_locals locals (names_of p)) (view_of p m g) last.uniform.registers
            (set_register (local x) (values v) (last.own v).registers) last.memory) (sym (member_now true a))
            (local_shows (with_locals locals (names_of p)) p m (member_of m.team v) last.uniform.registers (last.own v).registers
            last.memory
            x locals (values v) (locals_of_member locals m.team v w.locals_of in_team) l
            (let s = shown in s.shows v k)))
        go false a =
            subst (λ (q : Registers). Shows Private (with_locals locals (names_of p))
            (view_of p m (member_of (set_in x values m.team (present fr)) v)) last.uniform.registers q last.memory) (sym (own_now false a))
            (subst (λ (g : Member). Shows Private (with_locals locals (names_of p)) (view_of p m g) last.uniform.registers
            (last.own v).registers last.memory) (sym (member_now false a)) (let s = shown in s.shows v k))

  -- ---- all of them

  copied_shows : ShowsInside p locals with_values copied
  copied_shows =
      let s = shown in
      let o = s.outside in
      let n = s.rests in
      let b = s.bare in
      record {
        width = s.width ∙ sym (length_set_in x values (present fr) m.team);
        members = λ v k. s.members v k ∙ sym (index_now v k);
        outside = record {
          nothing = o.nothing;
          variables = o.variables;
          indices = o.indices;
          locals = o.locals;
          cells = o.cells;
        };
        shows = shows_now;
        bare = record { put = b.put; held = b.held };
        rests = record {
          asks = n.asks;
          awaited = n.awaited;
          own_asks = λ v. (own_is v).asks ∙ n.own_asks v;
          own_awaited = λ v. (own_is v).awaited ∙ n.own_awaited v;
        };
      }

  copied_stands : StandsIn (behind_locals locals) base fr copied
  copied_stands =
      let s = stands in record {
        width = s.width;
        masks = λ v. (own_is v).masks ∙ s.masks v;
        flags = λ v q a b.
            either_other (is_active (last.own v)) (local x) ((last.own v).registers r) (last.own v) q (λ i. omega (arith, a, i, l))
            ∙ s.flags v q a b;
      }

  pub leaves_copied : (vote : ℕ) → Leaves p t locals base vote fr line stretch f with_values
  leaves_copied vote =
      let k = end_left p t of locals base free fr held m place spent f w line formula
      (names p t of locals base free fr held m place spent f w line e named) in
      let none = k 0 in
      record {
        count = ap (λ (g : Flat). g.uniform.count) done_copied ∙ none.count;
        output = ap (λ (g : Flat). g.uniform.output) done_copied ∙ none.output;
        registers = λ q b. ap (λ (g : Flat). g.uniform.registers q) done_copied ∙ (let a = k (q + 1) in a.registers q (omega arith));
        shows = subst (ShowsInside p locals with_values) (sym done_copied) copied_shows;
        stands = subst (StandsIn (behind_locals locals) base fr) (sym done_copied) copied_stands;
      }

  pub next_copied : HasValues with_values → IsNext p locals m with_values
  next_copied h =
      let s = w.sizes in record {
        count = refl;
        output = refl;
        sizes = record { uniforms = s.uniforms; cells = s.cells };
        locals_of = locals_kept locals x values (present fr) m.team w.locals_of;
        values = h;
      }
