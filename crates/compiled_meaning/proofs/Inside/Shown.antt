-- What a state shows of a program inside pardo stays where variables, locals and cells do.
use Rattle.std.proofs.Common.{◌≡◌, ℕ, ◌<◌, ◌≤◌, ℤ, pos, ◌+ℤ◌, None, Some, refl, sym, ap, ◌∙◌, subst, arith}
use Rattle.superstep_instructions.specs.declared.instr.Side.TheVariants.{Uniform, Private}
use Rattle.superstep_instructions.specs.declared.instr.Instr.TheVariants.{Mask, Flip, Unmask}
use Rattle.superstep_instructions.specs.Code.{SuperstepCode}
use Rattle.superstep_machine.specs.Parts.{Registers}
use Rattle.pram_check.specs.Checked.{Checked}
use Rattle.pram_check.specs.Bounded.{Names, names_of, with_locals}
use Rattle.pram_meaning.specs.Store.{State, View, seen, seen_by}
use Rattle.flat_machine.specs.Flat.{Flat, after_instr}
use Rattle.flat_stretches.specs.Applied.{applied, IsBare, AsksNone}
use Rattle.plain_form.specs.Registers.{variable, behind_variables, behind_locals}
use Rattle.compiled_formulas.specs.Environments.{IsFree, Shows}
use Rattle.compiled_formulas.specs.Inside.{ShowsInside}
use Rattle.compiled_formulas.proofs.Shown.{still_shows}
use Rattle.compiled_meaning.specs.Begins.{begun}
use Rattle.compiled_meaning.proofs.EachStatement.Marked.{begun_is}

-- other uniform registers with the same variables, and another memory with the same cells
also_outside : (n : Names) (s : View) (uniforms others : Registers) (memory other : ℕ → ℤ) →
    ((r : ℕ) → r < behind_variables n.uniforms → others r ≡ uniforms r) → n.locals ≡ None → ((c : ℕ) → other c ≡ memory c) →
    Shows Uniform n s uniforms uniforms memory → Shows Uniform n s others others other
also_outside n s uniforms others memory other same none cells h =
    let free : IsFree Uniform n (behind_variables n.uniforms) = (none, omega arith) in
    let k = still_shows n (behind_variables n.uniforms) Uniform free s uniforms uniforms others memory same h in
    record { nothing = k.nothing; variables = k.variables; indices = k.indices; locals = k.locals; cells = λ c. cells c ∙ k.cells c }

also_inside : (n : Names) (base locals : ℕ) (s : View) (uniforms others own now : Registers) (memory other : ℕ → ℤ) →
    ((r : ℕ) → r < behind_variables n.uniforms → others r ≡ uniforms r) → n.locals ≡ Some locals → behind_locals locals ≤ base →
    ((r : ℕ) → r < base → now r ≡ own r) → ((c : ℕ) → other c ≡ memory c) →
    Shows Private n s uniforms own memory → Shows Private n s others now other
also_inside n base locals s uniforms others own now memory other same is free stays cells h =
    let k = still_shows n base Private (locals, is, free) s uniforms own now memory stays h in
    record {
      nothing = k.nothing;
      variables = λ x l. same (variable x) (omega (arith, l)) ∙ k.variables x l;
      indices = k.indices;
      locals = k.locals;
      cells = λ c. cells c ∙ k.cells c;
    }

-- what stays of a state that shows a program's
pub record KeepsShown (p : Checked) (base : ℕ) (f g : Flat) : Type 0 where
  pub width : g.uniform.width ≡ f.uniform.width
  pub low : g.uniform.low ≡ f.uniform.low
  pub uniforms : (r : ℕ) → r < behind_variables p.uniforms → g.uniform.registers r ≡ f.uniform.registers r
  pub own : (v r : ℕ) → r < base → (g.own v).registers r ≡ (f.own v).registers r
  pub memory : (c : ℕ) → g.memory c ≡ f.memory c
  pub bare : IsBare g
  pub rests : AsksNone g

module _ (p : Checked) (locals : ℕ) (m : State) where
  pub still_inside : (base : ℕ) (f g : Flat) → behind_locals locals ≤ base → KeepsShown p base f g → ShowsInside p locals m f →
      ShowsInside p locals m g
  still_inside base f g free k s = record {
    width = k.width ∙ s.width;
    members = λ v l. ap (λ z. z +ℤ pos v) k.low ∙ s.members v (subst (λ n. v < n) k.width l);
    outside = also_outside (names_of p) (seen p m) f.uniform.registers g.uniform.registers f.memory g.memory k.uniforms refl k.memory
        s.outside;
    shows = λ v l. also_inside (with_locals locals (names_of p)) base locals (seen_by p m v) f.uniform.registers g.uniform.registers
        (f.own v).registers (g.own v).registers f.memory g.memory k.uniforms refl free (k.own v) k.memory
        (s.shows v (subst (λ n. v < n) k.width l));
    bare = k.bare;
    rests = k.rests;
  }

  -- whatever the number of statements
  pub counted_shows : (n : ℕ) (f : Flat) → ShowsInside p locals m f → ShowsInside p locals (record m { count = n }) f
  counted_shows n f s = record {
    width = s.width;
    members = s.members;
    outside = s.outside;
    shows = s.shows;
    bare = s.bare;
    rests = s.rests;
  }

  -- behind a mark
  pub begun_shows : (code : SuperstepCode) (line : ℕ) (f : Flat) → ShowsInside p locals m (applied code f) →
      ShowsInside p locals m (begun code line f)
  begun_shows code line f s =
      subst (ShowsInside p locals m) (sym (begun_is code line f))
      (record {
        width = s.width;
        members = s.members;
        outside = s.outside;
        shows = s.shows;
        bare = record { put = refl; held = λ c. refl };
        rests = (let n = s.rests in record { asks = n.asks; awaited = n.awaited; own_asks = n.own_asks; own_awaited = n.own_awaited });
      })

  -- behind instructions on masks
  module _ (code : SuperstepCode) (f : Flat) (s : ShowsInside p locals m f) where
    pub mask_shows : (r : ℕ) → ShowsInside p locals m (after_instr code (Mask r) f)
    mask_shows r = record {
      width = s.width;
      members = s.members;
      outside = s.outside;
      shows = s.shows;
      bare = (let b = s.bare in record { put = b.put; held = b.held });
      rests = (let n = s.rests in record { asks = n.asks; awaited = n.awaited; own_asks = n.own_asks; own_awaited = n.own_awaited });
    }

    pub flip_shows : ShowsInside p locals m (after_instr code Flip f)
    flip_shows = record {
      width = s.width;
      members = s.members;
      outside = s.outside;
      shows = s.shows;
      bare = (let b = s.bare in record { put = b.put; held = b.held });
      rests = (let n = s.rests in record { asks = n.asks; awaited = n.awaited; own_asks = n.own_asks; own_awaited = n.own_awaited });
    }

    pub unmask_shows : ShowsInside p locals m (after_instr code Unmask f)
    unmask_shows = record {
      width = s.width;
      members = s.members;
      outside = s.outside;
      shows = s.shows;
      bare = (let b = s.bare in record { put = b.put; held = b.held });
      rests = (let n = s.rests in record { asks = n.asks; awaited = n.awaited; own_asks = n.own_asks; own_awaited = n.own_awaited });
    }
