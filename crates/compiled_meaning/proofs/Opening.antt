-- Where a run of a program's code begins, it shows the program's first state.
use Rattle.std.proofs.Common.{◌≡◌, ℕ, zero, suc, ◌+◌, ◌-◌, ◌≤◌, List, [], ◌∷◌, ◌++◌, length, replicate, get_or, ℤ, pos, false, refl, sym}
use Rattle.std.proofs.Common.{subst, arith, slice_get, Some}
use Rattle.std.proofs.lemmas.List.{length-replicate, length-append}
use Rattle.pram_model.specs.Layout.{total_size}
use Rattle.superstep_instructions.specs.declared.instr.Instr.{Instr}
use Rattle.pram_check.specs.Checked.{Checked}
use Rattle.pram_meaning.specs.Outcome as meaning
use Rattle.pram_meaning.specs.Values.{HasValues}
use Rattle.pram_meaning.proofs.SoundValues.{all_append, zeros_are}
use Rattle.pram_meaning.specs.Values.{IsValue}
use Rattle.flat_machine.specs.Flat as flat
use Rattle.flat_machine.specs.Flat.{Flat}
use Rattle.flat_stretches.specs.Along.{Run}
use Rattle.flat_stretches.specs.Folds.{Stand}
use Rattle.flat_stretches.proofs.Along.{runs_begin}
use Rattle.flat_stretches.proofs.Applied.{bare_is_applied}
use Rattle.flat_stretches.proofs.Statements.{runs_begin_at_rest}
use Rattle.compiled_formulas.specs.Outside.{ShowsOutside}
use Rattle.compiled_meaning.specs.Between.{HasSizes}
use Rattle.compiled_meaning.specs.Without.{IsWithout}
use Rattle.compiled_meaning.specs.PlainForm.{IsInputFor}

-- ---- what stands in a code

stands_here : (t : Run) (k : ℕ) (is : List Instr) →
    ((j : ℕ) (i : Instr) → slice_get is j ≡ Some i → slice_get t.code.instructions (k + j) ≡ Some i) → Stand t k is
stands_here t k [] h = tt
stands_here t k (i ∷ is) h = (
  subst (λ n. slice_get t.code.instructions n ≡ Some i) (let e : k + 0 ≡ k = omega arith in e) (h 0 i refl),
  stands_here t (k + 1) is (λ j x e. subst (λ n. slice_get t.code.instructions n ≡ Some x)
      (let e : k + suc j ≡ k + 1 + j = omega arith in e) (h (suc j) x e)),
)

-- all of it does, from its beginning on
pub stands_all : (t : Run) → Stand t 0 t.code.instructions
stands_all t = stands_here t 0 t.code.instructions (λ j i e. subst (λ n. slice_get t.code.instructions n ≡ Some i)
    (let h : j ≡ 0 + j = omega arith in h) e)

-- ---- lists of zeros

zeros_have : (n c : ℕ) → get_or (replicate n (pos 0)) c (pos 0) ≡ pos 0
zeros_have zero c = refl
zeros_have (suc n) zero = refl
zeros_have (suc n) (suc c) = zeros_have n c

-- behind the input the cells are 0
padded : (input : List ℤ) (n c : ℕ) → get_or input c (pos 0) ≡ get_or (input ++ replicate n (pos 0)) c (pos 0)
padded [] n c = sym (zeros_have n c)
padded (z ∷ zs) n zero = refl
padded (z ∷ zs) n (suc c) = padded zs n c

padded_length : (input : List ℤ) (n : ℕ) → length input ≤ n → length (input ++ replicate (n - length input) (pos 0)) ≡ n
padded_length input n few =
    let a : length (input ++ replicate (n - length input) (pos 0)) ≡ length input + length (replicate (n - length input) (pos 0)) =
    length-append input (replicate (n - length input) (pos 0)) in
    let b : length (replicate (n - length input) (pos 0)) ≡ n - length input = length-replicate (n - length input) (pos 0) in
    omega (arith, a, b, few)

-- ---- the first state

module _ (p : Checked) (t : Run) (of : IsInputFor p t.input) where
  shows_opening : ShowsOutside p (meaning.opening p t.input) (flat.opening t.input)
  shows_opening = record {
    shows = record {
      nothing = refl;
      variables = λ x k. sym (zeros_have p.uniforms x);
      indices = λ i. refl;
      locals = λ x i. absurd i;
      cells = λ c. padded t.input (total_size p.layout - length t.input) c;
    };
    bare = (runs_begin_at_rest t.code t.input).bare;
    rests = (runs_begin_at_rest t.code t.input).rests;
  }

  has_sizes : HasSizes p (meaning.opening p t.input)
  has_sizes = record {
    uniforms = length-replicate p.uniforms (pos 0);
    cells = padded_length t.input (total_size p.layout) of.few;
  }

  has_values : HasValues (meaning.opening p t.input)
  has_values = record {
    output = tt;
    uniforms = zeros_are p.uniforms;
    cells = all_append IsValue t.input (replicate (total_size p.layout - length t.input) (pos 0)) of.values
        (zeros_are (total_size p.layout - length t.input));
    team = tt;
  }

  pub begins : IsWithout p t false (meaning.opening p t.input) 0 0 (flat.opening t.input)
  begins = record {
    between = record {
      comes = runs_begin t;
      told = (runs_begin_at_rest t.code t.input).told;
      holds = λ e. (runs_begin_at_rest t.code t.input).bare;
      count = refl;
      within = let e : 0 ≤ t.bound = omega arith in e;
      output = refl;
    };
    shows = subst (λ (g : Flat). ShowsOutside p (meaning.opening p t.input) g)
        (sym (bare_is_applied t.code (flat.opening t.input) (runs_begin_at_rest t.code t.input).bare)) shows_opening;
    sizes = has_sizes;
    values = has_values;
  }
