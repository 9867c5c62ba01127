-- What stands around the reads of a formula, where each read has its value already: its register gets the value, and what is wrong is
-- noted by position.
use Rattle.std.proofs.Common.{◌≡◌, ℕ, ◌+◌, ◌<◌, ◌≤◌, List, ◌++◌, Option, None, ℤ, refl, ap, ◌∙◌, arith}
use Rattle.pram_model.specs.Layout.{cell_of}
use Rattle.pram_values.specs.declared.kind.Kind.{Kind}
use Rattle.pram_values.specs.declared.place.Place.{Place}
use Rattle.superstep_instructions.specs.declared.instr.Side.{Side}
use Rattle.superstep_instructions.specs.declared.instr.Side.TheVariants.{Uniform, Private}
use Rattle.superstep_instructions.specs.declared.instr.Instr.{Instr}
use Rattle.superstep_machine.specs.declared.key.Key.{Key}
use Rattle.superstep_machine.specs.Keys.{least}
use Rattle.superstep_machine.specs.Parts.{Registers}
use Rattle.superstep_machine.specs.Results.{or_zero, kind_of, missing}
use Rattle.pram_check.specs.Bounded.{Names}
use Rattle.pram_meaning.specs.Operation.{operate, operate_before}
use Rattle.pram_meaning.specs.Store.{View}
use Rattle.statement_evaluation.specs.Whole.{value}
use Rattle.statement_evaluation.specs.Noted.{Heading, note_key}
use Rattle.plain_form.specs.Formulas.{Formula, Zero, Number, Variable, Index, Local, Read, Before, Between, Pair, reads, positions, nesting}
use Rattle.plain_form.specs.Regions.{place, before_code, between_code, region}
use Rattle.compiled_formulas.specs.Terms.{term}
use Rattle.compiled_formulas.specs.Environments.{IsNamed, IsFree, uniform_ones, Shows}
use Rattle.compiled_formulas.proofs.Lone.{moves, moves_join, wrongs, wrongs_join}
use Rattle.compiled_formulas.proofs.Levels.{around}
use Rattle.compiled_formulas.proofs.Operations.{set_here, set_there, before_value, before_stays, before_wrong}
use Rattle.compiled_formulas.proofs.Operations.{between_value, between_stays, between_wrong}
use Rattle.compiled_formulas.proofs.Shown.{still_shows, place_low}

-- what is wrong at the last position of a formula
abbrev pub kind_at : View → Formula → Option Kind
kind_at s (Read a f) = missing (cell_of s.layout a (value s (term f)))
kind_at s (Before o f) = kind_of (operate_before o (value s (term f)))
kind_at s (Between o f g) = kind_of (operate o (value s (term f)) (value s (term g)))
kind_at s f = None

-- as a key
abbrev pub own_key_at : Heading → Place → View → ℕ → Formula → Option Key
own_key_at h at s q f = note_key h q at (kind_at s f)

-- the reads below a level have their values, in their registers from t on
abbrev pub AreRead : View → ℕ → Formula → ℕ → Registers → Type 0
AreRead s l Zero t r = Unit {0}
AreRead s l (Number z) t r = Unit {0}
AreRead s l (Variable x) t r = Unit {0}
AreRead s l Index t r = Unit {0}
AreRead s l (Local x) t r = Unit {0}
AreRead s l (Read a f) t r = AreRead s l f t r × (nesting f < l → r (t + reads f) ≡ value s (term (Read a f)))
AreRead s l (Before o f) t r = AreRead s l f t r
AreRead s l (Between o f g) t r = AreRead s l f t r × AreRead s l g (t + reads f) r
AreRead s l (Pair f g) t r = AreRead s l f t r × AreRead s l g (t + reads f) r

-- they keep them where these registers stay
pub still_read : (s : View) (l : ℕ) (f : Formula) (t : ℕ) (r u : Registers) → ((x : ℕ) → t ≤ x → x < t + reads f → u x ≡ r x) →
    AreRead s l f t r → AreRead s l f t u
still_read s l Zero t r u same h = tt
still_read s l (Number z) t r u same h = tt
still_read s l (Variable x) t r u same h = tt
still_read s l Index t r u same h = tt
still_read s l (Local x) t r u same h = tt
still_read s l (Read a f) t r u same h = (
  still_read s l f t r u (λ x low high. same x low (omega (arith, high))) h.0,
  λ k. same (t + reads f) (omega arith) (omega arith) ∙ h.1 k,
)
still_read s l (Before o f) t r u same h = still_read s l f t r u same h
still_read s l (Between o f g) t r u same h = (
  still_read s l f t r u (λ x low high. same x low (omega (arith, high))) h.0,
  still_read s l g (t + reads f) r u (λ x low high. same x (omega (arith, low)) (omega (arith, high))) h.1,
)
still_read s l (Pair f g) t r u same h = (
  still_read s l f t r u (λ x low high. same x low (omega (arith, high))) h.0,
  still_read s l g (t + reads f) r u (λ x low high. same x (omega (arith, low)) (omega (arith, high))) h.1,
)

module _ (side : Side) (n : Names) (base : ℕ) (free : IsFree side n base) (s : View) (uniforms : Registers) where
  abbrev run : List Instr → Registers → Registers
  run = moves s.layout uniforms

  -- registers before the stack stay
  pub region_stays : (f : Formula) (t b q : ℕ) (r : Registers) (x : ℕ) → x < b → run (region side f t b q) r x ≡ r x
  region_stays Zero t b q r x l = refl
  region_stays (Number z) t b q r x l = set_there b z r x (λ e. omega (arith, l, e))
  region_stays (Variable y) t b q r x l = go side
    where
      go : (side : Side) → run (region side (Variable y) t b q) r x ≡ r x
      go Uniform = refl
      go Private = set_there b (uniforms (1 + y)) r x (λ e. omega (arith, l, e))
  region_stays Index t b q r x l = refl
  region_stays (Local y) t b q r x l = refl
  region_stays (Read a f) t b q r x l = refl
  region_stays (Before o f) t b q r x l =
      let xs = region side f t b q in
      let u = run xs r in
      (λ i. moves_join s.layout uniforms xs (before_code side o b (place side f t b) (q + positions f + 1)) r i x)
      ∙ before_stays s.layout uniforms side b o (place side f t b) (q + positions f + 1) u x (λ e. omega (arith, l, e))
      ∙ region_stays f t b q r x l
  region_stays (Between o f g) t b q r x l =
      let xs = region side f t b q in
      let ys = region side g (t + reads f) (b + 1) (q + positions f) in
      let d = place side f t b in
      let e = place side g (t + reads f) (b + 1) in
      let zs = between_code side o b d e (q + positions f + positions g + 1) in
      let u = run xs r in
      (λ i. (moves_join s.layout uniforms xs (ys ++ zs) r ∙ moves_join s.layout uniforms ys zs u) i x)
      ∙ between_stays s.layout uniforms side b o d e (q + positions f + positions g + 1) (run ys u) x (λ e. omega (arith, l, e))
      ∙ region_stays g (t + reads f) (b + 1) (q + positions f) u x (omega (arith, l)) ∙ region_stays f t b q r x l
  region_stays (Pair f g) t b q r x l =
      let xs = region side f t b q in
      let ys = region side g (t + reads f) (b + 1) (q + positions f) in
      (λ i. moves_join s.layout uniforms xs ys r i x)
      ∙ region_stays g (t + reads f) (b + 1) (q + positions f) (run xs r) x (omega (arith, l)) ∙ region_stays f t b q r x l

  -- what the registers are known to hold before the region of a formula
  pub record IsReady (l : ℕ) (memory : ℕ → ℤ) (f : Formula) (t b : ℕ) (r : Registers) : Type 0 where
    pub shows : Shows side n s uniforms r memory
    pub known : AreRead s l f t r
    pub deep : nesting f ≤ l
    pub named : IsNamed n f
    pub above : base ≤ t
    pub apart : t + reads f ≤ b

  module _ (head : Heading) (at : Place) where
    pub record IsRegion (f : Formula) (t b q : ℕ) (r : Registers) : Type 0 where
      pub gives : run (region side f t b q) r (place side f t b) ≡ value s (term f)
      pub notes : wrongs s.layout uniforms (λ q k. note_key head q at k) (region side f t b q) r ≡ around (own_key_at head at s) f q

    -- the second of two formulas, behind the first
    pub ready_second : (l : ℕ) (memory : ℕ → ℤ) (f g : Formula) (t b q : ℕ) (r : Registers) → Shows side n s uniforms r memory →
        AreRead s l g (t + reads f) r → nesting g ≤ l → IsNamed n g → base ≤ t → t + reads f + reads g ≤ b →
        IsReady l memory g (t + reads f) (b + 1) (run (region side f t b q) r)
    ready_second l memory f g t b q r shows known deep named above apart = record {
      shows = still_shows n base side free s uniforms r (run (region side f t b q) r) memory
          (λ x k. region_stays f t b q r x (omega (arith, k, above, apart))) shows;
      known = still_read s l g (t + reads f) r (run (region side f t b q) r)
          (λ x low high. region_stays f t b q r x (omega (arith, high, apart))) known;
      deep = deep;
      named = named;
      above = omega (arith, above);
      apart = omega (arith, apart);
    }

    pub region_is : (l : ℕ) (memory : ℕ → ℤ) (f : Formula) (t b q : ℕ) (r : Registers) → IsReady l memory f t b r → IsRegion f t b q r
    region_is l memory Zero t b q r h = record { gives = h.shows.nothing; notes = refl }
    region_is l memory (Number z) t b q r h = record { gives = set_here b z r; notes = refl }
    region_is l memory (Variable y) t b q r h =
        let e = go side (value s (term (Variable y))) (h.shows.variables y h.named) in record { gives = e.0; notes = e.1 }
      where
        go : (x : Side) (v : ℤ) → uniform_ones x uniforms r (1 + y) ≡ v →
            (run (region x (Variable y) t b q) r (place x (Variable y) t b) ≡ v)
            × (wrongs s.layout uniforms (λ q k. note_key head q at k) (region x (Variable y) t b q) r ≡ None)
        go Uniform v e = (e, refl)
        go Private v e = (set_here b (uniforms (1 + y)) r ∙ e, refl)
    region_is l memory Index t b q r h = record { gives = h.shows.indices h.named; notes = refl }
    region_is l memory (Local y) t b q r h = record { gives = h.shows.locals y h.named; notes = refl }
    region_is l memory (Read a f) t b q r h = let d = h.deep in record { gives = h.known.1 (omega (arith, d)); notes = refl }
    region_is l memory (Before o f) t b q r h =
        let xs = region side f t b q in
        let d = place side f t b in
        let p = q + positions f + 1 in
        let ys = before_code side o b d p in
        let u = run xs r in
        let k = region_is l memory f t b q r (record {
          shows = h.shows;
          known = h.known;
          deep = h.deep;
          named = h.named;
          above = h.above;
          apart = h.apart;
        }) in record {
          gives = (λ i. moves_join s.layout uniforms xs ys r i b) ∙ before_value s.layout uniforms side b o d p u
              ∙ (λ i. or_zero (operate_before o (k.gives i)));
          notes = wrongs_join s.layout uniforms (λ q k. note_key head q at k) xs ys r
              ∙ (λ i. least (k.notes i)
              ((before_wrong s.layout uniforms side b head at o d p u ∙ ap (λ v. note_key head p at (kind_of (operate_before o v))) k.gives)
              i));
        }
    region_is l memory (Between o f g) t b q r h =
        let named = h.named in
        let known = h.known in
        let deep = h.deep in
        let above = h.above in
        let apart = h.apart in
        let t' = t + reads f in
        let q' = q + positions f in
        let xs = region side f t b q in
        let ys = region side g t' (b + 1) q' in
        let d = place side f t b in
        let e = place side g t' (b + 1) in
        let p = q + positions f + positions g + 1 in
        let zs = between_code side o b d e p in
        let u = run xs r in
        let w = run ys u in
        let k = region_is l memory f t b q r (record {
          shows = h.shows;
          known = known.0;
          deep = omega (arith, deep);
          named = named.0;
          above = above;
          apart = omega (arith, apart);
        }) in
        let j = region_is l memory g t' (b + 1) q' u
        (ready_second l memory f g t b q r h.shows known.1 (omega (arith, deep)) named.1 above (omega (arith, apart))) in
        let low = place_low n base side free f t b named.0 above (omega (arith, apart)) in
        let left : w d ≡ value s (term f) = region_stays g t' (b + 1) q' u d (omega (arith, low)) ∙ k.gives in record {
          gives = (λ i. (moves_join s.layout uniforms xs (ys ++ zs) r ∙ moves_join s.layout uniforms ys zs u) i b)
              ∙ between_value s.layout uniforms side b o d e p w ∙ (λ i. or_zero (operate o (left i) (j.gives i)));
          notes = wrongs_join s.layout uniforms (λ q k. note_key head q at k) xs (ys ++ zs) r
              ∙ ap (least (wrongs s.layout uniforms (λ q k. note_key head q at k) xs r))
              (wrongs_join s.layout uniforms (λ q k. note_key head q at k) ys zs u)
              ∙ (λ i. least (k.notes i) (least (j.notes i)
              ((between_wrong s.layout uniforms side b head at o d e p w
              ∙ (λ i. note_key head p at (kind_of (operate o (left i) (j.gives i))))) i)));
        }
    region_is l memory (Pair f g) t b q r h =
        let named = h.named in
        let known = h.known in
        let deep = h.deep in
        let above = h.above in
        let apart = h.apart in
        let t' = t + reads f in
        let q' = q + positions f in
        let xs = region side f t b q in
        let ys = region side g t' (b + 1) q' in
        let d = place side f t b in
        let u = run xs r in
        let k = region_is l memory f t b q r (record {
          shows = h.shows;
          known = known.0;
          deep = omega (arith, deep);
          named = named.0;
          above = above;
          apart = omega (arith, apart);
        }) in
        let j = region_is l memory g t' (b + 1) q' u
        (ready_second l memory f g t b q r h.shows known.1 (omega (arith, deep)) named.1 above (omega (arith, apart))) in
        let low = place_low n base side free f t b named.0 above (omega (arith, apart)) in record {
          gives = (λ i. moves_join s.layout uniforms xs ys r i d) ∙ region_stays g t' (b + 1) q' u d (omega (arith, low)) ∙ k.gives;
          notes = wrongs_join s.layout uniforms (λ q k. note_key head q at k) xs ys r ∙ (λ i. least (k.notes i) (j.notes i));
        }

    -- the second of a pair has its value too
    pub region_gives_second : (l : ℕ) (memory : ℕ → ℤ) (f g : Formula) (t b q : ℕ) (r : Registers) → IsReady l memory (Pair f g) t b r →
        run (region side (Pair f g) t b q) r (place side g (t + reads f) (b + 1)) ≡ value s (term g)
    region_gives_second l memory f g t b q r h =
        let deep = h.deep in
        let apart = h.apart in
        let xs = region side f t b q in
        let ys = region side g (t + reads f) (b + 1) (q + positions f) in
        let j = region_is l memory g (t + reads f) (b + 1) (q + positions f) (run xs r)
        (ready_second l memory f g t b q r h.shows h.known.1 (omega (arith, deep)) h.named.1 h.above (omega (arith, apart))) in
        (λ i. moves_join s.layout uniforms xs ys r i (place side g (t + reads f) (b + 1))) ∙ j.gives
