-- The asks of one level of a formula: which cells are asked for, and that the registers of this level's reads have their values once the
-- answers came.
use Rattle.std.proofs.Common.{◌≡◌, ◌≢◌, ℕ, ◌+◌, ◌<◌, ◌≤◌, List, [], ◌∷◌, ◌++◌, true, false, Option, Some, None, ℤ, refl}
use Rattle.std.proofs.Common.{ap, ◌∙◌, arith}
use Rattle.std.specs.Prelude.{nat_eq}
use Rattle.std.proofs.lemmas.Bool.Decides.{nat_tests}
use Rattle.superstep_machine.proofs.KeyOrder.{none_least}
use Rattle.pram_model.specs.Layout.{cell_of}
use Rattle.pram_tokens.specs.declared.token.Binary.{Binary}
use Rattle.pram_tokens.specs.declared.token.Binary.TheVariants.{Or, And, Equal, Unequal, Less, AtMost, Greater, AtLeast, Add, Subtract}
use Rattle.pram_tokens.specs.declared.token.Binary.TheVariants.{Multiply, Divide, Remainder}
use Rattle.pram_trees.specs.declared.tree.Prefix.{Prefix}
use Rattle.pram_trees.specs.declared.tree.Prefix.TheVariants.{Negate, Not}
use Rattle.pram_values.specs.declared.place.Place.{Place}
use Rattle.superstep_instructions.specs.declared.instr.Side.{Side}
use Rattle.superstep_instructions.specs.declared.instr.Side.TheVariants.{Uniform, Private}
use Rattle.superstep_instructions.specs.declared.instr.Instr.{Instr}
use Rattle.superstep_instructions.specs.declared.instr.Instr.TheVariants.{Ask}
use Rattle.superstep_machine.specs.declared.key.Key.{Key}
use Rattle.superstep_machine.specs.Keys.{least}
use Rattle.superstep_machine.specs.Parts.{Registers}
use Rattle.superstep_machine.specs.Results.{missing}
use Rattle.superstep_machine.specs.Steps.{zero_without}
use Rattle.pram_check.specs.Bounded.{Names}
use Rattle.pram_meaning.specs.Store.{View}
use Rattle.statement_evaluation.specs.Whole.{value, fetched}
use Rattle.statement_evaluation.specs.Noted.{Heading, note_key}
use Rattle.plain_form.specs.Formulas.{Formula, Zero, Number, Variable, Index, Local, Read, Before, Between, Pair, reads, positions, nesting}
use Rattle.plain_form.specs.Regions.{place, before_code, between_code, region}
use Rattle.compiled_formulas.specs.Terms.{term}
use Rattle.compiled_formulas.specs.Environments.{IsNamed, IsFree, Shows}
use Rattle.compiled_formulas.proofs.Lone.{moves, moves_join, asks_in, asks_join, wrongs, wrongs_join}
use Rattle.compiled_formulas.proofs.Levels.{around}
use Rattle.compiled_formulas.proofs.Operations.{set_here, set_there}
use Rattle.compiled_formulas.proofs.Shown.{still_shows}
use Rattle.compiled_formulas.proofs.RegionValues.{own_key_at, AreRead, still_read, region_stays, IsReady, region_is}
use Rattle.compiled_formulas.proofs.LevelReads.{level_reads, came, delivered, delivered_join, delivered_other, delivered_past}

-- ---- a region asks for nothing

module _ (side : Side) (s : View) (uniforms : Registers) where
  abbrev asks_of : List Instr → Registers → List (ℕ × Option ℕ)
  asks_of = asks_in s.layout uniforms

  none_before : (o : Prefix) (b x q : ℕ) (r : Registers) → asks_of (before_code side o b x q) r ≡ []
  none_before Negate b x q r = refl
  none_before Not b x q r = refl

  none_between : (o : Binary) (b x y q : ℕ) (r : Registers) → asks_of (between_code side o b x y q) r ≡ []
  none_between Or b x y q r = refl
  none_between And b x y q r = refl
  none_between Equal b x y q r = refl
  none_between Unequal b x y q r = refl
  none_between Less b x y q r = refl
  none_between AtMost b x y q r = refl
  none_between Greater b x y q r = refl
  none_between AtLeast b x y q r = refl
  none_between Add b x y q r = refl
  none_between Subtract b x y q r = refl
  none_between Multiply b x y q r = refl
  none_between Divide b x y q r = refl
  none_between Remainder b x y q r = refl

  none_joined : (xs ys : List Instr) → ((r : Registers) → asks_of xs r ≡ []) → ((r : Registers) → asks_of ys r ≡ []) →
      (r : Registers) → asks_of (xs ++ ys) r ≡ []
  none_joined xs ys h k r =
      asks_join s.layout uniforms xs ys r ∙ (λ i. h r i ++ k (moves s.layout uniforms xs r) i)

  pub region_asks : (f : Formula) (t b q : ℕ) (r : Registers) → asks_of (region side f t b q) r ≡ []
  region_asks Zero t b q r = refl
  region_asks (Number z) t b q r = refl
  region_asks (Variable x) t b q r = go side
    where
      go : (side : Side) → asks_of (region side (Variable x) t b q) r ≡ []
      go Uniform = refl
      go Private = refl
  region_asks Index t b q r = refl
  region_asks (Local x) t b q r = refl
  region_asks (Read a f) t b q r = refl
  region_asks (Before o f) t b q r =
      none_joined (region side f t b q) (before_code side o b (place side f t b) (q + positions f + 1))
      (λ r. region_asks f t b q r) (λ r. none_before o b (place side f t b) (q + positions f + 1) r) r
  region_asks (Between o f g) t b q r =
      let e = place side g (t + reads f) (b + 1) in
      let ys = region side g (t + reads f) (b + 1) (q + positions f) in
      let zs = between_code side o b (place side f t b) e (q + positions f + positions g + 1) in
      none_joined (region side f t b q) (ys ++ zs) (λ r. region_asks f t b q r)
      (λ r. none_joined ys zs (λ r. region_asks g (t + reads f) (b + 1) (q + positions f) r)
      (λ r. none_between o b (place side f t b) e (q + positions f + positions g + 1) r) r) r
  region_asks (Pair f g) t b q r =
      none_joined (region side f t b q) (region side g (t + reads f) (b + 1) (q + positions f)) (λ r. region_asks f t b q r)
      (λ r. region_asks g (t + reads f) (b + 1) (q + positions f) r) r

-- ---- one ask

-- a register whose read has no cell gets 0 at once, and others stay
zeroed : (memory : ℕ → ℤ) (cell : Option ℕ) (d : ℕ) (r : Registers) (s : View) → ((c : ℕ) → memory c ≡ fetched s (Some c)) →
    came memory cell (zero_without cell d r d) ≡ fetched s cell
zeroed memory None d r s h = set_here d _ r
zeroed memory (Some c) d r s h = h c

ask_stays : (cell : Option ℕ) (d : ℕ) (r : Registers) (x : ℕ) → d ≢ x → zero_without cell d r x ≡ r x
ask_stays None d r x n = set_there d _ r x n
ask_stays (Some c) d r x n = refl

-- ---- a level

module _ (side : Side) (n : Names) (base : ℕ) (free : IsFree side n base) (s : View) (uniforms : Registers) (memory : ℕ → ℤ) where
  module _ (head : Heading) (at : Place) (l : ℕ) where
    abbrev go_on : List Instr → Registers → Registers
    go_on = moves s.layout uniforms

    -- what the registers are known to hold before the asks of a level
    pub record MayAsk (f : Formula) (t b : ℕ) (r : Registers) : Type 0 where
      pub shows : Shows side n s uniforms r memory
      pub known : AreRead s l f t r
      pub named : IsNamed n f
      pub above : base ≤ t
      pub apart : t + reads f ≤ b

    -- what a stretch that asks for these reads of a formula leaves
    pub record IsAsked (f : Formula) (t b : ℕ) (r : Registers) (is : List Instr) (xs : List (ℕ × Option ℕ)) (key : Option Key) : Type 0
      where
        pub stays : (x : ℕ) → x < b → ((y : ℕ) → t ≤ y → y < t + reads f → y ≢ x) → go_on is r x ≡ r x
        pub known : AreRead s l f t (go_on is r)
        pub read : AreRead s (l + 1) f t (λ d. delivered memory d xs (go_on is r d))
        pub notes : wrongs s.layout uniforms (λ q k. note_key head q at k) is r ≡ key
        pub cells : asks_in s.layout uniforms is r ≡ xs

    -- a read of another level
    pub asked_not : (a : ℕ) (f : Formula) (t b : ℕ) (r : Registers) (is : List Instr) (xs : List (ℕ × Option ℕ)) (key : Option Key) →
        nat_eq (nesting f) l ≡ false → MayAsk (Read a f) t b r → xs ≡ level_reads s l f t → IsAsked f t b r is xs key →
        IsAsked (Read a f) t b r (is ++ []) (xs ++ []) (least key None)
    asked_not a f t b r is xs key e m same k =
        let apart = m.apart in
        let d = t + reads f in
        let here : (x : ℕ) → go_on (is ++ []) r x ≡ go_on is r x = λ x i. moves_join s.layout uniforms is [] r i x in
        let there : (x : ℕ) → delivered memory x (xs ++ []) (go_on (is ++ []) r x) ≡ delivered memory x xs (go_on is r x) =
        λ x. ap (delivered memory x (xs ++ [])) (here x) ∙ delivered_join memory x xs [] (go_on is r x) in
        let own : go_on is r d ≡ r d = k.stays d (omega (arith, apart)) (λ y low high e. omega (arith, high, e)) in
        record {
          stays = λ x h o. here x ∙ k.stays x h (λ y low high. o y low (omega (arith, high)));
          known = (
            still_read s l f t (go_on is r) (go_on (is ++ []) r) (λ x low high. here x) k.known,
            λ h. here d ∙ own ∙ m.known.1 h,
          );
          read = (
            still_read s (l + 1) f t (λ x. delivered memory x xs (go_on is r x))
                (λ x. delivered memory x (xs ++ []) (go_on (is ++ []) r x)) (λ x low high. there x) k.read,
            λ h. there d
                ∙ ap (λ zs. delivered memory d zs (go_on is r d)) same
                ∙ delivered_past memory d s l f t (go_on is r d) (λ y low high e. omega (arith, high, e))
                ∙ own ∙ m.known.1 (grind (arith, nat_tests, e, h)),
          );
          notes = wrongs_join s.layout uniforms (λ q k. note_key head q at k) is [] r ∙ (λ i. least (k.notes i) None);
          cells = asks_join s.layout uniforms is [] r ∙ (λ i. k.cells i ++ []);
        }

    module _ (a : ℕ) (f : Formula) (t b q : ℕ) (r : Registers) (is : List Instr) (xs : List (ℕ × Option ℕ)) (key : Option Key) where
      abbrev d : ℕ
      d = t + reads f

      abbrev cell : Option ℕ
      cell = cell_of s.layout a (value s (term f))

      abbrev ask : Instr
      ask = Ask side (t + reads f) a (place side f t b) (q + positions f + 1)

      abbrev code : List Instr
      code = region side f t b q ++ ask ∷ []

      -- a read of this level
      pub asked_here : nat_eq (nesting f) l ≡ true → MayAsk (Read a f) t b r → xs ≡ level_reads s l f t → IsAsked f t b r is xs key →
          IsAsked (Read a f) t b r (is ++ code) (xs ++ (d, cell) ∷ [])
          (least key (least (around (own_key_at head at s) f q) (own_key_at head at s (q + positions f + 1) (Read a f))))
      asked_here e m same k =
          let apart = m.apart in
          let above = m.above in
          let u = go_on is r in
          let w = go_on (region side f t b q) u in
          let ready : IsReady side n base free s uniforms l memory f t b u = record {
            shows = still_shows n base side free s uniforms r u memory
                (λ x h. k.stays x (omega (arith, h, above, apart)) (λ y low high e. omega (arith, low, above, h, e))) m.shows;
            known = k.known;
            deep = grind (arith, nat_tests, e);
            named = m.named;
            above = above;
            apart = omega (arith, apart);
          } in
          let region_done = region_is side n base free s uniforms head at l memory f t b q u ready in
          let found : cell_of s.layout a (w (place side f t b)) ≡ cell = ap (cell_of s.layout a) region_done.gives in
          let here : (x : ℕ) → go_on (is ++ code) r x ≡ zero_without cell d w x =
          λ x. (λ i. (moves_join s.layout uniforms is code r ∙ moves_join s.layout uniforms (region side f t b q) (ask ∷ []) u) i x)
          ∙ ap (λ c. zero_without c d w x) found in
          let other : (x : ℕ) → x < b → d ≢ x → go_on (is ++ code) r x ≡ u x =
          λ x h o. here x ∙ ask_stays cell d w x o ∙ region_stays side n base free s uniforms f t b q u x h in
          let before : (x : ℕ) → x < d → delivered memory x (xs ++ (d, cell) ∷ []) (go_on (is ++ code) r x) ≡ delivered memory x xs (u x) =
          λ x h. delivered_join memory x xs ((d, cell) ∷ []) (go_on (is ++ code) r x)
          ∙ delivered_other memory x d cell (delivered memory x xs (go_on (is ++ code) r x)) (λ e. omega (arith, e, h))
          ∙ ap (delivered memory x xs) (other x (omega (arith, h, apart)) (λ e. omega (arith, e, h))) in
          let last : delivered memory d (xs ++ (d, cell) ∷ []) (go_on (is ++ code) r d) ≡ fetched s cell =
          delivered_join memory d xs ((d, cell) ∷ []) (go_on (is ++ code) r d)
          ∙ ap (delivered memory d ((d, cell) ∷ []))
          (ap (λ zs. delivered memory d zs (go_on (is ++ code) r d)) same
          ∙ delivered_past memory d s l f t (go_on (is ++ code) r d) (λ y low high e. omega (arith, high, e)) ∙ here d)
          ∙ set_here d (came memory cell (zero_without cell d w d)) (λ x. zero_without cell d w d)
          ∙ zeroed memory cell d w s m.shows.cells in
          record {
            stays = λ x h o. other x h (o d (omega arith) (omega arith)) ∙ k.stays x h (λ y low high. o y low (omega (arith, high)));
            known = (
              still_read s l f t u (go_on (is ++ code) r)
                  (λ x low high. other x (omega (arith, high, apart)) (λ e. omega (arith, high, e))) k.known,
              λ h. absurd (grind (arith, nat_tests, e, h)),
            );
            read = (
              still_read s (l + 1) f t (λ x. delivered memory x xs (u x))
                  (λ x. delivered memory x (xs ++ (d, cell) ∷ []) (go_on (is ++ code) r x)) (λ x low high. before x high) k.read,
              λ h. last,
            );
            notes = wrongs_join s.layout uniforms (λ q k. note_key head q at k) is code r
                ∙ ap (least (wrongs s.layout uniforms (λ q k. note_key head q at k) is r))
                (wrongs_join s.layout uniforms (λ q k. note_key head q at k) (region side f t b q) (ask ∷ []) u)
                ∙ (λ i. least (k.notes i) (least (region_done.notes i)
                ((none_least (note_key head (q + positions f + 1) at (missing (cell_of s.layout a (w (place side f t b)))))
                ∙ ap (λ c. note_key head (q + positions f + 1) at (missing c)) found) i)));
            cells = asks_join s.layout uniforms is code r
                ∙ ap (λ zs. asks_in s.layout uniforms is r ++ zs) (asks_join s.layout uniforms (region side f t b q) (ask ∷ []) u)
                ∙ (λ i. k.cells i ++ (region_asks side s uniforms f t b q u i ++ (d, found i) ∷ []));
          }
