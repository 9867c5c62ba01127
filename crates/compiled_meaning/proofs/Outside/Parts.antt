-- Parts of statements outside pardo: with the send of what they hold, and chosen by a test.
use Rattle.std.proofs.Common.{◌≡◌, ℕ, ◌+◌, List, [], ◌∷◌, ◌++◌, length, Bool, true, false, refl, subst, arith, length-append}
use Rattle.std.specs.Prelude.{if◌then◌else◌}
use Rattle.pram_values.specs.Truth.{is_nonzero}
use Rattle.superstep_instructions.specs.declared.instr.Instr.{Instr}
use Rattle.superstep_instructions.specs.declared.instr.Instr.TheVariants.{Jump}
use Rattle.pram_check.specs.Checked.{Checked}
use Rattle.pram_meaning.specs.Store.{State}
use Rattle.pram_meaning.specs.Bounded.{Done, Goes}
use Rattle.flat_machine.specs.Flat.{Flat}
use Rattle.flat_stretches.specs.Along.{Run}
use Rattle.flat_stretches.specs.Folds.{Stand}
use Rattle.flat_stretches.proofs.Joins.{stands_split}
use Rattle.plain_form.specs.Shapes.{flush, sent, chosen}
use Rattle.exchange_bound.specs.Events.{Event, Cut}
use Rattle.exchange_bound.specs.Bound.{one_if}
use Rattle.compiled_meaning.specs.Without.{IsWithout}
use Rattle.compiled_meaning.proofs.Outside.Leads.{Leads, leads_as, leads_cut}
use Rattle.compiled_meaning.proofs.Outside.Passed.{Passes, passed_there, passed_here, passed_flush, passed_jump, forks_without}

-- The code of a part, from where it begins on: from each state of the program in which nothing is held the run follows the part. It is said
-- by what the part does and by its events.
abbrev pub RunsPart : Checked → Run → (free start : ℕ) → List Instr → Bool → (State → Done) → (State → List Event) → Type 0
RunsPart p t free start part left performed events =
    (m : State) (spent : ℕ) (f : Flat) → IsWithout p t false m start spent f →
    Leads t spent false left (events m) (Passes p t free left (start + length part) m f) (performed m)

module _ (p : Checked) (t : Run) (free : ℕ) where
  -- with the send of what it holds a part ends in a cut
  pub part_sent : (start : ℕ) (part : List Instr) (left : Bool) (performed : State → Done) (events : State → List Event) →
      Stand t start (sent part left) → RunsPart p t free start part left performed events →
      RunsPart p t free start (sent part left) false performed (λ m. events m ++ Cut ∷ [])
  part_sent start part left performed events stand runs m spent f w =
      let stands = stands_split t start part (flush left) stand in
      let n = length-append part (flush left) in
      leads_cut t spent false left (events m) (Passes p t free left (start + length part) m f)
      (Passes p t free false (start + length (sent part left)) m f) (performed m) (runs m spent f w)
      (λ k u next x.
      let y = passed_flush p t free left (start + length part) m f k next x.0 stands.1 x.1 in (
        y.0,
        passed_there p t free false (start + length part + length (flush left)) (start + length (sent part left)) m f (k + one_if left)
            (k + one_if left) next y.0 (omega (arith, n)) (omega arith) y.1,
      ))

  -- a part behind the place before it, and to another place
  pub leads_to : (place to : ℕ) (from : State) (f : Flat) (spent : ℕ) (held left : Bool) (es : List Event) (d : Done) → place ≡ to →
      Leads t spent held left es (Passes p t free left place from f) d → Leads t spent held left es (Passes p t free left to from f) d
  leads_to place to from f spent held left es d e h =
      subst (λ n. Leads t spent held left es (Passes p t free left n from f) d) e h

  -- ---- one part or none

  module _ (start r : ℕ) (part : List Instr) (m : State) (spent : ℕ) (f : Flat) (w : IsWithout p t false m start spent f)
      (performed : State → Done) (events : State → List Event)
      (runs : RunsPart p t free (start + 1) part false performed (λ m. events m ++ Cut ∷ [])) where
    pub chosen_alone : (other : ℕ → List Instr) → Stand t start (chosen start r part false other) → (b : Bool) →
        is_nonzero (f.uniform.registers r) ≡ b →
        Leads t spent false false ((if b then events m else []) ++ Cut ∷ [])
        (Passes p t free false (start + length (chosen start r part false other)) m f) (if b then performed m else Goes tt m)
    chosen_alone other stand true e =
        let here = forks_without p t false m start spent f w r (start + 1 + length part) stand.0 true e in
        leads_to (start + 1 + length part) (start + length (chosen start r part false other)) m f spent false false (events m ++ Cut ∷ [])
        (performed m) (omega arith) (runs m spent f here)
    chosen_alone other stand false e =
        let here = forks_without p t false m start spent f w r (start + 1 + length part) stand.0 false e in (
          refl,
          (
            f,
            passed_there p t free false (start + 1 + length part) (start + length (chosen start r part false other)) m f spent
                (spent + (0 + 0)) m f
                (omega arith) (omega arith) (passed_here p t free false (start + 1 + length part) spent m f here),
          ),
        )

    -- ---- one of two

    pub chosen_of_two : (other : ℕ → List Instr) (other_performed : State → Done) (other_events : State → List Event) →
        RunsPart p t free (start + 1 + length part + 1) (other (start + 1 + length part + 1)) false other_performed
        (λ m. other_events m ++ Cut ∷ []) →
        Stand t start (chosen start r part true other) → (b : Bool) → is_nonzero (f.uniform.registers r) ≡ b →
        Leads t spent false false ((if b then events m else other_events m) ++ Cut ∷ [])
        (Passes p t free false (start + length (chosen start r part true other)) m f) (if b then performed m else other_performed m)
    chosen_of_two other other_performed other_events other_runs stand b e =
        by b (forks_without p t false m start spent f w r (start + 1 + length part + 1) stand.0 b e)
      where
        by : (b : Bool) → IsWithout p t false m (if b then start + 1 else start + 1 + length part + 1) spent f →
            Leads t spent false false ((if b then events m else other_events m) ++ Cut ∷ [])
            (Passes p t free false (start + length (chosen start r part true other)) m f) (if b then performed m else other_performed m)
        by true here =
            let second = other (start + 1 + length part + 1) in
            let jump = Jump (start + 1 + length part + 1 + length second) in
            let n = length-append part (jump ∷ second) in
            let stands = stands_split t (start + 1) part (jump ∷ second) stand.1 in
            leads_as t spent false false (events m ++ Cut ∷ []) (Passes p t free false (start + 1 + length part) m f)
            (Passes p t free false (start + length (chosen start r part true other)) m f) (performed m) (runs m spent f here)
            (λ k u next x. (
              x.0,
              passed_there p t free false (start + 1 + length part + 1 + length second)
                  (start + length (chosen start r part true other)) m f k k
                  next x.0 (omega (arith, n)) (omega arith)
                  (passed_jump p t free false (start + 1 + length part)
                  (start + 1 + length part + 1 + length second) m f k next x.0 stands.1.0 x.1),
            ))
        by false here =
            let second = other (start + 1 + length part + 1) in
            let jump = Jump (start + 1 + length part + 1 + length second) in
            let n = length-append part (jump ∷ second) in
            leads_to (start + 1 + length part + 1 + length second) (start + length (chosen start r part true other)) m f spent false false
            (other_events m ++ Cut ∷ []) (other_performed m) (omega (arith, n)) (other_runs m spent f here)
