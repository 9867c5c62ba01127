-- Parts of a body: each followed by the run, and two of them one behind the other.
use Rattle.std.proofs.Common.{◌≡◌, ℕ, ◌+◌, List, [], ◌++◌, length, Bool, refl, sym, subst, arith}
use Rattle.std.proofs.Common.{length-append}
use Rattle.superstep_instructions.specs.declared.instr.Instr.{Instr}
use Rattle.pram_check.specs.Checked.{Checked}
use Rattle.pram_meaning.specs.Bounded.{Behaviour, Done, Goes, Stops, Reaches, then_do}
use Rattle.pram_meaning.specs.Store.{State}
use Rattle.flat_machine.specs.Flat.{Flat}
use Rattle.flat_stretches.specs.Applied.{applied}
use Rattle.flat_stretches.specs.Along.{Run}
use Rattle.flat_stretches.specs.Frames.{Frame, StandsIn}
use Rattle.plain_form.specs.Registers.{behind_locals}
use Rattle.compiled_formulas.specs.Inside.{ShowsInside}
use Rattle.exchange_bound.specs.Events.{Event, behind}
use Rattle.compiled_meaning.specs.Paid as paid
use Rattle.compiled_meaning.specs.Between.{IsBetween}
use Rattle.compiled_meaning.specs.Follows.{Follows, HoldsBehind}
use Rattle.compiled_meaning.proofs.EachStatement.Joined.{follows_also, follows_then, spent_behind}
use Rattle.compiled_meaning.specs.Steps.{GoesWithin}
use Rattle.compiled_meaning.specs.Within.{IsWithin}
use Rattle.compiled_meaning.proofs.Inside.Passed.{goes_from}

-- A part of a body is followed, from a place by so many exchanges: it has these events, and this is what it does.
abbrev pub Followed : (p : Checked) (t : Run) (locals base vote : ℕ) (fr : Frame) (held left : Bool) (code : List Instr) (place spent : ℕ) →
    Flat → List Event → Done → Type 0
Followed p t locals base vote fr held left code place spent f es d =
    Follows t spent held es (GoesWithin p t locals base vote fr left (place + length code) (spent + paid.spent t es held) f) d

-- the same in a state in which the same is seen
pub within_seen : (p : Checked) (t : Run) (locals base : ℕ) (fr : Frame) (held left : Bool) (m : State) (place other spent more : ℕ)
    (f g : Flat) → IsWithin p t locals base fr held m place spent f → IsBetween t left m other more g →
    applied t.code g ≡ applied t.code f → IsWithin p t locals base fr left m other more g
within_seen p t locals base fr held left m place other spent more f g w b e = record {
  between = b;
  shows = subst (ShowsInside p locals m) (sym e) w.shows;
  stands = subst (StandsIn (behind_locals locals) base fr) (sym e) w.stands;
  sizes = w.sizes;
  locals_of = w.locals_of;
  values = w.values;
}

-- where nothing is done behind a part, it has no events
pub behind_nothing : {A : Type 0} (d : Behaviour A) → (let none : List Event = [] in behind d (λ x m. none)) ≡ []
behind_nothing (Goes a m) = refl
behind_nothing (Stops fault out) = refl
behind_nothing (Reaches out) = refl

module _ (p : Checked) (t : Run) (locals base vote : ℕ) (fr : Frame) (held between left : Bool) (first second : List Instr)
    (place spent : ℕ) (f : Flat) where
  -- where it goes on from the second one, it does so from both
  pub both_followed : (es : List Event) (fs : State → List Event) (d : Done) (k : State → Done) →
      Followed p t locals base vote fr held between first place spent f es d → HoldsBehind held es between d →
      ((now : State) (spent : ℕ) (g : Flat) → IsWithin p t locals base fr between now (place + length first) spent g →
      Followed p t locals base vote fr between left second (place + length first) spent g (fs now) (k now)) →
      Followed p t locals base vote fr held left (first ++ second) place spent f (es ++ behind d (λ u now. fs now))
      (then_do d (λ u now. k now))
  both_followed es fs d k h holds next =
      let n = length-append first second in
      let P = λ (now : State). GoesWithin p t locals base vote fr between (place + length first) (spent + paid.spent t es held) f now in
      let Q = λ (ys : List Event) (now : State).
      GoesWithin p t locals base vote fr left (place + length (first ++ second)) (spent + paid.spent t ys held) f now in
      follows_then t spent held between es fs P Q d k h holds
      (λ now x e.
      let by = spent + paid.spent t es held in
      let g = x.behind in
      let s = spent_behind t es (fs now) held between e in
      follows_also t by between (fs now)
      (GoesWithin p t locals base vote fr left (place + length first + length second) (by + paid.spent t (fs now) between) g)
      (Q (es ++ fs now)) (k now)
      (λ last y. goes_from p t locals base vote fr left (place + length first + length second) (place + length (first ++ second))
      (by + paid.spent t (fs now) between) (spent + paid.spent t (es ++ fs now) held) f g last (omega (arith, n)) (omega (arith, s))
      x.registers y)
      (next now by g x.within))
