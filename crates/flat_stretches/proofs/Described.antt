-- The verifier's states of places describe runs, and what it has judged is fine.
use Rattle.std.proofs.Common.{length, length-append, ◌≡◌, ◌+◌, [], ◌∷◌, Bool, true, false, not, eqb, refl, ap, ◌∙◌, subst, arith}
use Rattle.std.specs.Prelude.{◌&&◌, slice_get}
use Rattle.superstep_instructions.specs.Code.{SuperstepCode}
use Rattle.superstep_instructions.specs.declared.instr.Side.TheVariants.{Uniform, Private}
use Rattle.superstep_instructions.specs.declared.instr.Instr.{Instr}
use Rattle.superstep_instructions.specs.declared.instr.Instr.TheVariants.{Mark, Ask, Put, Send, Reply, Jump, JumpIfZero, Halt}
use Rattle.bsp_verify.specs.declared.state.State.{State}
use Rattle.bsp_verify.specs.States.{after}
use Rattle.bsp_verify.specs.Judging.{fits_exchange}
use Rattle.bsp_verify.specs.WellFormed.{IsWellFormed}
use Rattle.bsp_verify.proofs.StretchLemmas.{parts_stand, what_stands_is_there}
use Rattle.bsp_verify.proofs.PathLemmas.{comes_given}
use Rattle.std.proofs.lemmas.List.{nil_from_length}
use Rattle.bsp_verify.proofs.WorkerLemmas.{none_came}
use Rattle.bsp_verify.proofs.RunLemmas.{Describes, no_put}
use Rattle.pram_model.proofs.Truths.{both}
use Rattle.flat_machine.specs.Flat.{Flat}
use Rattle.flat_stretches.specs.Folds.{act_at_once, held_after, may_follow, IsFine}
use Rattle.flat_stretches.specs.Described.{PlacesAreAsSaid, is_straight, JudgedAreFine, WhatStandsIsAt, FoldsHoldReads}
use Rattle.flat_stretches.proofs.Closes.{agrees}
use Rattle.flat_stretches.proofs.Rests.{rests_there}

pub places_are_as_said : PlacesAreAsSaid
places_are_as_said t given long met place f spent c =
    let formed : IsWellFormed t.code = (long, (given, met)) in
    let a = agrees t formed place f spent c in
    let d = subst (λ (s : State). Describes s f.uniform)
    ((comes_given t.code formed a.steps a.point a.comes).1 ∙ ap given a.here) a.describes
    in record {
      asks = d.asks;
      put = d.put;
      awaited = d.awaited;
      holds = λ e. let n = d.put ∙ e in record { put = no_put f.uniform.put n; held = a.counted.bare n };
      alone = d.alone;
      rests = λ n w. rests_there t place f spent c (nil_from_length f.uniform.asks (d.asks ∙ n))
          (none_came f.uniform.awaited (d.awaited ∙ w));
    }

-- ---- judged stretches

-- answers are awaited where no write is held, all along
abbrev AwaitsAlone : State → Type 0
AwaitsAlone s = s.awaits ≡ true → s.put ≡ false

put_after : (i : Instr) (s : State) → (after i s).put ≡ held_after i s.put
put_after Send s = refl
put_after (Put side c r v q) s = refl
put_after i s = refl

follows : (i : Instr) (s : State) → AwaitsAlone s → fits_exchange i s ≡ true → is_straight i ≡ true → may_follow s.put i ≡ true
follows (Mark line) s a h w = cc
follows (Jump target) s a h w = cc
follows (JumpIfZero r target) s a h w = cc
follows Halt s a h w = cc
follows Reply s a h w = ap not (a h)
follows (Put side c r v q) s a h w =
    (both (eqb s.asks 0) (not s.put) (both (not s.awaits) (eqb s.asks 0 && not s.put) h).1).1
follows i s a h w = refl

alone_after : (i : Instr) (s : State) → AwaitsAlone s → fits_exchange i s ≡ true → AwaitsAlone (after i s)
alone_after Send s a h = λ e. refl
alone_after Reply s a h = λ e. cc
alone_after (Put side c r v q) s a h =
    λ e. absurd (no s.awaits e (both (not s.awaits) (eqb s.asks 0 && not s.put) h).0)
  where
    no : (b : Bool) → b ≡ true → not b ≡ true → ⊥
    no true e f = cc
    no false e f = cc
alone_after i s a h = a

pub judged_are_fine : JudgedAreFine
judged_are_fine code at s m [] alone j w = ap (λ (x : State). x.put) j
judged_are_fine code at s m (i ∷ is) alone j w = (
  follows i s alone j.0.exchange w.0,
  subst (λ b. IsFine b is m.put) (put_after i s)
      (judged_are_fine code (at + 1) (after i s) m is (alone_after i s alone j.0.exchange) j.1 w.1),
)

-- ---- what stands

pub what_stands_is_at : WhatStandsIsAt
what_stands_is_at t at s [] h = tt
what_stands_is_at t at s (i ∷ is) h =
    let parts = (parts_stand t.code).1 at s (i ∷ []) is h in (
      ap (slice_get t.code.instructions) (let e : at ≡ at + 0 = omega arith in e)
          ∙ (what_stands_is_there t.code at s (i ∷ is) h 0).0 (omega arith),
      what_stands_is_at t (at + 1) (after i s) is parts.1,
    )

-- ---- reads that are held

asks_after : (code : SuperstepCode) (i : Instr) (s : State) (f : Flat) → length f.uniform.asks ≡ s.asks →
    length (act_at_once code i f).uniform.asks ≡ (after i s).asks
asks_after code (Ask Uniform d c r q) s f h = length-append f.uniform.asks _ ∙ ap (λ n. n + 1) h
asks_after code (Ask Private d c r q) s f h = length-append f.uniform.asks _ ∙ ap (λ n. n + 1) h
asks_after code Send s f h = refl
asks_after code (Put side c r v q) s f h = h
asks_after code i s f h = h

pub folds_hold_reads : FoldsHoldReads
folds_hold_reads code [] s f h = h
folds_hold_reads code (i ∷ is) s f h = folds_hold_reads code is (after i s) (act_at_once code i f) (asks_after code i s f h)
