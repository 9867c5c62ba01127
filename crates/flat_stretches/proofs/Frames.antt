-- What the instructions on masks and flags do to a frame, and that others stay in it.
use Rattle.std.proofs.Common.{◌≡◌, ℕ, ◌+◌, ◌<◌, ◌≤◌, List, [], ◌∷◌, ◌++◌, Bool, true, false, Option, Some, None, ℤ, pos, refl, sym, ap}
use Rattle.std.proofs.Common.{◌∙◌}
use Rattle.std.specs.Prelude.{not, ◌&&◌, if◌then◌else◌, nat_le}
use Rattle.std.specs.List.{AllByRecursion, filter, range_with_len, zip}
use Rattle.pram_values.specs.Truth.{is_nonzero, truth}
use Rattle.superstep_instructions.specs.declared.instr.Side.TheVariants.{Uniform, Private}
use Rattle.superstep_instructions.specs.declared.instr.Instr.{Instr}
use Rattle.superstep_instructions.specs.declared.instr.Instr.TheVariants.{Mark, Set, Copy, Negate, Calculate, Decide, Not, CopyUniform}
use Rattle.superstep_instructions.specs.declared.instr.Instr.TheVariants.{Index}
use Rattle.superstep_instructions.specs.declared.instr.Instr.TheVariants.{Enter}
use Rattle.superstep_instructions.specs.declared.instr.Instr.TheVariants.{Leave, Mask, Flip, Unmask, Ask, Put, Send, Reply, Vote}
use Rattle.superstep_instructions.specs.Code.{SuperstepCode}
use Rattle.superstep_machine.specs.Parts.{Registers, Read, UniformPart, PrivatePart, set_register}
use Rattle.superstep_machine.specs.Steps.{under, is_active, flipped, unmasked, zero_without, cell_for, on_own}
use Rattle.superstep_machine.specs.Answering.{answer, answers, destinations}
use Rattle.superstep_machine.proofs.Numbers.{with_itself}
use Rattle.bsp_verify.proofs.WorkerLemmas.{all_add}
use Rattle.flat_machine.specs.Flat.{Flat, range, after_instr, after_send, after_reply, after_vote, any_active}
use Rattle.flat_stretches.specs.Folds.{act, act_at_once}
use Rattle.flat_stretches.specs.Frames.{Frame, StandsIn, SetsNarrow, EverybodyIsPresent, RangesBegin, MasksNarrow}
use Rattle.flat_stretches.specs.Frames.{FlipsTurn, UnmasksWiden, is_some, VotesSay, is_above, StaysIn, FoldsStay, FoldsAtOnceStay}
use Rattle.flat_stretches.proofs.Below.{set_below}
use Rattle.flat_stretches.proofs.Sets.{filter_same, filter_twice, filter_all, any_is_some}
use Rattle.pram_values.proofs.TruthValues.{is_nonzero-truth}
use Rattle.std.proofs.lemmas.Bool.{leb-true}

-- ---- sets

pub sets_narrow : SetsNarrow
sets_narrow t fr = sym (filter_twice (λ v. under (fr.masks v)) t (range_with_len 0 fr.width))

pub everybody_is_present : EverybodyIsPresent
everybody_is_present n = filter_all (range_with_len 0 n)

-- ---- masks

pub ranges_begin : RangesBegin
ranges_begin code first base a b q f = record { width = refl; masks = λ v. refl; flags = λ v r l h. refl }

pub masks_narrow : MasksNarrow
masks_narrow code first base r fr f s = record {
  width = s.width;
  masks = λ v. ap (λ ms. (under ms && is_nonzero ((f.own v).registers r)) ∷ ms) (s.masks v);
  flags = s.flags;
}

and_not : (a t : Bool) → (a && not (a && t)) ≡ (a && not t)
and_not true t = refl
and_not false t = refl

pub flips_turn : FlipsTurn
flips_turn code first base t fr f s = record {
  width = s.width;
  masks = λ v. ap flipped (s.masks v) ∙ ap (λ b. b ∷ fr.masks v) (and_not (under (fr.masks v)) (t v));
  flags = s.flags;
}

pub unmasks_widen : UnmasksWiden
unmasks_widen code first base t fr f s = record { width = s.width; masks = λ v. ap unmasked (s.masks v); flags = s.flags }

pub votes_say : VotesSay
votes_say first base d fr f s =
    ap (λ b. is_nonzero (if b then truth (any_active f) else f.uniform.registers d)) (with_itself d)
    ∙ is_nonzero-truth (any_active f) ∙ any_is_some (λ v. is_active (f.own v)) (range f)
    ∙ ap (λ w. is_some (filter (λ v. is_active (f.own v)) (range_with_len 0 w))) s.width
    ∙ ap is_some (filter_same (λ v. is_active (f.own v)) (λ v. under (fr.masks v)) (λ v. ap under (s.masks v)) (range_with_len 0 fr.width))

-- ---- a processor below `base`

-- its masks, and its registers below
record AreSameBelow (base : ℕ) (x y : PrivatePart) : Type 0 where
  masks : y.masks ≡ x.masks
  registers : (r : ℕ) → r < base → y.registers r ≡ x.registers r

module _ (base : ℕ) (x : PrivatePart) where
  either_same : (b : Bool) (y : PrivatePart) → AreSameBelow base x y → AreSameBelow base x (if b then y else x)
  either_same true y h = h
  either_same false y h = record { masks = refl; registers = λ r l. refl }

  set_same : (d : ℕ) (z : ℤ) → nat_le base d ≡ true → AreSameBelow base x (record x { registers = set_register d z x.registers })
  set_same d z h = record { masks = refl; registers = λ r l. set_below base d z x.registers r (leb-true base d h) l }

  set_if_active : (d : ℕ) (z : ℤ) → nat_le base d ≡ true →
      AreSameBelow base x (if is_active x then record x { registers = set_register d z x.registers } else x)
  set_if_active d z h = either_same (is_active x) (record x { registers = set_register d z x.registers }) (set_same d z h)

  asked_same : (d : ℕ) (cell : Option ℕ) (r : ℕ) → nat_le base d ≡ true → r < base → zero_without cell d x.registers r ≡ x.registers r
  asked_same d None r h l = (set_same d (pos 0) h).registers r l
  asked_same d (Some c) r h l = refl

  own_same : (code : SuperstepCode) (i : Instr) (u : UniformPart) (v : ℕ) → is_above base i ≡ true →
      AreSameBelow base x (on_own code i u v x)
  own_same code (Set Private d y) u v h = set_if_active d _ h
  own_same code (Copy Private d s) u v h = set_if_active d _ h
  own_same code (Negate Private d s q) u v h = set_if_active d _ h
  own_same code (Calculate Private o d a b q) u v h = set_if_active d _ h
  own_same code (Decide Private o d a b) u v h = set_if_active d _ h
  own_same code (Not Private d s) u v h = set_if_active d _ h
  own_same code (CopyUniform d s) u v h = set_if_active d _ h
  own_same code (Index d) u v h = set_if_active d _ h
  own_same code (Ask Uniform d c s q) u v h = record { masks = refl; registers = λ r l. refl }
  own_same code (Ask Private d c s q) u v h = go (is_active x)
    where
      go : (b : Bool) →
          AreSameBelow base x
          (if b then record x { registers = zero_without (cell_for code c s x) d x.registers; asks = x.asks ++ cell_for code c s x ∷ [] }
          else record x { asks = x.asks ++ None ∷ [] })
      go true = record { masks = refl; registers = λ r l. asked_same d (cell_for code c s x) r h l }
      go false = record { masks = refl; registers = λ r l. refl }
  own_same code (Enter a b q) u v h = cc
  own_same code Leave u v h = cc
  own_same code (Mask r) u v h = cc
  own_same code Flip u v h = cc
  own_same code Unmask u v h = cc
  own_same code (Put Uniform c s w q) u v h = either_same (is_active x) x (record { masks = refl; registers = λ r l. refl })
  own_same code (Put Private c s w q) u v h = either_same (is_active x) x (record { masks = refl; registers = λ r l. refl })
  own_same code i u v h = either_same (is_active x) x (record { masks = refl; registers = λ r l. refl })

-- answers into registers from `base` on
answer_below : (base d r : ℕ) (value : ℕ → ℤ) (cell : Option ℕ) (registers : Registers) → base ≤ d → r < base →
    answer value d cell registers r ≡ registers r
answer_below base d r value None registers l h = refl
answer_below base d r value (Some c) registers l h = set_below base d (value c) registers r l h

answers_below : (base r : ℕ) (value : ℕ → ℕ → ℤ) (k : ℕ) (reads : List Read) (cells : List (Option ℕ)) (registers : Registers) →
    AllByRecursion (λ (x : Read). base ≤ x.destination) reads → r < base →
    answers value k (zip (destinations reads) cells) registers r ≡ registers r
answers_below base r value k [] cells registers a h = refl
answers_below base r value k (x ∷ reads) [] registers a h = refl
answers_below base r value k (x ∷ reads) (c ∷ cells) registers a h =
    answers_below base r value (k + 1) reads cells (answer (value k) x.destination c registers) a.1 h
    ∙ answer_below base x.destination r (value k) c registers a.0 h

-- ---- stretches that set no flag

module _ (code : SuperstepCode) (first base : ℕ) (fr : Frame) (f : Flat) (s : StaysIn first base fr f) where
  -- the processors of another state are the same below
  stands_by : (g : Flat) → g.uniform.width ≡ f.uniform.width → ((v : ℕ) → AreSameBelow base (f.own v) (g.own v)) →
      StandsIn first base fr g
  stands_by g w h =
      let d = s.stands in record {
        width = w ∙ d.width;
        masks = λ v. (h v).masks ∙ d.masks v;
        flags = λ v r a l. (h v).registers r l ∙ d.flags v r a l;
      }

  owns : (i : Instr) → is_above base i ≡ true → (v : ℕ) → AreSameBelow base (f.own v) (on_own code i f.uniform v (f.own v))
  owns i h v = own_same base (f.own v) code i f.uniform v h

  instr_stays : (i : Instr) → is_above base i ≡ true → StaysIn first base fr (after_instr code i f)
  instr_stays (Mark line) h = record {
    stands = stands_by (after_instr code (Mark line) f) refl (owns (Mark line) h);
    above = (let a = s.above in record { asks = a.asks; awaited = a.awaited });
  }
  instr_stays (Ask Uniform d c x q) h = record {
    stands = stands_by (after_instr code (Ask Uniform d c x q) f) refl (owns (Ask Uniform d c x q) h);
    above = (let a = s.above in record {
      asks = all_add (λ (y : Read). base ≤ y.destination) f.uniform.asks _ a.asks (leb-true base d h);
      awaited = a.awaited;
    });
  }
  instr_stays (Ask Private d c x q) h = record {
    stands = stands_by (after_instr code (Ask Private d c x q) f) refl (owns (Ask Private d c x q) h);
    above = (let a = s.above in record {
      asks = all_add (λ (y : Read). base ≤ y.destination) f.uniform.asks _ a.asks (leb-true base d h);
      awaited = a.awaited;
    });
  }
  instr_stays (Enter a b q) h = cc
  instr_stays Leave h = cc
  instr_stays i h = record {
    stands = stands_by (after_instr code i f) refl (owns i h);
    above = (let a = s.above in record { asks = a.asks; awaited = a.awaited });
  }

  none_changes : (v : ℕ) → AreSameBelow base (f.own v) (f.own v)
  none_changes v = record { masks = refl; registers = λ r l. refl }

  act_stays : (i : Instr) → is_above base i ≡ true → StaysIn first base fr (act code i f)
  act_stays Send h = record {
    stands = stands_by (after_send code f) refl (λ v. record { masks = refl; registers = λ r l. refl });
    above = record { asks = tt; awaited = (s.above).asks };
  }
  act_stays Reply h = record {
    stands = stands_by (after_reply f) refl (λ v. record {
      masks = refl;
      registers = λ r l. answers_below base r (λ k c. f.memory c) 0 f.uniform.awaited (f.own v).awaited (f.own v).registers
          (s.above).awaited l;
    });
    above = record { asks = (s.above).asks; awaited = tt };
  }
  act_stays (Vote d) h = record {
    stands = stands_by (after_vote d f) refl none_changes;
    above = (let a = s.above in record { asks = a.asks; awaited = a.awaited });
  }
  act_stays i h = instr_stays i h

  act_at_once_stays : (i : Instr) → is_above base i ≡ true → StaysIn first base fr (act_at_once code i f)
  act_at_once_stays (Put side c x v q) h = record {
    stands = (let d = s.stands in record { width = d.width; masks = d.masks; flags = d.flags });
    above = (let a = s.above in record { asks = a.asks; awaited = a.awaited });
  }
  act_at_once_stays i h = act_stays i h

pub folds_stay : FoldsStay
folds_stay code first base [] fr f a s = s
folds_stay code first base (i ∷ is) fr f a s =
    folds_stay code first base is fr (act code i f) a.1 (act_stays code first base fr f s i a.0)

pub folds_at_once_stay : FoldsAtOnceStay
folds_at_once_stay code first base [] fr f a s = s
folds_at_once_stay code first base (i ∷ is) fr f a s =
    folds_at_once_stay code first base is fr (act_at_once code i f) a.1 (act_at_once_stays code first base fr f s i a.0)
