-- Workers that are one flat state are under one control.
use Rattle.std.proofs.Common.{◌≡◌, ℕ, zero, suc, ◌<◌, List, [], ◌∷◌, map, length, Option, Some, None, ℤ, refl, sym, ap, ◌∙◌, subst}
use Rattle.std.specs.Prelude.{slice_get}
use Rattle.superstep_machine.specs.Setting.{Setting, workers, processors}
use Rattle.superstep_machine.specs.Parts.{PrivatePart}
use Rattle.superstep_machine.specs.Worker.{Worker, after_instr}
use Rattle.superstep_machine.specs.Run.{State, ready, opening}
use Rattle.flat_machine.specs.Flat.{Flat}
use Rattle.flat_machine.specs.Flat as flat
use Rattle.flat_machine.specs.ByExchanges as flat_run
use Rattle.flat_machine.specs.Flatness.{IsMapFor, plan}
use Rattle.bsp_verify.specs.Runs.{worker_after}
use Rattle.bsp_verify.specs.Moments.{walked, moment}
use Rattle.flat_machine.specs.OneControl.{AreAlike, AreTogether, AreAtOne}
use Rattle.flat_machine.proofs.Relation.{Splits}
use Rattle.flat_machine.proofs.Control.{flat_uniform, worker_uniform, WalkedAs, walked_splits}
use Rattle.flat_machine.proofs.Instructions.{splits_instr}
use Rattle.flat_machine.proofs.Lockstep.{Agree, readies}
use Rattle.flat_machine.proofs.Runs.{phases_agree, opening_agrees}

-- an item of a list that was made by a function
made_by : (f : ℕ → PrivatePart) (vs : List ℕ) (i : ℕ) (a : PrivatePart) → slice_get (map f vs) i ≡ Some a → (v : ℕ) × (f v ≡ a)
made_by f [] i a h = cc
made_by f (v ∷ vs) zero a h = (v, cc)
made_by f (v ∷ vs) (suc i) a h = made_by f vs i a h

module _ (t : Setting) (room : IsMapFor t.code t.map) where
  module _ (f : Flat) (xs : ℕ → Worker) (s : Splits t f xs) (w v : ℕ) (lw : w < workers t) (lv : v < workers t) where
    own_of : (w : ℕ) → w < workers t → (i : ℕ) (a : PrivatePart) → slice_get (xs w).own i ≡ Some a → (k : ℕ) × (f.own k ≡ a)
    own_of w l i a h = made_by f.own (processors t w f.uniform.width) i a (ap (λ (ys : List PrivatePart). slice_get ys i) (sym (s.own w l))
        ∙ h)

    alike : AreAlike (xs w) (xs v)
    alike = record {
      uniform = s.uniform w lw ∙ sym (s.uniform v lv);
      depth = λ i j a b h k.
          let x = own_of w lw i a h in
          let y = own_of v lv j b k in
          ap (λ (z : PrivatePart). length z.masks) (sym x.1) ∙ s.ranged.level x.0 y.0 ∙ ap (λ (z : PrivatePart). length z.masks) y.1;
    }

  module _ (w v : ℕ) (lw : w < workers t) (lv : v < workers t) where
    together : (a : Option (ℕ × Flat)) (each : ℕ → Option (ℕ × Worker)) → WalkedAs t (splits_instr t room) a each → AreTogether (each w)
        (each v)
    together None each h = subst (λ (o : Option (ℕ × Worker)). AreTogether o (each v)) (sym (h w lw))
        (subst (λ (o : Option (ℕ × Worker)). AreTogether None o) (sym (h v lv)) tt)
    together (Some (place, f)) each h =
        subst (λ (o : Option (ℕ × Worker)). AreTogether o (each v)) (sym (h.1 w lw))
        (subst (λ (o : Option (ℕ × Worker)). AreTogether (Some (place, h.0 w)) o) (sym (h.1 v lv)) (refl, alike f h.0 h.2 w v lw lv))

    at_one : (s : flat_run.State) (ws : ℕ → State) → Agree t room s ws → AreAtOne (ws w) (ws v)
    at_one s ws a = record {
      place = a.place w lw ∙ sym (a.place v lv);
      way = a.way w lw ∙ sym (a.way v lv);
      alike = alike s.flat (λ k. (ws k).worker) a.splits w v lw lv;
    }

    module _ (input : List ℤ) (n : ℕ) where
      abbrev states : ℕ → State
      states = worker_after t input n

      abbrev agreed : (x : flat_run.State) × Agree t room x states
      agreed = phases_agree t room n (flat_run.opening input) (opening t input) (opening_agrees t room input)

      pub between : (m : ℕ) → AreTogether (moment t input n m w) (moment t input n m v)
      between m =
          let s = agreed.0 in
          let a = agreed.1 in
          let walk = λ (k place : ℕ). walked t.bound (worker_uniform t) (after_instr t k) t.code.instructions m place (states k).worker in
          subst (λ place. AreTogether (walk w place) (moment t input n m v)) (sym (a.place w lw))
          (subst (λ place. AreTogether (walk w s.place) (walk v place)) (sym (a.place v lv))
          (together (walked t.bound (flat_uniform t) (flat.after_instr t.code) t.code.instructions m s.place s.flat) (λ k. walk k s.place)
          (walked_splits t (splits_instr t room) t.code.instructions m s.place s.flat (λ k. (states k).worker) a.splits)))

      pub exchange : ((ready t w (states w)).purpose ≡ (ready t v (states v)).purpose)
          × AreAtOne (ready t w (states w)).state (ready t v (states v)).state
      exchange =
          let r = readies t room agreed.0 states agreed.1 in (
            r.purpose w lw ∙ sym (r.purpose v lv),
            at_one (flat_run.ready (plan t) agreed.0).state (λ k. (ready t k (states k)).state)
                r.states,
          )

      pub after : AreAtOne (states w) (states v)
      after = at_one agreed.0 states agreed.1
