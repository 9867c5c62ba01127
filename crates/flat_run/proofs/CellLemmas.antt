-- The cells that a send settles, and the answers of a reply.
use Rattle.std.proofs.Common.{◌≡◌, ℕ, zero, suc, ◌+◌, ◌<◌, ◌≤◌, List, [], ◌∷◌, length, map, drop, Option, None, ℤ, refl, sym, ap, ◌∙◌}
use Rattle.std.proofs.Common.{arith, ⊎_elim, cond, slice_index_or, slice_set}
use Rattle.std.proofs.lemmas.Bool.Decides.{eqb_tells}
use Rattle.std.proofs.lemmas.List.{length-set}
use Rattle.std.specs.List.{zip}
use Rattle.pram_model.specs.declared.rule.Rule.{Rule}
use Rattle.write_rules.specs.declared.entry.Entry.{Entry}
use Rattle.superstep_machine.specs.Parts.{Registers, Read}
use Rattle.superstep_machine.specs.Sending.{verdict_on, settled}
use Rattle.superstep_machine.specs.Answering.{answer, answers, destinations}
use Rattle.instruction_steps.specs.declared.read.Read.{Read as HeldRead}
use Rattle.instruction_steps.specs.Views.{registers_of, read_is}
use Rattle.flat_run.specs.Views.{held_of}
use Rattle.flat_run.proofs.ListLemmas.{split_at, drop_all, at_or_before, below_or_past}
use Rattle.instruction_steps.proofs.RegisterLemmas.{set_is}

-- ---- a send

-- the cells below c are settled, and the others are not
pub record AreSettled (rule : Rule) (held : List (Option Entry)) (old new : List ℤ) (c : ℕ) : Type 0 where
  pub count : length new ≡ length old
  pub done : (k : ℕ) → k < c → registers_of new k ≡ settled (verdict_on rule (held_of held k)) (registers_of old k)
  pub rest : (k : ℕ) → c ≤ k → registers_of new k ≡ registers_of old k

set_there : (xs : List ℤ) (d : ℕ) (x : ℤ) → d < length xs → (k : ℕ) → (k ≡ d) → registers_of (slice_set xs d x) k ≡ x
set_there xs d x h k e = ap (λ (r : Registers). r k) (set_is xs d x h)
    ∙ ⊎_elim (λ q. ap (λ b. cond b x (registers_of xs k)) q.0) (λ q. absurd (q.1 (sym e))) (eqb_tells d k)

set_elsewhere : (xs : List ℤ) (d : ℕ) (x : ℤ) → d < length xs → (k : ℕ) → (k ≡ d → ⊥) →
    registers_of (slice_set xs d x) k ≡ registers_of xs k
set_elsewhere xs d x h k e = ap (λ (r : Registers). r k) (set_is xs d x h)
    ∙ ⊎_elim (λ q. absurd (e (sym q.1))) (λ q. ap (λ b. cond b x (registers_of xs k)) q.0) (eqb_tells d k)

pub past_held : (held : List (Option Entry)) (k : ℕ) → length held ≤ k → held_of held k ≡ None
past_held [] k h = refl
past_held (x ∷ xs) zero h = absurd (omega arith)
past_held (x ∷ xs) (suc k) h = past_held xs k (omega arith)

module _ (rule : Rule) (held : List (Option Entry)) (old : List ℤ) where
  pub settles_start : AreSettled rule held old old 0
  settles_start = record { count = refl; done = λ k h. absurd (omega arith); rest = λ k h. refl }

  pub settles_go : (new : List ℤ) (c : ℕ) (x : ℤ) → AreSettled rule held old new c → c < length old →
      x ≡ settled (verdict_on rule (held_of held c)) (registers_of new c) → AreSettled rule held old (slice_set new c x) (c + 1)
  settles_go new c x h l e =
      let n = h.count in
      let inside : c < length new = omega (arith, n, l) in
      record {
        count = length-set new c x ∙ h.count;
        done = λ k m. ⊎_elim
            (λ (here : k ≡ c). set_there new c x inside k here ∙ e
            ∙ ap (settled (verdict_on rule (held_of held c))) (h.rest c (omega arith))
            ∙ sym (ap (λ j. settled (verdict_on rule (held_of held j)) (registers_of old j)) here))
            (λ (before : k < c). set_elsewhere new c x inside k (λ here. omega (arith, here, before)) ∙ h.done k before)
            (at_or_before k c m);
        rest = λ k m. set_elsewhere new c x inside k (λ here. omega (arith, here, m)) ∙ h.rest k (omega (arith, m));
      }

  pub settles_end : (new : List ℤ) (c : ℕ) → AreSettled rule held old new c → length held ≤ c → (k : ℕ) →
      registers_of new k ≡ settled (verdict_on rule (held_of held k)) (registers_of old k)
  settles_end new c h l k =
      ⊎_elim
      (λ (m : k < c). h.done k m)
      (λ (m : c ≤ k). h.rest k m ∙ sym
      (ap (λ x. settled (verdict_on rule x) (registers_of old k)) (past_held held k (omega (arith, l, m)))))
      (below_or_past k c)

-- ---- a reply

zip_nothing : {A B : Type 0} (xs : List A) → ◌≡◌ {A = List (A × B)} (zip xs []) []
zip_nothing [] = refl
zip_nothing (x ∷ xs) = refl

module _ (value : ℕ → ℕ → ℤ) where
  -- the rest of a processor's answers
  abbrev pub own_left : List HeldRead → List (Option ℕ) → ℕ → Registers → Registers
  own_left reads cells k r = answers value k (zip (destinations (map read_is (drop k reads))) (drop k cells)) r

  pub own_goes : (reads : List HeldRead) (cells : List (Option ℕ)) (k : ℕ) (x : HeldRead) (c : Option ℕ) (r : Registers) →
      k < length reads → k < length cells →
      x ≡ slice_index_or reads k x → c ≡ slice_index_or cells k c →
      own_left reads cells k r ≡ own_left reads cells (k + 1) (answer (value k) x.destination c r)
  own_goes reads cells k x c r h l e f =
      ap (λ (xs : List HeldRead). answers value k (zip (destinations (map read_is xs)) (drop k cells)) r) (split_at reads k x h e)
      ∙ ap (λ cs. answers value k (zip (destinations (map read_is (x ∷ drop (k + 1) reads))) cs) r) (split_at cells k c l f)

  pub own_ends_reads : (reads : List HeldRead) (cells : List (Option ℕ)) (k : ℕ) (r : Registers) → length reads ≤ k →
      own_left reads cells k r ≡ r
  own_ends_reads reads cells k r h =
      ap (λ (xs : List HeldRead). answers value k (zip (destinations (map read_is xs)) (drop k cells)) r) (drop_all reads k h)

  pub own_ends_cells : (reads : List HeldRead) (cells : List (Option ℕ)) (k : ℕ) (r : Registers) → length cells ≤ k →
      own_left reads cells k r ≡ r
  own_ends_cells reads cells k r h =
      ap (λ cs. answers value k (zip (destinations (map read_is (drop k reads))) cs) r) (drop_all cells k h)
      ∙ ap (λ ps. answers value k ps r) (zip_nothing {B = Option ℕ} (destinations (map read_is (drop k reads))))

  -- the rest of the answers to the uniform part
  abbrev pub uniform_left : List HeldRead → ℕ → Registers → Registers
  uniform_left reads k r = answers value k (map (λ (x : Read). (x.destination, x.cell)) (map read_is (drop k reads))) r

  pub uniform_goes : (reads : List HeldRead) (k : ℕ) (x : HeldRead) (r : Registers) → k < length reads → x ≡ slice_index_or reads k x →
      uniform_left reads k r ≡ uniform_left reads (k + 1) (answer (value k) x.destination x.cell r)
  uniform_goes reads k x r h e =
      ap (λ (xs : List HeldRead). answers value k (map (λ (y : Read). (y.destination, y.cell)) (map read_is xs)) r)
      (split_at reads k x h e)

  pub uniform_ends : (reads : List HeldRead) (k : ℕ) (r : Registers) → length reads ≤ k → uniform_left reads k r ≡ r
  uniform_ends reads k r h = ap (λ (xs : List HeldRead). answers value k (map (λ (y : Read). (y.destination, y.cell)) (map read_is xs)) r)
      (drop_all reads k h)
