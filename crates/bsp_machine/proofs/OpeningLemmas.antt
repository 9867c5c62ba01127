-- Workers before the first instruction are a run.
use Rattle.std.proofs.Common.{◌≡◌, ℕ, ◌+◌, List, [], ◌∷◌, ◌++◌, length, Bool, Option, None, ℤ, sym, ap, ◌∙◌, subst, arith}
use Rattle.std.specs.Prelude.{slice_get}
use Rattle.std.proofs.lemmas.List.{length-append}
use Rattle.address_map.specs.Lawful.{Shape}
use Rattle.superstep_instructions.specs.Code.{SuperstepCode}
use Rattle.bsp_machine.specs.declared.counted.CountedWorker.{CountedWorker}
use Rattle.run_options.specs.declared.reserve.Reserve.{Reserve}
use Rattle.bsp_machine.specs.Reserves.{HaveReserve, AreGiven}
use Rattle.exchange_counts.specs.Tallies.{is_kept}
use Rattle.bsp_machine.specs.Workers.{AreKept}
use Rattle.bsp_machine.specs.Opening.{IsFresh, AreFresh}
use Rattle.bsp_machine.specs.Ended.{AreRunning}
use Rattle.bsp_machine.proofs.ListLemmas.{each_added}
use Rattle.bsp_machine.proofs.MarkLemmas.{going_on, never}
use Rattle.bsp_machine.proofs.TallyLemmas.{none_told}

module _ (code : SuperstepCode) (m : Shape) (input : List ℤ) where
  pub fresh_run : (bound : ℕ) (all : List CountedWorker) → AreFresh code m input all → AreRunning code m bound input all
  fresh_run bound all fresh = record {
    exchanges = 0;
    behind = λ w x at. (let f = fresh w x at in record {
      worker = λ alive. f.worker;
      shown = λ alive n low. f.shown bound n;
      going = λ on. f.going bound;
      counted = λ alive n low. none_told x.counts f.none f.none_made;
      items = λ alive. f.items;
      reserved = λ alive. f.reserved;
    });
    together = λ w v x y at too.
        going_on x.local.way ((fresh w x at).going 0).going ∙ sym (going_on y.local.way ((fresh v y too).going 0).going);
    before = λ n low i l. absurd (omega (arith, l));
  }

  pub more_fresh : (worker : CountedWorker) (old new : List CountedWorker) (w : ℕ) → new ≡ old ++ worker ∷ [] → length old ≡ w →
      AreFresh code m input old → IsFresh code m input w worker → AreFresh code m input new
  more_fresh worker old new w added long fresh last v x at =
      subst (λ j. IsFresh code m input j x) (let same : 0 + v ≡ v = omega arith in same)
      (each_added old worker (IsFresh code m input) 0
      (λ i y e. subst (λ j. IsFresh code m input j y) (let same : i ≡ 0 + i = omega arith in same) (fresh i y e))
      (subst (λ j. IsFresh code m input j worker) (let same : w ≡ 0 + length old = omega (arith, long) in same) last) v x
      (ap (λ ys. slice_get ys v) (sym added) ∙ at))

pub more_long : (worker : CountedWorker) (old new : List CountedWorker) (w : ℕ) → new ≡ old ++ worker ∷ [] → length old ≡ w →
    length new ≡ w + 1
more_long worker old new w added long = ap length added ∙ length-append old (worker ∷ []) ∙ ap (λ k. k + 1) long

pub more_unreserved : (worker : CountedWorker) (old new : List CountedWorker) → new ≡ old ++ worker ∷ [] → HaveReserve None old →
    worker.reserve ≡ None → HaveReserve None new
more_unreserved worker old new added have last v x at =
    each_added old worker (λ i y. y.reserve ≡ None) 0 have last v x (ap (λ ys. slice_get ys v) (sym added) ∙ at)

pub more_kept : (kept : Bool) (worker : CountedWorker) (old new : List CountedWorker) → new ≡ old ++ worker ∷ [] → AreKept kept old →
    is_kept worker.counts ≡ kept → AreKept kept new
more_kept kept worker old new added have last v x at =
    each_added old worker (λ i y. is_kept y.counts ≡ kept) 0 have last v x (ap (λ ys. slice_get ys v) (sym added) ∙ at)

-- none of them has stopped
pub fresh_given : (code : SuperstepCode) (m : Shape) (input : List ℤ) (all : List CountedWorker) (reserve : Option Reserve) →
    AreFresh code m input all → HaveReserve reserve all → AreGiven reserve all
fresh_given code m input all reserve fresh have w x at = record {
  given = have w x at;
  stopped = λ mark way. absurd (never x.local.way mark way (going_on x.local.way ((fresh w x at).going 0).going));
}
