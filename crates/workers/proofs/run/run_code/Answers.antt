use Rattle.std.proofs.Common.{◌≡◌, ℕ, Ok, Err, Bool, Option, Some, None, inr, refl, sym, ap, ◌∙◌, subst, arith, Vec, Global}
use Rattle.std.specs.Prelude.{slice_get, IfOk, IfErr, IfSome, Result, List, ℤ}
use Rattle.address_map.specs.Lawful.{Shape}
use Rattle.superstep_instructions.specs.Code.{SuperstepCode}
use Rattle.worker_exchange.specs.declared.refusal.RunRefusal.{RunRefusal}
use Rattle.worker_exchange.specs.Opened.{IsAccepted, IsRefusal}
use Rattle.worker_exchange.specs.Equipped.{most_words}
use Rattle.bsp_machine.specs.declared.counted.CountedWorker.{CountedWorker}
use Rattle.run_options.specs.declared.reserve.Reserve.{Reserve}
use Rattle.bsp_machine.specs.Workers.{AreKept}
use Rattle.bsp_machine.specs.Reserves.{HaveReserve, refusal_for}
use Rattle.bsp_machine.specs.Opening.{AreFresh}
use Rattle.std.proofs.lemmas.Option.{slice_get-get_or}
use Rattle.turnstile.specs.Seats as seat
use Rattle.turnstile.specs.Seats.{TurnstileShape}
use Rattle.workers.specs.Gathered.{HaveEnded}
use Rattle.workers.specs.Past.{ComesPast, IsRefusalWith, StaysWithin}
use Rattle.worker_exchange.proofs.OpeningLemmas.{few_words}
use Rattle.workers.proofs.run.run_code.Goals as goal

if_ok : {A E : Type 0} (P Q : A → Type 0) → ((a : A) → P a → Q a) → (r : Result A E) → IfOk r P → IfOk r Q
if_ok P Q f (Ok a) h = f a h
if_ok P Q f (Err e) h = h

if_err : {A E : Type 0} (P Q : E → Type 0) → ((e : E) → P e → Q e) → (r : Result A E) → IfErr r P → IfErr r Q
if_err P Q f (Ok a) h = h
if_err P Q f (Err e) h = f e h

-- workers that have stopped were refused memory, or came past the reserve that they have
refused_with : {A : Type 0} (code : SuperstepCode) (m : Shape) (workers : ℕ) (input : List ℤ) (bound : ℕ) (reserve : Option Reserve)
    (r : Result A RunRefusal) → IsAccepted code m workers input → IfErr r (λ refusal. refusal ≡ refusal_for reserve) →
    ((given : Reserve) → reserve ≡ Some given → IfErr r (λ refusal. ComesPast code m bound input given)) →
    IfErr r (IsRefusalWith code m workers input bound reserve)
refused_with code m workers input bound reserve (Ok a) accepted is past = tt
refused_with code m workers input bound None (Err e) accepted is past = subst (IsRefusal code m workers input) (sym is) accepted
refused_with code m workers input bound (Some given) (Err e) accepted is past = inr (is, accepted, past given refl)

within_with : {A E : Type 0} (code : SuperstepCode) (m : Shape) (input : List ℤ) (bound : ℕ) (reserve : Option Reserve) (r : Result A E) →
    ((given : Reserve) → reserve ≡ Some given → IfOk r (λ found. ¬ (ComesPast code m bound input given))) →
    IfOk r (λ found. StaysWithin code m bound input reserve)
within_with code m input bound reserve (Err e) within = tt
within_with code m input bound None (Ok a) within = tt
within_with code m input bound (Some given) (Ok a) within = within given refl

pub new-requires-2-clause-room : goal.new-requires-2-clause-room
new-requires-2-clause-room g c =
    let code = c.args.code.now in
    let m = g.M.AddressMap.shape c.args.map.now in
    let workers = c.in_ok-opened.opened.items in
    let x = c.index.result.now in
    let accepted = c.in_ok-opened.ensures.accepted in
    let parts = accepted.map.modules in
    let few = accepted.few in
    let many = c.in_ok-opened.ensures.count in
    let here : slice_get workers 0 ≡ Some x = slice_get-get_or workers 0 x (omega (arith, few, many)) ∙ ap (λ y. Some y)
    (sym c.index.ensures) in
    let reply = ((c.in_ok-opened.ensures.opened 0 x here).going c.args.terms.bound).equipped.buffers.reply in
    let most : c.capacity-most.result ≡ most_words code m = c.capacity-most.ensures ∙ reply in
    let short = few_words code m c.instructions-instructions.ensures.stands (omega (arith, few, parts)) in
    omega (arith, most, short)

pub play_all-seats-requires-clause-begin : goal.play_all-seats-requires-clause-begin
play_all-seats-requires-clause-begin g c κs within =
    let code = c.args.code.now in
    let m = g.M.AddressMap.shape c.args.map.now in
    let workers = c.in_ok-opened.opened.items in
    let x = c.index.result.now in
    let accepted = c.in_ok-opened.ensures.accepted in
    let parts = accepted.map.modules in
    let few = accepted.few in
    let many = c.in_ok-opened.ensures.count in
    let here : slice_get workers 0 ≡ Some x = slice_get-get_or workers 0 x (omega (arith, few, many)) ∙ ap (λ y. Some y)
    (sym c.index.ensures) in
    let goes = (c.in_ok-opened.ensures.opened 0 x here).going c.args.terms.bound in
    let most : c.capacity-most.result ≡ most_words code m = c.capacity-most.ensures ∙ goes.equipped.buffers.reply in
    let made = c.in-Ok-new.ensures in
    let same = c.set_looks.ensures in
    let seats = c.in-Ok-new.seats.items in
    record {
      runnable = goes.runnable;
      parts = ap (λ (t : TurnstileShape). t.workers) same ∙ made.workers ∙ sym parts;
      room = ap (λ (t : TurnstileShape). t.room) same ∙ made.room ∙ most;
      all = subst (λ (t : TurnstileShape). seat.AreSeatsOf t seats) (sym same) made.seats;
      fresh = subst (λ (t : TurnstileShape). seat.AreFresh t seats) (sym same) made.fresh;
      many = many ∙ sym parts;
      opened = record { input = c.args.input.now; fresh = c.in_ok-opened.ensures.opened };
    }

pub gather-requires-clause-runnable : goal.gather-requires-clause-runnable
gather-requires-clause-runnable g c =
    let workers = c.in_ok-opened.opened.items in
    let x = c.index.result.now in
    let few = c.in_ok-opened.ensures.accepted.few in
    let many = c.in_ok-opened.ensures.count in
    let here : slice_get workers 0 ≡ Some x = slice_get-get_or workers 0 x (omega (arith, few, many)) ∙ ap (λ y. Some y)
    (sym c.index.ensures) in
    ((c.in_ok-opened.ensures.opened 0 x here).going c.args.terms.bound).runnable

pub gather-requires-clause-ended : goal.gather-requires-clause-ended
gather-requires-clause-ended g c = record {
  bound = c.args.terms.bound;
  input = c.args.input.now;
  ended = (subst (λ (o : Option (Vec CountedWorker Global)). IfSome o (λ ended. (input : List ℤ) →
      AreFresh c.args.code.now (g.M.AddressMap.shape c.args.map.now) input c.in_ok-opened.opened.items →
      HaveEnded c.args.code.now (g.M.AddressMap.shape c.args.map.now) c.args.terms.bound input c.play_all-seats.result.0.items ended.items))
      c.in-Some.is c.play_all-seats.ensures.ended c.args.input.now c.in_ok-opened.ensures.opened);
}

pub returns-in-Some-clause-outcome : goal.returns-in-Some-clause-outcome
returns-in-Some-clause-outcome g c =
    if_ok _ _ (λ found h. h c.args.terms.bound c.args.input.now
    (subst (λ (o : Option (Vec CountedWorker Global)). IfSome o (λ ended. (input : List ℤ) →
    AreFresh c.args.code.now (g.M.AddressMap.shape c.args.map.now) input c.in_ok-opened.opened.items →
    HaveEnded c.args.code.now (g.M.AddressMap.shape c.args.map.now) c.args.terms.bound input c.play_all-seats.result.0.items ended.items))
    c.in-Some.is c.play_all-seats.ensures.ended c.args.input.now c.in_ok-opened.ensures.opened)) c.gather.result
    c.gather.ensures.outcome

pub returns-in-Some-clause-counts : goal.returns-in-Some-clause-counts
returns-in-Some-clause-counts g c =
    if_ok _ _ (λ found h. h c.args.terms.bound c.args.input.now
    (subst (λ (o : Option (Vec CountedWorker Global)). IfSome o (λ ended. (input : List ℤ) →
    AreFresh c.args.code.now (g.M.AddressMap.shape c.args.map.now) input c.in_ok-opened.opened.items →
    HaveEnded c.args.code.now (g.M.AddressMap.shape c.args.map.now) c.args.terms.bound input c.play_all-seats.result.0.items ended.items))
    c.in-Some.is c.play_all-seats.ensures.ended c.args.input.now c.in_ok-opened.ensures.opened)) c.gather.result
    c.gather.ensures.counts

pub returns-in-Some-clause-kept : goal.returns-in-Some-clause-kept
returns-in-Some-clause-kept g c = λ kept.
    let opened = c.in_ok-opened.opened.items in
    let all = subst (λ (o : Option (Vec CountedWorker Global)). IfSome o (λ ended. (kept : Bool) → AreKept kept opened →
    AreKept kept ended.items)) c.in-Some.is c.play_all-seats.ensures.kept c.args.kept c.in_ok-opened.ensures.kept in
    c.gather.ensures.kept (subst (λ b. AreKept b c.in-Some.ended.items) kept all)

-- ---- the reserve

pub returns-in-Some-clause-refused : goal.returns-in-Some-clause-refused
returns-in-Some-clause-refused g c =
    let code = c.args.code.now in
    let m = g.M.AddressMap.shape c.args.map.now in
    let opened = c.in_ok-opened.opened.items in
    let ended = subst (λ (o : Option (Vec CountedWorker Global)). IfSome o (λ ended. (input : List ℤ) → AreFresh code m input opened →
    HaveEnded code m c.args.terms.bound input c.play_all-seats.result.0.items ended.items))
    c.in-Some.is c.play_all-seats.ensures.ended c.args.input.now c.in_ok-opened.ensures.opened in
    let have = subst (λ (o : Option (Vec CountedWorker Global)). IfSome o (λ ended. (reserve : Option Reserve) → HaveReserve
    reserve opened →
    HaveReserve reserve ended.items)) c.in-Some.is c.play_all-seats.ensures.reserve c.args.terms.reserve c.in_ok-opened.ensures.given in
    refused_with code m c.args.terms.workers c.args.input.now c.args.terms.bound c.args.terms.reserve c.gather.result
    c.in_ok-opened.ensures.accepted
    (c.gather.ensures.given c.args.terms.reserve have)
    (λ reserve is. if_err _ _ (λ refusal h. h c.args.terms.bound c.args.input.now reserve ended
    (subst (λ o. HaveReserve o c.in-Some.ended.items) is have)) c.gather.result c.gather.ensures.past)

pub returns-in-Some-clause-within : goal.returns-in-Some-clause-within
returns-in-Some-clause-within g c =
    let code = c.args.code.now in
    let m = g.M.AddressMap.shape c.args.map.now in
    let opened = c.in_ok-opened.opened.items in
    let ended = subst (λ (o : Option (Vec CountedWorker Global)). IfSome o (λ ended. (input : List ℤ) → AreFresh code m input opened →
    HaveEnded code m c.args.terms.bound input c.play_all-seats.result.0.items ended.items))
    c.in-Some.is c.play_all-seats.ensures.ended c.args.input.now c.in_ok-opened.ensures.opened in
    let have = subst (λ (o : Option (Vec CountedWorker Global)). IfSome o (λ ended. (reserve : Option Reserve) → HaveReserve
    reserve opened →
    HaveReserve reserve ended.items)) c.in-Some.is c.play_all-seats.ensures.reserve c.args.terms.reserve c.in_ok-opened.ensures.given in
    within_with code m c.args.input.now c.args.terms.bound c.args.terms.reserve c.gather.result
    (λ reserve is. if_ok _ _ (λ found h. h c.args.terms.bound c.args.input.now reserve ended
    (subst (λ o. HaveReserve o c.in-Some.ended.items) is have)) c.gather.result c.gather.ensures.within)
