use Rattle.std.proofs.Common.{ℕ, suc, ◌≡◌, ◌+◌, ◌∷◌, ◌++◌, [], ◌∙◌, ap, sym, append_assoc, length, length-append, map, slice_get, Option}
use Rattle.std.proofs.Common.{List, option_to_list, arith}
use lib.ListN.{length-map}
use Rattle.turnstile.specs.Seats.{RowState}
use Rattle.turnstile.specs.Turns.{keeper}
use Rattle.turnstile.specs.Closings.{gone}
use Rattle.turnstile.proofs.Rosters.{get_seam, works_count, one_more_work}
use Rattle.turnstile.proofs.closing.take_all.Goals as goal

pub take_in-requires-clause-own : goal.take_in-requires-clause-own
take_in-requires-clause-own c =
    let now = c.loop-seat.invariant in let t : List RowState = now.taken.1 in let seat : RowState = c.in-Some.seat in
    let l : List RowState = c.pop.new.self.items in
    let popped : c.loop-seat.seats.items ≡ l ++ seat ∷ [] = c.pop.ensures.items
    ∙ ap (λ (o : Option RowState). l ++ option_to_list o) c.in-Some.is in
    let all : l ++ seat ∷ t ≡ c.args.seats.items = sym (append_assoc l (seat ∷ []) t) ∙ ap (λ (z : List RowState). z ++ t) (sym popped)
    ∙ now.taken.3 in
    let own = c.requires.seats.1 (length l) seat (ap (λ (z : List RowState). slice_get z (length l)) (sym all) ∙ get_seam l seat t) in
    let work = c.into_work.result in let table = ap (λ (r : RowState). r.table) c.into_work.ensures.value ∙ own.0 in
    let of : work.workers ≡ c.args.workers = sym c.into_work.ensures.rested.words ∙ ap (λ z. z.words) table ∙ c.requires.own.2 in
    (now.table ∙ c.requires.own.0, table, c.requires.own.1 ∙ sym of)

pub take_in-requires-clause-root : goal.take_in-requires-clause-root
take_in-requires-clause-root c =
    let now = c.loop-seat.invariant in let t : List RowState = now.taken.1 in let seat : RowState = c.in-Some.seat in
    let l : List RowState = c.pop.new.self.items in
    let popped : c.loop-seat.seats.items ≡ l ++ seat ∷ [] = c.pop.ensures.items
    ∙ ap (λ (o : Option RowState). l ++ option_to_list o) c.in-Some.is in
    let all : l ++ seat ∷ t ≡ c.args.seats.items = sym (append_assoc l (seat ∷ []) t) ∙ ap (λ (z : List RowState). z ++ t) (sym popped)
    ∙ now.taken.3 in
    let own = c.requires.seats.1 (length l) seat (ap (λ (z : List RowState). slice_get z (length l)) (sym all) ∙ get_seam l seat t) in
    let work = c.into_work.result in let table = ap (λ (r : RowState). r.table) c.into_work.ensures.value ∙ own.0 in
    let of : work.workers ≡ c.args.workers = sym c.into_work.ensures.rested.words ∙ ap (λ z. z.words) table ∙ c.requires.own.2 in
    let xs = map gone now.taken.0 in
    let at : work.worker ≡ length l = ap (λ (r : RowState). r.worker) c.into_work.ensures.value ∙ own.1 in
    let count : length xs ≡ length t = length-map now.taken.0 gone ∙ works_count t now.taken.0 now.taken.2 in
    let long : length l + suc (length t) ≡ c.args.workers = sym (length-append l (seat ∷ t)) ∙ ap length all ∙ c.requires.seats.0 in (
      xs,
      now.taken.4 ∙ (λ q. (keeper c.args.board.now.key (sym of q) (sym of q) xs, [])),
      (let a : ℕ = work.worker in let n : ℕ =
          length xs in let m : ℕ = length t in let p : ℕ = work.workers in let k : ℕ = length l in omega arith),
    )

pub loop-seat-preserved : goal.loop-seat-preserved
loop-seat-preserved c =
    let now = c.loop-seat.invariant in let t : List RowState = now.taken.1 in let seat : RowState = c.in-Some.seat in
    let l : List RowState = c.pop.new.self.items in
    let popped : c.loop-seat.seats.items ≡ l ++ seat ∷ [] = c.pop.ensures.items
    ∙ ap (λ (o : Option RowState). l ++ option_to_list o) c.in-Some.is in
    let all : l ++ seat ∷ t ≡ c.args.seats.items = sym (append_assoc l (seat ∷ []) t) ∙ ap (λ (z : List RowState). z ++ t) (sym popped)
    ∙ now.taken.3 in
    let own = c.requires.seats.1 (length l) seat (ap (λ (z : List RowState). slice_get z (length l)) (sym all) ∙ get_seam l seat t) in
    let work = c.into_work.result in let table = ap (λ (r : RowState). r.table) c.into_work.ensures.value ∙ own.0 in
    let of : work.workers ≡ c.args.workers = sym c.into_work.ensures.rested.words ∙ ap (λ z. z.words) table ∙ c.requires.own.2 in
    let team : c.loop-seat.root.me.0.team ≡ map gone now.taken.0 = ap (λ z. z.0.team) now.taken.4 in record {
      table = c.take_in.ensures.own.0 ∙ now.table;
      id = c.take_in.ensures.own.1 ∙ now.id;
      taken = (
        work ∷ now.taken.0,
        seat ∷ t,
        one_more_work t now.taken.0 seat work now.taken.2 c.into_work.ensures.value c.into_work.ensures.rested,
        all,
        c.take_in.ensures.root ∙ (λ q. (keeper c.args.board.now.key (of q) (of q) (gone work ∷ team q), [])),
      );
    }
