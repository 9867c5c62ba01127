use Rattle.std.proofs.Common.{ℕ, ◌+◌, ◌≤◌, ◌≡◌, ◌++◌, ◌∷◌, [], length, length-append, Option, List, ◌∙◌, ap, sym, subst, arith}
use Rattle.std.specs.Option.{option_to_list}
use Rattle.std.proofs.lemmas.List.Elements.{All-pop}
use Rattle.turnstile.specs.declared.opening.Bench.{Bench}
use Rattle.turnstile.specs.Benches.{AreSeated, IsBare}
use Rattle.turnstile.proofs.Rosters.{seated_end}
use Rattle.turnstile.proofs.opening.seat_all.Goals as goal

pub loop-worker-preserved : goal.loop-worker-preserved
loop-worker-preserved c =
    let now = c.loop-worker.invariant in let one = c.seat_one.ensures in let pushed = c.push_reserved.ensures in let k : ℕ =
    c.loop-worker.worker in
    let rest : List Bench = c.pop.new.self.items in
    let popped : c.loop-worker.benches.items ≡ rest ++ c.unwrap-bench.result ∷ [] = c.pop.ensures.items
    ∙ ap (λ (o : Option Bench). rest ++ option_to_list o) c.unwrap-bench.ensures in
    record {
      seated = subst (AreSeated c.args.root.now.table_id c.args.workers c.args.board.now.key.room (k + 1)) (sym pushed.items)
          (seated_end c.args.root.now.table_id c.args.workers c.args.board.now.key.room k c.loop-worker.seats.items c.seat_one.result
          now.seated (subst (λ id. Rattle.turnstile.specs.Benches.IsSeated id c.args.workers c.args.board.now.key.room k
          c.seat_one.result) now.table one.seat));
      room = subst (λ (z : ℕ). c.args.workers ≤ z) (sym pushed.capacity) now.room;
      table = one.own.0 ∙ now.table;
      id = one.own.1 ∙ now.id;
      root = one.root;
      count = (let l = ap length popped ∙ length-append rest (c.unwrap-bench.result ∷ []) in let n : ℕ = length rest in let a = now.count in
          omega arith);
      bare = (All-pop (IsBare c.args.workers) c.loop-worker.benches.items rest c.pop.result c.pop.ensures.items now.bare).0;
    }
