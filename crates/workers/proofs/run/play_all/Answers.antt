use Rattle.std.proofs.Common.{length, map, sym, ap, ◌∙◌, subst, arith}
use Rattle.std.specs.Prelude.{List}
use Rattle.turnstile.specs.Seats.{RowState, AreSeatsOf}
use Rattle.bsp_machine.specs.declared.counted.CountedWorker.{CountedWorker}
use Rattle.bsp_machine.specs.Workers.{AreKept}
use Rattle.bsp_machine.specs.Reserves.{HaveReserve}
use Rattle.workers.specs.Gathered.{HaveEnded}
use Rattle.workers.specs.Tasks.{TaskState, HasPlayed}
use Rattle.workers.specs.Crews.{Pairwise}
use Rattle.workers.proofs.RunLemmas.{all_ready, many_tasks, many_played, seats_back, all_ended, same_reserve, same_kept, seats_unused}
use Rattle.workers.proofs.run.play_all.Goals as goal

pub tasks_of-tasks-requires-clause-ready : goal.tasks_of-tasks-requires-clause-ready
tasks_of-tasks-requires-clause-ready g c =
    all_ready g.M.AddressMap.shape (record {
      turnstile = c.args.turnstile.now;
      code = c.args.code.now;
      map = c.args.map.now;
      bound =
          c.args.bound;
    }) c.args.seats.items c.args.workers.items c.requires.begin

pub work_all-requires-clause-count : goal.work_all-requires-clause-count
work_all-requires-clause-count g c κs within =
    ap length c.tasks_of-tasks.ensures
    ∙ many_tasks g.M.AddressMap.shape (record {
      turnstile = c.args.turnstile.now;
      code = c.args.code.now;
      map = c.args.map.now;
      bound =
          c.args.bound;
    }) c.args.seats.items c.args.workers.items c.requires.begin
    ∙ sym c.requires.room

pub unzipped-back-requires-clause-seats : goal.unzipped-back-requires-clause-seats
unzipped-back-requires-clause-seats g c =
    let shape = g.M.AddressMap.shape in
    let room = c.args.room.seats_room in
    let all = c.requires.room in
    let done = subst (λ (ts : List (TaskState g.row.M.Denot)). Pairwise (λ x y. HasPlayed shape x y.0 y.1) ts c.in-Ok.played.items)
    c.tasks_of-tasks.ensures c.in-Ok.ensures.done in
    let many = many_played shape (record {
      turnstile = c.args.turnstile.now;
      code = c.args.code.now;
      map = c.args.map.now;
      bound =
          c.args.bound;
    }) c.args.seats.items c.args.workers.items c.requires.begin c.in-Ok.played.items done in
    (room.0, omega (arith, room.1, all, many))

pub unzipped-back-requires-clause-workers : goal.unzipped-back-requires-clause-workers
unzipped-back-requires-clause-workers g c =
    let shape = g.M.AddressMap.shape in
    let room = c.args.room.workers_room in
    let all = c.requires.room in
    let done = subst (λ (ts : List (TaskState g.row.M.Denot)). Pairwise (λ x y. HasPlayed shape x y.0 y.1) ts c.in-Ok.played.items)
    c.tasks_of-tasks.ensures c.in-Ok.ensures.done in
    let many = many_played shape (record {
      turnstile = c.args.turnstile.now;
      code = c.args.code.now;
      map = c.args.map.now;
      bound =
          c.args.bound;
    }) c.args.seats.items c.args.workers.items c.requires.begin c.in-Ok.played.items done in
    (room.0, omega (arith, room.1, all, many))

pub returns-in-Ok-clause-seats : goal.returns-in-Ok-clause-seats
returns-in-Ok-clause-seats g c =
    let shape = g.M.AddressMap.shape in
    let done = subst (λ (ts : List (TaskState g.row.M.Denot)). Pairwise (λ x y. HasPlayed shape x y.0 y.1) ts c.in-Ok.played.items)
    c.tasks_of-tasks.ensures c.in-Ok.ensures.done in
    subst (AreSeatsOf c.args.turnstile.now) (sym c.unzipped-back.ensures.seats)
    (seats_back shape (record { turnstile = c.args.turnstile.now; code = c.args.code.now; map = c.args.map.now; bound = c.args.bound })
    c.args.seats.items c.args.workers.items c.requires.begin c.in-Ok.played.items done)

pub returns-in-Ok-clause-ended : goal.returns-in-Ok-clause-ended
returns-in-Ok-clause-ended g c input fresh =
    let shape = g.M.AddressMap.shape in
    let done = subst (λ (ts : List (TaskState g.row.M.Denot)). Pairwise (λ x y. HasPlayed shape x y.0 y.1) ts c.in-Ok.played.items)
    c.tasks_of-tasks.ensures c.in-Ok.ensures.done in
    subst (λ (z : List RowState × List CountedWorker). HaveEnded c.args.code.now (shape c.args.map.now) c.args.bound input z.0 z.1)
    (λ i. (sym c.unzipped-back.ensures.seats i, sym c.unzipped-back.ensures.workers i))
    (all_ended shape (record { turnstile = c.args.turnstile.now; code = c.args.code.now; map = c.args.map.now; bound = c.args.bound })
    c.args.seats.items c.args.workers.items c.requires.begin c.in-Ok.played.items done input fresh)

pub returns-in-Ok-clause-reserve : goal.returns-in-Ok-clause-reserve
returns-in-Ok-clause-reserve g c reserve have =
    let shape = g.M.AddressMap.shape in
    let done = subst (λ (ts : List (TaskState g.row.M.Denot)). Pairwise (λ x y. HasPlayed shape x y.0 y.1) ts c.in-Ok.played.items)
    c.tasks_of-tasks.ensures c.in-Ok.ensures.done in
    subst (HaveReserve reserve) (sym c.unzipped-back.ensures.workers)
    (same_reserve shape (record { turnstile = c.args.turnstile.now; code = c.args.code.now; map = c.args.map.now; bound = c.args.bound })
    c.args.seats.items c.args.workers.items c.requires.begin c.in-Ok.played.items done reserve have)

pub returns-in-Ok-clause-kept : goal.returns-in-Ok-clause-kept
returns-in-Ok-clause-kept g c kept have =
    let shape = g.M.AddressMap.shape in
    let done = subst (λ (ts : List (TaskState g.row.M.Denot)). Pairwise (λ x y. HasPlayed shape x y.0 y.1) ts c.in-Ok.played.items)
    c.tasks_of-tasks.ensures c.in-Ok.ensures.done in
    subst (AreKept kept) (sym c.unzipped-back.ensures.workers)
    (same_kept shape (record { turnstile = c.args.turnstile.now; code = c.args.code.now; map = c.args.map.now; bound = c.args.bound })
    c.args.seats.items c.args.workers.items c.requires.begin c.in-Ok.played.items done kept have)

pub unused-requires : goal.unused-requires
unused-requires g c =
    let room = c.args.room.seats_room in
    let all = c.requires.room in
    let many = ap length c.in-Err.ensures.refused ∙ ap length c.tasks_of-tasks.ensures
    ∙ many_tasks g.M.AddressMap.shape (record {
      turnstile = c.args.turnstile.now;
      code = c.args.code.now;
      map = c.args.map.now;
      bound =
          c.args.bound;
    }) c.args.seats.items c.args.workers.items c.requires.begin in
    record { room = (room.0, omega (arith, room.1, all, many)) }

pub returns-in-Err-clause-seats : goal.returns-in-Err-clause-seats
returns-in-Err-clause-seats g c =
    subst (AreSeatsOf c.args.turnstile.now)
    (sym (c.unused.ensures ∙ ap (map (λ (x : TaskState g.row.M.Denot). x.seat)) (c.in-Err.ensures.refused ∙ c.tasks_of-tasks.ensures)))
    (seats_unused g.M.AddressMap.shape (record {
      turnstile = c.args.turnstile.now;
      code = c.args.code.now;
      map = c.args.map.now;
      bound =
          c.args.bound;
    }) c.args.seats.items c.args.workers.items c.requires.begin)
