-- `join` gives one run of the room of two. Assumes `Logic`.
use Rattle.std.proofs.Common.{◌≡◌, ℕ, ◌+◌, ◌*◌, ◌^◌, ◌<◌, List, [], ◌∷◌, ◌++◌, refl, sym, ap, ◌∙◌, arith}
use mir.Syntax.{Fn}
use mir.Val.{Val}
use base.Logic.{SProp, emp}
use base.Fml.{froom}
use prog.Wp.{Env, WpFn}
use contract.Monad.{fact, fact_i}
use contract.Running.{tables}
use types.Kit.{‵, raw, ◌⊛◌, prop, ◌$◌, ◌∵◌, !, qed, by, move, keep, drop, use0, use1, use2, split, regoal, rewrite, fsplit, fjoin}
use types.Part.{whole, sub, agg}
use types.Run.{stop, fld, of_opd, no_more, and_then, returns, enter}
use types.ByLocal.{alloc_all, pass_all, free_all, look_at, get, get_in, sets, env}
use denote.RattleType.{owns}
use denote.RawPtr.{Ptr, block_ptr, in_a_block, ◌+ₚ◌}
use denote.Signature.{plain, types_at}
use denote.Steps.{nothing, heard}
use denote.Triple.Entry.{alive}
use denote.Triple.Walked.{Stays, stay_dropped, walk_of}
use Rattle.std.proofs.alloc.Calls.{Goes-blank}
use Rattle.std.proofs.raw_atomic.Walks.{proved_at, leaves}
use Rattle.exchange_arena.specs.Ownership.{words, run_owns}
use Rattle.exchange_arena.specs.Run.{IsRun}
use Rattle.exchange_arena.specs.contracts.run.Run as run
use Rattle.exchange_arena.proofs.Memory.{room_joined, all_out, all_in, none_at_null}
use Rattle.exchange_arena.proofs.Places.{after_words}
use Rattle.exchange_arena.proofs.Values.{word_val, word_own, word_told, word_made}
use Rattle.exchange_arena.specs.contracts.run.Run.join.{ended, clauses}
use Rattle.exchange_arena.specs.contracts.run.Run.join.Key.{name as #self}
use Rattle.exchange_arena.proofs.run.Run.join.Statement.{statement}
use Rattle.exchange_arena.proofs.run.Run.join.Code as code

pub join_spec : {M : Type 1} → statement M
join_spec 𝓤 𝓛 𝓜 𝓡 wired =
    let H = 𝓛.H in let c = clauses 𝓛 𝓜.mem 𝓡.returns in let fn : Fn = code.function in
    let Row = run.the_row in
    let stays : Stays ended.signature.params ended.kept =
    (stay_dropped (plain (λ _. Row)) ended.kept.0, (stay_dropped (plain (λ _. Row)) ended.kept.1.0, tt)) in
    let C = (tables 𝓤 H 𝓜 𝓡 𝓡.env).C in let Λ = (tables 𝓤 H 𝓜 𝓡 𝓡.env).Λ in
    proved_at 𝓛 ended stays c 𝓜 𝓡 (
      Goes-blank 𝓛 0 (plain (λ _. Row)) ended.kept.0 (λ κs x f. tt),
      (Goes-blank 𝓛 0 (plain (λ _. Row)) ended.kept.1.0 (λ κs x f. tt), tt),
    ) #self fn (code.unfolded 𝓤 H 𝓜 𝓡 wired) (λ z are.
    let Post : Val → SProp 𝓤 = (walk_of 𝓛 ended stays c).post z in
    let a = z.0.3 in let vss = z.0.4 in let h = a.0 in let k = a.1.0 in
    let Asked : Type 0 = (k.base ≡ h.base) × (k.start ≡ h.start + h.room) × ((h.room + k.room) * 8 < 2 ^ 63) in
    qed 𝓛 ((raw (alive 𝓛 ended.signature z.0.0 z.0.1) ⊛ ‵ (owns (types_at ended.signature.params z.0.0) a vss)) ∷ raw (fact 𝓤 Asked) ∷ []) ∵
    move ! (1 ∷ []) $ heard ! Asked (λ asked. split ! $ move ! (1 ∷ []) $ fsplit ! $ fsplit ! $ drop ! $
    in_a_block ! h.ptr (λ p. run_owns p h.room h.items) (none_at_null 𝓛 h.room h.items)
    (λ b o at. move ! (1 ∷ []) $ fsplit ! $ fsplit ! $ drop ! $ keep ! (2 ∷ 0 ∷ 3 ∷ []) $
    let far : k.ptr ≡ block_ptr b (h.room * 8 + o) = k.placed ∙ (λ i. asked.0 i +ₚ (asked.1 i * 8))
    ∙ sym (after_words h.base h.ptr b o h.start h.room h.placed at) in
    use1 𝓛 (‵ (froom (words h.room) b o)) (all_out 𝓛 b h.items h.room o h.fits) $ move ! (1 ∷ []) $
    rewrite ! 0 (λ (q : Ptr). ‵ (run_owns q k.room k.items)) far refl $
    use1 𝓛 (‵ (froom (words k.room) b (h.room * 8 + o))) (all_out 𝓛 b k.items k.room (h.room * 8 + o) k.fits) $
    rewrite ! 0 (λ (j : ℕ). ‵ (froom (words k.room) b j)) {x = o + h.room * 8} (omega arith) refl $ move ! (1 ∷ 0 ∷ []) $
    use2 𝓛 (‵ (froom (words (h.room + k.room)) b o)) (room_joined 𝓛 b h.room k.room (h.room + k.room) o refl) $
    regoal ! (λ (us : List Val). prop (WpFn 𝓤 H C Λ fn us Post)) (λ i. (word_told h.ptr vss.0 are.0.0
    ∙ ap (λ (p : Ptr). word_val p ∷ []) at) i ++ ((word_told k.ptr vss.1.0 are.1.0.0 ∙ ap (λ (p : Ptr). word_val p ∷ []) far) i ++ []))
    refl $
    enter ! C Λ fn (word_val (block_ptr b o) ∷ word_val (block_ptr b (h.room * 8 + o)) ∷ []) Post $
    alloc_all ! (λ l. pass_all ! refl ((tt, (tt, tt)), ((tt, (tt, tt)), tt)) $ let En : Env 𝓤 H = env fn.locals l in
    sets ! (of_opd ! (get_in ! (fld ! refl (stop !)) (sub ! 0 refl (whole !)))) refl (tt, tt) $ sets !
    (agg ! (and_then ! (get ! refl) (no_more !))) refl (tt, (tt, tt)) $
    returns ! (look_at ! 0 refl) $ free_all ! refl $
    let p : Ptr = block_ptr b o in
    let new : Row.Denot = record {
      ptr = p;
      base = h.base;
      start = h.start;
      room = h.room + k.room;
      items = [];
      placed = sym at ∙ h.placed;
      fits = omega arith;
      small = asked.2;
    } in
    let Said : Type 0 = IsRun new h.base h.start (h.room + k.room) [] in
    use1 𝓛 (‵ (run_owns p (h.room + k.room) [])) (all_in 𝓛 b (h.room + k.room) o) $ use0 𝓛 (‵ (word_own p (word_val p ∷ [])))
    (word_made 𝓛 p) $ fjoin ! $
    use0 𝓛 (raw (fact 𝓤 Said)) (fact_i 𝓤 Said (emp 𝓤) (record { base = refl; start = refl; room = refl; items = refl })) $ nothing ! $
    nothing ! $ fjoin ! $ nothing ! $ fjoin ! $ move ! (3 ∷ 0 ∷ 2 ∷ 1 ∷ []) $
    by ! (leaves 𝓛 ended stays c z (word_val p) new (tt, (tt, tt)) (tt, (tt, tt)))))))
