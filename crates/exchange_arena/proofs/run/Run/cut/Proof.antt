-- `cut` gives two runs of the room of one. Assumes `Logic`.
use Rattle.std.proofs.Common.{◌≡◌, ℕ, ◌+◌, ◌-◌, ◌*◌, ◌^◌, ◌<◌, ◌≤◌, List, [], ◌∷◌, ◌++◌, refl, sym, ap, ◌∙◌, arith, w64}
use mir.Syntax.{Fn}
use mir.Val.{Val, vint}
use base.Logic.{SProp, emp}
use base.Fml.{froom}
use prog.Wp.{Env, WpFn}
use contract.Monad.{fact, fact_i}
use contract.Running.{tables}
use types.Kit.{‵, raw, ◌⊛◌, prop, at_ret, ◌$◌, ◌∵◌, !, qed, by, move, drop, use0, use1, use2, split, regoal, rewrite, fsplit, fjoin}
use types.Part.{whole, sub, agg}
use types.Run.{stop, fld, of_opd, no_more, and_then, bin, lit, first, blocks, exec, returns, enter}
use types.ByLocal.{alloc_all, pass_all, free_all, look_at, get, get_in, sets, sets_last, env}
use denote.RattleType.{owns}
use denote.Builtin.{usize}
use denote.RawPtr.{Ptr, block_ptr, in_a_block}
use denote.Signature.{plain, types_at}
use denote.Steps.{nothing, heard}
use denote.Struct.Tuple.{Tuple}
use denote.Triple.Entry.{alive}
use denote.Triple.Walked.{Stays, stay_dropped, walk_of, Goes-dropped}
use Rattle.std.proofs.alloc.Calls.{Goes-blank}
use Rattle.std.proofs.alloc.Shapes.{after}
use Rattle.std.proofs.raw_atomic.Walks.{proved_at, leaves}
use Rattle.exchange_arena.specs.Ownership.{words, run_owns}
use Rattle.exchange_arena.specs.Run.{IsRun}
use Rattle.exchange_arena.specs.contracts.run.Run as run
use Rattle.exchange_arena.proofs.Memory.{room_parted, all_out, all_in, none_at_null}
use Rattle.exchange_arena.proofs.Places.{after_words}
use Rattle.exchange_arena.proofs.Values.{pair_of, pair_val, word_val, word_own, word_told, word_made}
use Rattle.exchange_arena.specs.contracts.run.Run.cut.{ended, clauses}
use Rattle.exchange_arena.specs.contracts.run.Run.cut.Key.{name as #self}
use Rattle.exchange_arena.proofs.run.Run.cut.Statement.{statement}
use Rattle.exchange_arena.proofs.run.Run.cut.Code as code

pub cut_spec : {M : Type 1} → statement M
cut_spec 𝓤 𝓛 𝓜 𝓡 wired =
    let H = 𝓛.H in let c = clauses 𝓛 𝓜.mem 𝓡.returns in let fn : Fn = code.function in
    let Row = run.the_row in
    let stays : Stays ended.signature.params ended.kept =
    (stay_dropped (plain (λ _. Row)) ended.kept.0, (stay_dropped (plain (λ _. usize)) ended.kept.1.0, tt)) in
    let C = (tables 𝓤 H 𝓜 𝓡 𝓡.env).C in let Λ = (tables 𝓤 H 𝓜 𝓡 𝓡.env).Λ in
    proved_at 𝓛 ended stays c 𝓜 𝓡 (
      Goes-blank 𝓛 0 (plain (λ _. Row)) ended.kept.0 (λ κs x f. tt),
      (Goes-dropped 𝓛 0 (plain (λ _. usize)) ended.kept.1.0 (λ κs x f. refl), tt),
    ) #self fn (code.unfolded 𝓤 H 𝓜 𝓡 wired) (λ z are.
    let Post : Val → SProp 𝓤 = (walk_of 𝓛 ended stays c).post z in
    let a = z.0.3 in let vss = z.0.4 in let h = a.0 in let n = a.1.0 in
    let Asked : Type 0 = (h.items ≡ []) × (n ≤ h.room) in
    qed 𝓛 ((raw (alive 𝓛 ended.signature z.0.0 z.0.1) ⊛ ‵ (owns (types_at ended.signature.params z.0.0) a vss)) ∷ raw (fact 𝓤 Asked) ∷ []) ∵
    move ! (1 ∷ []) $ heard ! Asked (λ asked. split ! $ move ! (1 ∷ []) $ fsplit ! $ move ! (1 ∷ []) $ drop ! $ fsplit ! $ drop ! $
    in_a_block ! h.ptr (λ p. run_owns p h.room h.items) (none_at_null 𝓛 h.room h.items) (λ b o at.
    use1 𝓛 (‵ (froom (words h.room) b o)) (all_out 𝓛 b h.items h.room o h.fits) $
    use1 𝓛 (‵ (froom (words n) b o) ⊛ ‵ (froom (words (h.room - n)) b (o + n * 8)))
    (room_parted 𝓛 b n (h.room - n) h.room o (omega arith)) $ split ! $
    let byte : n * 8 < 2 ^ 64 = omega (arith, h.small, asked.1) in
    regoal ! (λ (us : List Val). prop (WpFn 𝓤 H C Λ fn us Post)) (λ i. (word_told h.ptr vss.0 are.0.0
    ∙ ap (λ (p : Ptr). word_val p ∷ []) at) i ++ (are.1.0.0 i ++ [])) refl $
    enter ! C Λ fn (word_val (block_ptr b o) ∷ vint w64 n ∷ []) Post $
    alloc_all ! (λ l. pass_all ! refl ((tt, (tt, tt)), ((tt, record { fits = are.1.0.1 }), tt)) $ let En : Env 𝓤 H = env fn.locals l in
    sets ! (of_opd ! (get_in ! (fld ! refl (stop !)) (sub ! 0 refl (whole !)))) refl (tt, tt) $ sets ! (of_opd ! (get ! refl)) refl (
      tt,
      tt,
    ) $
    sets ! (agg ! (and_then ! (get ! refl) (no_more !))) refl (tt, (tt, tt)) $ first ! $ blocks ! $ sets ! (of_opd ! (get ! refl)) refl (
      tt,
      tt,
    ) $
    sets ! (of_opd ! (get ! refl)) refl (tt, record { fits = are.1.0.1 }) $ sets ! (bin ! (get ! refl) (lit ! tt) (record { fits = byte }))
    refl (tt, record { fits = byte }) $
    sets_last ! (bin ! (get ! refl) (get ! refl) tt) refl (tt, tt) $ exec ! C Λ En (after 4 fn.body) (at_ret En Post) $
    sets ! (of_opd ! (get ! refl)) refl (tt, tt) $ sets ! (agg ! (and_then ! (get ! refl) (no_more !))) refl (tt, (tt, tt)) $
    sets ! (of_opd ! (get ! refl)) refl (tt, (tt, tt)) $ sets ! (of_opd ! (get ! refl)) refl (tt, (tt, tt)) $
    sets ! (agg ! (and_then ! (get ! refl) (and_then ! (get ! refl) (no_more !)))) refl (tt, ((tt, tt), ((tt, tt), tt))) $
    returns ! (look_at ! 0 refl) $ free_all ! refl $
    let p : Ptr = block_ptr b o in let p' : Ptr = block_ptr b (n * 8 + o) in
    let low : Row.Denot = record {
      ptr = p;
      base = h.base;
      start = h.start;
      room = n;
      items = [];
      placed = sym at ∙ h.placed;
      fits = omega arith;
      small = omega (arith, h.small, asked.1);
    } in
    let high : Row.Denot = record {
      ptr = p';
      base = h.base;
      start = h.start + n;
      room = h.room - n;
      items = [];
      placed =
          after_words h.base h.ptr b o h.start n h.placed at;
      fits = omega arith;
      small = omega (arith, h.small);
    } in
    let Said : Type 0 = IsRun low h.base h.start n [] × IsRun high h.base (h.start + n) (h.room - n) [] in
    use1 𝓛 (‵ (run_owns p n [])) (all_in 𝓛 b n o) $ use0 𝓛 (‵ (word_own p (word_val p ∷ []))) (word_made 𝓛 p) $ fjoin ! $ move ! (1 ∷ []) $
    rewrite ! 0 (λ (k : ℕ). ‵ (froom (words (h.room - n)) b k)) {x = n * 8 + o} (omega arith) refl $
    use1 𝓛 (‵ (run_owns p' (h.room - n) [])) (all_in 𝓛 b (h.room - n) (n * 8 + o)) $ use0 𝓛 (‵ (word_own p' (word_val p' ∷ [])))
    (word_made 𝓛 p') $ fjoin ! $ move ! (1 ∷ 0 ∷ []) $
    use2 𝓛 (‵ ((Tuple (Row ∷ Row ∷ [])).own_val (low, high) (pair_val (word_val p) (word_val p') ∷ [])))
    (pair_of 𝓛 Row Row low high (word_val p) (word_val p')) $
    use0 𝓛 (raw (fact 𝓤 Said)) (fact_i 𝓤 Said (emp 𝓤) (
      record { base = refl; start = refl; room = refl; items = refl },
      record { base = refl; start = refl; room = refl; items = refl },
    )) $ nothing ! $ nothing ! $ fjoin ! $ nothing ! $ fjoin ! $ move !
    (3 ∷ 0 ∷ 2 ∷ 1 ∷ []) $
    by ! (leaves 𝓛 ended stays c z (pair_val (word_val p) (word_val p')) (low, high) (tt, (tt, tt)) (tt, (tt, tt)))))))
