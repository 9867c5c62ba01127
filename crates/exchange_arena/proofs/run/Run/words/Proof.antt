-- `words` shows the words that a `&` to a run lends. Assumes `Logic`.
use Rattle.std.proofs.Common.{◌≡◌, ℕ, ◌+◌, ◌*◌, ◌^◌, ◌<◌, List, [], ◌∷◌, length, refl, ap, arith, w64}
use mir.Syntax.{Fn, named}
use mir.Val.{Val}
use base.Fml.{ftrue, fhide, flft}
use prog.Wp.{Env}
use contract.Monad.{fact}
use contract.Running.{tables}
use types.Kit.{‵, raw, ◌⊛◌, at_ret, ◌$◌, ◌∵◌, !, qed, done, move, keep, drop, use1, split, join, frame, fsplit, fjoin, feq_i, flt_i}
use types.Kit.{suffices}
use types.Part.{agg}
use types.Run.{stop, fld, load, look, of_opd, and_then, no_more, first, blocks, exec, returns, enter}
use types.ByLocal.{alloc_all, pass_all, free_all, look_at, through, get, sets, sets_last, env}
use denote.RattleType.{owns}
use denote.Builtin.{usize, RefOf}
use denote.Opens.{hide, unhide}
use denote.Plain.{uint_vals, uint_Tells}
use denote.RawPtr.{block_of, count_of, InBlock}
use denote.Ref.{shr_vals, shr_Tells}
use denote.Signature.{plain, types_at}
use denote.Slice.{slice_val}
use denote.Steps.{nothing, heard}
use denote.Struct.Lending.{in_block_says, lent_out}
use denote.Triple.Walked.{Stays, stay_dropped, walk_of, says, ends_at, Goes-dropped}
use Rattle.std.proofs.Words.{pointer_in, pointer_out}
use Rattle.std.proofs.alloc.Shapes.{after}
use Rattle.std.proofs.raw_atomic.Walks.{proved}
use Rattle.exchange_arena.specs.Ownership.{run_lent}
use Rattle.exchange_arena.specs.contracts.run.Run as run
use Rattle.exchange_arena.proofs.Seen.{S, shows_ptr}
use Rattle.exchange_arena.specs.contracts.run.Run.words.{ended, clauses}
use Rattle.exchange_arena.specs.contracts.run.Run.words.Key.{name as #self}
use Rattle.exchange_arena.proofs.run.Run.words.Statement.{statement}
use Rattle.exchange_arena.proofs.run.Run.words.Code as code

abbrev stayed : Stays ended.signature.params ended.kept
stayed = (
  stay_dropped (RefOf (0 ∷ []) tt (plain (λ _. run.the_row)) (λ _. tt)) ended.kept.0,
  (stay_dropped (plain (λ _. usize)) ended.kept.1.0, tt),
)

pub words_spec : {M : Type 1} → statement M
words_spec 𝓤 𝓛 𝓜 𝓡 wired =
    let H = 𝓛.H in let c = clauses 𝓛 𝓜.mem 𝓡.returns in let fn : Fn = code.function in let Row = run.the_row in
    let C = (tables 𝓤 H 𝓜 𝓡 𝓡.env).C in let Λ = (tables 𝓤 H 𝓜 𝓡 𝓡.env).Λ in let W = walk_of 𝓛 ended stayed c in
    proved 𝓛 ended stayed c 𝓜 𝓡 (
      Goes-dropped 𝓛 1 (RefOf (0 ∷ []) tt (plain (λ _. Row)) (λ _. tt)) ended.kept.0 (λ κs x f. refl),
      (Goes-dropped 𝓛 1 (plain (λ _. usize)) ended.kept.1.0 (λ κs x f. refl), tt),
    )
    #self fn (code.unfolded 𝓤 H 𝓜 𝓡 wired) (λ κs. (shr_vals, (uint_vals w64, tt)))
    (λ κs. (shr_Tells (named 0) κs.0 Row, (uint_Tells w64, tt))) (λ κs qs bounds a g are.
    let κ = κs.0 in let b = a.0.ref_ptr.0 in let o = a.0.ref_ptr.1 in let h = a.0.now in let n = a.1.0 in let xs = h.items in
    let y : W.Ghost = ((κs, qs, bounds, a, (shr_vals a.0, (uint_vals w64 n, tt))), g) in
    let Asked : Type 0 = n ≡ length xs in let fn' = are.1.0.1 in
    qed 𝓛 (((‵ (flft κ qs.0) ⊛ ‵ ftrue) ⊛ ‵ (owns (types_at ended.signature.params κs) a y.0.4)) ∷ raw (fact 𝓤 Asked) ∷ []) ∵
    move ! (1 ∷ []) $ heard ! Asked (λ asked. split ! $ split ! $ move ! (2 ∷ []) $ fsplit ! $ fsplit ! $ keep ! (1 ∷ 3 ∷ []) $
    use1 𝓛 (‵ (S 𝓛 κ b o h.ptr) ⊛ ‵ (fhide (run_lent h.ptr xs κ))) (lent_out 𝓛 run.struct run.the_codes run.the_heap run.the_lent κ h b o) $
    split ! $ move ! (1 ∷ []) $
    unhide ! $ fsplit ! $ use1 𝓛 (raw (fact 𝓤 (InBlock h.ptr))) (in_block_says 𝓛 h.ptr) $ heard ! (InBlock h.ptr)
    (λ inb. fsplit ! $ drop ! $ hide ! $ move ! (1 ∷ 2 ∷ []) $
    let at : ℕ × ℕ = (block_of h.ptr, count_of h.ptr) in
    -- [the run's fields; the token; the words]
    enter ! _ _ _ _ _ $ alloc_all ! (λ l. pass_all ! refl ((tt, tt), ((tt, record { fits = fn' }), tt)) $ let En : Env 𝓤 H =
    env fn.locals l in
    first ! $ blocks ! $ pointer_in ! tt h.ptr inb b (o + 0) (shows_ptr 𝓛 κ b o h.ptr) (λ q'.
    sets ! (of_opd ! (load ! (through ! refl (fld ! refl (stop !))) (look ! 1 refl))) refl (tt, tt) $ pointer_out ! tt h.ptr inb b (o + 0) $
    sets_last ! (agg ! (and_then ! (get ! refl) (and_then ! (get ! refl) (no_more !)))) refl (tt, (tt, (record { fits = fn' }, tt))) $
    exec ! C Λ En (after 1 fn.body) (at_ret En (W.post y)) $ sets ! (of_opd ! (get ! refl)) refl (tt, (tt, (record { fits = fn' }, tt))) $
    returns ! (look_at ! 0 refl) $ free_all ! refl $ keep ! (2 ∷ 0 ∷ []) $
    let small : length xs * 8 < 2 ^ 63 = omega (arith, h.fits, h.small) in
    flt_i ! (length xs * 8) (2 ^ 63) small $ flt_i ! (length xs) (2 ^ 64) (omega arith) $ fjoin ! $
    feq_i ! (List Val) (slice_val at n ∷ []) (slice_val at (length xs) ∷ []) (ap (λ (k : ℕ). slice_val at k ∷ []) asked) $ fjoin ! $
    fjoin ! $ move ! (1 ∷ 0 ∷ []) $
    suffices ! _ (ends_at 𝓛 ended stayed c y (slice_val at n) (record { ref_ptr = at; now = xs }) (tt, (tt, tt)) (tt, (tt, tt))) $ says !
    refl $
    nothing ! $ move ! (1 ∷ 0 ∷ []) $ join ! $ frame ! $ nothing ! $ nothing ! $ fjoin ! $ nothing ! $ fjoin ! $ done !)))))
