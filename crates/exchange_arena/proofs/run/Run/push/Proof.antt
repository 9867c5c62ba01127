-- `push` writes the word after the last one. Assumes `Logic`.
use Rattle.std.proofs.Common.{◌≡◌, ℕ, ◌+◌, ◌*◌, ◌^◌, ◌<◌, List, [], ◌∷◌, ◌++◌, length, length-append, refl, sym, ap, ◌∙◌, arith, w64}
use mir.Syntax.{Fn, ty_int, named}
use mir.Val.{Val, vint, vunit}
use base.Fml.{ftrue, fat, froom, flft}
use prog.Wp.{Env}
use contract.Monad.{fact}
use contract.Running.{tables}
use types.Kit.{‵, raw, ◌⊛◌, at_ret, ◌$◌, ◌∵◌, !, qed, done, move, keep, use1, use2, split, join, frame, rewrite, fsplit, fsplit3, fjoin}
use types.Kit.{fjoin3, feq_i, suffices}
use types.Part.{whole, sub, look_in}
use types.Run.{stop, fld, load, of_opd, bin, lit, unit_lit, assigns_last, init, first, blocks, exec, returns, enter}
use types.ByLocal.{alloc_all, pass_all, free_all, look_at, through, get, sets, env}
use denote.RattleType.{owns}
use denote.Builtin.{u64, usize}
use denote.Laws.{shows}
use denote.Memory.{cell_at}
use denote.Plain.{uint_vals, uint_Tells}
use denote.RawPtr.{Ptr, block_ptr, in_a_block}
use denote.Ref.{mut_vals, mut_Tells}
use denote.Signature.{plain, types_at}
use denote.Steps.{nothing, heard, opens, closes, peeks}
use denote.Triple.Walked.{Stays, stay_dropped, stay_ref, walk_of, says, ends_at, Goes-dropped, Goes-ref}
use Rattle.std.proofs.alloc.Shapes.{after}
use Rattle.std.proofs.raw_atomic.Walks.{proved}
use base.Fraction.{full_share}
use Rattle.exchange_arena.specs.Ownership.{run_owns}
use Rattle.exchange_arena.specs.contracts.run.Run as run
use Rattle.exchange_arena.proofs.Memory.{Others, next_out, next_in, none_at_null}
use Rattle.exchange_arena.proofs.Values.{word_val, word_told}
use Rattle.exchange_arena.specs.contracts.run.Run.push.{ended, clauses}
use Rattle.exchange_arena.specs.contracts.run.Run.push.Key.{name as #self}
use Rattle.exchange_arena.proofs.run.Run.push.Statement.{statement}
use Rattle.exchange_arena.proofs.run.Run.push.Code as code

abbrev stayed : Stays ended.signature.params ended.kept
stayed = (
  stay_ref (0 ∷ []) tt (plain (λ _. run.the_row)),
  (stay_dropped (plain (λ _. usize)) ended.kept.1.0, (stay_dropped (plain (λ _. u64)) ended.kept.1.1.0, tt)),
)

pub push_spec : {M : Type 1} → statement M
push_spec 𝓤 𝓛 𝓜 𝓡 wired =
    let H = 𝓛.H in let c = clauses 𝓛 𝓜.mem 𝓡.returns in let fn : Fn = code.function in let Row = run.the_row in
    let C = (tables 𝓤 H 𝓜 𝓡 𝓡.env).C in let Λ = (tables 𝓤 H 𝓜 𝓡 𝓡.env).Λ in let W = walk_of 𝓛 ended stayed c in
    proved 𝓛 ended stayed c 𝓜 𝓡 (
      Goes-ref 𝓛 1 0 tt (plain (λ _. Row)),
      (
        Goes-dropped 𝓛 1 (plain (λ _. usize)) ended.kept.1.0 (λ κs x f. refl),
        (Goes-dropped 𝓛 1 (plain (λ _. u64)) ended.kept.1.1.0 (λ κs x f. refl), tt),
      ),
    )
    #self fn (code.unfolded 𝓤 H 𝓜 𝓡 wired) (λ κs. (mut_vals, (uint_vals w64, (uint_vals w64, tt))))
    (λ κs. (mut_Tells (named 0) κs.0 Row, (uint_Tells w64, (uint_Tells w64, tt)))) (λ κs qs bounds a g are.
    let b = a.0.ref_ptr.0 in let o = a.0.ref_ptr.1 in let h = a.0.now in let n = a.1.0 in let x = a.1.1.0 in let k = length h.items in
    let y : W.Ghost = ((κs, qs, bounds, a, (mut_vals a.0, (uint_vals w64 n, (uint_vals w64 x, tt)))), g) in
    let Asked : Type 0 = (n ≡ k) × (n < h.room) in
    qed 𝓛 (((‵ (flft κs.0 qs.0) ⊛ ‵ ftrue) ⊛ ‵ (owns (types_at ended.signature.params κs) a y.0.4)) ∷ raw (fact 𝓤 Asked) ∷ []) ∵
    move ! (1 ∷ []) $ heard ! Asked (λ asked. split ! $ split ! $ move ! (2 ∷ []) $ fsplit ! $ keep ! (0 ∷ 2 ∷ []) $
    enter ! _ _ _ _ _ $ alloc_all !
    (λ l. pass_all ! refl ((tt, tt), ((tt, record { fits = are.1.0.1 }), ((tt, record { fits = are.1.1.0.1 }), tt))) $ let En : Env 𝓤
    H = env fn.locals l in
    fsplit3 ! $ move ! (1 ∷ 2 ∷ 3 ∷ []) $ opens ! tt Row b o (λ us.
    move ! (1 ∷ []) $ peeks ! Row _ (shows 𝓛 Row) h us (λ is. fsplit ! $ move ! (1 ∷ []) $
    in_a_block ! h.ptr (λ p. run_owns p h.room h.items) (none_at_null 𝓛 h.room h.items) (λ b' o' e.
    let byte : n * 8 < 2 ^ 64 = omega (arith, h.small, asked.1) in let fx = are.1.1.0.1 in
    let word = word_told h.ptr us is.0 ∙ ap (λ (p : Ptr). word_val p ∷ []) e in
    let Cell = λ (ws : List Val). ‵ (cell_at full_share Row.mir ws b o) in
    let new : Row.Denot = record {
      ptr = h.ptr;
      base = h.base;
      start = h.start;
      room = h.room;
      items = h.items ++ x ∷ [];
      placed = h.placed;
      fits = omega (arith, length-append h.items (x ∷ []), asked.0, asked.1);
      small = h.small;
    } in
    let within : k < h.room = omega (arith, asked.0, asked.1) in
    use1 𝓛 (‵ (froom (ty_int w64) b' (k * 8 + o')) ⊛ ‵ (Others 𝓛 b' h.items h.room o')) (next_out 𝓛 b' h.items h.room o' within) $ split ! $
    rewrite ! 0 (λ (j : ℕ). ‵ (froom (ty_int w64) b' (j * 8 + o'))) (sym asked.0) refl $ rewrite ! 3 Cell word refl $
    -- [the room; the other words; what the fields own; the struct's cell; the open borrow, in three entries]
    first ! $ blocks ! $ sets ! (of_opd ! (load ! (through ! refl (fld ! refl (stop !))) (look_in ! 3 (sub ! 0 refl (whole !))))) refl (
      tt,
      tt,
    ) $
    sets ! (bin ! (get ! refl) (lit ! tt) (record { fits = byte })) refl (tt, record { fits = byte }) $ sets !
    (bin ! (get ! refl) (get ! refl) tt) refl (tt, tt) $
    assigns_last ! (of_opd ! (get ! refl)) (through ! refl (stop !)) (init ! 0 refl (tt, record { fits = fx })) $
    exec ! C Λ En (after 1 fn.body) (at_ret En (W.post y)) $ sets ! (of_opd ! (unit_lit !)) refl (tt, tt) $
    rewrite ! 0 (λ (j : ℕ). ‵ (fat full_share (ty_int w64) b' (j * 8 + o') (vint w64 x))) asked.0 refl $
    use2 𝓛 (‵ (run_owns (block_ptr b' o') h.room (h.items ++ x ∷ []))) (next_in 𝓛 b' h.items x h.room o' within) $
    rewrite ! 0 (λ (p : Ptr). ‵ (run_owns p h.room (h.items ++ x ∷ []))) (sym e) refl $ rewrite ! 2 Cell (sym word) refl $
    move ! (1 ∷ []) $ fjoin ! $ move ! (1 ∷ []) $ closes ! tt Row new us b o $
    returns ! (look_at ! 0 refl) $ free_all ! refl $ move ! (3 ∷ []) $
    suffices ! _ (ends_at 𝓛 ended stayed c y vunit tt (new, (tt, (tt, tt))) (tt, (tt, (tt, tt)))) $ says ! (record {
      base = refl;
      start =
          refl;
      room = refl;
      items = refl;
    }) $
    fjoin3 ! $ nothing ! $ nothing ! $ fjoin ! $ nothing ! $ fjoin ! $ move ! (1 ∷ 0 ∷ []) $ fjoin ! $ nothing ! $ move ! (2 ∷ 0
    ∷ []) $ join ! $ frame ! $ frame ! $
    feq_i ! (List Val) (vunit ∷ []) _ refl $ done !))))))
