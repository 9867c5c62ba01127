-- `clear` makes room of the words, and changes nothing in memory. Assumes `Logic`.
use Rattle.std.proofs.Common.{List, [], ◌∷◌, refl, sym, arith}
use mir.Syntax.{Fn, named}
use mir.Val.{Val, vunit}
use base.Fml.{ftrue, froom, flft}
use prog.Wp.{Env}
use types.Kit.{‵, ◌⊛◌, ◌$◌, ◌∵◌, !, qed, done, move, keep, use1, split, join, frame, rewrite, fsplit, fsplit3, fjoin, fjoin3, feq_i}
use types.Kit.{suffices}
use types.Run.{of_opd, unit_lit, returns, enter}
use types.ByLocal.{alloc_all, pass_all, free_all, look_at, sets, env}
use denote.RattleType.{owns}
use denote.RawPtr.{Ptr, block_ptr, in_a_block}
use denote.Ref.{mut_vals, mut_Tells}
use denote.Signature.{plain, types_at}
use denote.Steps.{nothing, opens, closes}
use denote.Triple.Walked.{Stays, stay_ref, walk_of, says, ends_at, Goes-ref}
use Rattle.std.proofs.raw_atomic.Walks.{proved}
use Rattle.exchange_arena.specs.Ownership.{words, run_owns}
use Rattle.exchange_arena.specs.contracts.run.Run as run
use Rattle.exchange_arena.proofs.Memory.{all_out, all_in, none_at_null}
use Rattle.exchange_arena.specs.contracts.run.Run.clear.{ended, clauses}
use Rattle.exchange_arena.specs.contracts.run.Run.clear.Key.{name as #self}
use Rattle.exchange_arena.proofs.run.Run.clear.Statement.{statement}
use Rattle.exchange_arena.proofs.run.Run.clear.Code as code

abbrev stayed : Stays ended.signature.params ended.kept
stayed = (stay_ref (0 ∷ []) tt (plain (λ _. run.the_row)), tt)

pub clear_spec : {M : Type 1} → statement M
clear_spec 𝓤 𝓛 𝓜 𝓡 wired =
    let H = 𝓛.H in let c = clauses 𝓛 𝓜.mem 𝓡.returns in let fn : Fn = code.function in let Row = run.the_row in
    let W = walk_of 𝓛 ended stayed c in
    proved 𝓛 ended stayed c 𝓜 𝓡 (Goes-ref 𝓛 1 0 tt (plain (λ _. Row)), tt) #self fn (code.unfolded 𝓤 H 𝓜 𝓡 wired) (λ κs. (mut_vals, tt))
    (λ κs. (mut_Tells (named 0) κs.0 Row, tt)) (λ κs qs bounds a g are.
    let b = a.0.ref_ptr.0 in let o = a.0.ref_ptr.1 in let h = a.0.now in
    let y : W.Ghost = ((κs, qs, bounds, a, (mut_vals a.0, tt)), g) in
    qed 𝓛 (((‵ (flft κs.0 qs.0) ⊛ ‵ ftrue) ⊛ ‵ (owns (types_at ended.signature.params κs) a y.0.4)) ∷ ‵ ftrue ∷ []) ∵
    split ! $ split ! $ move ! (2 ∷ []) $ fsplit ! $ keep ! (0 ∷ 2 ∷ []) $
    enter ! _ _ _ _ _ $ alloc_all ! (λ l. pass_all ! refl ((tt, tt), tt) $ let En : Env 𝓤 H = env fn.locals l in
    fsplit3 ! $ move ! (1 ∷ 2 ∷ 3 ∷ []) $ opens ! tt Row b o (λ us. move ! (1 ∷ []) $ fsplit ! $ move ! (1 ∷ []) $
    in_a_block ! h.ptr (λ p. run_owns p h.room h.items) (none_at_null 𝓛 h.room h.items) (λ b' o' e.
    let new : Row.Denot = record {
      ptr = h.ptr;
      base = h.base;
      start = h.start;
      room = h.room;
      items = [];
      placed = h.placed;
      fits = omega arith;
      small = h.small;
    } in
    use1 𝓛 (‵ (froom (words h.room) b' o')) (all_out 𝓛 b' h.items h.room o' h.fits) $ use1 𝓛 (‵ (run_owns (block_ptr b' o') h.room []))
    (all_in 𝓛 b' h.room o') $
    rewrite ! 0 (λ (p : Ptr). ‵ (run_owns p h.room [])) (sym e) refl $ move ! (1 ∷ []) $ fjoin ! $ move ! (1
    ∷ []) $ closes ! tt Row new us b o $
    sets ! (of_opd ! (unit_lit !)) refl (tt, tt) $ returns ! (look_at ! 0 refl) $ free_all ! refl $ move ! (3 ∷ []) $
    suffices ! _ (ends_at 𝓛 ended stayed c y vunit tt (new, tt) (tt, tt)) $ says ! (record {
      base = refl;
      start = refl;
      room = refl;
      items =
          refl;
    }) $
    fjoin3 ! $ nothing ! $ move ! (1 ∷ 0 ∷ []) $ fjoin ! $ nothing ! $ move ! (2 ∷ 0 ∷ []) $ join ! $ frame ! $ frame ! $
    feq_i ! (List Val) (vunit ∷ []) _ refl $ done !))))
