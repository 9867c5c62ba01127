-- `give_back` gives the allocator its words and its token. Assumes `Logic`.
use Rattle.std.proofs.Common.{◌≡◌, ℕ, ◌*◌, ◌^◌, ◌<◌, List, [], ◌∷◌, ◌++◌, refl, sym, subst, T, ap, ◌∙◌, arith, lit<, w64}
use mir.Syntax.{ty_unit, Ty, Fn, Args, a_type, dcons, dnil}
use mir.Val.{Val, vint, vptr, WT, vunit, has_ty}
use mir.MapTy.{inst_fn}
use base.Logic.{SProp, id⊢}
use base.Fml.{Lft, Share, ftrue, froom, flft}
use prog.Capped.{capped_is}
use prog.Wp.{Env, WpFn}
use contract.BorrowLft.{◌⊑◌, ⊑_trans}
use contract.Monad.{fact}
use contract.Running.{tables}
use denote.Triple.Table.{framed}
use types.Kit.{given, ‵, raw, ◌⊛◌, later, prop, at_ret, ◌$◌, ◌∵◌, !, qed, by, move, drop, use1, use3, split, learn, rewrite, feq_i, join}
use types.Kit.{regoal, fsplit, fjoin, await}
use types.Part.{whole, sub}
use types.Run.{stop, fld, lit, bin, of_opd, no_more, and_then, first, blocks, unit_lit, exec, returns, enter}
use types.ByLocal.{alloc_all, pass_all, free_all, look_at, get, get_in, sets, lands_last, env}
use denote.RattleType.{RattleType, owns}
use denote.RawPtr.{Ptr, block_ptr, in_a_block, ◌+ₚ◌}
use denote.Builtin.{usize, RefOf}
use denote.Param.{param, bounded}
use denote.Signature.{plain, types_at}
use denote.Steps.{nothing, heard}
use denote.Triple.Entry.{alive}
use denote.Triple.Call.{calls_at_last}
use denote.Triple.Walked.{Stays, stay_dropped, walk_of, Goes-dropped}
use Rattle.std.proofs.alloc.Calls.{Al, seen, Goes-blank, Gives, at_gives, Gives-goes, Gives-Gives}
use Rattle.std.proofs.alloc.Shapes.{after}
use Rattle.std.proofs.raw_atomic.Walks.{proved_at, leaves}
use Rattle.exchange_arena.specs.Ownership.{words, run_owns}
use Rattle.exchange_arena.specs.contracts.run.Run as run
use Rattle.exchange_arena.specs.contracts.deed.Deed as deed
use Rattle.exchange_arena.proofs.Memory.{all_out, none_at_null}
use Rattle.exchange_arena.proofs.Places.{at_start}
use Rattle.exchange_arena.proofs.Values.{word_val, word_told, mark_val, mark_told}
use Rattle.exchange_arena.specs.contracts.deed.give_back.{ended, clauses}
use Rattle.exchange_arena.specs.contracts.deed.give_back.Key.{name as #self}
use Rattle.exchange_arena.proofs.deed.give_back.Statement.{statement}
use Rattle.exchange_arena.proofs.deed.give_back.Code as code

pub give_back_spec : {M : Type 1} → statement M
give_back_spec 𝓤 𝓛 𝓜 𝓡 wired A L g d dd met md =
    let H = 𝓛.H in let En₀ = ended A g d dd in let c = clauses A g d dd 𝓛 𝓜.mem 𝓡.returns in
    let args : Args = bounded (a_type ∷ []) (A, tt) (dcons d (dcons dd dnil)) in let fn : Fn = inst_fn args code.function in
    let Z : RattleType = param 0 A in let Row = run.the_row in let Right = deed.the_row Z g in let heap =
    RefOf (0 ∷ []) tt (plain (λ _. Z)) (λ _. tt) in
    let stays : Stays En₀.signature.params En₀.kept = (
      stay_dropped heap En₀.kept.0,
      (
        stay_dropped (plain (λ _. Row)) En₀.kept.1.0,
        (stay_dropped (plain (λ _. Right)) En₀.kept.1.1.0, (stay_dropped (plain (λ _. usize)) En₀.kept.1.1.1.0, tt)),
      ),
    ) in
    let 𝓣 = tables 𝓤 H 𝓜 𝓡 𝓡.env in let C = 𝓣.C in let Λ = 𝓣.Λ in
    proved_at 𝓛 En₀ stays c 𝓜 𝓡 (
      Goes-dropped 𝓛 2 heap En₀.kept.0 (λ κs x f. refl),
      (
        Goes-blank 𝓛 2 (plain (λ _. Row)) En₀.kept.1.0 (λ κs x f. tt),
        (
          Goes-blank 𝓛 2 (plain (λ _. Right)) En₀.kept.1.1.0 (λ κs x f. tt),
          (Goes-dropped 𝓛 2 (plain (λ _. usize)) En₀.kept.1.1.1.0 (λ κs x f. refl), tt),
        ),
      ),
    )
    (#self args) fn (code.unfolded 𝓤 H 𝓜 𝓡 wired (A, tt) d dd) (λ z are.
    let Post : Val → SProp 𝓤 = (walk_of 𝓛 En₀ stays c).post z in
    let a = z.0.3 in let vss = z.0.4 in let Y : Al = record { row = A; laws = L; g = g; d = d; drops = dd } in
    let κ : Lft = z.0.0.0 in let q : Share = z.0.1.0 in let h = a.0.now in let handle = a.0.ref_ptr in let x = a.1.0 in let k = a.1.1.0 in
    let n = a.1.1.1.0 in let τ : Ty = words n in
    let Run-ok : Type 0 = (x.base ≡ k.base) × (x.start ≡ 0) × (x.room ≡ n) in let Deed-ok : Type 0 = (k.len ≡ n) × (k.alloc ≡ h) in
    qed 𝓛 ((raw (alive 𝓛 En₀.signature z.0.0 z.0.1) ⊛ ‵ (owns (types_at En₀.signature.params z.0.0) a vss))
    ∷ (raw (fact 𝓤 (z.0.0.1.0 ⊑ A.lives)) ⊛ raw (fact 𝓤 Run-ok) ⊛ raw (fact 𝓤 Deed-ok)) ∷ []) ∵
    move ! (1 ∷ []) $ split ! $ heard ! (z.0.0.1.0 ⊑ A.lives)
    (λ le. split ! $ heard ! Run-ok (λ run-ok. heard ! Deed-ok (λ deed-ok. split ! $ move ! (1 ∷ []) $
    fsplit ! $ fsplit ! $ drop ! $ use1 𝓛 (‵ (seen Y κ handle h)) (id⊢ 𝓤 _) $ move ! (1 ∷ []) $ fsplit ! $ fsplit ! $ drop ! $
    in_a_block ! x.ptr (λ p. run_owns p x.room x.items) (none_at_null 𝓛 x.room x.items) (λ b o at.
    let bytes : n * 8 < 2 ^ 64 = omega (arith, x.small, run-ok.2) in
    let based : k.base ≡ block_ptr b o = sym run-ok.0 ∙ at_start x.base ∙ ap (λ (j : ℕ). x.base +ₚ (j * 8)) (sym run-ok.1) ∙ sym x.placed
    ∙ at in
    use1 𝓛 (‵ (froom (words x.room) b o)) (all_out 𝓛 b x.items x.room o x.fits) $ rewrite ! 0 (λ (j : ℕ). ‵ (froom (words j) b o)) run-ok.2
    refl $
    move ! (1 ∷ []) $ fsplit ! $ fsplit ! $ drop ! $
    rewrite ! 0 (λ (u : A.Denot × ℕ × Ptr). ‵ (g.dealloc_token u.0 (words u.1) u.2)) {x = (h, n, block_ptr b o)} {y =
    (k.alloc, k.len, k.base)} (λ i. (deed-ok.1 i, deed-ok.0 i, based i)) refl $
    move ! (1 ∷ []) $ drop ! $ move ! (3 ∷ []) $ use1 𝓛 (‵ (flft κ q) ⊛ ‵ (flft z.0.0.1.0 z.0.1.1.0) ⊛ ‵ ftrue) (id⊢ 𝓤 _) $ split ! $ move !
    (4 ∷ 0 ∷ []) $ join ! $ move ! (3 ∷ 2 ∷ []) $
    -- [the room; the token; the handle and its token; the other token]
    let y = at_gives Y 𝓛 𝓜.mem 𝓡.returns κ q handle h b o (n * 8) 8 τ in
    regoal ! (λ (us : List Val). prop (WpFn 𝓤 H C Λ fn us Post)) (λ i. are.0.0 i
    ++ ((word_told x.ptr vss.1.0 are.1.0.0 ∙ ap (λ (p : Ptr). word_val p ∷ []) at) i
    ++ (mark_told vss.1.1.0 are.1.1.0.0 i ++ (are.1.1.1.0.0 i ++ [])))) refl $
    enter ! C Λ fn (vptr handle.0 handle.1 ∷ word_val (block_ptr b o) ∷ mark_val ∷ vint w64 n ∷ []) Post $
    alloc_all ! (λ l. pass_all ! refl (
      (tt, tt),
      ((tt, (tt, tt)), ((tt, (tt, tt)), ((tt, record { fits = are.1.1.1.0.1 }), tt))),
    ) $ let En : Env 𝓤 H = env fn.locals l in
    sets ! (of_opd ! (get_in ! (fld ! refl (stop !)) (sub ! 0 refl (whole !)))) refl (tt, tt) $ first ! $ blocks ! $ sets !
    (of_opd ! (get ! refl)) refl (tt, tt) $
    sets ! (bin ! (get ! refl) (lit ! tt) (record { fits = bytes })) refl (tt, record { fits = bytes }) $
    use3 𝓛 (raw ((Gives Y 𝓛 𝓜.mem 𝓡.returns).pre y)) (Gives-goes Y 𝓛 𝓜.mem 𝓡.returns κ q handle h (⊑_trans κ z.0.0.1.0 A.lives z.0.2.0 le) b
    o (n * 8) 8 τ (capped_is (n * 8) bytes) refl bytes (lit< tt)) $
    calls_at_last ! (framed 𝓤 H 𝓜 𝓣) (Gives Y 𝓛 𝓜.mem 𝓡.returns) (met.deallocate dd) y
    (and_then ! (get ! refl) (and_then ! (get ! refl) (and_then ! (get ! refl) (and_then ! (lit ! tt) (no_more !))))) (λ v.
    use1 𝓛 (later (given (v ≡ vunit) (‵ (flft κ q)))) (Gives-Gives Y 𝓛 𝓜.mem 𝓡.returns κ q handle h b o (n * 8) 8 τ v) $ await ! tt $
    learn ! (λ e. join ! $
    lands_last ! refl (subst (λ (u : Val). T (has_ty ty_unit u) × WT u) (sym e) (tt, tt)) $ exec ! C Λ En (after 2 fn.body)
    (at_ret En Post) $
    sets ! (of_opd ! (unit_lit !)) refl (tt, tt) $ returns ! (look_at ! 0 refl) $ free_all ! refl $
    feq_i ! (List Val) (vunit ∷ []) (vunit ∷ []) refl $ nothing ! $ nothing ! $ nothing ! $ fjoin ! $ nothing ! $ fjoin ! $ nothing ! $
    fjoin ! $ nothing ! $ fjoin ! $ move ! (3 ∷ 0 ∷ 2 ∷ 1 ∷ []) $
    by ! (leaves 𝓛 En₀ stays c z vunit tt (tt, (tt, (tt, (tt, tt)))) (tt, (tt, (tt, (tt, tt)))))))))))))
