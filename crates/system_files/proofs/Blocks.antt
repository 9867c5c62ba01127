-- A block of bytes of which whole lines are handed on.
use Rattle.std.proofs.Common.{◌≡◌, ◌∙◌, ◌+◌, ◌-◌, ◌≤◌, ◌<◌, ◌⊎◌, ℕ, List, [], ◌++◌, ap, append_assoc, append-nil, arith, drop}
use Rattle.std.proofs.Common.{inl, inr, length, subst, sym, take}
use Rattle.std.specs.List.{copy_within}
use Rattle.std.specs.declared.alloc.Global.{Global}
use Rattle.std.specs.declared.vec.Vec.{Vec}
use Rattle.std.proofs.Math.Seq.{take-append_seam}
use Rattle.std.proofs.lemmas.List.{length-drop, take-append-drop, take_all}
use Rattle.system_files.specs.Held.{HandsOn, HasNoEnd, IsLines, Lines, Long, held_in}

-- the rest of a block, moved to its front
moved : (held : List ℕ) (end : ℕ) → length held ≡ 4096 → end ≤ 4096 → take (4096 - end) (copy_within held end 4096 0) ≡ drop end held
moved held end whole few =
    let n = length-drop end held in
    let long : length (drop end held) ≡ 4096 - end = omega (arith, n, whole, few) in
    let all : take (4096 - end) (drop end held) ≡ drop end held = take_all (4096 - end) (drop end held) (omega (arith, long)) in
    ap (λ xs. take (4096 - end) (xs ++ drop (0 + (4096 - end)) held)) all
    ∙ ap (λ n. take n (drop end held ++ drop (0 + (4096 - end)) held)) (sym long)
    ∙ take-append_seam (drop end held) (drop (0 + (4096 - end)) held)

-- a full block is what it holds
whole_block : (held : List ℕ) (len : ℕ) → length held ≡ 4096 → len ≡ 4096 → take len held ≡ held
whole_block held len whole full = ap (λ n. take n held) full ∙ take_all 4096 held (omega (arith, whole))

pub lines_handed_on : (long : Vec ℕ Global) (held new rest : List ℕ) (len end late : ℕ) → length held ≡ 4096 → len ≡ 4096 → end ≤ 4096 →
    (end ≡ 0) ⊎ IsLines (take end held) → HasNoEnd (drop end held) → 0 < end → new ≡ copy_within held end 4096 0 → late ≡ 4096 - end →
    rest ≡ [] → HandsOn long len held (held_in rest late new)
lines_handed_on long held new rest len end late whole full few (inl none) ends some is at empty = absurd (omega (arith, none, some))
lines_handed_on long held new rest len end late whole full few (inr lines) ends some is at empty =
    let now : held_in rest late new ≡ drop end held =
    ap (λ r. r ++ take late new) empty ∙ ap (λ n. take n new) at ∙ ap (take (4096 - end)) is ∙ moved held end whole few in
    let parts : take len held ≡ take end held ++ held_in rest late new =
    whole_block held len whole full ∙ sym (take-append-drop end held) ∙ ap (λ xs. take end held ++ xs) (sym now) in
    Lines full (take end held) parts lines (subst HasNoEnd (sym now) ends)

-- where no line ends in a full block
no_end : (held : List ℕ) (len end : ℕ) → length held ≡ 4096 → len ≡ 4096 → HasNoEnd (drop end held) → end ≡ 0 → HasNoEnd (take len held)
no_end held len end whole full ends none =
    subst HasNoEnd (sym (whole_block held len whole full)) (subst (λ n. HasNoEnd (drop n held)) none ends)

pub kept_long : (long : Vec ℕ Global) (held new : List ℕ) (len end late : ℕ) → length held ≡ 4096 → len ≡ 4096 → HasNoEnd (drop end held) → end ≡ 0 →
    new ≡ long.items ++ held → late ≡ 0 → HandsOn long len held (held_in new late held)
kept_long long held new len end late whole full ends none is at =
    Long full (no_end held len end whole full ends none)
    (inl (ap (λ r. r ++ take late held) is ∙ ap (λ n. (long.items ++ held) ++ take n held) at ∙ append-nil (long.items ++ held)
    ∙ ap (λ xs. long.items ++ xs) (sym (whole_block held len whole full))))

-- what is held behind it
pub held_behind : (long old new bytes : List ℕ) (len late : ℕ) → take late new ≡ take len old ++ bytes →
    held_in long late new ≡ held_in long len old ++ bytes
held_behind long old new bytes len late is = ap (λ xs. long ++ xs) is ∙ sym (append_assoc long (take len old) bytes)
