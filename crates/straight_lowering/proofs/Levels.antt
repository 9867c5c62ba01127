-- One level of reads more.
use Rattle.std.proofs.Common.{◌≡◌, ℕ, zero, suc, ◌+◌, Bool, true, false, List, [], ◌∷◌, ◌++◌, refl, ap, sym, ◌∙◌, append_assoc, arith}
use Rattle.std.proofs.lemmas.List.{append-nil}
use Rattle.superstep_instructions.specs.declared.instr.Side.{Side}
use Rattle.superstep_instructions.specs.declared.instr.Instr.{Instr}
use Rattle.superstep_instructions.specs.declared.instr.Instr.TheVariants.{Send, Reply}
use Rattle.plain_form.specs.Formulas.{Formula}
use Rattle.plain_form.specs.Groups.{asks, groups}
use Rattle.straight_lowering.specs.Operands.{held_behind}
use Rattle.straight_lowering.specs.Written.{Written, added, wrote}
use Rattle.straight_lowering.proofs.Appended.{wrote_more}

abbrev group : Side → ℕ → Formula → (t b : ℕ) → List Instr
group s l f t b = asks s l f t b 0 ++ Send ∷ Reply ∷ []

groups_more : (s : Side) (n l : ℕ) (f : Formula) (t b : ℕ) → groups s (suc n) l f t b ≡ groups s n l f t b ++ group s (l + n) f t b
groups_more s zero l f t b = append-nil (group s l f t b) ∙ ap (λ l. group s l f t b) (let e : l ≡ l + 0 = omega arith in e)
groups_more s (suc n) l f t b =
    ap (λ is. group s l f t b ++ is) (groups_more s n (l + 1) f t b)
    ∙ sym (append_assoc (group s l f t b) (groups s n (l + 1) f t b) (group s (l + 1 + n) f t b))
    ∙ ap (λ k. groups s (suc n) l f t b ++ group s k f t b) (let e : l + 1 + n ≡ l + suc n = omega arith in e)

none_held : (h : Bool) (n : ℕ) → held_behind h (suc n) ≡ false
none_held true n = refl
none_held false n = refl

pub level_more : (s : Side) (n : ℕ) (f : Formula) (t b : ℕ) (w0 w1 w2 w3 : Written) →
    w1 ≡ wrote (groups s n 0 f t b) (held_behind w0.held n) w0 → w2 ≡ added (asks s n f t b 0) w1 →
    w3 ≡ wrote (Send ∷ Reply ∷ []) false w2 →
    w3 ≡ wrote (groups s (n + 1) 0 f t b) (held_behind w0.held (n + 1)) w0
level_more s n f t b w0 w1 w2 w3 h1 h2 h3 =
    wrote_more (groups s n 0 f t b) (group s n f t b) _ false w0 w1 w3 h1
    (wrote_more (asks s n f t b 0) (Send ∷ Reply ∷ []) w1.held false w1 w2 w3 h2 h3)
    ∙ ap (λ k. wrote (groups s n 0 f t b ++ group s k f t b) false w0) (let e : n ≡ 0 + n = omega arith in e)
    ∙ ap (λ is. wrote is false w0) (sym (groups_more s n 0 f t b))
    ∙ ap (λ h. wrote (groups s (suc n) 0 f t b) h w0) (sym (none_held w0.held n))
    ∙ ap (λ m. wrote (groups s m 0 f t b) (held_behind w0.held m) w0) (let e : suc n ≡ n + 1 = omega arith in e)
