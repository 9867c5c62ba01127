-- Code behind code.
use Rattle.std.proofs.Common.{◌≡◌, ℕ, ◌+◌, max, List, ◌++◌, Bool, ap, ◌∙◌, append_assoc, arith}
use Rattle.pram_tokens.specs.declared.token.Binary.{Binary}
use Rattle.superstep_instructions.specs.declared.instr.Side.{Side}
use Rattle.superstep_instructions.specs.declared.instr.Instr.{Instr}
use Rattle.plain_form.specs.Formulas.{Formula, Between, reads, positions, nesting}
use Rattle.plain_form.specs.Regions.{place, region, between_code}
use Rattle.plain_form.specs.Groups.{asks}
use Rattle.straight_lowering.specs.declared.cursor.Cursor.{Cursor}
use Rattle.straight_lowering.specs.declared.reads.Depth.{Depth}
use Rattle.straight_lowering.specs.Cursors.{behind}
use Rattle.straight_lowering.specs.Depths.{depth_of}
use Rattle.straight_lowering.specs.Written.{Written, added, wrote}

pub wrote_more : (is js : List Instr) (h k : Bool) (w u v : Written) → u ≡ wrote is h w → v ≡ wrote js k u → v ≡ wrote (is ++ js) k w
wrote_more is js h k w u v a b =
    b ∙ ap (wrote js k) a ∙ ap (λ l. record { instructions = l; held = k }) (append_assoc w.instructions is js)

pub added_more : (is js : List Instr) (w u v : Written) → u ≡ added is w → v ≡ added js u → v ≡ added (is ++ js) w
added_more is js w u v a b =
    b ∙ ap (added js) a ∙ ap (λ l. record { instructions = l; held = w.held }) (append_assoc w.instructions is js)

same_operation : (s : Side) (f g : Formula) (o : Binary) (b : ℕ) (at mid after : Cursor) (x y q : ℕ) →
    mid ≡ behind f at → after ≡ behind g mid → x ≡ place s f at.read b → y ≡ place s g mid.read (b + 1) → q ≡ after.position + 1 →
    between_code s o b x y q
    ≡ between_code s o b (place s f at.read b) (place s g (at.read + reads f) (b + 1)) (at.position + positions f + positions g + 1)
same_operation s f g o b at mid after x y q m a xs ys qs =
    let r : mid.read ≡ at.read + reads f = ap (λ c. c.read) m in
    let p : q ≡ at.position + positions f + positions g + 1 =
    qs ∙ ap (λ c. c.position + 1) a ∙ ap (λ c. c.position + positions g + 1) m in
    ap (λ x. between_code s o b x y q) xs ∙ ap (λ y. between_code s o b (place s f at.read b) y q) (ys ∙ ap (λ t. place s g t (b + 1)) r)
    ∙ ap (between_code s o b (place s f at.read b) (place s g (at.read + reads f) (b + 1))) p

-- an operator, behind its operands
pub region_more : (s : Side) (f g : Formula) (o : Binary) (b : ℕ) (at mid after : Cursor) (x y q : ℕ) (w0 w1 w2 w3 : Written) →
    mid ≡ behind f at → after ≡ behind g mid → x ≡ place s f at.read b → y ≡ place s g mid.read (b + 1) → q ≡ after.position + 1 →
    w1 ≡ added (region s f at.read b at.position) w0 → w2 ≡ added (region s g mid.read (b + 1) mid.position) w1 →
    w3 ≡ added (between_code s o b x y q) w2 → w3 ≡ added (region s (Between o f g) at.read b at.position) w0
region_more s f g o b at mid after x y q w0 w1 w2 w3 m a xs ys qs h1 h2 h3 =
    let second : w2 ≡ added (region s g (at.read + reads f) (b + 1) (at.position + positions f)) w1 =
    h2 ∙ ap (λ c. added (region s g c.read (b + 1) c.position) w1) m in
    let third = h3 ∙ ap (λ is. added is w2) (same_operation s f g o b at mid after x y q m a xs ys qs) in
    added_more (region s f at.read b at.position) _ w0 w1 w3 h1
    (added_more (region s g (at.read + reads f) (b + 1) (at.position + positions f)) _ w1 w2 w3 second third)

pub behind_more : (o : Binary) (f g : Formula) (at mid after last : Cursor) → mid ≡ behind f at → after ≡ behind g mid →
    last ≡ record { read = after.read; position = after.position + 1 } → last ≡ behind (Between o f g) at
behind_more o f g at mid after last m a l =
    let all : last ≡ record { read = at.read + reads f + reads g; position = at.position + positions f + positions g + 1 } =
    l ∙ ap (λ c. record { read = c.read; position = c.position + 1 }) a
    ∙ ap (λ c. record { read = c.read + reads g; position = c.position + positions g + 1 }) m in
    let p : at.read + reads f + reads g ≡ at.read + (reads f + reads g) = omega arith in
    let q : at.position + positions f + positions g + 1 ≡ at.position + (positions f + positions g + 1) = omega arith in
    all ∙ (λ j. record { read = p j; position = q j })

-- the asks of a second operand, behind those of the first
pub asks_more : (s : Side) (l : ℕ) (o : Binary) (f g : Formula) (b : ℕ) (at mid : Cursor) (w0 w1 w2 : Written) → mid ≡ behind f at →
    w1 ≡ added (asks s l f at.read b at.position) w0 → w2 ≡ added (asks s l g mid.read b mid.position) w1 →
    w2 ≡ added (asks s l (Between o f g) at.read b at.position) w0
asks_more s l o f g b at mid w0 w1 w2 m h1 h2 =
    added_more (asks s l f at.read b at.position) (asks s l g (at.read + reads f) b (at.position + positions f)) w0 w1 w2 h1
    (h2 ∙ ap (λ c. added (asks s l g c.read b c.position) w1) m)

-- and their depth
pub depth_more : (o : Binary) (f g : Formula) (at : Cursor) (left right : Depth) (most : ℕ) (last : Cursor) → left ≡ depth_of f at →
    right ≡ depth_of g left.behind → most ≡ max left.nesting right.nesting →
    last ≡ record { read = right.behind.read; position = right.behind.position + 1 } →
    record { nesting = most; behind = last } ≡ depth_of (Between o f g) at
depth_more o f g at left right most last l r m e =
    let n : most ≡ max (nesting f) (nesting g) =
    m ∙ ap (λ d. max left.nesting d.nesting) r ∙ ap (λ d. max d.nesting (nesting g)) l in
    let p = behind_more o f g at left.behind right.behind last (ap (λ d. d.behind) l) (ap (λ d. d.behind) r) e in
    λ j. record { nesting = n j; behind = p j }
