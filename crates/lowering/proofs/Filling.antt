-- Code whose jumps are filled in later.
use Rattle.std.proofs.Common.{◌≡◌, ℕ, ◌+◌, Bool, false, List, [], ◌∷◌, ◌++◌, length, ap, ◌∙◌, sym, refl, append_assoc, length-append}
use Rattle.std.proofs.Common.{length-set, arith, set, Result, Ok, Err, OnOk, nat_eq}
use Rattle.std.proofs.Math.Seq.{set-append_seam}
use Rattle.superstep_instructions.specs.declared.instr.Instr.{Instr}
use Rattle.superstep_instructions.specs.declared.instr.Instr.TheVariants.{Jump, JumpIfZero, Halt}
use Rattle.plain_form.specs.Shapes.{flush, sent, looped, turned, chosen}
use Rattle.pram_names.specs.declared.body.Statement.{Statement}
use Rattle.lowering.specs.Parts.{are_some}
use Rattle.lowering.specs.Blocks.{part, joined}
use Rattle.straight_lowering.specs.Written.{Written, added, wrote, patched}
use Rattle.straight_lowering.proofs.Appended.{wrote_more}

-- where code goes on
pub length_of : (is : List Instr) (h : Bool) (w u : Written) → u ≡ wrote is h w → length u.instructions
    ≡ length w.instructions + length is
length_of is h w u e = ap (λ u. length u.instructions) e ∙ length-append w.instructions is

-- code that begins where other code ends
pub wrote_then : (is : List Instr) (h : Bool) (code : ℕ → Bool → List Instr) (left : Bool → Bool) (w u v : Written) → u ≡ wrote is h w →
    v ≡ wrote (code (length u.instructions) u.held) (left u.held) u → v ≡ wrote (is ++ code (length w.instructions + length is) h)
    (left h) w
wrote_then is h code left w u v a b =
    wrote_more is (code (length w.instructions + length is) h) h (left h) w u v a
    (b ∙ ap (λ n. wrote (code n u.held) (left u.held) u) (length_of is h w u a) ∙ ap (λ k. wrote (code
    (length w.instructions + length is) k) (left k) u) (ap (λ u. u.held) a))

seam : (xs is js : List Instr) (i : Instr) → xs ++ ((is ++ i ∷ []) ++ js) ≡ xs ++ is ++ i ∷ js
seam xs is js i = ap (λ l. xs ++ l) (append_assoc is (i ∷ []) js) ∙ sym (append_assoc xs is (i ∷ js))

-- one instruction in the place of another
pub filled : (is js : List Instr) (i : Instr) (h : Bool) (w v u : Written) (at : ℕ) → v ≡ wrote ((is ++ Halt ∷ []) ++ js) h w →
    at ≡ length w.instructions + length is → u ≡ patched at i v → u ≡ wrote ((is ++ i ∷ []) ++ js) h w
filled is js i h w v u at a p b =
    let place : at ≡ length (w.instructions ++ is) = p ∙ sym (length-append w.instructions is) in
    let list : set (w.instructions ++ ((is ++ Halt ∷ []) ++ js)) at i ≡ w.instructions ++ ((is ++ i ∷ []) ++ js) =
    ap (λ l. set l at i) (seam w.instructions is js Halt)
    ∙ ap (λ n. set (w.instructions ++ is ++ Halt ∷ js) n i) place
    ∙ set-append_seam (w.instructions ++ is) Halt js i
    ∙ sym (seam w.instructions is js i) in
    b ∙ ap (patched at i) a ∙ ap (λ l. record { instructions = l; held = h }) list

-- a part, and the send of what it holds
pub sent_part : (code : ℕ → Bool → List Instr) (left : Bool → Bool) (w u v : Written) →
    u ≡ wrote (code (length w.instructions) w.held) (left w.held) w → v ≡ wrote (flush u.held) false u →
    v ≡ wrote (sent (code (length w.instructions) w.held) (left w.held)) false w
sent_part code left w u v a b =
    wrote_more (code (length w.instructions) w.held) (flush (left w.held)) (left w.held) false w u v a
    (b ∙ ap (λ k. wrote (flush k) false u) (ap (λ u. u.held) a))

-- a loop
pub looped_is : (test : List Instr) (h : Bool) (body : ℕ → Bool → List Instr) (register : ℕ) (w0 w1 w2 w4 w5 w6 : Written)
    (head exit target : ℕ) → head ≡ length w0.instructions → w1 ≡ wrote test h w0 → exit ≡ length w1.instructions →
    w2 ≡ added (Halt ∷ []) w1 → w4 ≡ wrote (body (length w2.instructions) w2.held) false w2 → w5 ≡ added (Jump head ∷ []) w4 →
    target ≡ length w5.instructions → w6 ≡ patched exit (JumpIfZero register target) w5 →
    w6 ≡ wrote (looped (length w0.instructions) test register (λ start. body start h)) false w0
looped_is test h body register w0 w1 w2 w4 w5 w6 head exit target hd e1 ex e2 e4 e5 tg e6 =
    let a = length w0.instructions in
    let start = a + length test + 1 in
    let part = body start h in
    let opened : w2 ≡ wrote (test ++ Halt ∷ []) h w0 =
    wrote_more test (Halt ∷ []) h h w0 w1 w2 e1 (e2 ∙ ap (λ k. wrote (Halt ∷ []) k w1) (ap (λ u. u.held) e1)) in
    let from : length w2.instructions ≡ start =
    let l = length_of (test ++ Halt ∷ []) h w0 w2 opened in let m = length-append test (Halt ∷ []) in omega (arith, l, m) in
    let body_is : w4 ≡ wrote part false w2 =
    e4 ∙ ap (λ n. wrote (body n w2.held) false w2) from ∙ ap (λ k. wrote (body start k) false w2) (ap (λ u. u.held) opened) in
    let back : w5 ≡ wrote (part ++ Jump head ∷ []) false w2 =
    wrote_more part (Jump head ∷ []) false false w2 w4 w5 body_is (e5 ∙ ap (λ k. wrote (Jump head ∷ []) k w4) (ap (λ u. u.held) body_is)) in
    let whole : w5 ≡ wrote ((test ++ Halt ∷ []) ++ (part ++ Jump head ∷ [])) false w0 =
    wrote_more (test ++ Halt ∷ []) (part ++ Jump head ∷ []) h false w0 w2 w5 opened back in
    let end : target ≡ start + length part + 1 =
    let l = length_of (part ++ Jump head ∷ []) false w2 w5 back in
    let m = length-append part (Jump head ∷ []) in omega (arith, l, m, from, tg) in
    filled test (part ++ Jump head ∷ []) (JumpIfZero register target) false w0 w5 w6 exit whole (ex ∙ length_of test h w0 w1 e1) e6
    ∙ ap (λ t. wrote ((test ++ JumpIfZero register t ∷ []) ++ (part ++ Jump head ∷ [])) false w0) end
    ∙ ap (λ n. wrote ((test ++ JumpIfZero register (start + length part + 1) ∷ []) ++ (part ++ Jump n ∷ [])) false w0) hd
    ∙ ap (λ l. wrote l false w0) (sym (append_assoc (test ++ JumpIfZero register (start + length part + 1) ∷ []) part (Jump a ∷ [])))

-- what follows where a call didn't fail
pub on_ok : {P Q : Type 0} {A E : Type 0} (r : Result A E) → (P → Q) → OnOk r P → OnOk r Q
on_ok (Ok u) f p = f p
on_ok (Err x) f p = p

-- the same length, with another instruction
pub length_of_patched : (at : ℕ) (i : Instr) (w : Written) → length (patched at i w).instructions ≡ length w.instructions
length_of_patched at i w = length-set w.instructions at i

-- the turns of a `for`
pub turned_is : (set : Bool → List Instr) (more : ℕ) (body : ℕ → Bool → List Instr) (w0 w1 w2 w3 w4 w5 w6 : Written) (exit head end : ℕ) →
    exit ≡ length w0.instructions → w1 ≡ added (Halt ∷ []) w0 → head ≡ length w1.instructions → w2 ≡ wrote (set w1.held) w1.held w1 →
    w3 ≡ wrote (body (length w2.instructions) w2.held) false w2 → end ≡ length w3.instructions + 2 →
    w4 ≡ added (JumpIfZero more end ∷ []) w3 → w5 ≡ added (Jump head ∷ []) w4 → w6 ≡ patched exit (JumpIfZero more end) w5 →
    w6 ≡ wrote (turned (length w0.instructions) more (set w0.held) (λ start. body start w0.held)) false w0
turned_is set more body w0 w1 w2 w3 w4 w5 w6 exit head end ex e1 hd e2 e3 en e4 e5 e6 =
    let a = length w0.instructions in
    let h = w0.held in
    let from : head ≡ a + 1 = hd ∙ length_of (Halt ∷ []) h w0 w1 e1 in
    let one : w2 ≡ wrote (set h) h w1 = e2 ∙ ap (λ k. wrote (set k) k w1) (ap (λ u. u.held) e1) in
    let inner = body (a + 1 + length (set h)) h in
    let turns = set h ++ inner in
    let two : w3 ≡ wrote turns false w1 =
    wrote_then (set h) h body (λ k. false) w1 w2 w3 one e3
    ∙ ap (λ n. wrote (set h ++ body (n + length (set h)) h) false w1) (sym hd ∙ from) in
    let last : w5 ≡ wrote (JumpIfZero more end ∷ Jump head ∷ []) false w3 =
    wrote_more (JumpIfZero more end ∷ []) (Jump head ∷ []) false false w3 w4 w5 (e4 ∙ ap (λ k. wrote (JumpIfZero more end ∷ []) k w3) (ap
    (λ u. u.held) two))
    (e5 ∙ ap (λ k. wrote (Jump head ∷ []) k w4) (ap (λ u. u.held) e4 ∙ ap (λ u. u.held) two)) in
    let three : w5 ≡ wrote (turns ++ JumpIfZero more end ∷ Jump head ∷ []) false w1 =
    wrote_more turns (JumpIfZero more end ∷ Jump head ∷ []) false false w1 w3 w5 two last in
    let whole : w5 ≡ wrote (([] ++ Halt ∷ []) ++ (turns ++ JumpIfZero more end ∷ Jump head ∷ [])) false w0 =
    wrote_more (Halt ∷ []) (turns ++ JumpIfZero more end ∷ Jump head ∷ []) h false w0 w1 w5 e1 three in
    let place : exit ≡ a + length {A = Instr} [] = let z : exit ≡ a + 0 = omega (arith, ex) in z in
    let ends : end ≡ a + 1 + length turns + 2 = let l = length_of turns false w1 w3 two in omega (arith, l, hd, from, en) in
    filled [] (turns ++ JumpIfZero more end ∷ Jump head ∷ []) (JumpIfZero more end) false w0 w5 w6 exit whole place e6
    ∙ ap (λ t. wrote (JumpIfZero more t ∷ turns ++ (JumpIfZero more t ∷ Jump head ∷ [])) false w0) ends
    ∙ ap (λ n. wrote (JumpIfZero more (a + 1 + length turns + 2) ∷ turns ++ (JumpIfZero more (a + 1 + length turns + 2) ∷ Jump n ∷ []))
    false w0) from

-- ---- the parts of an `if`

-- an else part, behind the jump over it
pub else_is : (part : ℕ → Bool → List Instr) (w0 w1 w2 w3 w4 : Written) (over source other end target : ℕ) →
    other ≡ length w0.instructions + 1 → w1 ≡ patched over (JumpIfZero source other) w0 → end ≡ length w1.instructions →
    w2 ≡ added (Halt ∷ []) w1 → w3 ≡ wrote (part (length w2.instructions) w2.held) false w2 → target ≡ length w3.instructions →
    w4 ≡ patched end (Jump target) w3 →
    w4 ≡ wrote (Jump (length w0.instructions + 1 + length (part (length w0.instructions + 1) w0.held)) ∷ part
    (length w0.instructions + 1) w0.held)
    false (patched over (JumpIfZero source (length w0.instructions + 1)) w0)
else_is part w0 w1 w2 w3 w4 over source other end target ot e1 en e2 e3 tg e4 =
    let a = length w0.instructions in
    let long : length w1.instructions ≡ a = ap (λ u. length u.instructions) e1 ∙ length_of_patched over (JumpIfZero source other) w0 in
    let held : w1.held ≡ w0.held = ap (λ u. u.held) e1 in
    let from : length w2.instructions ≡ a + 1 = let l = length_of (Halt ∷ []) w1.held w1 w2 e2 in omega (arith, l, long) in
    let block = part (a + 1) w0.held in
    let one : w3 ≡ wrote block false w2 =
    e3 ∙ ap (λ n. wrote (part n w2.held) false w2) from ∙ ap (λ k. wrote (part (a + 1) k) false w2) (ap (λ u. u.held) e2 ∙ held) in
    let whole : w3 ≡ wrote (([] ++ Halt ∷ []) ++ block) false w1 = wrote_more (Halt ∷ []) block w1.held false w1 w2 w3 e2 one in
    let place : end ≡ length w1.instructions + length {A = Instr} [] = let z : end ≡ length w1.instructions + 0 = omega (arith, en) in z in
    let goes : target ≡ a + 1 + length block = let l = length_of block false w2 w3 one in omega (arith, l, from, tg) in
    filled [] block (Jump target) false w1 w3 w4 end whole place e4
    ∙ ap (λ t. wrote (Jump t ∷ block) false w1) goes
    ∙ ap (wrote (Jump (a + 1 + length block) ∷ block) false) (e1 ∙ ap (λ n. patched over (JumpIfZero source n) w0) ot)

parts_joined : (test : List Instr) (source over free : ℕ) (then_part : List Instr) (items : List Statement) (w0 w3 w4 : Written) →
    w3 ≡ wrote ((test ++ Halt ∷ []) ++ then_part) false w0 → over ≡ length w0.instructions + length test →
    length w3.instructions ≡ length w0.instructions + length test + 1 + length then_part → w4 ≡ joined over source free items w3 →
    w4 ≡ wrote (test ++ chosen (length w0.instructions + length test) source then_part (are_some items) (part free false items)) false w0
parts_joined test source over free then_part [] w0 w3 w4 whole place ends e =
    filled test then_part (JumpIfZero source (length w3.instructions)) false w0 w3 w4 over whole place e
    ∙ ap (λ t. wrote ((test ++ JumpIfZero source t ∷ []) ++ then_part) false w0) ends
    ∙ ap (λ l. wrote l false w0) (append_assoc test
    (JumpIfZero source (length w0.instructions + length test + 1 + length then_part) ∷ []) then_part)
parts_joined test source over free then_part (s ∷ ss) w0 w3 w4 whole place ends e =
    let a = length w0.instructions + length test in
    let other = length w3.instructions + 1 in
    let rest : ℕ → List Instr = λ o. Jump (o + length (part free false (s ∷ ss) o)) ∷ part free false (s ∷ ss) o in
    let u = patched over (JumpIfZero source other) w3 in
    let one : u ≡ wrote ((test ++ JumpIfZero source other ∷ []) ++ then_part) false w0 =
    filled test then_part (JumpIfZero source other) false w0 w3 u over whole place refl in
    let held : w3.held ≡ false = ap (λ u. u.held) whole in
    let two : w4 ≡ wrote (rest other) false u =
    e ∙ ap (λ k. wrote (Jump (other + length (part free k (s ∷ ss) other)) ∷ part free k (s ∷ ss) other) false u) held in
    let o : other ≡ a + 1 + length then_part + 1 = omega (arith, ends) in
    let jump : ℕ → Instr = λ n. JumpIfZero source n in
    wrote_more ((test ++ jump other ∷ []) ++ then_part) (rest other) false false w0 u w4 one two
    ∙ ap (λ n. wrote ((test ++ jump n ∷ []) ++ then_part ++ rest n) false w0) o
    ∙ ap (λ l. wrote (l ++ rest (a + 1 + length then_part + 1)) false w0) (append_assoc test (jump
    (a + 1 + length then_part + 1) ∷ []) then_part)
    ∙ ap (λ l. wrote l false w0) (append_assoc test (jump (a + 1 + length then_part + 1) ∷ then_part) (rest (a + 1 + length then_part + 1)))

pub joined_is : (test : List Instr) (source over free : ℕ) (first : ℕ → Bool → List Instr) (items : List Statement)
    (w0 w1 w2 w3 w4 : Written) → w1 ≡ wrote test false w0 → over ≡ length w1.instructions → w2 ≡ added (Halt ∷ []) w1 →
    w3 ≡ wrote (first (length w2.instructions) w2.held) false w2 → w4 ≡ joined over source free items w3 →
    w4 ≡ wrote (test ++ chosen (length w0.instructions + length test) source (first (length w0.instructions + length test + 1) false)
    (are_some items) (part free false items)) false w0
joined_is test source over free first items w0 w1 w2 w3 w4 e1 o e2 e3 e4 =
    let a = length w0.instructions + length test in
    let opened : w2 ≡ wrote (test ++ Halt ∷ []) false w0 =
    wrote_more test (Halt ∷ []) false false w0 w1 w2 e1 (e2 ∙ ap (λ k. wrote (Halt ∷ []) k w1) (ap (λ u. u.held) e1)) in
    let from : length w2.instructions ≡ a + 1 =
    let l = length_of (test ++ Halt ∷ []) false w0 w2 opened in let m = length-append test (Halt ∷ []) in omega (arith, l, m) in
    let then_part = first (a + 1) false in
    let one : w3 ≡ wrote then_part false w2 =
    e3 ∙ ap (λ n. wrote (first n w2.held) false w2) from ∙ ap (λ k. wrote (first (a + 1) k) false w2) (ap (λ u. u.held) opened) in
    let whole : w3 ≡ wrote ((test ++ Halt ∷ []) ++ then_part) false w0 = wrote_more (test
    ++ Halt ∷ []) then_part false false w0 w2 w3 opened one in
    let ends : length w3.instructions ≡ a + 1 + length then_part = let l = length_of then_part false w2 w3 one in omega (arith, l, from) in
    let place : over ≡ length w0.instructions + length test = o ∙ length_of test false w0 w1 e1 in
    parts_joined test source over free then_part items w0 w3 w4 whole place ends e4

-- where there is an else part
pub some_joined : (over source free : ℕ) (items : List Statement) (w : Written) → false ≡ nat_eq (length items) 0 →
    wrote (Jump (length w.instructions + 1 + length (part free w.held items (length w.instructions + 1))) ∷ part free w.held items
    (length w.instructions + 1))
    false (patched over (JumpIfZero source (length w.instructions + 1)) w) ≡ joined over source free items w
some_joined over source free [] w h = cc
some_joined over source free (s ∷ ss) w h = refl
