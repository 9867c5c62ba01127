-- The parts of an expression have room where the whole has.
use Rattle.std.proofs.Common.{◌≡◌, ℕ, List, [], ◌∷◌, ◌++◌, ◌+◌, ◌^◌, ◌<◌, ◌≤◌, refl, ap, sym, subst, ◌∙◌, Global, Box, Vec, take, drop}
use Rattle.std.proofs.Common.{length, get_or, arith}
use Rattle.std.proofs.lemmas.List.{take-append-drop}
use Rattle.pram_names.specs.declared.body.Expression.{Chain, Expression}
use Rattle.pram_names.specs.declared.body.Link.{Link}
use Rattle.pram_tokens.specs.declared.token.Binary.{Binary}
use Rattle.plain_form.specs.Formulas.{Formula, Zero, Number, Variable, Index, Local, Read, Before, Between, Pair, reads, positions, nesting}
use Rattle.plain_form.specs.Formulas.{formula_of}
use Rattle.straight_lowering.specs.declared.cursor.Cursor.{Cursor}
use Rattle.straight_lowering.specs.Cursors.{behind, chain_of, first_of, so_far}
use Rattle.straight_lowering.specs.Room.{HasRoom, HasShortNames, height}
use Rattle.straight_lowering.proofs.Chains.{formula_of_chain, so_far_more, first_is}

-- what f asks for is no more than what g does
pub record IsPart (f g : Formula) : Type 0 where
  pub names : HasShortNames g → HasShortNames f
  pub reads : reads f ≤ reads g
  pub height : height f ≤ height g
  pub positions : positions f ≤ positions g

is_whole : (f : Formula) → IsPart f f
is_whole f = record {
  names = λ n. n;
  reads = omega arith;
  height = omega arith;
  positions = omega arith;
}

-- first operands of a chain
chain_part : (f : Formula) (ls : List Link) → IsPart f (chain_of f ls)
chain_part f [] = is_whole f
chain_part f (l ∷ ls) =
    let more = chain_part (Between l.operator f (formula_of l.operand)) ls in
    record {
      names = λ n. (more.names n).0;
      reads = omega (arith, more.reads);
      height = omega (arith, more.height);
      positions = omega (arith, more.positions);
    }

chain_split : (f : Formula) (xs ys : List Link) → chain_of f (xs ++ ys) ≡ chain_of (chain_of f xs) ys
chain_split f [] ys = refl
chain_split f (x ∷ xs) ys = chain_split (Between x.operator f (formula_of x.operand)) xs ys

so_far_part : (e : Expression) (first : Box Expression Global) (links : Vec Link Global) (items : List Link) (i : ℕ) →
    e ≡ Chain first links → items ≡ links.items → IsPart (so_far e items i) (formula_of e)
so_far_part e first links items i is all =
    let whole : chain_of (so_far e items i) (drop i items) ≡ formula_of e =
    sym (chain_split (first_of e) (take i items) (drop i items)) ∙ ap (chain_of (first_of e)) (take-append-drop i items ∙ all)
    ∙ ap (λ f. chain_of f links.items) (first_is e first links is) ∙ sym (formula_of_chain e first links is) in
    subst (λ g. IsPart (so_far e items i) g) whole (chain_part (so_far e items i) (drop i items))

-- one link more than so far
pub link_part : (e : Expression) (first : Box Expression Global) (links : Vec Link Global) (items : List Link) (i : ℕ) (l : Link) →
    e ≡ Chain first links → items ≡ links.items → i < length items → l ≡ get_or items i l →
    IsPart (Between l.operator (so_far e items i) (formula_of l.operand)) (formula_of e)
link_part e first links items i l is all h at =
    subst (λ f. IsPart f (formula_of e)) (so_far_more e items i l h at) (so_far_part e first links items (i + 1) is all)

-- a chain's first operand
pub first_part : (e x : Expression) (first : Box Expression Global) (links : Vec Link Global) → e ≡ Chain first links → x ≡ first.value →
    IsPart (formula_of x) (formula_of e)
first_part e x first links is at =
    subst (λ f. IsPart f (formula_of e)) (first_is e first links is ∙ ap formula_of (sym at))
    (so_far_part e first links links.items 0 is refl)

pub part_room : (f g : Formula) (t b q : ℕ) → IsPart f g → HasRoom g t b q → HasRoom f t b q
part_room f g t b q part room = record {
  names = part.names room.names;
  reads = omega (arith, part.reads, room.reads);
  stack = omega (arith, part.height, room.stack);
  positions = omega (arith, part.positions, room.positions);
}

-- registers of a second operand's reads
pub operand_reads : (o : Binary) (f g e : Formula) (at mid : Cursor) → IsPart (Between o f g) e → mid ≡ behind f at →
    at.read + reads e < 2 ^ 16 → mid.read + reads g < 2 ^ 16
operand_reads o f g e at mid part m room =
    let r : mid.read ≡ at.read + reads f = ap (λ c. c.read) m in
    let all : reads f + reads g ≤ reads e = part.reads in
    omega (arith, r, all, room)

-- its positions, and that of the operator
pub operand_positions : (o : Binary) (f g e : Formula) (at mid : Cursor) → IsPart (Between o f g) e → mid ≡ behind f at →
    at.position + positions e < 2 ^ 32 → mid.position + positions g + 1 < 2 ^ 32
operand_positions o f g e at mid part m room =
    let r : mid.position ≡ at.position + positions f = ap (λ c. c.position) m in
    let all : positions f + positions g + 1 ≤ positions e = part.positions in
    omega (arith, r, all, room)

-- the position of the operator
pub operator_position : (o : Binary) (f g e : Formula) (at mid after : Cursor) → IsPart (Between o f g) e → mid ≡ behind f at →
    after ≡ behind g mid → at.position + positions e < 2 ^ 32 → after.position + 1 < 2 ^ 32
operator_position o f g e at mid after part m a room =
    let r : after.position ≡ mid.position + positions g = ap (λ c. c.position) a in
    omega (arith, r, operand_positions o f g e at mid part m room)

-- a second operand on the register behind that of the first, or on the same
pub operand_room : (o : Binary) (f g e : Formula) (at mid : Cursor) (b above : ℕ) → IsPart (Between o f g) e → mid ≡ behind f at →
    above ≤ b + 1 → HasRoom e at.read b at.position → HasRoom g mid.read above mid.position
operand_room o f g e at mid b above part m up room =
    let numbers : at.position + positions e < 2 ^ 32 = omega (arith, room.positions) in
    let all : height f + height g + 1 ≤ height e = part.height in
    record {
      names = (part.names room.names).1;
      reads = operand_reads o f g e at mid part m room.reads;
      stack = omega (arith, up, all, room.stack);
      positions = operand_positions o f g e at mid part m numbers;
    }

-- reads nest no deeper than there are reads
pub nesting_reads : (f : Formula) → nesting f ≤ reads f
nesting_reads Zero = omega arith
nesting_reads (Number n) = omega arith
nesting_reads (Variable x) = omega arith
nesting_reads Index = omega arith
nesting_reads (Local x) = omega arith
nesting_reads (Read a f) = omega (arith, nesting_reads f)
nesting_reads (Before o f) = nesting_reads f
nesting_reads (Between o f g) = omega (arith, nesting_reads f, nesting_reads g)
nesting_reads (Pair f g) = omega (arith, nesting_reads f, nesting_reads g)
