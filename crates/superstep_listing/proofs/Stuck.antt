-- Where the reading of instructions and of numbers of registers stops.
use Rattle.std.proofs.Common.{◌≡◌, ℕ, zero, suc, List, [], ◌∷◌, ◌++◌, refl, sym, ap, ◌∙◌, ◌+◌, ◌-◌, ◌<◌, ◌≤◌, length, arith, subst}
use Rattle.std.proofs.Common.{append_assoc, length-append, lit≤}
use Rattle.std.proofs.lemmas.List.{append-nil}
use Rattle.std.proofs.lemmas.List.Concat.{flat_map-append}
use Rattle.std.specs.List.{AllByRecursion}
use Rattle.std.proofs.Common.{Bool, true, false}
use Rattle.std.specs.Prelude.{codes, ◌==◌}
use Rattle.superstep_listing.specs.declared.error.ReadError.{ReadError}
use Rattle.superstep_listing.specs.declared.error.ReadError.TheVariants as read
use Rattle.superstep_instructions.specs.declared.instr.Instr.{Instr}
use Rattle.superstep_instructions.specs.declared.instr.Instr.TheVariants.{Halt}
use Rattle.superstep_instructions.specs.Limits.{IsInstr, most_instructions, most_registers}
use Rattle.superstep_listing.specs.Listing.{ended, field_words, instr_lines, instr_words, line, size_lines}
use Rattle.superstep_listing.specs.Reading.{AreInstrs, AreRest, CannotBe, IsReadError, IsStuck}
use Rattle.superstep_listing.proofs.Decoded.{lacks_visible}
use Rattle.superstep_listing.proofs.Once.{field_once}

pub ended-append : (a b : List (List ℕ)) → ended (a ++ b) ≡ ended a ++ ended b
ended-append a b = flat_map-append (λ l. l ++ 10 ∷ []) a b

-- one more line in front
pub line_then : (bytes text rest : List ℕ) (front : List (List ℕ)) (back : List ℕ) → text ≡ bytes ++ 10 ∷ rest →
    rest ≡ ended front ++ back → text ≡ ended (bytes ∷ front) ++ back
line_then bytes text rest front back first then =
    first ∙ ap (λ l. bytes ++ 10 ∷ l) then
    ∙ sym (append_assoc (bytes ++ 10 ∷ []) (ended front) back ∙ append_assoc bytes (10 ∷ []) (ended front ++ back))

pub instr_lines-append : (k : ℕ) (a b : List Instr) → instr_lines k (a ++ b) ≡ instr_lines k a ++ instr_lines (k + length a) b
instr_lines-append k [] b = ap (λ n. instr_lines n b) (let e : k ≡ k + 0 = omega arith in e)
instr_lines-append k (x ∷ a) b =
    ap (λ l. line (instr_words k x) ∷ l) (instr_lines-append (k + 1) a b
    ∙ ap (λ n. instr_lines (k + 1) a ++ instr_lines n b) (let e : k + 1 + length a ≡ k + suc (length a) = omega arith in e))

-- one more instruction is read
pub read_more : (text rest behind : List ℕ) (is : List Instr) (place : ℕ) (i : Instr) → length is ≡ place → text ≡ ended (instr_lines 0 is)
    ++ rest
    → rest ≡ line (instr_words place i) ++ 10 ∷ behind → text ≡ ended (instr_lines 0 (is ++ i ∷ [])) ++ behind
read_more text rest behind is place i counted whole next =
    let bytes = line (instr_words place i) in
    let lines : instr_lines 0 (is ++ i ∷ []) ≡ instr_lines 0 is ++ bytes ∷ [] =
    instr_lines-append 0 is (i ∷ []) ∙ ap (λ n. instr_lines 0 is ++ line (instr_words n i) ∷ []) (let e : 0 + length is ≡ place =
    omega arith in e) in
    whole ∙ ap (λ l. ended (instr_lines 0 is) ++ l) (line_then bytes rest behind [] behind next refl)
    ∙ sym (append_assoc (ended (instr_lines 0 is)) (ended (bytes ∷ [])) behind)
    ∙ ap (λ l. l ++ behind) (sym (ended-append (instr_lines 0 is) (bytes ∷ [])) ∙ ap ended (sym lines))

pub all_fit_more : (is : List Instr) (i : Instr) → AllByRecursion IsInstr is → IsInstr i → AllByRecursion IsInstr (is ++ i ∷ [])
all_fit_more [] i h f = (f, tt)
all_fit_more (x ∷ is) i h f = (h.0, all_fit_more is i h.1 f)

-- some instructions, for want of others
halts : ℕ → List Instr
halts zero = []
halts (suc n) = Halt ∷ halts n

length-halts : (n : ℕ) → length (halts n) ≡ n
unfolding halts
length-halts zero = refl
length-halts (suc n) = ap suc (length-halts n)

with_halts : (is : List Instr) (n : ℕ) → AllByRecursion IsInstr is → AllByRecursion IsInstr (is ++ halts n)
unfolding halts
with_halts [] zero h = tt
with_halts [] (suc n) h = (tt, with_halts [] n tt)
with_halts (i ∷ is) n h = (h.0, with_halts is n h.1)

-- the first of these lines is that of an instruction
record NextInstr (k : ℕ) (lines : List (List ℕ)) : Type 0 where
  instr : Instr
  fit : IsInstr instr
  rest : List (List ℕ)
  same : lines ≡ line (instr_words k instr) ∷ rest

others : List (List ℕ) → List (List ℕ)
others [] = []
others (x ∷ xs) = xs

others-cons : (x : List ℕ) (xs : List (List ℕ)) → others (x ∷ xs) ≡ xs
unfolding others
others-cons x xs = refl

-- lines behind an equal number of lines
pub tails : (x y : List ℕ) (xs ys : List (List ℕ)) → x ∷ xs ≡ y ∷ ys → xs ≡ ys
unfolding others
tails x y xs ys e = ap others e

first_or : List (List ℕ) → List ℕ
first_or [] = []
first_or (x ∷ xs) = x

pub heads : (x y : List ℕ) (xs ys : List (List ℕ)) → x ∷ xs ≡ y ∷ ys → x ≡ y
unfolding first_or
heads x y xs ys e = ap first_or e

after : (k : ℕ) (is js : List Instr) (lines : List (List ℕ)) → AllByRecursion IsInstr js → instr_lines k js ≡ instr_lines k is ++ lines →
    length is < length js → NextInstr (k + length is) lines
after k [] [] lines fit e less = absurd (omega arith)
after k [] (j ∷ js) lines fit e less = record {
  instr = j;
  fit = fit.0;
  rest = instr_lines (k + 1) js;
  same = sym e ∙ ap (λ n. line (instr_words n j) ∷ instr_lines (k + 1) js) (let h : k ≡ k + 0 = omega arith in h);
}
after k (i ∷ is) [] lines fit e less = absurd (omega arith)
after k (i ∷ is) (j ∷ js) lines fit e less =
    let tail = tails (line (instr_words k j)) (line (instr_words k i)) (instr_lines (k + 1) js) (instr_lines (k + 1) is ++ lines) e in
    subst (λ n. NextInstr n lines) (let h : k + 1 + length is ≡ k + suc (length is) = omega arith in
    h) (after (k + 1) is js lines fit.1 tail (omega arith))

nothing_after : (k : ℕ) (is js : List Instr) (lines : List (List ℕ)) → instr_lines k js ≡ instr_lines k is ++ lines →
    length js ≡ length is → lines ≡ []
nothing_after k [] [] lines e same = sym e
nothing_after k [] (j ∷ js) lines e same = absurd (omega arith)
nothing_after k (i ∷ is) [] lines e same = absurd (omega arith)
nothing_after k (i ∷ is) (j ∷ js) lines e same =
    nothing_after (k + 1) is js lines (tails (line (instr_words k j)) (line (instr_words k i)) (instr_lines (k + 1) js)
    (instr_lines (k + 1) is ++ lines) e) (omega arith)

-- a line that is no instruction's
pub stuck_instr : (count place : ℕ) (is : List Instr) (text rest : List ℕ) → length is ≡ place → place < count → AllByRecursion IsInstr is →
    text ≡ ended (instr_lines 0 is) ++ rest
    → ((i : Instr) (more : List ℕ) → IsInstr i → rest ≡ line (instr_words place i) ++ 10 ∷ more → ⊥) →
    IsStuck (AreInstrs count) text (length rest)
stuck_instr count place is text rest counted less fit whole none =
    let n = count - place in
    let all : length (is ++ halts n) ≡ count = (let l = length-append is (halts n) in let h = length-halts n in omega arith) in
    record {
      front = instr_lines 0 is;
      back = rest;
      whole = whole;
      place = refl;
      more = instr_lines (0 + length is) (halts n);
      begins = record { instructions = is ++ halts n; counted = all; fit = with_halts is n fit; same = instr_lines-append 0 is (halts n) };
      stuck = λ lines a.
          let next = after 0 is a.instructions lines a.fit a.same (let c = a.counted in omega arith) in
          let is_place : 0 + length is ≡ place = omega arith in
          subst (λ ls. CannotBe ls rest) (sym next.same) (λ more e. none next.instr more next.fit (e
          ∙ ap (λ k. line (instr_words k next.instr) ++ 10 ∷ more) is_place));
    }

-- a text that goes on behind the last instruction
pub stuck_behind : (count : ℕ) (is : List Instr) (text rest : List ℕ) → length is ≡ count → AllByRecursion IsInstr is →
    text ≡ ended (instr_lines 0 is) ++ rest → (rest ≡ [] → ⊥)
    → IsStuck (AreInstrs count) text (length rest)
stuck_behind count is text rest counted fit whole some = record {
  front = instr_lines 0 is;
  back = rest;
  whole = whole;
  place = refl;
  more = [];
  begins = record { instructions = is; counted = counted; fit = fit; same = sym (append-nil (instr_lines 0 is)) };
  stuck = λ lines a. subst (λ ls. CannotBe ls rest) (sym (nothing_after 0 is a.instructions lines a.same (a.counted ∙ sym counted))) some;
}

abbrev uniform_line : ℕ → List ℕ
uniform_line n = line (field_words (codes "uniform") n)

abbrev private_line : ℕ → List ℕ
private_line n = line (field_words (codes "private") n)

abbrev count_line : ℕ → List ℕ
count_line n = line (field_words (codes "code") n)

abbrev IsNoField : List ℕ → List ℕ → Type 0
IsNoField name text = (n : ℕ) (more : List ℕ) → 0 ≤ n → n ≤ 65536 → text ≡ line (field_words name n) ++ 10 ∷ more → ⊥

-- a line that isn't that of the number of uniform registers
pub stuck_uniform : (text : List ℕ) → IsNoField (codes "uniform") text → IsStuck AreRest text (length text)
stuck_uniform text none = record {
  front = [];
  back = text;
  whole = refl;
  place = refl;
  more = size_lines 0 0 0;
  begins = record {
    uniform = 0;
    private = 0;
    instructions = [];
    few_uniform = lit≤ tt;
    few_private = lit≤ tt;
    few = lit≤ tt;
    fit = tt;
    same = refl;
  };
  stuck = λ lines a. subst (λ ls. CannotBe ls text) a.same (λ more e. none a.uniform more (omega arith) a.few_uniform e);
}

pub stuck_private : (u : ℕ) (text rest : List ℕ) → u ≤ most_registers → text ≡ uniform_line u ++ 10 ∷ rest →
    IsNoField (codes "private") rest → IsStuck AreRest text (length rest)
stuck_private u text rest few whole none = record {
  front = uniform_line u ∷ [];
  back = rest;
  whole = line_then (uniform_line u) text rest [] rest whole refl;
  place = refl;
  more = private_line 0 ∷ count_line 0 ∷ [];
  begins = record {
    uniform = u;
    private = 0;
    instructions = [];
    few_uniform = few;
    few_private = lit≤ tt;
    few = lit≤ tt;
    fit = tt;
    same = refl;
  };
  stuck = λ lines a. subst (λ ls. CannotBe ls rest) (tails (uniform_line a.uniform) (uniform_line u) _ lines a.same)
      (λ more e. none a.private more (omega arith) a.few_private e);
}

pub stuck_count : (u v : ℕ) (text mid rest : List ℕ) → u ≤ most_registers → v ≤ most_registers → text ≡ uniform_line u ++ 10 ∷ mid →
    mid ≡ private_line v ++ 10 ∷ rest
    → IsNoField (codes "code") rest → IsStuck AreRest text (length rest)
stuck_count u v text mid rest fu fv first second none = record {
  front = uniform_line u ∷ private_line v ∷ [];
  back = rest;
  whole = line_then (uniform_line u) text mid (private_line v ∷ []) rest first (line_then (private_line v) mid rest [] rest second refl);
  place = refl;
  more = count_line 0 ∷ [];
  begins = record { uniform = u; private = v; instructions = []; few_uniform = fu; few_private = fv; few = lit≤ tt; fit = tt; same = refl };
  stuck = λ lines a.
      let same = tails (private_line a.private) (private_line v) _ lines (tails (uniform_line a.uniform) (uniform_line u) _ (private_line v
      ∷ lines) a.same) in
      subst (λ ls. CannotBe ls rest) same (λ more e. none (length a.instructions) more (omega arith) a.few e);
}

-- a text that is stuck in its instructions
pub stuck_rest : (u v count : ℕ) (text mid more lines : List ℕ) (left : ℕ) → u ≤ most_registers → v ≤ most_registers →
    count ≤ most_instructions
    → text ≡ uniform_line u ++ 10 ∷ mid → mid ≡ private_line v ++ 10 ∷ more → more ≡ count_line count ++ 10 ∷ lines →
    IsStuck (AreInstrs count) lines left → IsStuck AreRest text left
stuck_rest u v count text mid more lines left fu fv fc first second third s =
    let a = s.begins in
    record {
      front = size_lines u v count ++ s.front;
      back = s.back;
      whole = line_then (uniform_line u) text mid (private_line v ∷ count_line count ∷ s.front) s.back first
          (line_then (private_line v) mid more (count_line count
          ∷ s.front) s.back second (line_then (count_line count) more lines s.front s.back third s.whole));
      place = s.place;
      more = s.more;
      begins = record {
        uniform = u;
        private = v;
        instructions = a.instructions;
        few_uniform = fu;
        few_private = fv;
        few = subst (λ n. n ≤ most_instructions) (sym a.counted) fc;
        fit = a.fit;
        same = ap (λ n. size_lines u v n ++ instr_lines 0 a.instructions) a.counted ∙ ap (λ l. size_lines u v count ++ l) a.same;
      };
      stuck = λ ls b.
          let one = tails (uniform_line b.uniform) (uniform_line u) _ (private_line v ∷ count_line count ∷ (s.front ++ ls)) b.same in
          let two = tails (private_line b.private) (private_line v) _ (count_line count ∷ (s.front ++ ls)) one in
          let is = heads (count_line (length b.instructions)) (count_line count) _ (s.front ++ ls) two in
          let few = b.few in
          let counted = field_once (codes "code") (length b.instructions) count (lacks_visible 32 (codes "code") (lit≤ tt) refl)
          (omega arith) (omega arith) is in
          s.stuck ls (record {
            instructions = b.instructions;
            counted = counted;
            fit = b.fit;
            same = tails (count_line (length b.instructions)) (count_line count) _ (s.front ++ ls) two;
          });
    }

-- an error of a part, as one of the whole
pub lifted : (A B : List (List ℕ) → Type 0) (part whole : List ℕ) → ((left : ℕ) → IsStuck A part left → IsStuck B whole left) →
    (e : ReadError) → IsReadError A part e → IsReadError B whole e
lifted A B part whole f read.OutOfMemory h = tt
lifted A B part whole f (read.Bad left) h = f left h

pub not_empty : (r : Bool) (text : List ℕ) → r ≡ (length text == 0) → r ≡ false → text ≡ [] → ⊥
not_empty r text told is e = let both : true ≡ false = sym (told ∙ ap (λ l. length l == 0) e) ∙ is in cc
