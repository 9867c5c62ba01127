-- Where the reading of a whole listing stops.
use Rattle.std.proofs.Common.{◌≡◌, ℕ, List, [], ◌∷◌, ◌++◌, refl, sym, ap, ◌∙◌, ◌<◌, ◌≤◌, length, map, arith, subst, append_assoc, lit<}
use Rattle.std.proofs.Common.{lit≤, ◌⊎◌, inl, inr}
use Rattle.std.specs.List.{AllByRecursion}
use Rattle.std.specs.Prelude.{codes, ℤ, Option, Some, None}
use Rattle.pram_model.specs.declared.rule.Rule.{Rule}
use Rattle.pram_model.specs.declared.rule.Rule.TheVariants as rule
use Rattle.pram_model.specs.Layout.{SharedEntry, total_size}
use Rattle.superstep_instructions.specs.Code.{SuperstepCode}
use Rattle.superstep_instructions.specs.Limits.{AreDifferent, IsCode, IsEntry, IsLayout, IsNew, most_procs, names_of}
use Rattle.superstep_listing.specs.Listing.{ended, entry_line, entry_words, field_words, head_lines, instr_lines, line, lines_of, rule_line}
use Rattle.superstep_listing.specs.Listing.{size_lines}
use Rattle.superstep_listing.specs.Reading.{AreCode, AreRest, CannotBe, IsStuck}
use Rattle.superstep_listing.proofs.Numerals.{apart}
use Rattle.superstep_listing.proofs.Once.{entry_once}
use Rattle.superstep_listing.proofs.Stuck.{ended-append, heads, line_then, tails}

abbrev procs_line : ℕ → List ℕ
procs_line n = line (field_words (codes "procs") n)

abbrev uniform_line : ℕ → List ℕ
uniform_line n = line (field_words (codes "uniform") n)

abbrev version_line : List ℕ
version_line = codes "bsp 1"

-- code without declarations and instructions
abbrev bare : Rule → ℕ → SuperstepCode
bare r m = record { rule = r; procs = m; layout = []; uniform_registers = 0; private_registers = 0; instructions = [] }

bare_stands : (r : Rule) (m : ℕ) → 0 < m → m ≤ most_procs → IsCode (bare r m)
bare_stands r m some few = record {
  some_procs = some;
  few_procs = few;
  layout = record { entries = tt; different = tt; cells = lit≤ tt };
  few_uniform = lit≤ tt;
  few_private = lit≤ tt;
  instructions = tt;
  few_instructions = lit≤ tt;
}

pub stuck_version : (text : List ℕ) → ((more : List ℕ) → text ≡ version_line ++ 10 ∷ more → ⊥) → IsStuck AreCode text (length text)
stuck_version text none = record {
  front = [];
  back = text;
  whole = refl;
  place = refl;
  more = lines_of (bare rule.Erew 1);
  begins = record { code = bare rule.Erew 1; stands = bare_stands rule.Erew 1 (lit< tt) (lit≤ tt); same = refl };
  stuck = λ lines a. subst (λ ls. CannotBe ls text) a.same none;
}

pub stuck_rule : (text rest : List ℕ) → text ≡ version_line ++ 10 ∷ rest → ((r : Rule) (more : List ℕ) → rest ≡ rule_line r ++ 10 ∷ more →
    ⊥) → IsStuck AreCode text (length rest)
stuck_rule text rest first none = record {
  front = version_line ∷ [];
  back = rest;
  whole = line_then version_line text rest [] rest first refl;
  place = refl;
  more = rule_line rule.Erew ∷ procs_line 1 ∷ size_lines 0 0 0;
  begins = record { code = bare rule.Erew 1; stands = bare_stands rule.Erew 1 (lit< tt) (lit≤ tt); same = refl };
  stuck = λ lines a. subst (λ ls. CannotBe ls rest) (tails version_line version_line _ lines a.same) (none a.code.rule);
}

pub stuck_procs : (r : Rule) (text mid rest : List ℕ) → text ≡ version_line ++ 10 ∷ mid → mid ≡ rule_line r ++ 10 ∷ rest
    → ((n : ℕ) (more : List ℕ) → 1 ≤ n → n ≤ 16384 → rest ≡ procs_line n ++ 10 ∷ more → ⊥) → IsStuck AreCode text (length rest)
stuck_procs r text mid rest first second none = record {
  front = version_line ∷ rule_line r ∷ [];
  back = rest;
  whole = line_then version_line text mid (rule_line r ∷ []) rest first (line_then (rule_line r) mid rest [] rest second refl);
  place = refl;
  more = procs_line 1 ∷ size_lines 0 0 0;
  begins = record { code = bare r 1; stands = bare_stands r 1 (lit< tt) (lit≤ tt); same = refl };
  stuck = λ lines a.
      let same = tails (rule_line a.code.rule) (rule_line r) _ lines (tails version_line version_line _ (rule_line r ∷ lines) a.same) in
      subst (λ ls. CannotBe ls rest) same (λ more e. none a.code.procs more (let s = a.stands.some_procs in
      omega arith) a.stands.few_procs e);
}

-- A front of a layout is one.

names-append : (a b : List SharedEntry) → names_of (a ++ b) ≡ names_of a ++ names_of b
names-append [] b = refl
names-append (x ∷ a) b = ap (λ l. x.name ∷ l) (names-append a b)

new_front : (a b : List (List ℕ)) (name : List ℕ) → IsNew (a ++ b) name → IsNew a name
new_front [] b name h = tt
new_front (x ∷ a) b name h = (h.0, new_front a b name h.1)

different_front : (a b : List (List ℕ)) → AreDifferent (a ++ b) → AreDifferent a
different_front [] b h = tt
different_front (x ∷ a) b h = (new_front a b x h.0, different_front a b h.1)

all_front : (a b : List SharedEntry) → AllByRecursion IsEntry (a ++ b) → AllByRecursion IsEntry a
all_front [] b h = tt
all_front (x ∷ a) b h = (h.0, all_front a b h.1)

total_front : (a b : List SharedEntry) → total_size a ≤ total_size (a ++ b)
total_front [] b = omega arith
total_front (x ∷ a) b = let h = total_front a b in omega arith

layout_front : (a b : List SharedEntry) → IsLayout (a ++ b) → IsLayout a
layout_front a b l = record {
  entries = all_front a b l.entries;
  different = different_front (names_of a) (names_of b) (subst AreDifferent (names-append a b) l.different);
  cells = (let h = total_front a b in let k = l.cells in omega arith);
}

-- no declaration's line is that of the number of uniform registers
pub no_field : (name : List ℕ) (bounds : Option (ℤ × ℤ)) (n : ℕ) → line (entry_words name bounds) ≡ uniform_line n → ⊥
no_field name None n e = apart (line (entry_words name None)) (uniform_line n) refl e
no_field name (Some b) n e = apart (line (entry_words name (Some b))) (uniform_line n) refl e

-- One more declaration is there, or none.
record OneMore (es all : List SharedEntry) (lines : List (List ℕ)) : Type 0 where
  entry : SharedEntry
  after : List SharedEntry
  whole : all ≡ es ++ entry ∷ after
  others : List (List ℕ)
  first : lines ≡ entry_line entry ∷ others

split_entries : (es all : List SharedEntry) (u : ℕ) (others lines : List (List ℕ)) → AllByRecursion IsEntry es → AllByRecursion IsEntry all
    → map entry_line all ++ uniform_line u ∷ others ≡ map entry_line es ++ lines → (lines ≡ uniform_line u ∷ others) ⊎ OneMore es all lines
split_entries [] [] u others lines fe fa e = inl (sym e)
split_entries [] (x ∷ all) u others lines fe fa e =
    inr (record { entry = x; after = all; whole = refl; others = map entry_line all ++ uniform_line u ∷ others; first = sym e })
split_entries (d ∷ es) [] u others lines fe fa e =
    absurd (no_field d.name d.bounds u (sym (heads (uniform_line u) (entry_line d) others (map entry_line es ++ lines) e)))
split_entries (d ∷ es) (x ∷ all) u others lines fe fa e =
    let same = entry_once x d fa.0 fe.0 (heads (entry_line x) (entry_line d) (map entry_line all ++ uniform_line u
    ∷ others) (map entry_line es ++ lines) e) in
    let rest = tails (entry_line x) (entry_line d) (map entry_line all ++ uniform_line u ∷ others) (map entry_line es ++ lines) e in
    elim (split_entries es all u others lines fe.1 fa.1 rest) [
      | inl h ↦ inl h
      | inr h ↦ inr (record {
        entry = h.entry;
        after = h.after;
        whole = ap (λ l. x ∷ l) h.whole
            ∙ ap (λ y. y ∷ (es ++ h.entry ∷ h.after)) same;
        others = h.others;
        first = h.first;
      })
    ]

-- lines that begin with a declaration's are no rest of code
no_rest : (e : SharedEntry) (others : List (List ℕ)) → AreRest (entry_line e ∷ others) → ⊥
no_rest e others a = no_field e.name e.bounds a.uniform (sym (heads (uniform_line a.uniform) (entry_line e) _ others a.same))

first_differs : (front lines others more : List (List ℕ)) (e : SharedEntry) (back : List ℕ) → AreRest (front ++ more) →
    front ++ lines ≡ entry_line e ∷ others
    → ((rest : List ℕ) → front ≡ [] → back ≡ entry_line e ++ 10 ∷ rest → ⊥) → CannotBe lines back
first_differs [] lines others more e back a same none = subst (λ ls. CannotBe ls back) (sym same) (λ rest r. none rest refl r)
first_differs (f ∷ front) lines others more e back a same none =
    let is = heads f (entry_line e) (front ++ lines) others same in
    absurd (no_rest e (front ++ more) (subst (λ x. AreRest (x ∷ (front ++ more))) is a))

-- a text that is stuck behind its declarations
module _ (r : Rule) (m : ℕ) (es : List SharedEntry) (some : 0 < m) (few : m ≤ most_procs) (layout : IsLayout es) where
  abbrev before : List (List ℕ) → List (List ℕ)
  before front = head_lines r m ++ (map entry_line es ++ front)

  code_with : (lines : List (List ℕ)) → AreRest lines → AreCode (before lines)
  code_with lines a = record {
    code = record {
      rule = r;
      procs = m;
      layout = es;
      uniform_registers = a.uniform;
      private_registers = a.private;
      instructions =
          a.instructions;
    };
    stands = record {
      some_procs = some;
      few_procs = few;
      layout = layout;
      few_uniform = a.few_uniform;
      few_private = a.few_private;
      instructions = a.fit;
      few_instructions = a.few;
    };
    same = ap before a.same;
  }

  rest_with : (code : SuperstepCode) (lines : List (List ℕ)) → IsCode code
      → size_lines code.uniform_registers code.private_registers (length code.instructions) ++ instr_lines 0 code.instructions ≡ lines →
      AreRest lines
  rest_with code lines stands same = record {
    uniform = code.uniform_registers;
    private = code.private_registers;
    instructions = code.instructions;
    few_uniform = stands.few_uniform;
    few_private = stands.few_private;
    few = stands.few_instructions;
    fit = stands.instructions;
    same = same;
  }

  pub stuck_code : (text one two three lines : List ℕ) (left : ℕ) → text ≡ version_line ++ 10 ∷ one → one ≡ rule_line r ++ 10 ∷ two →
      two ≡ procs_line m ++ 10 ∷ three
      → three ≡ ended (map entry_line es) ++ lines → ((e : SharedEntry) (more : List ℕ) → IsLayout (es ++ e ∷ []) →
      lines ≡ entry_line e ++ 10 ∷ more → ⊥)
      → IsStuck AreRest lines left → IsStuck AreCode text left
  stuck_code text one two three lines left first second third fourth most s =
      let entries = map entry_line es in
      let whole : three ≡ ended (entries ++ s.front) ++ s.back =
      fourth ∙ ap (λ l. ended entries ++ l) s.whole ∙ sym (append_assoc (ended entries) (ended s.front) s.back)
      ∙ ap (λ l. l ++ s.back) (sym (ended-append entries s.front)) in
      record {
        front = before s.front;
        back = s.back;
        whole = line_then version_line text one (rule_line r ∷ procs_line m ∷ (entries ++ s.front)) s.back first
            (line_then (rule_line r) one two (procs_line m ∷ (entries ++ s.front)) s.back second
            (line_then (procs_line m) two three (entries ++ s.front) s.back third whole));
        place = s.place;
        more = s.more;
        begins = subst AreCode (ap (λ l. head_lines r m ++ l) (sym (append_assoc entries s.front s.more)))
            (code_with (s.front ++ s.more) s.begins);
        stuck = λ ls a.
            let c = a.code in
            let past = tails (procs_line c.procs) (procs_line m) _ ((entries ++ s.front) ++ ls)
            (tails (rule_line c.rule) (rule_line r) _ (procs_line m
            ∷ ((entries ++ s.front) ++ ls)) (tails version_line version_line _ (rule_line r ∷ procs_line m
            ∷ ((entries ++ s.front) ++ ls)) a.same)) in
            elim (split_entries es c.layout c.uniform_registers _ (s.front ++ ls) layout.entries a.stands.layout.entries (past
            ∙ append_assoc entries s.front ls)) [
              | inl h ↦ s.stuck ls (rest_with c (s.front ++ ls) a.stands (sym h))
              | inr h ↦ first_differs s.front ls h.others s.more h.entry s.back s.begins h.first
                  (λ rest none_before e.
                  let stands = layout_front (es ++ h.entry
                  ∷ []) h.after (subst IsLayout (h.whole ∙ sym (append_assoc es (h.entry ∷ []) h.after)) a.stands.layout) in
                  most h.entry rest stands (s.whole ∙ ap (λ f. ended f ++ s.back) none_before ∙ e))
            ];
      }
