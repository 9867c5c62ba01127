-- A text is the listing of one code at most, and where it is none.
use Rattle.std.proofs.Common.{◌≡◌, ℕ, List, [], ◌∷◌, ◌++◌, refl, sym, ap, ◌∙◌, ◌+◌, ◌-◌, ◌<◌, ◌≤◌, ◌^◌, length, map, arith, subst}
use Rattle.std.proofs.Common.{append_assoc, length-append, lit≤}
use Rattle.std.proofs.lemmas.List.{append-nil}
use Rattle.std.specs.List.{AllByRecursion}
use Rattle.std.specs.Prelude.{codes}
use Rattle.pram_model.specs.Layout.{SharedEntry}
use Rattle.superstep_instructions.specs.declared.instr.Instr.{Instr}
use Rattle.superstep_instructions.specs.Code.{SuperstepCode}
use Rattle.superstep_listing.specs.Cutting.{Lacks}
use Rattle.superstep_instructions.specs.Limits.{IsCode, IsEntry, IsInstr}
use Rattle.superstep_listing.specs.Listing.{ended, entry_line, field_words, instr_lines, instr_words, line, lines_of, rule_line, spelling}
use Rattle.superstep_listing.specs.Reading.{AreCode, CannotBe, IsStuck}
use Rattle.superstep_listing.specs.Text.{IsFirstBad, IsListing, longest}
use Rattle.superstep_listing.proofs.Cuts.{one_cut}
use Rattle.superstep_listing.proofs.Decoded.{lacks_visible}
use Rattle.superstep_listing.proofs.Once.{entry_once, field_once, instr_once, rule_once}
use Rattle.superstep_listing.proofs.Plain.{plain_entry, plain_field, plain_instr, plain_rule, plain_version}
use Rattle.superstep_listing.proofs.Stuck.{heads, tails}
use Rattle.superstep_listing.proofs.Whole.{no_field}

-- lines without LF
abbrev ArePlain : List (List ℕ) → Type 0
ArePlain = AllByRecursion (Lacks 10)

plain-append : (a b : List (List ℕ)) → ArePlain a → ArePlain b → ArePlain (a ++ b)
plain-append [] b pa pb = pb
plain-append (x ∷ a) b pa pb = (pa.0, plain-append a b pa.1 pb)

plain_front : (a b : List (List ℕ)) → ArePlain (a ++ b) → ArePlain a
plain_front [] b p = tt
plain_front (x ∷ a) b p = (p.0, plain_front a b p.1)

plain_entries : (es : List SharedEntry) → AllByRecursion IsEntry es → ArePlain (map entry_line es)
plain_entries [] h = tt
plain_entries (e ∷ es) h = (plain_entry e h.0, plain_entries es h.1)

plain_instrs : (k : ℕ) (is : List Instr) → k + length is < 2 ^ 64 → AllByRecursion IsInstr is → ArePlain (instr_lines k is)
plain_instrs k [] fits h = tt
plain_instrs k (i ∷ is) fits h = (plain_instr k i (omega arith) h.0, plain_instrs (k + 1) is (omega arith) h.1)

plain_lines : (c : SuperstepCode) → IsCode c → ArePlain (lines_of c)
plain_lines c s = (
  plain_version,
  (
    plain_rule c.rule,
    (
      plain_field (codes "procs") c.procs (lacks_visible 10 (codes "procs") (lit≤ tt) refl) (let f = s.few_procs in omega arith),
      plain-append (map entry_line c.layout) _ (plain_entries c.layout s.layout.entries) (
        plain_field (codes "uniform") c.uniform_registers (lacks_visible 10 (codes "uniform") (lit≤ tt) refl) (let f = s.few_uniform in
            omega arith),
        (
          plain_field (codes "private") c.private_registers (lacks_visible 10 (codes "private") (lit≤ tt) refl) (let f = s.few_private in
              omega arith),
          (
            plain_field (codes "code") (length c.instructions) (lacks_visible 10 (codes "code") (lit≤ tt) refl) (let f =
                s.few_instructions in omega arith),
            plain_instrs 0 c.instructions (let f = s.few_instructions in omega arith) s.instructions,
          ),
        ),
      ),
    ),
  ),
)

no_end : (f more back : List ℕ) → [] ≡ ((f ++ 10 ∷ []) ++ more) ++ back → ⊥
no_end [] more back e = absurd (cc)
no_end (b ∷ f) more back e = absurd (cc)

-- lines that begin with those
record GoOn (all front : List (List ℕ)) (back : List ℕ) : Type 0 where
  rest : List (List ℕ)
  whole : all ≡ front ++ rest
  left : back ≡ ended rest

go_on : (all front : List (List ℕ)) (back : List ℕ) → ArePlain all → ArePlain front → ended all ≡ ended front ++ back → GoOn all front back
go_on all [] back pa pf e = record { rest = all; whole = refl; left = sym e }
go_on [] (f ∷ front) back pa pf e = absurd (no_end f (ended front) back e)
go_on (a ∷ all) (f ∷ front) back pa pf e =
    let regroup = sym (append_assoc a (10 ∷ []) (ended all)) ∙ e ∙ append_assoc (f ++ 10 ∷ []) (ended front) back
    ∙ append_assoc f (10 ∷ []) (ended front ++ back) in
    let both = one_cut 10 a f (10 ∷ ended all) (10 ∷ (ended front ++ back)) pa.0 pf.0 refl refl regroup in
    let rest : ended all ≡ ended front ++ back = (let h : 10 ∷ ended all ≡ 10 ∷ (ended front ++ back) = both.1 in cc) in
    let more = go_on all front back pa.1 pf.1 rest in
    record { rest = more.rest; whole = ap (λ l. a ∷ l) more.whole ∙ ap (λ x. x ∷ (front ++ more.rest)) both.0; left = more.left }

cannot : (rest : List (List ℕ)) (back : List ℕ) → back ≡ ended rest → CannotBe rest back → ⊥
cannot [] back e h = h e
cannot (x ∷ rest) back e h = h (ended rest) (e ∙ append_assoc x (10 ∷ []) (ended rest))

-- what a text is stuck at is no listing of any code
pub none_listed : (text : List ℕ) (left : ℕ) → IsStuck AreCode text left → (code : SuperstepCode) → IsListing text code → ⊥
none_listed text left s code l =
    let b = s.begins in
    let plain = plain_front s.front s.more (subst ArePlain b.same (plain_lines b.code b.stands)) in
    let g = go_on (lines_of code) s.front s.back (plain_lines code l.stands) plain (sym l.spelled ∙ s.whole) in
    cannot g.rest s.back g.left (s.stuck g.rest (record { code = code; stands = l.stands; same = g.whole }))

-- The fault of a text that is stuck.
pub first_bad : (text : List ℕ) (left : ℕ) → length text ≤ longest → IsStuck AreCode text left → IsFirstBad text (length text - left)
first_bad text left fits s = record {
  fits = fits;
  none = none_listed text left s;
  front = s.front;
  back = s.back;
  whole = s.whole;
  place = (let size : length text ≡ length (ended s.front) + length s.back = ap length s.whole ∙ length-append (ended s.front) s.back in
      let p = s.place in omega arith);
  begins = (let b = s.begins in record { code = b.code; stands = b.stands; more = s.more; same = b.same });
  stops = λ bytes more e b. s.stuck (bytes ∷ b.more) (record {
    code = b.code;
    stands = b.stands;
    same = b.same ∙ append_assoc s.front (bytes ∷ []) b.more;
  }) more e;
}

entries_once : (es ds : List SharedEntry) (u v : ℕ) (xs ys : List (List ℕ)) → AllByRecursion IsEntry es → AllByRecursion IsEntry ds
    → map entry_line es ++ line (field_words (codes "uniform") u) ∷ xs ≡ map entry_line ds ++ line (field_words (codes "uniform") v) ∷ ys
    → (es ≡ ds) × (line (field_words (codes "uniform") u) ∷ xs ≡ line (field_words (codes "uniform") v) ∷ ys)
entries_once [] [] u v xs ys fe fd e = (refl, e)
entries_once [] (d ∷ ds) u v xs ys fe fd e = absurd (no_field d.name d.bounds u (sym (heads _ (entry_line d) _ _ e)))
entries_once (x ∷ es) [] u v xs ys fe fd e = absurd (no_field x.name x.bounds v (heads (entry_line x) _ _ _ e))
entries_once (x ∷ es) (d ∷ ds) u v xs ys fe fd e =
    let same = entry_once x d fe.0 fd.0 (heads (entry_line x) (entry_line d) _ _ e) in
    let rest = entries_once es ds u v xs ys fe.1 fd.1 (tails (entry_line x) (entry_line d) _ _ e) in
    (ap (λ l. x ∷ l) rest.0 ∙ ap (λ y. y ∷ ds) same, rest.1)

instrs_once : (k : ℕ) (is js : List Instr) → k + length is < 2 ^ 64 → AllByRecursion IsInstr is → AllByRecursion IsInstr js →
    instr_lines k is ≡ instr_lines k js → is ≡ js
instrs_once k [] [] fits fi fj e = refl
instrs_once k [] (j ∷ js) fits fi fj e = absurd (cc)
instrs_once k (i ∷ is) [] fits fi fj e = absurd (cc)
instrs_once k (i ∷ is) (j ∷ js) fits fi fj e =
    let same = instr_once k i j (omega arith) fi.0 fj.0 (heads (line (instr_words k i)) (line (instr_words k j)) _ _ e) in
    let rest = instrs_once (k + 1) is js (omega arith) fi.1 fj.1 (tails (line (instr_words k i)) (line (instr_words k j)) _ _ e) in
    ap (λ l. i ∷ l) rest ∙ ap (λ x. x ∷ js) same

none_behind : (rest : List (List ℕ)) → [] ≡ ended rest → rest ≡ []
none_behind [] e = refl
none_behind (x ∷ rest) e = absurd (no_end x (ended rest) [] (e ∙ sym (append-nil _)))

-- no text is the listing of two codes
pub listing_once : (text : List ℕ) (c d : SuperstepCode) → IsListing text c → IsListing text d → c ≡ d
listing_once text c d lc ld =
    let g = go_on (lines_of c) (lines_of d) [] (plain_lines c lc.stands) (plain_lines d ld.stands) (sym lc.spelled ∙ ld.spelled
    ∙ sym (append-nil (spelling d))) in
    let lines : lines_of c ≡ lines_of d = g.whole ∙ ap (λ l. lines_of d ++ l) (none_behind g.rest g.left) ∙ append-nil (lines_of d) in
    let one = tails (codes "bsp 1") (codes "bsp 1") _ _ lines in
    let two = tails (rule_line c.rule) (rule_line d.rule) _ _ one in
    let three = tails (line (field_words (codes "procs") c.procs)) (line (field_words (codes "procs") d.procs)) _ _ two in
    let rules = rule_once c.rule d.rule (heads (rule_line c.rule) (rule_line d.rule) _ _ one) in
    let sc = lc.stands in
    let sd = ld.stands in
    let procs = field_once (codes "procs") c.procs d.procs (lacks_visible 32 (codes "procs") (lit≤ tt) refl) (let f = sc.few_procs in
    omega arith) (let f = sd.few_procs in omega arith) (heads _ _ _ _ two) in
    let parts = entries_once c.layout d.layout c.uniform_registers d.uniform_registers _ _ sc.layout.entries sd.layout.entries three in
    let four = tails (line (field_words (codes "uniform") c.uniform_registers)) (line (field_words (codes "uniform") d.uniform_registers)) _
    _ parts.1 in
    let five = tails (line (field_words (codes "private") c.private_registers)) (line (field_words (codes "private") d.private_registers)) _
    _ four in
    let six = tails (line (field_words (codes "code") (length c.instructions))) (line (field_words (codes "code") (length d.instructions)))
    _ _ five in
    let uniform = field_once (codes "uniform") c.uniform_registers d.uniform_registers (lacks_visible 32 (codes "uniform") (lit≤ tt) refl)
    (let f = sc.few_uniform in omega arith) (let f = sd.few_uniform in omega arith)
    (heads _ _ _ _ parts.1) in
    let private = field_once (codes "private") c.private_registers d.private_registers (lacks_visible 32 (codes "private") (lit≤ tt) refl)
    (let f = sc.few_private in omega arith) (let f = sd.few_private in omega arith)
    (heads _ _ _ _ four) in
    let instrs = instrs_once 0 c.instructions d.instructions (let f = sc.few_instructions in
    omega arith) sc.instructions sd.instructions six in
    λ i. record {
      rule = rules i;
      procs = procs i;
      layout = parts.0 i;
      uniform_registers = uniform i;
      private_registers = private i;
      instructions = instrs i;
    }
