-- An accepted program is within bounds.
use Rattle.std.proofs.Common.{◌≡◌, ◌+◌, ◌≤◌, ℕ, Bool, true, false, ◌&&◌, ◌||◌, nat_le, nat_lt, List, [], ◌∷◌, ◌++◌, Option, Some, None, ℤ}
use Rattle.std.proofs.Common.{pos, length, length-append, append_assoc, refl, sym, ap, ◌∙◌, subst, arith}
use Rattle.std.specs.Prelude.{slice_get, if◌then◌else◌, int_lt, ◌≤ℤ◌, MatchOption}
use Rattle.std.specs.List.{AllByRecursion}
use Rattle.std.proofs.lemmas.Bool.Decides.{nat_tests}
use Rattle.std.proofs.lemmas.Int.{ints}
use Rattle.pram_tokens.specs.declared.token.Mark.TheVariants as mark
use Rattle.pram_tokens.specs.declared.token.Token.TheVariants as token
use Rattle.pram_trees.specs.declared.tree.Declaration.{Declaration}
use Rattle.pram_trees.specs.declared.tree.Declaration.TheVariants as declare
use Rattle.pram_trees.specs.Blocks.{block_tokens}
use Rattle.pram_model.specs.Declarations.{IsEntry, IsNew, AreDifferent, names_of, IsLayout}
use Rattle.pram_model.specs.Layout.{SharedEntry, size, total_size, most_cells}
use Rattle.pram_trees.specs.Program.{IsTree, limit, declarations_tokens, program_tokens}
use Rattle.pram_model.specs.Names.{same_text}
use Rattle.pram_model.proofs.Texts.{same_itself}
use Rattle.pram_tokens.specs.Tokens.{AreReal, IsNumber}
use Rattle.pram_tokens.proofs.Real.{front_real}
use Rattle.pram_names.specs.declared.fault.Breach.{Breach}
use Rattle.pram_names.specs.declared.fault.Cause.{Cause}
use Rattle.pram_names.specs.declared.fault.Cause.TheVariants as cause
use Rattle.pram_names.specs.declared.fault.Limit.TheVariants as limits
use Rattle.pram_names.specs.declared.fault.Spot.TheVariants.{TextEnd}
use Rattle.pram_names.specs.declared.scope.Meaning.{Meaning}
use Rattle.pram_names.specs.declared.scope.Meaning.TheVariants.{Uniform, Cell, Array}
use Rattle.pram_check.specs.Bounded.{IsBounded}
use Rattle.pram_names.specs.Breaches.{at, new_cause, bounds_cause, cells_cause, shared_cause, or_else, declaration_breaches, block_breaches}
use Rattle.pram_names.specs.Breaches.{body_context, procs_cause, token_breaches, breaches, most_procs, most_tokens}
use Rattle.pram_check.specs.Faults.{IsAccepted}
use Rattle.pram_check.proofs.ProgramFaults.{nothing_told}
use Rattle.pram_check.specs.Checked.{Checked, IsResolved}
use Rattle.pram_names.specs.Scope.{Scope, meaning_of, declared_from, globals, shared_entries, uniform_count}
use Rattle.pram_check.proofs.BoundedExpressions.{AreThere, back_real, front_none, back_none}
use Rattle.pram_check.proofs.BoundedStatements.{outer, statements_within}
use Rattle.pram_check.proofs.Depths.{depth_within}

-- ---- what is declared is there

entry_behind : (front : List SharedEntry) (e : SharedEntry) (rest : List SharedEntry) →
    slice_get (front ++ e ∷ rest) (length front) ≡ Some e
entry_behind [] e rest = refl
entry_behind (x ∷ front) e rest = entry_behind front e rest

longer : (front : List SharedEntry) (e : SharedEntry) → length (front ++ e ∷ []) ≡ length front + 1
longer front e = length-append front (e ∷ [])

declared_there : (layout : List SharedEntry) (uniforms : ℕ) (front : List SharedEntry) (u : ℕ) (ds : List Declaration) →
    layout ≡ front ++ shared_entries ds → uniforms ≡ u + uniform_count ds →
    AreThere (outer layout uniforms) (declared_from (length front) u ds)
declared_there layout uniforms front u [] all count = tt
declared_there layout uniforms front u (declare.Cell x ∷ ds) all count =
    let e : SharedEntry = record { name = x.text; bounds = None } in
    let here : slice_get layout (length front) ≡ Some e = ap (λ l. slice_get l (length front)) all
    ∙ entry_behind front e (shared_entries ds) in
    let more = declared_there layout uniforms (front ++ e ∷ []) u ds (all ∙ sym (append_assoc front (e ∷ [])
    (shared_entries ds))) count in (
      subst (λ o. MatchOption o ⊥ (λ e. e.bounds ≡ None)) (sym here) refl,
      subst (λ n. AreThere (outer layout uniforms) (declared_from n u ds)) (longer front e) more,
    )
declared_there layout uniforms front u (declare.Array x low high ∷ ds) all count =
    let e : SharedEntry = record { name = x.text; bounds = Some (low.value, high.value) } in
    let here : slice_get layout (length front) ≡ Some e = ap (λ l. slice_get l (length front)) all
    ∙ entry_behind front e (shared_entries ds) in
    let more = declared_there layout uniforms (front ++ e ∷ []) u ds (all ∙ sym (append_assoc front (e ∷ [])
    (shared_entries ds))) count in (
      subst (λ o. MatchOption o ⊥ (λ e. (b : ℤ × ℤ) × (e.bounds ≡ Some b))) (sym here) ((low.value, high.value), refl),
      subst (λ n. AreThere (outer layout uniforms) (declared_from n u ds)) (longer front e) more,
    )
declared_there layout uniforms front u (declare.Uniform x ∷ ds) all count =
    (omega (arith, count), declared_there layout uniforms front (u + 1) ds all (omega (arith, count)))

-- ---- names are different

-- a name that is in a scope
abbrev Has : Scope → List ℕ → Type 0
Has scope text = meaning_of scope text ≡ None → ⊥

has_front : (front back : Scope) (text : List ℕ) → Has front text → Has (front ++ back) text
has_front [] back text has = λ none. absurd (has refl)
has_front (b ∷ front) back text has = by (same_text b.0 text) refl (has_front front back text)
  where
    by : (same : Bool) → same_text b.0 text ≡ same → (Has front text → Has (front ++ back) text) → Has ((b ∷ front) ++ back) text
    by true e further none = absurd (cc (none, ap (λ z. if z then Some b.1 else meaning_of (front ++ back) text) e))
    by false e further none =
        further (λ n. has (ap (λ z. if z then Some b.1 else meaning_of front text) e ∙ n))
        (sym (ap (λ z. if z then Some b.1 else meaning_of (front ++ back) text) e) ∙ none)

has_last : (front : Scope) (text : List ℕ) (m : Meaning) → Has (front ++ (text, m) ∷ []) text
has_last [] text m = λ none. absurd (cc (none, ap (λ z. if z then Some m else None) (same_itself text)))
has_last (b ∷ front) text m = by (same_text b.0 text) refl (has_last front text m)
  where
    by : (same : Bool) → same_text b.0 text ≡ same → Has (front ++ (text, m) ∷ []) text → Has ((b ∷ front) ++ (text, m) ∷ []) text
    by true e further none = absurd (cc (none, ap (λ z. if z then Some b.1 else meaning_of (front ++ (text, m) ∷ []) text) e))
    by false e further none = further (sym (ap (λ z. if z then Some b.1 else meaning_of (front ++ (text, m) ∷ []) text) e) ∙ none)

abbrev double : Option Meaning → Option Cause
double o = elim o [ None ↦ None | Some m ↦ Some cause.DoubleName ]

-- a new name is not in the scope
is_free : (scope : Scope) (text : List ℕ) → new_cause scope text ≡ None → meaning_of scope text ≡ None
is_free scope text h = by (meaning_of scope text) refl
  where
    by : (o : Option Meaning) → meaning_of scope text ≡ o → meaning_of scope text ≡ None
    by None e = e
    by (Some m) e = absurd (cc (h, ap double e))

differs : (scope : Scope) (text other : List ℕ) → Has scope text → new_cause scope other ≡ None → text ≡ other → ⊥
differs scope text other has new same = has (ap (meaning_of scope) same ∙ is_free scope other new)

no_cause : (l : _) (c : Option Cause) → at l c ≡ [] → c ≡ None
no_cause l None h = refl
no_cause l (Some c) h = absurd (cc h)

first_none : (a b : Option Cause) → or_else a b ≡ None → a ≡ None
first_none None b h = refl
first_none (Some c) b h = absurd (cc h)

second_none : (a b : Option Cause) → or_else a b ≡ None → b ≡ None
second_none None b h = h
second_none (Some c) b h = absurd (cc h)

later_new : (scope : Scope) (e u c : ℕ) (ds : List Declaration) (text : List ℕ) → Has scope text →
    declaration_breaches scope e u c ds ≡ [] → IsNew (names_of (shared_entries ds)) text
later_new scope e u c [] text has none = tt
later_new scope e u c (declare.Cell x ∷ ds) text has none =
    let new = first_none (new_cause scope x.text) _ (no_cause x.location (shared_cause scope c x.text None)
    (front_none (at x.location (shared_cause scope c x.text None)) _ none)) in (
      differs scope text x.text has new,
      later_new (scope ++ (x.text, Cell e) ∷ []) (e + 1) u (c + 1) ds text (has_front scope ((x.text, Cell e) ∷ []) text has)
          (back_none (at x.location (shared_cause scope c x.text None)) _ none),
    )
later_new scope e u c (declare.Array x low high ∷ ds) text has none =
    let bounds = Some (low.value, high.value) in
    let new = first_none (new_cause scope x.text) _ (no_cause x.location (shared_cause scope c x.text bounds)
    (front_none (at x.location (shared_cause scope c x.text bounds)) _ none)) in (
      differs scope text x.text has new,
      later_new (scope ++ (x.text, Array e) ∷ []) (e + 1) u (c + size bounds) ds text (has_front scope ((x.text, Array e) ∷ []) text has)
          (back_none (at x.location (shared_cause scope c x.text bounds)) _ none),
    )
later_new scope e u c (declare.Uniform x ∷ ds) text has none =
    later_new (scope ++ (x.text, Uniform u) ∷ []) e (u + 1) c ds text (has_front scope ((x.text, Uniform u) ∷ []) text has)
    (back_none (at x.location (new_cause scope x.text)) _ none)

-- ---- the shared declarations of an accepted tree

ordered : (low high : ℤ) → bounds_cause (Some (low, high)) ≡ None → low ≤ℤ high
ordered low high h = by (int_lt high low) refl
  where
    by : (b : Bool) → int_lt high low ≡ b → low ≤ℤ high
    by true e = absurd (cc (h, ap (λ z. if z then Some (cause.Limit limits.Bounds) else None) e))
    by false e = grind (arith, ints, e)

fitting : (before now : ℕ) → before ≤ most_cells → cells_cause before now ≡ None → before + now ≤ most_cells
fitting before now h none = by (nat_le before most_cells && nat_lt most_cells (before + now)) refl
  where
    by : (b : Bool) → (nat_le before most_cells && nat_lt most_cells (before + now)) ≡ b → before + now ≤ most_cells
    by true e = absurd (cc (none, ap (λ z. if z then Some (cause.Limit limits.Cells) else None) e))
    by false e = grind (arith, nat_tests, e)

record Laid (c : ℕ) (ds : List Declaration) : Type 0 where
  entries : AllByRecursion IsEntry (shared_entries ds)
  different : AreDifferent (names_of (shared_entries ds))
  cells : c + total_size (shared_entries ds) ≤ most_cells

laid : (scope : Scope) (e u c : ℕ) (ds : List Declaration) → c ≤ most_cells → declaration_breaches scope e u c ds ≡ [] →
    AreReal (declarations_tokens ds) → Laid c ds
laid scope e u c [] h none real = record { entries = tt; different = tt; cells = omega arith }
laid scope e u c (declare.Cell x ∷ ds) h none real =
    let causes = no_cause x.location (shared_cause scope c x.text None)
    (front_none (at x.location (shared_cause scope c x.text None)) _ none) in
    let fits = fitting c 1 h (second_none (bounds_cause None) _ (second_none (new_cause scope x.text) _ causes)) in
    let behind = back_none (at x.location (shared_cause scope c x.text None)) _ none in
    let more = laid (scope ++ (x.text, Cell e) ∷ []) (e + 1) u (c + 1) ds fits behind real.1.1.1 in
    record {
      entries = (record { is_name = real.1.0; are_bounds = tt }, more.entries);
      different = (
        later_new (scope ++ (x.text, Cell e) ∷ []) (e + 1) u (c + 1) ds x.text (has_last scope x.text (Cell e)) behind,
        more.different,
      );
      cells = (let f = more.cells in omega (arith, f));
    }
laid scope e u c (declare.Array x low high ∷ ds) h none real =
    let bounds = Some (low.value, high.value) in
    let causes = no_cause x.location (shared_cause scope c x.text bounds)
    (front_none (at x.location (shared_cause scope c x.text bounds)) _ none) in
    let rest = second_none (new_cause scope x.text) _ causes in
    let fits = fitting c (size bounds) h (second_none (bounds_cause bounds) _ rest) in
    let behind = back_none (at x.location (shared_cause scope c x.text bounds)) _ none in
    let more = laid (scope ++ (x.text, Array e) ∷ []) (e + 1) u (c + size bounds) ds fits behind real.1.1.1.1.1.1.1.1 in
    let lower : IsNumber low.value = real.1.1.1.0 in
    let upper : IsNumber high.value = real.1.1.1.1.1.0 in
    record {
      entries = (
        record {
          is_name = real.1.0;
          are_bounds = (
            lower.no_sign,
            ordered low.value high.value (first_none (bounds_cause bounds) _ rest),
            upper.bounded,
          );
        },
        more.entries,
      );
      different = (
        later_new (scope ++ (x.text, Array e) ∷ []) (e + 1) u (c + size bounds) ds x.text
            (has_last scope x.text (Array e)) behind,
        more.different,
      );
      cells = (let f = more.cells in omega (arith, f));
    }
laid scope e u c (declare.Uniform x ∷ ds) h none real =
    let more = laid (scope ++ (x.text, Uniform u) ∷ []) e (u + 1) c ds h
    (back_none (at x.location (new_cause scope x.text)) _ none) real.1.1.1 in
    record { entries = more.entries; different = more.different; cells = more.cells }

few_declared : (ds : List Declaration) → length (shared_entries ds) + uniform_count ds ≤ length (declarations_tokens ds)
few_declared [] = omega arith
few_declared (declare.Cell x ∷ ds) = let h = few_declared ds in omega (arith, h)
few_declared (declare.Array x low high ∷ ds) = let h = few_declared ds in omega (arith, h)
few_declared (declare.Uniform x ∷ ds) = let h = few_declared ds in omega (arith, h)

-- ---- programs

few_procs : (n : ℕ) (z : ℤ) → pos n ≡ z → procs_cause z ≡ None → (1 ≤ n) × (n ≤ most_procs)
few_procs n z is none = by (int_lt z (pos 1) || int_lt (pos most_procs) z) refl
  where
    by : (b : Bool) → (int_lt z (pos 1) || int_lt (pos most_procs) z) ≡ b → (1 ≤ n) × (n ≤ most_procs)
    by true e = absurd (cc (none, ap (λ z. if z then Some (cause.Limit limits.Procs) else None) e))
    by false e = (grind (arith, ints, e, is), grind (arith, ints, e, is))

abbrev many : Bool → List Breach
many z = if z then record { spot = TextEnd; cause = cause.Limit limits.Tokens } ∷ [] else []

few_tokens : (count : ℕ) → token_breaches count ≡ [] → count ≤ most_tokens
few_tokens count none = by (nat_lt most_tokens count) refl
  where
    by : (b : Bool) → nat_lt most_tokens count ≡ b → count ≤ most_tokens
    by true e = absurd (cc (none, ap many e))
    by false e = grind (arith, nat_tests, e)

pub bounded : (p : Checked) → IsTree limit limit p.tree → IsAccepted p.tree → IsResolved p → IsBounded p
bounded p stands is_accepted resolved =
    let t = p.tree in
    let accepted : breaches t ≡ [] = (nothing_told t).1 is_accepted in
    let procs = at t.procs.location (procs_cause t.procs.value) in
    let declared = declaration_breaches [] 0 0 0 t.declarations in
    let body = block_breaches t.body (body_context t.declarations) in
    let behind = back_none procs _ accepted in
    let rest = back_none declared _ behind in
    let declared_real : AreReal (declarations_tokens t.declarations ++
    (token.Mark mark.Begin ∷ (block_tokens t.body ++ token.Mark mark.End ∷ []))) = stands.are_real.1.1.1.1.1.1 in
    let end = token.Mark mark.End ∷ [] in
    let tail = token.Mark mark.Begin ∷ (block_tokens t.body ++ end) in
    let body_real = front_real (block_tokens t.body) end (back_real (declarations_tokens t.declarations) tail declared_real).1 in
    let l = laid [] 0 0 0 t.declarations (omega arith) (front_none declared _ behind)
    (front_real (declarations_tokens t.declarations) tail declared_real) in
    let there = declared_there p.layout p.uniforms [] 0 t.declarations resolved.layout (let u = resolved.uniforms in omega (arith, u)) in
    let w = statements_within p.layout p.uniforms (globals t.declarations) there [] t.body p.body resolved.body
    (front_none body _ rest) body_real in
    let n = few_procs p.procs t.procs.value resolved.procs (no_cause t.procs.location (procs_cause t.procs.value)
    (front_none procs _ accepted)) in
    record {
      some_procs = n.0;
      few_procs = n.1;
      layout = subst IsLayout (sym resolved.layout) (record {
        entries = l.entries;
        different = l.different;
        cells =
            (let f = l.cells in omega (arith, f));
      });
      body = w.within;
      depth = (let e = w.deep in let f = depth_within limit limit t.body stands.is_block in omega (arith, e, f));
      small = (
          let d = few_declared t.declarations in
          let e = ap length resolved.layout in
          let f = resolved.uniforms in
          let g = w.small in
          let h = length-append (declarations_tokens t.declarations) tail in
          let i = length-append (block_tokens t.body) end in
          omega (arith, d, e, f, g, h, i)
          );
      few_tokens = few_tokens (length (program_tokens t)) (back_none body _ rest);
    }
