-- One declaration, and those behind it.
use Rattle.std.proofs.Common.{◌≡◌, ◌+◌, ◌<◌, ◌≤◌, ℕ, List, [], ◌∷◌, ◌++◌, Some, None, refl, sym, ap, ◌∙◌, arith, append_assoc, length}
use Rattle.std.proofs.Common.{length-append, get_or, drop}
use Rattle.std.proofs.lemmas.List.{append-nil, drop_more}
use Rattle.pram_trees.specs.declared.tree.Declaration.{Declaration}
use Rattle.pram_trees.specs.declared.tree.Declaration.TheVariants as declare
use Rattle.pram_model.specs.Layout.{SharedEntry, size, total_size}
use Rattle.pram_names.specs.declared.scope.Meaning.TheVariants.{Uniform, Cell, Array}
use Rattle.pram_names.specs.Scope.{Scope, declared_from, shared_entries, uniform_count}
use Rattle.pram_names.specs.Breaches.{at, shared_cause, new_cause, declaration_breaches, first}
use Rattle.pram_names.proofs.Judging.{Leads, first_front, first_behind}

pub total_append : (xs ys : List SharedEntry) → total_size (xs ++ ys) ≡ total_size xs + total_size ys
total_append [] ys = omega arith
total_append (x ∷ xs) ys = let r = total_append xs ys in omega (arith, r)

-- how many shared declarations and uniform variables one declaration is
abbrev pub one_entry : Declaration → ℕ
one_entry d = length (shared_entries (d ∷ []))

abbrev pub one_uniform : Declaration → ℕ
one_uniform d = uniform_count (d ∷ [])

pub declared_cons : (e u : ℕ) (d : Declaration) (ds : List Declaration) →
    declared_from e u (d ∷ ds) ≡ declared_from e u (d ∷ []) ++ declared_from (e + one_entry d) (u + one_uniform d) ds
declared_cons e u (declare.Cell x) ds = ap (λ k. (x.text, Cell e) ∷ declared_from (e + 1) k ds) (omega arith)
declared_cons e u (declare.Array x low high) ds = ap (λ k. (x.text, Array e) ∷ declared_from (e + 1) k ds) (omega arith)
declared_cons e u (declare.Uniform x) ds = ap (λ k. (x.text, Uniform u) ∷ declared_from k (u + 1) ds) (omega arith)

pub entries_cons : (d : Declaration) (ds : List Declaration) → shared_entries (d ∷ ds) ≡ shared_entries (d ∷ []) ++ shared_entries ds
entries_cons (declare.Cell x) ds = refl
entries_cons (declare.Array x low high) ds = refl
entries_cons (declare.Uniform x) ds = refl

pub uniforms_cons : (d : Declaration) (ds : List Declaration) → uniform_count (d ∷ ds) ≡ one_uniform d + uniform_count ds
uniforms_cons (declare.Cell x) ds = omega arith
uniforms_cons (declare.Array x low high) ds = omega arith
uniforms_cons (declare.Uniform x) ds = refl

pub few_uniforms : (d : Declaration) → one_uniform d ≤ 1
few_uniforms (declare.Cell x) = omega arith
few_uniforms (declare.Array x low high) = omega arith
few_uniforms (declare.Uniform x) = omega arith

pub breaches_cons : (s : Scope) (e u t : ℕ) (d : Declaration) (ds : List Declaration) → declaration_breaches s e u t (d ∷ ds)
    ≡ declaration_breaches s e u t (d ∷ [])
    ++ declaration_breaches (s ++ declared_from e u (d ∷ [])) (e + one_entry d) (u + one_uniform d)
    (t + total_size (shared_entries (d ∷ []))) ds
breaches_cons s e u t (declare.Cell x) ds =
    let here = at x.location (shared_cause s t x.text None) in
    ap (λ k. here ++ declaration_breaches (s ++ (x.text, Cell e) ∷ []) (e + 1) k (t + 1) ds) (omega arith)
    ∙ ap (λ l. l ++ declaration_breaches (s ++ (x.text, Cell e) ∷ []) (e + 1) (u + 0) (t + 1) ds) (sym (append-nil here))
breaches_cons s e u t (declare.Array x low high) ds =
    let here = at x.location (shared_cause s t x.text (Some (low.value, high.value))) in
    let more = size (Some (low.value, high.value)) in
    ap (λ k. here ++ declaration_breaches (s ++ (x.text, Array e) ∷ []) (e + 1) k (t + more) ds) (omega arith)
    ∙ (ap (λ k. here ++ declaration_breaches (s ++ (x.text, Array e) ∷ []) (e + 1) (u + 0) k ds) (omega arith)
    ∙ ap (λ l. l ++ declaration_breaches (s ++ (x.text, Array e) ∷ []) (e + 1) (u + 0) (t + (more + 0)) ds) (sym (append-nil here)))
breaches_cons s e u t (declare.Uniform x) ds =
    let here = at x.location (new_cause s x.text) in
    ap (λ k. here ++ declaration_breaches (s ++ (x.text, Uniform u) ∷ []) k (u + 1) t ds) (omega arith)
    ∙ (ap (λ k. here ++ declaration_breaches (s ++ (x.text, Uniform u) ∷ []) (e + 0) (u + 1) k ds) (omega arith)
    ∙ ap (λ l. l ++ declaration_breaches (s ++ (x.text, Uniform u) ∷ []) (e + 0) (u + 1) (t + 0) ds) (sym (append-nil here)))

-- one step of the walk over declarations
module _ (s s2 : Scope) (es es2 : List SharedEntry) (u u2 : ℕ) (d : Declaration) (ds : List Declaration)
    (scope : s2 ≡ s ++ declared_from (length es) u (d ∷ [])) (entries : es2 ≡ es
    ++ shared_entries (d ∷ [])) (uniforms : u2 ≡ u + one_uniform d) where
  longer : length es + one_entry d ≡ length es2
  longer = sym (ap length entries ∙ length-append es (shared_entries (d ∷ [])))

  wider : total_size es + total_size (shared_entries (d ∷ [])) ≡ total_size es2
  wider = sym (ap total_size entries ∙ total_append es (shared_entries (d ∷ [])))

  pub step_scope : s ++ declared_from (length es) u (d ∷ ds) ≡ s2 ++ declared_from (length es2) u2 ds
  step_scope =
      ap (λ l. s ++ l) (declared_cons (length es) u d ds)
      ∙ (sym (append_assoc s (declared_from (length es) u (d ∷ [])) (declared_from (length es + one_entry d) (u + one_uniform d) ds))
      ∙ (ap (λ l. l ++ declared_from (length es + one_entry d) (u + one_uniform d) ds) (sym scope)
      ∙ (ap (λ k. s2 ++ declared_from k (u + one_uniform d) ds) longer ∙ ap (λ k. s2 ++ declared_from (length es2) k ds) (sym uniforms))))

  pub step_entries : es ++ shared_entries (d ∷ ds) ≡ es2 ++ shared_entries ds
  step_entries =
      ap (λ l. es ++ l) (entries_cons d ds) ∙ (sym (append_assoc es (shared_entries (d ∷ [])) (shared_entries ds))
      ∙ ap (λ l. l ++ shared_entries ds) (sym entries))

  pub step_uniforms : u + uniform_count (d ∷ ds) ≡ u2 + uniform_count ds
  step_uniforms = let c = uniforms_cons d ds in omega (arith, c, uniforms)

  split : declaration_breaches s (length es) u (total_size es) (d ∷ ds)
      ≡ declaration_breaches s (length es) u (total_size es) (d ∷ []) ++ declaration_breaches s2 (length es2) u2 (total_size es2) ds
  split =
      let here = declaration_breaches s (length es) u (total_size es) (d ∷ []) in
      breaches_cons s (length es) u (total_size es) d ds
      ∙ (ap (λ z. here ++ declaration_breaches z (length es + one_entry d) (u + one_uniform d)
      (total_size es + total_size (shared_entries (d ∷ []))) ds) (sym scope)
      ∙ (ap (λ k. here ++ declaration_breaches s2 k (u + one_uniform d) (total_size es + total_size (shared_entries (d ∷ []))) ds) longer
      ∙ (ap (λ k. here ++ declaration_breaches s2 (length es2) k (total_size es + total_size (shared_entries (d ∷ []))) ds) (sym uniforms)
      ∙ ap (λ k. here ++ declaration_breaches s2 (length es2) u2 k ds) wider)))

  pub step_first : first (declaration_breaches s (length es) u (total_size es) (d ∷ [])) ≡ None →
      first (declaration_breaches s (length es) u (total_size es) (d ∷ ds)) ≡ first
      (declaration_breaches s2 (length es2) u2 (total_size es2) ds)
  step_first none = ap first split ∙ first_behind _ _ none

pub leads_declaration : (s : Scope) (e u t : ℕ) (d : Declaration) (ds : List Declaration) → Leads (declaration_breaches s e u t (d ∷ []))
    (declaration_breaches s e u t (d ∷ ds))
leads_declaration s e u t d ds b h = ap first (breaches_cons s e u t d ds) ∙ first_front _ _ b h

-- the declarations from one of them on
pub rest_is : (ds : List Declaration) (i : ℕ) (d : Declaration) → i < length ds → d ≡ get_or ds i d → drop i ds ≡ d ∷ drop (i + 1) ds
rest_is ds i d below is = drop_more ds i d below ∙ ap (λ y. y ∷ drop (i + 1) ds) (sym is)
