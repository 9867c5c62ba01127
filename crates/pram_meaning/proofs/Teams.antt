-- A team and its numbers, on their way.
use Rattle.std.proofs.Common.{◌≡◌, ℕ, ℤ, pos, ◌+ℤ◌, List, [], ◌∷◌, ◌++◌, map, zero, suc, ◌+◌, ◌-◌, ◌<◌, ◌≤◌, refl, ap, sym, ◌∙◌}
use Rattle.std.proofs.Common.{append_assoc, append-nil, replicate, arith}
use Rattle.std.proofs.lemmas.Int.{ints}
use Rattle.pram_meaning.specs.declared.team as team_member
use Rattle.pram_meaning.specs.Sets.{member_is}
use Rattle.pram_meaning.specs.Store.{members, numbers}

pub record InNumbers (count v : ℕ) (now : List ℕ) : Type 0 where
  pub same : numbers 0 count ≡ now ++ numbers v (count - v)

pub numbers_start : (count : ℕ) (now : List ℕ) → now ≡ [] → InNumbers count 0 now
numbers_start count now e = record { same = ap (numbers 0) (omega arith) ∙ ap (λ k. k ++ numbers 0 (count - 0)) (sym e) }

pub numbers_go : (count v : ℕ) (now new : List ℕ) → InNumbers count v now → v < count → new ≡ now ++ v ∷ [] → InNumbers count (v + 1) new
numbers_go count v now new b h e = record {
  same = b.same
      ∙ ap (λ k. now ++ numbers v k) (let k : count - v ≡ suc (count - (v + 1)) = omega arith in k)
      ∙ sym (append_assoc now (v ∷ []) (numbers (v + 1) (count - (v + 1))))
      ∙ ap (λ k. k ++ numbers (v + 1) (count - (v + 1))) (sym e);
}

pub numbers_end : (count v : ℕ) (now : List ℕ) → InNumbers count v now → count ≤ v → now ≡ numbers 0 count
numbers_end count v now b h = sym (b.same ∙ ap (λ k. now ++ numbers v k) (let k : count - v ≡ zero = omega arith in k) ∙ append-nil now)

map_push : (now : List team_member.Member.Member) (x : team_member.Member.Member) → map member_is (now ++ x ∷ []) ≡ map member_is now
    ++ member_is x ∷ []
map_push [] x = refl
map_push (y ∷ now) x = ap (λ r. member_is y ∷ r) (map_push now x)

pub record InTeam (low : ℤ) (count locals j : ℕ) (now : List team_member.Member.Member) : Type 0 where
  pub same : members low count locals ≡ map member_is now ++ members (low +ℤ pos j) (count - j) locals

pub team_start : (low : ℤ) (count locals : ℕ) (now : List team_member.Member.Member) → now ≡ [] → InTeam low count locals 0 now
team_start low count locals now e = record {
  same = ap (λ a. members a count locals) (let a : low ≡ low +ℤ pos 0 = omega (arith, ints) in a)
      ∙ ap (λ k. members (low +ℤ pos 0) k locals) (let k : count ≡ count - 0 = omega arith in k)
      ∙ ap (λ k. map member_is k ++ members (low +ℤ pos 0) (count - 0) locals) (sym e);
}

pub team_go : (low : ℤ) (count locals j : ℕ) (now new : List team_member.Member.Member) (g : team_member.Member.Member) →
    InTeam low count locals j now → j < count → g.index ≡ low +ℤ pos j → g.locals.items ≡ replicate locals (pos 0) → new ≡ now ++ g ∷ [] →
    InTeam low count locals (j + 1) new
team_go low count locals j now new g b h i l e = record {
  same = b.same
      ∙ ap (λ k. map member_is now ++ members (low +ℤ pos j) k locals) (let k : count - j ≡ suc (count - (j + 1)) = omega arith in k)
      ∙ ap (λ a. map member_is now ++ (record { index = low +ℤ pos j; locals = replicate locals (pos 0) }
      ∷ members a (count - (j + 1)) locals)) (let a : (low +ℤ pos j) +ℤ pos 1 ≡ low +ℤ pos (j + 1) = omega (arith, ints) in a)
      ∙ (λ t. map member_is now ++ (record { index = sym i t; locals = sym l t } ∷ members (low +ℤ pos (j + 1)) (count - (j + 1)) locals))
      ∙ sym (append_assoc (map member_is now) (member_is g ∷ []) (members (low +ℤ pos (j + 1)) (count - (j + 1)) locals))
      ∙ ap (λ k. k ++ members (low +ℤ pos (j + 1)) (count - (j + 1)) locals) (sym (map_push now g))
      ∙ ap (λ k. map member_is k ++ members (low +ℤ pos (j + 1)) (count - (j + 1)) locals) (sym e);
}

pub team_end : (low : ℤ) (count locals j : ℕ) (now : List team_member.Member.Member) → InTeam low count locals j now → count ≤ j →
    map member_is now ≡ members low count locals
team_end low count locals j now b h =
    sym (b.same ∙ ap (λ k. map member_is now ++ members (low +ℤ pos j) k locals) (let k : count - j ≡ zero = omega arith in k)
    ∙ append-nil (map member_is now))
