-- A run crosses threads, since words do. A deed crosses where its allocator's tokens do.
use Rattle.std.proofs.Common.{◌-◌, ◌*◌, length}
use base.Fraction.{full_share}
use base.Shift.{Keyless}
use mir.Syntax.{Ty}
use denote.Array.{Array}
use denote.Builtin.{u64}
use denote.Exit.{Exit, unchanged, leaves, hidden, under}
use denote.Param.Send.{IsSend, IsSync, Quiet, AllSend, part_keyless, owning_send, struct_send, struct_sync, array_send, array_sync}
use denote.Param.Send.{sendable, Frees}
use denote.RattleType.{RattleType}
use denote.RawPtr.{Ptr, block_ptr, null_ptr, block_of, count_of, lies_at, room_for, in_block, ◌+ₚ◌}
use denote.Struct.Owning.{shape, fields, to}
use denote.Struct.Struct.{exits_of}
use base.Fml.{ftrue}
use Rattle.std.specs.declared.alloc.Allocator.{Ghosts}
use Rattle.exchange_arena.specs.Ownership.{words}
use Rattle.exchange_arena.specs.contracts.run.Run as run
use Rattle.exchange_arena.specs.contracts.deed.Deed as deed

quiet : {D X : Type 0} (f : D → X) (e : Exit X) → Quiet e → Quiet (hidden (under f e))
quiet f unchanged q = λ x w. tt
quiet f (leaves L l S s r₀) q = λ d. q (f d)

lies : (R : RattleType) → IsSend R → (p : Ptr) (x : R.Denot) → Keyless (lies_at R full_share p x)
lies R s (block_ptr b o) x = part_keyless R s full_share x b o
lies R s null_ptr x = tt

room : (τ : Ty) (p : Ptr) → Keyless (room_for τ p)
room τ (block_ptr b o) = tt
room τ null_ptr = tt

inside : (p : Ptr) → Keyless (in_block p ftrue)
inside (block_ptr b o) = tt
inside null_ptr = tt

word-send : IsSend u64
word-send = search sendable

word-sync : IsSync u64
word-sync = search sendable

pub Run-send : IsSend run.the_row
Run-send =
    let O = run.the_type in let all : AllSend (fields O) = (search sendable, tt) in owning_send O all
    (λ d. (
      lies (Array u64 (length d.items)) (array_send u64 (length d.items) word-send) d.ptr d.items,
      room (words (d.room - length d.items)) (d.ptr +ₚ (length d.items * 8)),
    ))
    (λ k. quiet (to O) (exits_of k (fields O)) ((struct_send (shape O) all).leaving k))

pub Run-sync : IsSync run.the_row
Run-sync =
    let O = run.the_type in record {
      shared = λ d b o κ. (
        (struct_sync (shape O) (search sendable, tt)).shared (to O d) b o κ,
        (inside d.ptr, (array_sync u64 (length d.items) word-sync).shared d.items (block_of d.ptr) (count_of d.ptr) κ),
      );
    }

module _ (A : RattleType) (g : Ghosts A.Denot) where
  pub Deed-send : Frees g g.dealloc_token → IsSend (deed.the_row A g)
  Deed-send f =
      let O = deed.the_type A g in let all : AllSend (fields O) = (search sendable, tt) in
      owning_send O all (λ d. f.frees d.alloc (words d.len) d.base)
      (λ k. quiet (to O) (exits_of k (fields O)) ((struct_send (shape O) all).leaving k))

  pub Deed-sync : IsSync (deed.the_row A g)
  Deed-sync = let O = deed.the_type A g in
      record { shared = λ d b o κ. ((struct_sync (shape O) (search sendable, tt)).shared (to O d) b o κ, tt) }
