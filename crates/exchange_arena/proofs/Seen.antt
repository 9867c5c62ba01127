-- What a `&` to a run shows of its pointer. Assumes `Logic`.
use Rattle.std.proofs.Common.{ℕ, ◌+◌, [], ◌∷◌}
use seplogic.Ra.Ura.{Ura}
use base.Logic.{ent, sep}
use base.Fml.{Lft, Fml}
use types.Logic.{Logic, sem}
use types.Kit.{‵, ◌$◌, ◌∵◌, !, qed, keep, fsplit, done}
use denote.RattleType.{RattleType, RowLaws}
use denote.Memory.{hidden_shr}
use denote.Opens.{shr_dup, unhide, hide}
use denote.RawPtr.{Ptr, RawPtr, ptr_row_laws}
use denote.Struct.Struct.{Struct, Struct-row_laws}
use denote.Struct.Owning.{shape}
use Rattle.exchange_arena.specs.contracts.run.Run as run

abbrev pub Data : RattleType
Data = Struct (shape run.the_type)

module _ {M : Type 1} {𝓤 : Ura M} (𝓛 : Logic 𝓤) (κ : Lft) (b o : ℕ) (p : Ptr) where
  abbrev pub S : Fml
  S = hidden_shr Data κ (p, tt) b o

  laws : RowLaws Data
  laws = Struct-row_laws (shape run.the_type) (ptr_row_laws, tt)

  pub shows_ptr : ent 𝓤 (sem 𝓛 S) (sep 𝓤 (sem 𝓛 (hidden_shr RawPtr κ p b (o + 0))) (sem 𝓛 S))
  shows_ptr = qed 𝓛 (‵ S ∷ []) ∵ shr_dup ! Data laws (p, tt) b o κ $ unhide ! $ fsplit ! $ fsplit ! $ hide ! $ keep ! (0 ∷ 3 ∷ []) $ done !
