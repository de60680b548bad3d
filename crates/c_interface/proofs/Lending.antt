-- The room of a workspace is room for a table too. A call makes a table there, lends it, and leaves
-- room for a workspace again. The walks of these calls cite what this file passes on.
pub use Rattle.std.proofs.Common.{◌≡◌, ℕ, ◌<◌, List, [], ◌∷◌, length, refl, w32, MutBor}
pub use Rattle.std.proofs.raw_atomic.Walks.{proved}
pub use base.Fraction.{full_share}
pub use base.Logic.{id⊢}
pub use base.Fml.{ftrue, flft, flent, froom}
pub use mir.Syntax.{named}
pub use mir.Val.{vptr}
pub use prog.Wp.{WpFn}
pub use contract.Monad.{fact}
pub use contract.Running.{tables}
pub use types.Kit.{‵, raw, ◌⊛◌, some, later, prop, ◌$◌, ◌∵◌, !, qed, done, move, drop, use1, use2, use3, split, join, fsplit, fjoin, feq_l, pick, await, regoal, suffices, frame, group}
pub use types.Run.{enter, of_opd, addr, init, stop, fld, hop, from, no_more, and_then, assigns, returns}
pub use types.ByLocal.{alloc_all, pass_all, free_all, look_at, look_in_at, get, get_in, through, sets, lands_as}
pub use types.Part.{whole, sub, agg}
pub use types.SemTy.{Body}
pub use types.Tokens.{lft_new, lft_end}
pub use denote.Builtin.{u8, u32, u64}
pub use denote.Exit.{yes}
pub use denote.Laws.{Is, shows}
pub use denote.Lend.{lends_ref}
pub use denote.Memory.{mem, part_at}
pub use denote.Plain.{uint_Lawful}
pub use denote.RawPtr.{Ptr, RawPtr, block_ptr, ptr_val, room_at, in_a_block, rawptr_vals, rawptr_Tells}
pub use denote.Ref.{MutRef, mut_vals, mut_Tells}
pub use denote.Signature.{plain, shr_slice_of}
pub use denote.Slice.{MutSlice, ShrSlice, slice_val, mut_slice_vals, mut_slice_Tells, shr_slice_vals, shr_slice_Tells}
pub use denote.Steps.{nothing, heard, peeks}
pub use denote.Triple.Call.{calls_at}
pub use denote.Triple.Clauses.{ensured, lasts}
pub use denote.Triple.Spec.{triple_of}
pub use denote.Triple.Table.{framed}
pub use denote.Triple.Walked.{Stays, says, walk_of, ends_at, stay_dropped, gave_ref, gave_slice, Goes-dropped, Goes-gave_ref, Goes-gave_slice}
pub use borrow.Table.OneValue.{part_in}
pub use Rattle.reports.specs.contracts.table.Table.{the_row as table}
pub use Rattle.reports.proofs.table.Table.TheLaws.{the_row_laws as table_laws}
pub use Rattle.c_interface.specs.contracts.workspace.Workspace.{the_row as workspace}
use seplogic.Ra.Ura.{Ura}
use base.Logic.{SProp, ent, sep, wand, apply∗}
use base.Fml.{Lft, GName, fat, fdead}
use mir.Syntax.{Ty}
use mir.Val.{Val}
use types.Kit.{fpick, updating, now as at_once}
use types.Logic.{Logic}
use types.Tokens.{lent_back}
use denote.Memory.{lone}
use borrow.Table.OneValue.{part_out}

abbrev pub τ : Ty
τ = lone table.mir

abbrev pub ω : Ty
ω = lone workspace.mir

module _ {M : Type 1} {𝓤 : Ura M} (𝓛 : Logic 𝓤) (b o : ℕ) where
  open 𝓛 use {H, A}

  -- What makes the room of a table the room of a workspace again.
  abbrev pub Back : SProp 𝓤
  Back = wand 𝓤 (H.room τ b o) (H.room ω b o)

  -- A workspace has the size of a table, and its alignment serves a table.
  pub opened : ent 𝓤 (H.room ω b o) (sep 𝓤 (H.room τ b o) Back)
  opened = 𝓛.laws.room_as ω τ b o refl tt

  -- The loan of the table has ended. Whatever table lies there is given up.
  pub closed : (κ : Lft) (δ : GName)
      → ent 𝓤 (sep 𝓤 (A.dead κ) (sep 𝓤 (A.lent κ (Body (mem table) b o δ)) Back)) (H.⇛ (H.room ω b o))
  closed κ δ =
      qed 𝓛 (‵ (fdead κ) ∷ ‵ (flent κ (Body (mem table) b o δ)) ∷ raw Back ∷ []) ∵ updating ! $
      lent_back ! tt $ fpick ! (λ last. fsplit ! $
      use1 𝓛 (some (λ (v : Val). ‵ (fat full_share τ b o v) ⊛ ‵ (table.own_val last (v ∷ []))))
      (part_out 𝓛 table refl full_share last b o) $ pick ! (λ v. split ! $
      use1 𝓛 (‵ (froom τ b o)) (𝓛.laws.at_room τ b o v) $ move ! (1 ∷ 2 ∷ []) $ drop ! $ drop ! $
      use2 𝓛 (‵ (froom ω b o)) (apply∗ 𝓤 (H.room τ b o) (H.room ω b o)) $ at_once ! $ done !))
