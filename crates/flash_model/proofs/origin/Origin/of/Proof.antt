-- `of` makes the empty struct, whose ghost field holds the borrowed bytes. Assumes `Logic`.
use Rattle.std.proofs.Common.{List, [], ◌∷◌, refl}
use Rattle.std.proofs.raw_atomic.Walks.{proved}
use base.Fml.{ftrue, flft}
use mir.Syntax.{named}
use mir.Val.{Val, vstruct, vnil}
use types.Kit.{‵, ◌⊛◌, ◌$◌, ◌∵◌, !, qed, done, move, keep, split, join, fjoin, fpack, feq_i, suffices}
use types.Part.{agg}
use types.Run.{enter, returns, no_more}
use types.ByLocal.{alloc_all, pass_all, free_all, look_at, sets}
use denote.Builtin.{SliceRefOf, u8}
use denote.Exit.{yes}
use denote.RattleType.{Valss}
use denote.Slice.{ShrSlice, shr_slice_vals, shr_slice_Tells}
use denote.Signature.{plain}
use denote.Steps.{nothing}
use denote.Struct.Struct.{within}
use denote.Triple.Walked.{Goes-dropped, Stays, ends_at, says, stay_dropped, walk_of}
use Rattle.flash_model.specs.contracts.origin.Origin.of as f
use Rattle.flash_model.specs.contracts.origin.Origin.{the_row as R}
use Rattle.flash_model.proofs.origin.Origin.of.Statement.{statement}
use Rattle.flash_model.proofs.origin.Origin.of.Code as code

abbrev none : Val
none = vstruct vnil

abbrev stayed : Stays f.ended.signature.params f.ended.kept
stayed = (stay_dropped (SliceRefOf (0 ∷ []) tt (plain (λ _. u8)) (λ _. tt)) yes, tt)

pub of_spec : {M : Type 1} → statement M
of_spec 𝓤 𝓛 𝓜 𝓡 wired =
    let c = f.clauses 𝓛 𝓜.mem 𝓡.returns in let W = walk_of 𝓛 f.ended stayed c in
    proved 𝓛 f.ended stayed c 𝓜 𝓡
    (Goes-dropped 𝓛 1 (SliceRefOf (0 ∷ []) tt (plain (λ _. u8)) (λ _. tt)) yes (λ κs x w. refl), tt)
    f.Key.name code.function (code.unfolded 𝓤 𝓛.H 𝓜 𝓡 wired)
    (λ κs. (shr_slice_vals, tt)) (λ κs. (shr_slice_Tells (named 0) κs.0 u8, tt)) (λ κs qs bounds a n are.
    let y : W.Ghost = ((κs, qs, bounds, a, (shr_slice_vals a.0, tt)), n) in
    let made : R.Denot = record { first = a.0.now } in
    qed 𝓛 (((‵ (flft κs.0 qs.0) ⊛ ‵ ftrue) ⊛ ‵ ((ShrSlice (named 0) κs.0 u8).own_val a.0 (shr_slice_vals a.0)) ⊛ ‵ ftrue) ∷ ‵ ftrue ∷ []) ∵
    split ! $ split ! $ keep ! (0 ∷ []) $
    enter ! _ _ _ _ _ $ alloc_all ! (λ l. pass_all ! refl ((tt, (tt, (record { fits = are.0.0.1.0 }, tt))), tt) $
    sets ! (agg ! (no_more !)) refl (tt, tt) $
    nothing ! $ feq_i ! (List Val) (none ∷ []) (none ∷ []) refl $ fjoin ! $
    fpack ! (Valss []) (within (record { name = []; args = []; types = []; fields = [] }) tt (none ∷ [])) tt $
    nothing ! $ move ! (1 ∷ 0 ∷ []) $ fjoin ! $
    returns ! (look_at ! 0 refl) $ free_all ! refl $
    suffices ! _ (ends_at 𝓛 f.ended stayed c y none made (tt, tt) (tt, tt)) $ says ! refl $
    nothing ! $ nothing ! $ fjoin ! $ nothing ! $ move ! (3 ∷ 0 ∷ []) $ join ! $ done !))
